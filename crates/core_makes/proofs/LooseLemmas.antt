-- Chains that hang on nothing: how they are made, what keeps them, and how a key gets one.
use Rattle.core_records.proofs.Core.{[], ap, bare, ChainOf, Filing, filings, inl, inr, is_of_instance, IsIndex, IsIndex-rechained, IsRows, IsKeyed, IsSome, IsSoundCore, List, list_of, new_for_chains, no_chain, None, Option, part, parts_of, place_chain, place_filing, ready_call, ready_call_chain, ready_work, ready_work_chain, refl, Renames, row, same_Some, instance_queue_chain, Some, Spot, spot_list, subst, sym, Unmade, ℕ, ◌∙◌, ◌≡◌, ◌⊎◌}
use Rattle.core_records.specs.declared.{parts.CoreParts.CoreParts, set_records.WaitSet.WaitSet}
use Rattle.core_makes.specs.Loose.{AreLoose, AreSetLoose, IsLoose}

no_list : {P X : Type 0} (o : Option (List (ℕ × P))) → o ≡ None → o ≡ Some [] → X
no_list None none empty = absurd (cc)
no_list (Some l) none empty = absurd (cc)

module _ {K P : Type 0} (chain : K → Option ℕ) where
  -- ---- A chain is made

  pub loose_index : (links new : List (Spot P)) (filing : ℕ → Option (Filing K P)) → IsIndex chain links filing → (c : ℕ) → Renames links new c Unmade (ChainOf []) → IsLoose chain new c
  loose_index links new filing index c names = record { empty = ap spot_list names.names; apart = new_for_chains chain links filing index new c (ChainOf []) names }

  pub loose_row : (node : P → ℕ) (Known : P → Type 0) (links new : List (Spot P)) (list : K → List P) → IsRows chain node Known links list → (c : ℕ) → Renames links new c Unmade (ChainOf []) → IsLoose chain new c
  loose_row node Known links new list rows c names = record { empty = ap spot_list names.names; apart = no_chain chain node Known links list rows c (ap spot_list names.named) }

  module _ (links new : List (Spot P)) (c d : ℕ) (loose : IsLoose chain links c) (is : Spot P) (names : Renames links new d Unmade is) where
    -- what is made next is another one
    pub next_other : c ≡ d → ⊥
    next_other same = no_list (list_of links c) (ap (list_of links) same ∙ ap spot_list names.named) loose.empty

    pub loose_kept : IsLoose chain new c
    loose_kept = record { empty = ap spot_list (names.others c next_other) ∙ loose.empty; apart = loose.apart }

  -- ---- A key without entries gets it

  module _ (chain' : K → Option ℕ) (links : List (Spot P)) (k : K) (decides : (j : K) → (j ≡ k) ⊎ (j ≡ k → ⊥)) (others : (j : K) → (j ≡ k → ⊥) → chain' j ≡ chain j) (c : ℕ) (has : chain' k ≡ Some c) (loose : IsLoose chain links c) where
    is_c : (j : K) (d : ℕ) → j ≡ k → chain' j ≡ Some d → d ≡ c
    is_c j d same at = same_Some d c (sym at ∙ ap chain' same ∙ has)

    pub IsIndex-opened : (filing : ℕ → Option (Filing K P)) → IsIndex chain links filing → ((r : ℕ) (f : Filing K P) → filing r ≡ Some f → f.key ≡ Some k → ⊥) → IsIndex chain' links filing
    IsIndex-opened filing index unfiled = IsIndex-rechained chain links filing index chain'
        (λ j d at. elim (decides j) [
          | inl same ↦ subst (λ e. IsSome (list_of links e)) (sym (is_c j d same at)) (subst IsSome (sym loose.empty) refl)
          | inr other ↦ index.live j d (sym (others j other) ∙ at)
        ])
        (λ i j d at_i at_j. elim (decides i) [
          | inl i_is ↦ elim (decides j) [
            | inl j_is ↦ i_is ∙ sym j_is
            | inr j_not ↦ absurd (loose.apart j (sym (others j j_not) ∙ at_j ∙ ap (λ (e : ℕ). Some e) (is_c i d i_is at_i)))
          ]
          | inr i_not ↦ elim (decides j) [
            | inl j_is ↦ absurd (loose.apart i (sym (others i i_not) ∙ at_i ∙ ap (λ (e : ℕ). Some e) (is_c j d j_is at_j)))
            | inr j_not ↦ index.own_chain i j d (sym (others i i_not) ∙ at_i) (sym (others j j_not) ∙ at_j)
          ]
        ])
        (λ r f j at key. others j (λ same. unfiled r f at (key ∙ ap (λ (i : K). Some i) same)))

-- ---- Those of an instance, made one after another

module _ (a b e c d : CoreParts) (h s i l : ℕ) (sound_a : IsSoundCore a) (sound_b : IsSoundCore b) (sound_e : IsSoundCore e) (sound_c : IsSoundCore c) (only_b : b ≡ record a { places = b.places }) (only_e : e ≡ record b { places = e.places }) (only_c : c ≡ record e { instance_queues = c.instance_queues }) (only_d : d ≡ record c { instance_queues = d.instance_queues }) (made_h : Renames a.places b.places h Unmade (ChainOf [])) (made_s : Renames b.places e.places s Unmade (ChainOf [])) (made_i : Renames e.instance_queues c.instance_queues i Unmade (ChainOf [])) (made_l : Renames c.instance_queues d.instance_queues l Unmade (ChainOf [])) where
  held_new : IsLoose (place_chain (bare (parts_of a))) b.places h
  unfolding IsSoundCore
  held_new = loose_index (place_chain (bare (parts_of a))) a.places b.places (filings (place_filing a.version) (bare (parts_of a)).threads) sound_a.whole.chained.places h made_h

  starts_new : IsLoose (place_chain (bare (parts_of b))) e.places s
  unfolding IsSoundCore
  starts_new = loose_index (place_chain (bare (parts_of b))) b.places e.places (filings (place_filing b.version) (bare (parts_of b)).threads) sound_b.whole.chained.places s made_s

  held_b : IsLoose (place_chain (bare (parts_of b))) b.places h
  held_b = subst (λ (x : CoreParts). IsLoose (place_chain (bare (parts_of x))) b.places h) (sym only_b) held_new

  held_e : IsLoose (place_chain (bare (parts_of b))) e.places h
  held_e = loose_kept (place_chain (bare (parts_of b))) b.places e.places h s held_b (ChainOf []) made_s

  abbrev IsPlaceChain : ℕ → CoreParts → Type 0
  IsPlaceChain n x = IsLoose (place_chain (bare (parts_of x))) e.places n

  abbrev IsHeldChain : ℕ → CoreParts → Type 0
  IsHeldChain n x = IsLoose (place_chain (bare (parts_of x))) x.places n

  place_last : (n : ℕ) → IsLoose (place_chain (bare (parts_of b))) e.places n → IsHeldChain n d
  place_last n loose = subst (IsHeldChain n) (sym only_d) (subst (IsHeldChain n) (sym only_c) (subst (IsPlaceChain n) (sym only_e) loose))

  high_new : IsLoose (instance_queue_chain (bare (parts_of e))) c.instance_queues i
  unfolding IsSoundCore
  high_new = let p = bare (parts_of e) in loose_row (instance_queue_chain p) (λ q. q.instance_queue.index) (IsKeyed p) e.instance_queues c.instance_queues (part is_of_instance (row p)) sound_e.whole.chained.instance_queues i made_i

  low_new : IsLoose (instance_queue_chain (bare (parts_of c))) d.instance_queues l
  unfolding IsSoundCore
  low_new = let p = bare (parts_of c) in loose_row (instance_queue_chain p) (λ q. q.instance_queue.index) (IsKeyed p) c.instance_queues d.instance_queues (part is_of_instance (row p)) sound_c.whole.chained.instance_queues l made_l

  abbrev IsInstanceQueueChain : ℕ → CoreParts → Type 0
  IsInstanceQueueChain n x = IsLoose (instance_queue_chain (bare (parts_of x))) d.instance_queues n

  pub made_loose : AreLoose (bare (parts_of d)) h s i l
  made_loose = record {
    held = place_last h held_e;
    starts = place_last s starts_new;
    apart = next_other (place_chain (bare (parts_of b))) b.places e.places h s held_b (ChainOf []) made_s;
    high = subst (IsInstanceQueueChain i) (sym only_d) (subst (IsInstanceQueueChain i) (sym only_c) (loose_kept (instance_queue_chain (bare (parts_of e))) c.instance_queues d.instance_queues i l high_new (ChainOf []) made_l));
    low = subst (IsInstanceQueueChain l) (sym only_d) low_new;
    two = next_other (instance_queue_chain (bare (parts_of e))) c.instance_queues d.instance_queues i l high_new (ChainOf []) made_l;
  }

-- ---- Those of a set, made one after another

module _ (a b c d : CoreParts) (x : WaitSet) (sound_a : IsSoundCore a) (sound_b : IsSoundCore b) (sound_c : IsSoundCore c) (only_b : b ≡ record a { places = b.places }) (only_c : c ≡ record b { ready_calls = c.ready_calls }) (only_d : d ≡ record c { ready_works = d.ready_works }) (made_w : Renames a.places b.places x.waiters Unmade (ChainOf [])) (made_c : Renames b.ready_calls c.ready_calls x.ready_calls Unmade (ChainOf [])) (made_d : Renames c.ready_works d.ready_works x.ready_works Unmade (ChainOf [])) where
  waiters_new : IsLoose (place_chain (bare (parts_of a))) b.places x.waiters
  unfolding IsSoundCore
  waiters_new = loose_index (place_chain (bare (parts_of a))) a.places b.places (filings (place_filing a.version) (bare (parts_of a)).threads) sound_a.whole.chained.places x.waiters made_w

  calls_new : IsLoose (ready_call_chain (bare (parts_of b))) c.ready_calls x.ready_calls
  unfolding IsSoundCore
  calls_new = loose_index (ready_call_chain (bare (parts_of b))) b.ready_calls c.ready_calls (filings ready_call (bare (parts_of b)).calls) sound_b.whole.chained.ready_calls x.ready_calls made_c

  works_new : IsLoose (ready_work_chain (bare (parts_of c))) d.ready_works x.ready_works
  unfolding IsSoundCore
  works_new = loose_index (ready_work_chain (bare (parts_of c))) c.ready_works d.ready_works (filings ready_work (bare (parts_of c)).works) sound_c.whole.chained.ready_works x.ready_works made_d

  abbrev HasWaiters : CoreParts → Type 0
  HasWaiters y = IsLoose (place_chain (bare (parts_of y))) y.places x.waiters

  abbrev HasCalls : CoreParts → Type 0
  HasCalls y = IsLoose (ready_call_chain (bare (parts_of y))) y.ready_calls x.ready_calls

  pub made_set_loose : AreSetLoose (bare (parts_of d)) x
  made_set_loose = record {
    waiters = subst HasWaiters (sym only_d) (subst HasWaiters (sym only_c) (subst (λ (y : CoreParts). IsLoose (place_chain (bare (parts_of y))) b.places x.waiters) (sym only_b) waiters_new));
    ready_calls = subst HasCalls (sym only_d) (subst (λ (y : CoreParts). IsLoose (ready_call_chain (bare (parts_of y))) c.ready_calls x.ready_calls) (sym only_c) calls_new);
    ready_works = subst (λ (y : CoreParts). IsLoose (ready_work_chain (bare (parts_of y))) d.ready_works x.ready_works) (sym only_d) works_new;
  }
