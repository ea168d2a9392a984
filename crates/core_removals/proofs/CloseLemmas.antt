-- A chain is emptied node by node and dropped, or a node is.
use Rattle.core_records.proofs.Core.{[], ap, arith, Bool, cases_eq, ChainOf, ChangesOnly, ChangesOnly-unlinked, cond, entries, eq-eqb, false, first_link, first_made, free_unlinked, FreeNode, head_of, In, inl, inr, is_free, is_made, IsLinks, IsSome, length, link_of, LinkedNode, List, list_of, list_or_nil, made_free, ne_eqb, None, Option, Refiles, Refiles-changed, refl, removed, removed_by, Renames, same_Some, Some, Spot, spot_at, spot_is_free, spot_is_made, spot_link, spot_list, subst, sym, true, Unmade, without, ℕ, ◌<◌, ◌==◌, ◌∙◌, ◌∷◌, ◌≡◌}
use Rattle.core_removals.specs.Chains.{Closes, Drops, Empties, link_but}

module _ {P : Type 0} where
  -- a link that is left was there, and is to another chain
  pub link_left : (c : ℕ) (o : Option (ℕ × P)) (e : ℕ × P) → link_but c o ≡ Some e → (o ≡ Some e) × (e.0 ≡ c → ⊥)
  link_left c None e is = absurd (cc)
  link_left c (Some d) e is = by (d.0 == c) refl is
    where
      by : (b : Bool) → (d.0 == c) ≡ b → cond b None (Some d) ≡ Some e → (Some d ≡ Some e) × (e.0 ≡ c → ⊥)
      by true test is = absurd (cc)
      by false test is = (is, λ same. absurd (let two = sym test ∙ eq-eqb d.0 c (ap (λ (x : ℕ × P). x.0) (same_Some d e is) ∙ same) in cc))

  pub link_gone : (c : ℕ) (v : P) → link_but c (Some (c, v)) ≡ None
  link_gone c v = ap (λ b. cond b None (Some (c, v))) (eq-eqb c c refl)

  pub link_other : (c d : ℕ) (v : P) → (d ≡ c → ⊥) → link_but c (Some (d, v)) ≡ Some (d, v)
  link_other c d v other = ap (λ b. cond b None (Some (d, v))) (ne_eqb d c other)

  pub starts : (links : List (Spot P)) (c : ℕ) → IsSome (list_of links c) → Empties links links c
  starts links c live = record { live = live; links = λ n. refl; lists = λ d other. refl; made = λ n made. made }

  module _ (old now : List (Spot P)) (c k : ℕ) (v : P) (so_far : Empties old now c) (sound : IsLinks now) (head : Some (k, v) ≡ head_of (entries now c)) where
    pub head_made : is_made now k ≡ true
    head_made = first_made now c k v sound (sym head)

    module _ (new : List (Spot P)) (takes : new ≡ removed k now) where
      only : ChangesOnly now new c k (without k (entries now c)) None
      only = subst (λ (l : List (Spot P)). ChangesOnly now l c k (without k (entries now c)) None) (sym (takes ∙ ap (λ o. removed_by k o now) (first_link now c k v sound (sym head)).1)) (ChangesOnly-unlinked now c k (without k (entries now c)) so_far.live head_made)

      pub goes_on : Empties old new c
      goes_on = record {
        live = subst IsSome (sym only.list_is) refl;
        links = λ n. elim (cases_eq n k) [
          | inl same ↦ ap (link_but c) (ap (link_of new) same ∙ only.link_is) ∙ (sym (ap (link_but c) (ap (link_of now) same ∙ (first_link now c k v sound (sym head)).1) ∙ link_gone c (first_link now c k v sound (sym head)).0) ∙ so_far.links n)
          | inr other ↦ ap (link_but c) (only.links n other) ∙ so_far.links n
        ];
        lists = λ d other. only.lists d other ∙ so_far.lists d other;
        made = λ n made. (Refiles-changed now new c k (without k (entries now c)) None only).made n (so_far.made n made);
      }

      pub fewer : length (entries new c) < length (entries now c)
      fewer = subst (λ (l : List (ℕ × P)). length l < length (entries now c)) (sym (ap list_or_nil only.list_is)) (by (entries now c) head)
        where
          by : (es : List (ℕ × P)) → Some (k, v) ≡ head_of es → length (without k es) < length es
          by [] none = absurd (cc)
          by (e ∷ es) is = subst (λ b. length (cond b es (e ∷ without k es)) < length (e ∷ es)) (sym (eq-eqb e.0 k (sym (ap (λ (x : ℕ × P). x.0) (same_Some (k, v) e is))))) (omega arith)

  module _ (old now : List (Spot P)) (c : ℕ) (so_far : Empties old now c) (sound : IsLinks now) (none : None ≡ head_of (entries now c)) where
    pub all_out : list_of now c ≡ Some []
    all_out = by (list_of now c) refl so_far.live none
      where
        by : (o : Option (List (ℕ × P))) → list_of now c ≡ o → IsSome o → None ≡ head_of (list_or_nil o) → list_of now c ≡ Some []
        by None is some head = absurd (cc)
        by (Some []) is some head = is
        by (Some (e ∷ es)) is some head = absurd (cc)

    no_link : (n : ℕ) (o : Option (ℕ × P)) → link_of now n ≡ o → o ≡ link_but c o
    no_link n None is = refl
    no_link n (Some (d, v)) is = elim (cases_eq d c) [
      | inl same ↦ absurd (subst (λ (l : List (ℕ × P)). In n l) (ap (λ e. list_or_nil (list_of now e)) same ∙ ap list_or_nil all_out) (sound.listed n d v is).1)
      | inr other ↦ sym (link_other c d v other)
    ]

    pub closed : (new : List (Spot P)) → Renames now new c (ChainOf []) Unmade → Closes old new c
    closed new drops = record {
      links = λ n. elim (cases_eq n c) [
        | inl same ↦ ap (link_of new) same ∙ (ap spot_link drops.names ∙ (sym (ap (link_but c) (ap (link_of now) same ∙ ap spot_link drops.named)) ∙ so_far.links n))
        | inr other ↦ ap spot_link (drops.others n other) ∙ (no_link n (link_of now n) refl ∙ so_far.links n)
      ];
      lists = λ d other. ap spot_list (drops.others d other) ∙ so_far.lists d other;
      made = λ n made. elim (cases_eq n c) [
        | inl same ↦ absurd (let still : is_made now c ≡ true = ap (is_made now) (sym same) ∙ so_far.made n made in let not = ap spot_is_made drops.named in cc)
        | inr other ↦ ap spot_is_made (drops.others n other) ∙ so_far.made n made
      ];
    }

  -- ---- A node

  pub dropped : (old now new : List (Spot P)) (k : ℕ) → Refiles old now k None → is_free now k ≡ true → Renames now new k FreeNode Unmade → Drops old new k
  dropped old now new k out free drops = record {
    here = ap spot_link drops.names;
    links = λ n other. ap spot_link (drops.others n other) ∙ out.others n other;
    made = λ n other made. ap spot_is_made (drops.others n other) ∙ out.made n made;
    live = λ c live. subst IsSome (sym (ap spot_list (drops.others c (λ same. not_chain (subst IsSome (ap (list_of now) same ∙ ap spot_list drops.named) (out.live c live)))))) (out.live c live);
  }
    where
      not_chain : IsSome {T = List (ℕ × P)} None → ⊥
      not_chain some = absurd (cc)

  -- a free node of a chain's links is free when the chain is gone
  pub closed_free : (old new : List (Spot P)) (c k : ℕ) → Closes old new c → is_free old k ≡ true → is_free new k ≡ true
  closed_free old new c k closes free = free_unlinked new k (closes.links k ∙ ap (link_but c) (by (spot_at old k) free)) (closes.made k (made_free old k free))
    where
      by : (s : Spot P) → spot_is_free s ≡ true → spot_link s ≡ None
      by Unmade is = refl
      by (ChainOf l) is = refl
      by FreeNode is = refl
      by (LinkedNode d v) is = absurd (cc)
