-- Lists of what a step chooses, in order.
use Rattle.choice_offers.proofs.HandleLemmas.{handles_permute, own_handle}
use Rattle.choice_offers.proofs.SortLemmas.{Strict, kept_strict, numbers_strict, same_sorted, weak_by}
use Rattle.choice_offers.specs.Listings.{AreNamedIn, HandlesKnown, handle_or_none, handles_in}
use Rattle.choice_offers.specs.Spots.{IsTakingThere}
use Rattle.choice_offers.specs.declared.offered.NamedMember.{NamedMember}
use Rattle.core_lists.specs.Listed.{ready_of}
use Rattle.core_primitives.specs.Names.{subtask_in}
use Rattle.core_primitives.specs.StateView.{StateView, set_of}
use Rattle.core_primitives.specs.declared.names.SubtaskId.{SubtaskId}
use Rattle.laws_choices.specs.Offers.{handles_of, names_ready, takes_of, waiters_of}
use Rattle.machine_data.specs.Core.{NameTable}
use Rattle.machine_data.specs.Maps.{get, numbers}
use Rattle.machine_data.specs.Moves.{is_callback_waiter, waits_cancellable}
use Rattle.machine_data.specs.Read.{instance_of, is_ready_member, is_waiter, subtask_at}
use Rattle.machine_data.specs.declared.records.Named.{Named}
use Rattle.machine_data.specs.declared.records.Subtask.{Subtask}
use Rattle.machine_rules.specs.Cancels.{cancellable, is_waiting_of, waiting_callback, waiting_in}
use Rattle.std.proofs.Common.{[], ap, refl, subst, sym, ◌∙◌}
use Rattle.std.proofs.lemmas.List.Elements.{All-cons, All-head, All-nil, All-tail}
use Rattle.std.proofs.lemmas.List.Sorted.{All-permutation, IsPermutation-map, IsPermutation-trans}
use Rattle.std.specs.List.Sorted.{IsNonDecreasingBy}
use Rattle.std.specs.List.{All}
use Rattle.std.specs.Option.{option_map_or}
use Rattle.std.specs.Prelude.{Bool, IsPermutation, List, None, Option, Some, cond, false, filter, if◌then◌else◌, map, true, ℕ, ◌∷◌, ◌≡◌}
use Rattle.task_table.specs.declared.id.TableId.{TableId}
use Rattle.task_wait.specs.declared.keys.SetKey.{SetKey}

-- of numbers that rise, a list in order that permutes them has just these
pub sorted_is : {X : Type 0} (n : X → ℕ) (xs : List X) (ns : List ℕ) (before : List X) → Strict ns → IsPermutation ns (map n before) → IsPermutation before xs → IsNonDecreasingBy n xs → map n xs ≡ ns
sorted_is n xs ns before up listed moved rises = same_sorted ns (map n xs) up (weak_by n xs rises) (IsPermutation-trans ns (map n before) (map n xs) listed (IsPermutation-map n before xs moved))

pub waiters_strict : (x : ℕ) (s : StateView) → Strict (waiters_of x s.core)
waiters_strict x s = kept_strict (λ n. is_waiter x n s.core) (numbers s.core.threads) (numbers_strict s.core.threads)

pub cancellable_strict : (k : ℕ) (s : StateView) → Strict (cancellable k s.core)
cancellable_strict k s = by (waits_cancellable k s.core)
  where
    one : (b : Bool) → Strict (if b then k ∷ [] else [])
    one true = (tt, tt)
    one false = tt

    by : (b : Bool) → Strict (if b then waiting_in k s.core else waiting_callback k s.core)
    by true = kept_strict (is_waiting_of k s.core) (numbers s.core.threads) (numbers_strict s.core.threads)
    by false = one (is_callback_waiter k s.core)

pub members_strict : (n x : ℕ) (s : StateView) → Strict (takes_of n x s.core).members
members_strict n x s = kept_strict (names_ready (instance_of n s.core) x s.core) (handles_of (instance_of n s.core) s.core) (by (get s.core.handles (instance_of n s.core)))
  where
    by : (o : Option (NameTable Named)) → Strict (option_map_or (λ t. numbers t.live) o [])
    by None = tt
    by (Some t) = numbers_strict t.live

-- ---- The ready members, by their handles

map_twice : {X Y Z : Type 0} (f : X → Y) (g : Y → Z) (xs : List X) → map g (map f xs) ≡ map (λ a. g (f a)) xs
map_twice f g [] = refl
map_twice f g (x ∷ xs) = ap (λ zs. g (f x) ∷ zs) (map_twice f g xs)

kept_pass : {X : Type 0} (p : X → Bool) (xs : List X) → All (λ a. p a ≡ true) (filter p xs)
kept_pass p [] = All-nil (λ a. p a ≡ true)
kept_pass p (x ∷ xs) = by (p x) refl (kept_pass p xs)
  where
    by : (b : Bool) → p x ≡ b → All (λ a. p a ≡ true) (filter p xs) → All (λ a. p a ≡ true) (cond b (x ∷ filter p xs) (filter p xs))
    by true is rest = All-cons (λ a. p a ≡ true) x (filter p xs) is rest
    by false is rest = rest

module _ (s : StateView) (n : ℕ) (x : TableId SetKey) (there : IsTakingThere s n x) (known : HandlesKnown s.core) (ids : List SubtaskId)
    (listed : IsPermutation (ready_of (set_of s x) s.core) (map (λ id. subtask_in s.tags id) ids)) (before : List NamedMember) where
  pub handles_listed : handles_in before ≡ map (λ id. handle_or_none (subtask_in s.tags id) s.core) ids → IsPermutation (takes_of n (set_of s x) s.core).members (handles_in before)
  handles_listed are =
      let handle = λ (sub : Subtask). handle_or_none sub s.core in
      subst (λ (hs : List ℕ). IsPermutation (takes_of n (set_of s x) s.core).members hs) (map_twice (λ id. subtask_in s.tags id) handle ids ∙ sym are)
      (IsPermutation-trans (takes_of n (set_of s x) s.core).members (map handle (ready_of (set_of s x) s.core)) (map handle (map (λ id. subtask_in s.tags id) ids))
      (handles_permute s.core (instance_of n s.core) (set_of s x) there.named known)
      (IsPermutation-map handle (ready_of (set_of s x) s.core) (map (λ id. subtask_in s.tags id) ids) listed))

  all_ready : All (λ sub. is_ready_member (set_of s x) sub s.core ≡ true) (map (λ id. subtask_in s.tags id) ids)
  all_ready =
      All-permutation (λ sub. is_ready_member (set_of s x) sub s.core ≡ true) (ready_of (set_of s x) s.core) (map (λ id. subtask_in s.tags id) ids) listed
      (kept_pass (λ sub. is_ready_member (set_of s x) sub s.core) _)

  each_named : (ms : List NamedMember) → All (λ sub. is_ready_member (set_of s x) sub s.core ≡ true) (map (λ id. subtask_in s.tags id) (map (λ m. m.subtask) ms)) →
      All (λ m. m.handle ≡ handle_or_none (subtask_in s.tags m.subtask) s.core) ms → AreNamedIn s (instance_of n s.core) ms
  each_named [] ready are = All-nil (λ m. subtask_at (instance_of n s.core) m.handle s.core ≡ Some (subtask_in s.tags m.subtask))
  each_named (m ∷ ms) ready are =
      let P = λ (k : NamedMember). subtask_at (instance_of n s.core) k.handle s.core ≡ Some (subtask_in s.tags k.subtask) in
      let Q = λ (sub : Subtask). is_ready_member (set_of s x) sub s.core ≡ true in
      let R = λ (k : NamedMember). k.handle ≡ handle_or_none (subtask_in s.tags k.subtask) s.core in
      let more = map (λ id. subtask_in s.tags id) (map (λ (k : NamedMember). k.subtask) ms) in
      All-cons P m ms
      (ap (λ (h : ℕ). subtask_at (instance_of n s.core) h s.core) (All-head R m ms are)
      ∙ own_handle s.core (instance_of n s.core) (set_of s x) there.named known (subtask_in s.tags m.subtask) (All-head Q (subtask_in s.tags m.subtask) more ready))
      (each_named ms (All-tail Q (subtask_in s.tags m.subtask) more ready) (All-tail R m ms are))

  pub members_are_named : map (λ m. m.subtask) before ≡ ids → All (λ m. m.handle ≡ handle_or_none (subtask_in s.tags m.subtask) s.core) before →
      AreNamedIn s (instance_of n s.core) before
  members_are_named same are =
      each_named before
      (subst (λ (l : List SubtaskId). All (λ sub. is_ready_member (set_of s x) sub s.core ≡ true) (map (λ id. subtask_in s.tags id) l)) (sym same) all_ready) are
