-- The order of a release: of which of an instance's two chains the admitted threads come.
use Rattle.core_records.proofs.Core.{[], admitted_held, admitted_permute, ap, ap₂, arith, bare, Bool, cond, entries, eq-eqb, false, filter, has, head_of, HeldIn, is_held_in, IsLinks, IsMembers, IsPermutation, IsSoundCore, List, map, ne_eqb, Node, None, not, Once, Option, option_map, parts_of, place_chain, refl, seen, Some, StartsIn, subst, sym, true, ℕ, ◌&&◌, ◌++◌, ◌==◌, ◌||◌, ◌∙◌, ◌∷◌, ◌≡◌}
use Rattle.std.proofs.lemmas.Bool.{or_parts, or_right}
use Rattle.std.proofs.lemmas.Bool.Decides.{nat_tests}
use Rattle.std.specs.Prelude.{is_some, nat_lt}
use Rattle.machine_data.specs.Read.{backpressure_of, may_not_enter}
use Rattle.core_records.specs.declared.parts.CoreParts.{CoreParts}
use Rattle.core_removals.proofs.AdmitLemmas.{barred_admitted, other_admitted}
use Rattle.core_removals.proofs.BothLemmas.{all_kept}
use Rattle.core_removals.proofs.HeldLemmas.{has_append, held_members, listed_apart, listed_members}
use Rattle.core_removals.proofs.MergeLemmas.{has_merged, once_merged}
use Rattle.core_removals.specs.Held.{is_admitted, listed_in}
use Rattle.core_removals.specs.Merged.{of_both}
use Rattle.core_removals.specs.Walks.{of_chain, of_node}

-- a chain with no first is empty
pub none_in_chain : {X : Type 0} (f : ℕ × X → ℕ) (es : List (ℕ × X)) (r : Option (Node × X)) (b : Bool) → option_map (λ e. (e.0.index, e.1)) r ≡ head_of es → is_some r ≡ not b → b ≡ true → map f es ≡ []
none_in_chain f [] r b is none on = refl
none_in_chain f (e ∷ es) None b is none on = absurd (cc)
none_in_chain f (e ∷ es) (Some d) b is none on = absurd (let bad = none ∙ ap not on in cc)

none_kept : (test : ℕ → Bool) (ns : List ℕ) → ((n : ℕ) → has n ns ≡ true → test n ≡ false) → filter test ns ≡ []
none_kept test [] each = refl
none_kept test (n ∷ ns) each =
    ap (λ t. cond t (n ∷ filter test ns) (filter test ns)) (each n (ap (λ b. b || has n ns) (eq-eqb n n refl)))
    ∙ none_kept test ns (λ k h. each k (or_right (k == n) (has k ns) h))

-- where none of the second list pass, those that pass are of the first
filter_front : (test : ℕ → Bool) (xs ys : List ℕ) → ((n : ℕ) → has n ys ≡ true → test n ≡ false) → filter test (xs ++ ys) ≡ filter test xs
filter_front test [] ys none = none_kept test ys none
filter_front test (x ∷ xs) ys none = ap (λ (l : List ℕ). cond (test x) (x ∷ l) l) (filter_front test xs ys none)

either_true : (b c : Bool) {X : Type 0} → (b || c) ≡ true → (b ≡ true → X) → (c ≡ true → X) → X
either_true true c is one two = one refl
either_true false c is one two = two is

none_above : (n : ℕ) → nat_lt 0 n ≡ false → (n == 0) ≡ true
none_above ℕ.zero is = refl
none_above (ℕ.suc n) is = absurd (grind (arith, nat_tests, is))

some_above : (n : ℕ) → nat_lt 0 n ≡ true → (n == 0) ≡ false
some_above ℕ.zero is = absurd (cc)
some_above (ℕ.suc n) is = ne_eqb (ℕ.suc n) 0 (λ same. omega (arith, same))

module _ (a : CoreParts) (sound : IsSoundCore a) (links : IsLinks a.places) (i c d : ℕ) (chain : place_chain (bare (parts_of a)) (HeldIn i) ≡ Some c) (starts : place_chain (bare (parts_of a)) (StartsIn i) ≡ Some d) where
  others_are : IsMembers (listed_in false i (seen a).core) (of_chain a c)
  others_are = listed_members a sound links false i c chain

  starts_are : IsMembers (listed_in true i (seen a).core) (of_chain a d)
  starts_are = listed_members a sound links true i d starts

  pub others_held : IsMembers (is_held_in i (seen a).core) (of_chain a c ++ of_chain a d)
  others_held = held_members a sound links i c d chain starts

  has_both : (n : ℕ) → has n (of_both a c d) ≡ (has n (of_chain a c) || has n (of_chain a d))
  has_both n = has_merged (λ e. of_node a e.0) n (entries a.places c) (entries a.places d)

  -- both chains as one list have each of the held ones once
  pub both_members : IsMembers (is_held_in i (seen a).core) (of_both a c d)
  both_members = record {
    once = once_merged (λ e. of_node a e.0) (entries a.places c) (entries a.places d) others_are.once starts_are.once (λ n h. starts_are.are n ∙ listed_apart i n (seen a).core (sym (others_are.are n) ∙ h));
    are = λ n. has_both n ∙ (sym (has_append n (of_chain a c) (of_chain a d)) ∙ others_held.are n);
  }

  -- the first chain has held ones
  pub chain_held : (n : ℕ) → has n (of_chain a c) ≡ true → is_held_in i (seen a).core n ≡ true
  chain_held n h = sym (both_members.are n) ∙ (has_both n ∙ ap (λ b. b || has n (of_chain a d)) h)

  pub chain_once : Once (of_chain a c)
  chain_once = others_are.once

  -- where the barred ones are kept out none of them is admitted, and where they aren't all of both are
  kept_barred : (may_not_enter i (seen a).core || nat_lt 0 (backpressure_of i (seen a).core)) ≡ true → (n : ℕ) → has n (of_chain a d) ≡ true → is_admitted i (seen a).core n ≡ false
  kept_barred kept n h =
      barred_admitted i (seen a).core n (sym (starts_are.are n) ∙ h)
      ∙ either_true (may_not_enter i (seen a).core) (nat_lt 0 (backpressure_of i (seen a).core)) kept
      (λ is. ap (λ b. not b && (backpressure_of i (seen a).core == 0)) is)
      (λ is. ap (λ b. not (may_not_enter i (seen a).core) && b) (some_above (backpressure_of i (seen a).core) is) ∙ none_of (not (may_not_enter i (seen a).core)))
    where
      none_of : (b : Bool) → (b && false) ≡ false
      none_of true = refl
      none_of false = refl

  pub open_admitted : (may_not_enter i (seen a).core || nat_lt 0 (backpressure_of i (seen a).core)) ≡ false → (n : ℕ) → has n (of_both a c d) ≡ true → is_admitted i (seen a).core n ≡ true
  open_admitted kept n h =
      let two = or_parts (may_not_enter i (seen a).core) (nat_lt 0 (backpressure_of i (seen a).core)) kept in
      either_true (has n (of_chain a c)) (has n (of_chain a d)) (sym (has_both n) ∙ h)
      (λ is. other_admitted i (seen a).core n two.0 (sym (others_are.are n) ∙ is))
      (λ is. barred_admitted i (seen a).core n (sym (starts_are.are n) ∙ is) ∙ ap₂ (λ b e. not b && e) two.0 (none_above (backpressure_of i (seen a).core) two.1))

  -- ---- Which order is one of the admitted ones

  front_order : ((n : ℕ) → has n (of_chain a d) ≡ true → is_admitted i (seen a).core n ≡ false) → IsPermutation (admitted_held i (seen a).core) (filter (is_admitted i (seen a).core) (of_chain a c))
  front_order none =
      subst (IsPermutation (admitted_held i (seen a).core)) (filter_front (is_admitted i (seen a).core) (of_chain a c) (of_chain a d) none)
      (admitted_permute i (seen a).core (of_chain a c ++ of_chain a d) others_held)

  pub kept_order : (may_not_enter i (seen a).core || nat_lt 0 (backpressure_of i (seen a).core)) ≡ true → IsPermutation (admitted_held i (seen a).core) (filter (is_admitted i (seen a).core) (of_chain a c))
  kept_order kept = front_order (kept_barred kept)

  pub no_starts_order : of_chain a d ≡ [] → IsPermutation (admitted_held i (seen a).core) (filter (is_admitted i (seen a).core) (of_chain a c))
  no_starts_order none = front_order (λ n h. absurd (let off = ap (has n) none in let bad = sym off ∙ h in cc))

  pub both_order : (may_not_enter i (seen a).core || nat_lt 0 (backpressure_of i (seen a).core)) ≡ false → IsPermutation (admitted_held i (seen a).core) (of_both a c d)
  both_order kept =
      subst (IsPermutation (admitted_held i (seen a).core)) (all_kept (is_admitted i (seen a).core) (of_both a c d) (open_admitted kept))
      (admitted_permute i (seen a).core (of_both a c d) both_members)

  -- where no chain has one that may go, none is admitted
  pub none_order : of_chain a c ≡ [] → (some kept : Bool) → (may_not_enter i (seen a).core || nat_lt 0 (backpressure_of i (seen a).core)) ≡ kept → (some && not kept) ≡ false → (some ≡ false → of_chain a d ≡ []) → IsPermutation (admitted_held i (seen a).core) []
  none_order none some kept is off empty = subst (IsPermutation (admitted_held i (seen a).core)) (ap (λ (l : List ℕ). filter (is_admitted i (seen a).core) l) none) (by some kept is off empty)
    where
      by : (some kept : Bool) → (may_not_enter i (seen a).core || nat_lt 0 (backpressure_of i (seen a).core)) ≡ kept → (some && not kept) ≡ false → (some ≡ false → of_chain a d ≡ []) → IsPermutation (admitted_held i (seen a).core) (filter (is_admitted i (seen a).core) (of_chain a c))
      by false kept is off empty = no_starts_order (empty refl)
      by true true is off empty = kept_order is
      by true false is off empty = absurd (cc)
