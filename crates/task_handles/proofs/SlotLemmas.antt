-- What the slots of a table hold, and the map of the live ones.
use Rattle.std.proofs.Common.{◌≡◌, ◌≢◌, ℕ, zero, suc, ◌+◌, ◌-◌, ◌<◌, ◌≤◌, List, [], ◌∷◌, ◌++◌, length, set, refl, sym, ap, ◌∙◌, arith, Bool, true, false, cond}
use Rattle.std.specs.Prelude.{Option, Some, None, slice_get, ◌==◌}
use Rattle.std.specs.Option.{option_and_then}
use Rattle.std.specs.Ordering.{nat_cmp, eq_by_cmp}
use Rattle.std.specs.Cmp.{nat_cmp_total, unsigned_tied}
use Rattle.std.specs.FinMap as map
use Rattle.std.specs.FinMap.Entries.{find}
use Rattle.std.proofs.lemmas.Bool.Decides.{nat_tests}
use Rattle.std.proofs.lemmas.Option.{slice_get_within}
use Rattle.task_handles.specs.declared.slots.HandleSlot.{HandleSlot}
use Rattle.task_handles.specs.declared.slots.HandleSlot.TheVariants.{Live, Freed}
use Rattle.task_handles.specs.Slots.{value_of, slot_at, value_at, entries_from, live_in}

same_test : (q : ℕ) → eq_by_cmp nat_cmp q q ≡ true
same_test q = unsigned_tied q q ∙ grind (arith, nat_tests)

other_test : (q k : ℕ) → q ≢ k → eq_by_cmp nat_cmp q k ≡ false
other_test q k h = unsigned_tied q k ∙ grind (arith, nat_tests)

module _ {Y : Type 0} where
  slice_get-set_same : (ys : List Y) (i : ℕ) (y : Y) → i < length ys → slice_get (set ys i y) i ≡ Some y
  slice_get-set_same [] i y h = absurd (omega arith)
  slice_get-set_same (z ∷ ys) zero y h = refl
  slice_get-set_same (z ∷ ys) (suc i) y h = slice_get-set_same ys i y (omega arith)

  slice_get-set_other : (ys : List Y) (i j : ℕ) (y : Y) → j ≢ i → slice_get (set ys i y) j ≡ slice_get ys j
  slice_get-set_other [] i j y h = refl
  slice_get-set_other (z ∷ ys) zero zero y h = absurd (h refl)
  slice_get-set_other (z ∷ ys) zero (suc j) y h = refl
  slice_get-set_other (z ∷ ys) (suc i) zero y h = refl
  slice_get-set_other (z ∷ ys) (suc i) (suc j) y h = slice_get-set_other ys i j y (λ e. h (ap suc e))

  slice_get-push_same : (ys : List Y) (y : Y) → slice_get (ys ++ y ∷ []) (length ys) ≡ Some y
  slice_get-push_same [] y = refl
  slice_get-push_same (z ∷ ys) y = slice_get-push_same ys y

  slice_get-push_other : (ys : List Y) (j : ℕ) (y : Y) → j ≢ length ys → slice_get (ys ++ y ∷ []) j ≡ slice_get ys j
  slice_get-push_other [] zero y h = absurd (h refl)
  slice_get-push_other [] (suc j) y h = refl
  slice_get-push_other (z ∷ ys) zero y h = refl
  slice_get-push_other (z ∷ ys) (suc j) y h = slice_get-push_other ys j y (λ e. h (ap suc e))

module _ {X : Type 0} where
  pub slot_at-set_same : (slots : List (HandleSlot X)) (h : ℕ) (s : HandleSlot X) → 0 < h → h ≤ length slots → slot_at (set slots (h - 1) s) h ≡ Some s
  slot_at-set_same slots zero s p q = absurd (omega arith)
  slot_at-set_same slots (suc i) s p q = ap (λ n. slice_get (set slots n s) i) (omega arith) ∙ slice_get-set_same slots i s (omega arith)

  pub slot_at-set_other : (slots : List (HandleSlot X)) (h q : ℕ) (s : HandleSlot X) → 0 < h → q ≢ h → slot_at (set slots (h - 1) s) q ≡ slot_at slots q
  slot_at-set_other slots h zero s p ne = refl
  slot_at-set_other slots h (suc j) s p ne = slice_get-set_other slots (h - 1) j s (λ e. ne (omega arith))

  pub slot_at-push_same : (slots : List (HandleSlot X)) (s : HandleSlot X) → slot_at (slots ++ s ∷ []) (length slots + 1) ≡ Some s
  slot_at-push_same slots s = let one : suc (length slots) ≡ length slots + 1 = omega arith in ap (slot_at (slots ++ s ∷ [])) (sym one) ∙ slice_get-push_same slots s

  pub slot_at-push_other : (slots : List (HandleSlot X)) (q : ℕ) (s : HandleSlot X) → q ≢ length slots + 1 → slot_at (slots ++ s ∷ []) q ≡ slot_at slots q
  slot_at-push_other slots zero s ne = refl
  slot_at-push_other slots (suc j) s ne = slice_get-push_other slots j s (λ e. ne (omega arith))

  pub slot_at_within : (slots : List (HandleSlot X)) (h : ℕ) (s : HandleSlot X) → slot_at slots h ≡ Some s → (0 < h) × (h ≤ length slots)
  slot_at_within slots zero s is = absurd (cc)
  slot_at_within slots (suc i) s is = let below : i < length slots = slice_get_within slots i s is in (omega arith, omega arith)

  find_below : (slots : List (HandleSlot X)) (k q : ℕ) → q < k → find nat_cmp q (entries_from k slots) ≡ None
  find_below [] k q h = refl
  find_below (Live x ∷ rest) k q h = ap (λ b. cond b (Some x) (find nat_cmp q (entries_from (suc k) rest))) (other_test q k (λ e. absurd (omega arith))) ∙ find_below rest (suc k) q (omega arith)
  find_below (Freed n ∷ rest) k q h = find_below rest (suc k) q (omega arith)

  find_from : (slots : List (HandleSlot X)) (k i : ℕ) → find nat_cmp (i + k) (entries_from k slots) ≡ option_and_then value_of (slice_get slots i)
  find_from [] k i = refl
  find_from (Live x ∷ rest) k zero = ap (λ b. cond b (Some x) (find nat_cmp (0 + k) (entries_from (suc k) rest))) (ap (λ n. eq_by_cmp nat_cmp n k) (omega arith) ∙ same_test k)
  find_from (Live x ∷ rest) k (suc i) =
      ap (λ b. cond b (Some x) (find nat_cmp (suc i + k) (entries_from (suc k) rest))) (other_test (suc i + k) k (λ e. absurd (omega arith)))
      ∙ ap (λ n. find nat_cmp n (entries_from (suc k) rest)) (omega arith) ∙ find_from rest (suc k) i
  find_from (Freed n ∷ rest) k zero = find_below rest (suc k) (0 + k) (omega arith)
  find_from (Freed n ∷ rest) k (suc i) = ap (λ n. find nat_cmp n (entries_from (suc k) rest)) (omega arith) ∙ find_from rest (suc k) i

  -- the map has at a handle what its slot holds
  pub get-live_in : (slots : List (HandleSlot X)) (h : ℕ) → map.get (live_in slots) h ≡ value_at slots h
  unfolding live_in
  get-live_in slots zero = map.get-from_entries nat_cmp_total _ 0 ∙ find_below slots 1 0 (omega arith)
  get-live_in slots (suc i) = map.get-from_entries nat_cmp_total _ (suc i) ∙ ap (λ n. find nat_cmp n (entries_from 1 slots)) (omega arith) ∙ find_from slots 1 i

  by_test : (q h : ℕ) (a b r : Option X) (t : Bool) → (q == h) ≡ t → (q ≡ h → r ≡ a) → (q ≢ h → r ≡ b) → r ≡ cond t a b
  by_test q h a b r true e same other = same (grind (arith, nat_tests))
  by_test q h a b r false e same other = other (λ f. absurd (grind (arith, nat_tests)))

  -- a value that is given for one number and for all others
  pub at_tested : (q h : ℕ) (a b r : Option X) → (q ≡ h → r ≡ a) → (q ≢ h → r ≡ b) → r ≡ cond (eq_by_cmp nat_cmp q h) a b
  at_tested q h a b r same other = by_test q h a b r (q == h) refl same other ∙ ap (λ t. cond t a b) (sym (unsigned_tied q h))

  -- the map of slots that differ at one handle
  pub live_in-insert : (slots slots' : List (HandleSlot X)) (h : ℕ) (x : X) → slot_at slots' h ≡ Some (Live x) → ((q : ℕ) → q ≢ h → slot_at slots' q ≡ slot_at slots q) → live_in slots' ≡ map.insert (live_in slots) h x
  live_in-insert slots slots' h x here others = map.same_map nat_cmp_total map.nat_cmp-IsAntisymmetric _ _ (λ q.
      at_tested q h (Some x) (map.get (live_in slots) q) (map.get (live_in slots') q)
      (λ e. get-live_in slots' q ∙ ap (option_and_then value_of) (ap (slot_at slots') e ∙ here))
      (λ ne. get-live_in slots' q ∙ ap (option_and_then value_of) (others q ne) ∙ sym (get-live_in slots q))
      ∙ sym (map.get-insert nat_cmp_total (live_in slots) h x q))

  pub live_in-remove : (slots slots' : List (HandleSlot X)) (h n : ℕ) → slot_at slots' h ≡ Some (Freed n) → ((q : ℕ) → q ≢ h → slot_at slots' q ≡ slot_at slots q) → live_in slots' ≡ map.remove (live_in slots) h
  live_in-remove slots slots' h n here others = map.same_map nat_cmp_total map.nat_cmp-IsAntisymmetric _ _ (λ q.
      at_tested q h None (map.get (live_in slots) q) (map.get (live_in slots') q)
      (λ e. get-live_in slots' q ∙ ap (option_and_then value_of) (ap (slot_at slots') e ∙ here))
      (λ ne. get-live_in slots' q ∙ ap (option_and_then value_of) (others q ne) ∙ sym (get-live_in slots q))
      ∙ sym (map.get-remove nat_cmp_total (live_in slots) h q))
