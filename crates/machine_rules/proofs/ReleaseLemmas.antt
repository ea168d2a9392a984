-- A release: no held thread of the instance is admitted after it.
use Rattle.machine_rules.proofs.Machine.{[], admits, admitted_held, ap, arith, Bool, Core, false, get, get-change, held_why, held_why_of, Instance, is_held_admitted, is_some, IsPermutation, List, list_any, list_any-IsPermutation, map, nat_cmp, nat_tests, None, NoneHeldIn, numbers, on_instance, on_thread, Option, option_and_then, Place, push_high, put_high, refl, released, released_one, set_place, Some, sym, true, unsigned_tied, Why, ℕ, ◌==◌, ◌∙◌, ◌∷◌, ◌≡◌}
use Rattle.std.proofs.lemmas.Map.Views.{any-filter_same}
use Rattle.machine_rules.proofs.{PlacingLemmas.Shifted, PlacingLemmas.shifted_calls, PlacingLemmas.shifted_explicit, PlacingLemmas.shifted_instance, PlacingLemmas.shifted_task, PlacingLemmas.shifts_shifted, WalkMoves.released_shifts}
use Rattle.std.specs.FinMap.Entries.{find as seek}

-- who is admitted hangs on no places
pub shifted_admits : {s t : Core} → Shifted s t → (n : ℕ) (w : Why) → admits n t w ≡ admits n s w
shifted_admits h n w =
    let calls = shifted_calls h in
    let flags = ap (λ (c : Core). c.instances) h.only in
    let task = shifted_task h n in
    let explicit = shifted_explicit h n in grind arith

unheld_one : (n m : ℕ) (o : Option Why) (s : Core) → held_why_of n s ≡ None → held_why_of n (released_one m o s) ≡ None
unfolding put_high push_high set_place on_thread
unheld_one n m None s h = h
unheld_one n m (Some w) s h = grind (arith, nat_tests, get-change)

unheld_stays : (n : ℕ) (ns : List ℕ) (s : Core) → held_why_of n s ≡ None → held_why_of n (released ns s) ≡ None
unfolding released
unheld_stays n [] s h = h
unheld_stays n (m ∷ ns) s h = unheld_stays n ns (released_one m (held_why_of m s) s) (unheld_one n m (held_why_of m s) s h)

held_one : (n m : ℕ) (o : Option Why) (w : Why) (s : Core) → held_why_of n (released_one m o s) ≡ Some w → held_why_of n s ≡ Some w
unfolding put_high push_high set_place on_thread
held_one n m None w s h = h
held_one n m (Some v) w s h = grind (arith, nat_tests, get-change)

-- who is held then was held before
held_before : (n : ℕ) (ns : List ℕ) (w : Why) (s : Core) → held_why_of n (released ns s) ≡ Some w → held_why_of n s ≡ Some w
unfolding released
held_before n [] w s h = h
held_before n (m ∷ ns) w s h = held_one n m (held_why_of m s) w s (held_before n ns w (released_one m (held_why_of m s) s) h)

released_goes : (n : ℕ) (o : Option Why) (s : Core) → held_why_of n s ≡ o → held_why_of n (released_one n o s) ≡ None
unfolding put_high push_high set_place on_thread
released_goes n None s e = e
released_goes n (Some w) s e = grind (arith, nat_tests, get-change)

-- each one that is released isn't held then
listed_goes : (n : ℕ) (ns : List ℕ) (s : Core) → list_any (λ m. n == m) ns ≡ true → held_why_of n (released ns s) ≡ None
unfolding released
listed_goes n [] s h = absurd (grind arith)
listed_goes n (m ∷ ns) s h = by (n == m) refl (listed_goes n ns (released_one m (held_why_of m s) s))
  where
    by : (b : Bool) → (n == m) ≡ b → (list_any (λ m. n == m) ns ≡ true → held_why_of n (released ns (released_one m (held_why_of m s) s)) ≡ None) →
        held_why_of n (released ns (released_one m (held_why_of m s) s)) ≡ None
    by true is rest = unheld_stays n ns (released_one m (held_why_of m s) s) (let e : n ≡ m = grind (arith, nat_tests) in grind (arith, released_goes m (held_why_of m s) s refl))
    by false is rest = rest (grind arith)

found_listed : {X : Type 0} (n : ℕ) (es : List (ℕ × X)) → is_some (seek nat_cmp n es) ≡ true → list_any (λ m. n == m) (map (λ e. e.0) es) ≡ true
found_listed n [] h = absurd (grind arith)
found_listed n (e ∷ es) h = let tied = unsigned_tied n e.0 in let rest = found_listed n es in grind (arith, nat_tests)

-- after a release of all that are admitted none is
pub release_leaves : (i : ℕ) (s : Core) (order : List ℕ) → IsPermutation (admitted_held i s) order → NoneHeldIn i (released order s)
unfolding admitted_held numbers get
release_leaves i s order perm n w at home = by (admits n (released order s) w) refl
  where
    by : (b : Bool) → admits n (released order s) w ≡ b → b ≡ false
    by false is = refl
    by true is =
        let d = shifts_shifted (released_shifts order s) in
        let was = held_before n order w s (ap (λ (o : Option Place). option_and_then held_why o) at) in
        let may = shifted_admits d n w in
        let here = shifted_instance d n in
        let passes : is_held_admitted i s n (held_why_of n s) ≡ true = grind (arith, nat_tests) in
        let among = found_listed n s.threads.list (grind arith) in
        let held = any-filter_same (λ m. n == m) (λ m. is_held_admitted i s m (held_why_of m s)) true (λ m e. let same : n ≡ m = grind (arith, nat_tests) in grind arith) (numbers s.threads) in
        let goes = listed_goes n order s (sym (list_any-IsPermutation (λ m. n == m) (admitted_held i s) order perm) ∙ (held ∙ among)) in
        absurd (grind arith)

-- a release and a change of an instance's record exchange
pub released_on : (i : ℕ) (f : Instance → Instance) (ns : List ℕ) (s : Core) → released ns (on_instance i f s) ≡ on_instance i f (released ns s)
unfolding released on_instance put_high push_high set_place on_thread
released_on i f [] s = refl
released_on i f (n ∷ ns) s = ap (λ t. released ns t) (one (held_why_of n s)) ∙ released_on i f ns (released_one n (held_why_of n s) s)
  where
    one : (o : Option Why) → released_one n o (on_instance i f s) ≡ on_instance i f (released_one n o s)
    one None = refl
    one (Some w) = refl
