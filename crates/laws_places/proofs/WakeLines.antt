-- The lines of Stalled that the facts on wakes give.
use Rattle.laws_places.proofs.Laws.{[], admitted_held, All, arith, Bool, Core, false, filter_passes, held_why, Instance, is_held_admitted, is_nil, List, list_any, NoneAdmitted, not, numbers, option_and_then, place_of, refl, true, ℕ, ◌∷◌, ◌≡◌}
use Rattle.laws_places.proofs.OrderLemmas.{reached_in_order}
use Rattle.laws_places.specs.{KeptPlaces.ReachedInOrder, PlaceWakes.ReachedHoldBack}

none_passes : (test : ℕ → Bool) (ns : List ℕ) → All (λ n. test n ≡ true) ns → ((n : ℕ) → test n ≡ true → ⊥) → is_nil ns ≡ true
none_passes test [] all none = refl
none_passes test (n ∷ ns) all none = absurd (none n (all 0 0 (omega arith)))

none_held : (i : ℕ) (s : Core) → NoneAdmitted s → is_nil (admitted_held i s) ≡ true
unfolding admitted_held
none_held i s q =
    let test : ℕ → Bool = λ n. is_held_admitted i s n (option_and_then held_why (place_of n s)) in
    none_passes test (admitted_held i s) (filter_passes test (numbers s.threads)) (λ n is. let out = q n in absurd (grind arith))

pub none_of : (s : Core) → NoneAdmitted s → (es : List (ℕ × Instance)) → list_any (λ e. not (is_nil (admitted_held e.0 s))) es ≡ false
none_of s q [] = refl
none_of s q (e ∷ es) = let none = none_held e.0 s q in let rest = none_of s q es in grind arith

pub reached_hold_back : ReachedHoldBack
unfolding ReachedHoldBack ReachedInOrder
reached_hold_back x s r = let q = (reached_in_order x s r).held in (q, let none = none_of s.core q s.core.instances.list in grind arith)
