-- The times of held threads, after one more, and lists that rise by them.
use Rattle.choice_offers.proofs.SortLemmas.{From, Weak, weak_by}
use Rattle.choice_offers.specs.Listings.{numbers_of}
use Rattle.choice_offers.specs.Times.{AreTimesOf, IsLast, Rises, time_at}
use Rattle.choice_offers.specs.declared.held.HeldOrder.{HeldOrder}
use Rattle.choice_offers.specs.declared.held.NamedThread.{NamedThread}
use Rattle.choice_offers.proofs.TimesLemmas.{RisesBy, times_after}
use Rattle.laws_picks.specs.Arrival.{held_last, is_in}
use Rattle.std.proofs.Common.{arith, refl, subst}
use Rattle.std.proofs.lemmas.Bool.Decides.{nat_tests}
use Rattle.std.proofs.lemmas.Bool.{eqb-true}
use Rattle.std.specs.Prelude.{Bool, List, [], false, map, true, ℕ, ◌==◌, ◌∷◌, ◌≡◌, ◌≤◌}

-- the thread that was held just now has the last time
pub last_times : (n : ℕ) (order : List ℕ) (old new : HeldOrder) → IsLast n old new → AreTimesOf order old → AreTimesOf (held_last n order) new
last_times n order old new last times = times_after n order (time_at old) (time_at new) last.last last.others times

rises_from : (o : HeldOrder) (a : ℕ) (list : List NamedThread) → From a (map (λ t. time_at o t.number) list) → (m : ℕ) → is_in m (numbers_of list) ≡ true →
    a ≤ time_at o m
rises_from o a [] h m there = absurd (cc)
rises_from o a (t ∷ list) h m there = by (t.number == m) refl (rises_from o a list h.1 m)
  where
    by : (c : Bool) → (t.number == m) ≡ c → (is_in m (numbers_of list) ≡ true → a ≤ time_at o m) → a ≤ time_at o m
    by true e again = subst (λ (k : ℕ). a ≤ time_at o k) (eqb-true t.number m e) h.0
    by false e again = let rest : is_in m (numbers_of list) ≡ true = grind (arith, nat_tests) in again rest

rises_weak : (o : HeldOrder) (list : List NamedThread) → Weak (map (λ t. time_at o t.number) list) → RisesBy (time_at o) (numbers_of list)
rises_weak o [] h = tt
rises_weak o (t ∷ list) h = (rises_from o (time_at o t.number) list h.0, rises_weak o list h.1)

pub rises_by : (o : HeldOrder) (list : List NamedThread) → Rises o list → RisesBy (time_at o) (numbers_of list)
rises_by o list h = rises_weak o list (weak_by (λ t. time_at o t.number) list h)
