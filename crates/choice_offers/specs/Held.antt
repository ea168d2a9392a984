-- Who was held last, as lists of threads in that order.
use Rattle.laws_picks.specs.Arrival.{comes_before, held_after, is_in}
use Rattle.laws_states.specs.Order.{InOrder}
use Rattle.machine_data.specs.Core.{Core, State}
use Rattle.machine_data.specs.Moves.{held_why_of}
use Rattle.machine_data.specs.declared.label.Label.{Label}
use Rattle.machine_rules.specs.Stalled.{Setting}
use Rattle.machine_rules.specs.Step.{Step}
use Rattle.std.specs.Prelude.{List, [], false, is_some, true, ℕ, ◌<◌, ◌∷◌, ◌≡◌}

-- no number is twice in the order
abbrev pub IsOnce : List ℕ → Type 0
IsOnce [] = Unit {0}
IsOnce (n ∷ ns) = (is_in n ns ≡ false) × IsOnce ns

-- who stands before another one has an earlier time
abbrev pub RisesIn : (time : ℕ → ℕ) → List ℕ → Type 0
RisesIn time order = (m n : ℕ) → comes_before m n order ≡ true → time m < time n

-- each thread that is held is in the order
abbrev pub KnowsHeld : List ℕ → Core → Type 0
KnowsHeld order s = (n : ℕ) → is_some (held_why_of n s) ≡ true → is_in n order ≡ true

-- Whoever is held after a step was held before it, or its label says so.
unfoldable pub HeldIsKnown : Type 0
HeldIsKnown = (x : Setting) (order : List ℕ) (s : State) (l : Label) (t : State) → InOrder x.component s → KnowsHeld order s.core →
    Step x s l t → KnowsHeld (held_after l order) t.core
