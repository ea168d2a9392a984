-- The cores of these wrong machines don't have the facts, by computation.
use Rattle.std.proofs.Common.{arith, refl}
use Rattle.std.specs.Prelude.{ℕ, suc, true, zero, ◌≡◌}
use Rattle.laws_states.specs.WakeLaw.{CallersGoOn, WakesCounted, goes_on_within, ready_members}
use Rattle.laws_examples.specs.Lost.{forgotten_caller, swallowed_wake}
use Rattle.laws_examples.specs.Definitions.{the_definitions}

pub swallowed_wake_shown : WakesCounted swallowed_wake → ⊥
unfolding the_definitions ready_members
swallowed_wake_shown counted = let more = counted 1 refl in absurd (omega (arith, more))

stopped_below : (k : ℕ) → goes_on_within k forgotten_caller 1 ≡ true → ⊥
unfolding the_definitions
stopped_below zero h = absurd (cc)
stopped_below (suc zero) h = absurd (cc)
stopped_below (suc (suc zero)) h = absurd (cc)
stopped_below (suc (suc (suc k))) h = absurd (cc)

pub forgotten_caller_shown : CallersGoOn forgotten_caller → ⊥
unfolding the_definitions
forgotten_caller_shown goes = let k = goes 1 2 refl in stopped_below k.0 k.1
