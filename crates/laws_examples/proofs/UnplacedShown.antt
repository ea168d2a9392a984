-- A core whose threads don't have their places.
use Rattle.std.proofs.Common.{arith}
use Rattle.std.specs.Prelude.{ℕ, ◌≡◌}
use Rattle.laws_examples.specs.Unplaced.{IsUnplaced, behind_and_no_caller}
use Rattle.laws_examples.specs.Definitions.{the_definitions}

not_one : ◌≡◌ {A = ℕ} 0 1 → ⊥
not_one h = omega (arith, h)

pub behind_and_no_caller_shown : IsUnplaced behind_and_no_caller
unfolding the_definitions
behind_and_no_caller_shown h = not_one ((h 1).callers 2)
