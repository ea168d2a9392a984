-- Machines that go on.
use Rattle.laws_states.specs.Order.{is_open}
use Rattle.ops_turns.specs.Turn.{given}
use Rattle.std.specs.Prelude.{true, ℕ, ◌+◌, ◌≡◌, ◌≤◌}
use Rattle.trace_machine.specs.Machines.{IsKept, turn_at}
use Rattle.trace_machine.specs.declared.machine.Machine.{Machine}

-- at most so many numbers were given, as long as the run isn't over
abbrev pub HasGiven : ℕ → Machine → Type 0
HasGiven n m = is_open (turn_at m) ≡ true → given m.store.state.core ≤ n

-- It goes on, and at most so many more numbers are given.
pub record GoesTo (n : ℕ) (m new : Machine) : Type 0 where
  pub kept : IsKept new
  pub few : (k : ℕ) → HasGiven k m → HasGiven (k + n) new
