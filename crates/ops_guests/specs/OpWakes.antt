-- Who is given an entry where the end of a call is told.
use Rattle.std.specs.Prelude.{Bool, None, Option, Some, false, true, ℕ, ◌&&◌, ◌==◌, ◌≡◌, ◌||◌}
use Rattle.machine_data.specs.Core.{Core}
use Rattle.machine_data.specs.Read.{blocked_on, instance_of, is_waiter}
use Rattle.machine_data.specs.declared.records.Subtask.TheVariants as subtask
use Rattle.machine_rules.specs.Ends.{is_told}

-- the thread, if there is one, is of the instance
abbrev pub is_of : ℕ → Option ℕ → Core → Bool
is_of i None s = false
is_of i (Some n) s = instance_of n s == i

-- a thread of the instance is: who is blocked on the call, or this waiter
abbrev pub wakes_in : ℕ → ℕ → Option ℕ → Core → Bool
wakes_in i k w s = is_told k s && (is_of i (blocked_on (subtask.Guest k) s) s || is_of i w s)

-- Waiters of one set are of one instance.
abbrev pub WaitersTogether : Core → Type 0
WaitersTogether s = (x n m : ℕ) → is_waiter x n s ≡ true → is_waiter x m s ≡ true → instance_of n s ≡ instance_of m s
