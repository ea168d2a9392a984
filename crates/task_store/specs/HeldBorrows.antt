-- The end of a task that still holds borrows.
use Rattle.ops_state.specs.declared.error.TaskError.{TaskError}
use Rattle.ops_state.specs.declared.error.TaskError.TheVariants as task_error
use Rattle.std.specs.Option.{option_map_or}
use Rattle.std.specs.Prelude.{Bool, Err, Result, false, nat_lt, not, true, ℕ, ◌&&◌, ◌||◌, ◌≡◌}
use Rattle.machine_data.specs.Core.{Core}
use Rattle.machine_data.specs.Maps.{get}
use Rattle.machine_data.specs.Moves.{passes_check}
use Rattle.machine_data.specs.Read.{cancel_was_delivered, has_ended, instance_of, is_async_lifted, is_sync, kind_of, task_of}
use Rattle.machine_data.specs.declared.trap.Trap.TheVariants as trap
use Rattle.core_primitives.specs.StateView.{StateView}

-- the call holds borrows
abbrev pub holds_borrows : ℕ → Core → Bool
holds_borrows k s = option_map_or (λ c. nat_lt 0 c.borrows) (get s.calls k) false

-- the task of the thread n ends by its return, of its own type or not: neither trap 1 nor trap 3 comes before that
abbrev pub ends_by_return : ℕ → (own_type : Bool) → Core → Bool
ends_by_return n own s = own && (not (has_ended (task_of n s) s) && is_async_lifted (kind_of (task_of n s) s))

-- it ends by the answer to a cancel: neither trap 2 nor trap 1 comes before that
abbrev pub ends_by_cancel : ℕ → Core → Bool
ends_by_cancel n s = cancel_was_delivered (task_of n s) s && not (has_ended (task_of n s) s)

-- that of a direct call ends by its exit: trap 9 isn't before that
abbrev pub ends_by_exit : ℕ → Core → Bool
ends_by_exit n s = is_sync (kind_of (task_of n s) s) || passes_check (instance_of n s) s

-- such an end of a task that still holds borrows
abbrev pub return_holds_borrows : ℕ → (own_type : Bool) → Core → Bool
return_holds_borrows n own s = ends_by_return n own s && holds_borrows (task_of n s) s

abbrev pub cancel_holds_borrows : ℕ → Core → Bool
cancel_holds_borrows n s = ends_by_cancel n s && holds_borrows (task_of n s) s

abbrev pub exit_holds_borrows : ℕ → Core → Bool
exit_holds_borrows n s = ends_by_exit n s && holds_borrows (task_of n s) s

-- what comes of a call that has no answer
abbrev pub Comes : Type 1
Comes = StateView → Result (Unit {0}) TaskError → StateView → Type 0

-- where the task still holds borrows, the end is refused with trap 19, and nothing is changed; else this comes of it
abbrev pub UnlessBorrowed : Bool → Comes → Comes
UnlessBorrowed true comes s r t = (r ≡ Err (task_error.Trap trap.ScopeExit)) × (t ≡ s)
UnlessBorrowed false comes s r t = comes s r t
