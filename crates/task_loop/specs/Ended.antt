-- What the end of a thread between runs leaves of a store where it is refused.
use Rattle.store_notices.specs.Moves.{StopsAt, finishes, moved}
use Rattle.ops_state.specs.declared.error.TaskError.{TaskError}
use Rattle.ops_state.specs.declared.error.TaskError.TheVariants as task_error
use Rattle.std.specs.Option.{option_map_or}
use Rattle.std.specs.Prelude.{List, false, if◌then◌else◌, true, ℕ, ◌++◌, ◌==◌, ◌≡◌, ◌⊎◌}
use Rattle.task_group.specs.Listeners.{AnsweredErr, Listeners, ToldListeners, ToldWithHookOk}
use Rattle.task_loop.specs.Told.{groups_before_call}
use Rattle.machine_data.specs.declared.records.Notice.{Notice}
use Rattle.machine_data.specs.declared.trap.Trap.TheVariants as trap
use Rattle.ops_moves.specs.Gone.{HasEnded}
use Rattle.machine_rules.specs.Ends.{leaves_no_result}
use Rattle.ops_turns.specs.Turn.{running_of}
use Rattle.core_primitives.specs.Groups.{asked, ended_groups, tracked_group}
use Rattle.core_primitives.specs.StateView.{StateView}

-- the group of the thread that runs once this one has ended, as long as it is tracked; default: 0
abbrev pub group_left : ℕ → StateView → ℕ
group_left n s = option_map_or (λ m. if m == n then 0 else tracked_group m s) (running_of s) 0

-- where the thread was the one that ran, its group is left
abbrev pub left_notices : ℕ → StateView → List Notice
left_notices n s = moved (groups_before_call s) (group_left n s)

-- The thread has ended, and what that has finished is told.
pub record EndsTold (n : ℕ) (s t : StateView) (old new : Listeners) : Type 0 where
  -- the state that the end has left
  pub left : StateView
  pub gone : HasEnded n s left
  pub asked : t ≡ asked left
  pub between : Listeners
  pub moved : ToldWithHookOk (left_notices n s) old between
  pub finished : ToldListeners (finishes (ended_groups left)) between new

-- The hook answered an error to the exit from the group of the thread that ran: nothing has ended.
abbrev pub StopsAtExit : ℕ → StateView → Listeners → StateView → Listeners → Type 0
StopsAtExit n s old t new = (t ≡ s) × StopsAt (left_notices n s) old new

-- The end of this thread is refused, for this reason: it would leave a task that hasn't ended without a thread, and then nothing is
-- changed and nothing is told; or it wouldn't, and the hook answered an error, to the exit, or to a finish, and then the thread has ended
-- all the same.
abbrev pub RefusesEnd : ℕ → (why : TaskError) → StateView → Listeners → StateView → Listeners → Type 0
RefusesEnd n why s old t new =
    ((why ≡ task_error.Trap trap.NoAsyncResult) × ((leaves_no_result n s.core ≡ true) × ((t ≡ s) × (new ≡ old))))
    ⊎ ((why ≡ task_error.Trap trap.HookFailed)
    × ((leaves_no_result n s.core ≡ false) × (StopsAtExit n s old t new ⊎ (EndsTold n s t old new × AnsweredErr old new))))
