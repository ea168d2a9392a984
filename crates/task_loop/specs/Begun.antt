-- What a call that begins a group, for a start or for a new task, tells where it isn't made.
use Rattle.store_notices.specs.Moves.{StopsAt, finishes}
use Rattle.ops_state.specs.declared.error.TaskError.{TaskError}
use Rattle.ops_state.specs.declared.error.TaskError.TheVariants as task_error
use Rattle.ops_state.specs.declared.name_calls.QualifiedThreadId.{QualifiedThreadId}
use Rattle.std.specs.Prelude.{Bool, List, None, Ok, Option, Some, [], false, true, ℕ, ◌∷◌, ◌≡◌, ◌≢◌, ◌⊎◌}
use Rattle.ops_calls.specs.Tasks.{Begins}
use Rattle.task_group.specs.Listeners.{AnsweredErr, Listeners, ToldListeners, ToldWithHookOk}
use Rattle.task_loop.specs.Told.{begun_notices, finish_of_group, start_of_group}
use Rattle.machine_data.specs.Core.{Core}
use Rattle.machine_data.specs.declared.component.ExportKind.{ExportKind}
use Rattle.machine_data.specs.declared.records.Notice.{Notice}
use Rattle.machine_data.specs.declared.trap.Trap.TheVariants as trap
use Rattle.core_primitives.specs.Groups.{asked, ended_groups}
use Rattle.core_primitives.specs.StateView.{StateView}

-- the next group starts, and finishes again
abbrev pub start_and_finish : Core → List Notice
start_and_finish s = start_of_group s ∷ finish_of_group s ∷ []

-- The next group isn't made, for this reason. It was to start, and to finish again if it was out of memory then; the hook refused
-- it by an error to one of both. If it was out of memory without a hook, or the call was refused by another trap, nothing was told.
pub record TellsUnmade (why : TaskError) (s : Core) (old new : Listeners) : Type 0 where
  pub hooked : why ≡ task_error.Trap trap.HookFailed → StopsAt (start_and_finish s) old new
  pub out_of_memory : why ≡ task_error.NoMemory → (new ≡ old) ⊎ ToldWithHookOk (start_and_finish s) old new
  pub refused : why ≢ task_error.Trap trap.HookFailed → why ≢ task_error.NoMemory → new ≡ old

-- an error of the hook is that reason
abbrev pub HookIsReason : Type 0
HookIsReason = (why : TaskError) (s : Core) (old new : Listeners) → TellsUnmade why s old new → AnsweredErr old new → why ≡ task_error.Trap trap.HookFailed

-- After a start that was refused, or for which it was out of memory, all tracked groups finish, and errors to that are passed over.
pub record TellsStopped (why : TaskError) (s : StateView) (old new : Listeners) : Type 0 where
  pub between : Listeners
  pub told : TellsUnmade why s.core old between
  pub finished : ToldListeners (finishes s.tags.tracked) between new

-- ---- A new task

-- a task with a caller makes no group, and tells nothing if it isn't made
abbrev pub LeavesTask : Option QualifiedThreadId → TaskError → Core → Listeners → Listeners → Type 0
LeavesTask (Some id) why s old new = new ≡ old
LeavesTask None why s old new = TellsUnmade why s old new

-- in a trapped store all groups have ended, and they finish; else nothing is told, nor asked
abbrev pub SettlesGroups : (trapped : Bool) → (left t : StateView) → (old new : Listeners) → Type 0
SettlesGroups true left t old new = (t ≡ asked left) × ToldListeners (finishes (ended_groups left)) old new
SettlesGroups false left t old new = (t ≡ left) × (new ≡ old)

-- The task was made. Its group starts if it has no caller, and finishes at once in a trapped store.
pub record MakesTold (x : ExportKind) (i : ℕ) (f : Option QualifiedThreadId) (room : Bool) (s : StateView) (id : QualifiedThreadId)
    (t : StateView) (old new : Listeners) : Type 0 where
  -- the state that the call has left
  pub left : StateView
  pub begins : Begins x i f s room (Ok id) left
  pub between : Listeners
  pub begun : ToldWithHookOk (begun_notices f s.core) old between
  pub settles : SettlesGroups left.core.trapped left t between new

-- A new task isn't answered, for this reason: it wasn't made; or the hook answered an error to a finish after it was.
abbrev pub EndsUnmade : ExportKind → ℕ → Option QualifiedThreadId → (room : Bool) → TaskError → StateView → Listeners → StateView →
    Listeners → Type 0
EndsUnmade x i f room why s old t new =
    ((t ≡ s) × LeavesTask f why s.core old new)
    ⊎ ((why ≡ task_error.Trap trap.HookFailed) × (((id : QualifiedThreadId) × MakesTold x i f room s id t old new) × AnsweredErr old new))
