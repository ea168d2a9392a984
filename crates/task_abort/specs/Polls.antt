-- What a poll of the future does to a pass.
use Rattle.std.specs.Prelude.{Option}
use Rattle.futures.specs.declared.task.Poll.{Poll}
use Rattle.machine_data.specs.declared.statuses.Phase.{Phase}
use Rattle.task_abort.specs.Cells.{TellsRunning}
use Rattle.task_abort.specs.Rule.{Calls}
use Rattle.task_abort.specs.declared.log.PassView.{PassView}
use Rattle.task_abort.specs.declared.log.PhaseCall.TheVariants.{PollFuture}

-- A poll of the future is a call that finds some phase, and tells what that says of it.
abbrev pub PollsFuture : {A : Type 0} → (A → Type 0) → (again : Type 0) → PassView → Poll (Option A) → PassView → Type 0
PollsFuture gives again v told w = (found : Phase) × Calls PollFuture v found w × TellsRunning gives again found told
