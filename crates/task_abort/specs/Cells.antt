-- Which cell a handle, a work and a pass belong to, what a pass knows, and what a poll answers.
use Rattle.task_abort.specs.PhaseLog.{first_view}
use Rattle.std.specs.Prelude.{◌≡◌, ◌≢◌, ℕ, Option, Some, None}
use Rattle.std.specs.Arc.{arc_value}
use Rattle.atomic_table.specs.Seated.{TableId}
use Rattle.futures.specs.declared.task.Poll.{Poll}
use Rattle.futures.specs.declared.task.Poll.TheVariants.{Ready, Pending}
use Rattle.machine_data.specs.declared.statuses.Phase.{Phase}
use Rattle.machine_data.specs.declared.statuses.Phase.TheVariants.{Running, Complete}
use Rattle.task_abort.specs.declared.log.PassView.{PassView}
use Rattle.task_abort.specs.declared.cell.JoinHandle.{JoinHandle}
use Rattle.task_abort.specs.declared.cell.Abortable.{Abortable}
use Rattle.task_abort.specs.declared.cell.JoinPass.{JoinPass}
use Rattle.task_abort.specs.declared.cell.OwnCell.{OwnCell}

-- no other cell has the same
abbrev pub CellId : Type 0
CellId = TableId

abbrev pub handle_cell : JoinHandle → CellId
handle_cell h = (arc_value h.cell).phase.shared.table_id

abbrev pub work_cell : {F : Type 0} → Abortable F → CellId
work_cell a = (arc_value a.cell).phase.shared.table_id

abbrev pub pass_cell : JoinPass → CellId
pass_cell p = p.seat.table_id

-- the sources that a registered poll of the future waits for, and a registered poll of the handle
abbrev pub abort_source : {F : Type 0} → Abortable F → ℕ
abort_source a = (arc_value a.cell).aborts.id

abbrev pub end_source : JoinHandle → ℕ
end_source h = (arc_value h.cell).ends.id

-- the work itself
abbrev pub work_of : {F : Type 0} → Abortable F → F
work_of a = a.future

abbrev pub with_work : {F : Type 0} → Abortable F → F → Abortable F
with_work a f = record a { future = f }

abbrev pub view_of : JoinPass → PassView
view_of p = p.seat.me.0

-- what the pass of a cell with one owner has seen and done
abbrev pub own_view : OwnCell → PassView
own_view cell = view_of cell.pass

-- a poll of the handle is ready exactly where it found Complete
abbrev pub TellsComplete : {A : Type 0} → Phase → Poll A → Type 0
TellsComplete found (Ready x) = found ≡ Complete
TellsComplete found Pending = found ≢ Complete

abbrev pub GaveOutput : {A : Type 0} → (A → Type 0) → Phase → Option A → Type 0
GaveOutput gives found (Some x) = (found ≡ Running) × gives x
GaveOutput gives found None = found ≢ Running

-- A poll of the future gives no output exactly where it found another phase than Running; else it is the future's own poll, which
-- gives such an output, or is pending and may be made again
abbrev pub TellsRunning : {A : Type 0} → (A → Type 0) → Type 0 → Phase → Poll (Option A) → Type 0
TellsRunning gives again found (Ready x) = GaveOutput gives found x
TellsRunning gives again found Pending = (found ≡ Running) × again

-- They are of one cell, of this work, and nothing has been called.
abbrev pub AreMadeOf : {F : Type 0} → F → JoinHandle × Abortable F × JoinPass → Type 0
AreMadeOf future r =
    (pass_cell r.2 ≡ handle_cell r.0) × (work_cell r.1 ≡ handle_cell r.0) × (work_of r.1 ≡ future) × (view_of r.2 ≡ first_view)
