-- A work that a store holds, with its cell.
use Rattle.store_works.specs.declared.joined.JoinedWork.{JoinedWork}
use Rattle.task_abort.specs.Cells.{own_view}
use Rattle.task_abort.specs.PhaseLog.{phase}
use Rattle.machine_data.specs.declared.statuses.Phase.{Phase}

abbrev pub joined_work : {H : Type 0} → JoinedWork H → H
joined_work joined = joined.work

-- what the calls on the store's pass have left, which are all calls on the cell
abbrev pub joined_phase : {H : Type 0} → JoinedWork H → Phase
joined_phase joined = phase (own_view joined.cell).seen
