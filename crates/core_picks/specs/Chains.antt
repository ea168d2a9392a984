-- The chain of the threads of a call that wait.
use Rattle.std.specs.Prelude.{◌≡◌, Ok, Some, ℕ}
use Rattle.core_records.specs.Kinds.{item_of}
use Rattle.core_records.specs.declared.call_records.GuestTask.{GuestTask}
use Rattle.core_records.specs.declared.parts.CoreParts.{CoreParts}
use Rattle.task_table.specs.TableAnswers.{item_at}
use Rattle.task_table.specs.declared.id.TableId.{TableId}
use Rattle.task_wait.specs.declared.keys.GuestTaskKey.{GuestTaskKey}

-- The call that the id names has this chain.
abbrev pub IsChainOf : CoreParts → TableId GuestTaskKey → ℕ → Type 0
IsChainOf a id chain = (g : GuestTask) → Ok g ≡ item_at item_of a.calls id.rep id.serial → g.waits ≡ Some chain
