-- What goes with a record that is deleted.
use Rattle.std.specs.Prelude.{◌≡◌, ℕ, Ok, Some, if◌then◌else◌, ◌⊎◌}
use Rattle.machine_data.specs.Core.{Core}
use Rattle.machine_data.specs.Read.{is_host_call, place_of}
use Rattle.machine_data.specs.declared.records.Place.TheVariants as place
use Rattle.core_records.specs.Kinds.{item_of}
use Rattle.core_records.specs.declared.call_records.GuestTask.{GuestTask}
use Rattle.core_records.specs.declared.parts.CoreParts.{CoreParts}
use Rattle.core_records.specs.declared.thread_records.GuestThread.{GuestThread}
use Rattle.core_records.specs.declared.work_records.WorkRecord.{WorkRecord}
use Rattle.table_lists.specs.GivenPlaces.{given}
use Rattle.task_table.specs.TableAnswers.{item_at}
use Rattle.task_table.specs.declared.id.TableId.{TableId}
use Rattle.task_wait.specs.declared.keys.GuestTaskKey.{GuestTaskKey}
use Rattle.task_wait.specs.declared.keys.HostTaskKey.{HostTaskKey}
use Rattle.task_wait.specs.declared.keys.ThreadKey.{ThreadKey}

-- The places in the resource table that the call had are free: one.
abbrev pub FreesCall : TableId GuestTaskKey → (old new : CoreParts) → Type 0
FreesCall id a b =
    (g : GuestTask) → Ok g ≡ item_at item_of a.calls id.rep id.serial → b.table_places ≡ given g.entry a.table_places

-- those of the thread: its own, and then its set's
abbrev pub FreesThread : TableId ThreadKey → (old new : CoreParts) → Type 0
FreesThread id a b = (g : GuestThread) →
    Ok g ≡ item_at item_of a.threads id.rep id.serial → b.table_places ≡ given g.set_entry (given g.entry a.table_places)

-- that of the work, if it is a call
abbrev pub FreesWork : TableId HostTaskKey → (old new : CoreParts) → Type 0
FreesWork id a b = (w : WorkRecord) → Ok w ≡ item_at item_of a.works id.rep id.serial →
    b.table_places ≡ (if is_host_call w.work then given w.entry a.table_places else a.table_places)

-- The thread is suspended, or runs.
abbrev pub IsSuspendedOrRuns : ℕ → Core → Type 0
IsSuspendedOrRuns n s = (place_of n s ≡ Some place.Suspended) ⊎ (place_of n s ≡ Some place.Running)
