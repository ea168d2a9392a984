-- The machine's records for those that name others by ids.
use Rattle.std.specs.Prelude.{ℕ}
use Rattle.machine_data.specs.declared.records.Caller.{Caller}
use Rattle.machine_data.specs.declared.records.Caller.TheVariants as caller
use Rattle.machine_data.specs.declared.records.Delivery.{Delivery}
use Rattle.machine_data.specs.declared.records.Delivery.TheVariants as delivery
use Rattle.machine_data.specs.declared.records.Entry.{Entry}
use Rattle.machine_data.specs.declared.records.Entry.TheVariants as entry
use Rattle.machine_data.specs.declared.records.OpProgress.{OpProgress}
use Rattle.machine_data.specs.declared.records.OpProgress.TheVariants as op_progress
use Rattle.machine_data.specs.declared.records.Join.{Join}
use Rattle.machine_data.specs.declared.records.Join.TheVariants as join
use Rattle.machine_data.specs.declared.records.Place.{Place}
use Rattle.machine_data.specs.declared.records.Place.TheVariants as place
use Rattle.machine_data.specs.declared.records.Subtask.{Subtask}
use Rattle.machine_data.specs.declared.records.Subtask.TheVariants as subtask
use Rattle.machine_data.specs.declared.records.Why.{Why}
use Rattle.machine_data.specs.declared.records.Why.TheVariants as why
use Rattle.machine_data.specs.declared.records.WorkCaller.{WorkCaller}
use Rattle.machine_data.specs.declared.records.WorkCaller.TheVariants as work_caller
use Rattle.core_primitives.specs.StateView.{Tags, call_number, set_number, thread_number, work_number}
use Rattle.core_primitives.specs.declared.names.CallerId.{CallerId}
use Rattle.core_primitives.specs.declared.names.CallerId.TheVariants as callers
use Rattle.core_primitives.specs.declared.names.DeliveryId.{DeliveryId}
use Rattle.core_primitives.specs.declared.names.DeliveryId.TheVariants as deliveries
use Rattle.core_primitives.specs.declared.names.EntryId.{EntryId}
use Rattle.core_primitives.specs.declared.names.EntryId.TheVariants as entries
use Rattle.core_primitives.specs.declared.names.OpProgressId.{OpProgressId}
use Rattle.core_primitives.specs.declared.names.OpProgressId.TheVariants as op_progresses
use Rattle.core_primitives.specs.declared.names.JoinId.{JoinId}
use Rattle.core_primitives.specs.declared.names.JoinId.TheVariants as joins
use Rattle.core_primitives.specs.declared.names.PlaceId.{PlaceId}
use Rattle.core_primitives.specs.declared.names.PlaceId.TheVariants as places
use Rattle.core_primitives.specs.declared.names.SubtaskId.{SubtaskId}
use Rattle.core_primitives.specs.declared.names.SubtaskId.TheVariants as subtasks
use Rattle.core_primitives.specs.declared.names.WhyId.{WhyId}
use Rattle.core_primitives.specs.declared.names.WhyId.TheVariants as whys
use Rattle.core_primitives.specs.declared.names.WorkCallerId.{WorkCallerId}
use Rattle.core_primitives.specs.declared.names.WorkCallerId.TheVariants as work_callers

abbrev pub subtask_in : Tags → SubtaskId → Subtask
subtask_in tags (subtasks.Guest id) = subtask.Guest (call_number tags id)
subtask_in tags (subtasks.Host id) = subtask.Host (work_number tags id)

-- the number of the call or the work
abbrev pub number_in : Tags → SubtaskId → ℕ
number_in tags (subtasks.Guest id) = call_number tags id
number_in tags (subtasks.Host id) = work_number tags id

abbrev pub delivery_in : Tags → DeliveryId → Delivery
delivery_in tags (deliveries.Set id) = delivery.Set (set_number tags id)
delivery_in tags deliveries.Yield = delivery.Yield
delivery_in tags deliveries.Cancel = delivery.Cancel

abbrev pub why_in : Tags → WhyId → Why
why_in tags whys.Start = why.Start
why_in tags (whys.Delivery d) = why.Delivery (delivery_in tags d)
why_in tags whys.Resumption = why.Resumption

abbrev pub place_in : Tags → PlaceId → Place
place_in tags places.New = place.New
place_in tags (places.Ready m w) = place.Ready m (why_in tags w)
place_in tags places.Running = place.Running
place_in tags (places.Under id) = place.Under (thread_number tags id)
place_in tags (places.Behind id) = place.Behind (thread_number tags id)
place_in tags (places.Waiting id by_callback) = place.Waiting (set_number tags id) by_callback
place_in tags (places.Blocked sub) = place.Blocked (subtask_in tags sub)
place_in tags (places.Held w) = place.Held (why_in tags w)
place_in tags places.Suspended = place.Suspended

abbrev pub op_progress_in : Tags → OpProgressId → OpProgress
op_progress_in tags op_progresses.Fresh = op_progress.Fresh
op_progress_in tags (op_progresses.Waits id) = op_progress.Waits (set_number tags id)
op_progress_in tags (op_progresses.Calls sub) = op_progress.Calls (subtask_in tags sub)
op_progress_in tags (op_progresses.Answered v) = op_progress.Answered v
op_progress_in tags (op_progresses.Cancels sub) = op_progress.Cancels (subtask_in tags sub)
op_progress_in tags (op_progresses.AwaitsEnd sub) = op_progress.AwaitsEnd (subtask_in tags sub)
op_progress_in tags op_progresses.Suspends = op_progress.Suspends
op_progress_in tags op_progresses.Yields = op_progress.Yields

abbrev pub join_in : Tags → JoinId → Join
join_in tags joins.Nowhere = join.Nowhere
join_in tags (joins.Set id) = join.Set (set_number tags id)
join_in tags (joins.Watched id) = join.Watched (thread_number tags id)

abbrev pub caller_in : Tags → CallerId → Caller
caller_in tags callers.Main = caller.Main
caller_in tags (callers.Thread id) = caller.Thread (thread_number tags id)

abbrev pub work_caller_in : Tags → WorkCallerId → WorkCaller
work_caller_in tags work_callers.Spawn = work_caller.Spawn
work_caller_in tags (work_callers.Async id r) = work_caller.Async (thread_number tags id) r
work_caller_in tags (work_callers.Sync id) = work_caller.Sync (thread_number tags id)

abbrev pub entry_in : Tags → EntryId → Entry
entry_in tags (entries.Thread id) = entry.Thread (thread_number tags id)
entry_in tags (entries.Push id) = entry.Push (work_number tags id)
entry_in tags (entries.Host id) = entry.Host (work_number tags id)
