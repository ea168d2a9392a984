-- What the numbers in records name, and where it is.
use Rattle.std.specs.Prelude.{◌≡◌, ◌<◌, ◌≤◌, ◌&&◌, ℕ, Bool, Option, Some, IsSome, is_some, slice_get}
use Rattle.task_handles.specs.Handles.{held_by}
use Rattle.task_handles.specs.declared.kinds.HandleKind.{HandleKind}
use Rattle.task_handles.specs.declared.kinds.HandleKind.TheVariants as handle
use Rattle.task_handles.specs.declared.kinds.HeldItem.{HeldItem}
use Rattle.task_handles.specs.declared.kinds.Rep.{Rep}
use Rattle.task_handles.specs.declared.kinds.WaitableKind.TheVariants as waitable
use Rattle.machine_data.specs.Read.{call_instance, is_async_lifted, is_second, kind_of, thread_at}
use Rattle.machine_data.specs.declared.component.ExportKind.{ExportKind}
use Rattle.machine_data.specs.declared.scenario.Version.{Version}
use Rattle.machine_data.specs.declared.records.Caller.{Caller}
use Rattle.machine_data.specs.declared.records.Caller.TheVariants as caller
use Rattle.machine_data.specs.declared.records.Delivery.TheVariants as delivery
use Rattle.machine_data.specs.declared.records.OpProgress.{OpProgress}
use Rattle.machine_data.specs.declared.records.OpProgress.TheVariants as op_progress
use Rattle.machine_data.specs.declared.records.Join.{Join}
use Rattle.machine_data.specs.declared.records.Join.TheVariants as join
use Rattle.machine_data.specs.declared.records.MadeCounts.{MadeCounts}
use Rattle.machine_data.specs.declared.records.Place.{Place}
use Rattle.machine_data.specs.declared.records.Place.TheVariants as place
use Rattle.machine_data.specs.declared.records.Subtask.{Subtask}
use Rattle.machine_data.specs.declared.records.Thread.{Thread}
use Rattle.machine_data.specs.declared.records.Subtask.TheVariants as subtask
use Rattle.machine_data.specs.declared.records.Why.{Why}
use Rattle.machine_data.specs.declared.records.Why.TheVariants as why
use Rattle.machine_data.specs.declared.records.WorkCaller.{WorkCaller}
use Rattle.machine_data.specs.declared.records.WorkCaller.TheVariants as work_caller
use Rattle.core_records.specs.Image.{CoreImage, core_of}
use Rattle.core_records.specs.Keys.{call_key, group_key, set_key, thread_key, work_key}
use Rattle.core_records.specs.declared.call_records.GuestTask.{GuestTask}
use Rattle.core_records.specs.declared.instance_records.InstanceRecord.{InstanceRecord}
use Rattle.core_records.specs.declared.set_records.WaitSet.{WaitSet}
use Rattle.core_records.specs.declared.single.Single.{Single}
use Rattle.core_records.specs.declared.thread_records.GuestThread.{GuestThread}
use Rattle.core_records.specs.declared.work_records.WorkRecord.{WorkRecord}
use Rattle.task_table.specs.Records.{found_record, number_in, record_at}
use Rattle.task_table.specs.Table.{Table}
use Rattle.core_primitives.specs.Barred.{bars_start}

-- What a number names, by kind.
pub data Target : Type 0 where
  Nothing : Target
  ThreadOf : (number : ℕ) → Target
  CallOf : (number : ℕ) → Target
  WorkOf : (number : ℕ) → Target
  SetOf : (number : ℕ) → Target

abbrev pub subtask_target : Subtask → Target
subtask_target (subtask.Guest k) = CallOf k
subtask_target (subtask.Host i) = WorkOf i

abbrev pub why_target : Why → Target
why_target (why.Delivery (delivery.Set x)) = SetOf x
why_target _ = Nothing

abbrev pub place_target : Place → Target
place_target (place.Ready m w) = why_target w
place_target (place.Under n) = ThreadOf n
place_target (place.Behind n) = ThreadOf n
place_target (place.Waiting x by_callback) = SetOf x
place_target (place.Blocked sub) = subtask_target sub
place_target (place.Held w) = why_target w
place_target _ = Nothing

abbrev pub op_progress_target : OpProgress → Target
op_progress_target (op_progress.Waits x) = SetOf x
op_progress_target (op_progress.Calls sub) = subtask_target sub
op_progress_target (op_progress.Cancels sub) = subtask_target sub
op_progress_target (op_progress.AwaitsEnd sub) = subtask_target sub
op_progress_target _ = Nothing

abbrev pub join_target : Join → Target
join_target join.Nowhere = Nothing
join_target (join.Set x) = SetOf x
join_target (join.Watched n) = ThreadOf n

abbrev pub caller_target : Caller → Target
caller_target caller.Main = Nothing
caller_target (caller.Thread n) = ThreadOf n

abbrev pub work_caller_target : WorkCaller → Target
work_caller_target work_caller.Spawn = Nothing
work_caller_target (work_caller.Async n r) = ThreadOf n
work_caller_target (work_caller.Sync n) = ThreadOf n

-- What is at the place has the number.
abbrev pub HasNumber : {E X : Type 0} → (E → Option (ℕ × X)) → Table E → ℕ → ℕ → Type 0
HasNumber key t rep n = number_in (record_at key t.places rep) ≡ n

-- The record of the number, if there is one, is at the place.
abbrev pub StandsAt : {E X : Type 0} → (E → Option (ℕ × X)) → Table E → ℕ → ℕ → Type 0
StandsAt key t rep n = IsSome (found_record key n t.places) → HasNumber key t rep n

-- The tables in which what is named is, and how many were made.
pub record Kinds : Type 0 where
  pub threads : Table (Single GuestThread)
  pub calls : Table (Single GuestTask)
  pub works : Table (Single WorkRecord)
  pub sets : Table (Single WaitSet)
  pub made : MadeCounts

abbrev pub kinds : CoreImage → Kinds
kinds p = record { threads = p.threads; calls = p.calls; works = p.works; sets = p.sets; made = p.made }

-- What is named was made and, if it is there, is at the place.
abbrev pub IsNamedAt : Kinds → ℕ → Target → Type 0
IsNamedAt p rep Nothing = Unit {0}
IsNamedAt p rep (ThreadOf n) = (n ≤ p.made.threads) × StandsAt thread_key p.threads rep n
IsNamedAt p rep (CallOf k) = (k ≤ p.made.threads) × StandsAt call_key p.calls rep k
IsNamedAt p rep (WorkOf i) = (i ≤ p.made.works) × StandsAt work_key p.works rep i
IsNamedAt p rep (SetOf x) = (x ≤ p.made.sets) × StandsAt set_key p.sets rep x

abbrev pub AtPlace : CoreImage → ℕ → Target → Type 0
AtPlace p rep t = IsNamedAt (kinds p) rep t

-- Where a `wait` may take Cancelled the waiting threads of a call are kept beside the sets.
abbrev pub keeps_waits : Version → ExportKind → Bool
keeps_waits v kind = is_second v && is_async_lifted kind

-- A thread's call is there, in an instance that is there.
pub record HasHome (p : CoreImage) (g : GuestThread) : Type 0 where
  pub call : HasNumber call_key p.calls g.task g.thread.call
  pub there : 0 < g.thread.call
  pub instance : call_instance g.thread.call (core_of p) ≡ g.instance
  pub barred : bars_start g.thread.explicit (kind_of g.thread.call (core_of p)) ≡ g.barred
  pub within : IsSome (slice_get p.instances g.instance)
  pub waits : keeps_waits p.version (kind_of g.thread.call (core_of p)) ≡ is_some g.wait
  pub place : AtPlace p g.state_target (place_target g.thread.place)
  pub op_progress : AtPlace p g.op_target (op_progress_target g.thread.op_progress)

-- The handle that a thread has, if it has one, names it.
abbrev pub OwnsHandle : CoreImage → GuestThread → Type 0
OwnsHandle p g = (h : ℕ) → g.thread.handle ≡ Some h → thread_at g.instance h (core_of p) ≡ Some g.number

-- What a call names; its first thread has its number.
pub record IsCallNamed (p : CoreImage) (g : GuestTask) : Type 0 where
  pub caller : AtPlace p g.maker (caller_target g.call.caller)
  pub first : AtPlace p g.first (ThreadOf g.number)
  pub join : AtPlace p g.joined (join_target g.call.join)
  pub group : HasNumber group_key p.groups g.group g.call.group
  pub positive : 0 < g.call.group
  pub waits : keeps_waits p.version g.call.kind ≡ is_some g.waits

-- What a host work names.
pub record IsWorkNamed (p : CoreImage) (w : WorkRecord) : Type 0 where
  pub caller : AtPlace p w.maker (work_caller_target w.work.caller)
  pub join : AtPlace p w.joined (join_target w.work.join)
  pub group : (n : ℕ) → w.work.group ≡ Some n → HasNumber group_key p.groups w.group n × (0 < n)

-- A handle is of a subtask or of a set; the number that it keeps is the machine's.
abbrev pub IsHeldNamed : Kinds → HandleKind → Rep → Type 0
IsHeldNamed p (handle.Waitable waitable.GuestSubtask) r = IsNamedAt p r.id (CallOf r.serial)
IsHeldNamed p (handle.Waitable waitable.HostSubtask) r = IsNamedAt p r.id (WorkOf r.serial)
IsHeldNamed p (handle.Waitable _) r = ⊥
IsHeldNamed p handle.Set r = IsNamedAt p r.id (SetOf r.serial)

-- What the handles of an instance name.
pub record AreHandlesNamed (p : Kinds) (i : InstanceRecord) : Type 0 where
  pub small : (h : ℕ) (x : HeldItem) → held_by i.handles h ≡ Some x → h ≤ 268435455
  pub small_threads : (h : ℕ) (r : Rep) → held_by i.thread_handles h ≡ Some r → h ≤ 268435455
  pub handles : (h : ℕ) (x : HeldItem) → held_by i.handles h ≡ Some x → IsHeldNamed p x.kind x.rep
  pub thread_handles : (h : ℕ) (r : Rep) → held_by i.thread_handles h ≡ Some r → IsNamedAt p r.id (ThreadOf r.serial)
