-- What the primitives that make records or remove them do to a core.
use Rattle.std.specs.Prelude.{List, None, Result, Some, true, ℕ, ◌+◌}
use Rattle.task_table.specs.declared.id.TableId.{TableId}
use Rattle.task_wait.specs.declared.keys.GuestTaskKey.{GuestTaskKey}
use Rattle.task_wait.specs.declared.keys.HostTaskKey.{HostTaskKey}
use Rattle.task_wait.specs.declared.keys.SetKey.{SetKey}
use Rattle.task_wait.specs.declared.keys.ThreadKey.{ThreadKey}
use Rattle.machine_data.specs.Core.{Core}
use Rattle.machine_data.specs.Moves.{freed_thread_handle, group_settled}
use Rattle.machine_data.specs.Read.{call_group, call_instance, instance_of, thread_group, thread_handle_of}
use Rattle.machine_data.specs.Write.{add_group, add_set, add_thread, free_handle, give_handle, remove_call, remove_set, remove_thread}
use Rattle.machine_data.specs.declared.component.Callee.{Callee}
use Rattle.machine_data.specs.declared.component.ExportKind.{ExportKind}
use Rattle.machine_data.specs.declared.component.HostDef.{HostDef}
use Rattle.machine_data.specs.declared.records.Caller.{Caller}
use Rattle.machine_data.specs.declared.records.Caller.TheVariants as caller
use Rattle.machine_data.specs.declared.records.Goal.{Goal}
use Rattle.machine_data.specs.declared.records.Goal.TheVariants as goal
use Rattle.machine_data.specs.declared.records.Named.TheVariants as named
use Rattle.machine_data.specs.declared.records.Script.TheVariants as script
use Rattle.machine_data.specs.declared.records.Set.{Set}
use Rattle.machine_data.specs.declared.records.Subtask.TheVariants as subtask
use Rattle.machine_data.specs.declared.records.WorkCaller.TheVariants as work_caller
use Rattle.machine_rules.specs.Calls.{call_made, new_thread, next_thread, next_work, with_handle, with_thread_handle, work_queued}
use Rattle.machine_rules.specs.Scripts.{registers_for}
use Rattle.core_primitives.specs.BecomesRecord.{BecomesBut, MakesGrouped, MakesRecord, names_call, names_set, names_thread, names_work}
use Rattle.core_primitives.specs.StateView.{StateView, call_of, lost_call, lost_set, lost_thread, lost_work, set_of, thread_of, work_of}

-- Something is made, its ids name the next number, and the core is what this makes of it; or it is out of memory, and all is as before.
abbrev pub MakesCall : {E : Type 0} → (Core → Core) → StateView → Result (TableId ThreadKey × TableId GuestTaskKey) E → StateView → Type 0
MakesCall change s = MakesRecord (names_call (next_thread s.core)) (change s.core) s

-- a call in a group of its own
abbrev pub MakesGroupedCall :
    {E : Type 0} → (Core → Core) → StateView → Result (TableId ThreadKey × TableId GuestTaskKey) E → StateView → Type 0
MakesGroupedCall change s = MakesGrouped (names_call (next_thread s.core)) (change s.core) s

abbrev pub MakesThread : {E : Type 0} → (Core → Core) → StateView → Result (TableId ThreadKey) E → StateView → Type 0
MakesThread change s = MakesRecord (names_thread (next_thread s.core)) (change s.core) s

abbrev pub MakesSet : {E : Type 0} → (Core → Core) → StateView → Result (TableId SetKey) E → StateView → Type 0
MakesSet change s = MakesRecord (names_set (s.core.made.sets + 1)) (change s.core) s

abbrev pub MakesWork : {E : Type 0} → (Core → Core) → StateView → Result (TableId HostTaskKey) E → StateView → Type 0
MakesWork change s = MakesRecord (names_work (next_work s.core)) (change s.core) s

-- a call by a thread, in the thread's group
abbrev pub call_by : ℕ → Callee → ExportKind → Goal → (words : List ℕ) → Core → Core
call_by n callee kind goes words s = call_made (caller.Thread n) callee kind goes (thread_group n s) words s

-- a direct one, whose first thread has its handle
abbrev pub direct_call_by : ℕ → Callee → ExportKind → (words : List ℕ) → Core → Core
direct_call_by n callee kind words s =
    with_thread_handle callee.instance (next_thread s) (call_made (caller.Thread n) callee kind goal.Direct (thread_group n s) words s)

-- a call in a group more
abbrev pub grouped_call : Caller → Callee → ExportKind → Goal → (words : List ℕ) → Core → Core
grouped_call maker callee kind goes words s = call_made maker callee kind goes (s.made.groups + 1) words (add_group s)

-- an explicit thread of a call, which has its handle
abbrev pub with_member : ℕ → (slot : ℕ) → (words : List ℕ) → Core → Core
with_member k slot words s =
    with_thread_handle (call_instance k s) (next_thread s) (add_thread (new_thread k true (script.Slot slot) (registers_for words) None) s)

-- a set of an instance, which has its handle
abbrev pub with_named_set : (instance : ℕ) → Set → Core → Core
with_named_set i set s = give_handle i (named.Set (s.made.sets + 1)) (add_set set s)

-- the work of a thread's `call_sync`, in the thread's group, with its push
abbrev pub sync_work : ℕ → HostDef → Core → Core
sync_work n host s = work_queued (work_caller.Sync n) host (Some (thread_group n s)) s

-- that of its `call`, which has a handle
abbrev pub async_work : ℕ → (register : ℕ) → HostDef → Core → Core
async_work n q host s =
    with_handle (instance_of n s) (subtask.Host (next_work s)) (work_queued (work_caller.Async n q) host (Some (thread_group n s)) s)

-- The core is what this makes of it, and nothing names the call any more; all else is named as before.
abbrev pub LosesCallBy : (ℕ → Core → Core) → TableId GuestTaskKey → (old new : StateView) → Type 0
LosesCallBy change id s = BecomesBut (lost_call (call_of s id)) (change (call_of s id) s.core) s

abbrev pub LosesThreadBy : (ℕ → Core → Core) → TableId ThreadKey → (old new : StateView) → Type 0
LosesThreadBy change id s = BecomesBut (lost_thread (thread_of s id)) (change (thread_of s id) s.core) s

abbrev pub LosesSetBy : (ℕ → Core → Core) → TableId SetKey → (old new : StateView) → Type 0
LosesSetBy change id s = BecomesBut (lost_set (set_of s id)) (change (set_of s id) s.core) s

abbrev pub LosesWorkBy : (ℕ → Core → Core) → TableId HostTaskKey → (old new : StateView) → Type 0
LosesWorkBy change id s = BecomesBut (lost_work (work_of s id)) (change (work_of s id) s.core) s

-- without the call, and without its group if nothing of the group is left
abbrev pub call_deleted : ℕ → Core → Core
call_deleted k s = group_settled (call_group k s) (remove_call k s)

-- without the thread and its handle
abbrev pub thread_retired : ℕ → Core → Core
thread_retired n s = remove_thread n (freed_thread_handle (instance_of n s) (thread_handle_of n s) s)

-- without the set and its handle
abbrev pub set_closed : (instance handle : ℕ) → ℕ → Core → Core
set_closed i h x s = remove_set x (free_handle i h s)
