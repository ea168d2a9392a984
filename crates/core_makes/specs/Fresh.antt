-- The records that are made, with what is made and taken for them.
use Rattle.std.specs.Prelude.{List, ◌+◌, ℕ, Bool}
use Rattle.machine_data.specs.Core.{Core}
use Rattle.machine_data.specs.declared.records.Call.{Call}
use Rattle.machine_data.specs.declared.records.Thread.{Thread}
use Rattle.machine_rules.specs.Calls.{call_made, next_thread, with_thread_handle}
use Rattle.core_makes.specs.declared.call_entries.Entries.{Entries}
use Rattle.core_makes.specs.declared.node_makes.CallNodes.{CallNodes}
use Rattle.core_makes.specs.declared.node_makes.ThreadNodes.{ThreadNodes}
use Rattle.core_makes.specs.declared.record_makes.Request.{Request}
use Rattle.core_primitives.specs.Records.{grouped_call}
use Rattle.core_records.specs.declared.call_records.GuestTask.{GuestTask}
use Rattle.core_records.specs.declared.call_records.TaskGroup.{TaskGroup}
use Rattle.core_records.specs.declared.parts.CoreParts.{CoreParts}
use Rattle.core_records.specs.declared.thread_records.GuestThread.{GuestThread}
use Rattle.table_lists.specs.GivenPlaces.{Places, next_place, taken}

-- the next places, of the call, of the thread's own set and of the thread
abbrev pub next_entries : Places → Entries
next_entries p = record { task = next_place p; set = next_place (taken p); thread = next_place (taken (taken p)) }

-- a call under its number, in the group at a place
abbrev pub call_record : (number : ℕ) → Call → (maker group entry : ℕ) → CallNodes → GuestTask
call_record number call maker group entry nodes = record {
  number = number;
  call = call;
  maker = maker;
  first = 0;
  joined = 0;
  group = group;
  entry = entry;
  threads = 1;
  ready = nodes.ready;
  blocked = nodes.blocked;
  waits = nodes.waits;
}

-- a thread under its number, of the call at a place
abbrev pub thread_record : (number : ℕ) → Thread → (task instance : ℕ) → (barred : Bool) → Entries → ThreadNodes → GuestThread
thread_record number thread task instance barred entries nodes = record {
  number = number;
  thread = thread;
  task = task;
  instance = instance;
  task_entry = entries.task;
  entry = entries.thread;
  set_entry = entries.set;
  state_target = 0;
  op_target = 0;
  barred = barred;
  node = nodes.node;
  wait = nodes.wait;
  mark = nodes.mark;
  instance_queue = nodes.instance_queue;
  caller = nodes.caller;
  callers = nodes.callers;
  under = nodes.under;
}

-- the group that is made next, with no call yet, at this place of the resource table
abbrev pub new_group : CoreParts → (entry : ℕ) → TaskGroup
new_group a entry = record { number = a.made.groups + 1; calls = 0; entry = entry }

-- the call that is asked for, in a group
abbrev pub requested : Request → (group : ℕ) → (words : List ℕ) → Core → Core
requested q group words = call_made q.caller q.callee q.kind q.goal group words

-- its first thread has its handle
abbrev pub requested_with_handle : Request → (group : ℕ) → (words : List ℕ) → Core → Core
requested_with_handle q group words s = with_thread_handle q.callee.instance (next_thread s) (requested q group words s)

-- in a group more
abbrev pub requested_grouped : Request → (words : List ℕ) → Core → Core
requested_grouped q words = grouped_call q.caller q.callee q.kind q.goal words
