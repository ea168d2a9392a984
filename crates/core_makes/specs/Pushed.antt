-- What a make of records asks, and what it changed, so that it can be taken back.
use Rattle.machine_data.specs.declared.records.Caller.TheVariants as callers
use Rattle.machine_data.specs.Write.{add_call, add_thread}
use Rattle.machine_data.specs.Core.{Core}
use Rattle.task_wait.specs.declared.keys.SetKey.{SetKey}
use Rattle.task_table.specs.Table.{IsTable}
use Rattle.core_records.specs.Names.{keeps_waits}
use Rattle.core_records.specs.declared.set_records.WaitSet.{WaitSet}
use Rattle.core_makes.specs.Fresh.{new_group}
use Rattle.core_makes.specs.Ends.{HasEndRoom}
use Rattle.core_makes.specs.Counted.{IsGroupMore, IsSetMore, IsCallWithThreadLess}
use Rattle.core_makes.specs.Member.{IsMember}
use Rattle.core_makes.specs.CallThread.{IsCallWithThread}
use Rattle.core_makes.specs.Loose.{AreSetLoose}
use Rattle.std.specs.Prelude.{◌≡◌, ◌+◌, ◌<◌, ◌≤◌, ◌^◌, ℕ, IsSome, is_some, List, Ok, length, true, None}
use Rattle.core_makes.specs.LooseCalls.{AreCallAndThreadLoose, AreNextLoose, AreThreadLoose, call_nodes_of, thread_nodes_of}
use Rattle.core_makes.specs.declared.node_makes.CallNodes.{CallNodes}
use Rattle.core_makes.specs.declared.node_makes.ThreadNodes.{ThreadNodes}
use Rattle.core_makes.specs.declared.record_makes.Request.{Request}
use Rattle.machine_data.specs.Maps.{get}
use Rattle.machine_data.specs.Read.{fits}
use Rattle.machine_data.specs.declared.records.Goal.TheVariants as goals
use Rattle.core_records.specs.Image.{HasRoom}
use Rattle.core_records.specs.Kinds.{entry_of, item_of}
use Rattle.core_records.specs.Seen.{IsSoundCore, parts_of, seen}
use Rattle.core_records.specs.Sound.{bare, bare_call, bare_thread}
use Rattle.core_records.specs.declared.call_records.GuestTask.{GuestTask}
use Rattle.core_records.specs.declared.call_records.TaskGroup.{TaskGroup}
use Rattle.core_records.specs.declared.parts.CoreParts.{CoreParts}
use Rattle.core_records.specs.declared.thread_records.GuestThread.{GuestThread}
use Rattle.task_table.specs.TableAnswers.{item_at}
use Rattle.task_table.specs.Changes.{next_place, pushed, with_entry, deleted}
use Rattle.task_table.specs.declared.id.TableId.{TableId}
use Rattle.task_wait.specs.declared.keys.GroupKey.{GroupKey}
use Rattle.task_wait.specs.declared.keys.GuestTaskKey.{GuestTaskKey}
use Rattle.task_wait.specs.declared.keys.ThreadKey.{ThreadKey}

-- There is room for both and for a result that goes to main, and the group and the callee's instance are there.
pub record MayAdd
    (a : CoreParts) (id : TableId GroupKey) (of : TaskGroup) (request : Request) (given : List ℕ) (nodes : CallNodes × ThreadNodes) : Type 0 where
  pub sound : IsSoundCore a
  pub words : length given ≤ 16
  pub few : (seen a).core.made.threads + 1 < 2 ^ 64
  pub room : fits 3 (seen a).core ≡ true
  pub group : Ok of ≡ item_at item_of a.groups id.rep id.serial
  pub there : IsSome (get (seen a).core.instances request.callee.instance)
  pub result : request.goal ≡ goals.Main → HasRoom (a.made.threads + 1) a.results
  pub loose : AreNextLoose a request.kind nodes

-- There is room for a call of this group and for its first thread, what they have hangs on nothing yet, and the group is there.
pub record MayPushCallWithThread (a : CoreParts) (id : TableId GroupKey) (of : TaskGroup) (call : GuestTask) (thread : GuestThread) : Type 0 where
  pub few : a.made.threads + 1 < 2 ^ 64
  pub room : fits 3 (seen a).core ≡ true
  pub group : Ok of ≡ item_at item_of a.groups id.rep id.serial
  pub place : call.group ≡ id.rep
  pub of_group : of.number ≡ call.call.group
  pub next : IsCallWithThread (bare (parts_of a)) (bare_call (record call { first = next_place a.threads }))
      (bare_thread (record thread { task = next_place a.calls }))
  pub loose : AreCallAndThreadLoose (bare (parts_of a)) (keeps_waits a.version call.call.kind) (call_nodes_of call) (thread_nodes_of thread)
  pub unnamed : thread.thread.handle ≡ None
  pub interests : call.call.interesting ≡ true

-- a call more, with its first thread
abbrev pub with_call_and_thread : GuestTask → GuestThread → Core → Core
with_call_and_thread call thread s = add_thread thread.thread (add_call call.number call.call s)

-- A call more, of this group, and its first thread.
pub record PushesCallWithThread
    (a b : CoreParts) (id : TableId GroupKey) (group : TaskGroup) (first : TableId ThreadKey) (task : TableId GuestTaskKey) : Type 0 where
  pub thread : GuestThread
  pub call : GuestTask
  pub threads : b.threads ≡ pushed (entry_of thread) a.threads
  pub calls : b.calls ≡ pushed (entry_of call) a.calls
  pub groups : b.groups ≡ with_entry id.rep (entry_of (record group { calls = group.calls + 1 })) a.groups
  pub first_at : first.rep ≡ next_place a.threads
  pub task_at : task.rep ≡ next_place a.calls
  pub only : b ≡ record a {
    threads = b.threads;
    calls = b.calls;
    groups = b.groups;
    made = record a.made { threads = a.made.threads + 1 };
    kept = record a.kept { used = a.kept.used + 3; interesting = a.kept.interesting + 1 };
  }

-- A thread more of this call.
pub record PushesThread (a b : CoreParts) (id : TableId GuestTaskKey) (call : GuestTask) (new : TableId ThreadKey) : Type 0 where
  pub thread : GuestThread
  pub threads : b.threads ≡ pushed (entry_of thread) a.threads
  pub calls : b.calls ≡ with_entry id.rep (entry_of (record call { threads = call.threads + 1 })) a.calls
  pub thread_at : new.rep ≡ next_place a.threads
  pub only : b ≡ record a {
    threads = b.threads;
    calls = b.calls;
    made = record a.made { threads = a.made.threads + 1 };
    kept = record a.kept { used = a.kept.used + 2 };
  }

-- They are deleted, and the group has its count of before.
pub record DropsCallWithThread
    (a b : CoreParts) (id : TableId GroupKey) (group : TaskGroup) (first : TableId ThreadKey) (task : TableId GuestTaskKey) : Type 0 where
  pub threads_table : IsTable b.threads
  pub calls_table : IsTable b.calls
  pub threads : b.threads ≡ deleted first.rep a.threads
  pub calls : b.calls ≡ deleted task.rep a.calls
  pub groups : b.groups ≡ with_entry id.rep (entry_of group) a.groups
  pub only : IsCallWithThreadLess a b

-- The thread of the call at the place is as it is to be, and what it has hangs on nothing yet.
pub record MayPushThread (a : CoreParts) (id : TableId GuestTaskKey) (call : GuestTask) (thread : GuestThread) : Type 0 where
  pub there : Ok call ≡ item_at item_of a.calls id.rep id.serial
  pub member : IsMember (bare (parts_of a)) (bare_call call) id.rep (bare_thread thread)
  pub loose : AreThreadLoose (bare (parts_of a)) (is_some call.waits) (thread_nodes_of thread)
  pub unnamed : thread.thread.handle ≡ None

-- A group more, with no call yet, at this place of the resource table.
pub record PushesGroup (a b : CoreParts) (entry : ℕ) (id : TableId GroupKey) : Type 0 where
  pub group : Ok (new_group a entry) ≡ item_at item_of b.groups id.rep id.serial
  pub rep : id.rep ≡ next_place a.groups
  pub groups : b.groups ≡ pushed (entry_of (new_group a entry)) a.groups
  pub only : IsGroupMore a b

-- The set is the next one, has nothing yet, and its chains hang on nothing yet.
pub record IsSetNext (a : CoreParts) (x : WaitSet) : Type 0 where
  pub number : x.number ≡ a.made.sets + 1
  pub loose : AreSetLoose (bare (parts_of a)) x
  pub members : x.members ≡ 0
  pub entries : x.entries ≡ 0

-- A set more.
pub record PushesSet (a b : CoreParts) (x : WaitSet) (id : TableId SetKey) : Type 0 where
  pub rep : id.rep ≡ next_place a.sets
  pub sets : b.sets ≡ pushed (entry_of x) a.sets
  pub only : IsSetMore a b

-- There is room for a call by main, for its group and its first thread, and for the group to end; what they are to have is there.
pub record MayAddByMain (a : CoreParts) (request : Request) (given : List ℕ) (nodes : CallNodes × ThreadNodes) : Type 0 where
  pub words : length given ≤ 16
  pub few : (seen a).core.made.threads + 1 < 2 ^ 64
  pub groups : (seen a).core.made.groups + 1 < 2 ^ 64
  pub room : fits 4 (seen a).core ≡ true
  pub end_room : HasEndRoom a
  pub caller : request.caller ≡ callers.Main
  pub there : IsSome (get (seen a).core.instances request.callee.instance)
  pub result : request.goal ≡ goals.Main → HasRoom (a.made.threads + 1) a.results
  pub loose : AreNextLoose a request.kind nodes
