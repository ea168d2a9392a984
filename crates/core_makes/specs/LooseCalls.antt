-- The nodes and chains of a thread and of a call, made before what they are for.
use Rattle.std.specs.Prelude.{◌≡◌, Bool, IfSome, None, Ok, Option, Some, is_some, option_map, true, ℕ}
use Rattle.table_links.specs.Links.{is_made, link_of}
use Rattle.table_links.specs.declared.links.Node.{Node}
use Rattle.core_makes.specs.Loose.{IsLoose, IsSpare}
use Rattle.core_records.specs.Kinds.{item_of}
use Rattle.core_records.specs.Names.{keeps_waits}
use Rattle.core_records.specs.Seen.{parts_of}
use Rattle.core_records.specs.Sound.{bare}
use Rattle.core_records.specs.declared.parts.CoreParts.{CoreParts}
use Rattle.machine_data.specs.declared.component.ExportKind.{ExportKind}
use Rattle.task_table.specs.TableAnswers.{item_at}
use Rattle.task_table.specs.declared.id.TableId.{TableId}
use Rattle.task_wait.specs.declared.keys.GuestTaskKey.{GuestTaskKey}
use Rattle.core_makes.specs.declared.node_makes.CallNodes.{CallNodes}
use Rattle.core_makes.specs.declared.node_makes.ThreadNodes.{ThreadNodes}
use Rattle.core_records.specs.Image.{CoreImage}
use Rattle.core_records.specs.RecordPlaces.{place_chain, wait_chain}
use Rattle.core_records.specs.Rows.{callers_chain}
use Rattle.core_records.specs.declared.call_records.GuestTask.{GuestTask}
use Rattle.core_records.specs.declared.single.Single.{Single}
use Rattle.core_records.specs.declared.thread_records.GuestThread.{GuestThread}
use Rattle.core_records.specs.declared.work_records.WorkRecord.{WorkRecord}
use Rattle.task_table.specs.Table.{Placed, place_at}

-- those that a thread's record has, and a call's
abbrev pub thread_nodes_of : GuestThread → ThreadNodes
thread_nodes_of g =
    record { node = g.node; wait = g.wait; mark = g.mark; instance_queue = g.instance_queue; caller = g.caller; callers = g.callers; under = g.under }

abbrev pub call_nodes_of : GuestTask → CallNodes
call_nodes_of g = record { ready = g.ready; blocked = g.blocked; waits = g.waits }

-- the name of the node that a thread has among the waiting ones of its call, if it has one
abbrev pub wait_node_of : GuestThread → Option ℕ
wait_node_of g = option_map (λ node. node.index) g.wait

-- A node for a thread among the waiting ones of its call hangs on nothing; there is one exactly if this is to be.
pub record IsWaitLoose (p : CoreImage) (keeps : Bool) (n : Option Node) : Type 0 where
  pub is : is_some n ≡ keeps
  pub made : IfSome n (λ node. is_made p.waits node.index ≡ true)
  pub free : IfSome n (λ node. link_of p.waits node.index ≡ None)
  pub apart : IfSome n (λ node. (rep : ℕ) (q : Placed (Single GuestThread)) → place_at p.threads rep ≡ Some q →
      wait_node_of q.entry.item ≡ Some node.index → ⊥)

-- So is a chain for the waiting threads of a call.
pub record IsWaitChainLoose (p : CoreImage) (keeps : Bool) (c : Option ℕ) : Type 0 where
  pub is : is_some c ≡ keeps
  pub loose : IfSome c (IsLoose (wait_chain p) p.waits)

-- They hang on nothing; no work has the node of the mark.
pub record AreThreadLoose (p : CoreImage) (keeps : Bool) (n : ThreadNodes) : Type 0 where
  pub wait : IsWaitLoose p keeps n.wait
  pub node : IsSpare (λ (g : GuestThread). g.node.index) p.threads p.places n.node.index
  pub mark : IsSpare (λ (g : GuestThread). g.mark.index) p.threads p.marks n.mark.index
  pub instance_queue : IsSpare (λ (g : GuestThread). g.instance_queue.index) p.threads p.instance_queues n.instance_queue.index
  pub caller : IsSpare (λ (g : GuestThread). g.caller.index) p.threads p.behind n.caller.index
  pub callers : IsLoose (callers_chain p) p.behind n.callers
  pub under : IsLoose (place_chain p) p.places n.under
  pub no_work : (rep : ℕ) (w : Placed (Single WorkRecord)) →
      place_at p.works rep ≡ Some w → w.entry.item.mark.index ≡ n.mark.index → ⊥

pub record AreCallLoose (p : CoreImage) (keeps : Bool) (n : CallNodes) : Type 0 where
  pub waits : IsWaitChainLoose p keeps n.waits
  pub ready : IsSpare (λ (g : GuestTask). g.ready.index) p.calls p.ready_calls n.ready.index
  pub blocked : IsLoose (place_chain p) p.places n.blocked

-- Those of a call and of its first thread.
pub record AreCallAndThreadLoose (p : CoreImage) (keeps : Bool) (c : CallNodes) (t : ThreadNodes) : Type 0 where
  pub call : AreCallLoose p keeps c
  pub thread : AreThreadLoose p keeps t
  pub two : t.under ≡ c.blocked → ⊥

-- Those of the call of an export of this kind that is made next, and of its first thread.
abbrev pub AreNextLoose : CoreParts → ExportKind → CallNodes × ThreadNodes → Type 0
AreNextLoose a kind nodes = AreCallAndThreadLoose (bare (parts_of a)) (keeps_waits a.version kind) nodes.0 nodes.1

-- Those of a thread more of the call that the id names.
abbrev pub AreMemberLoose : CoreParts → TableId GuestTaskKey → ThreadNodes → Type 0
AreMemberLoose a id n =
    (g : GuestTask) → Ok g ≡ item_at item_of a.calls id.rep id.serial → AreThreadLoose (bare (parts_of a)) (is_some g.waits) n
