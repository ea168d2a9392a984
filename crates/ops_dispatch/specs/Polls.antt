-- The host that an op polls first, and the work that it makes.
use Rattle.std.specs.Option.{option_map_or}
use Rattle.std.specs.Prelude.{None, Option, Some, option_map, ℕ, ◌≡◌, ◌⊎◌, IfOk, Result}
use Rattle.ops_dispatch.specs.Continues.{DoesOp}
use Rattle.ops_dispatch.specs.Rules.{rule_of}
use Rattle.ops_dispatch.specs.declared.done.Done.{Done}
use Rattle.ops_subtasks.specs.First.{first_heard}
use Rattle.ops_subtasks.specs.Queued.{GoesOnWith, queued_work}
use Rattle.machine_data.specs.Core.{Core}
use Rattle.machine_data.specs.Read.{op_progress_of}
use Rattle.machine_data.specs.declared.component.Component.{Component}
use Rattle.machine_data.specs.declared.component.HostDef.{HostDef}
use Rattle.machine_data.specs.declared.op.CallOp.TheVariants as call_op
use Rattle.machine_data.specs.declared.op.Op.{Op}
use Rattle.machine_data.specs.declared.op.Op.TheVariants as op
use Rattle.machine_data.specs.declared.statuses.HostPoll.{HostPoll}
use Rattle.machine_data.specs.declared.records.OpProgress.{OpProgress}
use Rattle.machine_data.specs.declared.records.OpProgress.TheVariants as op_progress
use Rattle.machine_data.specs.declared.records.Subtask.TheVariants as subtask
use Rattle.ops_guests.specs.Works.{NamesTold}
use Rattle.ops_guests.specs.declared.op_result.OpResult.{OpResult}
use Rattle.machine_rules.specs.Scripts.{host_at}
use Rattle.task_table.specs.declared.id.TableId.{TableId}
use Rattle.task_wait.specs.declared.keys.HostTaskKey.{HostTaskKey}
use Rattle.task_wait.specs.declared.keys.ThreadKey.{ThreadKey}
use Rattle.core_primitives.specs.StateView.{StateView, thread_of, work_of}
use Rattle.machine_data.specs.declared.memory.NoMemory.{NoMemory}
use Rattle.machine_data.specs.declared.op.CallOp.{CallOp}

-- what an op that has come so far polls first: a host that it calls now
abbrev pub polled_host : Component → OpProgress → Op → Option HostDef
polled_host c h (op.Call (call_op.CallHost r q i)) = Some (host_at c i)
polled_host c (op_progress.Calls (subtask.Host j)) (op.Call (call_op.CallSyncHost r i)) = None
polled_host c h (op.Call (call_op.CallSyncHost r i)) = Some (host_at c i)
polled_host c h o = None

-- what an op of the thread polls first, by how far the thread has come in it
abbrev pub polled_by : Component → TableId ThreadKey → StateView → Op → Option HostDef
polled_by c id s o = polled_host c (op_progress_of (thread_of s id) s.core) o

-- the same, where there is an op
abbrev pub polled_if_any : Component → TableId ThreadKey → StateView → Option Op → Option HostDef
polled_if_any c id s o = option_map_or (λ x. polled_by c id s x) o None

abbrev pub made_work : HostPoll → Option HostDef → OpResult → Core → Option ℕ
made_work answer None r s = None
made_work answer (Some host) r s = queued_work (first_heard host answer) r s

abbrev pub MakesWork : HostPoll → Option HostDef → Option (TableId HostTaskKey) → StateView → Type 0
MakesWork answer None id t = Unit {0}
MakesWork answer (Some host) id t = GoesOnWith (first_heard host answer) id t

-- What was done says which host was polled first, and which work was made, where an open host has answered so.
pub record Polls (answer : HostPoll) (c : Component) (h : OpProgress) (o : Op) (s : StateView) (done : Done) (t : StateView) : Type 0 where
  pub polled : done.polled ≡ polled_host c h o
  pub work : option_map (λ id. work_of t id) done.work ≡ made_work answer done.polled done.op_result s.core
  pub course : MakesWork answer done.polled done.work t
  pub none : done.work ≡ None → (done.polled ≡ None) ⊎ (t.core.works ≡ s.core.works)

-- The op was done as its rule says, and what polled is so.
pub record DoesPolled (answer : HostPoll) (c : Component) (o : Op) (id : TableId ThreadKey) (s : StateView) (done : Done)
    (t : StateView) : Type 0 where
  pub does : DoesOp NamesTold (rule_of c o) id s done.op_result t
  pub polls : Polls answer c (op_progress_of (thread_of s id) s.core) o s done t

-- unless it is out of memory the call of a host was done so, whichever register it has for its answer
abbrev pub DoesHostCall :
    HostPoll → Component → (call : ℕ → CallOp) → TableId ThreadKey → StateView → Result Done NoMemory → StateView → Type 0
DoesHostCall answer c call id s result t = IfOk result (λ done. (r : ℕ) → DoesPolled answer c (op.Call (call r)) id s done t)
