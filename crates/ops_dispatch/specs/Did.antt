-- What an op resulted in that the thread's script had it do, and that was ended.
use Rattle.std.specs.Prelude.{length, ℕ, ◌<◌, ◌≡◌}
use Rattle.ops_dispatch.specs.Continues.{OpGoesOn}
use Rattle.ops_dispatch.specs.Polls.{Polls}
use Rattle.ops_dispatch.specs.declared.done.Done.{Done}
use Rattle.machine_data.specs.Core.{Core}
use Rattle.machine_data.specs.Labels.{choice_of}
use Rattle.machine_data.specs.Read.{op_progress_of, position_of}
use Rattle.machine_data.specs.declared.component.Component.{Component}
use Rattle.machine_data.specs.declared.op.Op.{Op}
use Rattle.machine_data.specs.declared.statuses.HostPoll.{HostPoll}
use Rattle.ops_guests.specs.OpResult.{Implements, PicksFirst}
use Rattle.ops_guests.specs.Stays.{StaysAfter}
use Rattle.ops_guests.specs.Steps.{label_of}
use Rattle.ops_guests.specs.Works.{NamesTold}
use Rattle.ops_guests.specs.declared.op_result.OpResult.{OpResult}
use Rattle.machine_rules.specs.Progress.{Progress}
use Rattle.machine_rules.specs.Scripts.{script_of}
use Rattle.machine_rules.specs.Step.{scripted_op_rule}
use Rattle.task_table.specs.declared.id.TableId.{TableId}
use Rattle.task_wait.specs.declared.keys.ThreadKey.{ThreadKey}
use Rattle.core_primitives.specs.Preferences.{preference}
use Rattle.core_primitives.specs.StateView.{StateView, thread_of}

-- the op of the thread, as its script has it done, by what it resulted in
abbrev pub scripted_rule_of : Component → Op → TableId ThreadKey → StateView → OpResult → Progress
scripted_rule_of c o id s r = scripted_op_rule c (thread_of s id) s.core (choice_of (label_of (thread_of s id) r)) o

-- the thread is before the end of its script
abbrev pub IsBeforeEnd : (end : ℕ) → Component → ℕ → Core → Type 0
IsBeforeEnd end c n s = (position_of n s < end) × (length (script_of c n s) ≡ end)

-- The op was done and ended: t is what its rule says, a thread that goes on runs, and what polled is so.
pub record DidOp (answer : HostPoll) (c : Component) (o : Op) (id : TableId ThreadKey) (s : StateView) (done : Done)
    (t : StateView) : Type 0 where
  pub implements : Implements (scripted_rule_of c o id s done.op_result) s.core done.op_result t.core
  pub picks : PicksFirst (preference s) (scripted_rule_of c o id s done.op_result) (label_of (thread_of s id) done.op_result) s.core
      done.op_result t.core
  pub goes : OpGoesOn done.op_result t
  pub stays : StaysAfter done.op_result s t
  pub polls : Polls answer c (op_progress_of (thread_of s id) s.core) o s done t
  pub works : NamesTold s t
