-- The op is done elsewhere than at its thread's place.
use Rattle.std.proofs.Common.{ap, refl}
use Rattle.std.specs.Prelude.{ℕ}
use Rattle.ops_calls.specs.OpAnswers.{at_once, number_answered}
use Rattle.task_loop.proofs.InstanceCallLemmas.{does_host_op}
use Rattle.task_loop.proofs.instance.Instance.thread_new_indirect.Goals as goal
use Rattle.task_loop.specs.InstanceCalls.{new_thread_op}
use Rattle.machine_data.specs.declared.op.Op.TheVariants as op
use Rattle.machine_data.specs.declared.op.Operand.TheVariants as operand
use Rattle.machine_data.specs.declared.op.ThreadOp.TheVariants as thread_op

pub returns : goal.returns
returns g c =
    let s = c.args.store.now in
    let ask = c.host_op_number-answer in
    let told = c.tell_call.ensures in
    record {
      does = does_host_op g.G.TaskGroupHook.listens c.args.component.now (op.Thread (thread_op.New 0 c.min.result (operand.Number c.args.context))) (new_thread_op c.args.slot c.args.context) (ap (λ (x : ℕ). op.Thread (thread_op.New 0 x (operand.Number c.args.context))) c.min.ensures) at_once number_answered refl s ask.new.w c.tell_call.new.core c.tell_call.new.listeners
          c.requires.running refl c.asked-before.result c.asked-before.ensures ask.result c.tell_call.result ask.ensures.answers
          told;
    }
