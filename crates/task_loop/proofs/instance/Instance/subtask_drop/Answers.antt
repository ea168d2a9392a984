-- The op is done elsewhere than at its thread's place.
use Rattle.std.proofs.Common.{ap, refl}
use Rattle.ops_calls.specs.OpAnswers.{at_once, nothing_answered}
use Rattle.task_loop.proofs.InstanceCallLemmas.{does_host_op}
use Rattle.task_loop.proofs.instance.Instance.subtask_drop.Goals as goal
use Rattle.task_loop.specs.InstanceCalls.{drop_subtask_op}

pub returns : goal.returns
returns g c =
    let s = c.args.store.now in
    let ask = c.host_op_nothing-answer in
    record {
      does = does_host_op g.G.TaskGroupHook.listens c.args.component.now (drop_subtask_op c.from.result) (drop_subtask_op c.args.subtask)
          (ap drop_subtask_op c.from.ensures) at_once nothing_answered refl s ask.new.w c.tell_call.new.core c.tell_call.new.listeners c.requires.running refl
          c.asked-before.result c.asked-before.ensures ask.result c.tell_call.result ask.ensures.answers c.tell_call.ensures;
    }
