-- The op is done elsewhere than at its thread's place.
use Rattle.std.proofs.Common.{refl}
use Rattle.ops_calls.specs.OpAnswers.{at_once, number_answered}
use Rattle.task_loop.proofs.InstanceCallLemmas.{does_host_op}
use Rattle.task_loop.proofs.instance.Instance.thread_index.Goals as goal
use Rattle.task_loop.specs.InstanceCalls.{index_op}

pub returns : goal.returns
returns g c =
    let s = c.args.store.now in
    let ask = c.host_op_number-answer in
    let told = c.tell_call.ensures in
    record {
      does = does_host_op g.G.TaskGroupHook.listens c.args.component.now index_op index_op refl at_once number_answered refl s ask.new.w c.tell_call.new.core c.tell_call.new.listeners
          c.requires.running refl c.asked-before.result c.asked-before.ensures ask.result c.tell_call.result ask.ensures.answers
          told;
    }
