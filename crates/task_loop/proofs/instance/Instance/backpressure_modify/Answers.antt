-- The op is done elsewhere than at its thread's place.
use Rattle.std.proofs.Common.{refl}
use Rattle.ops_calls.specs.OpAnswers.{at_once, nothing_answered}
use Rattle.ops_calls.specs.Intrinsics.{pressure_op}
use Rattle.task_loop.proofs.HostOpHoldLemmas.{apart_pressure}
use Rattle.task_loop.proofs.InstanceCallLemmas.{does_host_op}
use Rattle.task_loop.proofs.instance.Instance.backpressure_modify.Goals as goal

pub returns : goal.returns
returns g c =
    let s = c.args.store.now in
    let ask = c.host_op_nothing-answer in
    let told = c.tell_call.ensures in
    record {
      does = does_host_op g.G.TaskGroupHook.listens c.args.component.now c.pressure_op.result (pressure_op c.args.up) c.pressure_op.ensures.is at_once nothing_answered refl s ask.new.w c.tell_call.new.core c.tell_call.new.listeners
          c.requires.running (apart_pressure c.args.up) c.asked-before.result c.asked-before.ensures ask.result c.tell_call.result ask.ensures.answers
          told;
    }
