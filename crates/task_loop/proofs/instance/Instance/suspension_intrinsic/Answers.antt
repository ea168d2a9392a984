-- The op is done elsewhere than at its thread's place.
use Rattle.std.proofs.Common.{refl}
use Rattle.ops_calls.specs.OpAnswers.{nothing_answered}
use Rattle.ops_calls.specs.Intrinsics.{suspension_op}
use Rattle.task_loop.proofs.HostOpHoldLemmas.{apart_suspension}
use Rattle.task_loop.proofs.InstanceCallLemmas.{does_host_op}
use Rattle.task_loop.proofs.instance.Instance.suspension_intrinsic.Goals as goal
use Rattle.task_loop.specs.InstanceCalls.{may_pause}

pub returns : goal.returns
returns g c =
    let s = c.args.store.now in
    let ask = c.begin_nothing-answer in
    let told = c.tell_call.ensures in
    record {
      does = does_host_op g.G.TaskGroupHook.listens c.args.component.now c.suspension_op.result (suspension_op c.args.yielding c.args.target) c.suspension_op.ensures.is may_pause nothing_answered refl s ask.new.w c.tell_call.new.core c.tell_call.new.listeners
          c.requires.running (apart_suspension c.args.yielding c.args.target) c.asked-before.result c.asked-before.ensures ask.result c.tell_call.result ask.ensures.answers
          told;
    }
