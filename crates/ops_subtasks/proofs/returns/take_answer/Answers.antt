use Rattle.std.proofs.Common.{ap}
use Rattle.ops_subtasks.proofs.ReturnLemmas.{answered_is, live_after}
use Rattle.ops_subtasks.proofs.returns.take_answer.Goals as goal
use Rattle.core_primitives.specs.StateView.{StateView}

pub returns-clause-core : goal.returns-clause-core
returns-clause-core g c =
    let v = g.W.View.view in
    let tags = λ (y : StateView). y.tags in
    let live = live_after c.args.thread (v c.resume.new.w) (v c.set_result.new.self) (ap tags c.set_result.ensures) (live_after c.args.thread (v c.args.w.now) (v c.resume.new.w) (ap tags c.resume.ensures) c.requires.live) in
    answered_is c.args.thread c.args.call _ (v c.args.w.now) (v c.resume.new.w) (v c.set_result.new.self) (v c.settle_call.new.w) _ live c.resume.ensures c.set_result.ensures c.settle_call.ensures.tags c.settle_call.ensures.core c.set_saved_callee.ensures
