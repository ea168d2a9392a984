use Rattle.ops_subtasks.proofs.ReturnLemmas.{pending_is}
use Rattle.ops_subtasks.proofs.returns.pend.Goals as goal

pub returns-clause-new : goal.returns-clause-new
returns-clause-new g c =
    let v = g.W.View.view in
    pending_is c.args.thread c.args.call _ (v c.args.w.now) (v c.name_subtask.new.self) (v c.resume.new.w) _ c.instance_of-instance.ensures c.in_ok-handle.ensures.new c.resume.ensures c.set_saved_callee.ensures
