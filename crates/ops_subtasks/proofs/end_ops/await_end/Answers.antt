use Rattle.ops_subtasks.proofs.EndLemmas.{awaits_may_stop}
use Rattle.ops_subtasks.proofs.end_ops.await_end.Goals as goal

pub stop-requires-clause-may : goal.stop-requires-clause-may
stop-requires-clause-may g c =
    let v = g.W.View.view in
    awaits_may_stop c.args.thread c.foot_of-foot.result c.args.subtask _ (v c.args.w.now) _ _ (v c.check.new.w) c.requires.running c.set_saved_callee.ensures c.set_join.ensures c.check.ensures c.foot_of-foot.ensures.is
