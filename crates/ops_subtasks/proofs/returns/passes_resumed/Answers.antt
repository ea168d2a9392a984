use Rattle.std.proofs.Common.{ap}
use Rattle.ops_subtasks.proofs.ReturnLemmas.{resumption_undone}
use Rattle.ops_subtasks.proofs.returns.passes_resumed.Goals as goal

pub returns-clause-same : goal.returns-clause-same
returns-clause-same g c =
    let v = g.W.View.view in
    resumption_undone c.args.thread c.args.call _ _ (v c.args.w.now) (v c.resume.new.w) (v c.set_event.new.self) _ _ c.event-event.ensures (ap (λ e. e.instance) c.callee-callee.ensures) c.may_not_suspend-flag.ensures c.resume.ensures c.set_event.ensures c.set_do_not_suspend.ensures
