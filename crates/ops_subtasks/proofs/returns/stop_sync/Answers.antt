use Rattle.ops_subtasks.proofs.ReturnLemmas.{resumed_check_runs}
use Rattle.ops_subtasks.proofs.returns.stop_sync.Goals as goal

pub stop_blocked-requires-clause-running : goal.stop_blocked-requires-clause-running
stop_blocked-requires-clause-running g c = resumed_check_runs c.args.thread c.args.call _ (g.W.View.view c.args.w.now) (g.W.View.view c.resume.new.w) _ c.requires.running c.resume.ensures c.check.ensures
