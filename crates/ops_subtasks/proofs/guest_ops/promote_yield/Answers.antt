use Rattle.ops_subtasks.proofs.GuestLemmas.{promoted_runs}
use Rattle.ops_subtasks.proofs.guest_ops.promote_yield.Goals as goal

pub go_behind-requires-clause-running : goal.go_behind-requires-clause-running
go_behind-requires-clause-running g c = promoted_runs c.args.thread c.args.first _ (g.W.View.view c.args.w.now) _ _ c.ask.ensures c.requires.first c.requires.running c.requires.yields c.promote_unless.ensures
