use Rattle.ops_state.proofs.KeepLemmas.{set_kept}
use Rattle.ops_state.proofs.currents.set_thread.Goals as goal
use Rattle.ops_state.proofs.OrderLemmas.{turns_order}

pub returns-clause-wakes : goal.returns-clause-wakes
returns-clause-wakes g c = set_kept c.args.thread (g.W.View.view c.args.w.now) _ c.pass_to.ensures

pub returns-clause-order : goal.returns-clause-order
returns-clause-order g c = turns_order c.args.thread (g.W.View.view c.args.w.now) _ c.pass_to.ensures
