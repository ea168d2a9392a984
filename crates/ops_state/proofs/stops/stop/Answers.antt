use Rattle.ops_state.proofs.KeepLemmas.{stopped_kept}
use Rattle.ops_state.proofs.stops.stop.Goals as goal
use Rattle.ops_state.proofs.OrderLemmas.{stop_order}

pub returns-clause-wakes : goal.returns-clause-wakes
returns-clause-wakes g c = stopped_kept _ (g.W.View.view c.args.w.now) _ c.stop.ensures

pub returns-clause-order : goal.returns-clause-order
returns-clause-order g c = stop_order _ (g.W.View.view c.args.w.now) _ c.stop.ensures
