use Rattle.ops_state.proofs.OrderLemmas.{taken_back, taken_wakes}
use Rattle.ops_state.proofs.entry_calls.take_item.Goals as goal
use Rattle.std.proofs.Common.{refl}

pub returns-clause-wakes : goal.returns-clause-wakes
returns-clause-wakes g c = taken_wakes (g.W.View.view c.args.w.now) _ c.take_next.result _ c.take_next.ensures

pub returns-clause-order : goal.returns-clause-order
returns-clause-order g c = taken_back (g.W.View.view c.args.w.now) _ c.take_next.result _ refl c.take_next.ensures
