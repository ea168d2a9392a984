use Rattle.ops_state.proofs.KeepLemmas.{taken_kept}
use Rattle.ops_state.proofs.event_calls.take_event.Goals as goal
use Rattle.ops_state.proofs.OrderLemmas.{named_at, taken_in_order}

pub returns-in-Some-clause-wakes : goal.returns-in-Some-clause-wakes
returns-in-Some-clause-wakes g c = taken_kept _ (g.W.View.view c.args.w.now) _ c.set_event.ensures

pub returns-in-None-clause-wakes : goal.returns-in-None-clause-wakes
returns-in-None-clause-wakes g c = taken_kept _ (g.W.View.view c.args.w.now) _ c.set_event.ensures

pub returns-in-Some-clause-order : goal.returns-in-Some-clause-order
returns-in-Some-clause-order g c named = taken_in_order _ (g.W.View.view c.args.w.now) _ c.set_event.ensures (named_at _ _ _ c.subtask_of-subtask.ensures named)

pub returns-in-None-clause-order : goal.returns-in-None-clause-order
returns-in-None-clause-order g c named = taken_in_order _ (g.W.View.view c.args.w.now) _ c.set_event.ensures (named_at _ _ _ c.subtask_of-subtask.ensures named)
