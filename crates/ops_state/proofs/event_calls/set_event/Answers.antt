use Rattle.ops_state.proofs.KeepLemmas.{published_kept}
use Rattle.ops_state.proofs.event_calls.set_event.Goals as goal
use Rattle.ops_state.proofs.OrderLemmas.{published_in_order, told_at}

pub returns-clause-wakes : goal.returns-clause-wakes
returns-clause-wakes g c = published_kept _ _ _ (g.W.View.view c.args.w.now) _ c.publish_waiter-waiter.ensures.choice c.publish.ensures

pub returns-clause-order : goal.returns-clause-order
returns-clause-order g c can = published_in_order _ _ _ (g.W.View.view c.args.w.now) _ c.publish_waiter-waiter.ensures.choice c.publish.ensures (told_at _ _ _ _ c.subtask_of-subtask.ensures (rw c.in-Subtask.is at can))
