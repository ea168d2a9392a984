use Rattle.ops_state.proofs.KeepLemmas.{joined_by}
use Rattle.ops_state.proofs.WakeLemmas.{joined_unqueued}
use Rattle.ops_state.proofs.join_calls.join.Goals as goal
use Rattle.ops_state.proofs.OrderLemmas.{joined_order_by, joins_at}

pub wake_new-requires-clause-unqueued : goal.wake_new-requires-clause-unqueued
wake_new-requires-clause-unqueued g c = joined_unqueued c.waiter_of_new-waiter.result _ _ (g.W.View.view c.args.w.now) _ c.set_join.ensures c.requires.idle c.waiter_of_new-waiter.ensures.waits

pub returns-clause-wakes : goal.returns-clause-wakes
returns-clause-wakes g c = joined_by _ _ c.args.set c.waiter_of_new-waiter.result _ (g.W.View.view c.args.w.now) _ _ c.event-event.ensures c.set_join.ensures c.joins-to.ensures c.wake_new.ensures c.waiter_of_new-waiter.ensures.choice

pub returns-clause-order : goal.returns-clause-order
returns-clause-order g c can = joined_order_by _ _ c.args.set c.waiter_of_new-waiter.result _ (g.W.View.view c.args.w.now) _ _ c.event-event.ensures c.set_join.ensures c.joins-to.ensures c.wake_new.ensures c.waiter_of_new-waiter.ensures.choice (joins_at _ _ _ _ c.subtask_of-subtask.ensures can)
