use Rattle.ops_state.proofs.KeepLemmas.{woken_kept}
use Rattle.ops_state.proofs.WakeLemmas.{waiter_unqueued}
use Rattle.ops_state.proofs.event_calls.mark_ready.Goals as goal
use Rattle.ops_state.proofs.OrderLemmas.{woken_in_order}

pub wake_member-requires-clause-unqueued : goal.wake_member-requires-clause-unqueued
wake_member-requires-clause-unqueued g c = waiter_unqueued c.publish_waiter-waiter.result (g.W.View.view c.args.w.now) c.requires.idle c.publish_waiter-waiter.ensures.waits

pub returns-clause-wakes : goal.returns-clause-wakes
returns-clause-wakes g c = woken_kept _ _ (g.W.View.view c.args.w.now) _ c.publish_waiter-waiter.ensures.choice c.wake_member.ensures

pub returns-clause-order : goal.returns-clause-order
returns-clause-order g c = woken_in_order _ _ (g.W.View.view c.args.w.now) _ c.publish_waiter-waiter.ensures.choice c.wake_member.ensures
