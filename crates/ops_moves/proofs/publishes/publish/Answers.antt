use Rattle.ops_moves.proofs.PublishLemmas.{event_named, event_unqueued, published_is, waiter_unqueued}
use Rattle.ops_moves.proofs.publishes.publish.Goals as goal

pub unblock-requires-clause-unqueued : goal.unblock-requires-clause-unqueued
unblock-requires-clause-unqueued g c = event_unqueued c.args.subtask _ (g.W.View.view c.args.w.now) _ c.requires.idle c.set_event.ensures

pub wake_joined-requires-clause-unqueued : goal.wake_joined-requires-clause-unqueued
wake_joined-requires-clause-unqueued g c = waiter_unqueued c.args.subtask _ c.args.waiter (g.W.View.view c.args.w.now) _ _ c.requires.idle c.requires.waits c.set_event.ensures c.unblock.ensures

pub returns : goal.returns
returns g c = published_is c.join-join.result c.args.subtask c.args.status c.args.waiter (g.W.View.view c.args.w.now) _ _ _ c.requires.there c.join-join.ensures c.set_event.ensures c.unblock.ensures c.wake_joined.ensures

pub unblock-requires-clause-named : goal.unblock-requires-clause-named
unblock-requires-clause-named g c = event_named c.args.subtask _ (g.W.View.view c.args.w.now) _ c.set_event.ensures c.requires.named
