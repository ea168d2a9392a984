use Rattle.std.proofs.Common.{refl}
use Rattle.machine_data.specs.declared.records.Place.TheVariants as place
use Rattle.ops_guests.proofs.RunLemmas.{foot_may_stop, stopped_unqueued}
use Rattle.ops_guests.proofs.thread_ops.stop_top.Goals as goal

pub stop-requires-clause-may : goal.stop-requires-clause-may
stop-requires-clause-may g c = foot_may_stop c.args.thread place.Running _ (g.W.View.view c.args.w.now) refl c.requires.running c.foot_of-foot.ensures.is

pub put_low_at-requires-clause-unqueued : goal.put_low_at-requires-clause-unqueued
put_low_at-requires-clause-unqueued g c = stopped_unqueued c.args.thread place.Running _ (g.W.View.view c.args.w.now) _ c.requires.running c.stop.ensures
