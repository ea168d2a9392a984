use Rattle.std.proofs.Common.{refl}
use Rattle.machine_data.specs.declared.records.Place.TheVariants as place
use Rattle.ops_guests.proofs.DeliveryLemmas.{held_is}
use Rattle.ops_guests.proofs.RunLemmas.{foot_may_stop}
use Rattle.ops_guests.proofs.deliveries.hold_delivery.Goals as goal

pub stop-requires-clause-may : goal.stop-requires-clause-may
stop-requires-clause-may g c = foot_may_stop c.args.thread (place.Ready c.requires.taken.0 _) _ (g.W.View.view c.args.w.now) refl c.requires.taken.1 c.foot_of-foot.ensures.is

pub returns-clause-new : goal.returns-clause-new
returns-clause-new g c =
    let v = g.W.View.view in
    held_is c.args.thread c.foot_of-foot.result _ (v c.args.w.now) (v c.stop.new.w) (v c.arrive.new.self) _ c.requires.taken c.foot_of-foot.ensures.is c.stop.ensures
    c.arrive.ensures c.hold.ensures
