use Rattle.std.proofs.Common.{refl}
use Rattle.machine_data.specs.declared.records.Place.TheVariants as place
use Rattle.machine_data.specs.declared.records.Why.TheVariants as why
use Rattle.ops_guests.proofs.TellingLemmas.{starting_bottom, starting_may_stop}
use Rattle.ops_guests.proofs.starts.hold_start.Goals as goal

pub stop-requires-clause-may : goal.stop-requires-clause-may
stop-requires-clause-may g c =
    let v = g.W.View.view in
    starting_may_stop c.args.thread c.own_foot-foot.result (place.Ready c.requires.taken.0 why.Start) _ c.args.waiter (v c.args.w.now) (v c.tell_starting.new.w) refl c.requires.taken.1 c.requires.can.waits c.tell_starting.ensures c.own_foot-foot.ensures.is

pub own_foot-foot-requires-clause-bottom : goal.own_foot-foot-requires-clause-bottom
own_foot-foot-requires-clause-bottom g c =
    let v = g.W.View.view in
    starting_bottom c.args.thread _ c.args.waiter (v c.args.w.now) (v c.tell_starting.new.w) c.requires.bottom c.tell_starting.ensures
