use Rattle.std.proofs.Common.{refl}
use Rattle.machine_data.specs.declared.records.Place.TheVariants as place
use Rattle.ops_guests.proofs.RunLemmas.{foot_may_stop}
use Rattle.ops_subtasks.proofs.returns.stop_blocked.Goals as goal

pub stop-requires-clause-may : goal.stop-requires-clause-may
stop-requires-clause-may g c = foot_may_stop c.args.thread place.Running _ (g.W.View.view c.args.w.now) refl c.requires.running c.foot_of-foot.ensures.is
