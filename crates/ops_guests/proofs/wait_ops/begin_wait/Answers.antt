use Rattle.machine_data.specs.declared.records.Place.TheVariants as place
use Rattle.ops_guests.proofs.RunLemmas.{checked_stands}
use Rattle.ops_guests.proofs.wait_ops.begin_wait.Goals as goal

pub stop_waiting-requires-clause-running : goal.stop_waiting-requires-clause-running
stop_waiting-requires-clause-running g c = checked_stands c.args.thread place.Running _ (g.W.View.view c.args.w.now) _ c.requires.running c.check.ensures
