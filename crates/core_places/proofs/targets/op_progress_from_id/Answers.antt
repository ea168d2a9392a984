use Rattle.core_places.proofs.TargetLemmas.{set_stands}
use Rattle.core_places.proofs.targets.op_progress_from_id.Goals as goal

pub returns-in-Waits-clause-at : goal.returns-in-Waits-clause-at
returns-in-Waits-clause-at c = set_stands c.args.parts.now c.requires c.in-Waits.id _ _ c.set_number-set.ensures c.rep.ensures
