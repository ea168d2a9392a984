use Rattle.core_places.proofs.TargetLemmas.{set_stands}
use Rattle.core_places.proofs.targets.why_from_id.Goals as goal

pub returns-in-Delivery-Set-clause-at : goal.returns-in-Delivery-Set-clause-at
returns-in-Delivery-Set-clause-at c = set_stands c.args.parts.now c.requires c.in-Delivery-Set.id _ _ c.set_number-set.ensures c.rep.ensures
