use Rattle.core_places.proofs.TargetLemmas.{under_is, under_none}
use Rattle.core_places.proofs.targets.under_chain.Goals as goal

pub returns-in-Some : goal.returns-in-Some
returns-in-Some c = under_is c.args.parts.now c.requires _ _ _ c.in-Some.found.now c.in-Some.ensures.number c.in-Some.ensures.item

pub returns-in-None : goal.returns-in-None
returns-in-None c = under_none c.args.parts.now c.requires _ c.in-None.ensures.nothing
