use Rattle.core_places.proofs.TargetLemmas.{waiters_is, waiters_none}
use Rattle.core_places.proofs.targets.waiters_chain.Goals as goal

pub returns-in-Some : goal.returns-in-Some
returns-in-Some c = waiters_is c.args.parts.now c.requires _ _ _ c.in-Some.found.now c.in-Some.ensures.number c.in-Some.ensures.item

pub returns-in-None : goal.returns-in-None
returns-in-None c = waiters_none c.args.parts.now c.requires _ c.in-None.ensures.nothing
