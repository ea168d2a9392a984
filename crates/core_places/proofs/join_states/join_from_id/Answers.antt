use Rattle.core_places.proofs.TargetLemmas.{set_stands, thread_stands}
use Rattle.core_places.proofs.join_states.join_from_id.Goals as goal

pub returns-in-Set-clause-at : goal.returns-in-Set-clause-at
returns-in-Set-clause-at c = set_stands c.args.parts.now c.requires c.in-Set.id _ _ c.set_number-set.ensures c.rep.ensures

pub returns-in-Watched-clause-at : goal.returns-in-Watched-clause-at
returns-in-Watched-clause-at c = thread_stands c.args.parts.now c.requires c.in-Watched.id _ _ c.number-thread.ensures c.rep-in-Watched.ensures
