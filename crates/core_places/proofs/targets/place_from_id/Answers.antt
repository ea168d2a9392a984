use Rattle.core_places.proofs.TargetLemmas.{set_stands, thread_stands}
use Rattle.core_places.proofs.targets.place_from_id.Goals as goal

pub returns-in-Under-clause-at : goal.returns-in-Under-clause-at
returns-in-Under-clause-at c = thread_stands c.args.parts.now c.requires c.in-Under.id _ _ c.number-callee.ensures c.rep.ensures

pub returns-in-Behind-clause-at : goal.returns-in-Behind-clause-at
returns-in-Behind-clause-at c = thread_stands c.args.parts.now c.requires c.in-Behind.id _ _ c.number-thread.ensures c.rep-in-Behind.ensures

pub returns-in-Waiting-clause-at : goal.returns-in-Waiting-clause-at
returns-in-Waiting-clause-at c = set_stands c.args.parts.now c.requires c.in-Waiting.id _ _ c.set_number-set.ensures c.rep-in-Waiting.ensures
