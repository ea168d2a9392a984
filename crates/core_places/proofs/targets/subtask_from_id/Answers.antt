use Rattle.core_places.proofs.TargetLemmas.{call_stands, work_stands}
use Rattle.core_places.proofs.targets.subtask_from_id.Goals as goal

pub returns-in-Guest-clause-at : goal.returns-in-Guest-clause-at
returns-in-Guest-clause-at c = call_stands c.args.parts.now c.requires c.in-Guest.id _ _ c.call_number-call.ensures c.rep.ensures

pub returns-in-Host-clause-at : goal.returns-in-Host-clause-at
returns-in-Host-clause-at c = work_stands c.args.parts.now c.requires c.in-Host.id _ _ c.work_number-work.ensures c.rep-in-Host.ensures
