use Rattle.task_group.proofs.CountLemmas.{sound-empty, live_in-empty}
use Rattle.task_group.proofs.counts.Counts.new.Goals as goal

pub invariant_of-result : goal.invariant_of-result
invariant_of-result c = sound-empty _ _ c.new.ensures.empty c.new.ensures.ordered

pub returns : goal.returns
returns c = live_in-empty _ c.new.ensures.empty
