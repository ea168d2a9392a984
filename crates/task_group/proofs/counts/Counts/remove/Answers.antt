use Rattle.task_group.proofs.CountLemmas.{sound-remove, live_in-remove}
use Rattle.task_group.proofs.counts.Counts.remove.Goals as goal

pub invariant_of-self : goal.invariant_of-self
invariant_of-self c = sound-remove c.self.inside.counts.entries _ _ _ c.args.number c.self.invariant c.remove.ensures.updates.0 c.remove.ensures.ordered

pub returns : goal.returns
returns c = rw (← c.self.view_is) (live_in-remove c.self.inside.counts.entries _ c.args.number c.remove.ensures.updates.0)
