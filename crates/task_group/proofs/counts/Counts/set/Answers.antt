use Rattle.task_group.proofs.CountLemmas.{sound-insert, live_in-insert, contains}
use Rattle.task_group.proofs.counts.Counts.set.Goals as goal

pub write-requires : goal.write-requires
write-requires c = contains c.self.inside.counts.entries c.args.number _ c.self.view_is c.requires.live

pub invariant_of-self : goal.invariant_of-self
invariant_of-self c = sound-insert c.self.inside.counts.entries _ _ _ c.args.number c.args.count c.self.invariant c.requires.positive c.write.ensures.updates.0 c.write.ensures.ordered

pub returns : goal.returns
returns c = rw (← c.self.view_is) (live_in-insert c.self.inside.counts.entries _ c.args.number c.args.count c.write.ensures.updates.0)
