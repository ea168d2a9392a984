use Rattle.task_group.proofs.LiveLemmas.{live-set}
use Rattle.task_group.proofs.live.Live.set.Goals as goal

pub invariant_of-self : goal.invariant_of-self
invariant_of-self c = rw c.set.ensures (live-set c.self.inside.counts c.self.inside.low c.self.inside.high c.args.number c.args.count c.self.invariant)
