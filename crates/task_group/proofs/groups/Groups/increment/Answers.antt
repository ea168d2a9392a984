use Rattle.task_group.proofs.GroupLemmas.{some_of, known-insert}
use Rattle.task_group.proofs.groups.Groups.increment.Goals as goal

pub invariant_of-self : goal.invariant_of-self
invariant_of-self g c = rw c.set.ensures (known-insert c.self.inside.counts c.self.inside.made c.args.id.number _ c.self.invariant (some_of _ _ c.if-count-ne0.true c.get-count.ensures.finished.1))
