use Rattle.task_group.proofs.GroupLemmas.{known-empty}
use Rattle.task_group.proofs.groups.Groups.finish_all.Goals as goal

pub invariant_of-self : goal.invariant_of-self
invariant_of-self g c = rw c.finish_each.ensures.live (known-empty c.self.inside.made)
