use Rattle.task_group.proofs.GroupLemmas.{known-empty}
use Rattle.task_group.proofs.groups.Groups.new.Goals as goal

pub invariant_of-result : goal.invariant_of-result
invariant_of-result g c = rw c.new.ensures (known-empty 0)
