use Rattle.std.proofs.Common.{subst, sym}
use Rattle.std.specs.FinMap as finite
use Rattle.task_group.proofs.groups.Groups.withdraw.Goals as goal
use Rattle.task_group.specs.Groups.{Groups, IsKnown}

pub invariant_of-self : goal.invariant_of-self
invariant_of-self g c = rw c.remove.ensures (subst (λ (t : Groups). IsKnown (finite.remove t.live t.made) c.args.made) (sym c.self.view_is) c.requires)
