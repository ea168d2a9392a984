use Rattle.std.proofs.Common.{◌<◌, ap, subst, sym}
use Rattle.task_group.specs.Groups.{Groups}
use Rattle.task_group.proofs.GroupLemmas.{known-above}
use Rattle.task_group.proofs.groups.Groups.add.Goals as goal

pub invariant_of-self-2 : goal.invariant_of-self-2
invariant_of-self-2 g c =
    let above = subst (λ m. m < c.args.number) (sym (ap (λ (t : Groups). t.made) c.self.view_is)) c.requires in
    rw c.in-Ok.ensures.ok (known-above c.self.inside.counts c.self.inside.made c.args.number above c.self.invariant)
