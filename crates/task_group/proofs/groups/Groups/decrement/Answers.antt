use Rattle.task_group.proofs.GroupLemmas.{some_of, known-insert, known-remove}
use Rattle.task_group.proofs.groups.Groups.decrement.Goals as goal

pub invariant_of-self : goal.invariant_of-self
invariant_of-self g c = rw c.set.ensures (known-insert c.self.inside.counts c.self.inside.made c.args.id.number _ c.self.invariant (some_of _ _ c.if-count-eq0.false c.get-count.ensures.finished.1))

pub invariant_of-self-then-is_err : goal.invariant_of-self-then-is_err
invariant_of-self-then-is_err g c = rw c.remove.ensures (known-remove c.self.inside.counts c.self.inside.made c.args.id.number c.self.invariant)

pub invariant_of-self-2 : goal.invariant_of-self-2
invariant_of-self-2 g c = rw c.remove.ensures (known-remove c.self.inside.counts c.self.inside.made c.args.id.number c.self.invariant)
