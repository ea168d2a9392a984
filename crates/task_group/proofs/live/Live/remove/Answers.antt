use Rattle.std.proofs.Common.{arith}
use Rattle.task_group.proofs.LiveLemmas.{live-after, live-other}
use Rattle.task_group.proofs.live.Live.remove.Goals as goal

pub invariant_of-self : goal.invariant_of-self
invariant_of-self c = rw c.remove.ensures (live-after c.self.inside.counts c.self.inside.low c.self.inside.high c.args.number (let le = c.if-self-number.true in omega (arith, le)) c.self.invariant)

pub invariant_of-self-else-self-number : goal.invariant_of-self-else-self-number
invariant_of-self-else-self-number c = rw c.remove.ensures (live-other c.self.inside.counts c.self.inside.low c.self.inside.high c.args.number (let lt = c.if-self-number.false in omega (arith, lt)) c.self.invariant)
