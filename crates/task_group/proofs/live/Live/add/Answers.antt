use Rattle.std.proofs.Common.{arith, sym, ◌∙◌}
use Rattle.std.proofs.lemmas.Bool.Decides.{nat_tests}
use Rattle.task_group.proofs.LiveLemmas.{live-more, live-one}
use Rattle.task_group.proofs.live.Live.add.Goals as goal

pub invariant_of-self-then-is_next : goal.invariant_of-self-then-is_next
invariant_of-self-then-is_next c =
    rw c.in_ok-add.ensures.ok (live-more c.self.inside.counts c.self.inside.low c.self.inside.high c.args.number 1 (let e = sym c.is_next.ensures ∙ c.if-is_next.true in grind (arith, nat_tests, e)) c.self.invariant)

pub invariant_of-self-else-is_next : goal.invariant_of-self-else-is_next
invariant_of-self-else-is_next c = rw c.in_ok-add.ensures.ok (live-one c.self.inside.counts c.self.inside.low c.self.inside.high c.args.number 1)
