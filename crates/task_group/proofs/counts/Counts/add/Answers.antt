use Rattle.std.proofs.Common.{arith}
use Rattle.task_group.proofs.CountLemmas.{sound-insert, live_in-insert}
use Rattle.task_group.proofs.counts.Counts.add.Goals as goal

pub invariant_of-self-2 : goal.invariant_of-self-2
invariant_of-self-2 c = sound-insert _ c.insert.new.self.entries _ _ c.args.number 1 c.self.invariant (omega arith) c.in_ok-insert.ensures.updates.0 c.in_ok-insert.ensures.ordered

pub returns-clause-ok : goal.returns-clause-ok
returns-clause-ok c = rw (← c.self.view_is) (live_in-insert c.self.inside.counts.entries c.insert.new.self.entries c.args.number 1 c.in_ok-insert.ensures.updates.0)
