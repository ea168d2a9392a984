-- The store has its instance, and nothing was made in it.
use Rattle.machine_data.specs.declared.scenario.Version.TheVariants as version
use Rattle.tests_hosts.proofs.refused.refuses_first.Goals as goal
use Rattle.std.proofs.Common.{arith}
use Rattle.machine_data.specs.declared.records.Turn.TheVariants as turn
use Rattle.ops_turns.proofs.FreshLemmas.{given_fresh, core_in_order_fresh}

pub refuses-requires-clause-covered : goal.refuses-requires-clause-covered
refuses-requires-clause-covered c = c.requires.runnable.component

pub refuses-requires-clause-order : goal.refuses-requires-clause-order
refuses-requires-clause-order c =
    (turn.Main, rw c.requires.fresh (core_in_order_fresh c.args.scenario.now.component c.requires.runnable.codes version.One 1 100000 1000000 (let one = c.requires.one in omega (arith, one))))

pub refuses-requires-clause-given : goal.refuses-requires-clause-given
refuses-requires-clause-given c = rw (c.requires.fresh, given_fresh) (omega arith)
