-- A trap leaves the store in order, and gives no number.
use Rattle.tests_hosts.proofs.refused.refuses_trapped.Goals as goal
use Rattle.std.proofs.Common.{arith}
use Rattle.machine_data.specs.Write.{set_trapped}
use Rattle.machine_data.specs.declared.scenario.Version.TheVariants as version
use Rattle.machine_data.specs.declared.records.Turn.TheVariants as turn
use Rattle.ops_calls.proofs.ApartLemmas.{trap_in_order}
use Rattle.ops_turns.proofs.FreshLemmas.{given_fresh, core_in_order_fresh}
use Rattle.ops_turns.specs.Turn.{CoreInOrder}

pub refuses-requires-clause-covered : goal.refuses-requires-clause-covered
refuses-requires-clause-covered c = c.requires.runnable.component

pub refuses-requires-clause-order : goal.refuses-requires-clause-order
refuses-requires-clause-order c =
    let component = c.args.scenario.now.component in
    let one = c.requires.one in
    let here : CoreInOrder component turn.Main c.args.store.now.state.core = rw c.requires.fresh (core_in_order_fresh component c.requires.runnable.codes version.One 1 100000 1000000 (omega (arith, one))) in
    (turn.Main, rw c.set_trapped.ensures.rest (trap_in_order component turn.Main c.args.store.now.state.core here))

pub refuses-requires-clause-given : goal.refuses-requires-clause-given
unfolding set_trapped
refuses-requires-clause-given c = rw (c.set_trapped.ensures.rest, c.requires.fresh, given_fresh) (omega arith)
