use Rattle.tests_surface.proofs.StateLemmas.{core_in_order_joins, core_in_order_placed}
use Rattle.tests_surface.proofs.calls_of_states.queued.Goals as goal
use Rattle.machine_data.specs.declared.records.Turn.TheVariants as turn
use Rattle.ops_turns.proofs.CoveredLemmas.{home_there}

pub returns-clause-placed : goal.returns-clause-placed
returns-clause-placed g c = core_in_order_placed _ _ _ c.called.ensures.order

pub returns-clause-joins : goal.returns-clause-joins
returns-clause-joins g c = core_in_order_joins _ _ _ c.called.ensures.order

pub returns-clause-there : goal.returns-clause-there
returns-clause-there g c = home_there c.component-component.result _ turn.Main c.called.new.store.state.core c.called.ensures.order c.component-component.ensures.there
