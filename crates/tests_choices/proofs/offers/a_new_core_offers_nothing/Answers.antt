use Rattle.choice_offers.specs.Listings.{HandlesKnown}
use Rattle.core_primitives.specs.StateView.{StateView}
use Rattle.std.proofs.Common.{subst, sym}
use Rattle.tests_choices.proofs.NewLemmas.{none_named}
use Rattle.tests_choices.proofs.offers.a_new_core_offers_nothing.Goals as goal
use Rattle.trace_machine.proofs.SpotLemmas.{taking_live}

pub at-requires-clause-wakes : goal.at-requires-clause-wakes
at-requires-clause-wakes g c = (c.no_spot.ensures 0).0.0

pub at-requires-clause-takes : goal.at-requires-clause-takes
at-requires-clause-takes g c = taking_live c.new-core.result 0 c.no_spot.result.takes (c.no_spot.ensures 0).0.1

pub at-requires-clause-known : goal.at-requires-clause-known
at-requires-clause-known g c = subst (λ (s : StateView). HandlesKnown s.core) (sym c.new-core.ensures) none_named
