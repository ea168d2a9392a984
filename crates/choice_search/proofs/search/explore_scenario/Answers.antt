-- The search is gone through to its end.
use Rattle.choice_search.proofs.StepLemmas.{explored}
use Rattle.choice_search.proofs.search.explore_scenario.Goals as goal
use Rattle.choice_search.specs.Searching.{Comes}
use Rattle.choice_search.specs.declared.search.Explored.{Explored}
use Rattle.std.proofs.Common.{subst}
use Rattle.std.specs.Prelude.{Option}

pub go_on-requires : goal.go_on-requires
go_on-requires c = c.in_ok-search.ensures.searches

pub returns-in-Some : goal.returns-in-Some
returns-in-Some c =
    explored c.args.scenario c.args.steps c.args.polls c.args.kinds c.args.budget c.in_ok-search.search c.go_on.new.self c.in_ok-search.ensures c.in-Some.explored
    (subst (λ (o : Option Explored). Comes c.in_ok-search.search o c.go_on.new.self) c.in-Some.is c.in_ok-said.ensures)
