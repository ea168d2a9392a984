-- The next branch has a run, or nothing is ahead.
use Rattle.choice_search.proofs.StepLemmas.{none_parts}
use Rattle.choice_search.proofs.search.Search.tree_run.Goals as goal
use Rattle.choice_search.specs.Searching.{IsNextRun}
use Rattle.choice_search.specs.declared.search.NextRun.{NextRun}
use Rattle.std.proofs.Common.{subst}
use Rattle.std.specs.Prelude.{Option}

pub branch_run-requires-clause-searches : goal.branch_run-requires-clause-searches
branch_run-requires-clause-searches c = c.requires.searches

pub branch_run-requires-clause-place : goal.branch_run-requires-clause-place
branch_run-requires-clause-place c = c.requires.place

pub branch_run-requires-clause-last : goal.branch_run-requires-clause-last
branch_run-requires-clause-last c = c.requires.last

pub branch_run-requires-clause-next : goal.branch_run-requires-clause-next
branch_run-requires-clause-next c = subst (λ (o : Option NextRun). IsNextRun c.args.self.now o) c.in-Some.is c.in_ok-next.ensures

pub returns-in-None : goal.returns-in-None
returns-in-None c = none_parts c.args.self.now c.requires.searches c.requires.last c.requires.place (subst (λ (o : Option NextRun). IsNextRun c.args.self.now o) c.in-None.is c.in_ok-next.ensures)
