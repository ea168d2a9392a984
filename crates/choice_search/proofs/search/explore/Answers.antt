-- The search of the text's scenario is gone through.
use Rattle.choice_run.proofs.ClosedLemmas.{closed_read}
use Rattle.choice_search.proofs.search.explore.Goals as goal
use Rattle.task_run.proofs.HeadlineLemmas.{runnable_read}

pub explore_scenario-requires-clause-runnable : goal.explore_scenario-requires-clause-runnable
explore_scenario-requires-clause-runnable c = runnable_read c.args.text.now _ c.in_ok-scenario.ensures.answer

pub explore_scenario-requires-clause-hosts : goal.explore_scenario-requires-clause-hosts
explore_scenario-requires-clause-hosts c = closed_read c.args.text.now _ c.in_ok-scenario.ensures.answer

pub returns-in-Ok-clause-explores : goal.returns-in-Ok-clause-explores
returns-in-Ok-clause-explores c = (c.in_ok-scenario.scenario, (c.in_ok-scenario.ensures.answer, c.in-Ok.ensures))
