-- What was read is a scenario of the grammar, in which each host's answers are given.
use Rattle.choice_run.proofs.ClosedLemmas.{closed_read}
use Rattle.task_run.proofs.HeadlineLemmas.{runnable_read}
use Rattle.tests_choices.proofs.runs.scenario.Goals as goal

pub returns-clause-runnable : goal.returns-clause-runnable
returns-clause-runnable g c = runnable_read _ c.in-Ok.scenario c.in-Ok.ensures.answer

pub returns-clause-hosts : goal.returns-clause-hosts
returns-clause-hosts g c = closed_read _ c.in-Ok.scenario c.in-Ok.ensures.answer
