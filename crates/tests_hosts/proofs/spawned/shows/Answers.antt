use Rattle.task_run.proofs.HeadlineLemmas.{runnable_read}
use Rattle.tests_hosts.proofs.spawned.shows.Goals as goal

pub driven-outcome-requires-clause-runnable : goal.driven-outcome-requires-clause-runnable
driven-outcome-requires-clause-runnable g c = runnable_read _ _ c.in-Ok.ensures.answer
