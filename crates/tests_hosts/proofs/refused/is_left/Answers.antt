use Rattle.tests_hosts.proofs.refused.is_left.Goals as goal
use Rattle.task_run.proofs.HeadlineLemmas.{runnable_read}

pub refuses_first-refused-requires-clause-runnable : goal.refuses_first-refused-requires-clause-runnable
refuses_first-refused-requires-clause-runnable g c = runnable_read _ _ c.in-Ok.ensures.answer
