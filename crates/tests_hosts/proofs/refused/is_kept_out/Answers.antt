use Rattle.tests_hosts.proofs.refused.is_kept_out.Goals as goal
use Rattle.task_run.proofs.HeadlineLemmas.{runnable_read}

pub refuses_trapped-refused-requires-clause-runnable : goal.refuses_trapped-refused-requires-clause-runnable
refuses_trapped-refused-requires-clause-runnable g c = runnable_read _ _ c.in-Ok.ensures.answer
