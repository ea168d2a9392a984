use Rattle.task_run.proofs.HeadlineLemmas.{runnable_read}
use Rattle.tests_hosts.proofs.single.stepped.Goals as goal

pub first_step-requires-clause-runnable : goal.first_step-requires-clause-runnable
first_step-requires-clause-runnable g c = runnable_read _ _ c.in-Ok.ensures.answer
