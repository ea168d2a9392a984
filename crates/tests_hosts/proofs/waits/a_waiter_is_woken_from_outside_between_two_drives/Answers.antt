use Rattle.tests_hosts.proofs.waits.a_waiter_is_woken_from_outside_between_two_drives.Goals as goal
use Rattle.task_run.proofs.HeadlineLemmas.{runnable_read}

pub goes_on-requires-clause-runnable : goal.goes_on-requires-clause-runnable
goes_on-requires-clause-runnable g c = runnable_read _ _ c.in-Ok.ensures.answer
