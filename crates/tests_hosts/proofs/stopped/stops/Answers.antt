use Rattle.task_run.proofs.HeadlineLemmas.{runnable_read}
use Rattle.tests_hosts.proofs.stopped.stops.Goals as goal

pub polled-polled-requires-clause-runnable : goal.polled-polled-requires-clause-runnable
polled-polled-requires-clause-runnable g c = runnable_read _ _ c.in-Ok.ensures.answer

pub driven-driven-requires-clause-runnable : goal.driven-driven-requires-clause-runnable
driven-driven-requires-clause-runnable g c = runnable_read _ _ c.in-Ok.ensures.answer
