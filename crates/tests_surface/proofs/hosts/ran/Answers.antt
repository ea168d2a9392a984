use Rattle.tests_surface.proofs.hosts.ran.Goals as goal
use Rattle.task_run.proofs.HeadlineLemmas.{runnable_read}

pub drive-outcome-requires-clause-runnable : goal.drive-outcome-requires-clause-runnable
drive-outcome-requires-clause-runnable g c = runnable_read c.args.text.now c.in-Ok.scenario c.in-Ok.ensures.answer
