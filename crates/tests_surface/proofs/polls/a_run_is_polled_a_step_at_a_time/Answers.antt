use Rattle.tests_surface.proofs.polls.a_run_is_polled_a_step_at_a_time.Goals as goal
use Rattle.task_run.proofs.HeadlineLemmas.{runnable_read}

pub ran_by_steps-yields-requires-clause-runnable : goal.ran_by_steps-yields-requires-clause-runnable
ran_by_steps-yields-requires-clause-runnable g c = runnable_read _ _ c.in-Ok.ensures.answer
