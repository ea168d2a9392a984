use Rattle.task_run.proofs.HeadlineLemmas.{runnable_read}
use Rattle.task_run.proofs.report.run_scenario.Goals as goal

pub run-requires : goal.run-requires
run-requires c = runnable_read c.args.text.now _ c.in_ok-scenario.ensures.answer
