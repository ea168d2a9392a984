use Rattle.std.proofs.Common.{rules}
use Rattle.task_run.proofs.HeadlineLemmas.{runnable_read}
use Rattle.task_run.specs.Runnable.{IsRunnable}
use Rattle.beside_main.proofs.report.run_beside.Goals as goal

pub run-requires-clause-runnable : goal.run-requires-clause-runnable
run-requires-clause-runnable g c =
    let runnable : IsRunnable c.in_ok-scenario.scenario = runnable_read c.args.text.now _ c.in_ok-scenario.ensures.answer in search rules

pub returns-in-Ok-clause-ran : goal.returns-in-Ok-clause-ran
returns-in-Ok-clause-ran g c = record { scenario = c.in_ok-scenario.scenario; reads = c.in_ok-scenario.ensures.answer; report = c.in-Ok.ensures }
