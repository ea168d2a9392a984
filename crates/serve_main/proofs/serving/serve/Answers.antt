-- The text's scenario may run, and takes the requests.
use Rattle.serve_main.proofs.serving.serve.Goals as goal
use Rattle.task_run.proofs.HeadlineLemmas.{runnable_read}

pub serve_scenario-requires-clause-runnable : goal.serve_scenario-requires-clause-runnable
serve_scenario-requires-clause-runnable c = runnable_read c.args.text.now c.in_ok-scenario.scenario c.in_ok-scenario.ensures.answer

pub serve_scenario-requires-clause-taken : goal.serve_scenario-requires-clause-taken
serve_scenario-requires-clause-taken c = c.requires.taken c.in_ok-scenario.scenario c.in_ok-scenario.ensures.answer

pub returns-in-Ok-clause-served : goal.returns-in-Ok-clause-served
returns-in-Ok-clause-served c = record { scenario = c.in_ok-scenario.scenario; reads = c.in_ok-scenario.ensures.answer; served_by = c.in-Ok.ensures }
