-- The scenario of the text is run, or its bad line is told; and each run is had.
use Rattle.choice_offers.specs.Choices.{chosen_of}
use Rattle.choice_run.proofs.ClosedLemmas.{closed_read}
use Rattle.choice_run.proofs.HadLemmas.{answers_of, has_each}
use Rattle.choice_run.proofs.run.run_choices.Goals as goal
use Rattle.std.proofs.Common.{subst}
use Rattle.std.specs.Prelude.{Err, map}
use Rattle.task_run.proofs.HeadlineLemmas.{runnable_read}
use Rattle.task_run.specs.Lower.{ReadsAs}
use Rattle.text_reader.specs.declared.error.RunError.{RunError}

pub run_chosen-requires-clause-scenario : goal.run_chosen-requires-clause-scenario
run_chosen-requires-clause-scenario c = runnable_read c.args.text.now _ c.in-Ok.ensures.answer

pub run_chosen-requires-clause-hosts : goal.run_chosen-requires-clause-hosts
run_chosen-requires-clause-hosts c = closed_read c.args.text.now _ c.in-Ok.ensures.answer

pub returns-in-Ok-clause-answers : goal.returns-in-Ok-clause-answers
returns-in-Ok-clause-answers c = answers_of c.args.text.now c.args.steps (map chosen_of c.args.choices.now) c.in-Ok.scenario c.in-Ok.ensures.answer c.run_chosen.result c.run_chosen.ensures

pub returns-in-Ok-clause-each : goal.returns-in-Ok-clause-each
returns-in-Ok-clause-each c = has_each c.args.text.now c.args.steps

pub returns-in-Err-NoMemory-clause-each : goal.returns-in-Err-NoMemory-clause-each
returns-in-Err-NoMemory-clause-each c = has_each c.args.text.now c.args.steps

pub returns-in-Err-BadScenario-clause-each : goal.returns-in-Err-BadScenario-clause-each
returns-in-Err-BadScenario-clause-each c = has_each c.args.text.now c.args.steps

pub returns-in-Err-BadScenario-clause-answers : goal.returns-in-Err-BadScenario-clause-answers
returns-in-Err-BadScenario-clause-answers c = rw c.in-Err-BadScenario.field-0-is (subst (λ (e : RunError). ReadsAs c.args.text.now (Err e)) c.in-Err-BadScenario.field-0-is c.in-Err-BadScenario.ensures.answer)
