-- What was read of the scenario and of the lines after it.
use Rattle.choice_offers.specs.Choices.{chosen_of}
use Rattle.choice_run.proofs.ClosedLemmas.{closed_read}
use Rattle.choice_run.proofs.PartLemmas.{bad_after, runs_parts}
use Rattle.choice_run.proofs.program.run_parts.Goals as goal
use Rattle.choice_run.specs.ChooseLines.{ReadsChoices}
use Rattle.choice_run.specs.Chosen.{RunsTo}
use Rattle.laws_choices.specs.Offer.{Chosen}
use Rattle.std.proofs.Common.{arith, inl, inr, refl, subst}
use Rattle.std.specs.Prelude.{Err, List, map, ◌+◌}
use Rattle.task_run.proofs.HeadlineLemmas.{runnable_read}
use Rattle.task_run.specs.Headline.{machine_scenario}
use Rattle.task_run.specs.Lower.{ReadsAs}
use Rattle.text_reader.specs.declared.error.RunError.{RunError}
use Rattle.text_scenario.specs.declared.read.TextError.{TextError}

pub read_choices-requires : goal.read_choices-requires
read_choices-requires c = let short = c.requires.short in let rest = c.requires.input in let few = c.requires.lines in omega (arith, short, rest, few)

pub run_chosen-requires-clause-scenario : goal.run_chosen-requires-clause-scenario
run_chosen-requires-clause-scenario c = runnable_read c.args.scenario.now _ c.in-Ok.ensures.answer

pub run_chosen-requires-clause-hosts : goal.run_chosen-requires-clause-hosts
run_chosen-requires-clause-hosts c = closed_read c.args.scenario.now _ c.in-Ok.ensures.answer

pub returns : goal.returns
returns c = rw c.in-Err-BadScenario.field-0-is (inl (subst (λ (e : RunError). ReadsAs c.args.scenario.now (Err e)) c.in-Err-BadScenario.field-0-is c.in-Err-BadScenario.ensures.answer))

pub returns-in-Ok-read_choices : goal.returns-in-Ok-read_choices
returns-in-Ok-read_choices c =
    runs_parts c.args.steps c.args.scenario.now c.args.rest.now c.args.lines c.in-Ok.scenario c.in-Ok.ensures.answer (map chosen_of c.in-Ok-read_choices.choices.items) c.in-Ok-read_choices.ensures c.run_chosen.result
    (subst (λ (cs : List _). RunsTo (machine_scenario c.in-Ok.scenario) c.args.steps (map chosen_of cs) c.run_chosen.result) c.as_slice.ensures.value c.run_chosen.ensures)

pub returns-in-Ok : goal.returns-in-Ok
returns-in-Ok c =
    let told = subst (λ (e : TextError). ReadsChoices c.args.rest.now (c.args.lines + 1) (Err e)) c.in-Err-Bad.field-0-is c.in-Err-Bad.ensures in
    rw c.in-Err-Bad.field-0-is (inr (bad_after c.args.scenario.now c.args.rest.now c.args.lines (c.args.lines + 1) c.in-Err-Bad.line c.in-Ok.scenario c.in-Ok.ensures.answer refl told.0 told.1))
