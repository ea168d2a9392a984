-- The input is cut where its scenario ends.
use Rattle.choice_run.proofs.ToolLemmas.{bad_due, long_due, runs_due, said, said_or_full}
use Rattle.choice_run.proofs.program.answer.Goals as goal
use Rattle.choice_run.specs.Tool.{IsBadIn, RunsParts, RunsTexts, short_text, wrong_choice_text}
use Rattle.choice_run.specs.declared.run.ChoiceError.TheVariants as choice_error
use Rattle.choice_run.specs.declared.run.ChoiceError.{ChoiceError}
use Rattle.machine_rules.specs.Texts.{text}
use Rattle.std.proofs.Common.{arith, refl, subst}
use Rattle.std.proofs.lemmas.List.{length-drop, length-take-le, take_rest}
use Rattle.std.specs.Prelude.{Err, List, Ok, drop, length, take, ℕ, ◌-◌}
use Rattle.task_run.specs.Tool.{bad_line_text, too_long_text}

pub returns-then-end-gt-SCENARIO_LIMIT-clause-ended : goal.returns-then-end-gt-SCENARIO_LIMIT-clause-ended
returns-then-end-gt-SCENARIO_LIMIT-clause-ended g c =
    said c.args.steps c.args.input.now _ _ 6 c.say.result too_long_text
    (long_due c.args.input.now c.scenario_end-end.result.0 c.scenario_end-end.result.1 c.scenario_end-end.ensures.cut c.scenario_end-end.ensures.inside c.args.steps c.if-end-gt-SCENARIO_LIMIT.true) c.say.ensures.told

pub run_parts-requires-clause-short : goal.run_parts-requires-clause-short
run_parts-requires-clause-short g c =
    let size = length-take-le c.scenario_end-end.result.0 c.args.input.now c.scenario_end-end.ensures.inside in
    let short = c.if-end-gt-SCENARIO_LIMIT.false in
    omega (arith, size, short)

pub run_parts-requires-clause-input : goal.run_parts-requires-clause-input
run_parts-requires-clause-input g c = rw take_rest (let size = length-drop c.scenario_end-end.result.0 c.args.input.now in let short = c.requires.input in omega (arith, size, short))

pub run_parts-requires-clause-lines : goal.run_parts-requires-clause-lines
run_parts-requires-clause-lines g c =
    let size = length-take-le c.scenario_end-end.result.0 c.args.input.now c.scenario_end-end.ensures.inside in
    let few = c.scenario_end-end.ensures.few in
    omega (arith, size, few)

pub returns-in-Ok-clause-ended : goal.returns-in-Ok-clause-ended
returns-in-Ok-clause-ended g c =
    let input = c.args.input.now in
    let end = c.scenario_end-end.result.0 in
    let short = c.if-end-gt-SCENARIO_LIMIT.false in
    let r = c.in-Ok.report in
    let runs = subst (λ (bs : List ℕ). RunsTexts c.args.steps (take end input) bs (Ok r)) (take_rest input end) c.in-Ok.ensures in
    said_or_full c.args.steps input _ _ 0 c.put.result (text r.trace.labels r.outcome)
    (runs_due input end c.scenario_end-end.result.1 c.scenario_end-end.ensures.cut c.scenario_end-end.ensures.inside (omega (arith, short)) c.args.steps (Ok r) runs 0 (text r.trace.labels r.outcome) (refl, refl)) c.put.ensures.told

pub returns-in-Err-BadScenario-clause-ended : goal.returns-in-Err-BadScenario-clause-ended
returns-in-Err-BadScenario-clause-ended g c =
    let input = c.args.input.now in
    let end = c.scenario_end-end.result.0 in
    let count = c.scenario_end-end.result.1 in
    let short = c.if-end-gt-SCENARIO_LIMIT.false in
    let line = c.in-Err-BadScenario.line in
    let told = subst (λ (e : ChoiceError). RunsParts c.args.steps (take end input) (take (length input - end) (drop end input)) count (Err e)) c.in-Err-BadScenario.field-0-is c.in-Err-BadScenario.ensures in
    let bad = subst (λ (bs : List ℕ). IsBadIn (take end input) bs count line) (take_rest input end) told in
    said_or_full c.args.steps input _ _ 3 c.say_bad_line.result (bad_line_text line)
    (bad_due input end count c.scenario_end-end.ensures.cut c.scenario_end-end.ensures.inside (omega (arith, short)) c.args.steps line bad) c.say_bad_line.ensures.told

pub returns-in-Err-Wrong-clause-ended : goal.returns-in-Err-Wrong-clause-ended
returns-in-Err-Wrong-clause-ended g c =
    let input = c.args.input.now in
    let end = c.scenario_end-end.result.0 in
    let count = c.scenario_end-end.result.1 in
    let short = c.if-end-gt-SCENARIO_LIMIT.false in
    let k = c.in-Err-Wrong.choice in
    let told = subst (λ (e : ChoiceError). RunsParts c.args.steps (take end input) (take (length input - end) (drop end input)) count (Err e)) c.in-Err-Wrong.field-0-is c.in-Err-Wrong.ensures in
    let runs = subst (λ (bs : List ℕ). RunsTexts c.args.steps (take end input) bs (Err (choice_error.Wrong k))) (take_rest input end) told in
    said_or_full c.args.steps input _ _ 7 c.say_wrong.result (wrong_choice_text k)
    (runs_due input end count c.scenario_end-end.ensures.cut c.scenario_end-end.ensures.inside (omega (arith, short)) c.args.steps (Err (choice_error.Wrong k)) runs 7 (wrong_choice_text k) (refl, refl)) c.say_wrong.ensures.told

pub returns-in-Err-Short-clause-ended : goal.returns-in-Err-Short-clause-ended
returns-in-Err-Short-clause-ended g c =
    let input = c.args.input.now in
    let end = c.scenario_end-end.result.0 in
    let count = c.scenario_end-end.result.1 in
    let short = c.if-end-gt-SCENARIO_LIMIT.false in
    let n = c.in-Err-Short.labels in
    let told = subst (λ (e : ChoiceError). RunsParts c.args.steps (take end input) (take (length input - end) (drop end input)) count (Err e)) c.in-Err-Short.field-0-is c.in-Err-Short.ensures in
    let runs = subst (λ (bs : List ℕ). RunsTexts c.args.steps (take end input) bs (Err (choice_error.Short n))) (take_rest input end) told in
    said_or_full c.args.steps input _ _ 8 c.say_short.result (short_text n)
    (runs_due input end count c.scenario_end-end.ensures.cut c.scenario_end-end.ensures.inside (omega (arith, short)) c.args.steps (Err (choice_error.Short n)) runs 8 (short_text n) (refl, refl)) c.say_short.ensures.told
