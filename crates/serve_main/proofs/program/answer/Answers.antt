-- The input is cut where its scenario ends.
use Rattle.serve_main.proofs.ToolLemmas.{bad_input, long_input, replied, said_bad_line, said_long, served_input}
use Rattle.serve_main.proofs.program.answer.Goals as goal
use Rattle.serve_requests.specs.Input.{IsBadIn}
use Rattle.serve_main.specs.Tool.{ServesParts}
use Rattle.text_scenario.specs.declared.read.TextError.{TextError}
use Rattle.std.proofs.Common.{arith, subst}
use Rattle.std.specs.Prelude.{Err, List, drop, length, take, ℕ, ◌-◌}
use Rattle.std.proofs.lemmas.List.{take_rest}

pub returns-then-end-gt-SCENARIO_LIMIT-clause-ended : goal.returns-then-end-gt-SCENARIO_LIMIT-clause-ended
returns-then-end-gt-SCENARIO_LIMIT-clause-ended g c =
    said_long c.args.limit c.args.steps c.args.input.now _ _ c.say.result
    (long_input c.args.input.now c.scenario_end-end.result.0 c.scenario_end-end.result.1 c.scenario_end-end.ensures.cut c.scenario_end-end.ensures.inside c.if-end-gt-SCENARIO_LIMIT.true) c.say.ensures.told

pub returns-in-Ok-clause-ended : goal.returns-in-Ok-clause-ended
returns-in-Ok-clause-ended g c =
    let short = c.if-end-gt-SCENARIO_LIMIT.false in
    replied c.args.limit c.args.steps c.args.input.now _ _ c.in-Ok.served c.put.result
    (served_input c.args.input.now c.scenario_end-end.result.0 c.scenario_end-end.result.1 c.scenario_end-end.ensures.cut c.scenario_end-end.ensures.inside
    c.args.limit c.args.steps c.in-Ok.served (omega (arith, short)) (rw take_rest at c.in-Ok.ensures))
    c.put.ensures.told

pub returns-in-Err-Bad-clause-ended : goal.returns-in-Err-Bad-clause-ended
returns-in-Err-Bad-clause-ended g c =
    let short = c.if-end-gt-SCENARIO_LIMIT.false in
    let input = c.args.input.now in
    let end = c.scenario_end-end.result.0 in
    let told = subst (λ (e : TextError). ServesParts (take end input) (take (length input - end) (drop end input)) c.scenario_end-end.result.1 c.args.limit c.args.steps (Err e)) c.in-Err-Bad.field-0-is c.in-Err-Bad.ensures in
    let bad = subst (λ (bs : List ℕ). IsBadIn (take end input) bs c.scenario_end-end.result.1 c.in-Err-Bad.line) (take_rest input end) told in
    said_bad_line c.args.limit c.args.steps c.args.input.now _ _ c.in-Err-Bad.line c.say_bad_line.result
    (bad_input c.args.input.now c.scenario_end-end.result.0 c.scenario_end-end.result.1 c.scenario_end-end.ensures.cut c.scenario_end-end.ensures.inside
    c.in-Err-Bad.line (omega (arith, short)) bad)
    c.say_bad_line.ensures.told
