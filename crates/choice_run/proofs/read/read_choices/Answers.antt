use Rattle.choice_offers.specs.Choices.{chosen_of}
use Rattle.choice_run.proofs.LoopLemmas.{all_read, bad_line, none_read, one_more}
use Rattle.choice_run.proofs.read.read_choices.Goals as goal
use Rattle.choice_run.specs.Reading.{IsNone}
use Rattle.std.proofs.Common.{ap, subst, sym}
use Rattle.std.proofs.lemmas.List.{length-map}
use Rattle.text_scenario.specs.Grammar.{tokens}
use Rattle.std.specs.Prelude.{Err, map, ℕ, ◌≤◌, ◌⊎◌}
use Rattle.text_lines.specs.declared.line.LineError.{LineError}

pub loop-line-init : goal.loop-line-init
loop-line-init c = rw c.new-choices.ensures.items (none_read c.args.text.now c.args.first)

pub returns-in-Err-Bad : goal.returns-in-Err-Bad
returns-in-Err-Bad c =
    bad_line c.args.text.now c.args.first c.loop-line.number c.loop-line.rest.now c.in-Some.line.now c.in-Some.more.now (map chosen_of c.loop-line.choices.items) c.loop-line.invariant c.in-Some.ensures.cases
    (subst (λ (n : ℕ). (100000 ≤ n) ⊎ IsNone (tokens c.in-Some.line.now)) (sym (length-map c.loop-line.choices.items chosen_of)) (c.in-Err-Bad.ensures.bad (ap (λ (e : LineError). Err e) c.in-Err-Bad.field-0-is)))

pub loop-line-preserved : goal.loop-line-preserved
loop-line-preserved c =
    one_more c.args.text.now c.args.first c.loop-line.number c.loop-line.rest.now c.in-Some.line.now c.in-Some.more.now (map chosen_of c.loop-line.choices.items) c.loop-line.invariant c.in-Some.ensures.cases _ c.in-Some.ensures.shorter
    c.in-Ok.ensures.ok

pub returns : goal.returns
returns c = all_read c.args.text.now c.args.first c.loop-line.number c.loop-line.rest.now (map chosen_of c.loop-line.choices.items) c.loop-line.invariant c.in_default.ensures.cases
