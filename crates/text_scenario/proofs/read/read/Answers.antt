use Rattle.std.proofs.Common.{sym, ◌∙◌, arith}
use Rattle.text_scenario.proofs.ReadFrom.{line_refused, line_taken, no_line, ends_so}
use Rattle.text_scenario.proofs.read.read.Goals as goal

pub returns-in-Err-Bad : goal.returns-in-Err-Bad
returns-in-Err-Bad c =
    let bad = line_refused c.loop-line.state c.loop-line.number c.loop-line.rest.now c.in-Some.line.now c.in-Some.more.now c.in-Some.ensures.cases (rw c.in-Err-Bad.field-0-is at c.in-Err-Bad.ensures.value) in
    sym c.loop-line.invariant.same ∙ bad

pub loop-line-preserved : goal.loop-line-preserved
loop-line-preserved c =
    let good = line_taken c.loop-line.state c.add_line.new.state c.loop-line.number c.loop-line.rest.now c.in-Some.line.now c.in-Some.more.now c.in-Some.ensures.cases c.in-Ok.ensures.value in
    record { same = sym good ∙ c.loop-line.invariant.same; few = omega (arith, c.in-Some.ensures.shorter) }

pub returns : goal.returns
returns c =
    let end = no_line c.loop-line.state c.loop-line.number c.loop-line.rest.now c.in_default.ensures.cases in
    rw (c.ok_or.ensures.value, ← c.loop-line.invariant.same, end, ← c.into_scenario.ensures) (ends_so c.loop-line.number c.into_scenario.result)
