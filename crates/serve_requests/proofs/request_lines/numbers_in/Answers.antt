use Rattle.serve_requests.proofs.NumberLaws.{refuses_register, takes_none, takes_number}
use Rattle.serve_requests.proofs.request_lines.numbers_in.Goals as goal
use Rattle.std.proofs.Common.{sym, ◌∙◌}

pub loop-operand-preserved : goal.loop-operand-preserved
loop-operand-preserved c =
    let more = takes_number c.args.operands.now c.loop-operand.operand-index _ c.loop-operand.numbers c.in-Some.number c.loop-operand-test.true (sym c.in-Some.ensures) in
    rw c.in_ok-push.ensures.ok (sym more ∙ c.loop-operand.invariant)

pub returns : goal.returns
returns c = sym c.loop-operand.invariant ∙ takes_none c.args.operands.now c.loop-operand.operand-index c.loop-operand.numbers c.loop-operand-test.false

pub returns-in_default : goal.returns-in_default
returns-in_default c = sym c.loop-operand.invariant ∙ refuses_register c.args.operands.now c.loop-operand.operand-index _ c.loop-operand.numbers c.loop-operand-test.true (sym c.in_default.ensures)
