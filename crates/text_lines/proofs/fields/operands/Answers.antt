use Rattle.std.proofs.Common.{sym, ◌∙◌}
use Rattle.text_lines.specs.Tokens.{operand_at}
use Rattle.text_lines.proofs.Each.{takes_one, refuses_one, takes_none}
use Rattle.text_lines.proofs.fields.operands.Goals as goal

pub loop-token-preserved : goal.loop-token-preserved
loop-token-preserved c =
    let more = takes_one operand_at c.args.tokens.now c.loop-token.token-index _ c.loop-token.operands c.in-Some.x c.loop-token-test.true (sym c.in-Some.ensures) in
    rw c.in_ok-push.ensures.ok (sym more ∙ c.loop-token.invariant)

pub returns : goal.returns
returns c = sym c.loop-token.invariant ∙ takes_none operand_at c.args.tokens.now c.loop-token.token-index c.loop-token.operands c.loop-token-test.false

pub returns-in_default : goal.returns-in_default
returns-in_default c = sym c.loop-token.invariant ∙ refuses_one operand_at c.args.tokens.now c.loop-token.token-index _ c.loop-token.operands c.loop-token-test.true (sym c.in_default.ensures)
