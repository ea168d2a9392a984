use Rattle.text_lines.proofs.TokenCounts.{are_two, not_two}
use Rattle.text_lines.proofs.fields.two.Goals as goal

pub returns-then-tokens-ne2 : goal.returns-then-tokens-ne2
returns-then-tokens-ne2 c = not_two c.args.tokens.now c.if-tokens-ne2.true

pub returns : goal.returns
returns c = are_two c.args.tokens.now _ c.if-tokens-ne2.false
