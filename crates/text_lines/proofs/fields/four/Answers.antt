use Rattle.text_lines.proofs.TokenCounts.{are_four, not_four}
use Rattle.text_lines.proofs.fields.four.Goals as goal

pub returns-then-tokens-ne4 : goal.returns-then-tokens-ne4
returns-then-tokens-ne4 c = not_four c.args.tokens.now c.if-tokens-ne4.true

pub returns : goal.returns
returns c = are_four c.args.tokens.now _ c.if-tokens-ne4.false
