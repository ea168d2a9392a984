use Rattle.text_lines.proofs.TokenCounts.{are_three, not_three}
use Rattle.text_lines.proofs.fields.three.Goals as goal

pub returns-then-tokens-ne3 : goal.returns-then-tokens-ne3
returns-then-tokens-ne3 c = not_three c.args.tokens.now c.if-tokens-ne3.true

pub returns : goal.returns
returns c = are_three c.args.tokens.now _ c.if-tokens-ne3.false
