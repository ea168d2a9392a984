use Rattle.text_lines.proofs.TokenCounts.{is_one, not_one}
use Rattle.text_lines.proofs.fields.one.Goals as goal

pub returns-then-tokens-ne1 : goal.returns-then-tokens-ne1
returns-then-tokens-ne1 c = not_one c.args.tokens.now c.if-tokens-ne1.true

pub returns : goal.returns
returns c = is_one c.args.tokens.now _ c.if-tokens-ne1.false
