use Rattle.std.proofs.Common.{arith}
use Rattle.text_lines.proofs.TokenLaws.{bounded_is}
use Rattle.text_lines.proofs.tokens.number_up_to.Goals as goal

pub returns : goal.returns
returns c = bounded_is c.args.limit c.args.token.now c.bounded.result (omega (arith, c.ranges.limit)) c.bounded.ensures.value
