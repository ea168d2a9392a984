use Rattle.std.proofs.Common.{◌≡◌, drop}
use Rattle.text_lines.specs.Line.{operands_at}
use Rattle.text_lines.proofs.Each.{and_more}
use Rattle.text_lines.proofs.TokenCounts.{bytes_of}
use Rattle.text_lines.proofs.fields.operands.Given as goal

abbrev pub invariant-loop-token : goal.invariant-loop-token
invariant-loop-token l = and_more l.operands (operands_at (bytes_of (drop l.token-index l.tokens))) ≡ operands_at (bytes_of l.tokens)
