use Rattle.std.proofs.Common.{◌≡◌, drop}
use Rattle.text_lines.specs.Line.{numbers_at}
use Rattle.text_lines.proofs.Each.{and_more}
use Rattle.text_lines.proofs.TokenCounts.{bytes_of}
use Rattle.text_lines.proofs.fields.numbers.Given as goal

abbrev pub invariant-loop-token : goal.invariant-loop-token
invariant-loop-token l = and_more l.numbers (numbers_at (bytes_of (drop l.token-index l.tokens))) ≡ numbers_at (bytes_of l.tokens)
