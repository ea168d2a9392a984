use Rattle.serve_requests.proofs.request_lines.numbers_in.Given as goal
use Rattle.serve_requests.specs.Reading.{numbers_in}
use Rattle.std.proofs.Common.{drop, ◌≡◌}
use Rattle.text_lines.proofs.Each.{and_more}

abbrev pub invariant-loop-operand : goal.invariant-loop-operand
invariant-loop-operand l = and_more l.numbers (numbers_in (drop l.operand-index l.operands)) ≡ numbers_in l.operands
