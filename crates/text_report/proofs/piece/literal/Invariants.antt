use Rattle.std.proofs.Common.{◌≡◌, ◌+◌, ◌++◌, take, length}
use Rattle.text_report.proofs.piece.literal.Given as goal

abbrev pub invariant-loop-index : goal.invariant-loop-index
invariant-loop-index l = record {
  room : length l.out ≡ length l.fn.out;
  text : take (l.at + l.index) l.out ≡ take l.at l.fn.out ++ take l.index l.literal;
}
