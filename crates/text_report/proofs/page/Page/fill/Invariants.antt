use Rattle.std.proofs.Common.{◌≡◌, ◌<◌, ◌≤◌, ◌++◌, ◌⊎◌, length, take}
use Rattle.text_report.specs.Lines.{lines_of}
use Rattle.text_report.proofs.page.Page.fill.Given as goal

abbrev pub invariant-lines : goal.invariant-lines
invariant-lines l = record {
  room : length l.out ≡ 131232;
  used : l.at ≤ 131232;
  lines : take l.at l.out ++ lines_of l.left ≡ l.fn.self ++ lines_of l.fn.labels;
  left : length l.left ≤ length l.fn.labels;
  begun : (l.at ≡ length l.fn.self) ⊎ (length l.left < length l.fn.labels);
}

abbrev pub decreases-lines : goal.decreases-lines
decreases-lines l = length l.left
