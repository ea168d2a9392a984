use Rattle.std.proofs.Common.{◌≡◌, ◌+◌, ◌≤◌, count_by, length}
use Rattle.text_report.specs.Summary.{holds, pauses, takes, wakes}
use Rattle.text_report.proofs.summary.count.Given as goal

abbrev pub invariant-labels : goal.invariant-labels
invariant-labels l = record {
  takes : l.counts.takes + count_by takes l.left ≡ count_by takes l.labels;
  holds : l.counts.holds + count_by holds l.left ≡ count_by holds l.labels;
  wakes : l.counts.wakes + count_by wakes l.left ≡ count_by wakes l.labels;
  pauses : l.counts.pauses + count_by pauses l.left ≡ count_by pauses l.labels;
  few : (l.counts.takes + length l.left ≤ l._total) × (l.counts.holds + length l.left ≤ l._total) × (l.counts.wakes + length l.left ≤ l._total) × (l.counts.pauses + length l.left ≤ l._total);
}

abbrev pub decreases-labels : goal.decreases-labels
decreases-labels l = length l.left
