use Rattle.choice_run.proofs.program.text_of.Given as goal
use Rattle.std.proofs.Common.{length, ◌++◌, ◌≡◌, ◌≤◌}
use Rattle.text_report.specs.Lines.{lines_of}

abbrev pub invariant-pages : goal.invariant-pages
invariant-pages l = record {
  fits : length l.page ≤ 131072;
  text : l.out.items ++ (l.page ++ lines_of l.labels) ≡ lines_of l.initial.labels;
}

abbrev pub decreases-pages : goal.decreases-pages
decreases-pages l = length l.labels
