use Rattle.std.proofs.Common.{◌≡◌, ℕ, ◌≤◌, ◌++◌, List, length}
use Rattle.text_report.specs.Lines.{lines_of}
use Rattle.text_bytes.specs.Outside.{Appends}
use Rattle.task_run.proofs.program.write_report.Given as goal

abbrev pub invariant-pages : goal.invariant-pages
invariant-pages g l = record {
  count : g.K.Sink.faults l.fn.sink ≤ g.K.Sink.faults l.sink;
  fits : length l.page ≤ 131072;
  told : (front : List ℕ) × ((front ++ (l.page ++ lines_of l.labels) ≡ lines_of l.initial.labels) × Appends (g.K.Sink.held l.fn.sink) (g.K.Sink.held l.sink) front);
}

abbrev pub decreases-pages : goal.decreases-pages
decreases-pages g l = length l.labels
