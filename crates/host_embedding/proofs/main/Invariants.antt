use Rattle.std.proofs.Common.{◌≤◌, length}
use Rattle.text_report.specs.declared.page.TheConstants.{PAGE}
use Rattle.host_embedding.proofs.main.Given as goal

abbrev pub invariant-pages : goal.invariant-pages
invariant-pages l = record {
  room : length l.page ≤ PAGE;
}

abbrev pub decreases-pages : goal.decreases-pages
decreases-pages l = length l.labels
