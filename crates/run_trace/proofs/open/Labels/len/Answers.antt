use Rattle.run_trace.proofs.Appending.{length_labels}
use Rattle.run_trace.proofs.open.Labels.len.Goals as goal
use Rattle.std.proofs.Common.{sym}

pub returns : goal.returns
returns c = rw (← c.self.view_is) (sym (length_labels c.self.inside.heads.now c.self.inside.numbers.now))
