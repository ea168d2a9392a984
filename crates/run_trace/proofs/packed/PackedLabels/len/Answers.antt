use Rattle.std.proofs.Common.{arith}
use Rattle.run_trace.proofs.Appending.{length_labels}
use Rattle.run_trace.proofs.packed.PackedLabels.len.Goals as goal

pub returns : goal.returns
returns c = rw (← c.self.view_is) (omega (arith, c.len.ensures, length_labels c.self.inside.heads.items c.self.inside.numbers.items))
