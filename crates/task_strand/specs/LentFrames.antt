-- What a strand ends as, where a `&mut` to its top frame is returned.
use Rattle.std.specs.Prelude.{List, Option}
use Rattle.std.specs.Borrow.{LendsIf, Fml, MutBor}
use Rattle.task_strand.specs.declared.frame.Frame.{Frame}
use Rattle.task_strand.specs.contracts.frame.Frame as frame
use Rattle.task_strand.specs.contracts.strand.Strand.{the_row}
use Rattle.task_strand.specs.Strand.{with_top}

-- once the borrow r ends, the top frame is the last that was written through r; at `None` the strand stays
abbrev pub lends_top : MutBor (List Frame) → Option (MutBor Frame) → Fml
lends_top s r = LendsIf the_row frame.the_row s r (with_top s.now) s.now
