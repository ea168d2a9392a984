use Rattle.std.proofs.Common.{take}
use Rattle.beside_main.specs.Cells.{AreCounts, AreEarly}
use Rattle.beside_main.proofs.logs.counts_of.Given as goal

abbrev pub invariant-loop-cell : goal.invariant-loop-cell
invariant-loop-cell l = record {
  early : AreEarly (take l.cell-index l.cells) l.counts.items;
  counts : AreCounts (take l.cell-index l.cells) l.counts.items;
}
