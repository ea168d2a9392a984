use Rattle.beside_main.specs.Cells.{AreNew}
use Rattle.beside_main.proofs.begin.cells_of.Given as goal

abbrev pub invariant-loop-op : goal.invariant-loop-op
invariant-loop-op l = AreNew l.cells.items
