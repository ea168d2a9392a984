use Rattle.std.proofs.Common.{List, subst, sym}
use Rattle.beside_main.proofs.CellLemmas.{new_more, none_listed_yet}
use Rattle.beside_main.specs.Cells.{AreNew}
use Rattle.beside_works.specs.declared.cells.SharedSpawn.{SharedSpawn}
use Rattle.beside_main.proofs.begin.add_cell.Goals as goal

pub returns : goal.returns
returns c = subst (λ (cs : List SharedSpawn). AreNew cs) (sym c.in_ok-add.ensures.ok) (new_more c.args.cells.now.items c.in_ok-cell.cell c.requires c.in_ok-cell.ensures.alone.0 c.in_ok-cell.ensures.alone.1 (none_listed_yet c.in_ok-cell.cell c.in_ok-cell.ensures.view))
