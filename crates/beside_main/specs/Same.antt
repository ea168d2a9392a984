-- Cells are kept where nothing is asked of them.
use Rattle.beside_main.specs.Cells.{KeepsCell, KeepsCells}
use Rattle.beside_main.specs.Course.{KeepsAsked}
use Rattle.beside_main.specs.declared.asked.Cells.{Cells}
use Rattle.beside_works.specs.declared.cells.SharedSpawn.{SharedSpawn}
use Rattle.std.specs.Prelude.{List, [], ◌∷◌}
use Rattle.std.proofs.Common.{refl}

pub same_cell : (a : SharedSpawn) → KeepsCell a a
same_cell a = record { cell = refl; split = refl; met = refl; round = λ n q. q }

pub same_cells : (olds : List SharedSpawn) → KeepsCells olds olds
same_cells [] = tt
same_cells (a ∷ olds) = (same_cell a, same_cells olds)

pub same_asked : (a : Cells) → KeepsAsked a a
same_asked a = (same_cells a.list.items, refl)
