use Rattle.std.proofs.Common.{List, subst, sym}
use Rattle.beside_main.specs.Cells.{AreNew}
use Rattle.beside_works.specs.declared.cells.SharedSpawn.{SharedSpawn}
use Rattle.beside_main.proofs.begin.cells_of.Goals as goal

pub loop-op-init : goal.loop-op-init
loop-op-init c = subst (λ (cs : List SharedSpawn). AreNew cs) (sym c.new-cells.ensures.items) tt
