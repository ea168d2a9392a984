use Rattle.std.proofs.Common.{List, map, refl, subst, sym, ◌≡◌}
use Rattle.beside_works.specs.Counts.{met_count}
use Rattle.beside_works.specs.Views.{split_count}
use Rattle.beside_works.specs.declared.cells.SharedSpawn.{SharedSpawn}
use Rattle.tests_beside.proofs.aborters.two_cells.Goals as goal

pub add_cell-requires : goal.add_cell-requires
add_cell-requires c = subst (λ (cs : List SharedSpawn). map split_count cs ≡ map met_count cs) (sym c.new-cells.ensures.items) refl
