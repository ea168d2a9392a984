use Rattle.std.proofs.Common.{List, map, subst, sym, ◌≡◌}
use Rattle.beside_works.specs.Counts.{met_count}
use Rattle.tests_beside.proofs.MetLemmas.{cell_added}
use Rattle.beside_works.specs.Views.{split_count}
use Rattle.beside_works.specs.declared.cells.SharedSpawn.{SharedSpawn}
use Rattle.tests_beside.proofs.aborters.add_cell.Goals as goal

pub returns : goal.returns
returns c = subst (λ (cs : List SharedSpawn). map split_count cs ≡ map met_count cs) (sym c.in_ok-add.ensures)
    (cell_added c.args.cells.now.items c.in_ok-cell.cell c.requires c.in_ok-cell.ensures.alone.0 c.in_ok-cell.ensures.alone.1)
