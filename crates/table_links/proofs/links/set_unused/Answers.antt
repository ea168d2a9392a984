use Rattle.table_links.specs.Rings.{cell_role}
use Rattle.std.proofs.Common.{refl}
use Rattle.std.proofs.lemmas.List.{map-set}
use Rattle.table_links.proofs.Cells.{part_kept}
use Rattle.table_links.proofs.links.set_unused.Goals as goal

pub returns-clause-next : goal.returns-clause-next
returns-clause-next g c = map-set (λ cell. cell.next) c.args.cells.now.items c.args.index _

pub returns-clause-previous : goal.returns-clause-previous
returns-clause-previous g c = part_kept c.args.cells.now.items c.args.index c.index_mut-cell.result.now c.requires c.index_mut-cell.ensures.value (λ cell. cell.previous) _ refl

pub returns-clause-roles : goal.returns-clause-roles
returns-clause-roles g c = map-set cell_role c.args.cells.now.items c.args.index _
