use Rattle.table_links.specs.Rings.{cell_role}
use Rattle.std.proofs.Common.{ap, sym}
use Rattle.std.proofs.lemmas.List.{map-set}
use Rattle.table_links.proofs.Cells.{part_kept}
use Rattle.table_links.proofs.links.set_free.Goals as goal

pub returns-clause-next : goal.returns-clause-next
returns-clause-next g c = part_kept c.args.cells.now c.args.index c.index-cells-index.result c.requires c.index-cells-index.is (λ cell. cell.next) _ (sym (ap (λ cell. cell.next) c.index-cells-index.is))

pub returns-clause-previous : goal.returns-clause-previous
returns-clause-previous g c = part_kept c.args.cells.now c.args.index c.index-cells-index.result c.requires c.index-cells-index.is (λ cell. cell.previous) _ (sym (ap (λ cell. cell.previous) c.index-cells-index.is))

pub returns-clause-roles : goal.returns-clause-roles
returns-clause-roles g c = map-set cell_role c.args.cells.now c.args.index _
