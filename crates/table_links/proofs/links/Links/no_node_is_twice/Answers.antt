use Rattle.std.proofs.Common.{subst}
use Rattle.table_links.specs.Links.{IsLinks}
use Rattle.table_links.specs.Rings.{next_names, previous_names, roles_in}
use Rattle.table_links.proofs.Seen.{IsLinks-shown}
use Rattle.table_links.proofs.links.Links.no_node_is_twice.Goals as goal

pub returns : goal.returns
returns g c = subst IsLinks c.self.view_is (IsLinks-shown (next_names c.self.inside.cells.items) (previous_names c.self.inside.cells.items) (roles_in c.self.inside.cells.items) c.self.invariant.rings)
