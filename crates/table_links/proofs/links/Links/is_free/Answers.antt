use Rattle.std.proofs.Common.{◌∙◌, ap}
use Rattle.table_links.specs.Rings.{next_names, role_is_free, roles_in}
use Rattle.table_links.proofs.Neighbours.{free_shown}
use Rattle.table_links.proofs.links.Links.is_free.Goals as goal

pub returns : goal.returns
returns g c = c.is_free.ensures ∙ (ap role_is_free c.role_of.ensures ∙ free_shown (next_names c.self.inside.cells.items) (roles_in c.self.inside.cells.items) c.args.self.now c.args.node.index c.self.view_is)
