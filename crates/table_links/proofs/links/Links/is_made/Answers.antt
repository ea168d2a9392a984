use Rattle.std.proofs.Common.{◌∙◌, ap}
use Rattle.table_links.specs.Rings.{next_names, role_is_node, roles_in}
use Rattle.table_links.proofs.Neighbours.{made_shown}
use Rattle.table_links.proofs.links.Links.is_made.Goals as goal

pub returns : goal.returns
returns g c = c.is_node.ensures ∙ (ap role_is_node c.role_of.ensures ∙ made_shown (next_names c.self.inside.cells.items) (roles_in c.self.inside.cells.items) c.args.self.now c.args.node.index c.self.view_is)
