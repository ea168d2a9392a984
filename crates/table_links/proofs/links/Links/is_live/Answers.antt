use Rattle.std.proofs.Common.{◌∙◌, ap}
use Rattle.table_links.specs.Rings.{next_names, role_is_chain, roles_in}
use Rattle.table_links.proofs.Neighbours.{live_shown}
use Rattle.table_links.proofs.links.Links.is_live.Goals as goal

pub returns : goal.returns
returns g c = c.is_chain.ensures ∙ (ap role_is_chain c.role_of.ensures ∙ live_shown (next_names c.self.inside.cells.items) (roles_in c.self.inside.cells.items) c.args.self.now c.args.chain c.self.view_is)
