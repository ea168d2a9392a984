use Rattle.std.proofs.Common.{sym, ◌∙◌}
use Rattle.table_links.specs.Rings.{next_names, previous_names, roles_in}
use Rattle.table_links.proofs.Cells.{in_cells}
use Rattle.table_links.proofs.Calls.{made_inside, linked_seen, unlinked_seen}
use Rattle.table_links.proofs.links.Links.get.Goals as goal

pub role_in-requires : goal.role_in-requires
role_in-requires g c = in_cells c.self.inside.cells.items c.args.node.index (made_inside (next_names c.self.inside.cells.items) (previous_names c.self.inside.cells.items) (roles_in c.self.inside.cells.items) c.self.inside.unused c.self.invariant c.args.self.now c.self.view_is c.args.node.index c.requires)

pub returns-in-Linked : goal.returns-in-Linked
returns-in-Linked g c = sym (linked_seen (next_names c.self.inside.cells.items) (previous_names c.self.inside.cells.items) (roles_in c.self.inside.cells.items) c.self.inside.unused c.self.invariant c.args.self.now c.self.view_is c.args.node.index _ _ (sym c.role_in.ensures ∙ c.in-Linked.is))

pub returns-in_default : goal.returns-in_default
returns-in_default g c = sym (unlinked_seen (next_names c.self.inside.cells.items) (previous_names c.self.inside.cells.items) (roles_in c.self.inside.cells.items) c.self.inside.unused c.self.invariant c.args.self.now c.self.view_is c.args.node.index (λ d v is. c.in_default.not-Linked d v (c.role_in.ensures ∙ is)))
