use Rattle.std.proofs.Common.{sym, ◌∙◌}
use Rattle.table_links.specs.Rings.{next_names, previous_names, roles_in}
use Rattle.table_links.proofs.Cells.{in_cells}
use Rattle.table_links.proofs.Calls.{free_inside, linked_role, linked_inside, previous_inside, insert_sound, insert_shown}
use Rattle.table_links.proofs.links.Links.insert_before.Goals as goal

pub role_in-requires : goal.role_in-requires
role_in-requires g c = let l = linked_role (next_names c.self.inside.cells.items) (previous_names c.self.inside.cells.items) (roles_in c.self.inside.cells.items) c.self.inside.unused c.self.invariant c.args.self.now c.self.view_is c.args.at.index c.requires.at in in_cells c.self.inside.cells.items c.args.at.index (linked_inside (next_names c.self.inside.cells.items) (previous_names c.self.inside.cells.items) (roles_in c.self.inside.cells.items) c.self.inside.unused c.self.invariant c.args.self.now c.self.view_is c.args.at.index l.0 l.1.0 l.1.1)

pub previous_of-before-requires : goal.previous_of-before-requires
previous_of-before-requires g c = let l = linked_role (next_names c.self.inside.cells.items) (previous_names c.self.inside.cells.items) (roles_in c.self.inside.cells.items) c.self.inside.unused c.self.invariant c.args.self.now c.self.view_is c.args.at.index c.requires.at in in_cells c.self.inside.cells.items c.args.at.index (linked_inside (next_names c.self.inside.cells.items) (previous_names c.self.inside.cells.items) (roles_in c.self.inside.cells.items) c.self.inside.unused c.self.invariant c.args.self.now c.self.view_is c.args.at.index l.0 l.1.0 l.1.1)

pub link-requires-clause-before : goal.link-requires-clause-before
link-requires-clause-before g c = let l = linked_role (next_names c.self.inside.cells.items) (previous_names c.self.inside.cells.items) (roles_in c.self.inside.cells.items) c.self.inside.unused c.self.invariant c.args.self.now c.self.view_is c.args.at.index c.requires.at in in_cells c.self.inside.cells.items c.previous_of-before.result (previous_inside (next_names c.self.inside.cells.items) (previous_names c.self.inside.cells.items) (roles_in c.self.inside.cells.items) c.self.inside.unused c.self.invariant c.args.self.now c.self.view_is c.args.at.index l.0 l.1.0 l.1.1 c.previous_of-before.result c.previous_of-before.ensures)

pub link-requires-clause-after : goal.link-requires-clause-after
link-requires-clause-after g c = let l = linked_role (next_names c.self.inside.cells.items) (previous_names c.self.inside.cells.items) (roles_in c.self.inside.cells.items) c.self.inside.unused c.self.invariant c.args.self.now c.self.view_is c.args.at.index c.requires.at in in_cells c.self.inside.cells.items c.args.at.index (linked_inside (next_names c.self.inside.cells.items) (previous_names c.self.inside.cells.items) (roles_in c.self.inside.cells.items) c.self.inside.unused c.self.invariant c.args.self.now c.self.view_is c.args.at.index l.0 l.1.0 l.1.1)

pub link-requires-clause-node : goal.link-requires-clause-node
link-requires-clause-node g c = in_cells c.self.inside.cells.items c.args.node.index (free_inside (next_names c.self.inside.cells.items) (previous_names c.self.inside.cells.items) (roles_in c.self.inside.cells.items) c.self.inside.unused c.self.invariant c.args.self.now c.self.view_is c.args.node.index c.requires.free)

pub invariant_of-self : goal.invariant_of-self
invariant_of-self g c = insert_sound (next_names c.self.inside.cells.items) (previous_names c.self.inside.cells.items) (roles_in c.self.inside.cells.items) c.self.inside.unused c.self.invariant c.args.self.now c.self.view_is c.args.at.index c.in-Linked.chain _ (sym c.role_in.ensures ∙ c.in-Linked.is) _ _ _ c.previous_of-before.result c.args.at.index c.previous_of-before.ensures c.args.node.index c.args.value c.requires.free c.link.ensures.next c.link.ensures.previous c.link.ensures.roles

pub unreachable-requires : goal.unreachable-requires
unreachable-requires g c = let l = linked_role (next_names c.self.inside.cells.items) (previous_names c.self.inside.cells.items) (roles_in c.self.inside.cells.items) c.self.inside.unused c.self.invariant c.args.self.now c.self.view_is c.args.at.index c.requires.at in c.in_default.not-Linked l.0 l.1.0 (c.role_in.ensures ∙ l.1.1)

pub returns : goal.returns
returns g c = insert_shown (next_names c.self.inside.cells.items) (previous_names c.self.inside.cells.items) (roles_in c.self.inside.cells.items) c.self.inside.unused c.self.invariant c.args.self.now c.self.view_is c.args.at.index c.in-Linked.chain _ (sym c.role_in.ensures ∙ c.in-Linked.is) (next_names c.link.new.cells.items) (previous_names c.link.new.cells.items) (roles_in c.link.new.cells.items) c.previous_of-before.result c.args.at.index c.previous_of-before.ensures c.args.node.index c.args.value c.requires.free c.link.ensures.next c.link.ensures.roles
