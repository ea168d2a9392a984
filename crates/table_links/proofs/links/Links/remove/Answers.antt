use Rattle.std.proofs.Common.{sym, ap, ◌∙◌}
use Rattle.table_links.specs.Links.{removed_by}
use Rattle.table_links.specs.Rings.{next_names, previous_names, roles_in}
use Rattle.table_links.proofs.Cells.{in_cells}
use Rattle.table_links.proofs.Calls.{made_inside, linked_seen, unlinked_seen, next_inside, previous_inside, remove_sound, remove_shown}
use Rattle.table_links.proofs.links.Links.remove.Goals as goal

pub role_in-requires : goal.role_in-requires
role_in-requires g c = in_cells c.self.inside.cells.items c.args.node.index (made_inside (next_names c.self.inside.cells.items) (previous_names c.self.inside.cells.items) (roles_in c.self.inside.cells.items) c.self.inside.unused c.self.invariant c.args.self.now c.self.view_is c.args.node.index c.requires)

pub previous_of-before-requires : goal.previous_of-before-requires
previous_of-before-requires g c = in_cells c.self.inside.cells.items c.args.node.index (made_inside (next_names c.self.inside.cells.items) (previous_names c.self.inside.cells.items) (roles_in c.self.inside.cells.items) c.self.inside.unused c.self.invariant c.args.self.now c.self.view_is c.args.node.index c.requires)

pub next_of-after-requires : goal.next_of-after-requires
next_of-after-requires g c = in_cells c.self.inside.cells.items c.args.node.index (made_inside (next_names c.self.inside.cells.items) (previous_names c.self.inside.cells.items) (roles_in c.self.inside.cells.items) c.self.inside.unused c.self.invariant c.args.self.now c.self.view_is c.args.node.index c.requires)

pub unlink-requires-clause-before : goal.unlink-requires-clause-before
unlink-requires-clause-before g c = in_cells c.self.inside.cells.items c.previous_of-before.result (previous_inside (next_names c.self.inside.cells.items) (previous_names c.self.inside.cells.items) (roles_in c.self.inside.cells.items) c.self.inside.unused c.self.invariant c.args.self.now c.self.view_is c.args.node.index c.in-Linked.chain c.in-Linked.value (sym c.role_in.ensures ∙ c.in-Linked.is) c.previous_of-before.result c.previous_of-before.ensures)

pub unlink-requires-clause-after : goal.unlink-requires-clause-after
unlink-requires-clause-after g c = in_cells c.self.inside.cells.items c.next_of-after.result (next_inside (next_names c.self.inside.cells.items) (previous_names c.self.inside.cells.items) (roles_in c.self.inside.cells.items) c.self.inside.unused c.self.invariant c.args.self.now c.self.view_is c.args.node.index c.in-Linked.chain c.in-Linked.value (sym c.role_in.ensures ∙ c.in-Linked.is) c.next_of-after.result c.next_of-after.ensures)

pub unlink-requires-clause-node : goal.unlink-requires-clause-node
unlink-requires-clause-node g c = in_cells c.self.inside.cells.items c.args.node.index (made_inside (next_names c.self.inside.cells.items) (previous_names c.self.inside.cells.items) (roles_in c.self.inside.cells.items) c.self.inside.unused c.self.invariant c.args.self.now c.self.view_is c.args.node.index c.requires)

pub invariant_of-self : goal.invariant_of-self
invariant_of-self g c = remove_sound (next_names c.self.inside.cells.items) (previous_names c.self.inside.cells.items) (roles_in c.self.inside.cells.items) c.self.inside.unused c.self.invariant c.args.self.now c.self.view_is c.args.node.index c.in-Linked.chain c.in-Linked.value (sym c.role_in.ensures ∙ c.in-Linked.is) _ _ _ c.previous_of-before.result c.next_of-after.result c.previous_of-before.ensures c.next_of-after.ensures c.unlink.ensures.next c.unlink.ensures.previous c.unlink.ensures.roles

pub returns-in-Linked-clause-link : goal.returns-in-Linked-clause-link
returns-in-Linked-clause-link g c = sym (linked_seen (next_names c.self.inside.cells.items) (previous_names c.self.inside.cells.items) (roles_in c.self.inside.cells.items) c.self.inside.unused c.self.invariant c.args.self.now c.self.view_is c.args.node.index c.in-Linked.chain c.in-Linked.value (sym c.role_in.ensures ∙ c.in-Linked.is))

pub returns-in-Linked-clause-links : goal.returns-in-Linked-clause-links
returns-in-Linked-clause-links g c = remove_shown (next_names c.self.inside.cells.items) (previous_names c.self.inside.cells.items) (roles_in c.self.inside.cells.items) c.self.inside.unused c.self.invariant c.args.self.now c.self.view_is c.args.node.index c.in-Linked.chain c.in-Linked.value (sym c.role_in.ensures ∙ c.in-Linked.is) (next_names c.unlink.new.cells.items) (previous_names c.unlink.new.cells.items) (roles_in c.unlink.new.cells.items) c.previous_of-before.result c.next_of-after.result c.previous_of-before.ensures c.next_of-after.ensures c.unlink.ensures.next c.unlink.ensures.roles

pub returns-in_default : goal.returns-in_default
returns-in_default g c =
    let none = unlinked_seen (next_names c.self.inside.cells.items) (previous_names c.self.inside.cells.items) (roles_in c.self.inside.cells.items) c.self.inside.unused c.self.invariant c.args.self.now c.self.view_is c.args.node.index (λ d v is. c.in_default.not-Linked d v (c.role_in.ensures ∙ is)) in
    record { link = sym none; links = sym (ap (λ o. removed_by c.args.node.index o c.args.self.now) none) }
