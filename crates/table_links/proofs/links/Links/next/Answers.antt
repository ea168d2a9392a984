use Rattle.std.proofs.Common.{subst, ◌∙◌}
use Rattle.table_links.specs.Links.{IsLinks}
use Rattle.table_links.specs.Rings.{next_names, previous_names, roles_in}
use Rattle.table_links.proofs.Cells.{in_cells}
use Rattle.table_links.proofs.Calls.{linked_role, linked_inside, next_inside, next_shown}
use Rattle.table_links.proofs.Seen.{IsLinks-shown}
use Rattle.table_links.proofs.links.Links.next.Goals as goal

pub next_of-requires : goal.next_of-requires
next_of-requires g c = let l = linked_role (next_names c.self.inside.cells.items) (previous_names c.self.inside.cells.items) (roles_in c.self.inside.cells.items) c.self.inside.unused c.self.invariant c.args.self.now c.self.view_is c.args.node.index c.requires in in_cells c.self.inside.cells.items c.args.node.index (linked_inside (next_names c.self.inside.cells.items) (previous_names c.self.inside.cells.items) (roles_in c.self.inside.cells.items) c.self.inside.unused c.self.invariant c.args.self.now c.self.view_is c.args.node.index l.0 l.1.0 l.1.1)

pub entry-requires : goal.entry-requires
entry-requires g c = let l = linked_role (next_names c.self.inside.cells.items) (previous_names c.self.inside.cells.items) (roles_in c.self.inside.cells.items) c.self.inside.unused c.self.invariant c.args.self.now c.self.view_is c.args.node.index c.requires in in_cells c.self.inside.cells.items c.next_of.result (next_inside (next_names c.self.inside.cells.items) (previous_names c.self.inside.cells.items) (roles_in c.self.inside.cells.items) c.self.inside.unused c.self.invariant c.args.self.now c.self.view_is c.args.node.index l.0 l.1.0 l.1.1 c.next_of.result c.next_of.ensures)

pub returns-clause-entry : goal.returns-clause-entry
returns-clause-entry g c = let l = linked_role (next_names c.self.inside.cells.items) (previous_names c.self.inside.cells.items) (roles_in c.self.inside.cells.items) c.self.inside.unused c.self.invariant c.args.self.now c.self.view_is c.args.node.index c.requires in c.entry.ensures ∙ next_shown (next_names c.self.inside.cells.items) (previous_names c.self.inside.cells.items) (roles_in c.self.inside.cells.items) c.self.inside.unused c.self.invariant c.args.self.now c.self.view_is c.args.node.index l.0 l.1.0 l.1.1 c.next_of.result c.next_of.ensures

pub returns-clause-sound : goal.returns-clause-sound
returns-clause-sound g c = subst IsLinks c.self.view_is (IsLinks-shown (next_names c.self.inside.cells.items) (previous_names c.self.inside.cells.items) (roles_in c.self.inside.cells.items) c.self.invariant.rings)
