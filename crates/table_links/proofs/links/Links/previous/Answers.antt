use Rattle.std.proofs.Common.{subst, ◌∙◌}
use Rattle.table_links.specs.Links.{IsLinks}
use Rattle.table_links.specs.Rings.{next_names, previous_names, roles_in}
use Rattle.table_links.proofs.Cells.{in_cells}
use Rattle.table_links.proofs.Calls.{linked_role, linked_inside, previous_inside, previous_shown}
use Rattle.table_links.proofs.Seen.{IsLinks-shown}
use Rattle.table_links.proofs.links.Links.previous.Goals as goal

pub previous_of-requires : goal.previous_of-requires
previous_of-requires g c = let l = linked_role (next_names c.self.inside.cells.items) (previous_names c.self.inside.cells.items) (roles_in c.self.inside.cells.items) c.self.inside.unused c.self.invariant c.args.self.now c.self.view_is c.args.node.index c.requires in in_cells c.self.inside.cells.items c.args.node.index (linked_inside (next_names c.self.inside.cells.items) (previous_names c.self.inside.cells.items) (roles_in c.self.inside.cells.items) c.self.inside.unused c.self.invariant c.args.self.now c.self.view_is c.args.node.index l.0 l.1.0 l.1.1)

pub entry-requires : goal.entry-requires
entry-requires g c = let l = linked_role (next_names c.self.inside.cells.items) (previous_names c.self.inside.cells.items) (roles_in c.self.inside.cells.items) c.self.inside.unused c.self.invariant c.args.self.now c.self.view_is c.args.node.index c.requires in in_cells c.self.inside.cells.items c.previous_of.result (previous_inside (next_names c.self.inside.cells.items) (previous_names c.self.inside.cells.items) (roles_in c.self.inside.cells.items) c.self.inside.unused c.self.invariant c.args.self.now c.self.view_is c.args.node.index l.0 l.1.0 l.1.1 c.previous_of.result c.previous_of.ensures)

pub returns-clause-entry : goal.returns-clause-entry
returns-clause-entry g c = let l = linked_role (next_names c.self.inside.cells.items) (previous_names c.self.inside.cells.items) (roles_in c.self.inside.cells.items) c.self.inside.unused c.self.invariant c.args.self.now c.self.view_is c.args.node.index c.requires in c.entry.ensures ∙ previous_shown (next_names c.self.inside.cells.items) (previous_names c.self.inside.cells.items) (roles_in c.self.inside.cells.items) c.self.inside.unused c.self.invariant c.args.self.now c.self.view_is c.args.node.index l.0 l.1.0 l.1.1 c.previous_of.result c.previous_of.ensures

pub returns-clause-sound : goal.returns-clause-sound
returns-clause-sound g c = subst IsLinks c.self.view_is (IsLinks-shown (next_names c.self.inside.cells.items) (previous_names c.self.inside.cells.items) (roles_in c.self.inside.cells.items) c.self.invariant.rings)
