use Rattle.std.proofs.Common.{subst, ◌∙◌}
use Rattle.table_links.specs.Links.{IsLinks}
use Rattle.table_links.specs.Rings.{next_names, previous_names, roles_in}
use Rattle.table_links.proofs.Cells.{in_cells}
use Rattle.table_links.proofs.Calls.{chain_inside, first_inside, first_shown}
use Rattle.table_links.proofs.Seen.{IsLinks-shown}
use Rattle.table_links.proofs.links.Links.first.Goals as goal

pub next_of-requires : goal.next_of-requires
next_of-requires g c = in_cells c.self.inside.cells.items c.args.chain (chain_inside (next_names c.self.inside.cells.items) (previous_names c.self.inside.cells.items) (roles_in c.self.inside.cells.items) c.self.inside.unused c.self.invariant c.args.self.now c.self.view_is c.args.chain c.requires)

pub entry-requires : goal.entry-requires
entry-requires g c = in_cells c.self.inside.cells.items c.next_of.result (first_inside (next_names c.self.inside.cells.items) (previous_names c.self.inside.cells.items) (roles_in c.self.inside.cells.items) c.self.inside.unused c.self.invariant c.args.self.now c.self.view_is c.args.chain c.requires c.next_of.result c.next_of.ensures)

pub returns-clause-entry : goal.returns-clause-entry
returns-clause-entry g c = c.entry.ensures ∙ first_shown (next_names c.self.inside.cells.items) (previous_names c.self.inside.cells.items) (roles_in c.self.inside.cells.items) c.self.inside.unused c.self.invariant c.args.self.now c.self.view_is c.args.chain c.requires c.next_of.result c.next_of.ensures

pub returns-clause-sound : goal.returns-clause-sound
returns-clause-sound g c = subst IsLinks c.self.view_is (IsLinks-shown (next_names c.self.inside.cells.items) (previous_names c.self.inside.cells.items) (roles_in c.self.inside.cells.items) c.self.invariant.rings)
