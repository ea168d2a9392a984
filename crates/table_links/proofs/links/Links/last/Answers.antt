use Rattle.std.proofs.Common.{subst, ◌∙◌}
use Rattle.table_links.specs.Links.{IsLinks}
use Rattle.table_links.specs.Rings.{next_names, previous_names, roles_in}
use Rattle.table_links.proofs.Cells.{in_cells}
use Rattle.table_links.proofs.Calls.{chain_inside, last_inside, last_shown}
use Rattle.table_links.proofs.Seen.{IsLinks-shown}
use Rattle.table_links.proofs.links.Links.last.Goals as goal

pub previous_of-requires : goal.previous_of-requires
previous_of-requires g c = in_cells c.self.inside.cells.items c.args.chain (chain_inside (next_names c.self.inside.cells.items) (previous_names c.self.inside.cells.items) (roles_in c.self.inside.cells.items) c.self.inside.unused c.self.invariant c.args.self.now c.self.view_is c.args.chain c.requires)

pub entry-requires : goal.entry-requires
entry-requires g c = in_cells c.self.inside.cells.items c.previous_of.result (last_inside (next_names c.self.inside.cells.items) (previous_names c.self.inside.cells.items) (roles_in c.self.inside.cells.items) c.self.inside.unused c.self.invariant c.args.self.now c.self.view_is c.args.chain c.requires c.previous_of.result c.previous_of.ensures)

pub returns-clause-entry : goal.returns-clause-entry
returns-clause-entry g c = c.entry.ensures ∙ last_shown (next_names c.self.inside.cells.items) (previous_names c.self.inside.cells.items) (roles_in c.self.inside.cells.items) c.self.inside.unused c.self.invariant c.args.self.now c.self.view_is c.args.chain c.requires c.previous_of.result c.previous_of.ensures

pub returns-clause-sound : goal.returns-clause-sound
returns-clause-sound g c = subst IsLinks c.self.view_is (IsLinks-shown (next_names c.self.inside.cells.items) (previous_names c.self.inside.cells.items) (roles_in c.self.inside.cells.items) c.self.invariant.rings)
