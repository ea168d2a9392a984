use Rattle.table_links.specs.Rings.{next_names, previous_names, roles_in}
use Rattle.table_links.proofs.Cells.{in_cells}
use Rattle.table_links.proofs.Calls.{free_inside, chain_inside, last_inside, push_back_sound, push_back_shown}
use Rattle.table_links.proofs.links.Links.push_back.Goals as goal

pub previous_of-last-requires : goal.previous_of-last-requires
previous_of-last-requires g c = in_cells c.self.inside.cells.items c.args.chain (chain_inside (next_names c.self.inside.cells.items) (previous_names c.self.inside.cells.items) (roles_in c.self.inside.cells.items) c.self.inside.unused c.self.invariant c.args.self.now c.self.view_is c.args.chain c.requires.chain)

pub link-requires-clause-before : goal.link-requires-clause-before
link-requires-clause-before g c = in_cells c.self.inside.cells.items c.previous_of-last.result (last_inside (next_names c.self.inside.cells.items) (previous_names c.self.inside.cells.items) (roles_in c.self.inside.cells.items) c.self.inside.unused c.self.invariant c.args.self.now c.self.view_is c.args.chain c.requires.chain c.previous_of-last.result c.previous_of-last.ensures)

pub link-requires-clause-after : goal.link-requires-clause-after
link-requires-clause-after g c = in_cells c.self.inside.cells.items c.args.chain (chain_inside (next_names c.self.inside.cells.items) (previous_names c.self.inside.cells.items) (roles_in c.self.inside.cells.items) c.self.inside.unused c.self.invariant c.args.self.now c.self.view_is c.args.chain c.requires.chain)

pub link-requires-clause-node : goal.link-requires-clause-node
link-requires-clause-node g c = in_cells c.self.inside.cells.items c.args.node.index (free_inside (next_names c.self.inside.cells.items) (previous_names c.self.inside.cells.items) (roles_in c.self.inside.cells.items) c.self.inside.unused c.self.invariant c.args.self.now c.self.view_is c.args.node.index c.requires.free)

pub invariant_of-self : goal.invariant_of-self
invariant_of-self g c = push_back_sound (next_names c.self.inside.cells.items) (previous_names c.self.inside.cells.items) (roles_in c.self.inside.cells.items) c.self.inside.unused c.self.invariant c.args.self.now c.self.view_is c.args.chain c.requires.chain c.args.node.index c.args.value c.requires.free _ _ _ c.previous_of-last.result c.previous_of-last.ensures c.link.ensures.next c.link.ensures.previous c.link.ensures.roles

pub returns : goal.returns
returns g c = push_back_shown (next_names c.self.inside.cells.items) (previous_names c.self.inside.cells.items) (roles_in c.self.inside.cells.items) c.self.inside.unused c.self.invariant c.args.self.now c.self.view_is c.args.chain c.requires.chain c.args.node.index c.args.value c.requires.free (next_names c.link.new.cells.items) (previous_names c.link.new.cells.items) (roles_in c.link.new.cells.items) c.previous_of-last.result c.previous_of-last.ensures c.link.ensures.next c.link.ensures.roles
