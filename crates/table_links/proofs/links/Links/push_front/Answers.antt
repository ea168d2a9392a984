use Rattle.table_links.specs.Rings.{next_names, previous_names, roles_in}
use Rattle.table_links.proofs.Cells.{in_cells}
use Rattle.table_links.proofs.Calls.{free_inside, chain_inside, first_inside, push_front_sound, push_front_shown}
use Rattle.table_links.proofs.links.Links.push_front.Goals as goal

pub next_of-first-requires : goal.next_of-first-requires
next_of-first-requires g c = in_cells c.self.inside.cells.items c.args.chain (chain_inside (next_names c.self.inside.cells.items) (previous_names c.self.inside.cells.items) (roles_in c.self.inside.cells.items) c.self.inside.unused c.self.invariant c.args.self.now c.self.view_is c.args.chain c.requires.chain)

pub link-requires-clause-before : goal.link-requires-clause-before
link-requires-clause-before g c = in_cells c.self.inside.cells.items c.args.chain (chain_inside (next_names c.self.inside.cells.items) (previous_names c.self.inside.cells.items) (roles_in c.self.inside.cells.items) c.self.inside.unused c.self.invariant c.args.self.now c.self.view_is c.args.chain c.requires.chain)

pub link-requires-clause-after : goal.link-requires-clause-after
link-requires-clause-after g c = in_cells c.self.inside.cells.items c.next_of-first.result (first_inside (next_names c.self.inside.cells.items) (previous_names c.self.inside.cells.items) (roles_in c.self.inside.cells.items) c.self.inside.unused c.self.invariant c.args.self.now c.self.view_is c.args.chain c.requires.chain c.next_of-first.result c.next_of-first.ensures)

pub link-requires-clause-node : goal.link-requires-clause-node
link-requires-clause-node g c = in_cells c.self.inside.cells.items c.args.node.index (free_inside (next_names c.self.inside.cells.items) (previous_names c.self.inside.cells.items) (roles_in c.self.inside.cells.items) c.self.inside.unused c.self.invariant c.args.self.now c.self.view_is c.args.node.index c.requires.free)

pub invariant_of-self : goal.invariant_of-self
invariant_of-self g c = push_front_sound (next_names c.self.inside.cells.items) (previous_names c.self.inside.cells.items) (roles_in c.self.inside.cells.items) c.self.inside.unused c.self.invariant c.args.self.now c.self.view_is c.args.chain c.requires.chain c.args.node.index c.args.value c.requires.free _ _ _ c.next_of-first.result c.next_of-first.ensures c.link.ensures.next c.link.ensures.previous c.link.ensures.roles

pub returns : goal.returns
returns g c = push_front_shown (next_names c.self.inside.cells.items) (previous_names c.self.inside.cells.items) (roles_in c.self.inside.cells.items) c.self.inside.unused c.self.invariant c.args.self.now c.self.view_is c.args.chain c.requires.chain c.args.node.index c.args.value c.requires.free (next_names c.link.new.cells.items) (previous_names c.link.new.cells.items) (roles_in c.link.new.cells.items) c.next_of-first.result c.next_of-first.ensures c.link.ensures.next c.link.ensures.roles
