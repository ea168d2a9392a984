use Rattle.std.proofs.Common.{[], refl, set, subst}
use Rattle.std.specs.Result.{IfOk}
use Rattle.table_links.specs.declared.links.Role.TheVariants.{Chain}
use Rattle.table_links.specs.Links.{Renames, Unmade, ChainOf}
use Rattle.table_links.specs.Rings.{next_names, previous_names, roles_in, shown, new_spot}
use Rattle.table_links.proofs.Calls.{next_read}
use Rattle.table_links.proofs.Cells.{in_cells}
use Rattle.table_links.proofs.Uses.{reused_inside, Sound-reused, Renames-reused}
use Rattle.table_links.proofs.links.Links.make_chain.Goals as goal

pub invariant_of-self : goal.invariant_of-self
invariant_of-self g c = c.new_name.ensures.sound c.self.inside.unused c.self.invariant

pub returns-then-index-clause-made : goal.returns-then-index-clause-made
returns-then-index-clause-made g c =
    subst (λ l. IfOk c.new_name.result (λ chain. Renames l (shown (next_names c.new_name.new.cells.items) (roles_in c.new_name.new.cells.items)) chain Unmade (ChainOf []))) c.self.view_is
    (c.new_name.ensures.named c.self.inside.unused c.self.invariant)

pub next_of-self-inside-requires : goal.next_of-self-inside-requires
next_of-self-inside-requires g c = in_cells c.self.inside.cells.items c.self.inside.unused (reused_inside (next_names c.self.inside.cells.items) (previous_names c.self.inside.cells.items) (roles_in c.self.inside.cells.items) c.self.inside.unused c.self.invariant Chain c.if-index.false refl)

pub set_chain-requires : goal.set_chain-requires
set_chain-requires g c = in_cells c.self.inside.cells.items c.self.inside.unused (reused_inside (next_names c.self.inside.cells.items) (previous_names c.self.inside.cells.items) (roles_in c.self.inside.cells.items) c.self.inside.unused c.self.invariant Chain c.if-index.false refl)

pub invariant_of-self-2 : goal.invariant_of-self-2
invariant_of-self-2 g c =
    rw (c.set_chain.ensures.next, c.set_chain.ensures.previous, c.set_chain.ensures.roles)
    (Sound-reused (next_names c.self.inside.cells.items) (previous_names c.self.inside.cells.items) (roles_in c.self.inside.cells.items) c.self.inside.unused c.self.invariant Chain c.if-index.false refl c.next_of-self-inside.result
    (next_read (next_names c.self.inside.cells.items) (previous_names c.self.inside.cells.items) (roles_in c.self.inside.cells.items) c.self.inside.unused c.self.invariant c.args.self.now c.self.view_is c.self.inside.unused c.next_of-self-inside.result (reused_inside (next_names c.self.inside.cells.items) (previous_names c.self.inside.cells.items) (roles_in c.self.inside.cells.items) c.self.inside.unused c.self.invariant Chain c.if-index.false refl) c.next_of-self-inside.ensures))

pub returns-clause-made : goal.returns-clause-made
returns-clause-made g c =
    rw (c.set_chain.ensures.next, c.set_chain.ensures.roles)
    (subst (λ l. Renames l (shown (set (next_names c.self.inside.cells.items) c.self.inside.unused c.self.inside.unused) (set (roles_in c.self.inside.cells.items) c.self.inside.unused Chain)) c.self.inside.unused Unmade (new_spot Chain)) c.self.view_is
    (Renames-reused (next_names c.self.inside.cells.items) (previous_names c.self.inside.cells.items) (roles_in c.self.inside.cells.items) c.self.inside.unused c.self.invariant Chain c.if-index.false refl))
