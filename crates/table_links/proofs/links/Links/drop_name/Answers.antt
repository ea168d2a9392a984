use Rattle.std.proofs.Common.{set, subst}
use Rattle.table_links.specs.declared.links.Role.TheVariants.{Unused}
use Rattle.table_links.specs.Links.{Renames, spot_at, Unmade}
use Rattle.table_links.specs.Rings.{next_names, previous_names, roles_in, shown}
use Rattle.table_links.proofs.Cells.{in_cells}
use Rattle.table_links.proofs.Uses.{droppable, Sound-dropped, Renames-dropped}
use Rattle.table_links.proofs.links.Links.drop_name.Goals as goal

pub set_unused-requires : goal.set_unused-requires
set_unused-requires g c = let d = droppable (next_names c.self.inside.cells.items) (roles_in c.self.inside.cells.items) c.args.index c.args.self.now c.self.view_is c.requires in in_cells c.self.inside.cells.items c.args.index d.0

pub invariant_of-self : goal.invariant_of-self
invariant_of-self g c =
    let d = droppable (next_names c.self.inside.cells.items) (roles_in c.self.inside.cells.items) c.args.index c.args.self.now c.self.view_is c.requires in
    rw (c.set_unused.ensures.next, c.set_unused.ensures.previous, c.set_unused.ensures.roles)
    (Sound-dropped (next_names c.self.inside.cells.items) (previous_names c.self.inside.cells.items) (roles_in c.self.inside.cells.items) c.self.inside.unused c.self.invariant c.args.index d.0 d.1.0 d.1.1.0 d.1.1.1)

pub returns : goal.returns
returns g c =
    let d = droppable (next_names c.self.inside.cells.items) (roles_in c.self.inside.cells.items) c.args.index c.args.self.now c.self.view_is c.requires in
    rw (c.set_unused.ensures.next, c.set_unused.ensures.roles)
    (subst (λ l. Renames l (shown (set (next_names c.self.inside.cells.items) c.args.index c.self.inside.unused) (set (roles_in c.self.inside.cells.items) c.args.index Unused)) c.args.index (spot_at l c.args.index) Unmade) c.self.view_is
    (Renames-dropped (next_names c.self.inside.cells.items) (previous_names c.self.inside.cells.items) (roles_in c.self.inside.cells.items) c.self.inside.unused c.self.invariant c.args.index d.0 d.1.0 d.1.1.0 d.1.1.1))
