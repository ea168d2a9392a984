use Rattle.std.proofs.Common.{refl, set, subst, sym}
use Rattle.std.specs.Result.{IfOk}
use Rattle.table_links.specs.declared.links.Role.TheVariants.{Free}
use Rattle.table_links.specs.Links.{Renames, Unmade, FreeNode}
use Rattle.table_links.specs.Rings.{next_names, previous_names, roles_in, shown, new_spot}
use Rattle.table_links.proofs.Calls.{next_read}
use Rattle.table_links.proofs.Cells.{in_cells}
use Rattle.table_links.proofs.Uses.{reused_inside, Sound-freed, Renames-freed}
use Rattle.table_links.proofs.links.Links.make_node.Goals as goal
use Rattle.table_links.proofs.links.Links.make_node.Goals.{in-Ok, in-Err}

pub invariant_of-self : goal.invariant_of-self
invariant_of-self g c = c.new_name.ensures.sound c.self.inside.unused c.self.invariant

pub returns-then-index-clause-made : goal.returns-then-index-clause-made
returns-then-index-clause-made g c = elim c.match-new_name.branch [
  | in-Ok w ↦
      let named = subst (λ l. IfOk c.new_name.result (λ index. Renames l (shown (next_names c.new_name.new.cells.items) (roles_in c.new_name.new.cells.items)) index Unmade FreeNode)) c.self.view_is (c.new_name.ensures.named c.self.inside.unused c.self.invariant) in
      subst (λ r. IfOk r (λ node. Renames c.args.self.now (shown (next_names c.new_name.new.cells.items) (roles_in c.new_name.new.cells.items)) node.index Unmade FreeNode)) (sym w.result-is)
      (subst (λ r. IfOk r (λ index. Renames c.args.self.now (shown (next_names c.new_name.new.cells.items) (roles_in c.new_name.new.cells.items)) index Unmade FreeNode)) w.in-Ok.is named)
  | in-Err w ↦ subst (λ r. IfOk r (λ node. Renames c.args.self.now (shown (next_names c.new_name.new.cells.items) (roles_in c.new_name.new.cells.items)) node.index Unmade FreeNode)) (sym w.result-is) tt
]

pub next_of-self-inside-requires : goal.next_of-self-inside-requires
next_of-self-inside-requires g c = in_cells c.self.inside.cells.items c.self.inside.unused (reused_inside (next_names c.self.inside.cells.items) (previous_names c.self.inside.cells.items) (roles_in c.self.inside.cells.items) c.self.inside.unused c.self.invariant Free c.if-index.false refl)

pub name_free-requires : goal.name_free-requires
name_free-requires g c = in_cells c.self.inside.cells.items c.self.inside.unused (reused_inside (next_names c.self.inside.cells.items) (previous_names c.self.inside.cells.items) (roles_in c.self.inside.cells.items) c.self.inside.unused c.self.invariant Free c.if-index.false refl)

pub invariant_of-self-2 : goal.invariant_of-self-2
invariant_of-self-2 g c =
    rw (c.name_free.ensures.next, c.name_free.ensures.previous, c.name_free.ensures.roles)
    (Sound-freed (next_names c.self.inside.cells.items) (previous_names c.self.inside.cells.items) (roles_in c.self.inside.cells.items) c.self.inside.unused c.self.invariant Free c.if-index.false refl refl c.next_of-self-inside.result
    (next_read (next_names c.self.inside.cells.items) (previous_names c.self.inside.cells.items) (roles_in c.self.inside.cells.items) c.self.inside.unused c.self.invariant c.args.self.now c.self.view_is c.self.inside.unused c.next_of-self-inside.result (reused_inside (next_names c.self.inside.cells.items) (previous_names c.self.inside.cells.items) (roles_in c.self.inside.cells.items) c.self.inside.unused c.self.invariant Free c.if-index.false refl) c.next_of-self-inside.ensures))

pub returns-clause-made : goal.returns-clause-made
returns-clause-made g c =
    rw (c.name_free.ensures.next, c.name_free.ensures.roles)
    (subst (λ l. Renames l (shown (next_names c.self.inside.cells.items) (set (roles_in c.self.inside.cells.items) c.self.inside.unused Free)) c.self.inside.unused Unmade (new_spot Free)) c.self.view_is
    (Renames-freed (next_names c.self.inside.cells.items) (previous_names c.self.inside.cells.items) (roles_in c.self.inside.cells.items) c.self.inside.unused c.self.invariant Free c.if-index.false refl refl))
