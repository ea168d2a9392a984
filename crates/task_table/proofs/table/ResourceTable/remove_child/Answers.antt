use Rattle.std.proofs.Common.{None, ap, sym, ◌∙◌}
use Rattle.std.specs.Result.{result_err}
use Rattle.task_table.proofs.TableLemmas.{pair_there, found_place, no_parent_at}
use Rattle.task_table.proofs.SoundLemmas.{taken_shown, shown-with_parent, IsSoundTable-with_parent}
use Rattle.task_table.proofs.table.ResourceTable.remove_child.Goals as goal

pub unlink-requires-clause-child : goal.unlink-requires-clause-child
unlink-requires-clause-child g c =
    let both = pair_there g.C.Kind.item_of g.P.Kind.item_of _ _ (sym c.check_pair.ensures ∙ ap result_err c.in_ok-check_pair.was) in
    taken_shown c.self.inside.places.items c.args.self.now c.args.child.rep (ap (λ t. t.places) c.self.view_is) (found_place c.args.self.now c.args.child.rep c.args.child.serial both.0)

pub invariant_of-self : goal.invariant_of-self
invariant_of-self g c =
    let both = pair_there g.C.Kind.item_of g.P.Kind.item_of _ _ (sym c.check_pair.ensures ∙ ap result_err c.in_ok-check_pair.was) in
    IsSoundTable-with_parent c.self.inside.places.items c.unlink.new.places.items c.self.inside.free.items _ c.self.inside.given c.self.inside.max_capacity c.args.self.now c.args.child.rep None
    c.self.view_is c.unlink.ensures.shown c.unlink.ensures.counted (found_place c.args.self.now c.args.child.rep c.args.child.serial both.0)
    (no_parent_at c.args.self.now) c.self.invariant

pub returns-clause-ok : goal.returns-clause-ok
returns-clause-ok g c =
    shown-with_parent c.self.inside.places.items c.unlink.new.places.items c.self.inside.free.items c.self.inside.given c.self.inside.max_capacity c.args.self.now c.args.child.rep None c.self.view_is c.unlink.ensures.shown

pub returns-clause-sound : goal.returns-clause-sound
returns-clause-sound g c = (invariant_of-self g c).table
