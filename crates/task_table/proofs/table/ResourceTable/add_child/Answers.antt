use Rattle.std.proofs.Common.{Some, ap, sym, ◌∙◌}
use Rattle.std.specs.Result.{result_err}
use Rattle.task_table.specs.TableAnswers.{parent_of}
use Rattle.task_table.proofs.TableLemmas.{pair_there, found_place, found_at, some_of, parent_at}
use Rattle.task_table.proofs.SoundLemmas.{taken_shown, parent_of_slot, shown-with_parent, IsSoundTable-with_parent}
use Rattle.task_table.proofs.table.ResourceTable.add_child.Goals as goal

pub link-requires-clause-child : goal.link-requires-clause-child
link-requires-clause-child g c =
    let both = pair_there g.C.Kind.item_of g.P.Kind.item_of _ _ (sym c.check_pair.ensures ∙ ap result_err c.in_ok-check_pair.was) in
    let one = some_of _ both.0 in
    let at = found_at c.args.self.now c.args.child.rep c.args.child.serial one.0 one.1 in
    parent_of_slot c.self.inside.places.items c.args.self.now c.args.child.rep one.0 (ap (λ t. t.places) c.self.view_is) at.0 ∙ ap Some (sym (ap parent_of one.1) ∙ c.requires)

pub link-requires-clause-parent : goal.link-requires-clause-parent
link-requires-clause-parent g c =
    let both = pair_there g.C.Kind.item_of g.P.Kind.item_of _ _ (sym c.check_pair.ensures ∙ ap result_err c.in_ok-check_pair.was) in
    taken_shown c.self.inside.places.items c.args.self.now c.args.parent.rep (ap (λ t. t.places) c.self.view_is) (found_place c.args.self.now c.args.parent.rep c.args.parent.serial both.1)

pub invariant_of-self : goal.invariant_of-self
invariant_of-self g c =
    let both = pair_there g.C.Kind.item_of g.P.Kind.item_of _ _ (sym c.check_pair.ensures ∙ ap result_err c.in_ok-check_pair.was) in
    let parent = found_place c.args.self.now c.args.parent.rep c.args.parent.serial both.1 in
    IsSoundTable-with_parent c.self.inside.places.items c.link.new.places.items c.self.inside.free.items _ c.self.inside.given c.self.inside.max_capacity c.args.self.now c.args.child.rep (Some c.args.parent.rep)
    c.self.view_is c.link.ensures.shown c.link.ensures.counted (found_place c.args.self.now c.args.child.rep c.args.child.serial both.0)
    (λ r is. parent_at c.args.self.now c.args.parent.rep r is parent) c.self.invariant

pub returns-clause-ok : goal.returns-clause-ok
returns-clause-ok g c =
    shown-with_parent c.self.inside.places.items c.link.new.places.items c.self.inside.free.items c.self.inside.given c.self.inside.max_capacity c.args.self.now c.args.child.rep (Some c.args.parent.rep) c.self.view_is c.link.ensures.shown

pub returns-clause-sound : goal.returns-clause-sound
returns-clause-sound g c = (invariant_of-self g c).table
