use Rattle.std.proofs.Common.{◌≡◌, Some, ap, sym, ◌∙◌, arith, is_some}
use Rattle.task_table.specs.TableAnswers.{result_copied}
use Rattle.task_table.specs.Table.{children_of}
use Rattle.task_table.proofs.TableLemmas.{item_place, unwrapped-item, deletion-ok}
use Rattle.task_table.proofs.Laws.{Removes-deleted}
use Rattle.task_table.proofs.SoundLemmas.{children_of_slot, entry_of_slot, shown-deleted, IsSoundTable-deleted, room_for_freed}
use Rattle.task_table.proofs.table.ResourceTable.delete.Goals as goal

pub vacate-slot-requires-clause-childless : goal.vacate-slot-requires-clause-childless
vacate-slot-requires-clause-childless g c =
    let one = item_place g.K.Kind.item_of c.args.self.now c.args.id.rep c.args.id.serial c.in_default.field-0.now (sym c.get.ensures ∙ ap result_copied c.in_default.is) in
    let childless : children_of c.args.self.now c.args.id.rep ≡ 0 = omega (arith, c.count_children.ensures, c.if-count_children-gt0.false) in
    children_of_slot c.self.inside.places.items c.args.self.now c.args.id.rep (ap (λ t. t.places) c.self.view_is) (ap is_some one.1) c.self.invariant.counted ∙ ap Some childless

pub push_reserved-requires : goal.push_reserved-requires
push_reserved-requires g c =
    let one = item_place g.K.Kind.item_of c.args.self.now c.args.id.rep c.args.id.serial c.in_default.field-0.now (sym c.get.ensures ∙ ap result_copied c.in_default.is) in
    let more = room_for_freed c.self.inside.places.items c.self.inside.free.items _ c.self.inside.given c.self.inside.max_capacity c.args.self.now c.args.id.rep one.0 c.self.view_is one.1 c.self.invariant in
    let ok = c.self.inside.free.ok in
    omega arith

pub unreachable-requires : goal.unreachable-requires
unreachable-requires g c =
    let one = item_place g.K.Kind.item_of c.args.self.now c.args.id.rep c.args.id.serial c.in_default.field-0.now (sym c.get.ensures ∙ ap result_copied c.in_default.is) in
    let same = entry_of_slot c.self.inside.places.items c.args.self.now c.args.id.rep one.0 c.vacate-slot.result (ap (λ t. t.places) c.self.view_is) one.1 c.vacate-slot.ensures.slot in
    let ok = unwrapped-item g.K.Kind.item_of c.vacate-slot.result.entry one.0.entry c.in_default.field-0.now same one.2 in
    let clash = sym ok ∙ sym c.unwrap.ensures ∙ c.in-Err-unwrap.is in
    cc clash

pub invariant_of-self : goal.invariant_of-self
invariant_of-self g c =
    let one = item_place g.K.Kind.item_of c.args.self.now c.args.id.rep c.args.id.serial c.in_default.field-0.now (sym c.get.ensures ∙ ap result_copied c.in_default.is) in
    let childless : children_of c.args.self.now c.args.id.rep ≡ 0 = omega (arith, c.count_children.ensures, c.if-count_children-gt0.false) in
    IsSoundTable-deleted c.self.inside.places.items c.vacate-slot.new.places.items c.self.inside.free.items c.push_reserved.new.self.items _ _ c.self.inside.given c.self.inside.max_capacity c.args.self.now c.args.id.rep one.0
    c.self.view_is c.vacate-slot.ensures.shown c.push_reserved.ensures.items c.vacate-slot.ensures.counted one.1 childless c.push_reserved.ensures.capacity c.self.invariant

pub returns-clause-answer : goal.returns-clause-answer
returns-clause-answer g c =
    let read = sym c.get.ensures ∙ ap result_copied c.in_default.is in
    let one = item_place g.K.Kind.item_of c.args.self.now c.args.id.rep c.args.id.serial c.in_default.field-0.now read in
    let same = entry_of_slot c.self.inside.places.items c.args.self.now c.args.id.rep one.0 c.vacate-slot.result (ap (λ t. t.places) c.self.view_is) one.1 c.vacate-slot.ensures.slot in
    let ok = unwrapped-item g.K.Kind.item_of c.vacate-slot.result.entry one.0.entry c.in_default.field-0.now same one.2 in
    let childless : children_of c.args.self.now c.args.id.rep ≡ 0 = omega (arith, c.count_children.ensures, c.if-count_children-gt0.false) in
    deletion-ok g.K.Kind.item_of c.args.self.now c.args.id.rep c.args.id.serial c.in_default.field-0.now c.in-Ok.item (sym c.in-Ok.is ∙ c.unwrap.ensures ∙ ok) read childless

pub returns-clause-ok : goal.returns-clause-ok
returns-clause-ok g c =
    shown-deleted c.self.inside.places.items c.vacate-slot.new.places.items c.self.inside.free.items c.push_reserved.new.self.items c.self.inside.given c.self.inside.max_capacity c.args.self.now c.args.id.rep
    c.self.view_is c.vacate-slot.ensures.shown c.push_reserved.ensures.items

pub returns-clause-removed : goal.returns-clause-removed
returns-clause-removed g c = Removes-deleted c.args.self.now _ c.args.id.rep (returns-clause-ok g c)

pub returns-clause-sound : goal.returns-clause-sound
returns-clause-sound g c = (invariant_of-self g c).table
