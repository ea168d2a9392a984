use Rattle.std.proofs.Common.{refl, ap, sym, ◌∙◌, inr}
use Rattle.std.specs.Option.{option_copied_mut}
use Rattle.task_table.proofs.TableLemmas.{found_place, item_at-ok, item_at-wrong, with_entry-same}
use Rattle.table_records.proofs.table.RecordTable.get_mut.Goals as goal

pub entry_mut-requires : goal.entry_mut-requires
entry_mut-requires g c =
    found_place c.args.self.now c.args.id.rep c.args.id.serial (sym c.contains.ensures ∙ c.if-not-contains.false)

pub returns-in-Some : goal.returns-in-Some
returns-in-Some g c =
    let there = sym c.contains.ensures ∙ c.if-not-contains.false in
    let kind = sym c.view_mut.follows ∙ ap option_copied_mut c.in-Some.is in
    (refl, record { writes_back = tt; value = item_at-ok g.K.Kind.item_of c.args.self.now c.args.id.rep c.args.id.serial c.entry_mut.result.now c.in-Some.item.now there c.entry_mut.ensures.value kind })

pub returns-in-None : goal.returns-in-None
returns-in-None g c =
    let there = sym c.contains.ensures ∙ c.if-not-contains.false in
    let kind = sym c.view_mut.follows ∙ ap option_copied_mut c.in-None.is in
    (ap inr (with_entry-same c.args.self.now c.args.id.rep c.entry_mut.result.now c.entry_mut.ensures.value), record { writes_back = tt; value = item_at-wrong g.K.Kind.item_of c.args.self.now c.args.id.rep c.args.id.serial c.entry_mut.result.now there c.entry_mut.ensures.value kind })
