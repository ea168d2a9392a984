use Rattle.std.proofs.Common.{Ok, refl, ap, sym, ◌∙◌}
use Rattle.std.proofs.lemmas.Option.{same_Some}
use Rattle.std.specs.Option.{option_copied_mut}
use Rattle.table_records.proofs.RowLemmas.{known_there, known_read}
use Rattle.table_records.proofs.table.RecordTable.get_mut_unchecked.Goals as goal

pub entry_mut-requires : goal.entry_mut-requires
entry_mut-requires g c = (known_there g.K.Kind.item_of c.args.self.now c.args.id.rep c.args.id.serial c.requires).3

pub unreachable-requires : goal.unreachable-requires
unreachable-requires g c =
    let item = known_read g.K.Kind.item_of c.args.self.now c.args.id.rep c.args.id.serial c.requires c.entry_mut.result.now c.entry_mut.ensures.value in
    let clash = sym (ap option_copied_mut c.in-None.is) ∙ c.view_mut.follows ∙ item in
    cc clash

pub returns : goal.returns
returns g c =
    let one = known_there g.K.Kind.item_of c.args.self.now c.args.id.rep c.args.id.serial c.requires in
    let item = known_read g.K.Kind.item_of c.args.self.now c.args.id.rep c.args.id.serial c.requires c.entry_mut.result.now c.entry_mut.ensures.value in
    let same = same_Some c.in-Some.item.now one.0 (sym (ap option_copied_mut c.in-Some.is) ∙ c.view_mut.follows ∙ item) in
    ((refl, λ w. refl), record { writes_back = tt; value = ap Ok same ∙ sym one.1 })
