use Rattle.std.proofs.Common.{Ok, ap, is_some, sym, ◌∙◌}
use Rattle.std.proofs.lemmas.Option.{same_Some}
use Rattle.table_records.proofs.RowLemmas.{known_there}
use Rattle.table_records.proofs.table.RecordTable.known.Goals as goal

pub there-requires : goal.there-requires
there-requires g c = ap is_some (known_there g.K.Kind.item_of c.args.self.now c.args.id.rep c.args.id.serial c.requires).2

pub returns : goal.returns
returns g c =
    let one = known_there g.K.Kind.item_of c.args.self.now c.args.id.rep c.args.id.serial c.requires in
    ap Ok (same_Some c.there.result.now one.0 (c.there.ensures ∙ one.2)) ∙ sym one.1
