use Rattle.std.proofs.Common.{ap, arith, sym, ◌∙◌}
use Rattle.std.specs.Option.{option_copied}
use Rattle.table_records.proofs.RowLemmas.{none_there, there_item, there_within}
use Rattle.table_records.proofs.table.RecordTable.there.Goals as goal

pub index-requires : goal.index-requires
index-requires g c =
    let within = there_within g.K.Kind.item_of c.self.inside.rows.items c.self.inside.free.items c.self.inside.given c.args.rep c.args.self.now c.self.view_is c.requires in
    let ok = c.self.inside.rows.ok in
    omega arith

pub unreachable-requires : goal.unreachable-requires
unreachable-requires g c =
    let item = there_item g.K.Kind.item_of c.self.inside.rows.items c.self.inside.free.items c.self.inside.given c.args.rep c.args.self.now c.self.view_is c.requires c.index.result.now c.index.ensures in
    none_there _ (sym (ap option_copied c.in-None.is) ∙ c.view.ensures ∙ item) c.requires

pub returns : goal.returns
returns g c =
    let item = there_item g.K.Kind.item_of c.self.inside.rows.items c.self.inside.free.items c.self.inside.given c.args.rep c.args.self.now c.self.view_is c.requires c.index.result.now c.index.ensures in
    sym (ap option_copied c.in-Some.is) ∙ c.view.ensures ∙ item
