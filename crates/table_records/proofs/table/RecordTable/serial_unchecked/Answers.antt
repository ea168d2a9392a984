use Rattle.std.proofs.Common.{IsSome, ap, arith, subst, sym, ◌∙◌}
use Rattle.std.specs.Option.{option_map}
use Rattle.table_records.proofs.RowLemmas.{row_seen, row_serial, row_within}
use Rattle.table_records.proofs.table.RecordTable.serial_unchecked.Goals as goal

pub index-requires : goal.index-requires
index-requires g c =
    let within = row_within c.self.inside.rows.items c.self.inside.free.items c.self.inside.given c.args.rep c.args.self.now c.self.view_is c.requires in
    let ok = c.self.inside.rows.ok in
    omega arith

pub returns : goal.returns
returns g c =
    let seen = row_seen c.self.inside.rows.items c.self.inside.free.items c.self.inside.given c.args.rep c.args.self.now c.self.view_is in
    sym (sym (ap (option_map (λ p. p.serial)) seen) ∙ row_serial c.self.inside.rows.items c.args.rep c.index.result.now (subst IsSome (sym seen) c.requires) c.index.ensures)
