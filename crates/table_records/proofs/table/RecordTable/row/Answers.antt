use Rattle.std.proofs.Common.{◌∙◌}
use Rattle.table_records.proofs.RowLemmas.{row_found}
use Rattle.table_records.proofs.table.RecordTable.row.Goals as goal

pub returns : goal.returns
returns g c = record {
  found = c.row_in.ensures ∙ row_found c.self.inside.rows.items c.self.inside.free.items c.self.inside.given c.args.rep c.args.serial c.args.self.now c.self.view_is;
}
