use Rattle.std.proofs.Common.{◌∙◌}
use Rattle.table_records.proofs.RowLemmas.{row_seen}
use Rattle.table_records.proofs.table.RecordTable.taken.Goals as goal

pub returns : goal.returns
returns g c = c.row_at.ensures ∙ row_seen c.self.inside.rows.items c.self.inside.free.items c.self.inside.given c.args.rep c.args.self.now c.self.view_is
