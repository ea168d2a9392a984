use Rattle.std.proofs.Common.{refl}
use Rattle.table_records.proofs.RowLemmas.{row_entry, row_freed}
use Rattle.table_records.proofs.row.vacate.Goals as goal

pub returns-clause-entry : goal.returns-clause-entry
returns-clause-entry g c = row_entry c.args.rows.now.items c.args.rep c.index_mut-row.result.now c.requires c.index_mut-row.ensures.value

pub returns-clause-rows : goal.returns-clause-rows
returns-clause-rows g c = row_freed c.args.rows.now.items c.args.rep c.index_mut-row.result.now c.requires c.index_mut-row.ensures.value _ refl
