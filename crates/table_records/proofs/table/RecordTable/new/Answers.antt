use Rattle.table_records.proofs.RowLemmas.{new_shown}
use Rattle.table_records.proofs.table.RecordTable.new.Goals as goal

pub returns-clause-empty : goal.returns-clause-empty
returns-clause-empty g c = new_shown c.new.result.items c.new-2.result.items c.new.ensures.items c.new-2.ensures.items
