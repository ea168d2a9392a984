use Rattle.std.proofs.Common.{map}
use Rattle.task_table.specs.TableCells.{placed_in}
use Rattle.table_records.specs.Rows.{place_of, records_shown}
use Rattle.task_table.proofs.Laws.{length-entries_from, entries_few}
use Rattle.table_records.proofs.table.RecordTable.iter.Goals as goal

pub returns-clause-len : goal.returns-clause-len
returns-clause-len g c =
    rw (c.as_slice.ensures.value, ← c.self.view_is) (length-entries_from 0 (map placed_in (map place_of c.self.inside.rows.items)))

pub returns-clause-few : goal.returns-clause-few
returns-clause-few g c =
    rw c.as_slice.ensures.value (entries_few (records_shown c.self.inside.rows.items c.self.inside.free.items c.self.inside.given) c.self.invariant.table)
