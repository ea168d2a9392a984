use Rattle.std.proofs.Common.{◌≡◌, ◌≤◌, ◌+◌, map, length}
use Rattle.task_table.specs.Entries.{entries_from}
use Rattle.task_table.specs.TableCells.{placed_in}
use Rattle.table_records.specs.Rows.{place_of}
use Rattle.table_records.proofs.iter.RecordIterIterator.next.Given as goal

-- only free rows were passed over
abbrev pub invariant-loop-row : goal.invariant-loop-row
invariant-loop-row g l =
    (l.self-inside.rep + length l.self-inside.rows.now ≤ 4294967295)
    × (entries_from l.self-inside.rep (map placed_in (map place_of l.self-inside.rows.now)) ≡ l.fn.self)

abbrev pub decreases-loop-row : goal.decreases-loop-row
decreases-loop-row g l = length l.self-inside.rows.now
