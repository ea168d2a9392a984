use Rattle.std.proofs.Common.{◌≡◌, ◌≤◌, ◌+◌, map, length}
use Rattle.task_table.specs.Entries.{entries_from}
use Rattle.task_table.specs.TableCells.{placed_in}
use Rattle.task_table.proofs.iter.TableIterIterator.next.Given as goal

-- only free places were passed over
abbrev pub invariant-loop-place : goal.invariant-loop-place
invariant-loop-place g l =
    (l.self-inside.rep + length l.self-inside.places.now ≤ 4294967295)
    × (entries_from l.self-inside.rep (map placed_in l.self-inside.places.now) ≡ l.fn.self)

abbrev pub decreases-loop-place : goal.decreases-loop-place
decreases-loop-place g l = length l.self-inside.places.now
