use Rattle.std.proofs.Common.{map}
use Rattle.task_table.specs.TableCells.{placed_in, shown}
use Rattle.task_table.proofs.Laws.{length-entries_from, entries_few}
use Rattle.task_table.proofs.table.ResourceTable.iter.Goals as goal

pub returns-clause-len : goal.returns-clause-len
returns-clause-len g c =
    rw (c.as_slice.ensures.value, ← c.self.view_is) (length-entries_from 0 (map placed_in c.self.inside.places.items))

pub returns-clause-few : goal.returns-clause-few
returns-clause-few g c =
    rw c.as_slice.ensures.value (entries_few (shown c.self.inside.places.items c.self.inside.free.items c.self.inside.given c.self.inside.max_capacity) c.self.invariant.table)
