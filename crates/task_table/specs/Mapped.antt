-- A table seen without what its entries hold: a function of each entry, at the same places under the same ids.
use Rattle.std.specs.Prelude.{map, Option, Some, None}
use Rattle.task_table.specs.Table.{Table, Placed}

module _ {E F : Type 0} where
  abbrev pub placed_as : (E → F) → Option (Placed E) → Option (Placed F)
  placed_as f None = None
  placed_as f (Some p) = Some (record { serial = p.serial; parent = p.parent; entry = f p.entry })

  unfoldable pub mapped : (E → F) → Table E → Table F
  mapped f t = record { places = map (placed_as f) t.places; free = t.free; given = t.given; capacity = t.capacity }
