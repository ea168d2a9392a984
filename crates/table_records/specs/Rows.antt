-- How a record table lays out its rows: as a table whose entries have no parents lays out its places. No public clause cites this module.
use Rattle.std.specs.Prelude.{ℕ, ◌-◌, ◌<◌, ◌^◌, ◌==◌, if◌then◌else◌, List, [], ◌∷◌, map, Vec, vec_capacity, length, slice_get, Option, None, ◌≡◌}
use Rattle.std.specs.Global.{Global}
use Rattle.std.specs.Option.{option_and_then}
use Rattle.task_table.specs.Table.{Table, Placed}
use Rattle.task_table.specs.TableCells.{IsSoundTable, placed_in, shown}
use Rattle.task_table.specs.declared.place.TableCell.{TableCell}
use Rattle.task_table.specs.declared.place.TableCell.TheVariants.{Free, Taken}
use Rattle.table_records.specs.declared.row.RecordRow.{RecordRow}

module _ {E : Type 0} where
  -- what contracts see of a taken row
  abbrev pub row_placed : RecordRow E → Placed E
  row_placed r = record { serial = r.serial; parent = None; entry = r.entry }

  -- the place that a row represents
  abbrev pub place_of : RecordRow E → TableCell E
  place_of r = if r.serial == 2 ^ 64 - 1 then Free else Taken (record { serial = r.serial; parent = None; children = 0; entry = r.entry })

  -- what contracts see of the row at a place
  abbrev pub row_shown : List (RecordRow E) → ℕ → Option (Placed E)
  row_shown rows rep = option_and_then (λ r. placed_in (place_of r)) (slice_get rows rep)

  -- where no row is free, there is room for one more, and for freeing it
  abbrev pub HasRowRoom : Vec (RecordRow E) Global → Vec ℕ Global → Type 0
  HasRowRoom rows free = free.items ≡ [] → (length rows.items < vec_capacity rows) × (length rows.items < vec_capacity free)

  -- The first free row, if there is one, is there.
  abbrev pub NextIsThere : List ℕ → List (RecordRow E) → Type 0
  NextIsThere [] rows = Unit {0}
  NextIsThere (rep ∷ rest) rows = rep < length rows

  -- what contracts see of a record table, which has as many places as there can be
  abbrev pub records_shown : List (RecordRow E) → List ℕ → ℕ → Table E
  records_shown rows free given = shown (map place_of rows) free given 4294967295

  abbrev pub AreRecords : List (RecordRow E) → List ℕ → ℕ → ℕ → Type 0
  AreRecords rows free room given = IsSoundTable (map place_of rows) free room given 4294967295
