-- How a table lays out its places. No public clause cites this module.
use Rattle.std.specs.Prelude.{◌≡◌, ℕ, ◌+◌, ◌<◌, ◌≤◌, if◌then◌else◌, List, [], ◌∷◌, map, Vec, vec_capacity, reverse, length, slice_get, count_by, Option, Some, None}
use Rattle.std.specs.Global.{Global}
use Rattle.std.specs.Option.{option_and_then}
use Rattle.task_table.specs.Table.{Table, Placed, is_child_of, is_number, IsTable}
use Rattle.task_table.specs.declared.place.TableCell.{TableCell}
use Rattle.task_table.specs.declared.place.TableCell.TheVariants.{Free, Taken}
use Rattle.task_table.specs.declared.place.TakenCell.{TakenCell}

module _ {E : Type 0} where
  abbrev pub placed : TakenCell E → Placed E
  placed s = record { serial = s.serial; parent = s.parent; entry = s.entry }

  abbrev pub slot_of : TableCell E → Option (TakenCell E)
  slot_of Free = None
  slot_of (Taken s) = Some s

  -- what contracts see of a place
  abbrev pub placed_in : TableCell E → Option (Placed E)
  placed_in Free = None
  placed_in (Taken s) = Some (placed s)

  -- the slot at a place
  abbrev pub slot_at : List (TableCell E) → ℕ → Option (TakenCell E)
  slot_at ps rep = option_and_then slot_of (slice_get ps rep)

  abbrev pub entry_in : TableCell E → Option E
  entry_in Free = None
  entry_in (Taken s) = Some s.entry

  -- the place with another entry in its slot
  abbrev pub place_with : TableCell E → E → TableCell E
  place_with Free entry = Free
  place_with (Taken s) entry = Taken (record s { entry = entry })

  -- the place with another parent in its slot
  abbrev pub place_with_parent : Option ℕ → TableCell E → TableCell E
  place_with_parent parent Free = Free
  place_with_parent parent (Taken s) = Taken (record s { parent = parent })

  abbrev pub slot_children : Option (TakenCell E) → ℕ
  slot_children None = 0
  slot_children (Some s) = s.children

  -- the children that the slot at a place counts
  abbrev pub children_at : List (TableCell E) → ℕ → ℕ
  children_at ps rep = slot_children (slot_at ps rep)

  -- each slot counts the entries whose parent it is, and one more at this place
  abbrev pub IsCountedBut : List (TableCell E) → Option ℕ → Type 0
  IsCountedBut ps more = (rep : ℕ) →
      children_at ps rep ≡ count_by (is_child_of rep) (map placed_in ps) + (if is_number rep more then 1 else 0)

  -- each slot counts the entries whose parent it is
  abbrev pub IsCounted : List (TableCell E) → Type 0
  IsCounted ps = IsCountedBut ps None

  -- where no place is free, there is room for one more, and for freeing it
  abbrev pub HasRoom : Vec (TableCell E) Global → Vec ℕ Global → Type 0
  HasRoom ps free = free.items ≡ [] → (length ps.items < vec_capacity ps) × (length ps.items < vec_capacity free)

  -- the first free place, if there is one, has no entry
  abbrev pub NextIsFree : List ℕ → List (TableCell E) → Type 0
  NextIsFree [] ps = Unit {0}
  NextIsFree (rep ∷ rest) ps = slice_get ps rep ≡ Some Free

  -- what contracts see of a table
  abbrev pub shown : List (TableCell E) → List ℕ → ℕ → ℕ → Table E
  shown ps free given capacity = record { places = map placed_in ps; free = reverse free; given = given; capacity = capacity }

-- The table is in order, the children are counted, and a place that is freed needs no memory.
pub record IsSoundTable {E : Type 0} (ps : List (TableCell E)) (free : List ℕ) (room given capacity : ℕ) : Type 0 where
  pub table : IsTable (shown ps free given capacity)
  pub counted : IsCounted ps
  pub room_to_free : length ps ≤ room
