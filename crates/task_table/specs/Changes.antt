-- What the calls of a `ResourceTable` change.
use Rattle.std.specs.Prelude.{◌≡◌, ◌≢◌, ℕ, ◌+◌, List, [], ◌∷◌, ◌++◌, length, drop, slice_set, slice_get, Option, Some, None}
use Rattle.task_table.specs.Table.{Table, Placed, standing, found}

abbrev pub next_of : List ℕ → ℕ → ℕ
next_of [] made = made
next_of (rep ∷ rest) made = rep

-- the places with this one at the first free place, else at the end
abbrev pub put_at_next : {X : Type 0} → List ℕ → X → List X → List X
put_at_next [] p places = places ++ p ∷ []
put_at_next (rep ∷ rest) p places = slice_set places rep p

module _ {E : Type 0} where
  -- the place that the next push gives: the one freed last, else a new one
  abbrev pub next_place : Table E → ℕ
  next_place t = next_of t.free (length t.places)

  -- an entry without a parent at the next place, with the next serial
  unfoldable pub pushed : E → Table E → Table E
  pushed entry t = record {
    places = put_at_next t.free (Some (record { serial = t.given; parent = None; entry = entry })) t.places;
    free = drop 1 t.free;
    given = t.given + 1;
    capacity = t.capacity;
  }

  -- the entry at a place is gone, and the place is the next to be given
  unfoldable pub deleted : ℕ → Table E → Table E
  deleted rep t = record t { places = slice_set t.places rep None; free = rep ∷ t.free }

  abbrev pub entry_put : E → Option (Placed E) → Option (Placed E)
  entry_put entry None = None
  entry_put entry (Some p) = Some (record p { entry = entry })

  abbrev pub parent_put : Option ℕ → Option (Placed E) → Option (Placed E)
  parent_put parent None = None
  parent_put parent (Some p) = Some (record p { parent = parent })

  abbrev pub with_entry_at : ℕ → E → List (Option (Placed E)) → List (Option (Placed E))
  with_entry_at rep entry places = slice_set places rep (entry_put entry (standing (slice_get places rep)))

  abbrev pub with_parent_at : ℕ → Option ℕ → List (Option (Placed E)) → List (Option (Placed E))
  with_parent_at rep parent places = slice_set places rep (parent_put parent (standing (slice_get places rep)))

  -- another entry at a place, under the same id
  unfoldable pub with_entry : ℕ → E → Table E → Table E
  with_entry rep entry t = record t { places = with_entry_at rep entry t.places }

  -- another parent of the entry at a place
  unfoldable pub with_parent : ℕ → Option ℕ → Table E → Table E
  with_parent rep parent t = record t { places = with_parent_at rep parent t.places }

  unfoldable pub with_capacity : ℕ → Table E → Table E
  with_capacity n t = record t { capacity = n }

  -- a new id finds the entry, and every other id finds what it found
  pub record Adds (old new : Table E) (rep serial : ℕ) (entry : E) : Type 0 where
    pub fresh : found old rep serial ≡ None
    pub added : found new rep serial ≡ Some (record { serial = serial; parent = None; entry = entry })
    pub others : (r s : ℕ) → ((r ≡ rep) × (s ≡ serial) → ⊥) → found new r s ≡ found old r s

  -- no id finds an entry at the place, and every id of another place finds what it found
  pub record Removes (old new : Table E) (rep : ℕ) : Type 0 where
    pub gone : (s : ℕ) → found new rep s ≡ None
    pub others : (r s : ℕ) → r ≢ rep → found new r s ≡ found old r s
