-- A record table is the table of the places that its rows represent, so that what holds of that one holds of it.
use Rattle.std.proofs.Common.{◌≡◌, ℕ, ◌-◌, ◌<◌, ◌^◌, ◌==◌, Bool, true, false, cond, List, [], ◌∷◌, length, map, set, get_or, slice_get, Option, Some, None, IsSome, Result, Ok, Err, IsOk, is_some, option_map, option_and_then, refl, sym, ap, subst, ◌∙◌, arith}
use Rattle.std.proofs.lemmas.Bool.{eq-eqb, ne_eqb}
use Rattle.std.proofs.lemmas.List.{map-set, map_push, length-map}
use Rattle.std.proofs.lemmas.Option.{get_or_from_slice_get, same_Some, slice_get-map, slice_get_within}
use Rattle.task_table.specs.declared.place.TableCell.TheVariants.{Free, Taken}
use Rattle.table_records.specs.declared.row.RecordRow.{RecordRow}
use Rattle.task_table.specs.Changes.{put_at_next, with_capacity}
use Rattle.task_table.specs.TableCells.{children_at, placed_in, slot_children, slot_of, place_with, IsCounted, NextIsFree}
use Rattle.table_records.specs.Rows.{AreRecords, NextIsThere, place_of, records_shown, row_shown}
use Rattle.task_table.specs.Table.{Placed, Table, place_at, standing, found, of_serial, new_table, children_of}
use Rattle.task_table.specs.TableAnswers.{item_at}
use Rattle.task_table.proofs.CountLemmas.{counted-vacate}
use Rattle.task_table.proofs.TableLemmas.{item_place}

-- the item of an id that is known to be there
pub known_item : {Item X : Type 0} (r : Result Item X) → IsOk r → (item : Item) × (r ≡ Ok item)
known_item (Ok item) is = (item, refl)
known_item (Err e) is = absurd (cc)

pub none_there : {Item : Type 0} (o : Option Item) → None ≡ o → IsSome o → ⊥
none_there None is some = absurd (cc)
none_there (Some x) is some = cc

module _ {E : Type 0} where
  -- what contracts see at a place
  pub shown_row : (rows : List (RecordRow E)) (free : List ℕ) (given rep : ℕ) → place_at (records_shown rows free given) rep ≡ row_shown rows rep
  shown_row rows free given rep =
      ap standing (slice_get-map placed_in (map place_of rows) rep ∙ ap (option_map placed_in) (slice_get-map place_of rows rep)) ∙ by_read (slice_get rows rep)
    where
      by_read : (o : Option (RecordRow E)) → standing (option_map placed_in (option_map place_of o)) ≡ option_and_then (λ r. placed_in (place_of r)) o
      by_read None = refl
      by_read (Some r) = refl

  pub row_seen : (rows : List (RecordRow E)) (free : List ℕ) (given rep : ℕ) (t : Table E) → records_shown rows free given ≡ t → row_shown rows rep ≡ place_at t rep
  row_seen rows free given rep t is = sym (shown_row rows free given rep) ∙ ap (λ x. place_at x rep) is

  pub row_found : (rows : List (RecordRow E)) (free : List ℕ) (given rep serial : ℕ) (t : Table E) → records_shown rows free given ≡ t → of_serial serial (row_shown rows rep) ≡ found t rep serial
  unfolding found
  row_found rows free given rep serial t is = ap (of_serial serial) (row_seen rows free given rep t is)

  -- a record table in which nothing was made
  pub new_shown : (rows : List (RecordRow E)) (free : List ℕ) → rows ≡ [] → free ≡ [] → records_shown rows free 0 ≡ with_capacity 4294967295 new_table
  unfolding with_capacity
  new_shown rows free none nothing = ap (λ rs. records_shown rs free 0) none ∙ ap (λ ns. records_shown [] ns 0) nothing

  -- a place of a rule, by its serial
  of_free : (r : RecordRow E) → r.serial ≡ 2 ^ 64 - 1 → place_of r ≡ Free
  of_free r is = ap (λ b. cond b Free (Taken (record { serial = r.serial; parent = None; children = 0; entry = r.entry }))) (eq-eqb r.serial (2 ^ 64 - 1) is)

  pub of_taken : (r : RecordRow E) → r.serial < 2 ^ 64 - 1 → place_of r ≡ Taken (record { serial = r.serial; parent = None; children = 0; entry = r.entry })
  of_taken r below = ap (λ b. cond b Free (Taken (record { serial = r.serial; parent = None; children = 0; entry = r.entry }))) (ne_eqb r.serial (2 ^ 64 - 1) (λ same. absurd (omega arith)))

  -- a row that shows an entry
  pub row_there : (rows : List (RecordRow E)) (rep : ℕ) → IsSome (row_shown rows rep) → (r : RecordRow E) × (slice_get rows rep ≡ Some r) × ((r.serial == 2 ^ 64 - 1) ≡ false)
  row_there rows rep present = by_read (slice_get rows rep) refl present
    where
      by_test : (r : RecordRow E) (b : Bool) → (r.serial == 2 ^ 64 - 1) ≡ b → slice_get rows rep ≡ Some r → IsSome (placed_in (cond b Free (Taken (record { serial = r.serial; parent = None; children = 0; entry = r.entry })))) → (r : RecordRow E) × (slice_get rows rep ≡ Some r) × ((r.serial == 2 ^ 64 - 1) ≡ false)
      by_test r true test is some = absurd (cc)
      by_test r false test is some = (r, is, test)

      by_read : (o : Option (RecordRow E)) → slice_get rows rep ≡ o → IsSome (option_and_then (λ r. placed_in (place_of r)) o) → (r : RecordRow E) × (slice_get rows rep ≡ Some r) × ((r.serial == 2 ^ 64 - 1) ≡ false)
      by_read None is some = absurd (cc)
      by_read (Some r) is some = by_test r (r.serial == 2 ^ 64 - 1) refl is some

  place_there : (rows : List (RecordRow E)) (rep : ℕ) (r : RecordRow E) → slice_get rows rep ≡ Some r → slice_get (map place_of rows) rep ≡ Some (place_of r)
  place_there rows rep r is = slice_get-map place_of rows rep ∙ ap (option_map place_of) is

  -- what was read of a row that shows an entry
  module _ (rows : List (RecordRow E)) (rep : ℕ) (read : RecordRow E) (present : IsSome (row_shown rows rep)) (value : read ≡ get_or rows rep read) where
    pub row_read : (slice_get rows rep ≡ Some read) × (place_of read ≡ Taken (record { serial = read.serial; parent = None; children = 0; entry = read.entry }))
    row_read =
        let one = row_there rows rep present in
        let same : read ≡ one.0 = value ∙ get_or_from_slice_get rows rep one.0 read one.1 in
        let test : (read.serial == 2 ^ 64 - 1) ≡ false = ap (λ r. r.serial == 2 ^ 64 - 1) same ∙ one.2 in
        (one.1 ∙ ap Some (sym same), ap (λ b. cond b Free (Taken (record { serial = read.serial; parent = None; children = 0; entry = read.entry }))) test)

    pub place_value : place_of read ≡ get_or (map place_of rows) rep (place_of read)
    place_value = sym (get_or_from_slice_get (map place_of rows) rep (place_of read) (place_of read) (place_there rows rep read row_read.0))

    -- with another entry
    pub row_put : (entry : E) → map place_of (set rows rep (record read { entry = entry })) ≡ set (map place_of rows) rep (place_with (place_of read) entry)
    row_put entry =
        let is = row_read.1 in
        let test : (read.serial == 2 ^ 64 - 1) ≡ false = by_place (read.serial == 2 ^ 64 - 1) refl is in
        map-set place_of rows rep (record read { entry = entry })
        ∙ ap (set (map place_of rows) rep) (ap (λ b. cond b Free (Taken (record { serial = read.serial; parent = None; children = 0; entry = entry }))) test ∙ ap (λ p. place_with p entry) (sym is))
      where
        by_place : (b : Bool) → (read.serial == 2 ^ 64 - 1) ≡ b → cond b Free (Taken (record { serial = read.serial; parent = None; children = 0; entry = read.entry })) ≡ Taken (record { serial = read.serial; parent = None; children = 0; entry = read.entry }) → (read.serial == 2 ^ 64 - 1) ≡ false
        by_place true test taken = absurd (cc)
        by_place false test taken = test

    -- freed
    pub row_freed : (freed : RecordRow E) → freed.serial ≡ 2 ^ 64 - 1 → map place_of (set rows rep freed) ≡ set (map place_of rows) rep Free
    row_freed freed is = map-set place_of rows rep freed ∙ ap (set (map place_of rows) rep) (of_free freed is)

    pub row_serial : option_map (λ p. p.serial) (row_shown rows rep) ≡ Some read.serial
    row_serial = ap (λ o. option_map (λ p. p.serial) (option_and_then (λ r. placed_in (place_of r)) o)) row_read.0 ∙ ap (λ p. option_map (λ q. q.serial) (placed_in p)) row_read.1

    pub row_entry : option_map (λ p. p.entry) (row_shown rows rep) ≡ Some read.entry
    row_entry = ap (λ o. option_map (λ p. p.entry) (option_and_then (λ r. placed_in (place_of r)) o)) row_read.0 ∙ ap (λ p. option_map (λ q. q.entry) (placed_in p)) row_read.1

  -- where the next place is free, its rule is there
  pub next_is_there : (free : List ℕ) (rows : List (RecordRow E)) → NextIsFree free (map place_of rows) → NextIsThere free rows
  next_is_there [] rows next = tt
  next_is_there (rep ∷ rest) rows next = let within = slice_get_within (map place_of rows) rep Free next in let same = length-map rows place_of in omega arith

  -- a row at the next place
  pub row_filled : (free : List ℕ) (row : RecordRow E) (rows : List (RecordRow E)) → row.serial < 2 ^ 64 - 1 → map place_of (put_at_next free row rows) ≡ put_at_next free (Taken (record { serial = row.serial; parent = None; children = 0; entry = row.entry })) (map place_of rows)
  row_filled [] row rows below = map_push place_of rows row ∙ ap (λ p. put_at_next [] p (map place_of rows)) (of_taken row below)
  row_filled (rep ∷ rest) row rows below = map-set place_of rows rep row ∙ ap (set (map place_of rows) rep) (of_taken row below)

  -- no row counts a child
  no_child : (rows : List (RecordRow E)) (rep : ℕ) → children_at (map place_of rows) rep ≡ 0
  no_child rows rep = ap (λ o. slot_children (option_and_then slot_of o)) (slice_get-map place_of rows rep) ∙ by_read (slice_get rows rep)
    where
      by_test : (r : RecordRow E) (b : Bool) → slot_children (slot_of (cond b Free (Taken (record { serial = r.serial; parent = None; children = 0; entry = r.entry })))) ≡ 0
      by_test r true = refl
      by_test r false = refl

      by_read : (o : Option (RecordRow E)) → slot_children (option_and_then slot_of (option_map place_of o)) ≡ 0
      by_read None = refl
      by_read (Some r) = by_test r (r.serial == 2 ^ 64 - 1)

  -- so that none of a record table has children
  pub childless : (rows : List (RecordRow E)) (free : List ℕ) (room given rep : ℕ) (t : Table E) → records_shown rows free given ≡ t → AreRecords rows free room given → children_of t rep ≡ 0
  childless rows free room given rep t is sound =
      let count = sound.counted rep in
      let none = no_child rows rep in
      let same : children_of (records_shown rows free given) rep ≡ children_of t rep = ap (λ x. children_of x rep) is in
      omega arith

  -- a row that is freed leaves the counts
  pub counted_freed : (rows rows' : List (RecordRow E)) (rep : ℕ) → IsSome (row_shown rows rep) → map place_of rows' ≡ set (map place_of rows) rep Free → IsCounted (map place_of rows) → IsCounted (map place_of rows')
  counted_freed rows rows' rep present is counted =
      let one = row_there rows rep present in
      let r = one.0 in
      let found : slice_get (map place_of rows) rep ≡ Some (Taken (record { serial = r.serial; parent = None; children = 0; entry = r.entry })) =
      place_there rows rep r one.1 ∙ ap (λ b. Some (cond b Free (Taken (record { serial = r.serial; parent = None; children = 0; entry = r.entry })))) one.2 in
      subst IsCounted (sym is) (counted-vacate (map place_of rows) rep (record { serial = r.serial; parent = None; children = 0; entry = r.entry }) found refl counted)

  -- where an entry is seen its rule is
  pub row_within : (rows : List (RecordRow E)) (free : List ℕ) (given rep : ℕ) (t : Table E) → records_shown rows free given ≡ t → IsSome (place_at t rep) → rep < length rows
  row_within rows free given rep t is some =
      let one = row_there rows rep (subst IsSome (sym (row_seen rows free given rep t is)) some) in
      slice_get_within rows rep one.0 one.1

  -- the item at a place that has one
  item_some : {Item : Type 0} (item_of : E → Option Item) (o : Option (Placed E)) → IsSome (option_and_then (λ p. item_of p.entry) o) → IsSome o
  item_some item_of None some = absurd (cc)
  item_some item_of (Some p) some = refl

  pub item_entry : {Item : Type 0} (item_of : E → Option Item) (o : Option (Placed E)) (entry : E) → option_map (λ p. p.entry) o ≡ Some entry → option_and_then (λ p. item_of p.entry) o ≡ item_of entry
  item_entry item_of None entry is = absurd (cc)
  item_entry item_of (Some p) entry is = ap item_of (same_Some p.entry entry is)

  module _ {Item : Type 0} (item_of : E → Option Item) (rows : List (RecordRow E)) (free : List ℕ) (given rep : ℕ) (t : Table E) (is : records_shown rows free given ≡ t) (some : IsSome (option_and_then (λ p. item_of p.entry) (place_at t rep))) where
    row_some : IsSome (row_shown rows rep)
    row_some = subst IsSome (sym (row_seen rows free given rep t is)) (item_some item_of (place_at t rep) some)

    pub there_within : rep < length rows
    there_within = let one = row_there rows rep row_some in slice_get_within rows rep one.0 one.1

    pub there_item : (read : RecordRow E) → read ≡ get_or rows rep read → item_of read.entry ≡ option_and_then (λ p. item_of p.entry) (place_at t rep)
    there_item read value =
        sym (item_entry item_of (place_at t rep) read.entry (sym (ap (option_map (λ p. p.entry)) (row_seen rows free given rep t is)) ∙ row_entry rows rep read row_some value))

  module _ {Item : Type 0} (item_of : E → Option Item) (t : Table E) (rep serial : ℕ) (known : IsOk (item_at item_of t rep serial)) where
    pub known_there : (item : Item) × (item_at item_of t rep serial ≡ Ok item) × (option_and_then (λ p. item_of p.entry) (place_at t rep) ≡ Some item) × IsSome (place_at t rep)
    known_there =
        let item = known_item (item_at item_of t rep serial) known in
        let one = item_place item_of t rep serial item.0 item.1 in
        (item.0, item.1, ap (option_and_then (λ p. item_of p.entry)) one.1 ∙ one.2, ap is_some one.1)

    -- what was read of its entry is that item
    pub known_read : (entry : E) → option_map (λ p. p.entry) (place_at t rep) ≡ Some entry → item_of entry ≡ Some known_there.0
    known_read entry read = sym (item_entry item_of (place_at t rep) entry read) ∙ known_there.2
