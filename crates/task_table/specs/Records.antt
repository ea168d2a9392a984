-- The records that the entries of a table hold, by their numbers. A key tells of an entry its number and its record, and None if
-- the entry is of another kind.
--     records key places                 the map of the records
--     found_record key n places          the record of number n
--     number_of key t rep serial         the number of the entry that an id finds
use Rattle.std.specs.Prelude.{◌≡◌, ℕ, ◌==◌, if◌then◌else◌, Bool, List, [], ◌∷◌, Option, Some, None, is_some, slice_get}
use Rattle.machine_data.specs.Maps.{Records, get, empty, insert, remove}
use Rattle.task_table.specs.Table.{Table, Placed, found, standing}

module _ {X : Type 0} where
  abbrev pub number_in : Option (ℕ × X) → ℕ
  number_in None = 0
  number_in (Some e) = e.0

  -- the map with one more record, if there is one
  abbrev pub with_record : Option (ℕ × X) → Records X → Records X
  with_record None m = m
  with_record (Some e) m = insert m e.0 e.1

  -- the map with a record less, if there is one
  abbrev pub without_record : Option (ℕ × X) → Records X → Records X
  without_record None m = m
  without_record (Some e) m = remove m e.0

  -- what is found under a number, with one more record or one less
  abbrev pub or_record : ℕ → Option (ℕ × X) → Option X → Option X
  or_record n None rest = rest
  or_record n (Some e) rest = if n == e.0 then Some e.1 else rest

  abbrev pub but_record : ℕ → Option (ℕ × X) → Option X → Option X
  but_record n None rest = rest
  but_record n (Some e) rest = if n == e.0 then None else rest

  -- Both have one number, or neither is of the kind.
  abbrev pub SameNumber : Option (ℕ × X) → Option (ℕ × X) → Type 0
  SameNumber None None = Unit {0}
  SameNumber None (Some e) = ⊥
  SameNumber (Some d) None = ⊥
  SameNumber (Some d) (Some e) = d.0 ≡ e.0

module _ {E X : Type 0} where
  -- the number and the record of what is at a place
  abbrev pub key_in : (E → Option (ℕ × X)) → Option (Placed E) → Option (ℕ × X)
  key_in key None = None
  key_in key (Some p) = key p.entry

  abbrev pub record_at : (E → Option (ℕ × X)) → List (Option (Placed E)) → ℕ → Option (ℕ × X)
  record_at key places rep = key_in key (standing (slice_get places rep))

  -- the records at these places, by their numbers
  unfoldable pub records : (E → Option (ℕ × X)) → List (Option (Placed E)) → Records X
  records key [] = empty
  records key (o ∷ os) = with_record (key_in key o) (records key os)

  -- the record of number n, at the first place that has one
  unfoldable pub found_record : (E → Option (ℕ × X)) → ℕ → List (Option (Placed E)) → Option X
  found_record key n [] = None
  found_record key n (o ∷ os) = or_record n (key_in key o) (found_record key n os)

  -- what is at a place is of the kind
  abbrev pub is_of : (E → Option (ℕ × X)) → Option (Placed E) → Bool
  is_of key o = is_some (key_in key o)

  -- the number of the entry that the id finds, and 0 if it finds none of the kind
  unfoldable pub number_of : (E → Option (ℕ × X)) → Table E → ℕ → ℕ → ℕ
  number_of key t rep serial = number_in (key_in key (found t rep serial))

  -- the number of the new record is nowhere yet
  abbrev pub IsNew : (E → Option (ℕ × X)) → List (Option (Placed E)) → Option (ℕ × X) → Type 0
  IsNew key places None = Unit {0}
  IsNew key places (Some e) = found_record key e.0 places ≡ None

  module _ (key : E → Option (ℕ × X)) where
    -- No number is at two places.
    pub record AreApart (places : List (Option (Placed E))) : Type 0 where
      pub one_place : (r s n : ℕ) (x y : X) → record_at key places r ≡ Some (n, x) → record_at key places s ≡ Some (n, y) → r ≡ s

    -- The entry that an id finds has this number and this record.
    pub record Names (t : Table E) (rep serial n : ℕ) (x : X) : Type 0 where
      pub placed : Placed E
      pub at : found t rep serial ≡ Some placed
      pub is : key placed.entry ≡ Some (n, x)

    -- The id has a number, and this is in the table and in the map.
    pub record NumberFound (t : Table E) (rep serial : ℕ) : Type 0 where
      pub placed : Placed E
      pub held : X
      pub at : found t rep serial ≡ Some placed
      pub is : key placed.entry ≡ Some (number_of key t rep serial, held)
      pub got : get (records key t.places) (number_of key t rep serial) ≡ Some held

    -- A change of the places leaves the records alone.
    pub record KeepsRecords (old new : List (Option (Placed E))) : Type 0 where
      pub map : records key new ≡ records key old
      pub apart : AreApart new
      pub found : (q : ℕ) → found_record key q new ≡ found_record key q old

    -- A change of the places puts one record, new or in place of that of its number.
    pub record PutsRecord (old new : List (Option (Placed E))) (n : ℕ) (x : X) : Type 0 where
      pub map : records key new ≡ insert (records key old) n x
      pub apart : AreApart new
      pub found : (q : ℕ) → found_record key q new ≡ (if q == n then Some x else found_record key q old)

    -- A change of the places takes one record away.
    pub record TakesRecord (old new : List (Option (Placed E))) (n : ℕ) : Type 0 where
      pub map : records key new ≡ remove (records key old) n
      pub apart : AreApart new
      pub found : (q : ℕ) → found_record key q new ≡ (if q == n then None else found_record key q old)
