-- What contracts see of a `ResourceTable`: what is at each place, and which places are free.
use Rattle.std.specs.Prelude.{◌≡◌, ℕ, ◌+◌, ◌-◌, ◌<◌, ◌≤◌, ◌^◌, ◌==◌, ◌&&◌, ◌||◌, nat_le, if◌then◌else◌, Bool, true, false, List, [], ◌∷◌, length, slice_get, count_by, Option, Some, None, is_some, refl}
use Rattle.std.specs.Coded.{Coded, code_by, coded×, coded_ℕ, coded_list, coded_option}

-- an entry in the table: the serial of its id, the place of its parent, and the entry itself
pub record Placed (E : Type 0) : Type 0 where
  pub serial : ℕ
  pub parent : Option ℕ
  pub entry : E

-- what is at each place, the free places from the one freed last on, how many serials were given, and the capacity
pub record Table (E : Type 0) : Type 0 where
  pub places : List (Option (Placed E))
  pub free : List ℕ
  pub given : ℕ
  pub capacity : ℕ

abbrev pub placed_code : {E : Type 0} → Coded E → Coded (Placed E)
placed_code {E} code =
    code_by (ℕ × (Option ℕ × E)) (coded× coded_ℕ (coded× (coded_option coded_ℕ) code))
    (λ p. (p.serial, (p.parent, p.entry))) (λ q. record { serial = q.0; parent = q.1.0; entry = q.1.1 }) (λ _. refl)

abbrev pub table_code : {E : Type 0} → Coded E → Coded (Table E)
table_code {E} code =
    code_by
    (List (Option (Placed E)) × (List ℕ × (ℕ × ℕ)))
    (coded× (coded_list (coded_option (placed_code code))) (coded× (coded_list coded_ℕ) (coded× coded_ℕ coded_ℕ)))
    (λ t. (t.places, (t.free, (t.given, t.capacity))))
    (λ q. record { places = q.0; free = q.1.0; given = q.1.1.0; capacity = q.1.1.1 })
    (λ _. refl)

-- there is a number, and it is n
abbrev pub is_number : ℕ → Option ℕ → Bool
is_number n None = false
is_number n (Some m) = m == n

abbrev pub is_nil : List ℕ → Bool
is_nil [] = true
is_nil (n ∷ ns) = false

module _ {E : Type 0} where
  abbrev pub of_serial : ℕ → Option (Placed E) → Option (Placed E)
  of_serial serial None = None
  of_serial serial (Some p) = if p.serial == serial then Some p else None

  abbrev pub standing : Option (Option (Placed E)) → Option (Placed E)
  standing None = None
  standing (Some p) = p

  -- the entry at a place
  abbrev pub place_at : Table E → ℕ → Option (Placed E)
  place_at t rep = standing (slice_get t.places rep)

  -- the entry with this place and this serial
  unfoldable pub found : Table E → ℕ → ℕ → Option (Placed E)
  found t rep serial = of_serial serial (place_at t rep)

  -- how many entries there are
  abbrev pub table_len : Table E → ℕ
  table_len t = count_by is_some t.places

  -- how many pushes the capacity still allows
  abbrev pub free_count : Table E → ℕ
  free_count t = length t.free + (t.capacity - length t.places)

  -- the parent of the entry is at this place
  abbrev pub is_child_of : ℕ → Option (Placed E) → Bool
  is_child_of rep None = false
  is_child_of rep (Some p) = is_number rep p.parent

  -- how many entries have their parent at this place
  abbrev pub children_of : Table E → ℕ → ℕ
  children_of t rep = count_by (is_child_of rep) t.places

  -- a place was made there, and no entry is at it
  abbrev pub is_free : Option (Option (Placed E)) → Bool
  is_free None = false
  is_free (Some None) = true
  is_free (Some (Some p)) = false

  -- no place is free and the places made are at least the capacity, or 2^64 - 1 serials were given
  abbrev pub is_full : Table E → Bool
  is_full t = (is_nil t.free && nat_le t.capacity (length t.places)) || nat_le (2 ^ 64 - 1) t.given

-- What holds of every table.
pub record IsTable {E : Type 0} (t : Table E) : Type 0 where
  pub places_fit : length t.places ≤ 4294967295
  pub capacity_fits : t.capacity ≤ 4294967295
  -- the list of free places has each place without an entry once, and no other
  pub free_once : (rep : ℕ) → count_by (λ r. r == rep) t.free ≡ (if is_free (slice_get t.places rep) then 1 else 0)
  pub free_or_taken : length t.free + count_by is_some t.places ≡ length t.places
  -- each serial in the table was given
  pub serials : (rep : ℕ) (p : Placed E) → place_at t rep ≡ Some p → p.serial < t.given
  -- no entry has a parent that is not there
  pub parents : (rep : ℕ) → place_at t rep ≡ None → children_of t rep ≡ 0

-- a table with no place made
abbrev pub new_table : {E : Type 0} → Table E
new_table = record { places = []; free = []; given = 0; capacity = 1000000 }
