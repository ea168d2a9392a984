-- How a table's places and free list show a table, and keep it in order.
use Rattle.std.proofs.Common.{◌≡◌, ℕ, ◌+◌, ◌<◌, ◌≤◌, false, List, [], ◌∷◌, ◌++◌, map, reverse, drop, length, set, get_or, slice_get, Option, Some, None, IsSome, Result, Ok, Err, is_err, OnOk, option_map, refl, sym, ap, subst, ◌∙◌, arith, length-set, count_by, add-zero}
use Rattle.std.proofs.lemmas.List.{map-set, map_push, length-map, length_push, reverse-reverse, reverse-append, length-reverse}
use Rattle.std.proofs.lemmas.Option.{same_Some, get_or_from_slice_get, slice_get-map}
use Rattle.task_table.specs.declared.place.TableCell.{TableCell}
use Rattle.task_table.specs.declared.place.TableCell.TheVariants.{Free, Taken}
use Rattle.task_table.specs.declared.place.TakenCell.{TakenCell}
use Rattle.task_table.specs.Table.{Table, Placed, IsTable, place_at, standing, is_full, is_child_of, children_of}
use Rattle.task_table.specs.Changes.{with_entry, entry_put, with_parent, with_parent_at, pushed, put_at_next, next_of, next_place, deleted}
use Rattle.task_table.specs.TableCells.{placed, placed_in, slot_at, slot_children, entry_in, place_with, shown, NextIsFree, IsSoundTable, IsCounted}
use Rattle.task_table.proofs.CountLemmas.{slot_there, slot_at_taken, taken_at_slot, place_shown, parent_shown, counted-set, counted-push, counted-fill}
use Rattle.task_table.proofs.TableLemmas.{IsTable-with_entry, IsTable-pushed, IsTable-with_parent, IsTable-deleted, free_head, free_fewer, some_of}

nil_from_reverse : (free : List ℕ) → reverse free ≡ [] → free ≡ []
nil_from_reverse free is = sym (reverse-reverse free) ∙ ap reverse is

-- what holds where a result is `Ok` holds where it is no `Err`
pub unless_err : {X Y : Type 0} {P : Type 0} (r : Result X Y) → is_err r ≡ false → OnOk r P → P
unless_err (Ok x) ok holds = holds
unless_err (Err e) ok holds = absurd (cc)

module _ {E : Type 0} where
  -- a place of the table is taken where its slot is
  pub taken_shown : (ps : List (TableCell E)) (t : Table E) (i : ℕ) → map placed_in ps ≡ t.places → IsSome (place_at t i) → IsSome (slot_at ps i)
  taken_shown ps t i is present = by_slot (slot_at ps i) (subst IsSome (ap (λ vs. standing (slice_get vs i)) (sym is) ∙ place_shown ps i) present)
    where
      by_slot : (o : Option (TakenCell E)) → IsSome (option_map placed o) → IsSome o
      by_slot None some = some
      by_slot (Some s) some = refl

  -- and what the table shows there is what the slot holds
  pub placed_shown : (ps : List (TableCell E)) (t : Table E) (i : ℕ) (s : TakenCell E) → map placed_in ps ≡ t.places → slice_get ps i ≡ Some (Taken s) → place_at t i ≡ Some (placed s)
  placed_shown ps t i s is found = ap (λ vs. standing (slice_get vs i)) (sym is) ∙ place_shown ps i ∙ ap (λ o. option_map placed o) (slot_at_taken ps i s found)

  -- another entry in a slot
  pub shown-with_entry : (ps : List (TableCell E)) (free : List ℕ) (given capacity : ℕ) (t : Table E) (i : ℕ) (s : TakenCell E) (entry : E) → shown ps free given capacity ≡ t → slice_get ps i ≡ Some (Taken s) → shown (set ps i (place_with (Taken s) entry)) free given capacity ≡ with_entry i entry t
  unfolding with_entry
  shown-with_entry ps free given capacity t i s entry is found =
      let seen = placed_shown ps (shown ps free given capacity) i s refl found in
      ap (λ vs. record (shown ps free given capacity) { places = vs }) (map-set placed_in ps i (Taken (record s { entry = entry })) ∙ sym (ap (λ o. set (map placed_in ps) i (entry_put entry o)) seen))
      ∙ ap (with_entry i entry) is

  pub IsSoundTable-with_entry : (ps : List (TableCell E)) (free : List ℕ) (room given capacity : ℕ) (i : ℕ) (s : TakenCell E) (entry : E) → slice_get ps i ≡ Some (Taken s) → IsSoundTable ps free room given capacity → IsSoundTable (set ps i (place_with (Taken s) entry)) free room given capacity
  IsSoundTable-with_entry ps free room given capacity i s entry found sound =
      record {
        table = subst IsTable (sym (shown-with_entry ps free given capacity (shown ps free given capacity) i s entry refl found)) (IsTable-with_entry (shown ps free given capacity) i entry (placed s) (placed_shown ps (shown ps free given capacity) i s refl found) sound.table);
        counted = counted-set ps i (Taken s) (Taken (record s { entry = entry })) None None found (λ rep differs. refl) refl sound.counted;
        room_to_free = let same = length-set ps i (place_with (Taken s) entry) in let fits = sound.room_to_free in omega arith;
      }

  -- the same, where the place was read
  module _ (ps : List (TableCell E)) (free : List ℕ) (given capacity : ℕ) (t : Table E) (i : ℕ) (read : TableCell E) (is : shown ps free given capacity ≡ t) (present : IsSome (place_at t i)) (value : read ≡ get_or ps i read) where
    read_slot : (s : TakenCell E) × (slice_get ps i ≡ Some (Taken s)) × (read ≡ Taken s)
    read_slot =
        let there = slot_there ps i (taken_shown ps t i (ap (λ x. x.places) is) present) in
        (there.0, there.1, value ∙ get_or_from_slice_get ps i (Taken there.0) read there.1)

    pub IsSoundTable-entry_put : (room : ℕ) (entry : E) → IsSoundTable ps free room given capacity → IsSoundTable (set ps i (place_with read entry)) free room given capacity
    IsSoundTable-entry_put room entry sound =
        let one = read_slot in
        subst (λ p. IsSoundTable (set ps i (place_with p entry)) free room given capacity) (sym one.2) (IsSoundTable-with_entry ps free room given capacity i one.0 entry one.1 sound)

    pub shown-entry_put : (entry : E) → shown (set ps i (place_with read entry)) free given capacity ≡ with_entry i entry t
    shown-entry_put entry =
        let one = read_slot in
        ap (λ p. shown (set ps i (place_with p entry)) free given capacity) one.2 ∙ shown-with_entry ps free given capacity t i one.0 entry is one.1

    pub entry_read : option_map (λ p. p.entry) (place_at t i) ≡ entry_in read
    entry_read =
        let one = read_slot in
        ap (λ o. option_map (λ p. p.entry) o) (placed_shown ps t i one.0 (ap (λ x. x.places) is) one.1) ∙ sym (ap entry_in one.2)

  -- the next free place of a table in order has no entry
  pub next_is_free : (ps : List (TableCell E)) (free : List ℕ) (given capacity : ℕ) → IsTable (shown ps free given capacity) → NextIsFree (reverse free) ps
  next_is_free ps free given capacity table = by_free (reverse free) refl
    where
      by_read : (rep : ℕ) (o : Option (TableCell E)) → slice_get ps rep ≡ o → option_map placed_in o ≡ Some None → slice_get ps rep ≡ Some Free
      by_read rep None at free = absurd (cc)
      by_read rep (Some Free) at free = at
      by_read rep (Some (Taken s)) at free = absurd (cc)

      by_free : (fs : List ℕ) → reverse free ≡ fs → NextIsFree fs ps
      by_free [] is = tt
      by_free (rep ∷ rest) is = by_read rep (slice_get ps rep) refl (sym (slice_get-map placed_in ps rep) ∙ free_head (shown ps free given capacity) rep rest is table)

  map-put_at_next : (fs : List ℕ) (s : TakenCell E) (ps : List (TableCell E)) → map placed_in (put_at_next fs (Taken s) ps) ≡ put_at_next fs (Some (placed s)) (map placed_in ps)
  map-put_at_next [] s ps = map_push placed_in ps (Taken s)
  map-put_at_next (rep ∷ rest) s ps = map-set placed_in ps rep (Taken s)

  -- an entry is put at the next place
  pub shown-pushed : (ps qs : List (TableCell E)) (free left : List ℕ) (given capacity : ℕ) (t : Table E) (entry : E) → shown ps free given capacity ≡ t → qs ≡ put_at_next (reverse free) (Taken (record { serial = given; parent = None; children = 0; entry = entry })) ps → reverse left ≡ drop 1 (reverse free) → shown qs left (given + 1) capacity ≡ pushed entry t
  unfolding pushed
  shown-pushed ps qs free left given capacity t entry is places rest =
      ap (λ xs. record { places = map placed_in xs; free = reverse left; given = given + 1; capacity = capacity }) places
      ∙ ap (λ xs. record { places = xs; free = reverse left; given = given + 1; capacity = capacity }) (map-put_at_next (reverse free) (record { serial = given; parent = None; children = 0; entry = entry }) ps)
      ∙ ap (λ xs. record { places = put_at_next (reverse free) (Some (record { serial = given; parent = None; entry = entry })) (map placed_in ps); free = xs; given = given + 1; capacity = capacity }) rest
      ∙ ap (pushed entry) is

  pub IsSoundTable-pushed : (ps qs : List (TableCell E)) (free left : List ℕ) (room more given capacity : ℕ) (entry : E) → IsSoundTable ps free room given capacity → is_full (shown ps free given capacity) ≡ false → qs ≡ put_at_next (reverse free) (Taken (record { serial = given; parent = None; children = 0; entry = entry })) ps → reverse left ≡ drop 1 (reverse free) → room ≤ more → (free ≡ [] → length ps < more) → IsSoundTable qs left more (given + 1) capacity
  IsSoundTable-pushed ps qs free left room more given capacity entry sound full places rest kept made =
      record {
        table = subst IsTable (sym (shown-pushed ps qs free left given capacity (shown ps free given capacity) entry refl places rest)) (IsTable-pushed (shown ps free given capacity) sound.table entry full);
        counted = subst IsCounted (sym places) (counted_next (reverse free) (next_is_free ps free given capacity sound.table));
        room_to_free = subst (λ xs. length xs ≤ more) (sym places) (fits (reverse free) refl);
      }
    where
      slot : TakenCell E
      slot = record { serial = given; parent = None; children = 0; entry = entry }

      counted_next : (fs : List ℕ) → NextIsFree fs ps → IsCounted (put_at_next fs (Taken slot) ps)
      counted_next [] next = counted-push ps (Taken slot) refl (λ rep. refl) sound.counted
      counted_next (rep ∷ rest) next = counted-fill ps rep slot next refl refl sound.counted

      fits : (fs : List ℕ) → reverse free ≡ fs → length (put_at_next fs (Taken slot) ps) ≤ more
      fits [] is = let longer = length_push ps (Taken slot) in let below = made (nil_from_reverse free is) in omega arith
      fits (rep ∷ rest) is = let same = length-set ps rep (Taken slot) in let before = sound.room_to_free in omega arith

  -- the parent that the table shows is the slot's
  pub parent_of_slot : (ps : List (TableCell E)) (t : Table E) (i : ℕ) (p : Placed E) → map placed_in ps ≡ t.places → place_at t i ≡ Some p → option_map (λ s. s.parent) (slot_at ps i) ≡ Some p.parent
  parent_of_slot ps t i p is at =
      parent_shown ps i ∙ ap (λ vs. option_map (λ q. q.parent) (standing (slice_get vs i))) is ∙ ap (λ o. option_map (λ q. q.parent) o) at

  -- and so is the entry
  pub entry_of_slot : (ps : List (TableCell E)) (t : Table E) (i : ℕ) (p : Placed E) (s : TakenCell E) → map placed_in ps ≡ t.places → place_at t i ≡ Some p → slot_at ps i ≡ Some s → s.entry ≡ p.entry
  entry_of_slot ps t i p s is at slot =
      ap (λ q. q.entry) (same_Some (placed s) p (sym (placed_shown ps t i s is (taken_at_slot ps i s slot)) ∙ at))

  -- the slot counts the children that the table shows
  pub children_of_slot : (ps : List (TableCell E)) (t : Table E) (i : ℕ) → map placed_in ps ≡ t.places → IsSome (place_at t i) → IsCounted ps → option_map (λ s. s.children) (slot_at ps i) ≡ Some (children_of t i)
  children_of_slot ps t i is present counted =
      let there = slot_there ps i (taken_shown ps t i is present) in
      let at = slot_at_taken ps i there.0 there.1 in
      let count : there.0.children ≡ children_of t i + 0 = sym (ap slot_children at) ∙ counted i ∙ ap (λ vs. count_by (is_child_of i) vs + 0) is in
      ap (λ o. option_map (λ s. s.children) o) at ∙ ap Some (count ∙ add-zero _)

  pub shown-with_parent : (ps qs : List (TableCell E)) (free : List ℕ) (given capacity : ℕ) (t : Table E) (rep : ℕ) (parent : Option ℕ) → shown ps free given capacity ≡ t → map placed_in qs ≡ with_parent_at rep parent (map placed_in ps) → shown qs free given capacity ≡ with_parent rep parent t
  unfolding with_parent
  shown-with_parent ps qs free given capacity t rep parent is places =
      ap (λ vs. record (shown ps free given capacity) { places = vs }) places ∙ ap (with_parent rep parent) is

  pub IsSoundTable-with_parent : (ps qs : List (TableCell E)) (free : List ℕ) (room given capacity : ℕ) (t : Table E) (rep : ℕ) (parent : Option ℕ) → shown ps free given capacity ≡ t → map placed_in qs ≡ with_parent_at rep parent (map placed_in ps) → IsCounted qs → IsSome (place_at t rep) → ((r : ℕ) → parent ≡ Some r → IsSome (place_at t r)) → IsSoundTable ps free room given capacity → IsSoundTable qs free room given capacity
  IsSoundTable-with_parent ps qs free room given capacity t rep parent is places counted present is_there sound =
      let one = some_of (place_at t rep) present in
      record {
        table = subst IsTable (sym (shown-with_parent ps qs free given capacity t rep parent is places)) (IsTable-with_parent t rep parent one.0 one.1 is_there (subst IsTable is sound.table));
        counted = counted;
        room_to_free =
            let same : length qs ≡ length ps = sym (length-map qs placed_in) ∙ ap length places ∙ length-set (map placed_in ps) rep _ ∙ length-map ps placed_in in
            let fits = sound.room_to_free in
            omega arith;
      }

  pub shown-deleted : (ps qs : List (TableCell E)) (free left : List ℕ) (given capacity : ℕ) (t : Table E) (rep : ℕ) → shown ps free given capacity ≡ t → map placed_in qs ≡ set (map placed_in ps) rep None → left ≡ free ++ rep ∷ [] → shown qs left given capacity ≡ deleted rep t
  unfolding deleted
  shown-deleted ps qs free left given capacity t rep is places freed =
      ap (λ vs. record { places = vs; free = reverse left; given = given; capacity = capacity }) places
      ∙ ap (λ ns. record { places = set (map placed_in ps) rep None; free = ns; given = given; capacity = capacity }) (ap reverse freed ∙ reverse-append free (rep ∷ []))
      ∙ ap (deleted rep) is

  pub IsSoundTable-deleted : (ps qs : List (TableCell E)) (free left : List ℕ) (room more given capacity : ℕ) (t : Table E) (rep : ℕ) (p : Placed E) → shown ps free given capacity ≡ t → map placed_in qs ≡ set (map placed_in ps) rep None → left ≡ free ++ rep ∷ [] → IsCounted qs → place_at t rep ≡ Some p → children_of t rep ≡ 0 → more ≡ room → IsSoundTable ps free room given capacity → IsSoundTable qs left more given capacity
  IsSoundTable-deleted ps qs free left room more given capacity t rep p is places freed counted at childless kept sound =
      record {
        table = subst IsTable (sym (shown-deleted ps qs free left given capacity t rep is places freed)) (IsTable-deleted t rep p at childless (subst IsTable is sound.table));
        counted = counted;
        room_to_free =
            let same : length qs ≡ length ps = sym (length-map qs placed_in) ∙ ap length places ∙ length-set (map placed_in ps) rep None ∙ length-map ps placed_in in
            let fits = sound.room_to_free in
            omega arith;
      }

  -- the free list has room for a taken place
  pub room_for_freed : (ps : List (TableCell E)) (free : List ℕ) (room given capacity : ℕ) (t : Table E) (rep : ℕ) (p : Placed E) → shown ps free given capacity ≡ t → place_at t rep ≡ Some p → IsSoundTable ps free room given capacity → length free < room
  room_for_freed ps free room given capacity t rep p is at sound =
      let fewer = free_fewer t rep p at (subst IsTable is sound.table) in
      let freed : length t.free ≡ length free = sym (ap (λ x. length x.free) is) ∙ length-reverse free in
      let made : length t.places ≡ length ps = sym (ap (λ x. length x.places) is) ∙ length-map ps placed_in in
      let fits = sound.room_to_free in
      omega arith

  -- the place that is filled next is the table's next place
  pub next_shown : (ps : List (TableCell E)) (free : List ℕ) (given capacity : ℕ) (t : Table E) → shown ps free given capacity ≡ t → next_of (reverse free) (length ps) ≡ next_place t
  next_shown ps free given capacity t is = ap (λ n. next_of (reverse free) n) (sym (length-map ps placed_in)) ∙ ap next_place is
