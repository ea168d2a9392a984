-- What an id finds after each change of a table, and how the counts change.
use Rattle.std.proofs.Common.{◌≡◌, ℕ, ◌+◌, ◌-◌, ◌<◌, ◌≤◌, ◌^◌, ◌==◌, ◌&&◌, inl, inr, Bool, true, false, cond, nat_le, List, [], ◌∷◌, length, map, set, slice_get, count_by, option_map, Option, Some, None, is_some, refl, sym, ap, subst, ◌∙◌, arith}
use Rattle.std.proofs.lemmas.Bool.{cases_eq, eq-eqb, ne_eqb, eqb-true, eqb-false, lt-leb, or_from, and_left, and_right, and_from, and_parts, false_from_ne_true}
use Rattle.std.proofs.lemmas.List.{map-set, map_push}
use Rattle.std.proofs.lemmas.List.Sums.{sum_by-cons, count_by-le-length}
use Rattle.std.proofs.lemmas.Option.{slice_get_within, slice_get_past, slice_get-map}
use Rattle.task_table.specs.Table.{Table, Placed, IsTable, place_at, standing, found, of_serial, is_child_of, is_number, children_of, is_nil, is_full, table_len, free_count}
use Rattle.task_table.specs.Entries.{entries, entries_from}
use Rattle.task_table.specs.Changes.{pushed, put_at_next, next_place, next_of, deleted, with_entry, entry_put, with_parent, parent_put, with_capacity, Adds, Removes}
use Rattle.task_table.proofs.ReadLemmas.{slice_get-set_same, slice_get-set_other, slice_get-push_same, slice_get-push_other, set-slice_get, set-none, count_by-set, count_by-push}
use Rattle.task_table.proofs.TableLemmas.{one_if, place_at_there, there_place_at, found_at, free_head}

module _ {E : Type 0} where
  -- an iterator gives each entry once
  pub length-entries_from : (rep : ℕ) (places : List (Option (Placed E))) → length (entries_from rep places) ≡ count_by is_some places
  length-entries_from rep [] = refl
  length-entries_from rep (None ∷ rest) = omega (arith, length-entries_from (rep + 1) rest, sum_by-cons (λ o. one_if (is_some o)) None rest)
  length-entries_from rep (Some p ∷ rest) = omega (arith, length-entries_from (rep + 1) rest, sum_by-cons (λ o. one_if (is_some o)) (Some p) rest)

  pub length-entries : (t : Table E) → length (entries t) ≡ table_len t
  length-entries t = length-entries_from 0 t.places

  pub entries_few : (t : Table E) → IsTable t → length (entries t) ≤ 4294967295
  entries_few t table = omega (arith, length-entries t, table.places_fit, count_by-le-length is_some t.places)

  -- what a write of one place makes of a read
  read_same : (places : List (Option (Placed E))) (rep : ℕ) (p q : Option (Placed E)) → slice_get places rep ≡ Some q → standing (slice_get (set places rep p) rep) ≡ p
  read_same places rep p q there = ap standing (slice_get-set_same places rep p (slice_get_within places rep q there))

  read_other : (places : List (Option (Placed E))) (rep r : ℕ) (p : Option (Placed E)) → (r ≡ rep → ⊥) → standing (slice_get (set places rep p) r) ≡ standing (slice_get places r)
  read_other places rep r p other = ap standing (slice_get-set_other places rep r p other)

  -- the place that the next push gives has no entry
  pub next_place_free : (t : Table E) → IsTable t → place_at t (next_place t) ≡ None
  next_place_free t table = by_free t.free refl
    where
      by_free : (free : List ℕ) → t.free ≡ free → place_at t (next_place t) ≡ None
      by_free [] is = ap (λ fs. place_at t (next_of fs (length t.places))) is ∙ ap standing (slice_get_past t.places (length t.places) (omega arith))
      by_free (rep ∷ rest) is = ap (λ fs. place_at t (next_of fs (length t.places))) is ∙ there_place_at t rep None (free_head t rep rest is table)

  -- what is at a place after a push
  pub place_at-pushed : (t : Table E) (entry : E) (r : ℕ) → IsTable t → place_at (pushed entry t) r ≡ (cond (r == next_place t) (Some (record { serial = t.given; parent = None; entry = entry })) (place_at t r))
  unfolding pushed
  place_at-pushed t entry r table = by_free t.free refl
    where
      new : Placed E
      new = record { serial = t.given; parent = None; entry = entry }

      at : List ℕ → Type 0
      at fs = standing (slice_get (put_at_next fs (Some new) t.places) r) ≡ cond (r == next_of fs (length t.places)) (Some new) (place_at t r)

      appended : at []
      appended = elim (cases_eq r (length t.places)) [
        | inl here ↦ ap standing (slice_get-push_same t.places r (Some new) here) ∙ sym (ap (λ b. cond b (Some new) (place_at t r)) (eq-eqb r (length t.places) here))
        | inr other ↦ ap standing (slice_get-push_other t.places r (Some new) other) ∙ sym (ap (λ b. cond b (Some new) (place_at t r)) (ne_eqb r (length t.places) other))
      ]

      filled : (rep : ℕ) (rest : List ℕ) → t.free ≡ rep ∷ rest → at (rep ∷ rest)
      filled rep rest is = elim (cases_eq r rep) [
        | inl here ↦ ap (λ x. standing (slice_get (set t.places rep (Some new)) x)) here ∙ read_same t.places rep (Some new) None (free_head t rep rest is table) ∙ sym (ap (λ b. cond b (Some new) (place_at t r)) (eq-eqb r rep here))
        | inr other ↦ read_other t.places rep r (Some new) other ∙ sym (ap (λ b. cond b (Some new) (place_at t r)) (ne_eqb r rep other))
      ]

      by_free : (free : List ℕ) → t.free ≡ free → at t.free
      by_free [] is = subst at (sym is) appended
      by_free (rep ∷ rest) is = subst at (sym is) (filled rep rest is)

  -- what is at a place after a deletion
  pub place_at-deleted : (t : Table E) (rep r : ℕ) → place_at (deleted rep t) r ≡ (cond (r == rep) None (place_at t r))
  unfolding deleted
  place_at-deleted t rep r = elim (cases_eq r rep) [
    | inl here ↦ ap (λ x. standing (slice_get (set t.places rep None) x)) here ∙ gone (slice_get t.places rep) refl ∙ sym (ap (λ b. cond b None (place_at t r)) (eq-eqb r rep here))
    | inr other ↦ read_other t.places rep r None other ∙ sym (ap (λ b. cond b None (place_at t r)) (ne_eqb r rep other))
  ]
    where
      gone : (o : Option (Option (Placed E))) → slice_get t.places rep ≡ o → standing (slice_get (set t.places rep None) rep) ≡ None
      gone None is = ap (λ ps. standing (slice_get ps rep)) (set-none t.places rep None is) ∙ ap standing is
      gone (Some p) is = read_same t.places rep None p is

  -- what is at a place after a write at one
  written : (t : Table E) (rep r : ℕ) (f : Option (Placed E) → Option (Placed E)) → f None ≡ None → standing (slice_get (set t.places rep (f (place_at t rep))) r) ≡ (cond (r == rep) (f (place_at t r)) (place_at t r))
  written t rep r f nothing = elim (cases_eq r rep) [
    | inl here ↦
        ap (λ x. standing (slice_get (set t.places rep (f (place_at t rep))) x)) here ∙ kept (slice_get t.places rep) refl
        ∙ sym (ap (λ x. f (place_at t x)) here) ∙ sym (ap (λ b. cond b (f (place_at t r)) (place_at t r)) (eq-eqb r rep here))
    | inr other ↦ read_other t.places rep r (f (place_at t rep)) other ∙ sym (ap (λ b. cond b (f (place_at t r)) (place_at t r)) (ne_eqb r rep other))
  ]
    where
      kept : (o : Option (Option (Placed E))) → slice_get t.places rep ≡ o → standing (slice_get (set t.places rep (f (place_at t rep))) rep) ≡ f (place_at t rep)
      kept None is = ap (λ ps. standing (slice_get ps rep)) (set-none t.places rep (f (place_at t rep)) is) ∙ ap standing is ∙ sym (ap (λ o. f (standing o)) is ∙ nothing)
      kept (Some p) is = read_same t.places rep (f (place_at t rep)) p is

  pub place_at-with_entry : (t : Table E) (rep r : ℕ) (entry : E) → place_at (with_entry rep entry t) r ≡ (cond (r == rep) (entry_put entry (place_at t r)) (place_at t r))
  unfolding with_entry
  place_at-with_entry t rep r entry = written t rep r (entry_put entry) refl

  pub place_at-with_parent : (t : Table E) (rep r : ℕ) (parent : Option ℕ) → place_at (with_parent rep parent t) r ≡ (cond (r == rep) (parent_put parent (place_at t r)) (place_at t r))
  unfolding with_parent
  place_at-with_parent t rep r parent = written t rep r (parent_put parent) refl

  -- the new id finds the new entry, and every other id finds what it found
  pub found-pushed : (t : Table E) (entry : E) (r serial : ℕ) → IsTable t → found (pushed entry t) r serial ≡ (cond ((r == next_place t) && (serial == t.given)) (Some (record { serial = t.given; parent = None; entry = entry })) (found t r serial))
  unfolding found
  found-pushed t entry r serial table = ap (of_serial serial) (place_at-pushed t entry r table) ∙ by_place (r == next_place t) refl
    where
      new : Placed E
      new = record { serial = t.given; parent = None; entry = entry }

      by_serial : (b : Bool) → (t.given == serial) ≡ b → place_at t r ≡ None → cond b (Some new) None ≡ cond (serial == t.given) (Some new) (of_serial serial (place_at t r))
      by_serial true same free = sym (ap (λ b. cond b (Some new) (of_serial serial (place_at t r))) (eq-eqb serial t.given (sym (eqb-true t.given serial same))))
      by_serial false differs free =
          sym (ap (λ b. cond b (Some new) (of_serial serial (place_at t r))) (ne_eqb serial t.given (λ same. eqb-false t.given serial differs (sym same))) ∙ ap (of_serial serial) free)

      by_place : (b : Bool) → (r == next_place t) ≡ b → of_serial serial (cond b (Some new) (place_at t r)) ≡ cond (b && (serial == t.given)) (Some new) (of_serial serial (place_at t r))
      by_place true same = by_serial (t.given == serial) refl (ap (place_at t) (eqb-true r (next_place t) same) ∙ next_place_free t table)
      by_place false differs = refl

  -- no id finds an entry at a place that was deleted, and every other id finds what it found
  pub found-deleted : (t : Table E) (rep r serial : ℕ) → found (deleted rep t) r serial ≡ (cond (r == rep) None (found t r serial))
  unfolding found
  found-deleted t rep r serial = ap (of_serial serial) (place_at-deleted t rep r) ∙ by_place (r == rep)
    where
      by_place : (b : Bool) → of_serial serial (cond b None (place_at t r)) ≡ cond b None (of_serial serial (place_at t r))
      by_place true = refl
      by_place false = refl

  of_serial-put : (serial : ℕ) (f : Option (Placed E) → Option (Placed E)) → f None ≡ None → ((p : Placed E) → (q : Placed E) × (f (Some p) ≡ Some q) × (q.serial ≡ p.serial)) → (o : Option (Placed E)) → of_serial serial (f o) ≡ f (of_serial serial o)
  of_serial-put serial f nothing same None = ap (of_serial serial) nothing ∙ sym nothing
  of_serial-put serial f nothing same (Some p) =
      let one = same p in
      ap (of_serial serial) one.1 ∙ ap (λ n. cond (n == serial) (Some one.0) None) one.2 ∙ by_test (p.serial == serial)
    where
      by_test : (b : Bool) → cond b (Some (same p).0) None ≡ f (cond b (Some p) None)
      by_test true = sym (same p).1
      by_test false = sym nothing

  -- an id whose entry was written finds the new entry, and every other id finds what it found
  pub found-with_entry : (t : Table E) (rep r serial : ℕ) (entry : E) → found (with_entry rep entry t) r serial ≡ (cond (r == rep) (entry_put entry (found t r serial)) (found t r serial))
  unfolding found
  found-with_entry t rep r serial entry = ap (of_serial serial) (place_at-with_entry t rep r entry) ∙ by_place (r == rep)
    where
      by_place : (b : Bool) → of_serial serial (cond b (entry_put entry (place_at t r)) (place_at t r)) ≡ cond b (entry_put entry (of_serial serial (place_at t r))) (of_serial serial (place_at t r))
      by_place true = of_serial-put serial (entry_put entry) refl (λ p. (record p { entry = entry }, refl, refl)) (place_at t r)
      by_place false = refl

  pub found-with_parent : (t : Table E) (rep r serial : ℕ) (parent : Option ℕ) → found (with_parent rep parent t) r serial ≡ (cond (r == rep) (parent_put parent (found t r serial)) (found t r serial))
  unfolding found
  found-with_parent t rep r serial parent = ap (of_serial serial) (place_at-with_parent t rep r parent) ∙ by_place (r == rep)
    where
      by_place : (b : Bool) → of_serial serial (cond b (parent_put parent (place_at t r)) (place_at t r)) ≡ cond b (parent_put parent (of_serial serial (place_at t r))) (of_serial serial (place_at t r))
      by_place true = of_serial-put serial (parent_put parent) refl (λ p. (record p { parent = parent }, refl, refl)) (place_at t r)
      by_place false = refl

  pub found-with_capacity : (t : Table E) (n r serial : ℕ) → found (with_capacity n t) r serial ≡ found t r serial
  unfolding found with_capacity
  found-with_capacity t n r serial = refl

  -- an id with a serial that was not given finds nothing
  pub found_given : (t : Table E) (r serial : ℕ) (p : Placed E) → IsTable t → found t r serial ≡ Some p → serial < t.given
  found_given t r serial p table is =
      let at = found_at t r serial p is in
      let given = table.serials r p at.0 in
      let same = at.1 in
      omega arith

  -- a push is allowed where places and serials are left
  pub not_full : (t : Table E) → 0 < free_count t → t.given < 2 ^ 64 - 1 → is_full t ≡ false
  not_full t left serials = by_free t.free refl
    where
      serial_test : nat_le (2 ^ 64 - 1) t.given ≡ false
      serial_test = lt-leb (2 ^ 64 - 1) t.given serials

      by_free : (free : List ℕ) → t.free ≡ free → is_full t ≡ false
      by_free [] is =
          let none : length t.free ≡ 0 = ap length is in
          let fewer : length t.places < t.capacity = omega arith in
          or_from _ _ (and_right (is_nil t.free) (nat_le t.capacity (length t.places)) (lt-leb t.capacity (length t.places) fewer)) serial_test
      by_free (rep ∷ rest) is = or_from _ _ (and_left (is_nil t.free) (nat_le t.capacity (length t.places)) (ap is_nil is)) serial_test

  -- how many of the entries pass a test, after each change
  module _ (test : Option (Placed E) → Bool) (none_fails : test None ≡ false) where
    pub count_by-pushed : (t : Table E) (entry : E) → IsTable t → count_by test (pushed entry t).places ≡ count_by test t.places + one_if (test (Some (record { serial = t.given; parent = None; entry = entry })))
    unfolding pushed
    count_by-pushed t entry table = by_free t.free refl
      where
        new : Placed E
        new = record { serial = t.given; parent = None; entry = entry }

        by_free : (free : List ℕ) → t.free ≡ free → count_by test (put_at_next t.free (Some new) t.places) ≡ count_by test t.places + one_if (test (Some new))
        by_free [] is = ap (λ fs. count_by test (put_at_next fs (Some new) t.places)) is ∙ count_by-push test t.places (Some new)
        by_free (rep ∷ rest) is =
            let written = count_by-set test t.places rep None (Some new) (free_head t rep rest is table) in
            let zero_before : one_if (test None) ≡ 0 = ap one_if none_fails in
            let at : count_by test (put_at_next t.free (Some new) t.places) ≡ count_by test (set t.places rep (Some new)) = ap (λ fs. count_by test (put_at_next fs (Some new) t.places)) is in
            omega arith

    pub count_by-deleted : (t : Table E) (rep : ℕ) (p : Placed E) → place_at t rep ≡ Some p → count_by test (deleted rep t).places + one_if (test (Some p)) ≡ count_by test t.places
    unfolding deleted
    count_by-deleted t rep p at =
        let written = count_by-set test t.places rep (Some p) None (place_at_there t rep p at) in
        let zero_after : one_if (test None) ≡ 0 = ap one_if none_fails in
        omega arith

    pub count_by-with_entry : (t : Table E) (rep : ℕ) (entry : E) (p : Placed E) → place_at t rep ≡ Some p → count_by test (with_entry rep entry t).places + one_if (test (Some p)) ≡ count_by test t.places + one_if (test (Some (record p { entry = entry })))
    unfolding with_entry
    count_by-with_entry t rep entry p at =
        let written = count_by-set test t.places rep (Some p) (Some (record p { entry = entry })) (place_at_there t rep p at) in
        let same : count_by test (set t.places rep (entry_put entry (place_at t rep))) ≡ count_by test (set t.places rep (Some (record p { entry = entry }))) = ap (λ o. count_by test (set t.places rep (entry_put entry o))) at in
        omega arith

    pub count_by-with_parent : (t : Table E) (rep : ℕ) (parent : Option ℕ) (p : Placed E) → place_at t rep ≡ Some p → count_by test (with_parent rep parent t).places + one_if (test (Some p)) ≡ count_by test t.places + one_if (test (Some (record p { parent = parent })))
    unfolding with_parent
    count_by-with_parent t rep parent p at =
        let written = count_by-set test t.places rep (Some p) (Some (record p { parent = parent })) (place_at_there t rep p at) in
        let same : count_by test (set t.places rep (parent_put parent (place_at t rep))) ≡ count_by test (set t.places rep (Some (record p { parent = parent }))) = ap (λ o. count_by test (set t.places rep (parent_put parent o))) at in
        omega arith

  -- how many children a place has after each change
  pub children_of-pushed : (t : Table E) (entry : E) (r : ℕ) → IsTable t → children_of (pushed entry t) r ≡ children_of t r
  children_of-pushed t entry r table = let count = count_by-pushed (is_child_of r) refl t entry table in omega arith

  pub children_of-deleted : (t : Table E) (rep r : ℕ) (p : Placed E) → place_at t rep ≡ Some p → children_of (deleted rep t) r + one_if (is_number r p.parent) ≡ children_of t r
  children_of-deleted t rep r p at = count_by-deleted (is_child_of r) refl t rep p at

  pub children_of-with_entry : (t : Table E) (rep r : ℕ) (entry : E) (p : Placed E) → place_at t rep ≡ Some p → children_of (with_entry rep entry t) r ≡ children_of t r
  children_of-with_entry t rep r entry p at = let count = count_by-with_entry (is_child_of r) refl t rep entry p at in omega arith

  -- a push is an addition to the finite map from ids to entries
  pub Adds-pushed : (t new : Table E) (rep serial : ℕ) (entry : E) → IsTable t → new ≡ pushed entry t → rep ≡ next_place t → serial ≡ t.given → Adds t new rep serial entry
  Adds-pushed t new rep serial entry table is place given =
      record {
        fresh = nothing (found t rep serial) refl;
        added = ap (λ x. found x rep serial) is ∙ found-pushed t entry rep serial table ∙ ap (λ b. cond b (Some (record { serial = t.given; parent = None; entry = entry })) (found t rep serial)) (and_from _ _ (eq-eqb rep (next_place t) place) (eq-eqb serial t.given given)) ∙ ap (λ n. Some (record { serial = n; parent = None; entry = entry })) (sym given);
        others = λ r s differs. ap (λ x. found x r s) is ∙ found-pushed t entry r s table ∙ ap (λ b. cond b (Some (record { serial = t.given; parent = None; entry = entry })) (found t r s)) (false_from_ne_true _ (λ both. let parts = and_parts _ _ both in differs (eqb-true r (next_place t) parts.0 ∙ sym place, eqb-true s t.given parts.1 ∙ sym given)));
      }
    where
      nothing : (o : Option (Placed E)) → found t rep serial ≡ o → found t rep serial ≡ None
      nothing None at = at
      nothing (Some p) at = absurd (let before = found_given t rep serial p table at in omega arith)

  -- a deletion is a removal from it
  pub Removes-deleted : (t new : Table E) (rep : ℕ) → new ≡ deleted rep t → Removes t new rep
  Removes-deleted t new rep is =
      record {
        gone = λ s. ap (λ x. found x rep s) is ∙ found-deleted t rep rep s ∙ ap (λ b. cond b None (found t rep s)) (eq-eqb rep rep refl);
        others = λ r s differs. ap (λ x. found x r s) is ∙ found-deleted t rep r s ∙ ap (λ b. cond b None (found t r s)) (ne_eqb r rep differs);
      }

  -- what a list made of the places becomes, as the records of a kind that are there
  module _ {X : Type 0} (f : Option (Placed E) → X) where
    pub map-pushed : (t : Table E) (entry : E) → map f (pushed entry t).places ≡ put_at_next t.free (f (Some (record { serial = t.given; parent = None; entry = entry }))) (map f t.places)
    unfolding pushed
    map-pushed t entry = by_free t.free
      where
        by_free : (free : List ℕ) → map f (put_at_next free (Some (record { serial = t.given; parent = None; entry = entry })) t.places) ≡ put_at_next free (f (Some (record { serial = t.given; parent = None; entry = entry }))) (map f t.places)
        by_free [] = map_push f t.places (Some (record { serial = t.given; parent = None; entry = entry }))
        by_free (rep ∷ rest) = map-set f t.places rep (Some (record { serial = t.given; parent = None; entry = entry }))

    pub map-deleted : (t : Table E) (rep : ℕ) → map f (deleted rep t).places ≡ set (map f t.places) rep (f None)
    unfolding deleted
    map-deleted t rep = map-set f t.places rep None

    pub map-with_entry : (t : Table E) (rep : ℕ) (entry : E) → map f (with_entry rep entry t).places ≡ set (map f t.places) rep (f (entry_put entry (place_at t rep)))
    unfolding with_entry
    map-with_entry t rep entry = map-set f t.places rep (entry_put entry (place_at t rep))

    -- a parent is not seen by what does not look at it
    pub map-with_parent : (t : Table E) (rep : ℕ) (parent : Option ℕ) → ((p : Placed E) → f (Some (record p { parent = parent })) ≡ f (Some p)) → map f (with_parent rep parent t).places ≡ map f t.places
    unfolding with_parent
    map-with_parent t rep parent blind = map-set f t.places rep (parent_put parent (place_at t rep)) ∙ by_read (slice_get t.places rep) refl
      where
        by_read : (o : Option (Option (Placed E))) → slice_get t.places rep ≡ o → set (map f t.places) rep (f (parent_put parent (place_at t rep))) ≡ map f t.places
        by_read None is = set-none (map f t.places) rep _ (slice_get-map f t.places rep ∙ ap (λ o. option_map f o) is)
        by_read (Some None) is = ap (λ o. set (map f t.places) rep (f (parent_put parent (standing o)))) is ∙ set-slice_get (map f t.places) rep (f None) (slice_get-map f t.places rep ∙ ap (λ o. option_map f o) is)
        by_read (Some (Some p)) is =
            ap (λ o. set (map f t.places) rep (f (parent_put parent (standing o)))) is ∙ ap (set (map f t.places) rep) (blind p)
            ∙ set-slice_get (map f t.places) rep (f (Some p)) (slice_get-map f t.places rep ∙ ap (λ o. option_map f o) is)
