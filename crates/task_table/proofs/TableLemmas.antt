-- Laws of a table and its changes, for this crate and its callers.
use Rattle.std.proofs.Common.{◌≡◌, ℕ, suc, ◌+◌, ◌-◌, ◌<◌, ◌≤◌, ◌^◌, ◌==◌, ◌&&◌, ◌⊎◌, inl, inr, Bool, true, false, cond, nat_le, List, [], ◌∷◌, ◌++◌, drop, length, set, slice_get, count_by, Option, Some, None, is_some, IsSome, refl, sym, ap, subst, ◌∙◌, arith, length-set, option_map, Result, Ok, Err, ok_or}
use Rattle.std.specs.Result.{result_ok}
use Rattle.std.proofs.lemmas.Bool.{cases_eq, eq-eqb, ne_eqb, or_parts, and_cases, leb-false, eqb-true}
use Rattle.std.proofs.lemmas.List.{length_push}
use Rattle.std.proofs.lemmas.List.Sums.{sum_by-cons}
use Rattle.std.proofs.lemmas.Option.{slice_get_within, same_Some}
use Rattle.task_table.specs.Table.{Table, Placed, IsTable, place_at, standing, found, of_serial, is_child_of, is_number, children_of, is_free, is_nil, is_full}
use Rattle.task_table.specs.declared.error.ResourceTableError.TheVariants.{WrongType}
use Rattle.task_table.specs.TableAnswers.{item_in, item_at, pair_refusal, deletion, unless_children}
use Rattle.task_table.specs.Kind.{unwrapped, or_entry}
use Rattle.task_table.specs.Changes.{pushed, put_at_next, deleted, with_entry, with_entry_at, entry_put, with_parent, parent_put}
use Rattle.task_table.proofs.ReadLemmas.{slice_get-set_same, slice_get-set_other, slice_get-push_same, slice_get-push_other, set-slice_get, count_by-set, count_by-push, count_by-found}

abbrev pub one_if : Bool → ℕ
one_if b = cond b 1 0

module _ {E : Type 0} where
  -- the entry at a place, by what is there
  pub place_at_there : (t : Table E) (rep : ℕ) (p : Placed E) → place_at t rep ≡ Some p → slice_get t.places rep ≡ Some (Some p)
  place_at_there t rep p at = by_read (slice_get t.places rep) refl at
    where
      by_read : (o : Option (Option (Placed E))) → slice_get t.places rep ≡ o → standing o ≡ Some p → slice_get t.places rep ≡ Some (Some p)
      by_read None is some = absurd (cc)
      by_read (Some None) is some = absurd (cc)
      by_read (Some (Some q)) is some = is ∙ ap (λ x. Some (Some x)) (same_Some q p some)

  -- and back
  pub there_place_at : (t : Table E) (rep : ℕ) (o : Option (Placed E)) → slice_get t.places rep ≡ Some o → place_at t rep ≡ o
  there_place_at t rep o there = ap standing there

  -- an id that is found names the entry at its place, and has its serial
  pub found_at : (t : Table E) (rep serial : ℕ) (p : Placed E) → found t rep serial ≡ Some p → (place_at t rep ≡ Some p) × (p.serial ≡ serial)
  unfolding found
  found_at t rep serial p is = by_place (place_at t rep) refl is
    where
      by_test : (q : Placed E) (b : Bool) → (q.serial == serial) ≡ b → place_at t rep ≡ Some q → cond b (Some q) None ≡ Some p → (place_at t rep ≡ Some p) × (p.serial ≡ serial)
      by_test q true same at some = (at ∙ some, let e = same_Some q p some in ap (λ x. x.serial) (sym e) ∙ eqb-true q.serial serial same)
      by_test q false same at some = absurd (cc)

      by_place : (o : Option (Placed E)) → place_at t rep ≡ o → of_serial serial o ≡ Some p → (place_at t rep ≡ Some p) × (p.serial ≡ serial)
      by_place None at some = absurd (cc)
      by_place (Some q) at some = by_test q (q.serial == serial) refl at some

  -- an entry is found under its serial
  pub found_here : (t : Table E) (rep : ℕ) (p : Placed E) → place_at t rep ≡ Some p → found t rep p.serial ≡ Some p
  unfolding found
  found_here t rep p at = ap (of_serial p.serial) at ∙ ap (λ b. cond b (Some p) None) (eq-eqb p.serial p.serial refl)

  -- a place whose entry is written under the same serial
  IsTable-rewritten : (t : Table E) (rep : ℕ) (p q : Placed E) → slice_get t.places rep ≡ Some (Some p) → q.serial ≡ p.serial → ((r : ℕ) → place_at t r ≡ None → one_if (is_child_of r (Some q)) ≡ 0) → IsTable t → IsTable (record t { places = set t.places rep (Some q) })
  IsTable-rewritten t rep p q there serial present table =
      record {
        places_fit = let same = length-set t.places rep (Some q) in let fit = table.places_fit in omega arith;
        capacity_fits = table.capacity_fits;
        free_once = λ r. table.free_once r ∙ ap one_if (sym (free_same r));
        free_or_taken = let same = length-set t.places rep (Some q) in let total = table.free_or_taken in let count = count_by-set is_some t.places rep (Some p) (Some q) there in omega arith;
        serials = λ r s at. elim (cases_eq r rep) [
          | inl here ↦
              let is = same_Some q s (sym (at_same r here) ∙ at) in
              let given = table.serials rep p (there_place_at t rep (Some p) there) in
              let same : s.serial ≡ p.serial = ap (λ x. x.serial) (sym is) ∙ serial in
              omega arith
          | inr other ↦ table.serials r s (sym (at_other r other) ∙ at)
        ];
        parents = λ r none. elim (cases_eq r rep) [
          | inl here ↦ absurd (let e = sym (at_same r here) ∙ none in cc)
          | inr other ↦
              let before = sym (at_other r other) ∙ none in
              let count = count_by-set (is_child_of r) t.places rep (Some p) (Some q) there in
              let zero_before = table.parents r before in
              let no_more = present r before in
              omega arith
        ];
      }
    where
      at_same : (r : ℕ) → r ≡ rep → standing (slice_get (set t.places rep (Some q)) r) ≡ Some q
      at_same r here = ap (λ x. standing (slice_get (set t.places rep (Some q)) x)) here ∙ ap standing (slice_get-set_same t.places rep (Some q) (slice_get_within t.places rep (Some p) there))

      at_other : (r : ℕ) → (r ≡ rep → ⊥) → standing (slice_get (set t.places rep (Some q)) r) ≡ place_at t r
      at_other r other = ap standing (slice_get-set_other t.places rep r (Some q) other)

      free_same : (r : ℕ) → is_free (slice_get (set t.places rep (Some q)) r) ≡ is_free (slice_get t.places r)
      free_same r = elim (cases_eq r rep) [
        | inl here ↦
            ap (λ x. is_free (slice_get (set t.places rep (Some q)) x)) here
            ∙ ap is_free (slice_get-set_same t.places rep (Some q) (slice_get_within t.places rep (Some p) there))
            ∙ sym (ap (λ x. is_free (slice_get t.places x)) here ∙ ap is_free there)
        | inr other ↦ ap is_free (slice_get-set_other t.places rep r (Some q) other)
      ]

  -- writing an entry keeps the table in order
  pub IsTable-with_entry : (t : Table E) (rep : ℕ) (entry : E) (p : Placed E) → place_at t rep ≡ Some p → IsTable t → IsTable (with_entry rep entry t)
  unfolding with_entry
  IsTable-with_entry t rep entry p at table =
      let there = place_at_there t rep p at in
      subst (λ o. IsTable (record t { places = set t.places rep (entry_put entry o) })) (sym at)
      (IsTable-rewritten t rep p (record p { entry = entry }) there refl (λ r none. parent_is_there r none) table)
    where
      parent_is_there : (r : ℕ) → place_at t r ≡ None → one_if (is_number r p.parent) ≡ 0
      parent_is_there r none =
          let count = count_by-found (is_child_of r) t.places rep (Some p) (place_at_there t rep p at) in
          let nobody = table.parents r none in
          omega arith

  -- a parent that is there, or none, keeps the table in order
  pub IsTable-with_parent : (t : Table E) (rep : ℕ) (parent : Option ℕ) (p : Placed E) → place_at t rep ≡ Some p → ((r : ℕ) → parent ≡ Some r → IsSome (place_at t r)) → IsTable t → IsTable (with_parent rep parent t)
  unfolding with_parent
  IsTable-with_parent t rep parent p at is_there table =
      let there = place_at_there t rep p at in
      subst (λ o. IsTable (record t { places = set t.places rep (parent_put parent o) })) (sym at)
      (IsTable-rewritten t rep p (record p { parent = parent }) there refl (not_absent parent is_there) table)
    where
      not_absent : (o : Option ℕ) → ((r : ℕ) → o ≡ Some r → IsSome (place_at t r)) → (r : ℕ) → place_at t r ≡ None → one_if (is_number r o) ≡ 0
      not_absent None there r none = refl
      not_absent (Some n) there r none =
          elim (cases_eq n r) [
            | inl same ↦ absurd (let some = there n refl in let absent = ap (place_at t) same ∙ none in cc)
            | inr differs ↦ ap one_if (ne_eqb n r differs)
          ]

  pub some_of : (o : Option (Placed E)) → IsSome o → (p : Placed E) × (o ≡ Some p)
  some_of None is = absurd (cc)
  some_of (Some p) is = (p, refl)

  -- where an id is found, an entry is at its place
  pub found_place : (t : Table E) (rep serial : ℕ) → IsSome (found t rep serial) → IsSome (place_at t rep)
  found_place t rep serial is =
      let one = some_of (found t rep serial) is in
      ap is_some (found_at t rep serial one.0 one.1).0

  pub found_entry : (t : Table E) (rep serial : ℕ) (entry : E) → IsSome (found t rep serial) → option_map (λ p. p.entry) (place_at t rep) ≡ Some entry → (p : Placed E) × (found t rep serial ≡ Some p) × (p.entry ≡ entry)
  found_entry t rep serial entry is read =
      let one = some_of (found t rep serial) is in
      (one.0, one.1, same_Some one.0.entry entry (sym (ap (λ o. option_map (λ p. p.entry) o) (found_at t rep serial one.0 one.1).0) ∙ read))

  -- writing the entry that is there changes nothing
  pub with_entry-same : (t : Table E) (rep : ℕ) (entry : E) → option_map (λ p. p.entry) (place_at t rep) ≡ Some entry → with_entry rep entry t ≡ t
  unfolding with_entry
  with_entry-same t rep entry read = by_place (place_at t rep) refl read
    where
      by_place : (o : Option (Placed E)) → place_at t rep ≡ o → option_map (λ p. p.entry) o ≡ Some entry → record t { places = with_entry_at rep entry t.places } ≡ t
      by_place None at some = absurd (cc)
      by_place (Some p) at some =
          let there = place_at_there t rep p at in
          let same : entry_put entry (place_at t rep) ≡ Some p = ap (entry_put entry) at ∙ ap (λ e. Some (record p { entry = e })) (sym (same_Some p.entry entry some)) in
          ap (λ ps. record t { places = ps }) (ap (set t.places rep) same ∙ set-slice_get t.places rep (Some p) there)

  module _ {Item : Type 0} (item_of : E → Option Item) where
    -- what an id finds, by the item of its entry
    pub item_at-ok : (t : Table E) (rep serial : ℕ) (entry : E) (item : Item) → IsSome (found t rep serial) → option_map (λ p. p.entry) (place_at t rep) ≡ Some entry → item_of entry ≡ Some item → Ok item ≡ item_at item_of t rep serial
    item_at-ok t rep serial entry item is read kind =
        let one = found_entry t rep serial entry is read in
        sym (ap (item_in item_of) one.1 ∙ ap (λ e. ok_or (item_of e) WrongType) one.2 ∙ ap (λ o. ok_or o WrongType) kind)

    pub item_at-wrong : (t : Table E) (rep serial : ℕ) (entry : E) → IsSome (found t rep serial) → option_map (λ p. p.entry) (place_at t rep) ≡ Some entry → item_of entry ≡ None → Err WrongType ≡ item_at item_of t rep serial
    item_at-wrong t rep serial entry is read kind =
        let one = found_entry t rep serial entry is read in
        sym (ap (item_in item_of) one.1 ∙ ap (λ e. ok_or (item_of e) WrongType) one.2 ∙ ap (λ o. ok_or o WrongType) kind)

  -- a place on the free list has no entry
  pub free_head : (t : Table E) (rep : ℕ) (rest : List ℕ) → t.free ≡ rep ∷ rest → IsTable t → slice_get t.places rep ≡ Some None
  free_head t rep rest is table = by_read (slice_get t.places rep) refl counted
    where
      counted : one_if (is_free (slice_get t.places rep)) ≡ 1 + count_by (λ r. r == rep) rest
      counted =
          let one : one_if (rep == rep) ≡ 1 = ap one_if (eq-eqb rep rep refl) in
          let head = sum_by-cons (λ r. one_if (r == rep)) rep rest in
          sym (table.free_once rep) ∙ ap (count_by (λ r. r == rep)) is ∙ head ∙ ap (λ n. n + count_by (λ r. r == rep) rest) one

      by_read : (o : Option (Option (Placed E))) → slice_get t.places rep ≡ o → one_if (is_free o) ≡ 1 + count_by (λ r. r == rep) rest → slice_get t.places rep ≡ Some None
      by_read None at free = absurd (omega arith)
      by_read (Some None) at free = at
      by_read (Some (Some p)) at free = absurd (omega arith)

  -- a table that is not full has serials left, and a free place or fewer places than its capacity
  pub room_left : (t : Table E) → is_full t ≡ false → (t.given < 2 ^ 64 - 1) × ((is_nil t.free ≡ false) ⊎ (length t.places < t.capacity))
  room_left t full =
      let parts = or_parts (is_nil t.free && nat_le t.capacity (length t.places)) (nat_le (2 ^ 64 - 1) t.given) full in (
        leb-false (2 ^ 64 - 1) t.given parts.1,
        elim (and_cases (is_nil t.free) (nat_le t.capacity (length t.places)) parts.0) [
          | inl some ↦ inl some
          | inr fewer ↦ inr (leb-false t.capacity (length t.places) fewer)
        ],
      )

  module _ (t : Table E) (table : IsTable t) (entry : E) where
    -- at a place that was freed
    IsTable-filled : (rep : ℕ) (rest : List ℕ) → t.free ≡ rep ∷ rest → IsTable (record { places = set t.places rep (Some (record { serial = t.given; parent = None; entry = entry })); free = rest; given = t.given + 1; capacity = t.capacity })
    IsTable-filled rep rest is =
        record {
          places_fit = let same = length-set t.places rep (Some new) in let fit = table.places_fit in omega arith;
          capacity_fits = table.capacity_fits;
          free_once = free_once;
          free_or_taken =
              let same = length-set t.places rep (Some new) in
              let total = table.free_or_taken in
              let count = count_by-set is_some t.places rep None (Some new) there in
              let longer : length t.free ≡ suc (length rest) = ap length is in
              omega arith;
          serials = λ r s at. elim (cases_eq r rep) [
            | inl here ↦ let same = ap (λ x. x.serial) (same_Some new s (sym (at_same r here) ∙ at)) in omega arith
            | inr other ↦ let before = table.serials r s (sym (at_other r other) ∙ at) in omega arith
          ];
          parents = λ r none. elim (cases_eq r rep) [
            | inl here ↦ absurd (let e = sym (at_same r here) ∙ none in cc)
            | inr other ↦
                let count = count_by-set (is_child_of r) t.places rep None (Some new) there in
                let before = table.parents r (sym (at_other r other) ∙ none) in
                omega arith
          ];
        }
      where
        new : Placed E
        new = record { serial = t.given; parent = None; entry = entry }

        there : slice_get t.places rep ≡ Some None
        there = free_head t rep rest is table

        written : slice_get (set t.places rep (Some new)) rep ≡ Some (Some new)
        written = slice_get-set_same t.places rep (Some new) (slice_get_within t.places rep None there)

        at_same : (r : ℕ) → r ≡ rep → standing (slice_get (set t.places rep (Some new)) r) ≡ Some new
        at_same r here = ap (λ x. standing (slice_get (set t.places rep (Some new)) x)) here ∙ ap standing written

        at_other : (r : ℕ) → (r ≡ rep → ⊥) → standing (slice_get (set t.places rep (Some new)) r) ≡ place_at t r
        at_other r other = ap standing (slice_get-set_other t.places rep r (Some new) other)

        free_once : (r : ℕ) → count_by (λ x. x == r) rest ≡ one_if (is_free (slice_get (set t.places rep (Some new)) r))
        free_once r =
            let before = table.free_once r in
            let head : count_by (λ x. x == r) t.free ≡ one_if (rep == r) + count_by (λ x. x == r) rest = ap (count_by (λ x. x == r)) is ∙ sum_by-cons (λ x. one_if (x == r)) rep rest in
            elim (cases_eq r rep) [
              | inl here ↦
                  let one : one_if (rep == r) ≡ 1 = ap one_if (eq-eqb rep r (sym here)) in
                  let was : one_if (is_free (slice_get t.places r)) ≡ 1 = ap (λ x. one_if (is_free (slice_get t.places x))) here ∙ ap (λ o. one_if (is_free o)) there in
                  let now : one_if (is_free (slice_get (set t.places rep (Some new)) r)) ≡ 0 = ap (λ x. one_if (is_free (slice_get (set t.places rep (Some new)) x))) here ∙ ap (λ o. one_if (is_free o)) written in
                  omega arith
              | inr other ↦
                  let none : one_if (rep == r) ≡ 0 = ap one_if (ne_eqb rep r (λ e. other (sym e))) in
                  let now : one_if (is_free (slice_get (set t.places rep (Some new)) r)) ≡ one_if (is_free (slice_get t.places r)) = ap (λ o. one_if (is_free o)) (slice_get-set_other t.places rep r (Some new) other) in
                  omega arith
            ]

    -- at a new place
    IsTable-appended : t.free ≡ [] → length t.places < t.capacity → IsTable (record { places = t.places ++ Some (record { serial = t.given; parent = None; entry = entry }) ∷ []; free = []; given = t.given + 1; capacity = t.capacity })
    IsTable-appended is fewer =
        record {
          places_fit = let longer = length_push t.places (Some new) in let fit = table.capacity_fits in omega arith;
          capacity_fits = table.capacity_fits;
          free_once = free_once;
          free_or_taken =
              let longer = length_push t.places (Some new) in
              let total = table.free_or_taken in
              let count = count_by-push is_some t.places (Some new) in
              let none : length t.free ≡ 0 = ap length is in
              omega arith;
          serials = λ r s at. elim (cases_eq r (length t.places)) [
            | inl here ↦ let same = ap (λ x. x.serial) (same_Some new s (sym (at_same r here) ∙ at)) in omega arith
            | inr other ↦ let before = table.serials r s (sym (at_other r other) ∙ at) in omega arith
          ];
          parents = λ r none. elim (cases_eq r (length t.places)) [
            | inl here ↦ absurd (let e = sym (at_same r here) ∙ none in cc)
            | inr other ↦
                let count = count_by-push (is_child_of r) t.places (Some new) in
                let before = table.parents r (sym (at_other r other) ∙ none) in
                omega arith
          ];
        }
      where
        new : Placed E
        new = record { serial = t.given; parent = None; entry = entry }

        at_same : (r : ℕ) → r ≡ length t.places → standing (slice_get (t.places ++ Some new ∷ []) r) ≡ Some new
        at_same r here = ap standing (slice_get-push_same t.places r (Some new) here)

        at_other : (r : ℕ) → (r ≡ length t.places → ⊥) → standing (slice_get (t.places ++ Some new ∷ []) r) ≡ place_at t r
        at_other r other = ap standing (slice_get-push_other t.places r (Some new) other)

        free_once : (r : ℕ) → count_by (λ x. x == r) [] ≡ one_if (is_free (slice_get (t.places ++ Some new ∷ []) r))
        free_once r =
            let before : 0 ≡ one_if (is_free (slice_get t.places r)) = sym (ap (count_by (λ x. x == r)) is) ∙ table.free_once r in
            elim (cases_eq r (length t.places)) [
              | inl here ↦ sym (ap (λ o. one_if (is_free o)) (slice_get-push_same t.places r (Some new) here))
              | inr other ↦ before ∙ sym (ap (λ o. one_if (is_free o)) (slice_get-push_other t.places r (Some new) other))
            ]

    -- a push keeps the table in order
    pub IsTable-pushed : is_full t ≡ false → IsTable (pushed entry t)
    unfolding pushed
    IsTable-pushed full = by_free t.free refl (room_left t full).1
      where
        by_free : (free : List ℕ) → t.free ≡ free → (is_nil free ≡ false) ⊎ (length t.places < t.capacity) → IsTable (pushed entry t)
        by_free [] is (inl some) = absurd (cc)
        by_free [] is (inr fewer) = subst (λ fs. IsTable (record { places = put_at_next fs (Some (record { serial = t.given; parent = None; entry = entry })) t.places; free = drop 1 fs; given = t.given + 1; capacity = t.capacity })) (sym is) (IsTable-appended is fewer)
        by_free (rep ∷ rest) is room = subst (λ fs. IsTable (record { places = put_at_next fs (Some (record { serial = t.given; parent = None; entry = entry })) t.places; free = drop 1 fs; given = t.given + 1; capacity = t.capacity })) (sym is) (IsTable-filled rep rest is)

  -- a deletion of an entry without children keeps the table in order
  pub IsTable-deleted : (t : Table E) (rep : ℕ) (p : Placed E) → place_at t rep ≡ Some p → children_of t rep ≡ 0 → IsTable t → IsTable (deleted rep t)
  unfolding deleted
  IsTable-deleted t rep p at childless table =
      record {
        places_fit = let same = length-set t.places rep None in let fit = table.places_fit in omega arith;
        capacity_fits = table.capacity_fits;
        free_once = free_once;
        free_or_taken =
            let same = length-set t.places rep None in
            let total = table.free_or_taken in
            let count = count_by-set is_some t.places rep (Some p) None there in
            omega arith;
        serials = λ r s here_is. elim (cases_eq r rep) [
          | inl here ↦ absurd (let e = sym (at_same r here) ∙ here_is in cc)
          | inr other ↦ table.serials r s (sym (at_other r other) ∙ here_is)
        ];
        parents = λ r none. let count = count_by-set (is_child_of r) t.places rep (Some p) None there in elim (cases_eq r rep) [
          | inl here ↦ let before : children_of t r ≡ 0 = ap (children_of t) here ∙ childless in omega arith
          | inr other ↦ let before = table.parents r (sym (at_other r other) ∙ none) in omega arith
        ];
      }
    where
      there : slice_get t.places rep ≡ Some (Some p)
      there = place_at_there t rep p at

      written : slice_get (set t.places rep None) rep ≡ Some None
      written = slice_get-set_same t.places rep None (slice_get_within t.places rep (Some p) there)

      at_same : (r : ℕ) → r ≡ rep → standing (slice_get (set t.places rep None) r) ≡ None
      at_same r here = ap (λ x. standing (slice_get (set t.places rep None) x)) here ∙ ap standing written

      at_other : (r : ℕ) → (r ≡ rep → ⊥) → standing (slice_get (set t.places rep None) r) ≡ place_at t r
      at_other r other = ap standing (slice_get-set_other t.places rep r None other)

      free_once : (r : ℕ) → count_by (λ x. x == r) (rep ∷ t.free) ≡ one_if (is_free (slice_get (set t.places rep None) r))
      free_once r =
          let before = table.free_once r in
          let head = sum_by-cons (λ x. one_if (x == r)) rep t.free in
          elim (cases_eq r rep) [
            | inl here ↦
                let one : one_if (rep == r) ≡ 1 = ap one_if (eq-eqb rep r (sym here)) in
                let was : one_if (is_free (slice_get t.places r)) ≡ 0 = ap (λ x. one_if (is_free (slice_get t.places x))) here ∙ ap (λ o. one_if (is_free o)) there in
                let now : one_if (is_free (slice_get (set t.places rep None) r)) ≡ 1 = ap (λ x. one_if (is_free (slice_get (set t.places rep None) x))) here ∙ ap (λ o. one_if (is_free o)) written in
                omega arith
            | inr other ↦
                let none : one_if (rep == r) ≡ 0 = ap one_if (ne_eqb rep r (λ e. other (sym e))) in
                let now : one_if (is_free (slice_get (set t.places rep None) r)) ≡ one_if (is_free (slice_get t.places r)) = ap (λ o. one_if (is_free o)) (slice_get-set_other t.places rep r None other) in
                omega arith
          ]

  -- an id with an item finds an entry that holds it
  pub item_found : {Item : Type 0} (item_of : E → Option Item) (t : Table E) (rep serial : ℕ) (item : Item) → item_at item_of t rep serial ≡ Ok item → (p : Placed E) × (found t rep serial ≡ Some p) × (item_of p.entry ≡ Some item)
  item_found {Item} item_of t rep serial item is = by_found (found t rep serial) refl is
    where
      by_item : (p : Placed E) (o : Option Item) → item_of p.entry ≡ o → ok_or o WrongType ≡ Ok item → item_of p.entry ≡ Some item
      by_item p None at some = absurd (cc)
      by_item p (Some x) at some = at ∙ ap (λ r. result_ok r) some

      by_found : (o : Option (Placed E)) → found t rep serial ≡ o → item_in item_of o ≡ Ok item → (p : Placed E) × (found t rep serial ≡ Some p) × (item_of p.entry ≡ Some item)
      by_found None at some = absurd (cc)
      by_found (Some p) at some = (p, at, by_item p (item_of p.entry) refl some)

  -- where a pair is not refused, both entries are there
  pub pair_there : {C P : Type 0} (child_in : E → Option C) (parent_in : E → Option P) (c p : Option (Placed E)) → pair_refusal child_in parent_in c p ≡ None → IsSome c × IsSome p
  pair_there child_in parent_in None p is = absurd (cc)
  pair_there child_in parent_in (Some c) None is = absurd (cc)
  pair_there child_in parent_in (Some c) (Some p) is = (refl, refl)

  -- fewer places are free than were made, where one is taken
  pub free_fewer : (t : Table E) (rep : ℕ) (p : Placed E) → place_at t rep ≡ Some p → IsTable t → length t.free + 1 ≤ length t.places
  free_fewer t rep p at table =
      let one = count_by-found is_some t.places rep (Some p) (place_at_there t rep p at) in
      let total = table.free_or_taken in
      omega arith

  -- the entry of an id with an item is at its place
  pub item_place : {Item : Type 0} (item_of : E → Option Item) (t : Table E) (rep serial : ℕ) (item : Item) → item_at item_of t rep serial ≡ Ok item → (p : Placed E) × (place_at t rep ≡ Some p) × (item_of p.entry ≡ Some item)
  item_place item_of t rep serial item is =
      let one = item_found item_of t rep serial item is in
      (one.0, (found_at t rep serial one.0 one.1).0, one.2)

  -- an entry of the kind is unwrapped as its item
  pub unwrapped-item : {Item : Type 0} (item_of : E → Option Item) (entry held : E) (item : Item) → entry ≡ held → item_of held ≡ Some item → unwrapped item_of entry ≡ Ok item
  unwrapped-item item_of entry held item same is = ap (or_entry entry) (ap item_of same ∙ is)

  -- an item without children is deleted
  pub deletion-ok : {Item : Type 0} (item_of : E → Option Item) (t : Table E) (rep serial : ℕ) (item given : Item) → ◌≡◌ {A = Result Item E} (Ok given) (Ok item) → item_at item_of t rep serial ≡ Ok item → children_of t rep ≡ 0 → Ok given ≡ deletion item_of t rep serial
  deletion-ok item_of t rep serial item given same is childless =
      ap Ok (same_Some given item (ap (λ r. result_ok r) same))
      ∙ sym (ap (λ n. unless_children n (item_at item_of t rep serial)) childless ∙ ap (unless_children 0) is)

  pub parent_at : (t : Table E) (parent r : ℕ) → Some parent ≡ Some r → IsSome (place_at t parent) → IsSome (place_at t r)
  parent_at t parent r is there = subst (λ n. IsSome (place_at t n)) (same_Some parent r is) there

  pub no_parent_at : (t : Table E) (r : ℕ) → ◌≡◌ {A = Option ℕ} None (Some r) → IsSome (place_at t r)
  no_parent_at t r is = absurd (cc)
