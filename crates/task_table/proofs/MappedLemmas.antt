-- What each change of a table is for the table of a function of its entries, and that a write which the function does not see changes nothing there.
use Rattle.std.proofs.Common.{◌≡◌, ℕ, ◌+◌, ◌-◌, ◌^◌, ◌==◌, ◌&&◌, ◌||◌, nat_le, Bool, true, false, cond, List, [], ◌∷◌, map, drop, length, set, slice_get, count_by, Option, Some, None, is_some, refl, sym, ap, ◌∙◌, arith, ◌<◌}
use Rattle.std.proofs.lemmas.List.{map-set, map_push, length-map}
use Rattle.std.proofs.lemmas.List.Sums.{sum_by-cons}
use Rattle.std.proofs.lemmas.Option.{slice_get-map, same_Some}
use Rattle.std.specs.Option.{option_map}
use Rattle.task_table.specs.Table.{Table, Placed, place_at, standing, found, of_serial, is_full, is_nil, free_count, table_len, children_of, is_child_of, IsTable, is_free}
use Rattle.task_table.specs.Changes.{pushed, put_at_next, next_place, deleted, with_entry, entry_put, with_parent, parent_put, with_capacity}
use Rattle.task_table.specs.Mapped.{placed_as, mapped}
use Rattle.task_table.specs.Records.{key_in, number_in, number_of}
use Rattle.task_table.proofs.ReadLemmas.{set-slice_get}
use Rattle.task_table.proofs.TableLemmas.{one_if}

module _ {E F : Type 0} (f : E → F) where
  module _ (t : Table E) where
    pub place_at-mapped : (r : ℕ) → place_at (mapped f t) r ≡ placed_as f (place_at t r)
    unfolding mapped
    place_at-mapped r = ap standing (slice_get-map (placed_as f) t.places r) ∙ by_read (slice_get t.places r)
      where
        by_read : (o : Option (Option (Placed E))) → standing (option_map (placed_as f) o) ≡ placed_as f (standing o)
        by_read None = refl
        by_read (Some o) = refl

    pub found-mapped : (r s : ℕ) → found (mapped f t) r s ≡ placed_as f (found t r s)
    unfolding found
    found-mapped r s = ap (of_serial s) (place_at-mapped r) ∙ by_place (place_at t r)
      where
        by_test : (p : Placed E) (b : Bool) → cond b (placed_as f (Some p)) None ≡ placed_as f (cond b (Some p) None)
        by_test p true = refl
        by_test p false = refl

        by_place : (o : Option (Placed E)) → of_serial s (placed_as f o) ≡ placed_as f (of_serial s o)
        by_place None = refl
        by_place (Some p) = by_test p (p.serial == s)

    pub mapped-pushed : (entry : E) → mapped f (pushed entry t) ≡ pushed (f entry) (mapped f t)
    unfolding mapped pushed
    mapped-pushed entry =
        λ i. record {
          places = places i;
          free = drop 1 t.free;
          given = t.given + 1;
          capacity = t.capacity;
        }
      where
        by_free : (free : List ℕ) → map (placed_as f) (put_at_next free (Some (record { serial = t.given; parent = None; entry = entry })) t.places) ≡ put_at_next free (Some (record { serial = t.given; parent = None; entry = f entry })) (map (placed_as f) t.places)
        by_free [] = map_push (placed_as f) t.places (Some (record { serial = t.given; parent = None; entry = entry }))
        by_free (rep ∷ rest) = map-set (placed_as f) t.places rep (Some (record { serial = t.given; parent = None; entry = entry }))

        places : map (placed_as f) (put_at_next t.free (Some (record { serial = t.given; parent = None; entry = entry })) t.places) ≡ put_at_next t.free (Some (record { serial = t.given; parent = None; entry = f entry })) (map (placed_as f) t.places)
        places = by_free t.free

    pub mapped-deleted : (rep : ℕ) → mapped f (deleted rep t) ≡ deleted rep (mapped f t)
    unfolding mapped deleted
    mapped-deleted rep = ap (λ ps. record { places = ps; free = rep ∷ t.free; given = t.given; capacity = t.capacity }) (map-set (placed_as f) t.places rep None)

    -- a write of what the function makes of an entry
    written_as : (rep : ℕ) (g : Option (Placed E) → Option (Placed E)) (h : Option (Placed F) → Option (Placed F)) → ((o : Option (Placed E)) → placed_as f (g o) ≡ h (placed_as f o)) → map (placed_as f) (set t.places rep (g (place_at t rep))) ≡ set (map (placed_as f) t.places) rep (h (standing (slice_get (map (placed_as f) t.places) rep)))
    unfolding mapped
    written_as rep g h same = map-set (placed_as f) t.places rep (g (place_at t rep)) ∙ ap (set (map (placed_as f) t.places) rep) (same (place_at t rep) ∙ ap h (sym (place_at-mapped rep)))

    pub mapped-with_entry : (rep : ℕ) (entry : E) → mapped f (with_entry rep entry t) ≡ with_entry rep (f entry) (mapped f t)
    unfolding mapped with_entry
    mapped-with_entry rep entry = ap (λ ps. record { places = ps; free = t.free; given = t.given; capacity = t.capacity }) (written_as rep (entry_put entry) (entry_put (f entry)) put)
      where
        put : (o : Option (Placed E)) → placed_as f (entry_put entry o) ≡ entry_put (f entry) (placed_as f o)
        put None = refl
        put (Some p) = refl

    pub mapped-with_parent : (rep : ℕ) (parent : Option ℕ) → mapped f (with_parent rep parent t) ≡ with_parent rep parent (mapped f t)
    unfolding mapped with_parent
    mapped-with_parent rep parent = ap (λ ps. record { places = ps; free = t.free; given = t.given; capacity = t.capacity }) (written_as rep (parent_put parent) (parent_put parent) put)
      where
        put : (o : Option (Placed E)) → placed_as f (parent_put parent o) ≡ parent_put parent (placed_as f o)
        put None = refl
        put (Some p) = refl

    pub mapped-with_capacity : (n : ℕ) → mapped f (with_capacity n t) ≡ with_capacity n (mapped f t)
    unfolding mapped with_capacity
    mapped-with_capacity n = refl

    -- a write that the function does not see
    pub mapped-with_entry_same : (rep : ℕ) (entry : E) (p : Placed E) → place_at t rep ≡ Some p → f entry ≡ f p.entry → mapped f (with_entry rep entry t) ≡ mapped f t
    unfolding mapped with_entry
    mapped-with_entry_same rep entry p at same = ap (λ ps. record { places = ps; free = t.free; given = t.given; capacity = t.capacity }) places
      where
        by_read : (o : Option (Option (Placed E))) → slice_get t.places rep ≡ o → slice_get (map (placed_as f) t.places) rep ≡ option_map (placed_as f) o
        by_read o is = slice_get-map (placed_as f) t.places rep ∙ ap (option_map (placed_as f)) is

        unchanged : (o : Option (Option (Placed E))) → slice_get t.places rep ≡ o → standing o ≡ Some p → set (map (placed_as f) t.places) rep (placed_as f (entry_put entry (Some p))) ≡ map (placed_as f) t.places
        unchanged None is there = absurd (cc)
        unchanged (Some o) is there = set-slice_get (map (placed_as f) t.places) rep _ (by_read (Some o) is ∙ ap (λ q. Some (placed_as f q)) there ∙ ap (λ e. Some (Some (record { serial = p.serial; parent = p.parent; entry = e }))) (sym same))

        places : map (placed_as f) (set t.places rep (entry_put entry (place_at t rep))) ≡ map (placed_as f) t.places
        places = map-set (placed_as f) t.places rep (entry_put entry (place_at t rep)) ∙ ap (λ o. set (map (placed_as f) t.places) rep (placed_as f (entry_put entry o))) at ∙ unchanged (slice_get t.places rep) refl at

    pub mapped-with_entry_seen : (rep : ℕ) (entry : E) → option_map (λ p. f p.entry) (place_at t rep) ≡ Some (f entry) → mapped f (with_entry rep entry t) ≡ mapped f t
    mapped-with_entry_seen rep entry seen = by_place (place_at t rep) refl seen
      where
        by_place : (o : Option (Placed E)) → place_at t rep ≡ o → option_map (λ p. f p.entry) o ≡ Some (f entry) → mapped f (with_entry rep entry t) ≡ mapped f t
        by_place None at is = absurd (cc)
        by_place (Some p) at is = mapped-with_entry_same rep entry p at (sym (same_Some (f p.entry) (f entry) is))

    pub given-mapped : (mapped f t).given ≡ t.given
    unfolding mapped
    given-mapped = refl

    pub capacity-mapped : (mapped f t).capacity ≡ t.capacity
    unfolding mapped
    capacity-mapped = refl

    pub next_place-mapped : next_place (mapped f t) ≡ next_place t
    unfolding mapped
    next_place-mapped = by_free t.free
      where
        by_free : (free : List ℕ) → next_place (record { places = map (placed_as f) t.places; free = free; given = t.given; capacity = t.capacity }) ≡ next_place (record t { free = free })
        by_free [] = length-map t.places (placed_as f)
        by_free (rep ∷ rest) = refl

    pub is_full-mapped : is_full (mapped f t) ≡ is_full t
    unfolding mapped
    is_full-mapped = ap (λ n. (is_nil t.free && nat_le t.capacity n) || nat_le (2 ^ 64 - 1) t.given) (length-map t.places (placed_as f))

    pub free_count-mapped : free_count (mapped f t) ≡ free_count t
    unfolding mapped
    free_count-mapped = ap (λ n. length t.free + (t.capacity - n)) (length-map t.places (placed_as f))

    -- a test of the entries, through the function
    count_by-mapped : (p : Option (Placed F) → Bool) (q : Option (Placed E) → Bool) → ((o : Option (Placed E)) → p (placed_as f o) ≡ q o) → (ps : List (Option (Placed E))) → count_by p (map (placed_as f) ps) ≡ count_by q ps
    count_by-mapped p q same [] = refl
    count_by-mapped p q same (o ∷ os) =
        let rest = count_by-mapped p q same os in
        let first = ap one_if (same o) in
        omega (arith, sum_by-cons (λ x. one_if (p x)) (placed_as f o) (map (placed_as f) os), sum_by-cons (λ x. one_if (q x)) o os)

    pub table_len-mapped : table_len (mapped f t) ≡ table_len t
    unfolding mapped
    table_len-mapped = count_by-mapped is_some is_some by_place t.places
      where
        by_place : (o : Option (Placed E)) → is_some (placed_as f o) ≡ is_some o
        by_place None = refl
        by_place (Some p) = refl

    pub children_of-mapped : (rep : ℕ) → children_of (mapped f t) rep ≡ children_of t rep
    unfolding mapped
    children_of-mapped rep = count_by-mapped (is_child_of rep) (is_child_of rep) by_place t.places
      where
        by_place : (o : Option (Placed E)) → is_child_of rep (placed_as f o) ≡ is_child_of rep o
        by_place None = refl
        by_place (Some p) = refl

    -- the table of the function's values is in order
    pub IsTable-mapped : IsTable t → IsTable (mapped f t)
    unfolding mapped
    IsTable-mapped table =
        record {
          places_fit = let same = length-map t.places (placed_as f) in let fit = table.places_fit in omega arith;
          capacity_fits = table.capacity_fits;
          free_once = λ rep. table.free_once rep ∙ ap one_if (sym (ap is_free (slice_get-map (placed_as f) t.places rep) ∙ free_seen (slice_get t.places rep)));
          free_or_taken = let same = table_len-mapped in let long = length-map t.places (placed_as f) in let all = table.free_or_taken in omega arith;
          serials = λ rep q at. serial_seen rep q (place_at t rep) refl (sym (place_at-mapped rep) ∙ at);
          parents = λ rep none. children_of-mapped rep ∙ table.parents rep (none_seen (place_at t rep) (sym (place_at-mapped rep) ∙ none));
        }
      where
        free_seen : (o : Option (Option (Placed E))) → is_free (option_map (placed_as f) o) ≡ is_free o
        free_seen None = refl
        free_seen (Some None) = refl
        free_seen (Some (Some p)) = refl

        none_seen : (o : Option (Placed E)) → placed_as f o ≡ None → o ≡ None
        none_seen None is = refl
        none_seen (Some p) is = absurd (cc)

        serial_seen : (rep : ℕ) (q : Placed F) (o : Option (Placed E)) → place_at t rep ≡ o → placed_as f o ≡ Some q → q.serial < t.given
        serial_seen rep q None at is = absurd (cc)
        serial_seen rep q (Some p) at is =
            let before = table.serials rep p at in
            let same : p.serial ≡ q.serial = ap (λ x. x.serial) (same_Some _ q is) in
            omega arith

    -- the numbers of ids, where the function keeps the numbers of entries
    pub number_of-mapped : {X Y : Type 0} (key : E → Option (ℕ × X)) (name : F → Option (ℕ × Y)) → ((e : E) → number_in (name (f e)) ≡ number_in (key e)) → (r s : ℕ) → number_of name (mapped f t) r s ≡ number_of key t r s
    unfolding number_of
    number_of-mapped key name same r s = ap (λ o. number_in (key_in name o)) (found-mapped r s) ∙ by_found (found t r s)
      where
        by_found : (o : Option (Placed E)) → number_in (key_in name (placed_as f o)) ≡ number_in (key_in key o)
        by_found None = refl
        by_found (Some p) = same p.entry
