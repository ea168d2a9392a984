-- How each change of a place keeps the counts of children.
use Rattle.std.proofs.Common.{◌≡◌, ◌≢◌, ℕ, add-zero, IfSome, Bor, ◌+◌, ◌-◌, ◌<◌, ◌≤◌, inl, inr, Bool, false, cond, List, [], ◌∷◌, ◌++◌, map, reverse, length, set, slice_get, count_by, Option, Some, None, IsSome, option_map, option_and_then, ◌==◌, length-set, get_or, refl, sym, ap, subst, ◌∙◌, arith}
use Rattle.std.proofs.lemmas.Bool.{cases_eq, eq-eqb, ne_eqb}
use Rattle.std.proofs.lemmas.List.{map-set, map_push, length-map, reverse-append}
use Rattle.std.proofs.lemmas.List.Sums.{count_by-le-length}
use Rattle.std.proofs.lemmas.Option.{slice_get_within, slice_get-map, slice_get_past, slice_get_read, same_Some, get_or_from_slice_get}
use Rattle.task_table.specs.declared.place.TableCell.{TableCell}
use Rattle.task_table.specs.declared.place.TableCell.TheVariants.{Free, Taken}
use Rattle.task_table.specs.declared.place.TakenCell.{TakenCell}
use Rattle.std.specs.Option.{option_copied}
use Rattle.task_table.specs.Table.{Placed, Table, children_of, is_child_of, is_number, standing}
use Rattle.task_table.specs.Changes.{parent_put, with_parent_at}
use Rattle.task_table.specs.TableCells.{placed, placed_in, slot_of, slot_at, slot_children, children_at, place_with_parent, NextIsFree, IsCounted, IsCountedBut}
use Rattle.task_table.proofs.ReadLemmas.{slice_get-set_same, slice_get-set_other, slice_get-push_same, slice_get-push_other, set-slice_get, count_by-set, count_by-push}

abbrev pub one_if : Bool → ℕ
one_if b = cond b 1 0

module _ {E : Type 0} where
  -- a slot at a place
  pub slot_there : (ps : List (TableCell E)) (rep : ℕ) → IsSome (slot_at ps rep) → (s : TakenCell E) × (slice_get ps rep ≡ Some (Taken s))
  slot_there ps rep present = by_read (slice_get ps rep) refl present
    where
      by_read : (o : Option (TableCell E)) → slice_get ps rep ≡ o → IsSome (slot_at ps rep) → (s : TakenCell E) × (slice_get ps rep ≡ Some (Taken s))
      by_read None is present = absurd (cc)
      by_read (Some Free) is present = absurd (cc)
      by_read (Some (Taken s)) is present = (s, is)

  -- the children that are counted at a place which was read
  pub children_read : (ps : List (TableCell E)) (t : Table E) (rep : ℕ) (o : Option (Bor (TakenCell E))) → option_copied o ≡ slot_at ps rep → IsCounted ps → map placed_in ps ≡ t.places → IfSome o (λ slot. slot.now.children ≡ children_of t rep)
  children_read ps t rep None read counted shown = tt
  children_read ps t rep (Some slot) read counted shown = ap slot_children read ∙ counted rep ∙ add-zero _ ∙ ap (count_by (is_child_of rep)) shown

  pub counted-set : (ps : List (TableCell E)) (i : ℕ) (old new : TableCell E) (more more' : Option ℕ)
      → slice_get ps i ≡ Some old
      → ((rep : ℕ) → rep ≢ i → one_if (is_number rep more) + one_if (is_child_of rep (placed_in old)) ≡ one_if (is_number rep more') + one_if (is_child_of rep (placed_in new)))
      → slot_children (slot_of new) + one_if (is_number i more) + one_if (is_child_of i (placed_in old)) ≡ slot_children (slot_of old) + one_if (is_number i more') + one_if (is_child_of i (placed_in new))
      → IsCountedBut ps more → IsCountedBut (set ps i new) more'
  counted-set ps i old new more more' found others here counted rep =
      elim (cases_eq rep i) [
        | inl same ↦ subst (λ r. children_at (set ps i new) r ≡ count_by (is_child_of r) (map placed_in (set ps i new)) + one_if (is_number r more')) (sym same) at_i
        | inr differs ↦ elsewhere differs
      ]
    where
      shown : slice_get (map placed_in ps) i ≡ Some (placed_in old)
      shown = slice_get-map placed_in ps i ∙ ap (λ o. option_map placed_in o) found

      at_i : children_at (set ps i new) i ≡ count_by (is_child_of i) (map placed_in (set ps i new)) + one_if (is_number i more')
      at_i =
          let count = count_by-set (is_child_of i) (map placed_in ps) i (placed_in old) (placed_in new) shown in
          let before = counted i in
          let read : children_at (set ps i new) i ≡ slot_children (slot_of new) = ap (λ o. slot_children (option_and_then slot_of o)) (slice_get-set_same ps i new (slice_get_within ps i old found)) in
          let was : children_at ps i ≡ slot_children (slot_of old) = ap (λ o. slot_children (option_and_then slot_of o)) found in
          rw map-set (omega arith)

      elsewhere : (rep ≡ i → ⊥) → children_at (set ps i new) rep ≡ count_by (is_child_of rep) (map placed_in (set ps i new)) + one_if (is_number rep more')
      elsewhere differs =
          let count = count_by-set (is_child_of rep) (map placed_in ps) i (placed_in old) (placed_in new) shown in
          let before = counted rep in
          let other = others rep differs in
          let read : children_at (set ps i new) rep ≡ children_at ps rep = ap (λ o. slot_children (option_and_then slot_of o)) (slice_get-set_other ps i rep new differs) in
          rw map-set (omega arith)

  -- another place, which is free or has an entry without parent and children
  pub counted-push : (ps : List (TableCell E)) (new : TableCell E) → slot_children (slot_of new) ≡ 0 → ((rep : ℕ) → is_child_of rep (placed_in new) ≡ false) → IsCounted ps → IsCounted (ps ++ new ∷ [])
  counted-push ps new childless orphan counted rep =
      let count = count_by-push (is_child_of rep) (map placed_in ps) (placed_in new) in
      let none : one_if (is_child_of rep (placed_in new)) ≡ 0 = ap one_if (orphan rep) in
      let before = counted rep in
      let read : children_at (ps ++ new ∷ []) rep ≡ children_at ps rep = elim (cases_eq rep (length ps)) [
        | inl same ↦
            let past : children_at ps rep ≡ 0 = ap (λ o. slot_children (option_and_then slot_of o)) (slice_get_past ps rep (omega arith)) in
            let here : children_at (ps ++ new ∷ []) rep ≡ slot_children (slot_of new) = ap (λ o. slot_children (option_and_then slot_of o)) (slice_get-push_same ps rep new same) in
            here ∙ childless ∙ sym past
        | inr differs ↦ ap (λ o. slot_children (option_and_then slot_of o)) (slice_get-push_other ps rep new differs)
      ] in
      rw map_push (omega arith)

  -- what contracts see of a place that shows the same is the same
  pub shown-set_same : (ps : List (TableCell E)) (i : ℕ) (old new : TableCell E) → slice_get ps i ≡ Some old → placed_in new ≡ placed_in old → map placed_in (set ps i new) ≡ map placed_in ps
  shown-set_same ps i old new found same =
      map-set placed_in ps i new ∙ ap (set (map placed_in ps) i) same ∙ set-slice_get (map placed_in ps) i (placed_in old) (slice_get-map placed_in ps i ∙ ap (λ o. option_map placed_in o) found)

  -- a child more is counted
  pub counted-count : (ps : List (TableCell E)) (i : ℕ) (s : TakenCell E) → slice_get ps i ≡ Some (Taken s) → IsCounted ps → IsCountedBut (set ps i (Taken (record s { children = s.children + 1 }))) (Some i)
  counted-count ps i s found counted =
      counted-set ps i (Taken s) (Taken (record s { children = s.children + 1 })) None (Some i) found
      (λ rep differs. let none : one_if (i == rep) ≡ 0 = ap one_if (ne_eqb i rep (λ same. differs (sym same))) in omega arith)
      (let one : one_if (i == i) ≡ 1 = ap one_if (eq-eqb i i refl) in omega arith)
      counted

  pub counted_at : (ps : List (TableCell E)) (parent : Option ℕ) (i : ℕ) → parent ≡ Some i → IsCountedBut ps parent → IsCountedBut ps (Some i)
  counted_at ps parent i is counted = subst (IsCountedBut ps) is counted

  counted-more_high : (ps : List (TableCell E)) (i : ℕ) → IsCountedBut ps (Some i) → 0 < children_at ps i
  counted-more_high ps i counted = let one : one_if (i == i) ≡ 1 = ap one_if (eq-eqb i i refl) in omega (arith, counted i)

  -- the place whose count is too high has a slot
  pub counted-more_taken : (ps : List (TableCell E)) (i : ℕ) → IsCountedBut ps (Some i) → IsSome (slot_at ps i)
  counted-more_taken ps i counted = by_slot (slot_at ps i) (counted-more_high ps i counted)
    where
      by_slot : (o : Option (TakenCell E)) → 0 < slot_children o → IsSome o
      by_slot None high = absurd (omega arith)
      by_slot (Some s) high = refl

  -- and counts a child
  pub counted-more_children : (ps : List (TableCell E)) (i : ℕ) (s : TakenCell E) → slice_get ps i ≡ Some (Taken s) → IsCountedBut ps (Some i) → 0 < s.children
  counted-more_children ps i s found counted =
      let high = counted-more_high ps i counted in
      let there : children_at ps i ≡ s.children = ap (λ o. slot_children (option_and_then slot_of o)) found in
      omega arith

  -- a child less is counted
  pub counted-forget : (ps : List (TableCell E)) (i : ℕ) (s : TakenCell E) → slice_get ps i ≡ Some (Taken s) → IsCountedBut ps (Some i) → IsCounted (set ps i (Taken (record s { children = s.children - 1 })))
  counted-forget ps i s found counted =
      let some = counted-more_children ps i s found counted in
      counted-set ps i (Taken s) (Taken (record s { children = s.children - 1 })) (Some i) None found
      (λ rep differs. let none : one_if (i == rep) ≡ 0 = ap one_if (ne_eqb i rep (λ same. differs (sym same))) in omega arith)
      (let one : one_if (i == i) ≡ 1 = ap one_if (eq-eqb i i refl) in omega arith)
      counted

  -- the entry gets a parent whose count is too high
  pub counted-link : (ps : List (TableCell E)) (i parent : ℕ) (s : TakenCell E) → slice_get ps i ≡ Some (Taken s) → s.parent ≡ None → IsCountedBut ps (Some parent) → IsCounted (set ps i (Taken (record s { parent = Some parent })))
  counted-link ps i parent s found orphan counted =
      counted-set ps i (Taken s) (Taken (record s { parent = Some parent })) (Some parent) None found
      (λ rep differs. let none : one_if (is_number rep s.parent) ≡ 0 = ap (λ o. one_if (is_number rep o)) orphan in omega arith)
      (let none : one_if (is_number i s.parent) ≡ 0 = ap (λ o. one_if (is_number i o)) orphan in omega arith)
      counted

  -- the entry loses its parent, whose count is then too high
  pub counted-unlink : (ps : List (TableCell E)) (i : ℕ) (s : TakenCell E) → slice_get ps i ≡ Some (Taken s) → IsCounted ps → IsCountedBut (set ps i (Taken (record s { parent = None }))) s.parent
  counted-unlink ps i s found counted =
      counted-set ps i (Taken s) (Taken (record s { parent = None })) None s.parent found (λ rep differs. omega arith) (omega arith) counted

  -- an entry without children goes, and the count of its parent is then too high
  pub counted-vacate : (ps : List (TableCell E)) (i : ℕ) (s : TakenCell E) → slice_get ps i ≡ Some (Taken s) → s.children ≡ 0 → IsCounted ps → IsCountedBut (set ps i Free) s.parent
  counted-vacate ps i s found childless counted =
      counted-set ps i (Taken s) Free None s.parent found (λ rep differs. omega arith) (omega arith) counted

  -- an entry without parent and children comes to a free place
  pub counted-fill : (ps : List (TableCell E)) (i : ℕ) (s : TakenCell E) → slice_get ps i ≡ Some Free → s.children ≡ 0 → s.parent ≡ None → IsCounted ps → IsCounted (set ps i (Taken s))
  counted-fill ps i s found childless orphan counted =
      counted-set ps i Free (Taken s) None None found
      (λ rep differs. let none : one_if (is_number rep s.parent) ≡ 0 = ap (λ o. one_if (is_number rep o)) orphan in omega arith)
      (let none : one_if (is_number i s.parent) ≡ 0 = ap (λ o. one_if (is_number i o)) orphan in omega arith)
      counted

  -- where an entry has no parent, the children of a place are fewer than the places
  pub counted_below : (ps : List (TableCell E)) (i parent : ℕ) (s : TakenCell E) → slice_get ps i ≡ Some (Taken s) → s.parent ≡ None → IsCounted ps → children_at ps parent + 1 ≤ length ps
  counted_below ps i parent s found orphan counted =
      let linked : Placed E = record { serial = s.serial; parent = Some parent; entry = s.entry } in
      let vs = map placed_in ps in
      let shown : slice_get vs i ≡ Some (Some (placed s)) = slice_get-map placed_in ps i ∙ ap (λ o. option_map placed_in o) found in
      let count = count_by-set (is_child_of parent) vs i (Some (placed s)) (Some linked) shown in
      let one : one_if (parent == parent) ≡ 1 = ap one_if (eq-eqb parent parent refl) in
      let bound = count_by-le-length (is_child_of parent) (set vs i (Some linked)) in
      let none : one_if (is_number parent s.parent) ≡ 0 = ap (λ o. one_if (is_number parent o)) orphan in
      let length_is : length (set vs i (Some linked)) ≡ length ps = length-set vs i (Some linked) ∙ length-map ps placed_in in
      omega (arith, counted parent)

  pub slot_within : (ps : List (TableCell E)) (i : ℕ) → IsSome (slot_at ps i) → i < length ps
  slot_within ps i taken = slice_get_within ps i _ (slot_there ps i taken).1

  -- what was read at an index is there
  pub place_read : (ps : List (TableCell E)) (i : ℕ) (read place : TableCell E) → IsSome (slot_at ps i) → read ≡ get_or ps i read → read ≡ place → slice_get ps i ≡ Some place
  place_read ps i read place taken value is = slice_get_read ps (length ps) i read refl (slot_within ps i taken) value ∙ ap Some is

  -- a taken place is not read as free
  pub not_read_free : (ps : List (TableCell E)) (i : ℕ) (read : TableCell E) → IsSome (slot_at ps i) → read ≡ get_or ps i read → read ≡ Free → ⊥
  not_read_free ps i read taken value is =
      let free = place_read ps i read Free taken value is in
      let there = (slot_there ps i taken).1 in
      cc

  -- the slot at a place, by the place
  pub slot_at_taken : (ps : List (TableCell E)) (i : ℕ) (s : TakenCell E) → slice_get ps i ≡ Some (Taken s) → slot_at ps i ≡ Some s
  slot_at_taken ps i s found = ap (λ o. option_and_then slot_of o) found

  -- and the place by the slot
  pub taken_at_slot : (ps : List (TableCell E)) (i : ℕ) (s : TakenCell E) → slot_at ps i ≡ Some s → slice_get ps i ≡ Some (Taken s)
  taken_at_slot ps i s found = by_read (slice_get ps i) refl found
    where
      by_read : (o : Option (TableCell E)) → slice_get ps i ≡ o → option_and_then slot_of o ≡ Some s → slice_get ps i ≡ Some (Taken s)
      by_read None is some = absurd (cc)
      by_read (Some Free) is some = absurd (cc)
      by_read (Some (Taken r)) is some = is ∙ ap (λ x. Some (Taken x)) (same_Some r s some)

  pub some_mapped : {Y : Type 0} (f : TakenCell E → Y) (o : Option (TakenCell E)) (y : Y) → option_map f o ≡ Some y → IsSome o
  some_mapped f None y is = absurd (cc)
  some_mapped f (Some s) y is = refl

  -- what contracts see of a place is what its slot shows
  pub place_shown : (ps : List (TableCell E)) (i : ℕ) → standing (slice_get (map placed_in ps) i) ≡ option_map placed (slot_at ps i)
  place_shown ps i = ap standing (slice_get-map placed_in ps i) ∙ by_read (slice_get ps i)
    where
      by_read : (o : Option (TableCell E)) → standing (option_map placed_in o) ≡ option_map placed (option_and_then slot_of o)
      by_read None = refl
      by_read (Some Free) = refl
      by_read (Some (Taken s)) = refl

  pub parent_shown : (ps : List (TableCell E)) (i : ℕ) → option_map (λ s. s.parent) (slot_at ps i) ≡ option_map (λ p. p.parent) (standing (slice_get (map placed_in ps) i))
  parent_shown ps i = by_slot (slot_at ps i) ∙ sym (ap (λ o. option_map (λ p. p.parent) o) (place_shown ps i))
    where
      by_slot : (o : Option (TakenCell E)) → option_map (λ s. s.parent) o ≡ option_map (λ p. p.parent) (option_map placed o)
      by_slot None = refl
      by_slot (Some s) = refl

  -- lists that show the same have the same parents
  pub same_parents : (ps qs : List (TableCell E)) (i : ℕ) → map placed_in qs ≡ map placed_in ps → option_map (λ s. s.parent) (slot_at qs i) ≡ option_map (λ s. s.parent) (slot_at ps i)
  same_parents ps qs i same =
      parent_shown qs i ∙ ap (λ vs. option_map (λ p. p.parent) (standing (slice_get vs i))) same ∙ sym (parent_shown ps i)

  -- the slot whose parent was replaced
  pub parent_replaced : (ps new : List (TableCell E)) (i : ℕ) (parent : Option ℕ) (s : TakenCell E) → slice_get ps i ≡ Some (Taken s) → new ≡ set ps i (place_with_parent parent (get_or ps i Free)) → new ≡ set ps i (Taken (record s { parent = parent }))
  parent_replaced ps new i parent s found is =
      is ∙ ap (λ p. set ps i (place_with_parent parent p)) (get_or_from_slice_get ps i (Taken s) Free found)

  pub shown-replaced : (ps new : List (TableCell E)) (i : ℕ) (parent : Option ℕ) → IsSome (slot_at ps i) → new ≡ set ps i (place_with_parent parent (get_or ps i Free)) → map placed_in new ≡ with_parent_at i parent (map placed_in ps)
  shown-replaced ps new i parent taken is =
      let there = slot_there ps i taken in
      let s = there.0 in
      let seen : standing (slice_get (map placed_in ps) i) ≡ Some (placed s) = place_shown ps i ∙ ap (λ o. option_map placed o) (slot_at_taken ps i s there.1) in
      ap (map placed_in) (parent_replaced ps new i parent s there.1 is)
      ∙ map-set placed_in ps i (Taken (record s { parent = parent }))
      ∙ sym (ap (λ o. set (map placed_in ps) i (parent_put parent o)) seen)

  pub counted-linked : (ps new : List (TableCell E)) (i parent : ℕ) → option_map (λ s. s.parent) (slot_at ps i) ≡ Some None → new ≡ set ps i (place_with_parent (Some parent) (get_or ps i Free)) → IsCountedBut ps (Some parent) → IsCounted new
  counted-linked ps new i parent orphan is counted =
      let there = slot_there ps i (some_mapped (λ s. s.parent) (slot_at ps i) None orphan) in
      let s = there.0 in
      let none : Some s.parent ≡ Some None = sym (ap (λ o. option_map (λ r. r.parent) o) (slot_at_taken ps i s there.1)) ∙ orphan in
      subst IsCounted (sym (parent_replaced ps new i (Some parent) s there.1 is)) (counted-link ps i parent s there.1 (same_Some s.parent None none) counted)

  pub counted-unlinked : (ps new : List (TableCell E)) (i : ℕ) (was : Option ℕ) → option_map (λ s. s.parent) (slot_at ps i) ≡ Some was → new ≡ set ps i (place_with_parent None (get_or ps i Free)) → IsCounted ps → IsCountedBut new was
  counted-unlinked ps new i was parent is counted =
      let there = slot_there ps i (some_mapped (λ s. s.parent) (slot_at ps i) was parent) in
      let s = there.0 in
      let same : Some s.parent ≡ Some was = sym (ap (λ o. option_map (λ r. r.parent) o) (slot_at_taken ps i s there.1)) ∙ parent in
      subst (λ qs. IsCountedBut qs was) (sym (parent_replaced ps new i None s there.1 is))
      (subst (IsCountedBut (set ps i (Taken (record s { parent = None })))) (same_Some s.parent was same) (counted-unlink ps i s there.1 counted))

  pub counted_few : (ps : List (TableCell E)) (i parent : ℕ) → option_map (λ s. s.parent) (slot_at ps i) ≡ Some None → IsCounted ps → children_at ps parent + 1 ≤ length ps
  counted_few ps i parent orphan counted =
      let there = slot_there ps i (some_mapped (λ s. s.parent) (slot_at ps i) None orphan) in
      let s = there.0 in
      let none : Some s.parent ≡ Some None = sym (ap (λ o. option_map (λ r. r.parent) o) (slot_at_taken ps i s there.1)) ∙ orphan in
      counted_below ps i parent s there.1 (same_Some s.parent None none) counted

  pub counted-vacated : (ps : List (TableCell E)) (i : ℕ) (s : TakenCell E) (new : TableCell E) → slice_get ps i ≡ Some (Taken s) → option_map (λ s. s.children) (slot_at ps i) ≡ Some 0 → new ≡ Free → IsCounted ps → IsCountedBut (set ps i new) s.parent
  counted-vacated ps i s new found childless is counted =
      let none : Some s.children ≡ Some 0 = sym (ap (λ o. option_map (λ r. r.children) o) (slot_at_taken ps i s found)) ∙ childless in
      subst (λ p. IsCountedBut (set ps i p) s.parent) (sym is) (counted-vacate ps i s found (same_Some s.children 0 none) counted)

  -- the place that is popped off the free ones has no entry
  pub popped_free : (ps : List (TableCell E)) (free rest : List ℕ) (rep : ℕ) → free ≡ rest ++ rep ∷ [] → NextIsFree (reverse free) ps → slice_get ps rep ≡ Some Free
  popped_free ps free rest rep is next = subst (λ ns. NextIsFree ns ps) (ap reverse is ∙ reverse-append rest (rep ∷ [])) next

  pub popped_not_taken : (ps : List (TableCell E)) (free rest : List ℕ) (rep : ℕ) (read : TableCell E) (s : TakenCell E) → free ≡ rest ++ rep ∷ [] → NextIsFree (reverse free) ps → read ≡ get_or ps rep read → read ≡ Taken s → ⊥
  popped_not_taken ps free rest rep read s is next value taken =
      let found = popped_free ps free rest rep is next in
      let there = get_or_from_slice_get ps rep Free read found in
      cc
