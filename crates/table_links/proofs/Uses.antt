-- What the giving and the giving back of a name leave of a whole `Links`.
use Rattle.std.proofs.Common.{◌≡◌, ℕ, zero, suc, ◌+◌, ◌<◌, ◌==◌, ◌⊎◌, inl, inr, true, false, List, [], ◌∷◌, ◌++◌, length, set, slice_get, count_by, Some, refl, sym, ap, subst, ◌∙◌, arith, length-set}
use Rattle.std.specs.Prelude.{slice_index_or}
use Rattle.std.proofs.lemmas.Bool.{cases_eq, eq-eqb, ne_eqb}
use Rattle.std.proofs.lemmas.List.{get_or-set_same, get_or-set_other, get_or_past, length_push}
use Rattle.std.proofs.lemmas.Option.{slice_get-get_or, slice_get_within, slice_get_past, get_or_from_slice_get}
use Rattle.task_table.proofs.ReadLemmas.{slice_get-set_same, slice_get-set_other, slice_get-push_same, slice_get-push_other}
use Rattle.table_links.specs.declared.links.Role.{Role}
use Rattle.table_links.specs.declared.links.Role.TheVariants.{Unused, Chain, Free, Linked}
use Rattle.table_links.specs.Links.{Spot, Unmade, ChainOf, FreeNode, spot_at, Renames}
use Rattle.table_links.specs.Rings.{at, role_at, ring_list, AreRings, IsSound, UnusedFrom, shown, spot_of, new_spot, role_is_new, role_is_unused, is_unused_at}
use Rattle.table_links.proofs.Changes.{within}
use Rattle.table_links.proofs.Spots.{spot_at-shown}
use Rattle.table_links.proofs.Unused.{InNames, UnusedFrom-kept, at_most_one, by_slot, count_by-cons, counted_in, one_if, unused_kept}
use Rattle.table_links.proofs.Names.{Renamed, AreRings-renamed, Renames-renamed}

module _ {X : Type 0} where
  pub read_pushed : (xs : List X) (i : ℕ) (y d : X) → i ≡ length xs → slice_index_or (xs ++ y ∷ []) i d ≡ y
  read_pushed [] zero y d is = refl
  read_pushed [] (suc i) y d is = absurd (omega arith)
  read_pushed (x ∷ xs) zero y d is = absurd (omega arith)
  read_pushed (x ∷ xs) (suc i) y d is = read_pushed xs i y d (omega arith)

  pub read_other : (xs : List X) (i : ℕ) (y d : X) → (i ≡ length xs → ⊥) → slice_index_or (xs ++ y ∷ []) i d ≡ slice_index_or xs i d
  read_other [] zero y d not_end = absurd (not_end refl)
  read_other [] (suc i) y d not_end = refl
  read_other (x ∷ xs) zero y d not_end = refl
  read_other (x ∷ xs) (suc i) y d not_end = read_other xs i y d (λ same. not_end (ap suc same))

module _ {P : Type 0} where
  new_not_unused : (r : Role P) → role_is_new r ≡ true → role_is_unused r ≡ false
  new_not_unused Unused is = absurd (cc)
  new_not_unused Chain is = refl
  new_not_unused Free is = refl
  new_not_unused (Linked c v) is = absurd (cc)

  new_not_linked : (r : Role P) → role_is_new r ≡ true → (c : ℕ) (v : P) → r ≡ Linked c v → ⊥
  new_not_linked r is c v e = absurd (let d = sym is ∙ ap role_is_new e in cc)

  module _ (nx pv : List ℕ) (rs : List (Role P)) (unused : ℕ) (sound : IsSound nx pv rs unused) where
    -- the unused name that is given next
    module _ (r : Role P) (some : unused ≡ 18446744073709551615 → ⊥) (new : role_is_new r ≡ true) where
      abbrev parted : (ns : List ℕ) → UnusedFrom nx unused ns → (more : List ℕ) × ((ns ≡ unused ∷ more) × UnusedFrom nx (at nx unused) more)
      parted [] is = absurd (some is)
      parted (n ∷ ns) is = (ns, (ap (λ m. m ∷ ns) (sym is.0), subst (λ m. UnusedFrom nx (at nx m) ns) (sym is.0) is.1))

      abbrev more : List ℕ
      more = (parted sound.names sound.chained).0

      counted : (n : ℕ) → count_by (λ m. m == n) more + one_if (unused == n) ≡ one_if (is_unused_at (slice_get rs n))
      counted n =
          let all = count_by-cons (λ m. m == n) unused more in
          let these = ap (count_by (λ m. m == n)) (parted sound.names sound.chained).1.0 in
          let once = sound.unused_once n in
          omega arith

      here : count_by (λ m. m == unused) more + 1 ≡ one_if (is_unused_at (slice_get rs unused))
      here = ap (λ b. count_by (λ m. m == unused) more + one_if b) (sym (eq-eqb unused unused refl)) ∙ counted unused

      was_unused : slice_get rs unused ≡ Some Unused
      was_unused = by_slot (slice_get rs unused) (let h = here in let few = at_most_one (slice_get rs unused) in omega arith)

      pub reused_inside : unused < length rs
      reused_inside = slice_get_within rs unused Unused was_unused

      was_role : role_at rs unused ≡ Unused
      was_role = get_or_from_slice_get rs unused Unused Unused was_unused

      none_more : count_by (λ m. m == unused) more ≡ 0
      none_more = let h = here in let few = at_most_one (slice_get rs unused) in omega arith

      chained_more : (nx' : List ℕ) → ((n : ℕ) → (n ≡ unused → ⊥) → at nx' n ≡ at nx n) → UnusedFrom nx' (at nx unused) more
      chained_more nx' same = UnusedFrom-kept nx nx' (at nx unused) more (λ n i. same n (λ e. let some_in = counted_in unused more (subst (λ k. InNames k more) e i) in let none = none_more in omega arith)) (parted sound.names sound.chained).1.1

      renamed : Renamed nx pv (set nx unused unused) (set pv unused unused) rs (set rs unused r) unused r
      renamed = record {
        was_not_linked = λ c v is. absurd (let e = sym was_role ∙ is in cc);
        was_empty = λ is. absurd (let e = sym was_role ∙ is in cc);
        role = get_or-set_same rs unused r Unused reused_inside;
        is_not_linked = new_not_linked r new;
        is_empty = λ _. (get_or-set_same nx unused unused 0 (let long = sound.rings.as_many_next in let inside = reused_inside in omega arith), get_or-set_same pv unused unused 0 (let long = sound.rings.as_many_previous in let inside = reused_inside in omega arith));
        others = λ q not_i. (get_or-set_other nx unused q unused 0 not_i, (get_or-set_other pv unused q unused 0 not_i, get_or-set_other rs unused q r Unused not_i));
        long_next = length-set nx unused unused ∙ (sound.rings.as_many_next ∙ sym (length-set rs unused r));
        long_previous = length-set pv unused unused ∙ (sound.rings.as_many_previous ∙ sym (length-set rs unused r));
      }

      -- a free node keeps what was after and before its name
      renamed_free : r ≡ Free → Renamed nx pv nx pv rs (set rs unused r) unused r
      renamed_free free = record {
        was_not_linked = λ c v is. absurd (let e = sym was_role ∙ is in cc);
        was_empty = λ is. absurd (let e = sym was_role ∙ is in cc);
        role = get_or-set_same rs unused r Unused reused_inside;
        is_not_linked = new_not_linked r new;
        is_empty = λ is. absurd (let e = sym free ∙ is in cc);
        others = λ q not_i. (refl, (refl, get_or-set_other rs unused q r Unused not_i));
        long_next = sound.rings.as_many_next ∙ sym (length-set rs unused r);
        long_previous = sound.rings.as_many_previous ∙ sym (length-set rs unused r);
      }

      sound_with : (nx' pv' : List ℕ) (next : ℕ) → next ≡ at nx unused → ((n : ℕ) → (n ≡ unused → ⊥) → at nx' n ≡ at nx n) → AreRings nx' pv' (set rs unused r) → IsSound nx' pv' (set rs unused r) next
      sound_with nx' pv' next next_is same rings = record {
        rings = rings;
        names = more;
        unused_once = λ n. elim (cases_eq n unused) [
          | inl same ↦
              subst (λ k. count_by (λ m. m == k) more ≡ one_if (is_unused_at (slice_get (set rs unused r) k))) (sym same)
              (none_more ∙ sym (ap (λ o. one_if (is_unused_at o)) (slice_get-set_same rs unused r reused_inside) ∙ ap one_if (new_not_unused r new)))
          | inr not_i ↦
              let nothing : one_if (unused == n) ≡ 0 = ap one_if (ne_eqb unused n (λ e. not_i (sym e))) in
              let all = counted n in
              let kept = ap (λ o. one_if (is_unused_at o)) (slice_get-set_other rs unused n r not_i) in
              omega arith
        ];
        chained = subst (λ k. UnusedFrom nx' k more) (sym next_is) (chained_more nx' same);
      }

      pub Sound-reused : (next : ℕ) → next ≡ at nx unused → IsSound (set nx unused unused) (set pv unused unused) (set rs unused r) next
      Sound-reused next next_is = sound_with (set nx unused unused) (set pv unused unused) next next_is (λ n not_i. get_or-set_other nx unused n unused 0 not_i) (AreRings-renamed nx pv _ _ rs _ unused r renamed sound.rings)

      pub Sound-freed : r ≡ Free → (next : ℕ) → next ≡ at nx unused → IsSound nx pv (set rs unused r) next
      Sound-freed free next next_is = sound_with nx pv next next_is (λ n not_i. refl) (AreRings-renamed nx pv _ _ rs _ unused r (renamed_free free) sound.rings)

      pub Renames-freed : r ≡ Free → Renames (shown nx rs) (shown nx (set rs unused r)) unused Unmade (new_spot r)
      Renames-freed free = Renames-renamed nx pv _ pv rs _ unused r (renamed_free free) sound.rings Unmade (spot_at-shown nx rs unused ∙ ap (spot_of nx rs unused) was_role)

      pub Renames-reused : Renames (shown nx rs) (shown (set nx unused unused) (set rs unused r)) unused Unmade (new_spot r)
      Renames-reused = Renames-renamed nx pv _ (set pv unused unused) rs _ unused r renamed sound.rings Unmade (spot_at-shown nx rs unused ∙ ap (spot_of nx rs unused) was_role)

    -- a name that was never given
    module _ (i : ℕ) (r : Role P) (end : i ≡ length rs) (new : role_is_new r ≡ true) where
      no_role : role_at rs i ≡ Unused
      no_role = get_or_past rs i Unused (omega arith)

      renamed_new : Renamed nx pv (nx ++ i ∷ []) (pv ++ i ∷ []) rs (rs ++ r ∷ []) i r
      renamed_new =
          let next_end : i ≡ length nx = end ∙ sym sound.rings.as_many_next in
          let previous_end : i ≡ length pv = end ∙ sym sound.rings.as_many_previous in
          record {
            was_not_linked = λ c v is. absurd (let e = sym no_role ∙ is in cc);
            was_empty = λ is. absurd (let e = sym no_role ∙ is in cc);
            role = read_pushed rs i r Unused end;
            is_not_linked = new_not_linked r new;
            is_empty = λ _. (read_pushed nx i i 0 next_end, read_pushed pv i i 0 previous_end);
            others = λ q not_i. (read_other nx q i 0 (λ e. not_i (e ∙ sym next_end)), (read_other pv q i 0 (λ e. not_i (e ∙ sym previous_end)), read_other rs q r Unused (λ e. not_i (e ∙ sym end))));
            long_next = length_push nx i ∙ (ap (λ n. n + 1) sound.rings.as_many_next ∙ sym (length_push rs r));
            long_previous = length_push pv i ∙ (ap (λ n. n + 1) sound.rings.as_many_previous ∙ sym (length_push rs r));
          }

      pub Sound-new : IsSound (nx ++ i ∷ []) (pv ++ i ∷ []) (rs ++ r ∷ []) unused
      Sound-new = record {
        rings = AreRings-renamed nx pv _ _ rs _ i r renamed_new sound.rings;
        names = sound.names;
        unused_once = λ n. elim (cases_eq n i) [
          | inl same ↦
              sound.unused_once n ∙ (ap (λ o. one_if (is_unused_at o)) (slice_get_past rs n (omega arith))
              ∙ sym (ap (λ o. one_if (is_unused_at o)) (slice_get-push_same rs n r (same ∙ end)) ∙ ap one_if (new_not_unused r new)))
          | inr not_i ↦ sound.unused_once n ∙ ap (λ o. one_if (is_unused_at o)) (sym (slice_get-push_other rs n r (λ e. not_i (e ∙ sym end))))
        ];
        chained = unused_kept nx pv rs unused sound (nx ++ i ∷ []) (λ n was inside. read_other nx n i 0 (λ e. let long = sound.rings.as_many_next in omega arith));
      }

      pub Renames-new : Renames (shown nx rs) (shown (nx ++ i ∷ []) (rs ++ r ∷ [])) i Unmade (new_spot r)
      Renames-new = Renames-renamed nx pv _ (pv ++ i ∷ []) rs _ i r renamed_new sound.rings Unmade (spot_at-shown nx rs i ∙ ap (spot_of nx rs i) no_role)

    -- the name of an empty chain or a free node
    module _ (i : ℕ) (inside : i < length rs) (is_used : role_is_unused (role_at rs i) ≡ false) (not_linked : (c : ℕ) (v : P) → role_at rs i ≡ Linked c v → ⊥) (empty : role_at rs i ≡ Chain → ring_list nx rs i ≡ []) where
      slot : slice_get rs i ≡ Some (role_at rs i)
      slot = slice_get-get_or rs i Unused inside

      renamed_unused : Renamed nx pv (set nx i unused) pv rs (set rs i Unused) i Unused
      renamed_unused = record {
        was_not_linked = not_linked;
        was_empty = empty;
        role = get_or-set_same rs i Unused Unused inside;
        is_not_linked = λ c v is. absurd (cc);
        is_empty = λ is. absurd (cc);
        others = λ q not_i. (get_or-set_other nx i q unused 0 not_i, (refl, get_or-set_other rs i q Unused Unused not_i));
        long_next = length-set nx i unused ∙ (sound.rings.as_many_next ∙ sym (length-set rs i Unused));
        long_previous = sound.rings.as_many_previous ∙ sym (length-set rs i Unused);
      }

      next_is : at (set nx i unused) i ≡ unused
      next_is = get_or-set_same nx i unused 0 (let long = sound.rings.as_many_next in omega arith)

      was_used : (n : ℕ) → role_at rs n ≡ Unused → n ≡ i → ⊥
      was_used n is same = absurd (let e = sym is_used ∙ ap role_is_unused (ap (role_at rs) (sym same) ∙ is) in cc)

      pub Sound-dropped : IsSound (set nx i unused) pv (set rs i Unused) i
      Sound-dropped = record {
        rings = AreRings-renamed nx pv _ _ rs _ i Unused renamed_unused sound.rings;
        names = i ∷ sound.names;
        unused_once = λ n. count_by-cons (λ m. m == n) i sound.names ∙ elim (cases_eq n i) [
          | inl same ↦
              let none : count_by (λ m. m == i) sound.names ≡ 0 = sound.unused_once i ∙ (ap (λ o. one_if (is_unused_at o)) slot ∙ ap one_if is_used) in
              let one : one_if (i == i) ≡ 1 = ap one_if (eq-eqb i i refl) in
              let now : one_if (is_unused_at (slice_get (set rs i Unused) i)) ≡ 1 = ap (λ o. one_if (is_unused_at o)) (slice_get-set_same rs i Unused inside) in
              subst (λ k. one_if (i == k) + count_by (λ m. m == k) sound.names ≡ one_if (is_unused_at (slice_get (set rs i Unused) k))) (sym same) (omega arith)
          | inr not_i ↦
              let nothing : one_if (i == n) ≡ 0 = ap one_if (ne_eqb i n (λ e. not_i (sym e))) in
              let kept = ap (λ o. one_if (is_unused_at o)) (slice_get-set_other rs i n Unused not_i) in
              let once = sound.unused_once n in
              omega arith
        ];
        chained = (refl, subst (λ k. UnusedFrom (set nx i unused) k sound.names) (sym next_is) (unused_kept nx pv rs unused sound (set nx i unused) (λ n is n_in. get_or-set_other nx i n unused 0 (was_used n is))));
      }

      pub Renames-dropped : Renames (shown nx rs) (shown (set nx i unused) (set rs i Unused)) i (spot_at (shown nx rs) i) Unmade
      Renames-dropped = Renames-renamed nx pv _ pv rs _ i Unused renamed_unused sound.rings (spot_at (shown nx rs) i) refl

  -- what is behind an empty chain or a free node that contracts see
  module _ (nx : List ℕ) (rs : List (Role P)) (i : ℕ) where
    abbrev Droppable : Type 0
    Droppable = (i < length rs) × ((role_is_unused (role_at rs i) ≡ false) × (((c : ℕ) (v : P) → role_at rs i ≡ Linked c v → ⊥) × (role_at rs i ≡ Chain → ring_list nx rs i ≡ [])))

    by_spot : (r : Role P) → role_at rs i ≡ r → (spot_of nx rs i r ≡ ChainOf []) ⊎ (spot_of nx rs i r ≡ FreeNode) → Droppable
    by_spot Unused is (inl e) = absurd (cc)
    by_spot Unused is (inr e) = absurd (cc)
    by_spot Chain is (inl e) = (within rs i Chain is (λ d. absurd (cc)), (ap role_is_unused is, ((λ c v l. absurd (let d = sym is ∙ l in cc)), (λ _. cc))))
    by_spot Chain is (inr e) = absurd (cc)
    by_spot Free is (inl e) = absurd (cc)
    by_spot Free is (inr e) = (within rs i Free is (λ d. absurd (cc)), (ap role_is_unused is, ((λ c v l. absurd (let d = sym is ∙ l in cc)), (λ l. absurd (let d = sym is ∙ l in cc)))))
    by_spot (Linked c v) is (inl e) = absurd (cc)
    by_spot (Linked c v) is (inr e) = absurd (cc)

    pub droppable : (links : List (Spot P)) → shown nx rs ≡ links → (spot_at links i ≡ ChainOf []) ⊎ (spot_at links i ≡ FreeNode) → (i < length rs) × ((role_is_unused (role_at rs i) ≡ false) × (((c : ℕ) (v : P) → role_at rs i ≡ Linked c v → ⊥) × (role_at rs i ≡ Chain → ring_list nx rs i ≡ [])))
    droppable links view s =
        by_spot (role_at rs i) refl (subst (λ k. (k ≡ ChainOf []) ⊎ (k ≡ FreeNode)) (spot_at-shown nx rs i) (subst (λ l. (spot_at l i ≡ ChainOf []) ⊎ (spot_at l i ≡ FreeNode)) (sym view) s))
