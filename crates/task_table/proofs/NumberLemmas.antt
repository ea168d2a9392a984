-- The number of the entry that an id finds: what it names, and that it stays.
use Rattle.std.proofs.Common.{◌≡◌, ◌≢◌, ℕ, ◌<◌, ◌≤◌, ◌==◌, ◌&&◌, ◌⊎◌, inl, inr, Bool, true, false, cond, Option, Some, None, refl, sym, ap, ap₂, subst, ◌∙◌, arith}
use Rattle.std.proofs.lemmas.Bool.{cases_eq, cases_lt, cases_Bool, eq-eqb, eqb-true, and_from, and_parts, false_from_ne_true}
use Rattle.machine_data.specs.Maps.{get}
use Rattle.task_table.specs.Table.{Table, Placed, IsTable, found}
use Rattle.task_table.specs.Changes.{pushed, next_place, deleted, with_entry, entry_put, with_parent, parent_put, with_capacity, Adds, Removes}
use Rattle.task_table.specs.Records.{key_in, record_at, records, found_record, number_in, number_of, SameNumber, AreApart, Names, NumberFound}
use Rattle.task_table.proofs.TableLemmas.{found_at}
use Rattle.task_table.proofs.Laws.{found-pushed, found-deleted, found-with_entry, found-with_parent, found-with_capacity, found_given}
use Rattle.task_table.proofs.RecordLemmas.{cond-same, cond-other, get-records, found_record_at}

module _ {E X : Type 0} (key : E → Option (ℕ × X)) where
  number_read : (t : Table E) (rep serial : ℕ) (o : Option (Placed E)) → found t rep serial ≡ o → number_of key t rep serial ≡ number_in (key_in key o)
  unfolding number_of
  number_read t rep serial o is = ap (λ p. number_in (key_in key p)) is

  -- where an id finds an entry of the kind, its number is that entry's
  pub number_of-found : (t : Table E) (rep serial n : ℕ) (x : X) (p : Placed E) → found t rep serial ≡ Some p → key p.entry ≡ Some (n, x) → number_of key t rep serial ≡ n
  number_of-found t rep serial n x p at is = number_read t rep serial (Some p) at ∙ ap (λ e. number_in e) is

  -- what an id names is at its place
  pub record_at-Names : (t : Table E) (rep serial n : ℕ) (x : X) → Names key t rep serial n x → record_at key t.places rep ≡ Some (n, x)
  record_at-Names t rep serial n x names = ap (key_in key) (found_at t rep serial names.placed names.at).0 ∙ names.is

  -- and the map has it
  pub get-Names : (t : Table E) (rep serial n : ℕ) (x : X) → AreApart key t.places → Names key t rep serial n x → get (records key t.places) n ≡ Some x
  get-Names t rep serial n x apart names = get-records key t.places n ∙ found_record_at key t.places rep n x apart (record_at-Names t rep serial n x names)

  -- an id with a number names a record
  pub number_names : (t : Table E) (rep serial : ℕ) → 0 < number_of key t rep serial → (x : X) × Names key t rep serial (number_of key t rep serial) x
  number_names t rep serial some = by_found (found t rep serial) refl
    where
      by_key : (p : Placed E) (e : Option (ℕ × X)) → found t rep serial ≡ Some p → key p.entry ≡ e → (x : X) × Names key t rep serial (number_of key t rep serial) x
      by_key p None at is = absurd (let none : number_of key t rep serial ≡ 0 = number_read t rep serial (Some p) at ∙ ap (λ e. number_in e) is in omega arith)
      by_key p (Some e) at is = (e.1, record { placed = p; at = at; is = is ∙ ap (λ n. Some (n, e.1)) (sym (number_of-found t rep serial e.0 e.1 p at is)) })

      by_found : (o : Option (Placed E)) → found t rep serial ≡ o → (x : X) × Names key t rep serial (number_of key t rep serial) x
      by_found None at = absurd (let none = number_read t rep serial None at in omega arith)
      by_found (Some p) at = by_key p (key p.entry) at refl

  pub number_found : (t : Table E) (rep serial : ℕ) → AreApart key t.places → 0 < number_of key t rep serial → NumberFound key t rep serial
  number_found t rep serial apart some =
      let one = number_names t rep serial some in
      record { placed = one.1.placed; held = one.0; at = one.1.at; is = one.1.is; got = get-Names t rep serial (number_of key t rep serial) one.0 apart one.1 }

  -- no number is above those that are found
  pub number_of-le : (t : Table E) (rep serial made : ℕ) → AreApart key t.places → ((n : ℕ) → made < n → found_record key n t.places ≡ None) → number_of key t rep serial ≤ made
  number_of-le t rep serial made apart later = elim (cases_lt made (number_of key t rep serial)) [
    | inl above ↦
        let one = number_found t rep serial apart (omega arith) in
        absurd (let none : get (records key t.places) (number_of key t rep serial) ≡ None = get-records key t.places (number_of key t rep serial) ∙ later (number_of key t rep serial) above in cc)
    | inr within ↦ within
  ]

  module _ (t : Table E) where
    -- after a push the new id has the number of the new entry, and every other id the number that it had
    pub number_of-pushed : (entry : E) (r s : ℕ) → IsTable t → number_of key (pushed entry t) r s ≡ (cond ((r == next_place t) && (s == t.given)) (number_in (key entry)) (number_of key t r s))
    unfolding number_of
    number_of-pushed entry r s table = ap (λ o. number_in (key_in key o)) (found-pushed t entry r s table) ∙ by_test ((r == next_place t) && (s == t.given))
      where
        by_test : (b : Bool) → number_in (key_in key (cond b (Some (record { serial = t.given; parent = None; entry = entry })) (found t r s))) ≡ cond b (number_in (key entry)) (number_in (key_in key (found t r s)))
        by_test true = refl
        by_test false = refl

    pub number_of-pushed_new : (entry : E) (rep serial : ℕ) → IsTable t → rep ≡ next_place t → serial ≡ t.given → number_of key (pushed entry t) rep serial ≡ number_in (key entry)
    number_of-pushed_new entry rep serial table place given =
        number_of-pushed entry rep serial table ∙ ap (λ b. cond b (number_in (key entry)) (number_of key t rep serial)) (and_from _ _ (eq-eqb rep (next_place t) place) (eq-eqb serial t.given given))

    -- an id that found an entry finds it still
    pub found-pushed_kept : (entry : E) (r s : ℕ) (p : Placed E) → IsTable t → found t r s ≡ Some p → found (pushed entry t) r s ≡ Some p
    found-pushed_kept entry r s p table at =
        found-pushed t entry r s table ∙ ap (λ b. cond b (Some (record { serial = t.given; parent = None; entry = entry })) (found t r s)) old ∙ at
      where
        old : ((r == next_place t) && (s == t.given)) ≡ false
        old = false_from_ne_true _ (λ both. let before = found_given t r s p table at in let same = eqb-true s t.given (and_parts _ _ both).1 in omega arith)

    pub number_of-pushed_kept : (entry : E) (r s : ℕ) → IsTable t → 0 < number_of key t r s → number_of key (pushed entry t) r s ≡ number_of key t r s
    number_of-pushed_kept entry r s table some =
        let one = number_names t r s some in
        number_read (pushed entry t) r s (Some one.1.placed) (found-pushed_kept entry r s one.1.placed table one.1.at) ∙ sym (number_read t r s (Some one.1.placed) one.1.at)

    -- the same, as the contract of a push says it
    pub number_of-Adds : (new : Table E) (rep serial : ℕ) (entry : E) → Adds t new rep serial entry → number_of key new rep serial ≡ number_in (key entry)
    number_of-Adds new rep serial entry adds = number_read new rep serial _ adds.added

    pub number_of-Adds_kept : (new : Table E) (rep serial : ℕ) (entry : E) (r s : ℕ) → Adds t new rep serial entry → 0 < number_of key t r s → number_of key new r s ≡ number_of key t r s
    number_of-Adds_kept new rep serial entry r s adds some =
        number_read new r s (found t r s) (adds.others r s (λ same. let none : number_of key t r s ≡ 0 = number_read t r s None (ap₂ (found t) same.0 same.1 ∙ adds.fresh) in omega arith)) ∙ sym (number_read t r s (found t r s) refl)

    pub number_of-Removes_other : (new : Table E) (rep r s : ℕ) → Removes t new rep → r ≢ rep → number_of key new r s ≡ number_of key t r s
    number_of-Removes_other new rep r s removes other = number_read new r s (found t r s) (removes.others r s other) ∙ sym (number_read t r s (found t r s) refl)

    -- a write under the same number keeps every number
    pub number_of-with_entry : (rep : ℕ) (entry : E) (r s : ℕ) → SameNumber (record_at key t.places rep) (key entry) → number_of key (with_entry rep entry t) r s ≡ number_of key t r s
    number_of-with_entry rep entry r s same = number_read (with_entry rep entry t) r s _ (found-with_entry t rep r s entry) ∙ by_found (found t r s) refl
      where
        equal : (d e : Option (ℕ × X)) → SameNumber d e → number_in e ≡ number_in d
        equal None None same = refl
        equal None (Some e) same = absurd same
        equal (Some d) None same = absurd same
        equal (Some d) (Some e) same = sym same

        by_found : (o : Option (Placed E)) → found t r s ≡ o → number_in (key_in key (cond (r == rep) (entry_put entry (found t r s)) (found t r s))) ≡ number_of key t r s
        by_found None at = ap (λ f. number_in (key_in key (cond (r == rep) (entry_put entry f) f))) at ∙ by_test (r == rep) ∙ sym (number_read t r s None at)
          where
            by_test : (b : Bool) → number_in (key_in key (cond b None None)) ≡ 0
            by_test true = refl
            by_test false = refl
        by_found (Some p) at = ap (λ f. number_in (key_in key (cond (r == rep) (entry_put entry f) f))) at ∙ elim (cases_eq r rep) [
          | inl here ↦
              ap (λ f. number_in (key_in key f)) (cond-same r rep (Some (record p { entry = entry })) (Some p) here)
              ∙ equal (key p.entry) (key entry) (subst (λ d. SameNumber d (key entry)) (ap (record_at key t.places) (sym here) ∙ ap (key_in key) (found_at t r s p at).0) same)
          | inr elsewhere ↦ ap (λ f. number_in (key_in key f)) (cond-other r rep (Some (record p { entry = entry })) (Some p) elsewhere)
        ] ∙ sym (number_read t r s (Some p) at)

    -- after a deletion an id of the place has no number, and every other id keeps its own
    pub number_of-deleted : (rep r s : ℕ) → number_of key (deleted rep t) r s ≡ (cond (r == rep) 0 (number_of key t r s))
    unfolding number_of
    number_of-deleted rep r s = ap (λ o. number_in (key_in key o)) (found-deleted t rep r s) ∙ by_test (r == rep)
      where
        by_test : (b : Bool) → number_in (key_in key (cond b None (found t r s))) ≡ cond b 0 (number_in (key_in key (found t r s)))
        by_test true = refl
        by_test false = refl

    pub number_of-deleted_other : (rep r s : ℕ) → r ≢ rep → number_of key (deleted rep t) r s ≡ number_of key t r s
    number_of-deleted_other rep r s elsewhere = number_of-deleted rep r s ∙ by_test (cases_Bool (r == rep))
      where
        by_test : ((r == rep) ≡ true) ⊎ ((r == rep) ≡ false) → (cond (r == rep) 0 (number_of key t r s)) ≡ number_of key t r s
        by_test (inl here) = absurd (elsewhere (eqb-true r rep here))
        by_test (inr other) = ap (λ b. cond b 0 (number_of key t r s)) other

    -- an id with another number than the deleted entry's keeps it
    pub number_of-deleted_apart : (rep r s : ℕ) → number_of key t r s ≢ number_in (record_at key t.places rep) → number_of key (deleted rep t) r s ≡ number_of key t r s
    number_of-deleted_apart rep r s differs = by_place (cases_eq r rep)
      where
        none_there : (n : ℕ) → number_of key t r s ≡ n → r ≡ rep → n ≡ 0
        none_there n is here = by_found (found t r s) refl
          where
            by_found : (o : Option (Placed E)) → found t r s ≡ o → n ≡ 0
            by_found None at = sym is ∙ number_read t r s None at
            by_found (Some p) at = absurd (differs (number_read t r s (Some p) at ∙ ap number_in (sym (ap (record_at key t.places) (sym here) ∙ ap (key_in key) (found_at t r s p at).0))))

        by_place : (r ≡ rep) ⊎ (r ≡ rep → ⊥) → number_of key (deleted rep t) r s ≡ number_of key t r s
        by_place (inl here) = number_of-deleted rep r s ∙ ap (λ b. cond b 0 (number_of key t r s)) (eq-eqb r rep here) ∙ sym (none_there (number_of key t r s) refl here)
        by_place (inr other) = number_of-deleted_other rep r s other

    pub number_of-with_parent : (rep : ℕ) (parent : Option ℕ) (r s : ℕ) → number_of key (with_parent rep parent t) r s ≡ number_of key t r s
    unfolding number_of
    number_of-with_parent rep parent r s = ap (λ o. number_in (key_in key o)) (found-with_parent t rep r s parent) ∙ by_test (r == rep) (found t r s)
      where
        by_test : (b : Bool) (o : Option (Placed E)) → number_in (key_in key (cond b (parent_put parent o) o)) ≡ number_in (key_in key o)
        by_test true None = refl
        by_test true (Some p) = refl
        by_test false o = refl

    pub number_of-with_capacity : (n r s : ℕ) → number_of key (with_capacity n t) r s ≡ number_of key t r s
    unfolding number_of
    number_of-with_capacity n r s = ap (λ o. number_in (key_in key o)) (found-with_capacity t n r s)
