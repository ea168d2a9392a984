-- What each change of a table does to the records of a kind.
use Rattle.std.proofs.Common.{◌≡◌, ℕ, ◌==◌, inl, inr, cond, List, Option, Some, None, refl, sym, ap, ◌∙◌}
use Rattle.std.proofs.lemmas.Bool.{cases_eq}
use Rattle.machine_data.specs.Maps.{change}
use Rattle.machine_data.proofs.MapLemmas.{insert_is_change}
use Rattle.task_table.specs.Table.{Table, Placed, IsTable, place_at, new_table}
use Rattle.task_table.specs.Changes.{pushed, next_place, deleted, with_entry, entry_put, with_parent, parent_put, with_capacity}
use Rattle.task_table.specs.Records.{key_in, record_at, with_record, without_record, records, or_record, but_record, found_record, IsNew, SameNumber, AreApart, KeepsRecords, PutsRecord, TakesRecord}
use Rattle.task_table.proofs.Laws.{next_place_free, place_at-pushed, place_at-deleted, place_at-with_entry, place_at-with_parent}
use Rattle.task_table.proofs.RecordLemmas.{cond-same, cond-other, get-records, found_record_at, keeps, puts, takes}

module _ {E X : Type 0} (key : E → Option (ℕ × X)) where
  pub AreApart-new_table : AreApart key (new_table {E = E}).places
  AreApart-new_table = record { one_place = λ r s n x y at_r at_s. absurd (cc) }

  module _ (t : Table E) where
    key_same : (p : Option (Placed E)) (r rep : ℕ) (q : Option (Placed E)) → r ≡ rep → key_in key (cond (r == rep) p q) ≡ key_in key p
    key_same p r rep q same = ap (key_in key) (cond-same r rep p q same)

    key_other : (p : Option (Placed E)) (r rep : ℕ) (q : Option (Placed E)) → (r ≡ rep → ⊥) → key_in key (cond (r == rep) p q) ≡ key_in key q
    key_other p r rep q other = ap (key_in key) (cond-other r rep p q other)

    -- a push of an entry of another kind
    pub KeepsRecords-pushed : (entry : E) → IsTable t → AreApart key t.places → key entry ≡ None → KeepsRecords key t.places (pushed entry t).places
    KeepsRecords-pushed entry table apart other = keeps key t.places (pushed entry t).places apart (λ r. ap (key_in key) (place_at-pushed t entry r table) ∙ elim (cases_eq r (next_place t)) [
      | inl here ↦ key_same _ r (next_place t) (place_at t r) here ∙ other ∙ sym (ap (λ n. record_at key t.places n) here ∙ ap (key_in key) (next_place_free t table))
      | inr elsewhere ↦ key_other _ r (next_place t) (place_at t r) elsewhere
    ])

    -- a push of an entry of the kind, under a number that is nowhere yet
    pub PutsRecord-pushed : (entry : E) (n : ℕ) (y : X) → IsTable t → AreApart key t.places → key entry ≡ Some (n, y) → found_record key n t.places ≡ None → PutsRecord key t.places (pushed entry t).places n y
    PutsRecord-pushed entry n y table apart is new =
        puts key t.places (pushed entry t).places apart (next_place t) n y
        (ap (key_in key) (place_at-pushed t entry (next_place t) table) ∙ key_same _ (next_place t) (next_place t) (place_at t (next_place t)) refl ∙ is)
        (λ r elsewhere. ap (key_in key) (place_at-pushed t entry r table) ∙ key_other _ r (next_place t) (place_at t r) elsewhere)
        (λ r x at. absurd (let there = found_record_at key t.places r n x apart at in cc))
        (λ m x at. absurd (let free : record_at key t.places (next_place t) ≡ None = ap (key_in key) (next_place_free t table) in cc))

    -- another entry at a place, where neither is of the kind
    pub KeepsRecords-with_entry : (rep : ℕ) (entry : E) → AreApart key t.places → record_at key t.places rep ≡ None → key entry ≡ None → KeepsRecords key t.places (with_entry rep entry t).places
    KeepsRecords-with_entry rep entry apart was other = keeps key t.places (with_entry rep entry t).places apart (λ r. ap (key_in key) (place_at-with_entry t rep r entry) ∙ elim (cases_eq r rep) [
      | inl here ↦ key_same _ r rep (place_at t r) here ∙ put (place_at t r) ∙ sym (ap (λ n. record_at key t.places n) here ∙ was)
      | inr elsewhere ↦ key_other _ r rep (place_at t r) elsewhere
    ])
      where
        put : (o : Option (Placed E)) → key_in key (entry_put entry o) ≡ None
        put None = refl
        put (Some p) = other

    -- another entry at a place, under the same number
    pub PutsRecord-with_entry : (rep : ℕ) (entry : E) (n : ℕ) (x y : X) → AreApart key t.places → record_at key t.places rep ≡ Some (n, x) → key entry ≡ Some (n, y) → PutsRecord key t.places (with_entry rep entry t).places n y
    PutsRecord-with_entry rep entry n x y apart was is =
        puts key t.places (with_entry rep entry t).places apart rep n y
        (ap (key_in key) (place_at-with_entry t rep rep entry) ∙ key_same _ rep rep (place_at t rep) refl ∙ put (place_at t rep) was)
        (λ r elsewhere. ap (key_in key) (place_at-with_entry t rep r entry) ∙ key_other _ r rep (place_at t r) elsewhere)
        (λ r z at. apart.one_place r rep n z x at was)
        (λ m z at. ap (λ o. number o) (sym at ∙ was))
      where
        number : Option (ℕ × X) → ℕ
        number None = 0
        number (Some e) = e.0

        put : (o : Option (Placed E)) → key_in key o ≡ Some (n, x) → key_in key (entry_put entry o) ≡ Some (n, y)
        put None none = absurd (cc)
        put (Some p) there = is

    -- a deletion of an entry of another kind
    pub KeepsRecords-deleted : (rep : ℕ) → AreApart key t.places → record_at key t.places rep ≡ None → KeepsRecords key t.places (deleted rep t).places
    KeepsRecords-deleted rep apart was = keeps key t.places (deleted rep t).places apart (λ r. ap (key_in key) (place_at-deleted t rep r) ∙ elim (cases_eq r rep) [
      | inl here ↦ key_same None r rep (place_at t r) here ∙ sym (ap (λ n. record_at key t.places n) here ∙ was)
      | inr elsewhere ↦ key_other None r rep (place_at t r) elsewhere
    ])

    -- a deletion of an entry of the kind
    pub TakesRecord-deleted : (rep n : ℕ) (x : X) → AreApart key t.places → record_at key t.places rep ≡ Some (n, x) → TakesRecord key t.places (deleted rep t).places n
    TakesRecord-deleted rep n x apart was =
        takes key t.places (deleted rep t).places apart rep n x
        (ap (key_in key) (place_at-deleted t rep rep) ∙ key_same None rep rep (place_at t rep) refl)
        (λ r elsewhere. ap (key_in key) (place_at-deleted t rep r) ∙ key_other None r rep (place_at t r) elsewhere)
        was

    -- another parent at a place
    pub KeepsRecords-with_parent : (rep : ℕ) (parent : Option ℕ) → AreApart key t.places → KeepsRecords key t.places (with_parent rep parent t).places
    KeepsRecords-with_parent rep parent apart = keeps key t.places (with_parent rep parent t).places apart (λ r. ap (key_in key) (place_at-with_parent t rep r parent) ∙ elim (cases_eq r rep) [
      | inl here ↦ key_same _ r rep (place_at t r) here ∙ put (place_at t r)
      | inr elsewhere ↦ key_other _ r rep (place_at t r) elsewhere
    ])
      where
        put : (o : Option (Placed E)) → key_in key (parent_put parent o) ≡ key_in key o
        put None = refl
        put (Some p) = refl

    pub KeepsRecords-with_capacity : (n : ℕ) → AreApart key t.places → KeepsRecords key t.places (with_capacity n t).places
    unfolding with_capacity
    KeepsRecords-with_capacity n apart = record { map = refl; apart = apart; found = λ q. refl }

    -- the same as equations in what is at the place and in the new entry, whether they are of the kind or not
    record IsPut (new : List (Option (Placed E))) (e : Option (ℕ × X)) : Type 0 where
      map : records key new ≡ with_record e (records key t.places)
      apart : AreApart key new
      found : (q : ℕ) → found_record key q new ≡ or_record q e (found_record key q t.places)

    after_push : (entry : E) (e : Option (ℕ × X)) → key entry ≡ e → IsTable t → AreApart key t.places → IsNew key t.places e → IsPut (pushed entry t).places e
    after_push entry None is table apart new = let kept = KeepsRecords-pushed entry table apart is in record { map = kept.map; apart = kept.apart; found = kept.found }
    after_push entry (Some e) is table apart new = let put = PutsRecord-pushed entry e.0 e.1 table apart is new in record { map = put.map; apart = put.apart; found = put.found }

    pub records-pushed : (entry : E) → IsTable t → AreApart key t.places → IsNew key t.places (key entry) → records key (pushed entry t).places ≡ with_record (key entry) (records key t.places)
    records-pushed entry table apart new = (after_push entry (key entry) refl table apart new).map

    pub AreApart-pushed : (entry : E) → IsTable t → AreApart key t.places → IsNew key t.places (key entry) → AreApart key (pushed entry t).places
    AreApart-pushed entry table apart new = (after_push entry (key entry) refl table apart new).apart

    pub found_record-pushed : (entry : E) (q : ℕ) → IsTable t → AreApart key t.places → IsNew key t.places (key entry) → found_record key q (pushed entry t).places ≡ or_record q (key entry) (found_record key q t.places)
    found_record-pushed entry q table apart new = (after_push entry (key entry) refl table apart new).found q

    after_write : (rep : ℕ) (entry : E) (d e : Option (ℕ × X)) → record_at key t.places rep ≡ d → key entry ≡ e → AreApart key t.places → SameNumber d e → IsPut (with_entry rep entry t).places e
    after_write rep entry None None was is apart same = let kept = KeepsRecords-with_entry rep entry apart was is in record { map = kept.map; apart = kept.apart; found = kept.found }
    after_write rep entry None (Some e) was is apart same = absurd same
    after_write rep entry (Some d) None was is apart same = absurd same
    after_write rep entry (Some d) (Some e) was is apart same =
        let put = PutsRecord-with_entry rep entry e.0 d.1 e.1 apart (was ∙ ap (λ n. Some (n, d.1)) same) is in
        record { map = put.map; apart = put.apart; found = put.found }

    pub records-with_entry : (rep : ℕ) (entry : E) → AreApart key t.places → SameNumber (record_at key t.places rep) (key entry) → records key (with_entry rep entry t).places ≡ with_record (key entry) (records key t.places)
    records-with_entry rep entry apart same = (after_write rep entry (record_at key t.places rep) (key entry) refl refl apart same).map

    pub AreApart-with_entry : (rep : ℕ) (entry : E) → AreApart key t.places → SameNumber (record_at key t.places rep) (key entry) → AreApart key (with_entry rep entry t).places
    AreApart-with_entry rep entry apart same = (after_write rep entry (record_at key t.places rep) (key entry) refl refl apart same).apart

    pub found_record-with_entry : (rep : ℕ) (entry : E) (q : ℕ) → AreApart key t.places → SameNumber (record_at key t.places rep) (key entry) → found_record key q (with_entry rep entry t).places ≡ or_record q (key entry) (found_record key q t.places)
    found_record-with_entry rep entry q apart same = (after_write rep entry (record_at key t.places rep) (key entry) refl refl apart same).found q

    -- a write at a place of the kind changes the record of its number
    pub records-with_entry_change : (rep : ℕ) (entry : E) (n : ℕ) (x y : X) → AreApart key t.places → record_at key t.places rep ≡ Some (n, x) → key entry ≡ Some (n, y) → records key (with_entry rep entry t).places ≡ change n (λ _. y) (records key t.places)
    records-with_entry_change rep entry n x y apart was is =
        (PutsRecord-with_entry rep entry n x y apart was is).map
        ∙ insert_is_change (records key t.places) n (λ _. y) x (get-records key t.places n ∙ found_record_at key t.places rep n x apart was)

    record IsTaken (new : List (Option (Placed E))) (e : Option (ℕ × X)) : Type 0 where
      map : records key new ≡ without_record e (records key t.places)
      apart : AreApart key new
      found : (q : ℕ) → found_record key q new ≡ but_record q e (found_record key q t.places)

    after_deletion : (rep : ℕ) (e : Option (ℕ × X)) → record_at key t.places rep ≡ e → AreApart key t.places → IsTaken (deleted rep t).places e
    after_deletion rep None was apart = let kept = KeepsRecords-deleted rep apart was in record { map = kept.map; apart = kept.apart; found = kept.found }
    after_deletion rep (Some e) was apart = let taken = TakesRecord-deleted rep e.0 e.1 apart was in record { map = taken.map; apart = taken.apart; found = taken.found }

    pub records-deleted : (rep : ℕ) → AreApart key t.places → records key (deleted rep t).places ≡ without_record (record_at key t.places rep) (records key t.places)
    records-deleted rep apart = (after_deletion rep (record_at key t.places rep) refl apart).map

    pub AreApart-deleted : (rep : ℕ) → AreApart key t.places → AreApart key (deleted rep t).places
    AreApart-deleted rep apart = (after_deletion rep (record_at key t.places rep) refl apart).apart

    pub found_record-deleted : (rep q : ℕ) → AreApart key t.places → found_record key q (deleted rep t).places ≡ but_record q (record_at key t.places rep) (found_record key q t.places)
    found_record-deleted rep q apart = (after_deletion rep (record_at key t.places rep) refl apart).found q

    pub records-with_parent : (rep : ℕ) (parent : Option ℕ) → AreApart key t.places → records key (with_parent rep parent t).places ≡ records key t.places
    records-with_parent rep parent apart = (KeepsRecords-with_parent rep parent apart).map

    pub AreApart-with_parent : (rep : ℕ) (parent : Option ℕ) → AreApart key t.places → AreApart key (with_parent rep parent t).places
    AreApart-with_parent rep parent apart = (KeepsRecords-with_parent rep parent apart).apart

    pub found_record-with_parent : (rep : ℕ) (parent : Option ℕ) (q : ℕ) → AreApart key t.places → found_record key q (with_parent rep parent t).places ≡ found_record key q t.places
    found_record-with_parent rep parent q apart = (KeepsRecords-with_parent rep parent apart).found q

    pub records-with_capacity : (n : ℕ) → records key (with_capacity n t).places ≡ records key t.places
    unfolding with_capacity
    records-with_capacity n = refl

    pub AreApart-with_capacity : (n : ℕ) → AreApart key t.places → AreApart key (with_capacity n t).places
    unfolding with_capacity
    AreApart-with_capacity n apart = apart

    pub found_record-with_capacity : (n q : ℕ) → found_record key q (with_capacity n t).places ≡ found_record key q t.places
    unfolding with_capacity
    found_record-with_capacity n q = refl
