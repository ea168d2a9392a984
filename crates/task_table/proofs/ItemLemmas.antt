-- The items that a table's calls give, as records of their kinds. The premises are as the calls' contracts say them.
use Rattle.std.proofs.Common.{◌≡◌, ℕ, ◌<◌, zero, suc, Option, Some, None, Result, Ok, Err, ok_or, refl, sym, ap, subst, ◌∙◌, arith}
use Rattle.machine_data.specs.Maps.{get}
use Rattle.task_table.specs.declared.error.ResourceTableError.{ResourceTableError}
use Rattle.task_table.specs.declared.error.ResourceTableError.TheVariants.{WrongType}
use Rattle.task_table.specs.Table.{Table, Placed, found, children_of}
use Rattle.task_table.specs.TableAnswers.{item_in, item_at, deletion, unless_children}
use Rattle.task_table.specs.Changes.{deleted, with_entry}
use Rattle.task_table.specs.Records.{key_in, record_at, with_record, without_record, records, number_of, SameNumber, AreApart, Names}
use Rattle.task_table.proofs.TableLemmas.{found_at, item_found}
use Rattle.task_table.proofs.RecordLemmas.{get-records, found_record_at}
use Rattle.task_table.proofs.RecordChangeLemmas.{records-with_entry, AreApart-with_entry, records-deleted}
use Rattle.task_table.proofs.NumberLemmas.{number_names, number_of-found, number_of-with_entry}

-- without children it is refused only as a read is
pub deletion_refused : {E Item : Type 0} (item_of : E → Option Item) (t : Table E) (rep serial : ℕ) (why : ResourceTableError) → Err why ≡ deletion item_of t rep serial → children_of t rep ≡ 0 → Err why ≡ item_at item_of t rep serial
deletion_refused {E} {Item} item_of t rep serial why is childless = is ∙ ap (λ n. unless_children n (item_at item_of t rep serial)) childless ∙ by_answer (item_at item_of t rep serial)
  where
    by_answer : (r : Result Item ResourceTableError) → unless_children 0 r ≡ r
    by_answer (Err e) = refl
    by_answer (Ok x) = refl

module _ {E Item : Type 0} (item_of : E → Option Item) (entry_of : Item → E) (no_other : (entry : E) (item : Item) → item_of entry ≡ Some item → entry_of item ≡ entry) where
  -- an id with an item finds the entry that the kind makes of it
  pub item_entry : (t : Table E) (rep serial : ℕ) (item : Item) → Ok item ≡ item_at item_of t rep serial → (p : Placed E) × (found t rep serial ≡ Some p) × (p.entry ≡ entry_of item)
  item_entry t rep serial item is =
      let one = item_found item_of t rep serial item (sym is) in
      (one.0, one.1, sym (no_other one.0.entry item one.2))

  module _ {X : Type 0} (key : E → Option (ℕ × X)) (t : Table E) (rep serial : ℕ) (item : Item) (is : Ok item ≡ item_at item_of t rep serial) where
    -- what a key tells of the entry at the place of the id
    pub record_at-item : record_at key t.places rep ≡ key (entry_of item)
    record_at-item = let one = item_entry t rep serial item is in ap (key_in key) (found_at t rep serial one.0 one.1).0 ∙ ap key one.2

    -- the id names the item's record
    pub Names-item : (n : ℕ) (x : X) → key (entry_of item) ≡ Some (n, x) → Names key t rep serial n x
    Names-item n x of_kind = let one = item_entry t rep serial item is in record { placed = one.0; at = one.1; is = ap key one.2 ∙ of_kind }

    pub number_of-item : (n : ℕ) (x : X) → key (entry_of item) ≡ Some (n, x) → number_of key t rep serial ≡ n
    number_of-item n x of_kind = let one = Names-item n x of_kind in number_of-found key t rep serial n x one.placed one.at one.is

    -- and the map has it
    pub get-item : (n : ℕ) (x : X) → key (entry_of item) ≡ Some (n, x) → AreApart key t.places → get (records key t.places) n ≡ Some x
    get-item n x of_kind apart = get-records key t.places n ∙ found_record_at key t.places rep n x apart (record_at-item ∙ of_kind)

    pub get-item_number : (n : ℕ) (x : X) → key (entry_of item) ≡ Some (n, x) → AreApart key t.places → get (records key t.places) (number_of key t rep serial) ≡ Some x
    get-item_number n x of_kind apart = ap (get (records key t.places)) (number_of-item n x of_kind) ∙ get-item n x of_kind apart

    same_number : (entry : E) → SameNumber (key (entry_of item)) (key entry) → SameNumber (record_at key t.places rep) (key entry)
    same_number entry same = subst (λ d. SameNumber d (key entry)) (sym record_at-item) same

    -- another item written there
    pub records-item_written : (entry : E) → AreApart key t.places → SameNumber (key (entry_of item)) (key entry) → records key (with_entry rep entry t).places ≡ with_record (key entry) (records key t.places)
    records-item_written entry apart same = records-with_entry key t rep entry apart (same_number entry same)

    pub AreApart-item_written : (entry : E) → AreApart key t.places → SameNumber (key (entry_of item)) (key entry) → AreApart key (with_entry rep entry t).places
    AreApart-item_written entry apart same = AreApart-with_entry key t rep entry apart (same_number entry same)

    pub number_of-item_written : (entry : E) (r s : ℕ) → SameNumber (key (entry_of item)) (key entry) → number_of key (with_entry rep entry t) r s ≡ number_of key t r s
    number_of-item_written entry r s same = number_of-with_entry key t rep entry r s (same_number entry same)

    -- the item taken out
    pub records-item_deleted : AreApart key t.places → records key (deleted rep t).places ≡ without_record (key (entry_of item)) (records key t.places)
    records-item_deleted apart = records-deleted key t rep apart ∙ ap (λ e. without_record e (records key t.places)) record_at-item

  -- a kind whose entries all have a number
  module _ {X : Type 0} (key : E → Option (ℕ × X)) (of_kind : (entry : E) → item_of entry ≡ None → key entry ≡ None) (t : Table E) (rep serial : ℕ) where
    -- an id that is refused has no number
    pub number_of-refused : (why : ResourceTableError) → Err why ≡ item_at item_of t rep serial → number_of key t rep serial ≡ 0
    number_of-refused why is = by_number (number_of key t rep serial) refl
      where
        not_refused : (p : Placed E) (e : ℕ × X) (o : Option Item) → item_of p.entry ≡ o → key p.entry ≡ Some e → Err why ≡ ok_or o WrongType → ⊥
        not_refused p e None none some refused = let other = of_kind p.entry none in cc
        not_refused p e (Some x) item some refused = cc

        by_number : (n : ℕ) → number_of key t rep serial ≡ n → n ≡ 0
        by_number zero same = refl
        by_number (suc n) same =
            let one = number_names key t rep serial (omega arith) in
            absurd (not_refused one.1.placed (number_of key t rep serial, one.0) (item_of one.1.placed.entry) refl one.1.is (is ∙ ap (item_in item_of) one.1.at))

    -- an id with a number has an item
    pub item_there : 0 < number_of key t rep serial → (item : Item) × (Ok item ≡ item_at item_of t rep serial)
    item_there some = by_answer (item_at item_of t rep serial) refl
      where
        by_answer : (r : Result Item ResourceTableError) → item_at item_of t rep serial ≡ r → (item : Item) × (Ok item ≡ item_at item_of t rep serial)
        by_answer (Ok item) is = (item, sym is)
        by_answer (Err why) is = absurd (let none = number_of-refused why (sym is) in omega arith)
