-- What the changes of a table make of what its entries say, and what the chains of an index tell of the records that a machine searches.
use Rattle.std.proofs.Common.{◌≡◌, ◌||◌, ℕ, suc, Bool, true, false, cond, List, [], ◌∷◌, Option, Some, None, refl, sym, ap, ap₂, ◌∙◌}
use Rattle.std.proofs.lemmas.Bool.{eq-eqb, eqb-true, ne_eqb, or_parts}
use Rattle.std.specs.Cmp.{unsigned_tied}
use Rattle.std.specs.FinMap.Entries.{by_order, put}
use Rattle.std.specs.List.{list_any}
use Rattle.std.specs.Ordering.{is_eq, nat_cmp}
use Rattle.std.specs.declared.cmp.Ordering.{Ordering}
use Rattle.std.specs.declared.cmp.Ordering.TheVariants.{Less, Equal, Greater}
use Rattle.table_lists.proofs.Indexes.{filed_held, held_filed}
use Rattle.table_lists.specs.Index.{Filing, Holds, IsIndex, PassesAt, Tests, filings, said}
use Rattle.table_links.specs.Links.{Spot}
use Rattle.machine_data.specs.Maps.{Records, empty, insert}
use Rattle.task_table.proofs.Laws.{next_place_free, place_at-deleted, place_at-pushed, place_at-with_entry}
use Rattle.task_table.proofs.NumberLemmas.{number_of-found}
use Rattle.task_table.proofs.RecordLemmas.{found_record_at, get-records}
use Rattle.task_table.proofs.TableLemmas.{found_here}
use Rattle.task_table.specs.Changes.{deleted, entry_put, next_place, pushed, with_entry}
use Rattle.task_table.specs.Records.{AreApart, key_in, record_at, records, with_record}
use Rattle.task_table.specs.Table.{IsTable, Placed, Table, place_at}

module _ {E K P : Type 0} (says : ℕ → ℕ → E → Option (Filing K P)) (t : Table E) where
  pub filings_at : (r : ℕ) (o : Option (Placed E)) → place_at t r ≡ o → filings says t r ≡ said says r o
  unfolding filings
  filings_at r o at = ap (said says r) at

  pub filings-with_entry_here : (r : ℕ) (e : E) (p : Placed E) → place_at t r ≡ Some p → filings says (with_entry r e t) r ≡ says r p.serial e
  unfolding filings
  filings-with_entry_here r e p at = ap (said says r) (place_at-with_entry t r r e ∙ (ap (λ b. cond b (entry_put e (place_at t r)) (place_at t r)) (eq-eqb r r refl) ∙ ap (entry_put e) at))

  pub filings-with_entry_other : (rep : ℕ) (e : E) (r : ℕ) → (r ≡ rep → ⊥) → filings says (with_entry rep e t) r ≡ filings says t r
  unfolding filings
  filings-with_entry_other rep e r other = ap (said says r) (place_at-with_entry t rep r e ∙ ap (λ b. cond b (entry_put e (place_at t r)) (place_at t r)) (ne_eqb r rep other))

  pub filings-pushed_before : IsTable t → filings says t (next_place t) ≡ None
  unfolding filings
  filings-pushed_before table = ap (said says (next_place t)) (next_place_free t table)

  pub filings-pushed_here : (e : E) → IsTable t → filings says (pushed e t) (next_place t) ≡ says (next_place t) t.given e
  unfolding filings
  filings-pushed_here e table = ap (said says (next_place t)) (place_at-pushed t e (next_place t) table ∙ ap (λ b. cond b (Some (record { serial = t.given; parent = None; entry = e })) (place_at t (next_place t))) (eq-eqb (next_place t) (next_place t) refl))

  pub filings-pushed_other : (e : E) (r : ℕ) → IsTable t → (r ≡ next_place t → ⊥) → filings says (pushed e t) r ≡ filings says t r
  unfolding filings
  filings-pushed_other e r table other = ap (said says r) (place_at-pushed t e r table ∙ ap (λ b. cond b (Some (record { serial = t.given; parent = None; entry = e })) (place_at t r)) (ne_eqb r (next_place t) other))

  pub filings-deleted_here : (rep : ℕ) → filings says (deleted rep t) rep ≡ None
  unfolding filings
  filings-deleted_here rep = ap (said says rep) (place_at-deleted t rep rep ∙ ap (λ b. cond b None (place_at t rep)) (eq-eqb rep rep refl))

  pub filings-deleted_other : (rep r : ℕ) → (r ≡ rep → ⊥) → filings says (deleted rep t) r ≡ filings says t r
  unfolding filings
  filings-deleted_other rep r other = ap (said says r) (place_at-deleted t rep r ∙ ap (λ b. cond b None (place_at t r)) (ne_eqb r rep other))

-- ---- No record passes

module _ {X : Type 0} (test : ℕ × X → Bool) where
  none_put : (n : ℕ) (x : X) → test (n, x) ≡ false → (es : List (ℕ × X)) → list_any test es ≡ false → list_any test (put nat_cmp n x es) ≡ false
  none_put n x new [] none = ap (λ b. b || false) new
  none_put n x new (e ∷ es) none = by (nat_cmp n e.0) refl (or_parts (test e) (list_any test es) none).0 (none_put n x new es (or_parts (test e) (list_any test es) none).1)
    where
      same : nat_cmp n e.0 ≡ Equal → e.0 ≡ n
      same tied = sym (eqb-true n e.0 (sym (unsigned_tied n e.0) ∙ ap is_eq tied))

      by : (o : Ordering) → nat_cmp n e.0 ≡ o → test e ≡ false → list_any test (put nat_cmp n x es) ≡ false → list_any test (by_order o ((n, x) ∷ e ∷ es) ((e.0, x) ∷ es) (e ∷ put nat_cmp n x es)) ≡ false
      by Less is off more = ap₂ (λ a b. a || b) new none
      by Equal is off more = ap₂ (λ a b. a || b) (ap (λ k. test (k, x)) (same is) ∙ new) (or_parts (test e) (list_any test es) none).1
      by Greater is off more = ap₂ (λ a b. a || b) off more

  module _ {E : Type 0} (record_key : E → Option (ℕ × X)) where
    none_inserted : (x : ℕ × X) (m : Records X) → test x ≡ false → list_any test m.list ≡ false → list_any test (insert m x.0 x.1).list ≡ false
    unfolding insert
    none_inserted x m new none = none_put x.0 x.1 new m.list none

    none_more : (o : Option (ℕ × X)) (m : Records X) → ((x : ℕ × X) → o ≡ Some x → test x ≡ false) → list_any test m.list ≡ false → list_any test (with_record o m).list ≡ false
    none_more None m new none = none
    none_more (Some x) m new none = none_inserted x m (new x refl) none

    nothing : list_any test (empty {X = X}).list ≡ false
    unfolding empty
    nothing = refl

    pub none_in_records : (places : List (Option (Placed E))) → ((r : ℕ) (x : ℕ × X) → record_at record_key places r ≡ Some x → test x ≡ false) → list_any test (records record_key places).list ≡ false
    unfolding records
    none_in_records [] none = nothing
    none_in_records (o ∷ os) none = none_more (key_in record_key o) (records record_key os) (none 0) (none_in_records os (λ r x at. none (suc r) x at))

-- ---- What the chain of a key tells

module _ {E K P X : Type 0} (says : ℕ → ℕ → E → Option (Filing K P)) (chain : K → Option ℕ) (t : Table E) (links : List (Spot P)) (index : IsIndex chain links (filings says t)) (k : K) (c : ℕ) (has : chain k ≡ Some c) (record_key : E → Option (ℕ × X)) (test : ℕ × X → Bool) (tests : Tests says record_key k test) where
  -- where it is empty, no record passes
  pub none_passes : ((v : P) → Holds links c v → ⊥) → list_any test (records record_key t.places).list ≡ false
  none_passes empty = none_in_records test record_key t.places (λ r x at. by_test r x (place_at t r) refl at (test x) refl)
    where
      by_entry : (r : ℕ) (x : ℕ × X) (o : Option (Placed E)) → place_at t r ≡ o → key_in record_key o ≡ Some x → test x ≡ true → ⊥
      by_entry r x None at is passes = absurd (cc)
      by_entry r x (Some p) at is passes =
          let f = tests.filed r p.serial p.entry x is passes in
          empty f.0.value (filed_held chain links (filings says t) index k c has f.0.value (r, (f.0, (filings_at says t r (Some p) at ∙ f.1.0, (f.1.1, refl)))))

      by_test : (r : ℕ) (x : ℕ × X) (o : Option (Placed E)) → place_at t r ≡ o → key_in record_key o ≡ Some x → (b : Bool) → test x ≡ b → b ≡ false
      by_test r x o at is true passes = absurd (by_entry r x o at is passes)
      by_test r x o at is false passes = refl

  -- what it holds is the value of a record that passes
  pub held_passes : AreApart record_key t.places → (v : P) → Holds links c v → PassesAt says t record_key test v
  held_passes apart v h = let i = held_filed chain links (filings says t) index k c has v h in by_place i.0 i.1.0 (place_at t i.0) refl i.1.1.0 i.1.1.1.0 i.1.1.1.1
    where
      by_place : (r : ℕ) (f : Filing K P) (o : Option (Placed E)) → place_at t r ≡ o → filings says t r ≡ Some f → f.key ≡ Some k → f.value ≡ v → PassesAt says t record_key test v
      by_place r f None at is key value = absurd (let two = sym (filings_at says t r None at) ∙ is in cc)
      by_place r f (Some p) at is key value =
          let said_here = sym (filings_at says t r (Some p) at) ∙ is in
          let x = tests.passes r p.serial p.entry f said_here key in
          record {
            place = r;
            placed = p;
            filed = f;
            entry = x.0;
            stands = at;
            is_said = said_here;
            is_value = value;
            is_named = number_of-found record_key t r p.serial x.0.0 x.0.1 p (found_here t r p at) x.1.0;
            is_found = get-records record_key t.places x.0.0 ∙ found_record_at record_key t.places r x.0.0 x.0.1 apart (ap (key_in record_key) at ∙ x.1.0);
            passes = x.1.1;
          }
