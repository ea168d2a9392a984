-- A table with an entry more: what was there is there still, and the new one has nodes of its own.
use Rattle.core_records.proofs.Core.{[], ap, arith, Bool, cases_eq, children_of-mapped, cond, Each, EachEntry, entry_put, eq-eqb, false, Filing, filings, found_record, found_record_at, get, get-insert, get-records, HasNumber, HaveNodes, inl, inr, insert, is_made, IsIndex, IsIndex-pushed, IsRows, IsTable, IsTable-mapped, key_in, link_for, List, mapped, nat_lt, ne_eqb, next_place, next_place_free, None, number_in, on_item, one_if_passes, Option, option_map, passing, passing-with_at, place_at, place_at-mapped, place_at-pushed, place_at-with_entry, Placed, placed_as, pushed, record_at, Records, records, refl, said, same_Some, keyed, size, size-insert_new, Some, SoundTable, Spot, subst, sym, Table, true, with_entry, ℕ, ◌+◌, ◌<◌, ◌==◌, ◌∙◌, ◌∷◌, ◌≡◌, ◌≤◌, ◌⊎◌}
use Rattle.core_records.specs.declared.{single.Single.Single}
use Rattle.core_makes.specs.Loose.{IsSpare}
use Rattle.core_records.proofs.MakeLemmas.{records_more}
use Rattle.core_records.proofs.TableLemmas.{found_mapped}

-- ---- Rows whose entries are known otherwise

each_known : {P : Type 0} (Known Knows : P → Type 0) → ((x : P) → Known x → Knows x) → (xs : List P) → Each Known xs → Each Knows xs
each_known Known Knows more [] each = tt
each_known Known Knows more (x ∷ xs) each = (more x each.0, each_known Known Knows more xs each.1)

pub IsRows-known : {K P : Type 0} (chain : K → Option ℕ) (node : P → ℕ) (Known Knows : P → Type 0) (links : List (Spot P)) (list : K → List P) → ((x : P) → Known x → Knows x) → IsRows chain node Known links list → IsRows chain node Knows links list
IsRows-known chain node Known Knows links list more rows = record {
  live = rows.live;
  own_chain = rows.own_chain;
  has_list = rows.has_list;
  all_known = λ k c at. each_known Known Knows more (list k) (rows.all_known k c at);
  owner = rows.owner;
}

-- ---- An entry that is pushed

module _ {T : Type 0} (t : Table (Single T)) (g : T) (table : IsTable t) where
  abbrev pub more : Table (Single T)
  more = pushed (record { item = g }) t

  abbrev pub one : Placed (Single T)
  one = record { serial = t.given; parent = None; entry = record { item = g } }

  pub at_new : place_at more (next_place t) ≡ Some one
  at_new = place_at-pushed t (record { item = g }) (next_place t) table ∙ ap (λ b. cond b (Some one) (place_at t (next_place t))) (eq-eqb (next_place t) (next_place t) refl)

  pub at_other : (r : ℕ) → (r ≡ next_place t → ⊥) → place_at more r ≡ place_at t r
  at_other r other = place_at-pushed t (record { item = g }) r table ∙ ap (λ b. cond b (Some one) (place_at t r)) (ne_eqb r (next_place t) other)

  taken_other : (r : ℕ) (q : Placed (Single T)) → place_at t r ≡ Some q → r ≡ next_place t → ⊥
  taken_other r q at same = no_one (sym (next_place_free t table) ∙ (ap (place_at t) (sym same) ∙ at))
    where
      no_one : ◌≡◌ {A = Option (Placed (Single T))} None (Some q) → ⊥
      no_one is = absurd (cc)

  pub stays : (r : ℕ) (q : Placed (Single T)) → place_at t r ≡ Some q → place_at more r ≡ Some q
  stays r q at = at_other r (taken_other r q at) ∙ at

  pub new_or_old : (r : ℕ) (q : Placed (Single T)) → place_at more r ≡ Some q → ((r ≡ next_place t) × (q ≡ one)) ⊎ (place_at t r ≡ Some q)
  new_or_old r q at = elim (cases_eq r (next_place t)) [
    | inl same ↦ inl (same, sym (same_Some one q (sym at_new ∙ (ap (place_at more) (sym same) ∙ at))))
    | inr other ↦ inr (sym (at_other r other) ∙ at)
  ]

  pub order_key_stays : {Q : Type 0} (order_key : ℕ → T → Q) (r : ℕ) (x : Q) → keyed order_key t r ≡ Some x → keyed order_key more r ≡ Some x
  order_key_stays {Q} order_key r x is = by (place_at t r) refl is
    where
      by : (o : Option (Placed (Single T))) → place_at t r ≡ o → option_map (λ (p : Placed (Single T)). order_key r p.entry.item) o ≡ Some x → keyed order_key more r ≡ Some x
      by None at is = absurd (cc)
      by (Some q) at is = ap (option_map (λ (p : Placed (Single T)). order_key r p.entry.item)) (stays r q at) ∙ is

  pub number_stays : {X : Type 0} (key : Single T → Option (ℕ × X)) (r n : ℕ) → HasNumber key t r n → 0 < n → HasNumber key more r n
  number_stays key r n has some = elim (cases_eq r (next_place t)) [
    | inl same ↦ absurd (let zero : 0 ≡ n = sym (ap (λ o. number_in (key_in key o)) (ap (place_at t) same ∙ next_place_free t table)) ∙ has in omega (arith, some))
    | inr other ↦ ap (λ o. number_in (key_in key o)) (at_other r other) ∙ has
  ]

  module _ {P : Type 0} (node : T → ℕ) (links : List (Spot P)) (spare : IsSpare node t links (node g)) where
    pub nodes_more : HaveNodes node t links → HaveNodes node more links
    nodes_more have = record {
      made = λ r q at. elim (new_or_old r q at) [
        | inl new ↦ subst (λ (z : Placed (Single T)). is_made links (node z.entry.item) ≡ true) (sym new.1) spare.made
        | inr old ↦ have.made r q old
      ];
      own = λ r s q w at_q at_w same. elim (new_or_old r q at_q) [
        | inl new_q ↦ elim (new_or_old s w at_w) [
          | inl new_w ↦ new_q.0 ∙ sym new_w.0
          | inr old_w ↦ absurd (spare.apart s w old_w (sym same ∙ ap (λ (z : Placed (Single T)). node z.entry.item) new_q.1))
        ]
        | inr old_q ↦ elim (new_or_old s w at_w) [
          | inl new_w ↦ absurd (spare.apart r q old_q (same ∙ ap (λ (z : Placed (Single T)). node z.entry.item) new_w.1))
          | inr old_w ↦ have.own r s q w old_q old_w same
        ]
      ];
    }

  -- it is filed nowhere
  module _ {K P : Type 0} (node : T → ℕ) (key_of : T → Option K) (value : ℕ → T → P) (links : List (Spot P)) (spare : IsSpare node t links (node g)) (chain : K → Option ℕ) where
    abbrev pub says : ℕ → ℕ → Single T → Option (Filing K P)
    says r serial e = Some (record { node = node e.item; key = key_of e.item; value = value r e.item })

    apart : (r : ℕ) (f : Filing K P) → filings says t r ≡ Some f → f.node ≡ node g → ⊥
    unfolding filings
    apart r f is same = by (place_at t r) refl is
      where
        by : (o : Option (Placed (Single T))) → place_at t r ≡ o → said says r o ≡ Some f → ⊥
        by None at is = absurd (cc)
        by (Some q) at is = spare.apart r q at (ap (λ (h : Filing K P). h.node) (same_Some _ f is) ∙ same)

    pub index_more : IsIndex chain links (filings says t) → key_of g ≡ None → IsIndex chain links (filings says more)
    index_more index unfiled = IsIndex-pushed says chain t links index table (record { item = g }) (record { node = node g; key = key_of g; value = value (next_place t) g }) refl spare.made (spare.free ∙ sym (ap (λ (k : Option K). link_for chain (record { node = node g; key = k; value = value (next_place t) g })) unfiled)) apart

-- ---- An entry that is written

module _ {T : Type 0} (t : Table (Single T)) (rep : ℕ) (q : Placed (Single T)) (at : place_at t rep ≡ Some q) (h : T) where
  abbrev pub written : Table (Single T)
  written = with_entry rep (record { item = h }) t

  pub at_written : place_at written rep ≡ Some (record q { entry = record { item = h } })
  at_written = place_at-with_entry t rep rep (record { item = h }) ∙ (ap (λ b. cond b (entry_put (record { item = h }) (place_at t rep)) (place_at t rep)) (eq-eqb rep rep refl) ∙ ap (entry_put (record { item = h })) at)

  pub at_unwritten : (r : ℕ) → (r ≡ rep → ⊥) → place_at written r ≡ place_at t r
  at_unwritten r other = place_at-with_entry t rep r (record { item = h }) ∙ ap (λ b. cond b (entry_put (record { item = h }) (place_at t r)) (place_at t r)) (ne_eqb r rep other)

  -- what holds of it and of each other entry
  pub each_but : (P : T → Type 0) → P h → ((r : ℕ) (w : Placed (Single T)) → (r ≡ rep → ⊥) → place_at t r ≡ Some w → P w.entry.item) → EachEntry P written
  each_but P here others r w is = elim (cases_eq r rep) [
    | inl same ↦ subst (λ (z : Placed (Single T)). P z.entry.item) (same_Some _ w (sym at_written ∙ (ap (place_at written) (sym same) ∙ is))) here
    | inr other ↦ others r w other (sym (at_unwritten r other) ∙ is)
  ]

  pub number_written : {X : Type 0} (key : Single T → Option (ℕ × X)) → number_in (key (record { item = h })) ≡ number_in (key q.entry) → (r n : ℕ) → HasNumber key t r n → HasNumber key written r n
  number_written key same r n has = elim (cases_eq r rep) [
    | inl here ↦ ap (λ o. number_in (key_in key o)) (ap (place_at written) here ∙ at_written) ∙ (same ∙ (sym (ap (λ o. number_in (key_in key o)) (ap (place_at t) here ∙ at)) ∙ has))
    | inr other ↦ ap (λ o. number_in (key_in key o)) (at_unwritten r other) ∙ has
  ]

-- ---- Numbers that were made

module _ {T X : Type 0} (number : T → ℕ) (rec : T → X) (t : Table (Single T)) (made : ℕ) (sound : SoundTable (λ (e : Single T). Some (number e.item, rec e.item)) t made) where
  abbrev key : Single T → Option (ℕ × X)
  key e = Some (number e.item, rec e.item)

  early_record : (r n : ℕ) (x : X) → record_at key t.places r ≡ Some (n, x) → n ≤ made
  early_record r n x at = by (nat_lt made n) refl
    where
      none : {Y : Type 0} → ◌≡◌ {A = Option X} None (Some x) → Y
      none is = absurd (cc)

      by : (b : Bool) → nat_lt made n ≡ b → n ≤ made
      by true is = none (sym (sound.later n (grind (arith, is))) ∙ found_record_at key t.places r n x sound.apart at)
      by false is = grind (arith, is)

  pub early : (r : ℕ) (q : Placed (Single T)) → place_at t r ≡ Some q → number q.entry.item ≤ made
  early r q at = early_record r (number q.entry.item) (rec q.entry.item) (ap (key_in key) at)

  pub early_at : (r n : ℕ) → HasNumber key t r n → 0 < n → n ≤ made
  early_at r n has some = by (record_at key t.places r) refl has
    where
      by : (o : Option (ℕ × X)) → record_at key t.places r ≡ o → number_in o ≡ n → n ≤ made
      by None at has = absurd (omega (arith, some, has))
      by (Some e) at has = subst (λ (m : ℕ). m ≤ made) has (early_record r e.0 e.1 at)

  -- ---- One more is counted

  module _ (g : T) (next : number g ≡ made + 1) where
    get_none : get (records key t.places) (number g) ≡ None
    get_none = get-records key t.places (number g) ∙ sound.later (number g) (omega arith)

    pub passing_more : (test : X → Bool) → passing test (records key (pushed (record { item = g }) t).places) ≡ passing test (records key t.places) + one_if_passes test (Some (rec g))
    passing_more test =
        let law = passing-with_at test (records key t.places) (number g) (Some (rec g)) in
        let none : one_if_passes test (get (records key t.places) (number g)) ≡ 0 = ap (one_if_passes test) get_none in
        let is : passing test (records key (pushed (record { item = g }) t).places) ≡ passing test (insert (records key t.places) (number g) (rec g)) = ap (passing test) (records_more number rec t made sound g next) in
        omega arith

    pub size_more : size (records key (pushed (record { item = g }) t).places) ≡ size (records key t.places) + 1
    size_more = ap (λ (m : Records X). size m) (records_more number rec t made sound g next) ∙ size-insert_new (records key t.places) (number g) (rec g) get_none

    pub get_more : (n : ℕ) → get (records key (pushed (record { item = g }) t).places) n ≡ cond (n == number g) (Some (rec g)) (get (records key t.places) n)
    get_more n = ap (λ (m : Records X). get m n) (records_more number rec t made sound g next) ∙ get-insert (records key t.places) (number g) (rec g) n

  -- ---- Seen without what nothing hangs on

  module _ (f : T → T) (loose : X → X) (named : (x : T) → number (f x) ≡ number x) (follows : (x : T) → rec (f x) ≡ loose (rec x)) where
    seen_key : (e : Single T) → key (on_item f e) ≡ Some (number e.item, loose (rec e.item))
    seen_key e = ap (λ (m : ℕ). Some (m, rec (f e.item))) (named e.item) ∙ ap (λ (x : X). Some (number e.item, x)) (follows e.item)

    found_bare : (n : ℕ) → found_record key n t.places ≡ None → found_record key n (mapped (on_item f) t).places ≡ None
    unfolding mapped
    found_bare n none = found_mapped key key (on_item f) loose seen_key n t.places ∙ ap (option_map loose) none

    record_bare : (r n : ℕ) (x : X) → record_at key (mapped (on_item f) t).places r ≡ Some (n, x) → (y : X) × (record_at key t.places r ≡ Some (n, y))
    record_bare r n x is = by (place_at t r) (sym (ap (key_in key) (place_at-mapped (on_item f) t r)) ∙ is)
      where
        by : (o : Option (Placed (Single T))) → key_in key (placed_as (on_item f) o) ≡ Some (n, x) → (y : X) × (key_in key o ≡ Some (n, y))
        by None is = absurd (cc)
        by (Some q) is = (rec q.entry.item, ap (λ (m : ℕ). Some (m, rec q.entry.item)) (sym (named q.entry.item) ∙ ap (λ (e : ℕ × X). e.0) (same_Some (number (f q.entry.item), rec (f q.entry.item)) (n, x) is)))

    pub table_bare : SoundTable key (mapped (on_item f) t) made
    table_bare = record {
      table = IsTable-mapped (on_item f) t sound.table;
      childless = λ r. children_of-mapped (on_item f) t r ∙ sound.childless r;
      apart = record { one_place = λ r s n x y at_r at_s. let a = record_bare r n x at_r in let b = record_bare s n y at_s in sound.apart.one_place r s n a.0 b.0 a.1 b.1 };
      above_zero = found_bare 0 sound.above_zero;
      later = λ n later. found_bare n (sound.later n later);
    }
