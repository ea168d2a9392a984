-- The records of one kind where one more is made, or one is taken away.
use Rattle.core_records.proofs.Core.{ap, arith, Bool, cases_eq, children_of-deleted, children_of-pushed, cond, deleted, entry_of, eq-eqb, false, found_record, get, get-records, HasNumber, inl, inr, insert, IsSome, IsTable, item_at, item_of, key_in, ne_eqb, next_place, next_place_free, no_other, None, number_in, number_of, number_of-deleted_apart, number_of-pushed_kept, number_of-pushed_new, Ok, Option, place_at, place_at-deleted, place_at-pushed, pushed, PutsRecord, PutsRecord-pushed, record_at, record_at-item, records, refl, remove, Some, SoundTable, StandsAt, subst, sym, Table, TakesRecord, TakesRecord-deleted, true, ℕ, ◌+◌, ◌<◌, ◌==◌, ◌∙◌, ◌≡◌, ◌≤◌, ◌⊎◌}
use Rattle.core_records.specs.declared.{single.Single.Single}
use Rattle.core_records.proofs.KindLemmas.{absent, item_number, item_read, item_stands}
use Rattle.task_table.proofs.NumberLemmas.{number_names, number_of-deleted, record_at-Names}

module _ {T X : Type 0} (number : T → ℕ) (rec : T → X) (t : Table (Single T)) (made : ℕ) (sound : SoundTable (λ (e : Single T). Some (number e.item, rec e.item)) t made) where
  abbrev key : Single T → Option (ℕ × X)
  key e = Some (number e.item, rec e.item)

  -- ---- One more, with the next number

  module _ (g : T) (next : number g ≡ made + 1) where
    abbrev pub more : Table (Single T)
    more = pushed (entry_of g) t

    puts : PutsRecord key t.places more.places (number g) (rec g)
    puts = PutsRecord-pushed key t (entry_of g) (number g) (rec g) sound.table sound.apart refl (sound.later (number g) (omega arith))

    pub records_more : records key more.places ≡ insert (records key t.places) (number g) (rec g)
    records_more = puts.map

    found_more : (n : ℕ) → (n ≡ number g → ⊥) → found_record key n t.places ≡ None → found_record key n more.places ≡ None
    found_more n other none = puts.found n ∙ (ap (λ b. cond b (Some (rec g)) (found_record key n t.places)) (ne_eqb n (number g) other) ∙ none)

    pub table_more : IsTable more → SoundTable key more (made + 1)
    table_more table = record {
      table = table;
      childless = λ r. children_of-pushed t (entry_of g) r sound.table ∙ sound.childless r;
      apart = puts.apart;
      above_zero = found_more 0 (λ same. omega arith) sound.above_zero;
      later = λ n later. found_more n (λ same. omega arith) (sound.later n (omega arith));
    }

    -- an id that named something names it still
    pub number_kept : (r s : ℕ) → 0 < number_of key t r s → number_of key more r s ≡ number_of key t r s
    number_kept r s live = number_of-pushed_kept key t (entry_of g) r s sound.table live

    -- and the new id names the new one
    pub number_new : (r s : ℕ) → r ≡ next_place t → s ≡ t.given → number_of key more r s ≡ number g
    number_new r s at serial = number_of-pushed_new key t (entry_of g) r s sound.table at serial

    -- what was made before is where it was
    pub stands_more : (rep n : ℕ) → n ≤ made → StandsAt key t rep n → StandsAt key more rep n
    stands_more rep n early stands some = by_place (cases_eq rep (next_place t))
      where
        old : found_record key n more.places ≡ found_record key n t.places
        old = puts.found n ∙ ap (λ b. cond b (Some (rec g)) (found_record key n t.places)) (ne_eqb n (number g) (λ same. omega arith))

        was : HasNumber key t rep n
        was = stands (subst IsSome old some)

        gone : (o : Option X) → found_record key n t.places ≡ o → IsSome o → n ≡ 0 → ⊥
        gone None is there zero = absurd (cc)
        gone (Some x) is there zero = absent x (sym sound.above_zero ∙ (ap (λ m. found_record key m t.places) (sym zero) ∙ is))

        by_place : (rep ≡ next_place t) ⊎ (rep ≡ next_place t → ⊥) → HasNumber key more rep n
        by_place (inl same) = absurd (gone (found_record key n t.places) refl (subst IsSome old some) (sym (sym (ap (λ r. number_in (record_at key t.places r)) same ∙ ap (λ o. number_in (key_in key o)) (next_place_free t sound.table)) ∙ was)))
        by_place (inr other) = ap (λ o. number_in (key_in key o)) (place_at-pushed t (entry_of g) rep sound.table ∙ ap (λ b. cond b (Some (record { serial = t.given; parent = None; entry = entry_of g })) (place_at t rep)) (ne_eqb rep (next_place t) other)) ∙ was

  -- ---- One less

  module _ (rep serial : ℕ) (g : T) (is : Ok g ≡ item_at item_of t rep serial) where
    abbrev pub less : Table (Single T)
    less = deleted rep t

    takes : TakesRecord key t.places less.places (number g)
    takes = TakesRecord-deleted key t rep (number g) (rec g) sound.apart (record_at-item item_of entry_of no_other key t rep serial g is)

    pub records_less : records key less.places ≡ remove (records key t.places) (number g)
    records_less = takes.map

    found_less : (n : ℕ) → found_record key n t.places ≡ None → found_record key n less.places ≡ None
    found_less n none = takes.found n ∙ by_test (n == number g)
      where
        by_test : (b : Bool) → cond b None (found_record key n t.places) ≡ None
        by_test true = refl
        by_test false = none

    pub table_less : IsTable less → SoundTable key less made
    table_less table = record {
      table = table;
      childless = λ r.
          let one = item_stands number rec t made sound rep serial g is in
          let law = children_of-deleted t rep r one.0 one.1.0 in
          let was = sound.childless r in
          omega arith;
      apart = takes.apart;
      above_zero = found_less 0 sound.above_zero;
      later = λ n later. found_less n (sound.later n later);
    }

    -- what is left is where it was
    pub stands_less : (r n : ℕ) → StandsAt key t r n → StandsAt key less r n
    stands_less r n stands some = by_number (cases_eq n (number g))
      where
        none_some : {Y : Type 0} (o : Option X) → o ≡ None → IsSome o → Y
        none_some None is some = absurd (cc)
        none_some (Some x) is some = absurd (cc)

        by_number : (n ≡ number g) ⊎ (n ≡ number g → ⊥) → HasNumber key less r n
        by_number (inl same) = none_some (found_record key n less.places) (takes.found n ∙ ap (λ b. cond b None (found_record key n t.places)) (eq-eqb n (number g) same)) some
        by_number (inr other) =
            let was : HasNumber key t r n = stands (subst (λ (o : Option X). IsSome o) (takes.found n ∙ ap (λ b. cond b None (found_record key n t.places)) (ne_eqb n (number g) other)) some) in
            let here : record_at key t.places rep ≡ Some (number g, rec g) = record_at-item item_of entry_of no_other key t rep serial g is in
            elim (cases_eq r rep) [
              | inl same ↦ absurd (other (sym was ∙ (ap (λ q. number_in (record_at key t.places q)) same ∙ ap number_in here)))
              | inr apart ↦ ap (λ o. number_in (key_in key o)) (place_at-deleted t rep r ∙ ap (λ b. cond b None (place_at t r)) (ne_eqb r rep apart)) ∙ was
            ]

    -- an id of another number names what it named
    pub number_left : (r s : ℕ) → (number_of key t r s ≡ number g → ⊥) → number_of key less r s ≡ number_of key t r s
    number_left r s other = number_of-deleted_apart key t rep r s (λ same. other (same ∙ ap number_in (record_at-item item_of entry_of no_other key t rep serial g is)))

    here : number_of key t rep serial ≡ number g
    here = item_number number rec t rep serial g is

    live : 0 < number_of key t rep serial
    live = by (number_of key t rep serial) refl
      where
        by : (n : ℕ) → number_of key t rep serial ≡ n → 0 < n
        by ℕ.zero e = absent (rec g) (sym (item_read number rec t made sound rep serial g is ∙ (ap (get (records key t.places)) e ∙ (get-records key t.places 0 ∙ sound.above_zero))))
        by (ℕ.suc n) e = omega arith

    -- what has its number is at its place
    same_place : (r s : ℕ) → number_of key t r s ≡ number g → r ≡ rep
    same_place r s same =
        let this = number_names key t rep serial live in
        let that = number_names key t r s (omega (arith, live, same, here)) in
        sound.apart.one_place r rep (number_of key t rep serial) that.0 this.0
        (record_at-Names key t r s (number_of key t r s) that.0 that.1 ∙ ap (λ n. Some (n, that.0)) (same ∙ sym here))
        (record_at-Names key t rep serial (number_of key t rep serial) this.0 this.1)

    -- and an id of its number names nothing
    pub number_gone : (r s : ℕ) → number_of key t r s ≡ number g → number_of key less r s ≡ 0
    number_gone r s same =
        number_of-deleted key t rep r s ∙ ap (λ b. cond b 0 (number_of key t r s)) (eq-eqb r rep (same_place r s same))
