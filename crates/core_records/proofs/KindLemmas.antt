-- The records of one kind, in a table of their own: what ids name, what is read under an id, and a write of one record.
use Rattle.core_records.proofs.Core.{[], ap, arith, Bool, change, changed, children_of-with_entry, cond, entry_of, entry_put, Err, false, found, found_at, found_record, get, get-item_number, get-records, insert, IsTable-with_entry, item_at, item_found, item_of, key_in, List, map, map-set, named, ne_eqb, no_other, None, number_in, number_of, number_of-item, number_of-refused, of_serial, Ok, one_if_passes, Option, option_map, passing, passing-with_at, place_at, place_at_there, Placed, PutsRecord, PutsRecord-with_entry, record_at-item, records, refl, ResourceTableError, set, set-slice_get, slice_get, slice_get-map, Some, SoundTable, standing, sym, Table, Tag, tag_of, tags_in, trimmed, true, with_entry, with_first, ℕ, ◌+◌, ◌<◌, ◌==◌, ◌∙◌, ◌∷◌, ◌≡◌}
use Rattle.std.proofs.Common.{IsSome, is_some, option_and_then}
use Rattle.std.proofs.lemmas.Option.{same_Some}
use Rattle.core_records.specs.declared.{single.Single.Single}
use Rattle.task_table.specs.TableAnswers.{item_in}

pub absent : {X Y : Type 0} (x : X) → ◌≡◌ {A = Option X} None (Some x) → Y
absent x e = absurd (cc)

-- what is free at the end names nothing
named_trimmed : (serial : ℕ) (os : List (Option Tag)) (rep : ℕ) → named serial (slice_get (trimmed os) rep) ≡ named serial (slice_get os rep)
named_trimmed serial [] rep = refl
named_trimmed serial (o ∷ os) rep = by_rest o (trimmed os) rep (named_trimmed serial os)
  where
    by_rest : (o : Option Tag) (ts : List (Option Tag)) (rep : ℕ) → ((r : ℕ) → named serial (slice_get ts r) ≡ named serial (slice_get os r)) → named serial (slice_get (with_first o ts) rep) ≡ named serial (slice_get (o ∷ os) rep)
    by_rest None [] ℕ.zero same = refl
    by_rest None [] (ℕ.suc r) same = same r
    by_rest None (t ∷ ts) ℕ.zero same = refl
    by_rest None (t ∷ ts) (ℕ.suc r) same = same r
    by_rest (Some x) ts ℕ.zero same = refl
    by_rest (Some x) ts (ℕ.suc r) same = same r

module _ {T X : Type 0} (number : T → ℕ) (rec : T → X) where
  abbrev key : Single T → Option (ℕ × X)
  key e = Some (number e.item, rec e.item)

  of_kind : (e : Single T) → ◌≡◌ {A = Option T} (item_of e) None → key e ≡ None
  of_kind e none = absurd (cc)

  -- what contracts see under an id is the number that it finds
  pub number_shown : (t : Table (Single T)) (rep serial : ℕ) → named serial (slice_get (tags_in key t) rep) ≡ number_of key t rep serial
  unfolding number_of found
  number_shown t rep serial = named_trimmed serial (map (tag_of key) t.places) rep ∙ (ap (named serial) (slice_get-map (tag_of key) t.places rep) ∙ by_place (slice_get t.places rep))
    where
      by_test : (b : Bool) (p : Placed (Single T)) → cond b (number p.entry.item) 0 ≡ number_in (key_in key (cond b (Some p) None))
      by_test true p = refl
      by_test false p = refl

      by_place : (o : Option (Option (Placed (Single T)))) → named serial (option_map (tag_of key) o) ≡ number_in (key_in key (of_serial serial (standing o)))
      by_place None = refl
      by_place (Some None) = refl
      by_place (Some (Some p)) = by_test (p.serial == serial) p

  module _ (t : Table (Single T)) (rep serial : ℕ) where
    pub refused_number : (why : ResourceTableError) → Err why ≡ item_at item_of t rep serial → number_of key t rep serial ≡ 0
    refused_number why is = number_of-refused item_of entry_of no_other key of_kind t rep serial why is

    pub item_number : (g : T) → Ok g ≡ item_at item_of t rep serial → number_of key t rep serial ≡ number g
    item_number g is = number_of-item item_of entry_of no_other key t rep serial g is (number g) (rec g) refl

    live_found : 0 < number_of key t rep serial → (p : Placed (Single T)) × (found t rep serial ≡ Some p)
    unfolding number_of
    live_found live = by_found (found t rep serial) refl live
      where
        by_found : (o : Option (Placed (Single T))) → found t rep serial ≡ o → 0 < number_in (key_in key o) → (p : Placed (Single T)) × (found t rep serial ≡ Some p)
        by_found None is live = absurd (omega arith)
        by_found (Some p) is live = (p, is)

    -- what an id names that has a number is at its place
    pub live_there : 0 < number_of key t rep serial → IsSome (option_and_then (λ p. item_of p.entry) (place_at t rep))
    live_there live =
        let one = live_found live in
        ap (λ o. is_some (option_and_then (λ p. item_of p.entry) o)) (found_at t rep serial one.0 one.1).0

    -- and is read there
    pub live_item : 0 < number_of key t rep serial → (g : T) → Some g ≡ option_and_then (λ p. item_of p.entry) (place_at t rep) → Ok g ≡ item_at item_of t rep serial
    live_item live g is =
        let one = live_found live in
        let same : Some g ≡ Some one.0.entry.item = is ∙ ap (option_and_then (λ p. item_of p.entry)) (found_at t rep serial one.0 one.1).0 in
        ap Ok (same_Some g one.0.entry.item same) ∙ sym (ap (item_in item_of) one.1)

  module _ (t : Table (Single T)) (made : ℕ) (sound : SoundTable key t made) (rep serial : ℕ) where
    -- nothing is read under an id that is refused
    pub refused_read : (why : ResourceTableError) → Err why ≡ item_at item_of t rep serial → None ≡ get (records key t.places) (number_of key t rep serial)
    refused_read why is = sym (ap (get (records key t.places)) (refused_number t rep serial why is) ∙ (get-records key t.places 0 ∙ sound.above_zero))

    -- so that a write there changes nothing
    pub refused_write : (why : ResourceTableError) → Err why ≡ item_at item_of t rep serial → (f : X → X) → change (number_of key t rep serial) f (records key t.places) ≡ records key t.places
    unfolding change
    refused_write why is f = ap (changed (records key t.places) (number_of key t rep serial) f) (sym (refused_read why is))

    module _ (g : T) (is : Ok g ≡ item_at item_of t rep serial) where
      pub item_read : Some (rec g) ≡ get (records key t.places) (number_of key t rep serial)
      item_read = sym (get-item_number item_of entry_of no_other key t rep serial g is (number g) (rec g) refl sound.apart)

      pub item_stands : (p : Placed (Single T)) × ((place_at t rep ≡ Some p) × ((p.serial ≡ serial) × (p.entry ≡ entry_of g)))
      item_stands =
          let one = item_found item_of t rep serial g (sym is) in
          let two = found_at t rep serial one.0 one.1 in
          (one.0, (two.0, (two.1, sym (no_other one.0.entry g one.2))))

      -- another item with its number is written there
      module _ (h : T) (same : number h ≡ number g) where
        abbrev pub after : Table (Single T)
        after = with_entry rep (entry_of h) t

        puts : PutsRecord key t.places after.places (number g) (rec h)
        puts = PutsRecord-with_entry key t rep (entry_of h) (number g) (rec g) (rec h) sound.apart (record_at-item item_of entry_of no_other key t rep serial g is) (ap (λ n. Some (n, rec h)) same)

        pub records_written : records key after.places ≡ insert (records key t.places) (number_of key t rep serial) (rec h)
        records_written = puts.map ∙ ap (λ n. insert (records key t.places) n (rec h)) (sym (item_number t rep serial g is))

        pub records_changed : (f : X → X) → f (rec g) ≡ rec h → records key after.places ≡ change (number_of key t rep serial) f (records key t.places)
        unfolding change
        records_changed f is_f =
            records_written
            ∙ (ap (insert (records key t.places) (number_of key t rep serial)) (sym is_f)
            ∙ ap (changed (records key t.places) (number_of key t rep serial) f) item_read)

        -- how many records pass a test
        pub passing_written : (test : X → Bool) → passing test (records key after.places) + one_if_passes test (Some (rec g)) ≡ passing test (records key t.places) + one_if_passes test (Some (rec h))
        passing_written test =
            let law = passing-with_at test (records key t.places) (number_of key t rep serial) (Some (rec h)) in
            let was : one_if_passes test (get (records key t.places) (number_of key t rep serial)) ≡ one_if_passes test (Some (rec g)) = ap (one_if_passes test) (sym item_read) in
            let is : passing test (records key after.places) ≡ passing test (insert (records key t.places) (number_of key t rep serial) (rec h)) = ap (passing test) records_written in
            omega arith

        pub passing_same : (test : X → Bool) → test (rec h) ≡ test (rec g) → passing test (records key after.places) ≡ passing test (records key t.places)
        passing_same test same =
            let law = passing_written test in
            let one : one_if_passes test (Some (rec h)) ≡ one_if_passes test (Some (rec g)) = ap (λ b. cond b 1 0) same in
            omega arith

        pub tags_written : tags_in key after ≡ tags_in key t
        unfolding with_entry
        tags_written =
            let there : slice_get (map (tag_of key) t.places) rep ≡ Some (tag_of key (Some item_stands.0)) = slice_get-map (tag_of key) t.places rep ∙ rw (place_at_there t rep item_stands.0 item_stands.1.0) refl in
            let one : tag_of key (entry_put (entry_of h) (place_at t rep)) ≡ tag_of key (Some item_stands.0) = rw (item_stands.1.0, item_stands.1.1.1, same) refl in
            ap trimmed (map-set (tag_of key) t.places rep (entry_put (entry_of h) (place_at t rep)) ∙ (ap (set (map (tag_of key) t.places) rep) one ∙ set-slice_get (map (tag_of key) t.places) rep (tag_of key (Some item_stands.0)) there))

        not_zero : (0 ≡ number g) → ⊥
        not_zero zero = absent (rec g) (sym sound.above_zero ∙ (sym (get-records key t.places 0) ∙ (ap (get (records key t.places)) (zero ∙ sym (item_number t rep serial g is)) ∙ sym item_read)))

        not_later : (n : ℕ) → made < n → (n ≡ number g) → ⊥
        not_later n later is_g = absent (rec g) (sym (sound.later n later) ∙ (sym (get-records key t.places n) ∙ (ap (get (records key t.places)) (is_g ∙ sym (item_number t rep serial g is)) ∙ sym item_read)))

        found_other : (n : ℕ) → (n ≡ number g → ⊥) → found_record key n t.places ≡ None → found_record key n after.places ≡ None
        found_other n other none = puts.found n ∙ (ap (λ b. cond b (Some (rec h)) (found_record key n t.places)) (ne_eqb n (number g) other) ∙ none)

        pub table_written : SoundTable key after made
        table_written = record {
          table = IsTable-with_entry t rep (entry_of h) item_stands.0 item_stands.1.0 sound.table;
          childless = λ r. children_of-with_entry t rep r (entry_of h) item_stands.0 item_stands.1.0 ∙ sound.childless r;
          apart = puts.apart;
          above_zero = found_other 0 not_zero sound.above_zero;
          later = λ n later. found_other n (not_later n later) (sound.later n later);
        }
