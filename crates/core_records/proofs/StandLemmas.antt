-- Ids made of a place alone, and of a place where a number was kept.
use Rattle.core_records.proofs.Core.{ap, ap₂, arith, cond, found, found_here, found_record, found_record_at, get-records, is_some, IsSome, item_at, item_in, item_of, kept_in, key_in, named, None, number_in, number_names, number_of, of_serial, Ok, Option, option_and_then, option_map, place_at, Placed, record_at, record_at-Names, records, refl, same_Some, slice_get, slice_get_past, Some, SoundTable, standing, StandsAt, sym, Table, tags_in, ◌<◌, ◌∙◌, ◌≡◌, ◌≤◌, ℕ}
use Rattle.core_records.specs.declared.{single.Single.Single}
use Rattle.core_records.proofs.KindLemmas.{absent, number_shown}

module _ {T X : Type 0} (number : T → ℕ) (rec : T → X) where
  abbrev key : Single T → Option (ℕ × X)
  key e = Some (number e.item, rec e.item)

  module _ (t : Table (Single T)) (rep : ℕ) where
    by_found : (o : Option (Placed (Single T))) (serial : ℕ) → place_at t rep ≡ o → found t rep serial ≡ o → number_of key t rep serial ≡ number_in (record_at key t.places rep)
    unfolding number_of
    by_found o serial at is = ap (λ q. number_in (key_in key q)) (is ∙ sym at)

    -- the id of what is at the place has its number
    pub number_here : (serial : ℕ) → Some serial ≡ option_map (λ (p : Placed (Single T)). p.serial) (place_at t rep) → number_of key t rep serial ≡ number_in (record_at key t.places rep)
    number_here serial is = by_place (place_at t rep) refl is
      where
        by_place : (o : Option (Placed (Single T))) → place_at t rep ≡ o → Some serial ≡ option_map (λ (p : Placed (Single T)). p.serial) o → number_of key t rep serial ≡ number_in (record_at key t.places rep)
        by_place None at is = absurd (cc)
        by_place (Some p) at is = by_found (Some p) serial at (ap (found t rep) (same_Some serial p.serial is) ∙ found_here t rep p at)

    -- where a number is an entry does
    pub number_placed : 0 < number_in (record_at key t.places rep) → IsSome (place_at t rep)
    number_placed some = by_place (place_at t rep) some
      where
        by_place : (o : Option (Placed (Single T))) → 0 < number_in (key_in key o) → IsSome o
        by_place None some = absurd (omega (arith, some))
        by_place (Some p) some = refl

    -- where nothing is every id of the place has none
    pub number_nowhere : (serial : ℕ) → None ≡ option_map (λ (p : Placed (Single T)). p.serial) (place_at t rep) → number_of key t rep serial ≡ number_in (record_at key t.places rep)
    unfolding found
    number_nowhere serial is = by_place (place_at t rep) refl is
      where
        by_place : (o : Option (Placed (Single T))) → place_at t rep ≡ o → None ≡ option_map (λ (p : Placed (Single T)). p.serial) o → number_of key t rep serial ≡ number_in (record_at key t.places rep)
        by_place None at is = by_found None serial at (ap (of_serial serial) at)
        by_place (Some p) at is = absurd (cc)

  -- a number that is at a place is that of the entry there
  module _ (t : Table (Single T)) (place n : ℕ) (has : number_in (record_at key t.places place) ≡ n) (some : 0 < n) where
    pub stands_here : (p : Placed (Single T)) × ((place_at t place ≡ Some p) × (number p.entry.item ≡ n))
    stands_here = by_place (place_at t place) refl has
      where
        by_place : (o : Option (Placed (Single T))) → place_at t place ≡ o → number_in (key_in key o) ≡ n → (p : Placed (Single T)) × ((place_at t place ≡ Some p) × (number p.entry.item ≡ n))
        by_place None at is = absurd (omega (arith, some, is))
        by_place (Some p) at is = (p, (at, is))

    pub placed_here : IsSome (place_at t place)
    placed_here = ap is_some stands_here.1.0

    pub item_here : IsSome (option_and_then (λ (p : Placed (Single T)). item_of p.entry) (place_at t place))
    item_here = ap (λ (o : Option (Placed (Single T))). is_some (option_and_then (λ (p : Placed (Single T)). item_of p.entry) o)) stands_here.1.0

    module _ (r : T) (is : Some r ≡ option_and_then (λ (p : Placed (Single T)). item_of p.entry) (place_at t place)) where
      pub same_here : r ≡ stands_here.0.entry.item
      same_here = same_Some r stands_here.0.entry.item (is ∙ ap (option_and_then (λ (p : Placed (Single T)). item_of p.entry)) stands_here.1.0)

      pub number_is : number r ≡ n
      number_is = ap number same_here ∙ stands_here.1.1

      -- the id with the serial there finds it
      pub item_by : (rep serial m : ℕ) → rep ≡ place → serial ≡ m → Some m ≡ option_map (λ (p : Placed (Single T)). p.serial) (place_at t place) → Ok r ≡ item_at item_of t rep serial
      item_by rep serial m at same is_there =
          let one : serial ≡ stands_here.0.serial = same ∙ same_Some m stands_here.0.serial (is_there ∙ ap (option_map (λ (p : Placed (Single T)). p.serial)) stands_here.1.0) in
          ap (λ (x : T). Ok x) same_here ∙ sym (ap₂ (λ k l. item_at item_of t k l) at one ∙ ap (item_in item_of) (found_here t place stands_here.0 stands_here.1.0))

  module _ (t : Table (Single T)) (made : ℕ) (sound : SoundTable key t made) where
    -- no place has this number
    pub number_beyond : (rep serial : ℕ) → rep ≡ 4294967295 → number_of key t rep serial ≡ 0
    unfolding number_of found
    number_beyond rep serial is =
        let past : 4294967295 ≤ 4294967295 = omega arith in
        let few = sound.table.places_fit in
        let none : slice_get t.places rep ≡ None = slice_get_past t.places rep (omega arith) in
        ap (λ o. number_in (key_in key (of_serial serial (standing o)))) none

    live_or_not : (n : ℕ) (o : Option X) → found_record key n t.places ≡ o → kept_in (records key t.places) n ≡ cond (is_some o) n 0
    live_or_not n o is = ap (λ q. cond (is_some q) n 0) (get-records key t.places n ∙ is)

    -- a number that is at a place is live
    pub kept_here : (rep n : ℕ) (g : T) → Some g ≡ option_and_then (λ (p : Placed (Single T)). item_of p.entry) (place_at t rep) → number g ≡ n → (number_in (record_at key t.places rep) ≡ n) × (kept_in (records key t.places) n ≡ n)
    kept_here rep n g is same = by_place (place_at t rep) refl is
      where
        by_place : (o : Option (Placed (Single T))) → place_at t rep ≡ o → Some g ≡ option_and_then (λ (p : Placed (Single T)). item_of p.entry) o → (number_in (record_at key t.places rep) ≡ n) × (kept_in (records key t.places) n ≡ n)
        by_place None at is = absurd (cc)
        by_place (Some p) at is =
            let one : g ≡ p.entry.item = same_Some g p.entry.item is in
            let there : record_at key t.places rep ≡ Some (n, rec g) = ap (key_in key) at ∙ (ap (λ h. Some (number h, rec h)) (sym one) ∙ ap (λ m. Some (m, rec g)) same) in
            (ap number_in there, live_or_not n (Some (rec g)) (found_record_at key t.places rep n (rec g) sound.apart there))

    -- a number that was kept with a place where another one is there, or none, is gone
    pub kept_gone : (rep n : ℕ) → StandsAt key t rep n → (number_in (record_at key t.places rep) ≡ n → n ≡ 0) → kept_in (records key t.places) n ≡ 0
    kept_gone rep n stands other = by_found_record (found_record key n t.places) refl
      where
        by_found_record : (o : Option X) → found_record key n t.places ≡ o → kept_in (records key t.places) n ≡ 0
        by_found_record None is = live_or_not n None is
        by_found_record (Some x) is =
            let zero = other (stands (ap is_some is)) in
            absent x (sym sound.above_zero ∙ (ap (λ m. found_record key m t.places) (sym zero) ∙ is))

  -- ---- As contracts see it

  module _ (t : Table (Single T)) (rep serial : ℕ) where
    pub shown_here : (place is : ℕ) → rep ≡ place → serial ≡ is → Some is ≡ option_map (λ (p : Placed (Single T)). p.serial) (place_at t place) → named serial (slice_get (tags_in key t) rep) ≡ number_in (record_at key t.places place)
    shown_here place is at same there = number_shown number rec t rep serial ∙ (ap₂ (number_of key t) at same ∙ number_here t place is there)

    pub shown_nowhere : (place : ℕ) → rep ≡ place → None ≡ option_map (λ (p : Placed (Single T)). p.serial) (place_at t place) → named serial (slice_get (tags_in key t) rep) ≡ number_in (record_at key t.places place)
    shown_nowhere place at none = number_shown number rec t rep serial ∙ (ap (λ r. number_of key t r serial) at ∙ number_nowhere t place serial none)

    pub shown_beyond : (made : ℕ) → SoundTable key t made → rep ≡ 4294967295 → named serial (slice_get (tags_in key t) rep) ≡ 0
    shown_beyond made sound beyond = number_shown number rec t rep serial ∙ number_beyond t made sound rep serial beyond

    module _ (made : ℕ) (sound : SoundTable key t made) (place n : ℕ) where
      -- the number that was kept is there still
      pub shown_kept : (g : T) → Some g ≡ option_and_then (λ (p : Placed (Single T)). item_of p.entry) (place_at t place) → number g ≡ n → (m : ℕ) → m ≡ number_in (record_at key t.places place) → m ≡ kept_in (records key t.places) n
      shown_kept g is same m at = let one = kept_here t made sound place n g is same in at ∙ (one.0 ∙ sym one.1)

      gone : StandsAt key t place n → rep ≡ 4294967295 → (number_in (record_at key t.places place) ≡ n → n ≡ 0) → named serial (slice_get (tags_in key t) rep) ≡ kept_in (records key t.places) n
      gone stands beyond other = number_shown number rec t rep serial ∙ (number_beyond t made sound rep serial beyond ∙ sym (kept_gone t made sound place n stands other))

      -- another one is there
      pub shown_other : StandsAt key t place n → rep ≡ 4294967295 → (g : T) → Some g ≡ option_and_then (λ (p : Placed (Single T)). item_of p.entry) (place_at t place) → (number g ≡ n → ⊥) → named serial (slice_get (tags_in key t) rep) ≡ kept_in (records key t.places) n
      shown_other stands beyond g is other = gone stands beyond (λ same. absurd (other (by_place (place_at t place) is same)))
        where
          by_place : (o : Option (Placed (Single T))) → Some g ≡ option_and_then (λ (p : Placed (Single T)). item_of p.entry) o → number_in (key_in key o) ≡ n → number g ≡ n
          by_place None is same = absurd (cc)
          by_place (Some p) is same = ap number (same_Some g p.entry.item is) ∙ same

      -- or none
      pub shown_none : StandsAt key t place n → rep ≡ 4294967295 → None ≡ option_and_then (λ (p : Placed (Single T)). item_of p.entry) (place_at t place) → named serial (slice_get (tags_in key t) rep) ≡ kept_in (records key t.places) n
      shown_none stands beyond is = gone stands beyond (λ same. by_place (place_at t place) is same)
        where
          by_place : (o : Option (Placed (Single T))) → None ≡ option_and_then (λ (p : Placed (Single T)). item_of p.entry) o → number_in (key_in key o) ≡ n → n ≡ 0
          by_place None is same = sym same
          by_place (Some p) is same = absurd (cc)

module _ {T X : Type 0} (number : T → ℕ) (rec : T → X) (t : Table (Single T)) (made : ℕ) (sound : SoundTable (λ (e : Single T). Some (number e.item, rec e.item)) t made) (rep serial : ℕ) where
  -- what an id names is at its place
  pub stands_by_id : StandsAt (λ (e : Single T). Some (number e.item, rec e.item)) t rep (number_of (λ (e : Single T). Some (number e.item, rec e.item)) t rep serial)
  stands_by_id some = by_number (number_of (λ (e : Single T). Some (number e.item, rec e.item)) t rep serial) refl some
    where
      by_number : (n : ℕ) → number_of (λ (e : Single T). Some (number e.item, rec e.item)) t rep serial ≡ n → IsSome (found_record (λ (e : Single T). Some (number e.item, rec e.item)) n t.places) → number_in (record_at (λ (e : Single T). Some (number e.item, rec e.item)) t.places rep) ≡ n
      by_number ℕ.zero is some = absurd (let none = sound.above_zero in cc)
      by_number (ℕ.suc n) is some =
          let one = number_names (λ (e : Single T). Some (number e.item, rec e.item)) t rep serial (omega arith) in
          ap number_in (record_at-Names (λ (e : Single T). Some (number e.item, rec e.item)) t rep serial _ one.0 one.1) ∙ is
