-- What a write that a key does not see leaves of the key's records, and the records of a table seen by a function of its entries.
use Rattle.core_records.proofs.Core.{[], ap, ap₂, Bool, cond, false, found_record, get, get-records, IsSome, key_in, List, map, mapped, mapped-with_entry_same, None, number_in, Option, option_map, or_record, place_at, place_at-mapped, Placed, placed_as, record_at, records, refl, Some, StandsAt, subst, sym, Table, true, with_entry, with_record, ℕ, ◌==◌, ◌∙◌, ◌∷◌, ◌≡◌}

-- a number with a function of its record
abbrev pub with_second : {X Y : Type 0} → (X → Y) → Option (ℕ × X) → Option (ℕ × Y)
with_second r None = None
with_second r (Some e) = Some (e.0, r e.1)

module _ {E X : Type 0} (key : E → Option (ℕ × X)) where
  -- the records are those of the table seen by the key alone
  records_seen : (ps : List (Option (Placed E))) → records (λ (o : Option (ℕ × X)). o) (map (placed_as key) ps) ≡ records key ps
  unfolding records
  records_seen [] = refl
  records_seen (None ∷ ps) = records_seen ps
  records_seen (Some p ∷ ps) = ap (with_record (key p.entry)) (records_seen ps)

  found_seen : (n : ℕ) (ps : List (Option (Placed E))) → found_record (λ (o : Option (ℕ × X)). o) n (map (placed_as key) ps) ≡ found_record key n ps
  unfolding found_record
  found_seen n [] = refl
  found_seen n (None ∷ ps) = found_seen n ps
  found_seen n (Some p ∷ ps) = ap (or_record n (key p.entry)) (found_seen n ps)

  module _ (t : Table E) (rep : ℕ) (p : Placed E) (at : place_at t rep ≡ Some p) (e : E) (same : key e ≡ key p.entry) where
    pub records_unseen : records key (with_entry rep e t).places ≡ records key t.places
    unfolding mapped
    records_unseen =
        sym (records_seen (with_entry rep e t).places)
        ∙ (ap (λ (u : Table (Option (ℕ × X))). records (λ (o : Option (ℕ × X)). o) u.places) (mapped-with_entry_same key t rep e p at same)
        ∙ records_seen t.places)

    pub found_unseen : (n : ℕ) → found_record key n (with_entry rep e t).places ≡ found_record key n t.places
    unfolding mapped
    found_unseen n =
        sym (found_seen n (with_entry rep e t).places)
        ∙ (ap (λ (u : Table (Option (ℕ × X))). found_record (λ (o : Option (ℕ × X)). o) n u.places) (mapped-with_entry_same key t rep e p at same)
        ∙ found_seen n t.places)

-- ---- A table seen by a function of its entries

module _ {E F X Y : Type 0} (key : E → Option (ℕ × X)) (name : F → Option (ℕ × Y)) (f : E → F) (r : X → Y) (seen : (e : E) → name (f e) ≡ with_second r (key e)) where
  or_mapped : (n : ℕ) (e : Option (ℕ × X)) (o : Option X) → or_record n (with_second r e) (option_map r o) ≡ option_map r (or_record n e o)
  or_mapped n None o = refl
  or_mapped n (Some e) o = by_test (n == e.0)
    where
      by_test : (b : Bool) → cond b (Some (r e.1)) (option_map r o) ≡ option_map r (cond b (Some e.1) o)
      by_test true = refl
      by_test false = refl

  pub found_mapped : (n : ℕ) (ps : List (Option (Placed E))) → found_record name n (map (placed_as f) ps) ≡ option_map r (found_record key n ps)
  unfolding found_record
  found_mapped n [] = refl
  found_mapped n (None ∷ ps) = found_mapped n ps
  found_mapped n (Some p ∷ ps) = ap₂ (or_record n) (seen p.entry) (found_mapped n ps) ∙ or_mapped n (key p.entry) (found_record key n ps)

  number_mapped : (o : Option (Placed E)) → number_in (key_in name (placed_as f o)) ≡ number_in (key_in key o)
  number_mapped None = refl
  number_mapped (Some p) = ap number_in (seen p.entry) ∙ by_key (key p.entry)
    where
      by_key : (e : Option (ℕ × X)) → number_in (with_second r e) ≡ number_in e
      by_key None = refl
      by_key (Some e) = refl

  -- what is at a place has the number that it has there
  pub number_at_mapped : (t : Table E) (rep : ℕ) → number_in (record_at name (mapped f t).places rep) ≡ number_in (record_at key t.places rep)
  number_at_mapped t rep = ap (λ o. number_in (key_in name o)) (place_at-mapped f t rep) ∙ number_mapped (place_at t rep)

  pub get_mapped : (t : Table E) (n : ℕ) → get (records name (mapped f t).places) n ≡ option_map r (get (records key t.places) n)
  unfolding mapped
  get_mapped t n = get-records name (map (placed_as f) t.places) n ∙ (found_mapped n t.places ∙ ap (option_map r) (sym (get-records key t.places n)))

  some_mapped : (o : Option X) → IsSome o → IsSome (option_map r o)
  some_mapped None some = absurd (cc)
  some_mapped (Some x) some = refl

  -- where a number is it is
  pub stands_mapped : (t : Table E) (rep n : ℕ) → StandsAt name (mapped f t) rep n → StandsAt key t rep n
  unfolding mapped
  stands_mapped t rep n at some = sym (number_at_mapped t rep) ∙ at (subst IsSome (sym (found_mapped n t.places)) (some_mapped (found_record key n t.places) some))

  some_back : (o : Option X) → IsSome (option_map r o) → IsSome o
  some_back None some = absurd (cc)
  some_back (Some x) some = refl

  pub stands_in_mapped : (t : Table E) (rep n : ℕ) → StandsAt key t rep n → StandsAt name (mapped f t) rep n
  unfolding mapped
  stands_in_mapped t rep n at some = number_at_mapped t rep ∙ at (some_back (found_record key n t.places) (subst IsSome (found_mapped n t.places) some))
