-- What two tables have in common that are alike as far as a function of their entries sees.
use Rattle.core_records.proofs.Core.{[], ap, ap₂, Filing, filings, found_record, HaveNodes, is_made, IsSome, List, map, mapped, None, number_in, number_of, number_of-mapped, on_item, Option, option_map, place_at, place_at-mapped, Placed, placed_as, record_at, refl, said, keyed, Some, Spot, StandsAt, subst, sym, Table, tag_of, tags_in, trimmed, true, ℕ, ◌∙◌, ◌∷◌, ◌≡◌}
use Rattle.core_records.specs.declared.{single.Single.Single}
use Rattle.core_records.proofs.TableLemmas.{found_mapped, number_at_mapped, with_second}
use Rattle.core_places.specs.Moved.{Alike}
use Rattle.core_queues.proofs.BareLemmas.{mapped_place, place_mapped}

pub id_same : {X : Type 0} (o : Option X) → option_map (λ x. x) o ≡ o
id_same None = refl
id_same (Some x) = refl

module _ {T : Type 0} (f : T → T) (new old : Table (Single T)) (alike : Alike f new old) where
  -- who is in the one is in the other
  pub place_alike : (r : ℕ) (q : Placed (Single T)) → place_at new r ≡ Some q → (p : Placed (Single T)) × ((place_at old r ≡ Some p) × (f p.entry.item ≡ f q.entry.item))
  place_alike r q at =
      let one = mapped_place (on_item f) old r (record { serial = q.serial; parent = q.parent; entry = on_item f q.entry }) (sym (ap (λ t. place_at t r) alike) ∙ place_mapped (on_item f) new r q at) in
      (one.0, (one.1.0, ap (λ (e : Single T). e.item) one.1.1))

  -- an order key that looks no further
  module _ {Q : Type 0} (order_key : ℕ → T → Q) (blind : (r : ℕ) (x : T) → order_key r (f x) ≡ order_key r x) where
    keyed_mapped : (t : Table (Single T)) (r : ℕ) → keyed order_key (mapped (on_item f) t) r ≡ keyed order_key t r
    keyed_mapped t r = ap (option_map (λ (p : Placed (Single T)). order_key r p.entry.item)) (place_at-mapped (on_item f) t r) ∙ by (place_at t r)
      where
        by : (o : Option (Placed (Single T))) → option_map (λ (p : Placed (Single T)). order_key r p.entry.item) (placed_as (on_item f) o) ≡ option_map (λ (p : Placed (Single T)). order_key r p.entry.item) o
        by None = refl
        by (Some p) = ap (λ (x : Q). Some x) (blind r p.entry.item)

    pub keyed_alike : (r : ℕ) → keyed order_key new r ≡ keyed order_key old r
    keyed_alike r = sym (keyed_mapped new r) ∙ (ap (λ t. keyed order_key t r) alike ∙ keyed_mapped old r)

  module _ (number : T → ℕ) (named : (x : T) → number (f x) ≡ number x) where
    -- a key that looks no further
    module _ {X : Type 0} (rec : T → X) (blind : (x : T) → rec (f x) ≡ rec x) where
      found_seen : (n : ℕ) (t : Table (Single T)) → found_record (λ (e : Single T). Some (number e.item, rec e.item)) n (mapped (on_item f) t).places ≡ found_record (λ (e : Single T). Some (number e.item, rec e.item)) n t.places
      unfolding mapped
      found_seen n t = found_mapped (λ (e : Single T). Some (number e.item, rec e.item)) (λ (e : Single T). Some (number e.item, rec e.item)) (on_item f) (λ (x : X). x) (λ e. ap₂ (λ (m : ℕ) (x : X). Some (m, x)) (named e.item) (blind e.item)) n t.places ∙ id_same (found_record (λ (e : Single T). Some (number e.item, rec e.item)) n t.places)

      pub found_alike : (n : ℕ) → found_record (λ (e : Single T). Some (number e.item, rec e.item)) n new.places ≡ found_record (λ (e : Single T). Some (number e.item, rec e.item)) n old.places
      found_alike n = sym (found_seen n new) ∙ (ap (λ (t : Table (Single T)). found_record (λ (e : Single T). Some (number e.item, rec e.item)) n t.places) alike ∙ found_seen n old)

    -- a key whose record is seen by a function
    module _ {X : Type 0} (rec : T → X) (loose : X → X) (follows : (x : T) → rec (f x) ≡ loose (rec x)) where
      abbrev pub key : Single T → Option (ℕ × X)
      key e = Some (number e.item, rec e.item)

      seen : (e : Single T) → key (on_item f e) ≡ with_second loose (key e)
      seen e = ap₂ (λ (m : ℕ) (x : X). Some (m, x)) (named e.item) (follows e.item)

      pub number_alike : (r : ℕ) → number_in (record_at key new.places r) ≡ number_in (record_at key old.places r)
      number_alike r = sym (number_at_mapped key key (on_item f) loose seen new r) ∙ (ap (λ (t : Table (Single T)). number_in (record_at key t.places r)) alike ∙ number_at_mapped key key (on_item f) loose seen old r)

      less_some : (o : Option X) → IsSome (option_map loose o) → IsSome o
      less_some None some = absurd (cc)
      less_some (Some x) some = refl

      more_some : (o : Option X) → IsSome o → IsSome (option_map loose o)
      more_some None some = absurd (cc)
      more_some (Some x) some = refl

      found_through : (n : ℕ) (t : Table (Single T)) → found_record key n (mapped (on_item f) t).places ≡ option_map loose (found_record key n t.places)
      unfolding mapped
      found_through n t = found_mapped key key (on_item f) loose seen n t.places

      pub found_loose : (n : ℕ) → option_map loose (found_record key n new.places) ≡ option_map loose (found_record key n old.places)
      found_loose n = sym (found_through n new) ∙ (ap (λ (t : Table (Single T)). found_record key n t.places) alike ∙ found_through n old)

      pub stands_alike : (r n : ℕ) → StandsAt key old r n → StandsAt key new r n
      stands_alike r n at some = number_alike r ∙ at (less_some (found_record key n old.places) (subst IsSome (sym (found_through n new) ∙ (ap (λ (t : Table (Single T)). found_record key n t.places) alike ∙ found_through n old)) (more_some (found_record key n new.places) some)))

  pub nodes_alike : {P : Type 0} (node : T → ℕ) → ((x : T) → node (f x) ≡ node x) → (links : List (Spot P)) → HaveNodes node old links → HaveNodes node new links
  nodes_alike node blind links have = record {
    made = λ r q at. let one = place_alike r q at in subst (λ n. is_made links n ≡ true) (same one.0.entry.item q.entry.item one.1.1) (have.made r one.0 one.1.0);
    own = λ r s q w at_q at_w is.
        let one = place_alike r q at_q in
        let two = place_alike s w at_w in
        have.own r s one.0 two.0 one.1.0 two.1.0 (same one.0.entry.item q.entry.item one.1.1 ∙ (is ∙ sym (same two.0.entry.item w.entry.item two.1.1)));
  }
    where
      same : (x y : T) → f x ≡ f y → node x ≡ node y
      same x y is = sym (blind x) ∙ (ap node is ∙ blind y)

-- the tags of what is alike
pub tags_alike : {T X : Type 0} (f : T → T) (key : Single T → Option (ℕ × X)) → ((e : Single T) → number_in (key (on_item f e)) ≡ number_in (key e)) → (new old : Table (Single T)) → Alike f new old → tags_in key new ≡ tags_in key old
unfolding mapped
tags_alike {T} f key named new old alike = ap trimmed (sym (through new.places) ∙ (ap (λ (t : Table (Single T)). map (tag_of key) t.places) alike ∙ through old.places))
  where
    through : (ps : List (Option (Placed (Single T)))) → map (tag_of key) (map (placed_as (on_item f)) ps) ≡ map (tag_of key) ps
    through [] = refl
    through (None ∷ ps) = ap (λ l. None ∷ l) (through ps)
    through (Some p ∷ ps) = ap₂ (λ (n : ℕ) l. Some (record { serial = p.serial; number = n }) ∷ l) (named p.entry) (through ps)

-- the number of what an id finds
pub number_of_alike : {T X : Type 0} (f : T → T) (key : Single T → Option (ℕ × X)) → ((e : Single T) → number_in (key (on_item f e)) ≡ number_in (key e)) → (new old : Table (Single T)) → Alike f new old → (r s : ℕ) → number_of key new r s ≡ number_of key old r s
number_of_alike f key named new old alike r s = sym (number_of-mapped (on_item f) new key key named r s) ∙ (ap (λ t. number_of key t r s) alike ∙ number_of-mapped (on_item f) old key key named r s)

-- what the entries say of an index that looks no further
pub filings_alike : {T K P : Type 0} (f : T → T) (says : ℕ → ℕ → Single T → Option (Filing K P)) → ((r s : ℕ) (x : T) → says r s (on_item f (record { item = x })) ≡ says r s (record { item = x })) → (new old : Table (Single T)) → Alike f new old → (r : ℕ) → filings says new r ≡ filings says old r
unfolding filings
filings_alike {T} f says blind new old alike r = sym (through new) ∙ (ap (λ (t : Table (Single T)). said says r (place_at t r)) alike ∙ through old)
  where
    by : (o : Option (Placed (Single T))) → said says r (placed_as (on_item f) o) ≡ said says r o
    by None = refl
    by (Some p) = blind r p.serial p.entry.item

    through : (t : Table (Single T)) → said says r (place_at (mapped (on_item f) t) r) ≡ said says r (place_at t r)
    through t = ap (said says r) (place_at-mapped (on_item f) t r) ∙ by (place_at t r)
