-- Places in the resource table: that of what is at a place of a table, and those that are left where a record goes.
use Rattle.core_records.proofs.Core.{ap, AreApart, cond, deleted, entry_of, found_record_at, get, get-records, get-remove, item_at, item_of, key_in, ne_eqb, no_other, None, Ok, Option, place_at, Placed, record_at-item, records, refl, Some, SoundTable, Table, TakesRecord-deleted, ℕ, ◌∙◌, ◌≡◌}
use Rattle.core_queues.proofs.CallerLemmas.{apart_as}
use Rattle.core_records.specs.declared.{single.Single.Single}

module _ {T X Y : Type 0} (number : T → ℕ) (rec : T → X) (seat : T → Y) (t : Table (Single T)) (made : ℕ) (sound : SoundTable (λ (e : Single T). Some (number e.item, rec e.item)) t made) where
  abbrev seat_key : Single T → Option (ℕ × Y)
  seat_key e = Some (number e.item, seat e.item)

  seats_apart : AreApart seat_key t.places
  seats_apart = apart_as number rec seat t.places sound.apart

  pub seat_read : (rep : ℕ) (p : Placed (Single T)) → place_at t rep ≡ Some p → get (records seat_key t.places) (number p.entry.item) ≡ Some (seat p.entry.item)
  seat_read rep p at =
      get-records seat_key t.places (number p.entry.item)
      ∙ found_record_at seat_key t.places rep (number p.entry.item) (seat p.entry.item) seats_apart (ap (key_in seat_key) at)

  pub seats_less : (rep serial : ℕ) (g : T) → Ok g ≡ item_at item_of t rep serial → (n : ℕ) → (n ≡ number g → ⊥) → get (records seat_key (deleted rep t).places) n ≡ get (records seat_key t.places) n
  seats_less rep serial g is n other =
      ap (λ m. get m n) (TakesRecord-deleted seat_key t rep (number g) (seat g) seats_apart (record_at-item item_of entry_of no_other seat_key t rep serial g is)).map
      ∙ (get-remove (records seat_key t.places) (number g) n
      ∙ ap (λ b. cond b None (get (records seat_key t.places) n)) (ne_eqb n (number g) other))
