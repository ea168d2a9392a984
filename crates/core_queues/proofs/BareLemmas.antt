-- Threads, works and instances as the invariant of a core knows them, where their loose fields are left out.
use Rattle.core_records.proofs.Core.{[], ap, arith, bare, bare_instance, bare_thread, found_record, found_record_at, get_or, High, IsSome, IsSoundCore, item_at, item_of, key_in, List, loose_thread, Low, map, mapped, None, number_in, Ok, on_item, Option, option_map, parts_of, place_at, place_at-mapped, Placed, placed_as, record_at, refl, Row, same_Some, instance_queue_chain, instance_queue_in, slice_get, slice_get-map, Some, SoundTable, subst, suc, sym, Table, thread_entry, thread_key, zero, ℕ, ◌<◌, ◌∙◌, ◌∷◌, ◌≡◌}
use Rattle.core_records.specs.declared.{instance_records.InstanceRecord.InstanceRecord, parts.CoreParts.CoreParts, single.Single.Single, thread_records.GuestThread.GuestThread, thread_records.Queued.Queued}
use Rattle.core_records.proofs.KindLemmas.{absent, item_stands}
use Rattle.core_records.proofs.TableLemmas.{number_at_mapped}
use Rattle.core_queues.specs.OrderKeys.{OfThread}

-- what is read by an index that is within
pub at_index : {X : Type 0} (xs : List X) (i : ℕ) (x : X) → IsSome (slice_get xs i) → x ≡ get_or xs i x → slice_get xs i ≡ Some x
at_index [] i x within is = absurd (cc)
at_index (y ∷ xs) zero x within is = ap (λ z. Some z) (sym is)
at_index (y ∷ xs) (suc i) x within is = at_index xs i x within is

module _ {T X : Type 0} (number : T → ℕ) (rec : T → X) (t : Table (Single T)) (made : ℕ) (sound : SoundTable (λ e. Some (number e.item, rec e.item)) t made) where
  -- what is at a place has a number
  pub number_positive : (rep : ℕ) (q : Placed (Single T)) → place_at t rep ≡ Some q → 0 < number q.entry.item
  number_positive rep q at = by (number q.entry.item) refl
    where
      there : found_record (λ e. Some (number e.item, rec e.item)) (number q.entry.item) t.places ≡ Some (rec q.entry.item)
      there = found_record_at (λ e. Some (number e.item, rec e.item)) t.places rep (number q.entry.item) (rec q.entry.item) sound.apart (ap (key_in (λ e. Some (number e.item, rec e.item))) at)

      by : (n : ℕ) → number q.entry.item ≡ n → 0 < n
      by zero is = absent (rec q.entry.item) (sym sound.above_zero ∙ (ap (λ m. found_record (λ e. Some (number e.item, rec e.item)) m t.places) (sym is) ∙ there))
      by (suc n) is = omega arith

  -- no number is at two places
  pub one_place : (r s : ℕ) (q w : Placed (Single T)) → place_at t r ≡ Some q → place_at t s ≡ Some w → number q.entry.item ≡ number w.entry.item → r ≡ s
  one_place r s q w at_r at_s same = sound.apart.one_place r s (number w.entry.item) (rec q.entry.item) (rec w.entry.item)
      (ap (key_in (λ e. Some (number e.item, rec e.item))) at_r ∙ ap (λ n. Some (n, rec q.entry.item)) same)
      (ap (key_in (λ e. Some (number e.item, rec e.item))) at_s)

module _ {E F : Type 0} (f : E → F) (t : Table E) (rep : ℕ) where
  -- what is in the table seen by f
  pub place_mapped : (p : Placed E) → place_at t rep ≡ Some p → place_at (mapped f t) rep ≡ Some (record { serial = p.serial; parent = p.parent; entry = f p.entry })
  place_mapped p at = place_at-mapped f t rep ∙ ap (placed_as f) at

  pub mapped_place : (q : Placed F) → place_at (mapped f t) rep ≡ Some q → (p : Placed E) × ((place_at t rep ≡ Some p) × (f p.entry ≡ q.entry))
  mapped_place q at = by (place_at t rep) refl (sym (place_at-mapped f t rep) ∙ at)
    where
      by : (o : Option (Placed E)) → place_at t rep ≡ o → placed_as f o ≡ Some q → (p : Placed E) × ((place_at t rep ≡ Some p) × (f p.entry ≡ q.entry))
      by None is there = absurd (cc)
      by (Some p) is there = (p, (is, ap (λ (x : Placed F). x.entry) (same_Some (record { serial = p.serial; parent = p.parent; entry = f p.entry }) q there)))

module _ (a : CoreParts) where
  -- the chain of an instance's entries
  pub instance_queue_bare : (k : ℕ × Row) (r : InstanceRecord) → slice_get a.instances.items k.0 ≡ Some r → instance_queue_chain (bare (parts_of a)) k ≡ Some (instance_queue_in k.1 r)
  instance_queue_bare k r at = ap (option_map (instance_queue_in k.1)) (slice_get-map bare_instance a.instances.items k.0 ∙ ap (option_map bare_instance) at) ∙ instance_queue_loose k.1
    where
      instance_queue_loose : (row : Row) → Some (instance_queue_in row (bare_instance r)) ≡ Some (instance_queue_in row r)
      instance_queue_loose High = refl
      instance_queue_loose Low = refl

  module _ (sound : IsSoundCore a) where
    -- where an instance is there the marks have chains
    has_instances : (i : ℕ) → IsSome (slice_get a.instances.items i) → map bare_instance a.instances.items ≡ [] → ⊥
    has_instances i some = by a.instances.items some
      where
        by : (xs : List InstanceRecord) → IsSome (slice_get xs i) → map bare_instance xs ≡ [] → ⊥
        by [] some none = absurd (cc)
        by (x ∷ xs) some none = absurd (cc)

    pub high_made : (i : ℕ) → IsSome (slice_get a.instances.items i) → IsSome a.high
    unfolding IsSoundCore
    high_made i some = sound.whole.counted.high (has_instances i some)

    pub low_made : (i : ℕ) → IsSome (slice_get a.instances.items i) → IsSome a.low
    unfolding IsSoundCore
    low_made i some = sound.whole.counted.low (has_instances i some)

    -- ---- Entries of threads

    module _ (x : Queued) (of_thread : OfThread (bare (parts_of a)) x) where
      pub thread_number_here : number_in (record_at thread_key a.threads.places x.place) ≡ of_thread.placed.entry.item.number
      thread_number_here = sym (number_at_mapped thread_key thread_key (on_item bare_thread) loose_thread (λ e. refl) a.threads x.place) ∙ ap (λ o. number_in (key_in thread_key o)) of_thread.at

      pub thread_number_positive : 0 < of_thread.placed.entry.item.number
      unfolding IsSoundCore
      thread_number_positive =
          let one = mapped_place (on_item bare_thread) a.threads x.place of_thread.placed of_thread.at in
          subst (λ (e : Single GuestThread). 0 < e.item.number) one.1.1 (number_positive (λ (g : GuestThread). g.number) (λ (g : GuestThread). g.thread) a.threads a.made.threads sound.tables.threads x.place one.0 one.1.0)

      pub thread_one_place : (y : Queued) (other : OfThread (bare (parts_of a)) y) → of_thread.placed.entry.item.number ≡ other.placed.entry.item.number → x.place ≡ y.place
      unfolding IsSoundCore
      thread_one_place y other same =
          let one = mapped_place (on_item bare_thread) a.threads x.place of_thread.placed of_thread.at in
          let two = mapped_place (on_item bare_thread) a.threads y.place other.placed other.at in
          one_place (λ (g : GuestThread). g.number) (λ (g : GuestThread). g.thread) a.threads a.made.threads sound.tables.threads x.place y.place one.0 two.0 one.1.0 two.1.0
          (ap (λ (e : Single GuestThread). e.item.number) one.1.1 ∙ (same ∙ sym (ap (λ (e : Single GuestThread). e.item.number) two.1.1)))

    module _ (rep serial : ℕ) (g : GuestThread) (is : Ok g ≡ item_at item_of a.threads rep serial) where
      pub thread_entry_of : OfThread (bare (parts_of a)) (thread_entry rep g)
      unfolding IsSoundCore
      thread_entry_of =
          let one = item_stands (λ (g : GuestThread). g.number) (λ (g : GuestThread). g.thread) a.threads a.made.threads sound.tables.threads rep serial g is in
          record {
            placed = record { serial = one.0.serial; parent = one.0.parent; entry = on_item bare_thread one.0.entry };
            at = place_mapped (on_item bare_thread) a.threads rep one.0 one.1.0;
            is = ap (λ (e : Single GuestThread). thread_entry rep (bare_thread e.item)) one.1.1.1;
          }
