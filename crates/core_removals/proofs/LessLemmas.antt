-- A table with one record less: what is kept under the numbers, and what is at the places.
use Rattle.core_records.proofs.Core.{ap, arith, Bool, cond, deleted, EachEntry, entry_of, eq-eqb, false, found_record, found_record_at, get, get-records, item_at, item_of, key_in, list_any, nat_lt, ne_eqb, no_other, None, Ok, one_if_passes, Option, passing, passing-with_at, place_at, place_at-deleted, Placed, record_at-item, Records, records, refl, size, size-remove_present, Some, SoundTable, sym, Table, TakesRecord, TakesRecord-deleted, true, ℕ, ◌+◌, ◌==◌, ◌∙◌, ◌≡◌}
use Rattle.core_records.specs.declared.{single.Single.Single}
use Rattle.core_queues.proofs.CallerLemmas.{apart_as}
use Rattle.core_records.proofs.KindLemmas.{item_number, item_read}
use Rattle.core_records.proofs.KeptLemmas.{any_passing}
use Rattle.core_records.proofs.MakeLemmas.{records_less}

module _ {T X : Type 0} (number : T → ℕ) (rec : T → X) (t : Table (Single T)) (made : ℕ) (sound : SoundTable (λ (e : Single T). Some (number e.item, rec e.item)) t made) (rep serial : ℕ) (g : T) (is : Ok g ≡ item_at item_of t rep serial) where
  abbrev key : Single T → Option (ℕ × X)
  key e = Some (number e.item, rec e.item)

  module _ {Y : Type 0} (other : T → Y) where
    abbrev under : Single T → Option (ℕ × Y)
    under e = Some (number e.item, other e.item)

    takes : TakesRecord under t.places (deleted rep t).places (number g)
    takes = TakesRecord-deleted under t rep (number g) (other g) (apart_as number rec other t.places sound.apart) (record_at-item item_of entry_of no_other under t rep serial g is)

    pub found_gone : found_record under (number g) (deleted rep t).places ≡ None
    found_gone = takes.found (number g) ∙ ap (λ b. cond b None (found_record under (number g) t.places)) (eq-eqb (number g) (number g) refl)

    pub found_still : (n : ℕ) → (n ≡ number g → ⊥) → found_record under n (deleted rep t).places ≡ found_record under n t.places
    found_still n apart = takes.found n ∙ ap (λ b. cond b None (found_record under n t.places)) (ne_eqb n (number g) apart)

  -- what is at a place was there
  pub placed_before : (r : ℕ) (q : Placed (Single T)) → place_at (deleted rep t) r ≡ Some q → place_at t r ≡ Some q
  placed_before r q at = by (r == rep) (sym (place_at-deleted t rep r) ∙ at)
    where
      by : (b : Bool) → cond b None (place_at t r) ≡ Some q → place_at t r ≡ Some q
      by true none = absurd (cc)
      by false some = some

  pub each_left : (P : T → Type 0) → EachEntry P t → EachEntry P (deleted rep t)
  each_left P each r q at = each r q (placed_before r q at)

  pub one_fewer : size (records key (deleted rep t).places) + 1 ≡ size (records key t.places)
  one_fewer =
      ap (λ m. size m + 1) (records_less number rec t made sound rep serial g is)
      ∙ size-remove_present (records key t.places) (number g) (rec g) (ap (get (records key t.places)) (sym (item_number number rec t rep serial g is)) ∙ sym (item_read number rec t made sound rep serial g is))

-- what is at a place is had under its number
module _ {T X : Type 0} (number : T → ℕ) (rec : T → X) (t : Table (Single T)) (made : ℕ) (sound : SoundTable (λ (e : Single T). Some (number e.item, rec e.item)) t made) where
  pub read_at : (r : ℕ) (p : Placed (Single T)) → place_at t r ≡ Some p → get (records (λ (e : Single T). Some (number e.item, rec e.item)) t.places) (number p.entry.item) ≡ Some (rec p.entry.item)
  read_at r p at =
      get-records (λ (e : Single T). Some (number e.item, rec e.item)) t.places (number p.entry.item)
      ∙ found_record_at (λ (e : Single T). Some (number e.item, rec e.item)) t.places r (number p.entry.item) (rec p.entry.item) sound.apart (ap (key_in (λ (e : Single T). Some (number e.item, rec e.item))) at)

-- where no record passes, one that is there doesn't
module _ {X : Type 0} (test : X → Bool) (m : Records X) (none : list_any (λ (e : ℕ × X). test e.1) m.list ≡ false) where
  pub passes_not : (n : ℕ) (x : X) → get m n ≡ Some x → test x ≡ true → ⊥
  passes_not n x at passes =
      let law = passing-with_at test m n None in
      let one : one_if_passes test (get m n) ≡ 1 = ap (one_if_passes test) at ∙ ap (λ b. cond b 1 0) passes in
      let zero : passing test m ≡ 0 = is_zero (passing test m) (any_passing test m ∙ none) in
      omega arith
    where
      is_zero : (k : ℕ) → nat_lt 0 k ≡ false → k ≡ 0
      is_zero k is = grind arith
