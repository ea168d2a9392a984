-- A table seen by a function of its items is a sound table of the same numbers.
use Rattle.core_records.proofs.Core.{ap, ap₂, children_of-mapped, found-mapped, found_record, IsTable-mapped, item_at, item_found, item_in, item_of, key_in, mapped, None, Ok, on_item, Option, option_map, place_at, place_at-mapped, Placed, placed_as, record_at, refl, same_Some, Some, SoundTable, sym, Table, ℕ, ◌∙◌, ◌≡◌}
use Rattle.core_records.specs.declared.{single.Single.Single}
use Rattle.core_records.proofs.TableLemmas.{found_mapped, with_second}

module _ {T X : Type 0} (number : T → ℕ) (rec : T → X) (f : T → T) (loose : X → X) (named : (x : T) → number (f x) ≡ number x) (follows : (x : T) → rec (f x) ≡ loose (rec x)) (t : Table (Single T)) where
  abbrev key : Single T → Option (ℕ × X)
  key e = Some (number e.item, rec e.item)

  seen : (e : Single T) → key (on_item f e) ≡ with_second loose (key e)
  seen e = ap₂ (λ (m : ℕ) (x : X). Some (m, x)) (named e.item) (follows e.item)

  none_there : (made n : ℕ) → found_record key n t.places ≡ None → found_record key n (mapped (on_item f) t).places ≡ None
  unfolding mapped
  none_there made n none = found_mapped key key (on_item f) loose seen n t.places ∙ ap (option_map loose) none

  -- a number that is seen at a place is that of what is there
  number_seen : (r n : ℕ) (x : X) → record_at key (mapped (on_item f) t).places r ≡ Some (n, x) → (y : X) × (record_at key t.places r ≡ Some (n, y))
  number_seen r n x at = by (place_at t r) refl (sym (ap (key_in key) (place_at-mapped (on_item f) t r)) ∙ at)
    where
      by : (o : Option (Placed (Single T))) → place_at t r ≡ o → key_in key (placed_as (on_item f) o) ≡ Some (n, x) → (y : X) × (record_at key t.places r ≡ Some (n, y))
      by None is none = absurd (cc)
      by (Some p) is some = (rec p.entry.item, ap (key_in key) is ∙ ap (λ (m : ℕ). Some (m, rec p.entry.item)) (sym (named p.entry.item) ∙ ap (λ (e : ℕ × X). e.0) (same_Some (number (f p.entry.item), rec (f p.entry.item)) (n, x) some)))

  pub sound_mapped : (made : ℕ) → SoundTable key t made → SoundTable key (mapped (on_item f) t) made
  sound_mapped made sound = record {
    table = IsTable-mapped (on_item f) t sound.table;
    childless = λ r. children_of-mapped (on_item f) t r ∙ sound.childless r;
    apart = record { one_place = λ r s n x y at_r at_s. let one = number_seen r n x at_r in let two = number_seen s n y at_s in sound.apart.one_place r s n one.0 two.0 one.1 two.1 };
    above_zero = none_there made 0 sound.above_zero;
    later = λ n more. none_there made n (sound.later n more);
  }

pub item_mapped : {T : Type 0} (f : T → T) (t : Table (Single T)) (rep serial : ℕ) (g : T) → Ok g ≡ item_at item_of t rep serial → Ok (f g) ≡ item_at item_of (mapped (on_item f) t) rep serial
item_mapped f t rep serial g is =
    let one = item_found item_of t rep serial g (sym is) in
    sym (ap (item_in item_of) (found-mapped (on_item f) t rep serial ∙ ap (placed_as (on_item f)) one.1) ∙ ap (λ x. Ok (f x)) (same_Some one.0.entry.item g one.2))
