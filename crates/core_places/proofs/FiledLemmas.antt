-- What a record keeps under its number, and where threads are filed.
use Rattle.machine_data.specs.declared.scenario.Version.{Version}
use Rattle.core_records.proofs.Core.{ap, bare, bare_thread, Bool, Filing, filings, found_record, found_record_at, IsIndex, IsIndex-same, IsSoundCore, item_at, item_of, key_in, None, number_in, Ok, on_item, Option, option_map, parts_of, PassesAt, Place, place_at, place_at-mapped, place_chain, place_filing, Placed, placed_as, record_at, refl, said, same_Some, Some, SoundTable, sym, Table, Tests, Thread, thread_key, true, Where, where_at, ℕ, ◌∙◌, ◌≡◌}
use Rattle.core_records.specs.declared.{parts.CoreParts.CoreParts, single.Single.Single, thread_records.GuestThread.GuestThread}
use Rattle.core_records.proofs.KindLemmas.{item_stands}
use Rattle.core_records.proofs.StandLemmas.{number_here}
use Rattle.core_queues.proofs.CallerLemmas.{apart_as}
use Rattle.table_lists.specs.declared.ordered_lists.OrderKey.{OrderKey}
use Rattle.core_records.specs.RecordPlaces.{thread_order_key}

module _ {T X Y : Type 0} (number : T → ℕ) (rec : T → X) (other : T → Y) (t : Table (Single T)) (made : ℕ) (sound : SoundTable (λ e. Some (number e.item, rec e.item)) t made) (rep serial : ℕ) (g : T) (is : Ok g ≡ item_at item_of t rep serial) where
  -- what is kept under the number of a record that is there
  pub kept_under : found_record (λ e. Some (number e.item, other e.item)) (number g) t.places ≡ Some (other g)
  kept_under =
      let one = item_stands number rec t made sound rep serial g is in
      found_record_at (λ e. Some (number e.item, other e.item)) t.places rep (number g) (other g) (apart_as number rec other t.places sound.apart) (ap (key_in (λ e. Some (number e.item, other e.item))) one.1.0 ∙ ap (λ (e : Single T). Some (number e.item, other e.item)) one.1.1.1)

-- the number at the place of a record that passes
pub passes_number : {T X K : Type 0} (number : T → ℕ) (rec : T → X) (says : ℕ → ℕ → Single T → Option (Filing K OrderKey)) (t : Table (Single T)) (test : ℕ × X → Bool) (v : OrderKey) (n : ℕ) (one : PassesAt says t (λ e. Some (number e.item, rec e.item)) test v) → one.place ≡ v.place → n ≡ number_in (record_at (λ e. Some (number e.item, rec e.item)) t.places v.place) → one.entry.0 ≡ n
passes_number number rec says t test v n one same at =
    sym one.is_named ∙ (number_here number rec t one.place one.placed.serial (sym (ap (option_map (λ p. p.serial)) one.stands))
    ∙ (ap (λ r. number_in (record_at (λ e. Some (number e.item, rec e.item)) t.places r)) same ∙ sym at))

module _ (a : CoreParts) (sound : IsSoundCore a) where
  -- the places of threads are filed as the records say
  pub places_filed : IsIndex (place_chain (bare (parts_of a))) a.places (filings (place_filing a.version) a.threads)
  unfolding IsSoundCore filings
  places_filed = IsIndex-same (place_chain (bare (parts_of a))) a.places _ sound.whole.chained.places (filings (place_filing a.version) a.threads) (λ r. sym (ap (said (place_filing a.version) r) (place_at-mapped (on_item bare_thread) a.threads r) ∙ by r (place_at a.threads r)))
    where
      by : (r : ℕ) (o : Option (Placed (Single GuestThread))) → said (place_filing a.version) r (placed_as (on_item bare_thread) o) ≡ said (place_filing a.version) r o
      by r None = refl
      by r (Some p) = refl

-- a list of threads that a test of their place finds
module _ (v : Version) (k : Where) (test : Place → Bool) (passes : (i : ℕ) (b : Bool) (p : Place) → where_at i b p ≡ Some k → test p ≡ true) (filed : (i : ℕ) (b : Bool) (p : Place) → test p ≡ true → where_at i b p ≡ Some k) where
  pub place_tests : Tests (place_filing v) thread_key k (λ (e : ℕ × Thread). test e.1.place)
  place_tests = record {
    passes = λ rep serial e f says is_k. ((e.item.number, e.item.thread), (refl, passes e.item.instance e.item.barred e.item.thread.place (ap (λ (g : Filing Where OrderKey). g.key) (same_Some (record { node = e.item.node.index; key = where_at e.item.instance e.item.barred e.item.thread.place; value = thread_order_key v rep e.item }) f says) ∙ is_k)));
    filed = λ rep serial e x says is. (record { node = e.item.node.index; key = where_at e.item.instance e.item.barred e.item.thread.place; value = thread_order_key v rep e.item }, (refl, filed e.item.instance e.item.barred e.item.thread.place (ap (λ (y : ℕ × Thread). test y.1.place) (same_Some (e.item.number, e.item.thread) x says) ∙ is)));
  }
