-- The first of the chain of a set's waiters is the least of them.
use Rattle.core_records.proofs.Core.{ap, bare, filings_at, Filing, held_passes, Holds, IsLinks, is_waiting_on, IsSoundCore, item_at, item_of, key_in, link_of, number_in, Ok, option_and_then, option_map, parts_of, place_at, place_chain, place_filing, Placed, record_at, same_Some, seen, Some, subst, sym, Thread, thread_key, thread_of, ThreadKey, TableId, true, WaitsOn, Where, where_at, ℕ, ◌∙◌, ◌≡◌, false}
use Rattle.core_records.specs.declared.{parts.CoreParts.CoreParts, set_records.WaitSet.WaitSet, single.Single.Single, thread_records.GuestThread.GuestThread}
use Rattle.std.specs.Ordering.{is_lt}
use Rattle.core_places.proofs.FiledLemmas.{place_tests, places_filed}
use Rattle.core_places.proofs.FirstLemmas.{none_less, thread_front}
use Rattle.core_places.proofs.WaiterLemmas.{waiters_chain, waits_filed, waits_passes}
use Rattle.core_places.specs.Picks.{IsLeastWaiter}
use Rattle.core_queues.proofs.BareLemmas.{one_place}
use Rattle.table_lists.specs.OrderKeys.{order_key_order}
use Rattle.table_lists.specs.declared.ordered_lists.OrderKey.{OrderKey}
use Rattle.table_links.specs.Links.{AreLinked, entries}
use Rattle.core_records.proofs.KindLemmas.{item_stands}
use Rattle.core_records.proofs.ReadLemmas.{thread_named}
use Rattle.core_records.specs.RecordPlaces.{thread_order_key}
use Rattle.task_wait.specs.Sets.{IsLeast}

module _ (a : CoreParts) (sound : IsSoundCore a) (rep serial : ℕ) (x : WaitSet) (is : Ok x ≡ item_at item_of a.sets rep serial) (v : OrderKey) (holds : Holds a.places x.waiters v) where
  -- the order key of a thread with the number at its place
  order_key_of_first : (id : TableId ThreadKey) → thread_of (seen a) id ≡ number_in (record_at thread_key a.threads.places v.place) → (g : GuestThread) → Ok g ≡ item_at item_of a.threads id.rep id.serial → g.number ≡ thread_of (seen a) id → thread_order_key a.version id.rep g ≡ v
  unfolding IsSoundCore
  order_key_of_first id at g item named =
      let one = held_passes (place_filing a.version) (place_chain (bare (parts_of a))) a.threads a.places (places_filed a sound) (WaitsOn x.number) x.waiters (waiters_chain a sound rep serial x is) thread_key (λ (e : ℕ × Thread). is_waiting_on x.number e.1.place) (place_tests a.version (WaitsOn x.number) (is_waiting_on x.number) (waits_passes x.number) (waits_filed x.number)) sound.tables.threads.apart v holds in
      let order_key : thread_order_key a.version one.place one.placed.entry.item ≡ v = ap (λ (f : Filing Where OrderKey). f.value) (same_Some (record { node = one.placed.entry.item.node.index; key = where_at one.placed.entry.item.instance one.placed.entry.item.barred one.placed.entry.item.thread.place; value = thread_order_key a.version one.place one.placed.entry.item }) one.filed one.is_said) ∙ one.is_value in
      let place : one.place ≡ v.place = ap (λ (s : OrderKey). s.place) order_key in
      let number : one.placed.entry.item.number ≡ g.number = sym (named ∙ (at ∙ (ap (λ r. number_in (record_at thread_key a.threads.places r)) (sym place) ∙ ap (λ o. number_in (key_in thread_key o)) one.stands))) in
      let mine = item_stands (λ (h : GuestThread). h.number) (λ (h : GuestThread). h.thread) a.threads a.made.threads sound.tables.threads id.rep id.serial g item in
      let same : one.place ≡ id.rep = one_place (λ (h : GuestThread). h.number) (λ (h : GuestThread). h.thread) a.threads a.made.threads sound.tables.threads one.place id.rep one.placed mine.0 one.stands mine.1.0 (number ∙ sym (ap (λ (e : Single GuestThread). e.item.number) mine.1.1.1)) in
      let entry : one.placed ≡ mine.0 = same_Some one.placed mine.0 (sym one.stands ∙ (ap (place_at a.threads) same ∙ mine.1.0)) in
      sym (ap (λ r. thread_order_key a.version r g) same)
      ∙ (ap (thread_order_key a.version one.place) (sym (ap (λ (p : Placed (Single GuestThread)). p.entry.item) entry ∙ ap (λ (e : Single GuestThread). e.item) mine.1.1.1)) ∙ order_key)

  -- the link of one that waits
  link_of_waiter : (r : ℕ) (q : Placed (Single GuestThread)) → place_at a.threads r ≡ Some q → is_waiting_on x.number q.entry.item.thread.place ≡ true → link_of a.places q.entry.item.node.index ≡ Some (x.waiters, thread_order_key a.version r q.entry.item)
  link_of_waiter r q at waits =
      (places_filed a sound).has_link r _ (filings_at (place_filing a.version) a.threads r (Some q) at)
      ∙ (ap (λ k. option_map (λ c. (c, thread_order_key a.version r q.entry.item)) (option_and_then (place_chain (bare (parts_of a))) k)) (waits_filed x.number q.entry.item.instance q.entry.item.barred q.entry.item.thread.place waits)
      ∙ ap (option_map (λ c. (c, thread_order_key a.version r q.entry.item))) (waiters_chain a sound rep serial x is))

  pub least_waiter : IsLinks a.places → AreLinked a.places x.waiters (entries a.places x.waiters) → IsLeast order_key_order v (entries a.places x.waiters) → (n : ℕ) → x.number ≡ n → (id : TableId ThreadKey) → thread_of (seen a) id ≡ number_in (record_at thread_key a.threads.places v.place) → IsLeastWaiter a n id
  least_waiter links linked least n same id at g item r q there waits =
      let order_key = order_key_of_first id at g item (thread_named a id g item) in
      let h = q.entry.item in
      let off = none_less a.places x.waiters v links linked least h.node.index (thread_order_key a.version r h) (link_of_waiter r q there (subst (λ k. is_waiting_on k h.thread.place ≡ true) (sym same) waits)) in
      thread_front a.version r id.rep h g (subst (λ s. is_lt (order_key_order (thread_order_key a.version r h) s) ≡ false) (sym order_key) off)
