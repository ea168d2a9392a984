-- The waiters of a set.
use Rattle.core_records.proofs.Core.{HeldIn, StartsIn, Bool, ap, AtPlace, bare, eq-eqb, eqb-true, false, Filing, get, has_waiter, held_passes, Holds, is_waiter, is_waiting_on, IsSome, IsSoundCore, item_at, item_of, key_in, list_of, none_passes, number_in, Ok, option_map, option_map_or, CoreImage, parts_of, Place, place_chain, place_filing, place_target, ready_why, record_at, records, same_Some, seen, Some, subst, sym, Thread, thread_key, true, WaitsOn, Where, where_at, why_target, ℕ, ◌<◌, ◌∙◌, ◌≡◌}
use Rattle.machine_rules.specs.Places.{is_for_start}
use Rattle.std.specs.Prelude.{◌&&◌, if◌then◌else◌}
use Rattle.core_records.specs.declared.{parts.CoreParts.CoreParts, set_records.WaitSet.WaitSet, thread_records.GuestThread.GuestThread}
use Rattle.core_places.proofs.FiledLemmas.{kept_under, passes_number, place_tests, places_filed}
use Rattle.core_queues.proofs.BareLemmas.{number_positive}
use Rattle.table_lists.specs.declared.ordered_lists.OrderKey.{OrderKey}
use Rattle.core_records.specs.RecordPlaces.{thread_order_key}

-- the set of a queued delivery is what the place names
pub delivery_at : (p : CoreImage) (rep : ℕ) (o : Place) → AtPlace p rep (place_target o) → AtPlace p rep (why_target (ready_why o))
delivery_at p rep (Place.Ready m w) at = at
delivery_at p rep Place.New at = tt
delivery_at p rep Place.Running at = tt
delivery_at p rep (Place.Under n) at = tt
delivery_at p rep (Place.Behind n) at = tt
delivery_at p rep (Place.Waiting x b) at = tt
delivery_at p rep (Place.Blocked sub) at = tt
delivery_at p rep (Place.Held w) at = tt
delivery_at p rep Place.Suspended at = tt

pub waits_passes : (x i : ℕ) (o : Bool) (p : Place) → where_at i o p ≡ Some (WaitsOn x) → is_waiting_on x p ≡ true
waits_passes x i o (Place.Waiting y b) is = eq-eqb x y (same x y is)
  where
    same : (x y : ℕ) → Some (WaitsOn y) ≡ Some (WaitsOn x) → x ≡ y
    same x y is = cc
waits_passes x i o (Place.Ready m w) is = absurd (cc)
waits_passes x i o Place.New is = absurd (cc)
waits_passes x i o Place.Running is = absurd (cc)
waits_passes x i o (Place.Under n) is = absurd (cc)
waits_passes x i o (Place.Behind n) is = absurd (cc)
waits_passes x i o (Place.Blocked sub) is = absurd (cc)
waits_passes x i o (Place.Held w) is = absurd (either (o && is_for_start w) is)
  where
    either : (b : Bool) → Some (if b then StartsIn i else HeldIn i) ≡ Some (WaitsOn x) → ⊥
    either true e = cc
    either false e = cc
waits_passes x i o Place.Suspended is = absurd (cc)

pub waits_filed : (x i : ℕ) (o : Bool) (p : Place) → is_waiting_on x p ≡ true → where_at i o p ≡ Some (WaitsOn x)
waits_filed x i o (Place.Waiting y b) is = ap (λ z. Some (WaitsOn z)) (sym (eqb-true x y is))
waits_filed x i o (Place.Ready m w) is = absurd (cc)
waits_filed x i o Place.New is = absurd (cc)
waits_filed x i o Place.Running is = absurd (cc)
waits_filed x i o (Place.Under n) is = absurd (cc)
waits_filed x i o (Place.Behind n) is = absurd (cc)
waits_filed x i o (Place.Blocked sub) is = absurd (cc)
waits_filed x i o (Place.Held w) is = absurd (cc)
waits_filed x i o Place.Suspended is = absurd (cc)

module _ (a : CoreParts) (sound : IsSoundCore a) (rep serial : ℕ) (g : WaitSet) (is : Ok g ≡ item_at item_of a.sets rep serial) where
  pub waiters_chain : place_chain (bare (parts_of a)) (WaitsOn g.number) ≡ Some g.waiters
  unfolding IsSoundCore
  waiters_chain = kept_under (λ (x : WaitSet). x.number) (λ (x : WaitSet). x.set) (λ (x : WaitSet). x.waiters) a.sets a.made.sets sound.tables.sets rep serial g is

  pub waiters_live : IsSome (list_of a.places g.waiters)
  waiters_live = (places_filed a sound).live (WaitsOn g.number) g.waiters waiters_chain

  -- an empty chain, no waiter
  pub no_waiter : (x : ℕ) → g.number ≡ x → ((v : OrderKey) → Holds a.places g.waiters v → ⊥) → has_waiter x (seen a).core ≡ false
  unfolding seen has_waiter
  no_waiter x same empty = ap (λ y. has_waiter y (seen a).core) (sym same) ∙ none_passes (place_filing a.version) (place_chain (bare (parts_of a))) a.threads a.places (places_filed a sound) (WaitsOn g.number) g.waiters waiters_chain thread_key (λ (e : ℕ × Thread). is_waiting_on g.number e.1.place) (place_tests a.version (WaitsOn g.number) (is_waiting_on g.number) (waits_passes g.number) (waits_filed g.number)) empty

  -- what the chain holds is the place of a waiter
  module _ (v : OrderKey) (holds : Holds a.places g.waiters v) where
    pub waiter_held : (x n : ℕ) → g.number ≡ x → n ≡ number_in (record_at thread_key a.threads.places v.place) → (is_waiter x n (seen a).core ≡ true) × (0 < n)
    unfolding seen IsSoundCore
    waiter_held x n same at =
        let one = held_passes (place_filing a.version) (place_chain (bare (parts_of a))) a.threads a.places (places_filed a sound) (WaitsOn g.number) g.waiters waiters_chain thread_key (λ (e : ℕ × Thread). is_waiting_on g.number e.1.place) (place_tests a.version (WaitsOn g.number) (is_waiting_on g.number) (waits_passes g.number) (waits_filed g.number)) sound.tables.threads.apart v holds in
        let here : one.place ≡ v.place = ap (λ (f : Filing Where OrderKey). f.value.place) (same_Some (record { node = one.placed.entry.item.node.index; key = where_at one.placed.entry.item.instance one.placed.entry.item.barred one.placed.entry.item.thread.place; value = thread_order_key a.version one.place one.placed.entry.item }) one.filed one.is_said) ∙ ap (λ (s : OrderKey). s.place) one.is_value in
        let number : one.entry.0 ≡ n = passes_number (λ (h : GuestThread). h.number) (λ (h : GuestThread). h.thread) (place_filing a.version) a.threads (λ (e : ℕ × Thread). is_waiting_on g.number e.1.place) v n one here at in
        let found : get (records thread_key a.threads.places) n ≡ Some one.entry.1 = ap (get (records thread_key a.threads.places)) (sym number) ∙ one.is_found in (
          ap (λ o. option_map_or (is_waiting_on x) (option_map (λ (t : Thread). t.place) o) false) found ∙ (ap (λ y. is_waiting_on y one.entry.1.place) (sym same) ∙ one.passes),
          subst (λ m. 0 < m) (sym (at ∙ ap (λ r. number_in (record_at thread_key a.threads.places r)) (sym here) ∙ ap (λ o. number_in (key_in thread_key o)) one.stands)) (number_positive (λ (h : GuestThread). h.number) (λ (h : GuestThread). h.thread) a.threads a.made.threads sound.tables.threads one.place one.placed one.stands),
        )
