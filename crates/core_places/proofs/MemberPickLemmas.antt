-- The first of a chain of ready members is the least of them.
use Rattle.core_records.proofs.Core.{ap, bare, Bool, Call, call_key, call_of, EachEntry, false, Filing, filings, filings_at, GuestTaskKey, held_passes, Holds, HostTaskKey, IsIndex, IsLinks, IsSoundCore, item_at, item_of, key_in, link_of, List, number_in, Ok, option_and_then, option_map, Option, parts_of, place_at, Placed, ready_call_chain, ready_in, ready_work_chain, record_at, refl, same_Some, seen, Some, SoundTable, Spot, subst, sym, Table, TableId, Tests, Work, work_key, work_of, ℕ, ◌∙◌, ◌≡◌}
use Rattle.core_records.specs.declared.{call_records.GuestTask.GuestTask, parts.CoreParts.CoreParts, set_records.WaitSet.WaitSet, single.Single.Single, work_records.WorkRecord.WorkRecord}
use Rattle.std.specs.Ordering.{is_lt, nat_cmp, ordering_then}
use Rattle.std.specs.declared.cmp.Ordering.{Ordering}
use Rattle.std.specs.declared.cmp.Ordering.TheVariants.{Equal, Greater, Less}
use Rattle.core_places.proofs.FirstLemmas.{none_less}
use Rattle.core_places.proofs.ReadyLemmas.{call_tests, calls_chain, calls_filed, is_ready, work_tests, works_chain, works_filed}
use Rattle.core_queues.proofs.BareLemmas.{one_place}
use Rattle.table_lists.specs.OrderKeys.{order_key_order}
use Rattle.table_lists.specs.declared.ordered_lists.OrderKey.{OrderKey}
use Rattle.table_links.specs.Links.{AreLinked, entries}
use Rattle.core_records.proofs.KindLemmas.{item_stands}
use Rattle.core_records.proofs.ReadLemmas.{call_named, work_named}
use Rattle.core_records.specs.RecordPlaces.{member_order_key}
use Rattle.task_wait.specs.Sets.{IsLeast}

-- what isn't less by two keys isn't by the first
lt_first : (a b : Ordering) → is_lt (ordering_then a b) ≡ false → is_lt a ≡ false
lt_first Less b is = is
lt_first Equal b is = refl
lt_first Greater b is = is

module _ {T X : Type 0} (number : T → ℕ) (rec : T → X) (node : T → ℕ) (key_of : T → Option ℕ) (entry : T → ℕ) (t : Table (Single T)) (made : ℕ) (sound : SoundTable (λ e. Some (number e.item, rec e.item)) t made) where
  abbrev filing : ℕ → T → Filing ℕ OrderKey
  filing r h = record { node = node h; key = key_of h; value = member_order_key (entry h) r }

  abbrev says : ℕ → ℕ → Single T → Option (Filing ℕ OrderKey)
  says r serial e = Some (filing r e.item)

  module _ (links : List (Spot OrderKey)) (chain : ℕ → Option ℕ) (index : IsIndex chain links (filings says t)) (x c : ℕ) (has : chain x ≡ Some c) (test : ℕ × X → Bool) (tests : Tests says (λ e. Some (number e.item, rec e.item)) x test) where
    -- the link of a ready member
    pub member_link : (r : ℕ) (q : Placed (Single T)) → place_at t r ≡ Some q → key_of q.entry.item ≡ Some x → link_of links (node q.entry.item) ≡ Some (c, member_order_key (entry q.entry.item) r)
    member_link r q at key =
        index.has_link r (filing r q.entry.item) (filings_at says t r (Some q) at)
        ∙ (ap (λ k. option_map (λ d. (d, member_order_key (entry q.entry.item) r)) (option_and_then chain k)) key
        ∙ ap (option_map (λ d. (d, member_order_key (entry q.entry.item) r))) has)

    module _ (v : OrderKey) (holds : Holds links c v) (rep serial : ℕ) (g : T) (item : Ok g ≡ item_at item_of t rep serial) (at : number g ≡ number_in (record_at (λ e. Some (number e.item, rec e.item)) t.places v.place)) where
      -- the order key of the member with the number at its place
      member_first : member_order_key (entry g) rep ≡ v
      member_first =
          let one = held_passes says chain t links index x c has (λ e. Some (number e.item, rec e.item)) test tests sound.apart v holds in
          let order_key : member_order_key (entry one.placed.entry.item) one.place ≡ v = ap (λ (f : Filing ℕ OrderKey). f.value) (same_Some (filing one.place one.placed.entry.item) one.filed one.is_said) ∙ one.is_value in
          let place : one.place ≡ v.place = ap (λ (s : OrderKey). s.place) order_key in
          let same_number : number one.placed.entry.item ≡ number g = sym (at ∙ (ap (λ r. number_in (record_at (λ e. Some (number e.item, rec e.item)) t.places r)) (sym place) ∙ ap (λ o. number_in (key_in (λ e. Some (number e.item, rec e.item)) o)) one.stands)) in
          let mine = item_stands number rec t made sound rep serial g item in
          let same : one.place ≡ rep = one_place number rec t made sound one.place rep one.placed mine.0 one.stands mine.1.0 (same_number ∙ sym (ap (λ (e : Single T). number e.item) mine.1.1.1)) in
          let placed : one.placed ≡ mine.0 = same_Some one.placed mine.0 (sym one.stands ∙ (ap (place_at t) same ∙ mine.1.0)) in
          sym (ap (member_order_key (entry g)) same)
          ∙ (ap (λ (h : T). member_order_key (entry h) one.place) (sym (ap (λ (p : Placed (Single T)). p.entry.item) placed ∙ ap (λ (e : Single T). e.item) mine.1.1.1)) ∙ order_key)

      -- none comes before it
      pub member_least : IsLinks links → AreLinked links c (entries links c) → IsLeast order_key_order v (entries links c) → (r : ℕ) (q : Placed (Single T)) → place_at t r ≡ Some q → key_of q.entry.item ≡ Some x → is_lt (nat_cmp (entry q.entry.item) (entry g)) ≡ false
      member_least linked_sound linked least r q there key =
          let off = none_less links c v linked_sound linked least (node q.entry.item) (member_order_key (entry q.entry.item) r) (member_link r q there key) in
          lt_first (nat_cmp (entry q.entry.item) (entry g)) _ (subst (λ s. is_lt (order_key_order (member_order_key (entry q.entry.item) r) s) ≡ false) (sym member_first) off)

module _ (a : CoreParts) (sound : IsSoundCore a) (rep serial : ℕ) (x : WaitSet) (is : Ok x ≡ item_at item_of a.sets rep serial) (n : ℕ) (same : x.number ≡ n) where
  pub least_work : (v : OrderKey) → Holds a.ready_works x.ready_works v → IsLinks a.ready_works → AreLinked a.ready_works x.ready_works (entries a.ready_works x.ready_works) → IsLeast order_key_order v (entries a.ready_works x.ready_works) → (id : TableId HostTaskKey) → work_of (seen a) id ≡ number_in (record_at work_key a.works.places v.place) → (w : WorkRecord) → Ok w ≡ item_at item_of a.works id.rep id.serial → EachEntry (λ (u : WorkRecord). ready_in u.work.event u.work.join ≡ Some n → is_lt (nat_cmp u.entry w.entry) ≡ false) a.works
  unfolding IsSoundCore
  least_work v holds links linked least id at w item r q there key =
      member_least (λ (u : WorkRecord). u.number) (λ (u : WorkRecord). u.work) (λ (u : WorkRecord). u.ready.index) (λ (u : WorkRecord). ready_in u.work.event u.work.join) (λ (u : WorkRecord). u.entry) a.works a.made.works sound.tables.works
      a.ready_works (ready_work_chain (bare (parts_of a))) (works_filed a sound) x.number x.ready_works (works_chain a sound rep serial x is) (λ (e : ℕ × Work). is_ready x.number e.1.join e.1.event) (work_tests x.number)
      v holds id.rep id.serial w item (work_named a id w item ∙ at) links linked least r q there (key ∙ ap (λ m. Some m) (sym same))

  pub least_call : (v : OrderKey) → Holds a.ready_calls x.ready_calls v → IsLinks a.ready_calls → AreLinked a.ready_calls x.ready_calls (entries a.ready_calls x.ready_calls) → IsLeast order_key_order v (entries a.ready_calls x.ready_calls) → (id : TableId GuestTaskKey) → call_of (seen a) id ≡ number_in (record_at call_key a.calls.places v.place) → (g : GuestTask) → Ok g ≡ item_at item_of a.calls id.rep id.serial → EachEntry (λ (u : GuestTask). ready_in u.call.event u.call.join ≡ Some n → is_lt (nat_cmp u.entry g.entry) ≡ false) a.calls
  unfolding IsSoundCore
  least_call v holds links linked least id at g item r q there key =
      member_least (λ (u : GuestTask). u.number) (λ (u : GuestTask). u.call) (λ (u : GuestTask). u.ready.index) (λ (u : GuestTask). ready_in u.call.event u.call.join) (λ (u : GuestTask). u.entry) a.calls a.made.threads sound.tables.calls
      a.ready_calls (ready_call_chain (bare (parts_of a))) (calls_filed a sound) x.number x.ready_calls (calls_chain a sound rep serial x is) (λ (e : ℕ × Call). is_ready x.number e.1.join e.1.event) (call_tests x.number)
      v holds id.rep id.serial g item (call_named a id g item ∙ at) links linked least r q there (key ∙ ap (λ m. Some m) (sym same))

  -- no work is ready where nothing is held
  pub no_work_ready : ((v : OrderKey) → Holds a.ready_works x.ready_works v → ⊥) → EachEntry (λ (u : WorkRecord). ready_in u.work.event u.work.join ≡ Some n → ⊥) a.works
  unfolding IsSoundCore
  no_work_ready none r q there key =
      none _ (
        q.entry.item.ready.index,
        member_link (λ (u : WorkRecord). u.number) (λ (u : WorkRecord). u.work) (λ (u : WorkRecord). u.ready.index) (λ (u : WorkRecord). ready_in u.work.event u.work.join) (λ (u : WorkRecord). u.entry) a.works a.made.works sound.tables.works
            a.ready_works (ready_work_chain (bare (parts_of a))) (works_filed a sound) x.number x.ready_works (works_chain a sound rep serial x is) (λ (e : ℕ × Work). is_ready x.number e.1.join e.1.event) (work_tests x.number)
            r q there (key ∙ ap (λ m. Some m) (sym same)),
      )
