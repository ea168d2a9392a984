-- The threads of a call that wait, where a cancel may take any of these: the first of their chain is the least.
use Rattle.core_places.proofs.FirstLemmas.{lt_first, none_less}
use Rattle.core_places.proofs.TargetLemmas.{waits_is}
use Rattle.core_places.proofs.WantedLemmas.{found_there}
use Rattle.core_places.specs.Picks.{IsLeastWaiting}
use Rattle.core_queues.proofs.BareLemmas.{number_positive, one_place, place_mapped}
use Rattle.core_queues.proofs.SeatLemmas.{seat_read}
use Rattle.core_records.proofs.Core.{ap, bare, bare_call, bare_thread, Bool, Call, cond, eq-eqb, eqb-true, false, Filing, filings, filings_at, get, Holds, IsIndex, IsIndex-same, IsLinks, is_some, IsSome, IsSoundCore, item_at, item_of, key_in, link_of, List, list_of, None, number_in, Ok, on_item, Option, option_and_then, option_map, option_map_or, parts_of, Place, place_at, place_at-mapped, Placed, placed_as, record_at, records, refl, said, same_Some, seen, Some, subst, sym, TableId, Thread, thread_key, thread_of, ThreadKey, true, wait_chain, wait_filing, ℕ, [], ◌&&◌, ◌<◌, ◌==◌, ◌∙◌, ◌∷◌, ◌≡◌}
use Rattle.core_records.proofs.HomeLemmas.{bare_kind}
use Rattle.core_records.proofs.KindLemmas.{item_stands}
use Rattle.core_records.proofs.ReadLemmas.{thread_named}
use Rattle.core_records.specs.Names.{keeps_waits}
use Rattle.core_records.specs.RecordPlaces.{member_order_key, waits_in}
use Rattle.core_records.specs.declared.{call_records.GuestTask.GuestTask, parts.CoreParts.CoreParts, single.Single.Single, thread_records.GuestThread.GuestThread}
use Rattle.machine_data.specs.Maps.{numbers}
use Rattle.machine_data.specs.Moves.{waits_cancellable}
use Rattle.machine_data.specs.declared.component.ExportKind.TheVariants as kind
use Rattle.machine_rules.specs.Cancels.{is_waiting, is_waiting_of, waiting_in}
use Rattle.std.proofs.lemmas.Bool.{and_parts}
use Rattle.std.specs.List.{filter}
use Rattle.std.specs.Ordering.{is_lt, nat_cmp}
use Rattle.table_links.specs.Links.{AreLinked, entries}
use Rattle.table_links.specs.declared.links.Node.{Node}
use Rattle.table_lists.proofs.Indexes.{held_filed}
use Rattle.table_lists.specs.OrderKeys.{order_key_order}
use Rattle.table_lists.specs.declared.ordered_lists.OrderKey.{OrderKey}
use Rattle.task_wait.specs.Sets.{IsLeast}

-- a place of a waiting thread is filed under its call
waits_test : (j k : ℕ) (p : Place) → waits_in p j ≡ Some k → ((j == k) && is_waiting p) ≡ true
waits_test j k (Place.Waiting x b) is = ap (λ (c : Bool). c && true) (eq-eqb j k (same_Some j k is))
waits_test j k Place.New is = absurd (cc)
waits_test j k (Place.Ready m w) is = absurd (cc)
waits_test j k Place.Running is = absurd (cc)
waits_test j k (Place.Under n) is = absurd (cc)
waits_test j k (Place.Behind n) is = absurd (cc)
waits_test j k (Place.Blocked sub) is = absurd (cc)
waits_test j k (Place.Held w) is = absurd (cc)
waits_test j k Place.Suspended is = absurd (cc)

pub filed_by_test : (j k : ℕ) (p : Place) → j ≡ k → is_waiting p ≡ true → waits_in p j ≡ Some k
filed_by_test j k (Place.Waiting x b) same is = ap (λ (n : ℕ). Some n) same
filed_by_test j k Place.New same is = absurd (cc)
filed_by_test j k (Place.Ready m w) same is = absurd (cc)
filed_by_test j k Place.Running same is = absurd (cc)
filed_by_test j k (Place.Under n) same is = absurd (cc)
filed_by_test j k (Place.Behind n) same is = absurd (cc)
filed_by_test j k (Place.Blocked sub) same is = absurd (cc)
filed_by_test j k (Place.Held w) same is = absurd (cc)
filed_by_test j k Place.Suspended same is = absurd (cc)

call_by_place : (j k : ℕ) (p : Place) → waits_in p j ≡ Some k → j ≡ k
call_by_place j k (Place.Waiting x b) is = same_Some j k is
call_by_place j k Place.New is = absurd (cc)
call_by_place j k (Place.Ready m w) is = absurd (cc)
call_by_place j k Place.Running is = absurd (cc)
call_by_place j k (Place.Under n) is = absurd (cc)
call_by_place j k (Place.Behind n) is = absurd (cc)
call_by_place j k (Place.Blocked sub) is = absurd (cc)
call_by_place j k (Place.Held w) is = absurd (cc)
call_by_place j k Place.Suspended is = absurd (cc)

none_pass : (test : ℕ → Bool) → ((n : ℕ) → test n ≡ false) → (ns : List ℕ) → filter test ns ≡ []
none_pass test fails [] = refl
none_pass test fails (n ∷ ns) = ap (λ (b : Bool). cond b (n ∷ filter test ns) (filter test ns)) (fails n) ∙ none_pass test fails ns

some_of : (o : Option Node) → is_some o ≡ true → (node : Node) × (o ≡ Some node)
some_of None is = absurd (cc)
some_of (Some node) is = (node, refl)

-- ---- Whether a thread is of the call, and waits

pub and_on : (b : Bool) → b ≡ (b && true)
and_on true = refl
and_on false = refl

pub and_off : (b : Bool) → (b && false) ≡ false
and_off true = refl
and_off false = refl

pub not_waiting : (p : Place) → ((x : ℕ) (b : Bool) → p ≡ Place.Waiting x b → ⊥) → is_waiting p ≡ false
not_waiting (Place.Waiting x b) other = absurd (other x b refl)
not_waiting Place.New other = refl
not_waiting (Place.Ready m w) other = refl
not_waiting Place.Running other = refl
not_waiting (Place.Under n) other = refl
not_waiting (Place.Behind n) other = refl
not_waiting (Place.Blocked sub) other = refl
not_waiting (Place.Held w) other = refl
not_waiting Place.Suspended other = refl

abbrev pub waits_in_call : ℕ → Option Thread → Bool
waits_in_call k o = (option_map_or (λ d. d.call) o 0 == k) && option_map_or is_waiting (option_map (λ d. d.place) o) false

module _ (a : CoreParts) (sound : IsSoundCore a) where
  waits_filed : IsIndex (wait_chain (bare (parts_of a))) a.waits (filings wait_filing a.threads)
  unfolding IsSoundCore filings
  waits_filed = IsIndex-same (wait_chain (bare (parts_of a))) a.waits _ sound.whole.chained.waits (filings wait_filing a.threads) (λ r. sym (ap (said wait_filing r) (place_at-mapped (on_item bare_thread) a.threads r) ∙ by r (place_at a.threads r)))
    where
      by : (r : ℕ) (o : Option (Placed (Single GuestThread))) → said wait_filing r (placed_as (on_item bare_thread) o) ≡ said wait_filing r o
      by r None = refl
      by r (Some p) = refl

  module _ (rep serial : ℕ) (t : GuestTask) (is : Ok t ≡ item_at item_of a.calls rep serial) where
    -- a call has a chain just where a cancel may take any of its waiting threads
    pub waits_where : waits_cancellable t.number (seen a).core ≡ is_some t.waits
    unfolding IsSoundCore seen
    waits_where =
        let here = item_stands (λ (g : GuestTask). g.number) (λ (g : GuestTask). g.call) a.calls a.made.threads sound.tables.calls rep serial t is in
        let named = sound.whole.named.calls rep _ (place_mapped (on_item bare_call) a.calls rep here.0 here.1.0) in
        ap (λ (n : ℕ). waits_cancellable n (seen a).core) (sym (ap (λ (e : Single GuestTask). e.item.number) here.1.1.1))
        ∙ (ap (λ (o : Option Call). keeps_waits a.version (option_map_or (λ (c : Call). c.kind) o kind.Callback))
        (seat_read (λ (g : GuestTask). g.number) (λ (g : GuestTask). g.call) (λ (g : GuestTask). g.call) a.calls a.made.threads sound.tables.calls rep here.0 here.1.0
        ∙ ap (λ (e : Single GuestTask). Some e.item.call) here.1.1.1)
        ∙ subst (λ (e : Single GuestTask). keeps_waits a.version e.item.call.kind ≡ is_some e.item.waits) here.1.1.1 named.waits)

    module _ (c : ℕ) (has : t.waits ≡ Some c) where
      chain_is : wait_chain (bare (parts_of a)) t.number ≡ Some c
      chain_is = waits_is a sound t.number rep serial t refl is ∙ has

      pub waiting_live : IsSome (list_of a.waits c)
      waiting_live = waits_filed.live t.number c chain_is

      -- what is held stands at its place
      abbrev HeldAt : OrderKey → Type 0
      HeldAt v = (q : Placed (Single GuestThread)) × ((place_at a.threads v.place ≡ Some q) × ((waits_in q.entry.item.thread.place q.entry.item.thread.call ≡ Some t.number) × (member_order_key q.entry.item.entry v.place ≡ v)))

      abbrev filing : ℕ → GuestThread → Node → Filing ℕ OrderKey
      filing r g node = record { node = node.index; key = waits_in g.thread.place g.thread.call; value = member_order_key g.entry r }

      waiting_held : (v : OrderKey) → Holds a.waits c v → HeldAt v
      waiting_held v holds =
          let i = held_filed (wait_chain (bare (parts_of a))) a.waits (filings wait_filing a.threads) waits_filed t.number c chain_is v holds in
          by i.0 i.1.0 (place_at a.threads i.0) refl i.1.1.0 i.1.1.1.0 i.1.1.1.1
        where
          of_node : (r : ℕ) (f : Filing ℕ OrderKey) (q : Placed (Single GuestThread)) → place_at a.threads r ≡ Some q → f.key ≡ Some t.number → f.value ≡ v → (w : Option Node) → option_map (filing r q.entry.item) w ≡ Some f → HeldAt v
          of_node r f q at key value None says = absurd (cc)
          of_node r f q at key value (Some node) says =
              let e = same_Some (filing r q.entry.item node) f says in
              let here : member_order_key q.entry.item.entry r ≡ v = ap (λ (x : Filing ℕ OrderKey). x.value) e ∙ value in
              let place : r ≡ v.place = ap (λ (s : OrderKey). s.place) here in
              (q, (sym (ap (place_at a.threads) place) ∙ at, (ap (λ (x : Filing ℕ OrderKey). x.key) e ∙ key, sym (ap (member_order_key q.entry.item.entry) place) ∙ here)))

          by : (r : ℕ) (f : Filing ℕ OrderKey) (o : Option (Placed (Single GuestThread))) → place_at a.threads r ≡ o → filings wait_filing a.threads r ≡ Some f → f.key ≡ Some t.number → f.value ≡ v → HeldAt v
          by r f None at says key value = absurd (let two = sym (filings_at wait_filing a.threads r None at) ∙ says in cc)
          by r f (Some q) at says key value = of_node r f q at key value q.entry.item.wait (sym (filings_at wait_filing a.threads r (Some q) at) ∙ says)

      -- the thread at that place is of the call, and waits
      pub waiting_there : (v : OrderKey) → Holds a.waits c v → (k n : ℕ) → t.number ≡ k → n ≡ number_in (record_at thread_key a.threads.places v.place) → (is_waiting_of k (seen a).core n ≡ true) × (0 < n)
      unfolding seen IsSoundCore
      waiting_there v holds k n same at =
          let one = waiting_held v holds in
          let q = one.0 in
          let number : n ≡ q.entry.item.number = at ∙ ap (λ o. number_in (key_in thread_key o)) one.1.0 in
          let found : get (records thread_key a.threads.places) n ≡ Some q.entry.item.thread =
          ap (get (records thread_key a.threads.places)) number ∙ seat_read (λ (g : GuestThread). g.number) (λ (g : GuestThread). g.thread) (λ (g : GuestThread). g.thread) a.threads a.made.threads sound.tables.threads v.place q one.1.0 in (
            ap (λ (o : Option Thread). (option_map_or (λ (d : Thread). d.call) o 0 == k) && option_map_or is_waiting (option_map (λ (d : Thread). d.place) o) false) found
                ∙ waits_test q.entry.item.thread.call k q.entry.item.thread.place (one.1.1.0 ∙ ap (λ (m : ℕ). Some m) same),
            subst (λ m. 0 < m) (sym number) (number_positive (λ (h : GuestThread). h.number) (λ (h : GuestThread). h.thread) a.threads a.made.threads sound.tables.threads v.place q one.1.0),
          )

      -- a thread of the call that waits is in the chain
      waiting_link : (r : ℕ) (q : Placed (Single GuestThread)) → place_at a.threads r ≡ Some q → waits_in q.entry.item.thread.place q.entry.item.thread.call ≡ Some t.number → (node : ℕ) × (link_of a.waits node ≡ Some (c, member_order_key q.entry.item.entry r))
      unfolding IsSoundCore seen
      waiting_link r q at waits =
          let home = sound.whole.named.threads r _ (place_mapped (on_item bare_thread) a.threads r q at) in
          let call : q.entry.item.thread.call ≡ t.number = call_by_place q.entry.item.thread.call t.number q.entry.item.thread.place waits in
          let some : is_some q.entry.item.wait ≡ true =
          sym home.waits ∙ (ap (keeps_waits a.version) (bare_kind a q.entry.item.thread.call) ∙ (ap (λ (m : ℕ). waits_cancellable m (seen a).core) call ∙ (waits_where ∙ ap is_some has))) in
          let node = some_of q.entry.item.wait some in (
            node.0.index,
            waits_filed.has_link r (filing r q.entry.item node.0) (filings_at wait_filing a.threads r (Some q) at ∙ ap (option_map (filing r q.entry.item)) node.1)
                ∙ (ap (λ k. option_map (λ d. (d, member_order_key q.entry.item.entry r)) (option_and_then (wait_chain (bare (parts_of a))) k)) waits
                ∙ ap (option_map (λ d. (d, member_order_key q.entry.item.entry r))) chain_is),
          )

      -- an empty chain, no waiting thread
      pub none_waiting : ((v : OrderKey) → Holds a.waits c v → ⊥) → (k : ℕ) → t.number ≡ k → waiting_in k (seen a).core ≡ []
      unfolding seen
      none_waiting empty k same = none_pass (is_waiting_of k (seen a).core) (λ n. by n (is_waiting_of k (seen a).core n) refl) (numbers (seen a).core.threads)
        where
          found : (n : ℕ) (o : Option Thread) → get (records thread_key a.threads.places) n ≡ o → ((option_map_or (λ (d : Thread). d.call) o 0 == k) && option_map_or is_waiting (option_map (λ (d : Thread). d.place) o) false) ≡ true → ⊥
          found n None at waits = absurd (let two = (and_parts (0 == k) false waits).1 in cc)
          found n (Some d) at waits =
              let parts = and_parts (d.call == k) (is_waiting d.place) waits in
              let one = found_there (λ (g : GuestThread). g.number) (λ (g : GuestThread). g.thread) a.threads n d at in
              let q = one.1.0 in
              let filed : waits_in q.entry.item.thread.place q.entry.item.thread.call ≡ Some t.number =
              ap (λ (x : Thread). waits_in x.place x.call) one.1.1.1.1 ∙ filed_by_test d.call t.number d.place (eqb-true d.call k parts.0 ∙ sym same) parts.1 in
              let link = waiting_link one.0 q one.1.1.0 filed in
              empty (member_order_key q.entry.item.entry one.0) link

          by : (n : ℕ) (b : Bool) → is_waiting_of k (seen a).core n ≡ b → is_waiting_of k (seen a).core n ≡ false
          by n true is = absurd (found n (get (records thread_key a.threads.places) n) refl is)
          by n false is = is

      pub least_waiting : (v : OrderKey) → Holds a.waits c v → IsLinks a.waits → AreLinked a.waits c (entries a.waits c) → IsLeast order_key_order v (entries a.waits c) → (k : ℕ) → t.number ≡ k → (id : TableId ThreadKey) → thread_of (seen a) id ≡ number_in (record_at thread_key a.threads.places v.place) → IsLeastWaiting a k id
      unfolding IsSoundCore
      least_waiting v holds links linked least k same id at g item r q there waits =
          let one = waiting_held v holds in
          let mine = item_stands (λ (h : GuestThread). h.number) (λ (h : GuestThread). h.thread) a.threads a.made.threads sound.tables.threads id.rep id.serial g item in
          let number : one.0.entry.item.number ≡ mine.0.entry.item.number = sym (at ∙ ap (λ o. number_in (key_in thread_key o)) one.1.0) ∙ (sym (thread_named a id g item) ∙ sym (ap (λ (e : Single GuestThread). e.item.number) mine.1.1.1)) in
          let place : v.place ≡ id.rep = one_place (λ (h : GuestThread). h.number) (λ (h : GuestThread). h.thread) a.threads a.made.threads sound.tables.threads v.place id.rep one.0 mine.0 one.1.0 mine.1.0 number in
          let entry : one.0 ≡ mine.0 = same_Some one.0 mine.0 (sym one.1.0 ∙ (ap (place_at a.threads) place ∙ mine.1.0)) in
          let mine_is : one.0.entry.item.entry ≡ g.entry = ap (λ (p : Placed (Single GuestThread)). p.entry.item.entry) entry ∙ ap (λ (e : Single GuestThread). e.item.entry) mine.1.1.1 in
          let order_key : member_order_key g.entry v.place ≡ v = sym (ap (λ (n : ℕ). member_order_key n v.place) mine_is) ∙ one.1.1.1 in
          let h = q.entry.item in
          let link = waiting_link r q there (waits ∙ ap (λ (m : ℕ). Some m) (sym same)) in
          let off = none_less a.waits c v links linked least link.0 (member_order_key h.entry r) link.1 in
          lt_first (nat_cmp h.entry g.entry) _ (subst (λ s. is_lt (order_key_order (member_order_key h.entry r) s) ≡ false) (sym order_key) off)
