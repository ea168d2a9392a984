-- A thread with another place: the core is sound, and contracts see just that.
use Rattle.core_records.specs.Keys.{thread_seat_key}
use Rattle.machine_rules.specs.Picks.{ThreadSeat}
use Rattle.core_records.proofs.Core.{ap, ap₂, AreHandlesNamed, AtPlace, bare, bare_thread, Bool, call_instance, call_key, callers_in, CallOf, change, cond, core_of, CoreImage, EachEntry, entries_for, entry_of, Filing, filings, filings_at, found_record_at, get, get-records, HandleKind, HasHome, HasNumber, IfSome, is_made, is_some, IsHeldNamed, IsIndex, IsIndex-with_entry, IsIndex-with_entry_same, IsSetKept, IsSome, IsSoundCore, IsWhole, item_at, item_of, keeps_set, keeps_waits, key_in, kinds, link_for, link_of, List, list_of, loose_thread, mapped, mapped-with_entry, mapped-with_entry_same, None, number_of, Ok, on_core, on_item, on_thread, op_progress_target, Option, option_and_then, option_map, OwnsHandle, parts_of, passing, Place, place_at, place_chain, place_filing, place_target, Placed, Records, records, Refiles, refl, Rep, seen, Set, set_key, set_of, SetKey, SetOf, size, slice_get, Some, Spot, StateView, subst, sym, Table, TableId, Tag, tags_in, Thread, thread_at, thread_key, thread_of, ThreadKey, ThreadOf, true, WaitableKind, Where, where_at, with_entry, WorkOf, ℕ, ◌+◌, ◌-◌, ◌<◌, ◌==◌, ◌∙◌, ◌≡◌}
use Rattle.core_records.specs.declared.{instance_records.InstanceRecord.InstanceRecord, parts.CoreParts.CoreParts, set_records.WaitSet.WaitSet, single.Single.Single, thread_records.GuestThread.GuestThread}
use Rattle.core_records.proofs.HomeLemmas.{place_in_bare, thread_home}
use Rattle.core_records.proofs.KeptLemmas.{passing_seconds, size_seconds}
use Rattle.core_records.proofs.KindLemmas.{item_stands, records_changed, table_written, tags_written}
use Rattle.core_records.proofs.ReadLemmas.{set_shown, thread_shown}
use Rattle.core_records.proofs.TableLemmas.{records_unseen}
use Rattle.core_records.proofs.WriteLemmas.{each_written}
use Rattle.core_places.proofs.AlikeLemmas.{number_of_alike, tags_alike}
use Rattle.core_places.proofs.EntryLemmas.{is_the, keeps_is, recounted_alike, recounted_each, recounted_sound}
use Rattle.core_places.proofs.MovedLemmas.{at_moved, home_moved, moved, moved_whole}
use Rattle.core_places.proofs.PutLemmas.{bare_records, calls_same, counted_there, entries_change, keeps, recount, set_is_the, sets_same, threads_size}
use Rattle.core_places.specs.Moved.{Alike, entry_set, recounted, set_named, still_thread, uncounted}
use Rattle.core_places.specs.Puts.{BecomesBy}
use Rattle.core_queues.proofs.BareLemmas.{number_positive, place_mapped}
use Rattle.table_lists.specs.declared.ordered_lists.OrderKey.{OrderKey}
use Rattle.core_records.specs.RecordPlaces.{member_order_key, order_entry, order_task, thread_order_key, wait_chain, wait_filing, waits_in}
use Rattle.core_places.specs.Waits.{MayRefile, RefilesWait, wait_chain_at}
use Rattle.core_places.specs.Waits.{wait_filing as wait_filing_at}
use Rattle.core_places.specs.declared.waits.WaitFiling.{WaitFiling}
use Rattle.table_links.specs.declared.links.Node.{Node}
use Rattle.machine_data.specs.Read.{kind_of}
use Rattle.core_primitives.specs.Barred.{bars_start}

module _ (a : CoreParts) (sound : IsSoundCore a) (id : TableId ThreadKey) (g : GuestThread) (is : Ok g ≡ item_at item_of a.threads id.rep id.serial) (h : GuestThread) (stays : still_thread (bare_thread h) ≡ still_thread (bare_thread g)) (handle : h.thread.handle ≡ g.thread.handle) where
  abbrev pub bared : CoreImage
  bared = bare (parts_of a)

  pub is_whole : IsWhole bared
  unfolding IsSoundCore
  is_whole = sound.whole

  same_number : h.number ≡ g.number
  same_number = ap (λ (x : GuestThread). x.number) stays

  abbrev pub threads_now : Table (Single GuestThread)
  threads_now = with_entry id.rep (entry_of h) a.threads

  abbrev pub bare_now : Table (Single GuestThread)
  bare_now = mapped (on_item bare_thread) threads_now

  pub bare_put : bare_now ≡ with_entry id.rep (entry_of (bare_thread h)) bared.threads
  bare_put = mapped-with_entry (on_item bare_thread) a.threads id.rep (entry_of h)

  pub stands : (p : Placed (Single GuestThread)) × ((place_at a.threads id.rep ≡ Some p) × ((p.serial ≡ id.serial) × (p.entry ≡ entry_of g)))
  unfolding IsSoundCore
  stands = item_stands (λ (g : GuestThread). g.number) (λ (g : GuestThread). g.thread) a.threads a.made.threads sound.tables.threads id.rep id.serial g is

  abbrev pub bare_placed : Placed (Single GuestThread)
  bare_placed = record { serial = stands.0.serial; parent = stands.0.parent; entry = on_item bare_thread stands.0.entry }

  pub bare_stands : place_at bared.threads id.rep ≡ Some bare_placed
  bare_stands = place_mapped (on_item bare_thread) a.threads id.rep stands.0 stands.1.0

  pub bare_entry : bare_placed.entry ≡ entry_of (bare_thread g)
  bare_entry = ap (on_item bare_thread) stands.1.1.1

  pub threads_alike : Alike still_thread bare_now bared.threads
  threads_alike = ap (mapped (on_item still_thread)) bare_put ∙ mapped-with_entry_same (on_item still_thread) bared.threads id.rep (entry_of (bare_thread h)) bare_placed bare_stands (ap entry_of stays ∙ sym (ap (on_item still_thread) bare_entry))

  -- the thread's node is made, and a chain that it is to be filed in is live
  pub node_made : is_made a.places g.node.index ≡ true
  node_made = subst (λ (e : Single GuestThread). is_made a.places e.item.node.index ≡ true) bare_entry (is_whole.chained.places.made id.rep _ (filings_at (place_filing a.version) bared.threads id.rep (Some bare_placed) bare_stands))

  -- the node of a thread that is in no chain has no link
  pub node_unlinked : ((i : ℕ) (b : Bool) → where_at i b g.thread.place ≡ None) → link_of a.places g.node.index ≡ None
  node_unlinked apart =
      subst (λ (e : Single GuestThread). link_of a.places e.item.node.index ≡ link_for (place_chain bared) (record { node = e.item.node.index; key = where_at e.item.instance e.item.barred e.item.thread.place; value = thread_order_key a.version id.rep e.item })) bare_entry
      (is_whole.chained.places.has_link id.rep _ (filings_at (place_filing a.version) bared.threads id.rep (Some bare_placed) bare_stands))
      ∙ ap (λ k. link_for (place_chain bared) (record { node = g.node.index; key = k; value = thread_order_key a.version id.rep g })) (apart g.instance g.barred)

  -- a thread that stays where it is stays filed
  pub stays_filed : h.thread.place ≡ g.thread.place → h.thread.came ≡ g.thread.came → Refiles a.places a.places g.node.index (link_for (place_chain bared) (record { node = g.node.index; key = where_at h.instance h.barred h.thread.place; value = thread_order_key a.version id.rep h }))
  stays_filed same came = record {
    here = subst (λ (e : Single GuestThread). link_of a.places e.item.node.index ≡ link_for (place_chain bared) (record { node = e.item.node.index; key = where_at e.item.instance e.item.barred e.item.thread.place; value = thread_order_key a.version id.rep e.item })) bare_entry
        (is_whole.chained.places.has_link id.rep _ (filings_at (place_filing a.version) bared.threads id.rep (Some bare_placed) bare_stands))
        ∙ (ap₂ (λ (x : GuestThread) p. link_for (place_chain bared) (record { node = g.node.index; key = where_at x.instance x.barred p; value = thread_order_key a.version id.rep g })) (sym stays) (sym same)
        ∙ ap (λ v. link_for (place_chain bared) (record { node = g.node.index; key = where_at h.instance h.barred h.thread.place; value = v })) (sym (ap₂ (λ (x : GuestThread) n. record { task = order_task a.version x.task_entry n; thread = order_entry a.version x.entry; place = id.rep }) stays came)));
    others = λ n other. refl;
    made = λ n made. made;
    live = λ c live. live;
  }

  pub chain_live : (i : ℕ) (b : Bool) (p : Place) (chain : Option ℕ) → option_and_then (place_chain bared) (where_at i b p) ≡ chain → IfSome chain (λ c. IsSome (list_of a.places c))
  chain_live i b p chain is = by (where_at i b p) chain is
    where
      by : (w : Option Where) (o : Option ℕ) → option_and_then (place_chain bared) w ≡ o → IfSome o (λ c. IsSome (list_of a.places c))
      by w None is = tt
      by None (Some c) is = absurd (cc)
      by (Some k) (Some c) is = is_whole.chained.places.live k c is

  -- the links by the chain and the order key that the functions have
  pub refiled : (p : Place) (chain : Option ℕ) (order_key : OrderKey) (links : List (Spot OrderKey)) → order_key ≡ thread_order_key a.version id.rep g → option_and_then (place_chain bared) (where_at g.instance g.barred p) ≡ chain →
      Refiles a.places links g.node.index (option_map (λ k. (k, order_key)) chain) → Refiles a.places links g.node.index (link_for (place_chain bared) (record { node = g.node.index; key = where_at g.instance g.barred p; value = thread_order_key a.version id.rep g }))
  refiled p chain order_key links order_key_is chain_is =
      subst (Refiles a.places links g.node.index) (ap (λ r. option_map (λ k. (k, r)) chain) order_key_is ∙ ap (option_map (λ k. (k, thread_order_key a.version id.rep g))) (sym chain_is))

  -- ---- The waiting threads of a call

  -- what the thread is among them, at this place with this node
  abbrev wait_at : Place → Node → WaitFiling
  wait_at p node = record { node = node; chain = wait_chain_at a g p; order_key = member_order_key g.entry id.rep }

  abbrev wait_was : Node → Filing ℕ OrderKey
  wait_was node = record {
    node = node.index;
    key = waits_in bare_placed.entry.item.thread.place bare_placed.entry.item.thread.call;
    value = member_order_key bare_placed.entry.item.entry id.rep;
  }

  bare_wait : (w : Option Node) → g.wait ≡ w → wait_filing id.rep bare_placed.serial bare_placed.entry ≡ option_map wait_was w
  bare_wait w is = ap (option_map wait_was) (ap (λ (e : Single GuestThread). e.item.wait) bare_entry ∙ is)

  -- the node is made, and the chain is live
  pub wait_may : (p : Place) → MayRefile a.waits (wait_filing_at a id.rep g p)
  wait_may p = by g.wait refl
    where
      live : (k : Option ℕ) → IfSome (option_and_then (wait_chain bared) k) (λ c. IsSome (list_of a.waits c))
      live None = tt
      live (Some k) = found (wait_chain bared k) refl
        where
          found : (o : Option ℕ) → wait_chain bared k ≡ o → IfSome o (λ c. IsSome (list_of a.waits c))
          found None at = tt
          found (Some c) at = is_whole.chained.waits.live k c at

      by : (w : Option Node) → g.wait ≡ w → MayRefile a.waits (wait_filing_at a id.rep g p)
      by None is = subst (λ o. MayRefile a.waits (option_map (wait_at p) o)) (sym is) tt
      by (Some node) is = subst (λ o. MayRefile a.waits (option_map (wait_at p) o)) (sym is)
          (is_whole.chained.waits.made id.rep (wait_was node) (filings_at wait_filing bared.threads id.rep (Some bare_placed) bare_stands ∙ bare_wait (Some node) is), live (waits_in p g.thread.call))

  -- a thread that waits as before stays filed
  pub waits_stay : waits_in h.thread.place g.thread.call ≡ waits_in g.thread.place g.thread.call → RefilesWait a.waits a.waits (wait_filing_at a id.rep g h.thread.place)
  waits_stay same = by g.wait refl
    where
      by : (w : Option Node) → g.wait ≡ w → RefilesWait a.waits a.waits (wait_filing_at a id.rep g h.thread.place)
      by None is = subst (λ o. RefilesWait a.waits a.waits (option_map (wait_at h.thread.place) o)) (sym is) refl
      by (Some node) is = subst (λ o. RefilesWait a.waits a.waits (option_map (wait_at h.thread.place) o)) (sym is) (record {
        here = is_whole.chained.waits.has_link id.rep (wait_was node) (filings_at wait_filing bared.threads id.rep (Some bare_placed) bare_stands ∙ bare_wait (Some node) is)
            ∙ (ap (λ (e : Single GuestThread). option_map (λ c. (c, member_order_key e.item.entry id.rep)) (option_and_then (wait_chain bared) (waits_in e.item.thread.place e.item.thread.call))) bare_entry
            ∙ ap (λ k. option_map (λ c. (c, member_order_key g.entry id.rep)) (option_and_then (wait_chain bared) k)) (sym same));
        others = λ n other. refl;
        made = λ n made. made;
        live = λ c live. live;
      })

  module _ (waits : List (Spot OrderKey)) (rewait : RefilesWait a.waits waits (wait_filing_at a id.rep g h.thread.place)) where
    -- the chains of the waiting threads are as the records say
    pub wait_index_now : IsIndex (wait_chain bared) waits (filings wait_filing bare_now)
    wait_index_now = subst (λ (t : Table (Single GuestThread)). IsIndex (wait_chain bared) waits (filings wait_filing t)) (sym bare_put) (by g.wait refl)
      where
        wait_same : (w : Option Node) → g.wait ≡ w → h.wait ≡ w
        wait_same w is = ap (λ (x : GuestThread). x.wait) stays ∙ is

        wait_is : Node → Filing ℕ OrderKey
        wait_is node = record { node = node.index; key = waits_in h.thread.place h.thread.call; value = member_order_key h.entry id.rep }

        by : (w : Option Node) → g.wait ≡ w → IsIndex (wait_chain bared) waits (filings wait_filing (with_entry id.rep (entry_of (bare_thread h)) bared.threads))
        by None is =
            let same : waits ≡ a.waits = subst (λ o. RefilesWait a.waits waits (option_map (wait_at h.thread.place) o)) is rewait in
            subst (λ (ws : List (Spot OrderKey)). IsIndex (wait_chain bared) ws (filings wait_filing (with_entry id.rep (entry_of (bare_thread h)) bared.threads))) (sym same)
            (IsIndex-with_entry_same wait_filing (wait_chain bared) bared.threads a.waits is_whole.chained.waits id.rep bare_placed bare_stands (entry_of (bare_thread h))
            (ap (option_map wait_is) (wait_same None is) ∙ sym (bare_wait None is)))
        by (Some node) is =
            let one : Refiles a.waits waits node.index (option_map (λ c. (c, member_order_key g.entry id.rep)) (option_and_then (wait_chain bared) (waits_in h.thread.place g.thread.call))) =
            subst (λ o. RefilesWait a.waits waits (option_map (wait_at h.thread.place) o)) is rewait in
            IsIndex-with_entry wait_filing (wait_chain bared) bared.threads a.waits is_whole.chained.waits id.rep bare_placed bare_stands waits (entry_of (bare_thread h))
            (wait_was node) (wait_is node) (bare_wait (Some node) is) (ap (option_map wait_is) (wait_same (Some node) is)) refl
            (subst (λ (x : GuestThread). Refiles a.waits waits node.index (option_map (λ c. (c, member_order_key x.entry id.rep)) (option_and_then (wait_chain bared) (waits_in h.thread.place x.thread.call)))) (sym stays) one)

  module _ (from to : TableId SetKey) (from_is : set_of (seen a) from ≡ set_named (entry_set g.thread.place g.thread.op_progress) (seen a).core) (to_is : set_of (seen a) to ≡ set_named (entry_set h.thread.place h.thread.op_progress) (seen a).core) where
    abbrev pub sets_less : Table (Single WaitSet)
    sets_less = recounted (λ n. n - 1) from.rep from.serial a.sets

    abbrev pub sets_now : Table (Single WaitSet)
    sets_now = recounted (λ n. n + 1) to.rep to.serial sets_less

    pub less_alike : Alike uncounted sets_less a.sets
    unfolding IsSoundCore
    less_alike = recounted_alike (λ n. n - 1) a.sets a.made.sets sound.tables.sets from.rep from.serial

    pub sets_alike : Alike uncounted sets_now a.sets
    unfolding IsSoundCore
    sets_alike = recounted_alike (λ n. n + 1) sets_less a.made.sets (recounted_sound (λ n. n - 1) a.sets a.made.sets sound.tables.sets from.rep from.serial) to.rep to.serial ∙ less_alike

    -- the number of a set that the id names, by option
    pub from_number : (n : ℕ) → 0 < n → IsSome (get (seen a).core.sets n) → (n == number_of set_key a.sets from.rep from.serial) ≡ is_the n (entry_set g.thread.place g.thread.op_progress)
    from_number n positive there = ap (λ m. n == m) (sym (set_shown a from) ∙ from_is) ∙ set_is_the (entry_set g.thread.place g.thread.op_progress) (seen a).core n positive there

    to_number : (n : ℕ) → 0 < n → IsSome (get (seen a).core.sets n) → (n == number_of set_key sets_less to.rep to.serial) ≡ is_the n (entry_set h.thread.place h.thread.op_progress)
    to_number n positive there = ap (λ m. n == m) (number_of_alike uncounted set_key (λ e. refl) sets_less a.sets less_alike to.rep to.serial ∙ (sym (set_shown a to) ∙ to_is)) ∙ set_is_the (entry_set h.thread.place h.thread.op_progress) (seen a).core n positive there

    module _ (places waits : List (Spot OrderKey)) where
      abbrev pub placed_after : CoreParts
      placed_after = record a { threads = threads_now; sets = sets_now; places = places; waits = waits }

      abbrev pub after : CoreImage
      after = moved bared is_whole bare_now threads_alike sets_now sets_alike places waits

      pub entries_then : (n : ℕ) → entries_for n (core_of bared) ≡ passing (keeps n) (records thread_key a.threads.places)
      entries_then n = ap (passing (λ t. keeps_set n t t.place)) (bare_records a.threads) ∙ passing_seconds loose_thread (λ t. keeps_set n t t.place) (records thread_key a.threads.places)

      entries_now : (n : ℕ) → entries_for n (core_of after) ≡ passing (keeps n) (records thread_key threads_now.places)
      entries_now n = ap (passing (λ t. keeps_set n t t.place)) (bare_records threads_now) ∙ passing_seconds loose_thread (λ t. keeps_set n t t.place) (records thread_key threads_now.places)

      module _ (r : ℕ) (p : Placed (Single WaitSet)) (at : place_at a.sets r ≡ Some p) where
        pub set_positive : 0 < p.entry.item.number
        unfolding IsSoundCore
        set_positive = number_positive (λ (x : WaitSet). x.number) (λ (x : WaitSet). x.set) a.sets a.made.sets sound.tables.sets r p at

        pub set_there : IsSome (get (seen a).core.sets p.entry.item.number)
        unfolding IsSoundCore seen
        set_there = subst IsSome (sym (get-records set_key a.sets.places p.entry.item.number ∙ found_record_at set_key a.sets.places r p.entry.item.number p.entry.item.set sound.tables.sets.apart (ap (key_in set_key) at))) refl

        pub set_was : IsSetKept (core_of bared) p.entry.item
        unfolding IsSoundCore
        set_was = sound.whole.counted.sets r p at

        entries_kept : cond (p.entry.item.number == number_of set_key sets_less to.rep to.serial) (cond (p.entry.item.number == number_of set_key a.sets from.rep from.serial) (p.entry.item.entries - 1) p.entry.item.entries + 1) (cond (p.entry.item.number == number_of set_key a.sets from.rep from.serial) (p.entry.item.entries - 1) p.entry.item.entries) ≡ entries_for p.entry.item.number (core_of after)
        entries_kept =
            let n = p.entry.item.number in
            let was : p.entry.item.entries ≡ passing (keeps n) (records thread_key a.threads.places) = set_was.entries ∙ entries_then n in
            ap₂ (λ (b d : Bool). cond d (cond b (p.entry.item.entries - 1) p.entry.item.entries + 1) (cond b (p.entry.item.entries - 1) p.entry.item.entries))
            (from_number n set_positive set_there ∙ sym (keeps_is n (loose_thread g.thread) (loose_thread g.thread).place)) (to_number n set_positive set_there ∙ sym (keeps_is n (loose_thread h.thread) (loose_thread h.thread).place))
            ∙ (ap (λ (e : ℕ). cond (keeps n h.thread) (cond (keeps n g.thread) (e - 1) e + 1) (cond (keeps n g.thread) (e - 1) e)) was
            ∙ (recount (keeps n g.thread) (keeps n h.thread) (passing (keeps n) (records thread_key a.threads.places)) (passing (keeps n) (records thread_key threads_now.places)) (entries_change a sound id.rep id.serial g is h same_number n) (counted_there a sound id.rep id.serial g is n)
            ∙ sym (entries_now n)))

      -- each set's number is what is counted now
      sets_kept : EachEntry (IsSetKept (core_of after)) sets_now
      unfolding IsSoundCore
      sets_kept r q at =
          let more = recounted_each (λ n. n + 1) sets_less a.made.sets (recounted_sound (λ n. n - 1) a.sets a.made.sets sound.tables.sets from.rep from.serial) to.rep to.serial r q at in
          let less = recounted_each (λ n. n - 1) a.sets a.made.sets sound.tables.sets from.rep from.serial r more.1.0 more.1.1.0 in
          let p = less.1.0 in
          let x = p.entry.item in
          let one : more.0 ≡ record x { entries = cond (x.number == number_of set_key a.sets from.rep from.serial) (x.entries - 1) x.entries } =
          sym more.1.1.1.0 ∙ (less.1.1.1.1 ∙ ap (λ (y : WaitSet). record y { entries = cond (y.number == number_of set_key a.sets from.rep from.serial) (y.entries - 1) y.entries }) (sym less.1.1.1.0)) in
          subst (IsSetKept (core_of after)) (sym (more.1.1.1.1 ∙ ap (λ (y : WaitSet). record y { entries = cond (y.number == number_of set_key sets_less to.rep to.serial) (y.entries + 1) y.entries }) one))
          (record { members = (set_was r p less.1.1.0).members; entries = entries_kept r p less.1.1.0 })

      -- ---- The parts are whole

      module _ (at_place : AtPlace (parts_of a) h.state_target (place_target h.thread.place)) (at_op_progress : AtPlace (parts_of a) h.op_target (op_progress_target h.thread.op_progress)) where
        home_now : HasHome after (bare_thread h)
        home_now =
            let was = thread_home a sound id g is in
            record {
              call = subst (λ (x : GuestThread). HasNumber call_key bared.calls x.task x.thread.call) (sym stays) was.call;
              there = subst (λ (x : GuestThread). 0 < x.thread.call) (sym stays) was.there;
              instance = subst (λ (x : GuestThread). call_instance x.thread.call (core_of bared) ≡ x.instance) (sym stays) was.instance;
              barred = subst (λ (x : GuestThread). bars_start x.thread.explicit (kind_of x.thread.call (core_of bared)) ≡ x.barred) (sym stays) was.barred;
              waits = subst (λ (x : GuestThread). keeps_waits bared.version (kind_of x.thread.call (core_of bared)) ≡ is_some x.wait) (sym stays) was.waits;
              within = subst (λ (x : GuestThread). IsSome (slice_get bared.instances x.instance)) (sym stays) was.within;
              place = at_moved bared is_whole bare_now threads_alike sets_now sets_alike places waits h.state_target _ (place_in_bare a h.state_target _ at_place);
              op_progress = at_moved bared is_whole bare_now threads_alike sets_now sets_alike places waits h.op_target _ (place_in_bare a h.op_target _ at_op_progress);
            }

        homes_now : EachEntry (HasHome after) bare_now
        homes_now = subst (EachEntry (HasHome after)) (sym bare_put)
            (each_written bared.threads id.rep bare_placed bare_stands (HasHome after) (bare_thread h) home_now
            (λ r q at. home_moved bared is_whole bare_now threads_alike sets_now sets_alike places waits q.entry.item (is_whole.named.threads r q at)))

        module _ (re : Refiles a.places places g.node.index (link_for (place_chain bared) (record { node = g.node.index; key = where_at h.instance h.barred h.thread.place; value = thread_order_key a.version id.rep h })))
            (rewait : RefilesWait a.waits waits (wait_filing_at a id.rep g h.thread.place)) where
          index_now : IsIndex (place_chain bared) places (filings (place_filing a.version) bare_now)
          index_now = subst (λ (t : Table (Single GuestThread)). IsIndex (place_chain bared) places (filings (place_filing a.version) t)) (sym bare_put)
              (IsIndex-with_entry (place_filing a.version) (place_chain bared) bared.threads a.places is_whole.chained.places id.rep bare_placed bare_stands places (entry_of (bare_thread h))
              (record { node = bare_placed.entry.item.node.index; key = where_at bare_placed.entry.item.instance bare_placed.entry.item.barred bare_placed.entry.item.thread.place; value = thread_order_key a.version id.rep bare_placed.entry.item })
              (record { node = h.node.index; key = where_at h.instance h.barred h.thread.place; value = thread_order_key a.version id.rep h })
              refl refl (ap (λ (x : GuestThread). x.node.index) stays ∙ sym (ap (λ (e : Single GuestThread). e.item.node.index) bare_entry))
              (subst (λ n. Refiles a.places places n (link_for (place_chain bared) (record { node = h.node.index; key = where_at h.instance h.barred h.thread.place; value = thread_order_key a.version id.rep h }))) (sym (ap (λ (e : Single GuestThread). e.item.node.index) bare_entry)) re))

          whole_now : IsWhole after
          whole_now = moved_whole bared is_whole bare_now threads_alike sets_now sets_alike places waits homes_now index_now (wait_index_now waits rewait)
              (ap size (bare_records threads_now) ∙ (size_seconds loose_thread (records thread_key threads_now.places) ∙ (threads_size a sound id.rep id.serial g is h same_number ∙ sym (ap size (bare_records a.threads) ∙ size_seconds loose_thread (records thread_key a.threads.places)))))
              (ap size (sets_same sets_now a.sets sets_alike))
              (λ k. ap (passing (λ t. t.call == k)) (bare_records threads_now) ∙ (passing_seconds loose_thread (λ t. t.call == k) (records thread_key threads_now.places)
              ∙ (calls_same a sound id.rep id.serial g is h same_number (ap (λ (x : GuestThread). x.thread.call) stays) k
              ∙ sym (ap (passing (λ t. t.call == k)) (bare_records a.threads) ∙ passing_seconds loose_thread (λ t. t.call == k) (records thread_key a.threads.places)))))
              sets_kept

          held_now : (kind : HandleKind) (r : Rep) → IsHeldNamed (kinds bared) kind r → IsHeldNamed (kinds after) kind r
          held_now (HandleKind.Waitable WaitableKind.GuestSubtask) r at = at_moved bared is_whole bare_now threads_alike sets_now sets_alike places waits r.id (CallOf r.serial) at
          held_now (HandleKind.Waitable WaitableKind.HostSubtask) r at = at_moved bared is_whole bare_now threads_alike sets_now sets_alike places waits r.id (WorkOf r.serial) at
          held_now (HandleKind.Waitable WaitableKind.Stream) r at = at
          held_now (HandleKind.Waitable WaitableKind.Future) r at = at
          held_now HandleKind.Set r at = at_moved bared is_whole bare_now threads_alike sets_now sets_alike places waits r.id (SetOf r.serial) at

          handles_now : (r : InstanceRecord) → AreHandlesNamed (kinds bared) r → AreHandlesNamed (kinds after) r
          handles_now r named = record {
            small = named.small;
            small_threads = named.small_threads;
            handles = λ n x at. held_now x.kind x.rep (named.handles n x at);
            thread_handles = λ n x at. at_moved bared is_whole bare_now threads_alike sets_now sets_alike places waits x.id (ThreadOf x.serial) (named.thread_handles n x at);
          }

          owns_now : OwnsHandle (parts_of a) h
          unfolding IsSoundCore
          owns_now n is_n =
              let was : OwnsHandle (parts_of a) g = subst (λ (e : Single GuestThread). OwnsHandle (parts_of a) e.item) stands.1.1.1 (sound.owned id.rep stands.0 stands.1.0) in
              ap (λ i. thread_at i n (core_of (parts_of a))) (ap (λ (x : GuestThread). x.instance) stays) ∙ (was n (sym handle ∙ is_n) ∙ ap (λ (m : ℕ). Some m) (sym same_number))

          pub placed_sound : IsSoundCore placed_after
          unfolding IsSoundCore
          placed_sound = record {
            tables = record {
              threads = table_written (λ (g : GuestThread). g.number) (λ (g : GuestThread). g.thread) a.threads a.made.threads sound.tables.threads id.rep id.serial g is h same_number;
              calls = sound.tables.calls;
              works = sound.tables.works;
              sets = recounted_sound (λ n. n + 1) sets_less a.made.sets (recounted_sound (λ n. n - 1) a.sets a.made.sets sound.tables.sets from.rep from.serial) to.rep to.serial;
              groups = sound.tables.groups;
            };
            whole = whole_now;
            interesting = sound.interesting;
            moving = sound.moving;
            handles = λ i r at. handles_now r (sound.handles i r at);
            owned = each_written a.threads id.rep stands.0 stands.1.0 (OwnsHandle (parts_of a)) h owns_now sound.owned;
            live = sound.live;
            ended = sound.ended;
          }

      -- ---- What is seen

      callers_same : records (callers_in a.behind) threads_now.places ≡ records (callers_in a.behind) a.threads.places
      callers_same = records_unseen (callers_in a.behind) a.threads id.rep stands.0 stands.1.0 (entry_of h) (ap (λ (x : GuestThread). callers_in a.behind (entry_of x)) stays ∙ sym (ap (callers_in a.behind) stands.1.1.1))

      seats_same : records thread_seat_key threads_now.places ≡ records thread_seat_key a.threads.places
      seats_same = records_unseen thread_seat_key a.threads id.rep stands.0 stands.1.0 (entry_of h) (ap (λ (x : GuestThread). thread_seat_key (entry_of x)) stays ∙ sym (ap thread_seat_key stands.1.1.1))

      abbrev view_of : Records Thread → Records (List ℕ) → Records Set → List (Option Tag) → List (Option Tag) → StateView
      view_of m k x l t = record (seen a) { core = record (seen a).core { threads = m; callers = k; sets = x }; tags = record (seen a).tags { threads = l; sets = t } }

      pub placed_seen : (f : Thread → Thread) → f g.thread ≡ h.thread → seen placed_after ≡ on_core (on_thread (thread_of (seen a) id) f) (seen a)
      unfolding seen IsSoundCore on_thread
      placed_seen f is_f =
          ap (λ (p : Records ThreadSeat). record (seen placed_after) { tags = record (seen placed_after).tags { seats = record (seen a).tags.seats { threads = p } } }) seats_same
          ∙ (ap (λ m. view_of m (records (callers_in a.behind) threads_now.places) (records set_key sets_now.places) (tags_in thread_key threads_now) (tags_in set_key sets_now))
          (records_changed (λ (g : GuestThread). g.number) (λ (g : GuestThread). g.thread) a.threads a.made.threads sound.tables.threads id.rep id.serial g is h same_number f is_f ∙ ap (λ n. change n f (records thread_key a.threads.places)) (sym (thread_shown a id)))
          ∙ (ap (λ k. view_of (change (thread_of (seen a) id) f (records thread_key a.threads.places)) k (records set_key sets_now.places) (tags_in thread_key threads_now) (tags_in set_key sets_now)) callers_same
          ∙ (ap (λ x. view_of (change (thread_of (seen a) id) f (records thread_key a.threads.places)) (records (callers_in a.behind) a.threads.places) x (tags_in thread_key threads_now) (tags_in set_key sets_now)) (sets_same sets_now a.sets sets_alike)
          ∙ (ap (λ l. view_of (change (thread_of (seen a) id) f (records thread_key a.threads.places)) (records (callers_in a.behind) a.threads.places) (records set_key a.sets.places) l (tags_in set_key sets_now))
          (tags_written (λ (g : GuestThread). g.number) (λ (g : GuestThread). g.thread) a.threads a.made.threads sound.tables.threads id.rep id.serial g is h same_number)
          ∙ ap (λ t. view_of (change (thread_of (seen a) id) f (records thread_key a.threads.places)) (records (callers_in a.behind) a.threads.places) (records set_key a.sets.places) (tags_in thread_key a.threads) t)
          (tags_alike uncounted set_key (λ e. refl) sets_now a.sets sets_alike)))))

      -- the tables as the functions leave them
      pub placed_becomes : AtPlace (parts_of a) h.state_target (place_target h.thread.place) → AtPlace (parts_of a) h.op_target (op_progress_target h.thread.op_progress) →
          Refiles a.places places g.node.index (link_for (place_chain bared) (record { node = g.node.index; key = where_at h.instance h.barred h.thread.place; value = thread_order_key a.version id.rep h })) →
          RefilesWait a.waits waits (wait_filing_at a id.rep g h.thread.place) →
          (f : Thread → Thread) → f g.thread ≡ h.thread → (threads : Table (Single GuestThread)) → threads ≡ threads_now →
          (sets : Table (Single WaitSet)) → sets ≡ sets_now → BecomesBy a (record a { threads = threads; sets = sets; places = places; waits = waits }) (on_thread (thread_of (seen a) id) f)
      placed_becomes at_place at_op_progress re rewait f is_f threads threads_is sets sets_is =
          subst (λ (t : Table (Single GuestThread)). BecomesBy a (record a { threads = t; sets = sets; places = places; waits = waits }) (on_thread (thread_of (seen a) id) f)) (sym threads_is)
          (subst (λ (t : Table (Single WaitSet)). BecomesBy a (record placed_after { sets = t }) (on_thread (thread_of (seen a) id) f)) (sym sets_is)
          (record { sound = placed_sound at_place at_op_progress re rewait; new = placed_seen f is_f }))
