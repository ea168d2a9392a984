-- A push of a thread's entry, or of a work's host entry, as primitives make it.
use Rattle.core_records.proofs.Core.{[], ap, bare, bare_instance, bare_work, entries, Entry, eqb-true, false, High, host_entry, HostTaskKey, inl, inr, is_entry_of, is_free, IsLinks, IsOfThread, IsKeyed, IsSome, IsSoundCore, IsUnqueued, IsWhole, item_at, item_of, linked, List, list_any, list_of, Low, None, Ok, on_core, on_item, Option, option_map, CoreImage, parts_of, place_at, Placed, push_high, push_high_first, push_low, refl, Row, row, row_chain, same_Some, seen, instance_queue_chain, slice_get, slice_get-map, Some, Spot, subst, sym, TableId, thread_entry, thread_of, ThreadKey, true, work_entries, work_of, ℕ, ◌++◌, ◌∙◌, ◌∷◌, ◌≡◌}
use Rattle.core_records.specs.declared.{parts.CoreParts.CoreParts, single.Single.Single, thread_records.GuestThread.GuestThread, thread_records.Queued.Queued, work_records.WorkRecord.WorkRecord}
use Rattle.core_records.proofs.HomeLemmas.{thread_home}
use Rattle.core_records.proofs.KindLemmas.{item_stands}
use Rattle.core_records.proofs.ReadLemmas.{thread_named, work_named}
use Rattle.core_queues.specs.OrderKeys.{OfThread, OfWork, RowsAre, is_entry_of_work, leaves, row_with}
use Rattle.core_queues.proofs.BareLemmas.{place_mapped, thread_entry_of}
use Rattle.core_queues.proofs.ListLemmas.{no_entry, no_work_entry, none_of_these, none_passes}
use Rattle.core_queues.proofs.RowLemmas.{mark_free, of_thread_keyed, pushed, pushed_first, pushed_work, row_known, instance_queue_free}
use Rattle.core_queues.proofs.OrderKeyLemmas.{apart_marks, host_keyed, leaves_instance, leaves_mark, leaves_thread, order_key_of}
use Rattle.core_queues.proofs.SeenLemmas.{high_pushed, high_pushed_first, low_pushed, row_seen, rows_after, rows_sound}

some_mapped : {X Y : Type 0} (f : X → Y) (o : Option X) → IsSome (option_map f o) → IsSome o
some_mapped f None some = absurd (cc)
some_mapped f (Some x) some = refl

module _ (a : CoreParts) (sound : IsSoundCore a) (id : TableId ThreadKey) (g : GuestThread) (is : Ok g ≡ item_at item_of a.threads id.rep id.serial) where
  pub instance_unchecked : IsSome (slice_get a.instances.items g.instance)
  instance_unchecked = some_mapped bare_instance (slice_get a.instances.items g.instance) (subst IsSome (slice_get-map bare_instance a.instances.items g.instance) (thread_home a sound id g is).within)

  module _ (rep : ℕ) (rep_is : rep ≡ id.rep) (v : Queued) (v_is : v ≡ thread_entry rep g) where
    abbrev bared : CoreImage
    bared = bare (parts_of a)

    is_whole : IsWhole bared
    unfolding IsSoundCore
    is_whole = sound.whole

    there : v ≡ thread_entry id.rep g
    there = v_is ∙ ap (λ r. thread_entry r g) rep_is

    pub of_v : OfThread bared v
    of_v = subst (OfThread bared) (sym there) (thread_entry_of a sound id.rep id.serial g is)

    pub entry_is : v.entry ≡ Entry.Thread (thread_of (seen a) id)
    entry_is = ap (λ (q : Queued). q.entry) there ∙ ap (λ n. Entry.Thread n) (thread_named a id g is)

    pub entry_keyed : IsKeyed bared v
    entry_keyed = of_thread_keyed bared is_whole v of_v

    in_instance : v.instance ≡ Some g.instance
    in_instance = ap (λ (q : Queued). q.instance) there

    pub live_mark : (r : Row) (c : ℕ) → row_chain bared r ≡ Some c → IsSome (list_of a.marks c)
    live_mark r c at = is_whole.chained.marks.live r c at

    pub live_instance_queue : (k : ℕ × Row) (c : ℕ) → instance_queue_chain bared k ≡ Some c → IsSome (list_of a.instance_queues c)
    live_instance_queue k c at = is_whole.chained.instance_queues.live k c at

    module _ (unqueued : IsUnqueued (thread_of (seen a) id) (seen a).core) where
      nothing_leaves : (r : Row) → list_any (is_entry_of (thread_of (seen a) id)) (row_seen a r) ≡ false → list_any (leaves v) (row bared r) ≡ false
      nothing_leaves r none = none_passes (IsKeyed bared) (λ (q : Queued). q.entry) (leaves v) (is_entry_of (thread_of (seen a) id)) (leaves_thread bared is_whole v of_v (thread_of (seen a) id) entry_is) (row bared r) (row_known bared is_whole r) none

      none_leaves : (r : Row) → list_any (leaves v) (row bared r) ≡ false
      unfolding seen
      none_leaves High = nothing_leaves High (no_entry (thread_of (seen a) id) (row_seen a High) unqueued.high)
      none_leaves Low = nothing_leaves Low (no_entry (thread_of (seen a) id) (row_seen a Low) unqueued.low)

      pub free_mark : IsLinks a.marks → is_free a.marks v.mark.index ≡ true
      free_mark links = mark_free bared is_whole v (of_thread_keyed bared is_whole v of_v) links none_leaves

      pub free_instance_queue : IsLinks a.instance_queues → is_free a.instance_queues v.instance_queue.index ≡ true
      free_instance_queue links = instance_queue_free bared is_whole v of_v links none_leaves

      module _ (links_marks : IsLinks a.marks) (links_instance_queues : IsLinks a.instance_queues) (r : Row) (c d : ℕ) (at : row_chain bared r ≡ Some c) (at_instance_queue : instance_queue_chain bared (g.instance, r) ≡ Some d) (marks instance_queues : List (Spot Queued)) where
        module _ (puts : marks ≡ linked c v.mark.index v (entries a.marks c ++ (v.mark.index, v) ∷ []) a.marks) (puts_instance_queue : instance_queues ≡ linked d v.instance_queue.index v (entries a.instance_queues d ++ (v.instance_queue.index, v) ∷ []) a.instance_queues) where
          rows_pushed : RowsAre bared marks instance_queues (row_with r (row bared r ++ v ∷ []) (row bared))
          rows_pushed = pushed bared is_whole r c at v (of_thread_keyed bared is_whole v of_v) (free_mark links_marks) (row bared r ++ v ∷ []) marks g.instance d at_instance_queue of_v in_instance (free_instance_queue links_instance_queues) instance_queues refl puts puts_instance_queue

          pub push_sound : IsSoundCore (rows_after a marks instance_queues)
          push_sound = rows_sound a marks instance_queues _ rows_pushed sound

          pub push_high_seen : r ≡ High → seen (rows_after a marks instance_queues) ≡ on_core (push_high (Entry.Thread (thread_of (seen a) id))) (seen a)
          push_high_seen high = high_pushed a marks instance_queues v (subst (λ j. RowsAre bared marks instance_queues (row_with j (row bared j ++ v ∷ []) (row bared))) high rows_pushed) ∙ ap (λ e. on_core (push_high e) (seen a)) entry_is

          pub push_low_seen : r ≡ Low → seen (rows_after a marks instance_queues) ≡ on_core (push_low (Entry.Thread (thread_of (seen a) id))) (seen a)
          push_low_seen low = low_pushed a marks instance_queues v (subst (λ j. RowsAre bared marks instance_queues (row_with j (row bared j ++ v ∷ []) (row bared))) low rows_pushed) ∙ ap (λ e. on_core (push_low e) (seen a)) entry_is

        module _ (puts : marks ≡ linked c v.mark.index v ((v.mark.index, v) ∷ entries a.marks c) a.marks) (puts_instance_queue : instance_queues ≡ linked d v.instance_queue.index v ((v.instance_queue.index, v) ∷ entries a.instance_queues d) a.instance_queues) where
          rows_pushed_first : RowsAre bared marks instance_queues (row_with r (v ∷ row bared r) (row bared))
          rows_pushed_first = pushed_first bared is_whole r c at v (of_thread_keyed bared is_whole v of_v) (free_mark links_marks) (v ∷ row bared r) marks g.instance d at_instance_queue of_v in_instance (free_instance_queue links_instance_queues) instance_queues refl puts puts_instance_queue

          pub push_first_sound : IsSoundCore (rows_after a marks instance_queues)
          push_first_sound = rows_sound a marks instance_queues _ rows_pushed_first sound

          pub push_high_first_seen : r ≡ High → seen (rows_after a marks instance_queues) ≡ on_core (push_high_first (Entry.Thread (thread_of (seen a) id))) (seen a)
          push_high_first_seen high = high_pushed_first a marks instance_queues v (subst (λ j. RowsAre bared marks instance_queues (row_with j (v ∷ row bared j) (row bared))) high rows_pushed_first) ∙ ap (λ e. on_core (push_high_first e) (seen a)) entry_is

-- ---- The host entry of a work

module _ (a : CoreParts) (sound : IsSoundCore a) (id : TableId HostTaskKey) (w : WorkRecord) (is : Ok w ≡ item_at item_of a.works id.rep id.serial) where
  -- where a host work is there high has a chain
  pub high_there : IsSome a.high
  unfolding IsSoundCore
  high_there =
      let one = item_stands (λ (w : WorkRecord). w.number) (λ (w : WorkRecord). w.work) a.works a.made.works sound.tables.works id.rep id.serial w is in
      (sound.whole.counted.works id.rep _ (place_mapped (on_item bare_work) a.works id.rep one.0 one.1.0)).0

  module _ (rep : ℕ) (rep_is : rep ≡ id.rep) (v : Queued) (v_is : v ≡ host_entry rep w) (c : ℕ) (at : a.high ≡ Some c) where
    abbrev bared_works : CoreImage
    bared_works = bare (parts_of a)

    host_whole : IsWhole bared_works
    unfolding IsSoundCore
    host_whole = sound.whole

    work_there : v ≡ host_entry id.rep w
    work_there = v_is ∙ ap (λ r. host_entry r w) rep_is

    host_placed : (q : Placed (Single WorkRecord)) × ((place_at bared_works.works id.rep ≡ Some q) × (host_entry id.rep q.entry.item ≡ v))
    unfolding IsSoundCore
    host_placed =
        let one = item_stands (λ (w : WorkRecord). w.number) (λ (w : WorkRecord). w.work) a.works a.made.works sound.tables.works id.rep id.serial w is in
        (record { serial = one.0.serial; parent = one.0.parent; entry = on_item bare_work one.0.entry }, (place_mapped (on_item bare_work) a.works id.rep one.0 one.1.0, ap (λ (e : Single WorkRecord). host_entry id.rep (bare_work e.item)) one.1.1.1 ∙ sym work_there))

    host_is_keyed : IsKeyed bared_works v
    host_is_keyed = subst (IsKeyed bared_works) host_placed.1.1 (host_keyed bared_works id.rep host_placed.0 host_placed.1.0)

    host_entry_is : v.entry ≡ Entry.Host (work_of (seen a) id)
    host_entry_is = ap (λ (q : Queued). q.entry) work_there ∙ ap (λ i. Entry.Host i) (work_named a id w is)

    host_of_work : OfWork bared_works v
    host_of_work = elim (order_key_of bared_works v host_is_keyed) [
      | inl order_key ↦ absurd (let two : Some (order_key.placed.entry.item.instance) ≡ None = ap (λ (q : Queued). q.instance) (order_key.is ∙ work_there) in cc)
      | inr order_key ↦ order_key
    ]

    pub host_live : IsSome (list_of a.marks c)
    host_live = host_whole.chained.marks.live High c at

    module _ (none : work_entries (work_of (seen a) id) (seen a).core.queues.high ≡ 0) where
      -- what leaves with the work's entry is an entry of the work
      leaves_work : (x : Queued) → IsKeyed bared_works x → leaves v x ≡ true → is_entry_of_work (work_of (seen a) id) x.entry ≡ true
      leaves_work x is_x leaves_x = elim (order_key_of bared_works x is_x) [
        | inl at_x ↦ apart_marks bared_works host_whole x v at_x host_of_work (leaves_mark v x leaves_x)
        | inr at_x ↦
            let place : x.place ≡ v.place = host_whole.nodes.works.own x.place v.place at_x.placed host_of_work.placed at_x.at host_of_work.at (ap (λ m. m.index) at_x.mark ∙ (leaves_mark v x leaves_x ∙ sym (ap (λ m. m.index) host_of_work.mark))) in
            let placed : at_x.placed ≡ host_of_work.placed = same_Some at_x.placed host_of_work.placed (sym at_x.at ∙ (ap (place_at bared_works.works) place ∙ host_of_work.at)) in
            let number : host_of_work.placed.entry.item.number ≡ work_of (seen a) id = eqb-true host_of_work.placed.entry.item.number (work_of (seen a) id) (sym (ap (is_entry_of_work host_of_work.placed.entry.item.number) host_entry_is) ∙ host_of_work.entry) in
            ap (λ i. is_entry_of_work i x.entry) (sym (ap (λ (q : Placed (Single WorkRecord)). q.entry.item.number) placed ∙ number)) ∙ at_x.entry
      ]

      -- low has entries of threads alone
      not_at_low : (x : Queued) → IsOfThread x → leaves v x ≡ true → ⊥
      not_at_low x of_thread leaves_x = let none : IsSome {T = ℕ} None = subst IsSome (leaves_instance v x leaves_x ∙ host_of_work.alone) of_thread in absurd (cc)

      none_at : (r : Row) → list_any (leaves v) (row bared_works r) ≡ false
      unfolding seen
      none_at High = none_passes (IsKeyed bared_works) (λ (q : Queued). q.entry) (leaves v) (is_entry_of_work (work_of (seen a) id)) leaves_work (row bared_works High) (row_known bared_works host_whole High) (no_work_entry (work_of (seen a) id) (row_seen a High) none)
      none_at Low = none_of_these IsOfThread (leaves v) not_at_low (row bared_works Low) host_whole.chained.low

      pub host_free : IsLinks a.marks → is_free a.marks v.mark.index ≡ true
      host_free links = mark_free bared_works host_whole v host_is_keyed links none_at

      module _ (links : IsLinks a.marks) (marks : List (Spot Queued)) (puts : marks ≡ linked c v.mark.index v (entries a.marks c ++ (v.mark.index, v) ∷ []) a.marks) where
        rows_host : RowsAre bared_works marks a.instance_queues (row_with High (row bared_works High ++ v ∷ []) (row bared_works))
        rows_host = pushed_work bared_works host_whole High c at v host_is_keyed (host_free links) (row bared_works High ++ v ∷ []) marks host_of_work refl refl puts

        pub host_sound : IsSoundCore (rows_after a marks a.instance_queues)
        host_sound = rows_sound a marks a.instance_queues _ rows_host sound

        pub host_seen : seen (rows_after a marks a.instance_queues) ≡ on_core (push_high (Entry.Host (work_of (seen a) id))) (seen a)
        host_seen = high_pushed a marks a.instance_queues v rows_host ∙ ap (λ e. on_core (push_high e) (seen a)) host_entry_is
