-- A suspended thread is gone, as the primitive takes it away.
use Rattle.core_queues.proofs.SeatLemmas.{seats_less}
use Rattle.core_records.specs.Keys.{call_seat_key}
use Rattle.machine_data.specs.Maps.{get}
use Rattle.machine_rules.specs.Picks.{ThreadSeat}
use Rattle.core_records.proofs.Core.{[], ap, ap₂, AreHandlesNamed, arith, bare, bare_call, bare_thread, Bool, Call, call_key, call_number, callers_chain, callers_in, callers_of, callers_row, cases_eq, chained, cond, Core, core_of, deleted, Each, EachEntry, Entry, entry_of, eq-eqb, Err, false, filings_at, follower, FreeNode, get, get-change_same, get-remove, GuestTaskKey, High, inl, inr, is_entry_of, is_free, is_made, IsApart, IsBehindNobody, IsCallKept, IsLinks, IsSome, IsSoundCore, IsTable, IsWhole, item_at, item_of, keeps_set, KeepsBut, kinds, List, list_any, list_of, loose_call, loose_thread, lost_thread, Low, map, mapped, mapped-deleted, mapped-with_entry, ne_eqb, None, Ok, on_item, on_thread, one_if, Option, option_map, OwnsHandle, CoreImage, parts_of, passing, Place, place_at, place_filing, place_of, Placed, Records, records, refl, remove, remove-change_same, remove_thread, Renames, ResourceTableError, Result, Row, row, same_map, same_Some, seen, set_number, set_place, slice_get, Some, SoundTable, Spot, subst, switch_entries, sym, Table, table_use, TableId, Tag, Thread, thread_entry, thread_key, thread_of, ThreadKey, threads_of, times, true, UnderOf, uninterested, Unmade, values, with_entry, work_number, ℕ, ◌+◌, ◌-◌, ◌⊎◌, ◌<◌, ◌==◌, ◌||◌, ◌∙◌, ◌∷◌, ◌≡◌, ◌≤◌, Filing, IfSome, wait_filing, waits_in}
use Rattle.core_records.specs.declared.{call_records.GuestTask.GuestTask, parts.CoreParts.CoreParts, parts.CachedCounts.CachedCounts, single.Single.Single, thread_records.Follower.Follower, thread_records.GuestThread.GuestThread, thread_records.Queued.Queued}
use Rattle.machine_rules.specs.Places.{entries}
use Rattle.core_places.proofs.FiledLemmas.{kept_under}
use Rattle.core_places.specs.Moved.{Alike}
use Rattle.core_queues.proofs.CallerLemmas.{caller_free, callers_get, callers_row_of, numbers_of}
use Rattle.core_queues.proofs.ListLemmas.{no_entry, none_passes}
use Rattle.core_queues.proofs.PushLemmas.{free_mark, free_instance_queue}
use Rattle.core_queues.proofs.SeenLemmas.{row_seen}
use Rattle.core_queues.proofs.SwitchLemmas.{follower_kept}
use Rattle.core_removals.proofs.BareTables.{item_mapped, sound_mapped}
use Rattle.core_removals.proofs.LeftLemmas.{handles_left}
use Rattle.core_removals.proofs.LessLemmas.{each_left, found_gone, found_still, one_fewer}
use Rattle.core_removals.proofs.RewriteLemmas.{each_rewritten, each_there, rewritten_alike}
use Rattle.core_removals.proofs.ThreadGoneLemmas.{callers_left, left, less, less_whole, row_left, threads_counted}
use Rattle.core_removals.specs.Chains.{Closes, Drops, DropsIf}
use Rattle.core_removals.specs.Counted.{unthreaded}
use Rattle.core_records.proofs.KindLemmas.{item_stands, table_written, tags_written}
use Rattle.core_records.proofs.MakeLemmas.{number_gone, number_left, records_less, table_less}
use Rattle.core_records.proofs.ReadLemmas.{thread_named, thread_read, thread_shown, thread_unnamed}
use Rattle.core_records.proofs.TableLemmas.{records_unseen}
use Rattle.core_primitives.specs.StateView.{named as named_by_tag}
use Rattle.table_lists.specs.declared.ordered_lists.OrderKey.{OrderKey}
use Rattle.core_records.specs.RecordPlaces.{member_order_key}
use Rattle.table_links.specs.declared.links.Node.{Node}

abbrev number : GuestThread → ℕ
number g = g.number

abbrev thread_seated : GuestThread → ThreadSeat
thread_seated g = record { task = g.task_entry; own = g.entry }

abbrev machine : GuestThread → Thread
machine g = g.thread

abbrev call_of_number : GuestTask → ℕ
call_of_number c = c.number

abbrev call_machine : GuestTask → Call
call_machine c = c.call

none_of : (n : ℕ) (fs : List Follower) → times n (numbers_of fs) ≡ 0 → list_any (λ (f : Follower). n == f.number) fs ≡ false
none_of n [] none = refl
none_of n (f ∷ fs) none = by (n == f.number) none (none_of n fs)
  where
    by : (b : Bool) → one_if b + times n (numbers_of fs) ≡ 0 → (times n (numbers_of fs) ≡ 0 → list_any (λ (f : Follower). n == f.number) fs ≡ false) → (b || list_any (λ (f : Follower). n == f.number) fs) ≡ false
    by true none rest = absurd (omega (arith, none))
    by false none rest = rest (omega (arith, none))

unlike : (b : Bool) → one_if b ≡ 0 → b ≡ false
unlike true none = absurd (omega (arith, none))
unlike false none = refl

module _ (a : CoreParts) (sound : IsSoundCore a) (id : TableId ThreadKey) (g : GuestThread) (is : Ok g ≡ item_at item_of a.threads id.rep id.serial) (task : TableId GuestTaskKey) (c : GuestTask) (is_c : Ok c ≡ item_at item_of a.calls task.rep task.serial) (of : c.number ≡ g.thread.call) where
  abbrev bared : CoreImage
  bared = bare (parts_of a)

  whole : IsWhole bared
  unfolding IsSoundCore
  whole = sound.whole

  threads_sound : SoundTable thread_key bared.threads a.made.threads
  unfolding IsSoundCore
  threads_sound = sound_mapped number machine bare_thread loose_thread (λ x. refl) (λ x. refl) a.threads a.made.threads sound.tables.threads

  bare_is : Ok (bare_thread g) ≡ item_at item_of bared.threads id.rep id.serial
  bare_is = item_mapped bare_thread a.threads id.rep id.serial g is

  calls_sound : SoundTable call_key bared.calls a.made.threads
  unfolding IsSoundCore
  calls_sound = sound_mapped call_of_number call_machine bare_call (λ c. uninterested (loose_call c)) (λ x. refl) (λ x. refl) a.calls a.made.threads sound.tables.calls

  bare_is_c : Ok (bare_call c) ≡ item_at item_of bared.calls task.rep task.serial
  bare_is_c = item_mapped bare_call a.calls task.rep task.serial c is_c

  -- ---- Its call

  abbrev pub call_less : GuestTask
  call_less = record c { threads = c.threads - 1 }

  abbrev pub calls_less : Table (Single GuestTask)
  calls_less = with_entry task.rep (entry_of call_less) a.calls

  abbrev bare_calls : Table (Single GuestTask)
  bare_calls = mapped (on_item bare_call) calls_less

  bare_calls_are : bare_calls ≡ with_entry task.rep (entry_of (bare_call call_less)) bared.calls
  bare_calls_are = mapped-with_entry (on_item bare_call) a.calls task.rep (entry_of call_less)

  alike : Alike unthreaded bare_calls bared.calls
  alike = subst (λ (t : Table (Single GuestTask)). Alike unthreaded t bared.calls) (sym bare_calls_are) (rewritten_alike call_of_number call_machine bared.calls a.made.threads calls_sound task.rep task.serial (bare_call c) bare_is_c unthreaded (bare_call call_less) refl)

  -- it is one of the threads of its call
  counted_one : c.threads ≡ 1 + (c.threads - 1)
  counted_one =
      let law = threads_counted bared whole a.made.threads threads_sound id.rep id.serial (bare_thread g) bare_is bare_calls alike a.places a.waits a.marks a.instance_queues a.behind a.kept c.number in
      let one : cond {A = ℕ} ((bare_thread g).thread.call == c.number) 1 0 ≡ 1 = ap (λ b. cond b 1 0) (eq-eqb g.thread.call c.number (sym of)) in
      let all : c.threads ≡ threads_of c.number (core_of bared) = each_there call_of_number call_machine bared.calls a.made.threads calls_sound task.rep task.serial (bare_call c) bare_is_c (IsCallKept (core_of bared)) whole.counted.calls in
      omega arith

  pub call_counted : 1 ≤ c.threads
  call_counted = let one = counted_one in omega arith

  pub thread_counted : 2 ≤ a.kept.used
  unfolding table_use
  thread_counted =
      let fewer = one_fewer number machine bared.threads a.made.threads threads_sound id.rep id.serial (bare_thread g) bare_is in
      let all = whole.counted.kept.used in
      omega arith

  -- and the table gives it up
  -- ---- Its chains and nodes

  bare_stands : (q : Placed (Single GuestThread)) × ((place_at bared.threads id.rep ≡ Some q) × ((q.serial ≡ id.serial) × (q.entry ≡ entry_of (bare_thread g))))
  bare_stands = item_stands number machine bared.threads a.made.threads threads_sound id.rep id.serial (bare_thread g) bare_is

  module _ (apart : IsApart (thread_of (seen a) id) (seen a).core) (rests : (place_of (thread_of (seen a) id) (seen a).core ≡ Some Place.Suspended) ⊎ (place_of (thread_of (seen a) id) (seen a).core ≡ Some Place.Running)) where
    named : g.number ≡ thread_of (seen a) id
    named = thread_named a id g is

    unqueued : (r : Row) → list_any (λ (q : Queued). is_entry_of g.number q.entry) (row bared r) ≡ false
    unfolding seen
    unqueued r = none_passes (λ (q : Queued). Unit {0}) (λ (q : Queued). q.entry) (λ (q : Queued). is_entry_of g.number q.entry) (is_entry_of g.number) (λ q known is. is) (row bared r) (all (row bared r)) (by r)
      where
        all : (qs : List Queued) → Each (λ (q : Queued). Unit {0}) qs
        all [] = tt
        all (q ∷ qs) = (tt, all qs)

        by : (r : Row) → list_any (is_entry_of g.number) (row_seen a r) ≡ false
        by High = no_entry g.number (row_seen a High) (ap (λ n. entries n (row_seen a High)) named ∙ apart.unqueued.high)
        by Low = no_entry g.number (row_seen a Low) (ap (λ n. entries n (row_seen a Low)) named ∙ apart.unqueued.low)

    not_behind : (n : ℕ) → list_any (λ (f : Follower). g.number == f.number) (callers_row bared n) ≡ false
    not_behind n = none_of g.number (callers_row bared n) (ap (times g.number) (sym (callers_row_of a n)) ∙ (ap (λ m. times m (callers_of n (seen a).core)) named ∙ apart.behind n))

    not_switch : (f : Follower) → a.switch ≡ Some f → (g.number == f.number) ≡ false
    unfolding seen
    not_switch f at = unlike (g.number == f.number) (sym (ap (λ o. switch_entries g.number (option_map (λ (x : Follower). x.number) o)) at) ∙ (ap (λ n. switch_entries n (seen a).core.queues.switch) named ∙ apart.switch))

    stands : (p : Place) → place_of (thread_of (seen a) id) (seen a).core ≡ Some p → g.thread.place ≡ p
    stands p at = same_Some g.thread.place p (ap (option_map (λ (t : Thread). t.place)) (thread_read a sound id g is) ∙ at)

    unkept : (x : ℕ) → keeps_set x (loose_thread g.thread) g.thread.place ≡ false
    unkept x = elim rests [
      | inl at ↦ ap (keeps_set x (loose_thread g.thread)) (stands Place.Suspended at)
      | inr at ↦ ap (keeps_set x (loose_thread g.thread)) (stands Place.Running at)
    ]

    pub under_live : IsSome (list_of a.places g.under)
    under_live = whole.chained.places.live (UnderOf g.number) g.under (kept_under number machine (λ (x : GuestThread). x.under) bared.threads a.made.threads threads_sound id.rep id.serial (bare_thread g) bare_is)

    pub node_made : is_made a.places g.node.index ≡ true
    node_made = subst (λ (e : Single GuestThread). is_made a.places e.item.node.index ≡ true) bare_stands.1.1.1 (whole.chained.places.made id.rep _ (filings_at (place_filing a.version) bared.threads id.rep (Some bare_stands.0) bare_stands.1.0))

    pub wait_made : IfSome g.wait (λ node. is_made a.waits node.index ≡ true)
    wait_made = by g.wait refl
      where
        was : Node → Filing ℕ OrderKey
        was node = record {
          node = node.index;
          key = waits_in bare_stands.0.entry.item.thread.place bare_stands.0.entry.item.thread.call;
          value = member_order_key bare_stands.0.entry.item.entry id.rep;
        }

        by : (w : Option Node) → g.wait ≡ w → IfSome w (λ node. is_made a.waits node.index ≡ true)
        by None none = tt
        by (Some node) some = whole.chained.waits.made id.rep (was node)
            (filings_at wait_filing bared.threads id.rep (Some bare_stands.0) bare_stands.1.0 ∙ ap (option_map was) (ap (λ (e : Single GuestThread). e.item.wait) bare_stands.1.1.1 ∙ some))

    pub callers_live : IsSome (list_of a.behind g.callers)
    callers_live = whole.chained.behind.live g.number g.callers (kept_under number machine (λ (x : GuestThread). x.callers) bared.threads a.made.threads threads_sound id.rep id.serial (bare_thread g) bare_is)

    pub caller_unlinked : IsLinks a.behind → is_free a.behind g.caller.index ≡ true
    caller_unlinked links = caller_free a sound (follower id.rep g) (follower_kept a sound id g is id.rep refl) (subst (λ n. IsBehindNobody n (seen a).core) (sym named) apart.behind) links

    pub mark_unlinked : IsLinks a.marks → is_free a.marks g.mark.index ≡ true
    mark_unlinked links = free_mark a sound id g is id.rep refl (thread_entry id.rep g) refl apart.unqueued links

    pub instance_queue_unlinked : IsLinks a.instance_queues → is_free a.instance_queues g.instance_queue.index ≡ true
    instance_queue_unlinked links = free_instance_queue a sound id g is id.rep refl (thread_entry id.rep g) refl apart.unqueued links

    -- ---- It is gone

    module _ (middle places : List (Spot OrderKey)) (shut : Closes a.places middle g.under) (node_out : Drops middle places g.node.index) (waits : List (Spot OrderKey)) (wait_out : DropsIf a.waits waits g.wait) (marks : List (Spot Queued)) (mark_out : Renames a.marks marks g.mark.index FreeNode Unmade) (instance_queues : List (Spot Queued)) (instance_queue_out : Renames a.instance_queues instance_queues g.instance_queue.index FreeNode Unmade) (middle_behind behind : List (Spot Follower)) (callers_shut : Closes a.behind middle_behind g.callers) (caller_out : Renames middle_behind behind g.caller.index FreeNode Unmade) where
      abbrev pub thread_removed : CoreParts
      thread_removed = record a { threads = deleted id.rep a.threads; calls = calls_less; places = places; waits = waits; marks = marks; instance_queues = instance_queues; behind = behind; kept = record a.kept { used = a.kept.used - 2 } }

      abbrev bare_kept : CachedCounts
      bare_kept = record a.kept { used = a.kept.used - 2; interesting = 0; moving = 0 }

      abbrev gone : CoreImage
      gone = less bared whole a.made.threads threads_sound id.rep id.serial (bare_thread g) bare_is bare_calls alike places waits marks instance_queues behind bare_kept

      bare_gone : bare (parts_of thread_removed) ≡ gone
      bare_gone = ap (λ (t : Table (Single GuestThread)). record gone { threads = t }) (mapped-deleted (on_item bare_thread) a.threads id.rep)

      counted : (k : ℕ) → threads_of k (core_of gone) + cond (g.thread.call == k) 1 0 ≡ threads_of k (core_of bared)
      counted = threads_counted bared whole a.made.threads threads_sound id.rep id.serial (bare_thread g) bare_is bare_calls alike places waits marks instance_queues behind bare_kept

      calls_kept : EachEntry (IsCallKept (core_of gone)) bare_calls
      calls_kept =
          subst (λ (t : Table (Single GuestTask)). EachEntry (IsCallKept (core_of gone)) t) (sym bare_calls_are)
          (each_rewritten call_of_number call_machine bared.calls a.made.threads calls_sound task.rep task.serial (bare_call c) bare_is_c (bare_call call_less) (IsCallKept (core_of bared)) (IsCallKept (core_of gone)) new others whole.counted.calls)
        where
          new : c.threads ≡ threads_of c.number (core_of bared) → c.threads - 1 ≡ threads_of c.number (core_of gone)
          new kept =
              let law = counted c.number in
              let one : cond {A = ℕ} (g.thread.call == c.number) 1 0 ≡ 1 = ap (λ b. cond b 1 0) (eq-eqb g.thread.call c.number (sym of)) in
              omega arith

          others : (x : GuestTask) → (x.number ≡ c.number → ⊥) → x.threads ≡ threads_of x.number (core_of bared) → x.threads ≡ threads_of x.number (core_of gone)
          others x differs kept =
              let law = counted x.number in
              let none : cond {A = ℕ} (g.thread.call == x.number) 1 0 ≡ 0 = ap (λ b. cond b 1 0) (ne_eqb g.thread.call x.number (λ same. differs (sym same ∙ sym of))) in
              omega arith

      gone_whole : IsWhole gone
      gone_whole =
          let all = thread_counted in
          less_whole bared whole a.made.threads threads_sound id.rep id.serial (bare_thread g) bare_is bare_calls alike places waits marks instance_queues behind bare_kept unqueued not_behind not_switch unkept middle shut node_out wait_out mark_out instance_queue_out middle_behind callers_shut caller_out (omega arith) refl refl calls_kept

      calls_map : records call_key calls_less.places ≡ records call_key a.calls.places
      unfolding IsSoundCore
      calls_map =
          let one = item_stands call_of_number call_machine a.calls a.made.threads sound.tables.calls task.rep task.serial c is_c in
          records_unseen call_key a.calls task.rep one.0 one.1.0 (entry_of call_less) (ap call_key (sym one.1.1.1))

      sound_without : IsTable (deleted id.rep a.threads) → IsSoundCore thread_removed
      unfolding IsSoundCore
      sound_without table = record {
        tables = record {
          threads = table_less number machine a.threads a.made.threads sound.tables.threads id.rep id.serial g is table;
          calls = table_written call_of_number call_machine a.calls a.made.threads sound.tables.calls task.rep task.serial c is_c call_less refl;
          works = sound.tables.works;
          sets = sound.tables.sets;
          groups = sound.tables.groups;
        };
        whole = subst IsWhole (sym bare_gone) gone_whole;
        interesting = sound.interesting ∙ ap (passing (λ (x : Call). x.interesting)) (sym calls_map);
        moving = sound.moving;
        handles = λ i r at. subst (λ (q : CoreImage). AreHandlesNamed (kinds q) r) (sym bare_gone) (handles_left (kinds bared) (kinds gone) (left bared whole a.made.threads threads_sound id.rep id.serial (bare_thread g) bare_is bare_calls alike places waits marks instance_queues behind bare_kept) r (sound.handles i r at));
        owned = each_left number machine a.threads a.made.threads sound.tables.threads id.rep id.serial g is (OwnsHandle (parts_of a)) sound.owned;
        live = sound.live;
        ended = sound.ended;
      }

      -- ---- What contracts see

      threads_map : records thread_key (deleted id.rep a.threads).places ≡ remove (records thread_key a.threads.places) (thread_of (seen a) id)
      unfolding IsSoundCore
      threads_map = records_less number machine a.threads a.made.threads sound.tables.threads id.rep id.serial g is ∙ ap (remove (records thread_key a.threads.places)) named

      abbrev numbers_in : List (Spot Follower) → ℕ → List ℕ
      numbers_in links k = numbers_of (values links k)

      callers_now : (m : ℕ) → option_map (numbers_in behind) (callers_chain gone m) ≡ cond (m == g.number) None (option_map (numbers_in a.behind) (callers_chain bared m))
      callers_now m = elim (cases_eq m g.number) [
        | inl same ↦ ap (option_map (numbers_in behind)) (ap (callers_chain gone) same ∙ found_gone number machine bared.threads a.made.threads threads_sound id.rep id.serial (bare_thread g) bare_is (λ (x : GuestThread). x.callers)) ∙ sym (ap (λ b. cond b None (option_map (numbers_in a.behind) (callers_chain bared m))) (eq-eqb m g.number same))
        | inr other ↦ by (callers_chain gone m) refl (found_still number machine bared.threads a.made.threads threads_sound id.rep id.serial (bare_thread g) bare_is (λ (x : GuestThread). x.callers) m other) ∙ sym (ap (λ b. cond b None (option_map (numbers_in a.behind) (callers_chain bared m))) (ne_eqb m g.number other))
      ]
        where
          by : (o : Option ℕ) → callers_chain gone m ≡ o → callers_chain gone m ≡ callers_chain bared m → option_map (numbers_in behind) (callers_chain gone m) ≡ option_map (numbers_in a.behind) (callers_chain bared m)
          by None at still = ap (option_map (numbers_in behind)) at ∙ ap (option_map (numbers_in a.behind)) (sym at ∙ still)
          by (Some k) at still =
              let row : callers_row gone m ≡ callers_row bared m = callers_left bared whole a.made.threads threads_sound id.rep id.serial (bare_thread g) bare_is bare_calls alike places waits marks instance_queues behind bare_kept unqueued not_behind not_switch unkept middle shut node_out wait_out mark_out instance_queue_out middle_behind callers_shut caller_out m k at in
              let same : values behind k ≡ values a.behind k = sym (ap (chained behind) at) ∙ (row ∙ ap (chained a.behind) (sym still ∙ at)) in
              ap (option_map (numbers_in behind)) at ∙ (ap (λ (l : List Follower). Some (numbers_of l)) same ∙ ap (option_map (numbers_in a.behind)) (sym at ∙ still))

      callers_map : records (callers_in behind) (deleted id.rep a.threads).places ≡ remove (records (callers_in a.behind) a.threads.places) (thread_of (seen a) id)
      callers_map = same_map _ _ (λ m.
          callers_get thread_removed behind m
          ∙ (ap (λ (q : CoreImage). option_map (numbers_in behind) (callers_chain q m)) bare_gone
          ∙ (callers_now m
          ∙ (ap₂ (λ (n : ℕ) (o : Option (List ℕ)). cond (m == n) None o) named (sym (callers_get a a.behind m))
          ∙ sym (get-remove (records (callers_in a.behind) a.threads.places) (thread_of (seen a) id) m)))))

      rule_same : (r : Row) → row gone r ≡ row bared r
      rule_same = row_left bared whole a.made.threads threads_sound id.rep id.serial (bare_thread g) bare_is bare_calls alike places waits marks instance_queues behind bare_kept unqueued not_behind not_switch unkept middle shut node_out wait_out mark_out instance_queue_out middle_behind callers_shut caller_out

      abbrev entries_of : List Queued → List Entry
      entries_of qs = map (λ (q : Queued). q.entry) qs

      abbrev with_maps : Records Thread → Records (List ℕ) → Records Call → List Queued → List Queued → Core
      with_maps ts ks cs high low = record (seen a).core { threads = ts; callers = ks; calls = cs; queues = record (seen a).core.queues { high = entries_of high; low = entries_of low } }

      core_without : (seen thread_removed).core ≡ remove_thread (thread_of (seen a) id) (seen a).core
      unfolding seen remove_thread
      core_without =
          ap₂ (λ ts ks. with_maps ts ks (records call_key calls_less.places) (chained marks a.high) (chained marks a.low)) threads_map callers_map
          ∙ (ap (λ cs. with_maps (remove (records thread_key a.threads.places) (thread_of (seen a) id)) (remove (records (callers_in a.behind) a.threads.places) (thread_of (seen a) id)) cs (chained marks a.high) (chained marks a.low)) calls_map
          ∙ ap₂ (with_maps (remove (records thread_key a.threads.places) (thread_of (seen a) id)) (remove (records (callers_in a.behind) a.threads.places) (thread_of (seen a) id)) (records call_key a.calls.places)) (rule_same High) (rule_same Low))

      call_seats_same : records call_seat_key calls_less.places ≡ records call_seat_key a.calls.places
      unfolding IsSoundCore
      call_seats_same =
          let one = item_stands call_of_number call_machine a.calls a.made.threads sound.tables.calls task.rep task.serial c is_c in
          records_unseen call_seat_key a.calls task.rep one.0 one.1.0 (entry_of call_less) (ap call_seat_key (sym one.1.1.1))

      tags_without : KeepsBut (lost_thread (thread_of (seen a) id)) (seen a).tags (seen thread_removed).tags
      unfolding seen IsSoundCore set_number work_number call_number
      tags_without = record {
        threads = λ t other. thread_shown thread_removed t ∙ (number_left number machine a.threads a.made.threads sound.tables.threads id.rep id.serial g is t.rep t.serial (λ same. other (thread_shown a t ∙ (same ∙ named))) ∙ sym (thread_shown a t));
        calls = λ k other. ap (λ (l : List (Option Tag)). named_by_tag k.serial (slice_get l k.rep)) (tags_written call_of_number call_machine a.calls a.made.threads sound.tables.calls task.rep task.serial c is_c call_less refl);
        sets = λ x other. refl;
        works = λ w other. refl;
        gone = λ t same. thread_shown thread_removed t ∙ number_gone number machine a.threads a.made.threads sound.tables.threads id.rep id.serial g is t.rep t.serial (sym (thread_shown a t) ∙ (same ∙ sym named));
        same = refl;
        wanted = refl;
        seats = record {
          threads = λ n live other. seats_less number machine thread_seated a.threads a.made.threads sound.tables.threads id.rep id.serial g is n (λ same. other (same ∙ named));
          calls = λ k live other. ap (λ m. get m k) call_seats_same;
          works = λ i live other. refl;
        };
      }

      module _ (threads : Table (Single GuestThread)) (are : threads ≡ deleted id.rep a.threads) where
        pub removed_sound : IsTable threads → IsSoundCore (record thread_removed { threads = threads })
        removed_sound table = subst (λ (t : Table (Single GuestThread)). IsSoundCore (record thread_removed { threads = t })) (sym are) (sound_without (subst (λ (t : Table (Single GuestThread)). IsTable t) are table))

        pub removed_core : (seen (record thread_removed { threads = threads })).core ≡ remove_thread (thread_of (seen a) id) (seen a).core
        removed_core = ap (λ (t : Table (Single GuestThread)). (seen (record thread_removed { threads = t })).core) are ∙ core_without

        pub removed_tags : KeepsBut (lost_thread (thread_of (seen a) id)) (seen a).tags (seen (record thread_removed { threads = threads })).tags
        removed_tags = subst (λ (t : Table (Single GuestThread)). KeepsBut (lost_thread (thread_of (seen a) id)) (seen a).tags (seen (record thread_removed { threads = t })).tags) (sym are) tags_without

-- ---- A thread that is there, at another place

module _ (a : CoreParts) (sound : IsSoundCore a) (id : TableId ThreadKey) (live : 0 < thread_of (seen a) id) where
  thread_there : (t : Thread) × (Some t ≡ get (seen a).core.threads (thread_of (seen a) id))
  thread_there = by (item_at item_of a.threads id.rep id.serial) refl
    where
      by : (o : Result GuestThread ResourceTableError) → o ≡ item_at item_of a.threads id.rep id.serial → (t : Thread) × (Some t ≡ get (seen a).core.threads (thread_of (seen a) id))
      by (Err why) is = absurd (let none = thread_unnamed a id why is in omega arith)
      by (Ok g) is = (g.thread, thread_read a sound id g is)

  pub placed_there : (p : Place) → place_of (thread_of (seen a) id) (set_place (thread_of (seen a) id) p (seen a).core) ≡ Some p
  unfolding set_place on_thread
  placed_there p = ap (option_map (λ (t : Thread). t.place)) (get-change_same (seen a).core.threads (thread_of (seen a) id) (λ t. record t { place = p }) ∙ ap (option_map (λ (t : Thread). record t { place = p })) (sym thread_there.1))

-- the place of a thread is no part of who has it in a list
pub apart_placed : (n m : ℕ) (p : Place) (s : Core) → IsApart n s → IsApart n (set_place m p s)
unfolding set_place on_thread
apart_placed n m p s apart = record { unqueued = record { high = apart.unqueued.high; low = apart.unqueued.low }; switch = apart.switch; behind = apart.behind }

pub removed_placed : (n : ℕ) (p : Place) (s : Core) → remove_thread n (set_place n p s) ≡ remove_thread n s
unfolding set_place on_thread remove_thread
removed_placed n p s = ap (λ (m : Records Thread). record s { threads = m; callers = remove s.callers n }) (remove-change_same s.threads n (λ t. record t { place = p }))
