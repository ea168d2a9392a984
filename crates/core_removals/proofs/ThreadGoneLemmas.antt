-- Parts without one thread, which is in no list: they are whole.
use Rattle.core_records.proofs.Core.{ap, AreChained, AreCounted, arith, BlockedOn, Bool, Call, call_instance, call_key, callers_chain, callers_row, cases_eq, chained, cond, core_of, deleted, Each, EachEntry, Entry, entry_of, entry_keyed, eq-eqb, false, filings, filter, follower, FreeNode, get, get-records, HasHome, HaveRowNodes, HeldIn, High, IfSome, inl, inr, is_entry_of, is_in_set, is_of_group, is_of_instance, IsCallKept, IsCallNamed, IsFollower, IsIndex-same, IsOfThread, IsRows, IsRows-same, IsKeyed, IsWhole, IsWorkNamed, item_at, item_of, keeps_set, kinds, List, list_any, Low, no_callee, None, Ok, one_if_passes, Option, option_map_or, part, CoreImage, passing, passing-with_at, place_at, place_chain, place_filing, Placed, ready_call, ready_call_chain, Records, refl, remove, Renames, Row, row, row_chain, same_map, instance_queue_chain, size, Some, SoundTable, Spot, subst, Subtask, sym, Table, table_use, Thread, thread_entry, thread_key, ThreadOf, threads_of, UnderOf, Unmade, values_are, WaitsOn, Where, where_at, Work, ℕ, ◌+◌, ◌==◌, ◌∙◌, ◌≡◌, ◌⊎◌, StartsIn, is_sync, not, ◌||◌, ExportKind, Filing, filings-deleted_here, filings-deleted_other, filings_at, IsIndex, IsIndex-same_chains, option_and_then, option_map, wait_chain, wait_filing, waits_in}
use Rattle.core_records.specs.declared.{call_records.GuestTask.GuestTask, parts.CachedCounts.CachedCounts, single.Single.Single, thread_records.Follower.Follower, thread_records.GuestThread.GuestThread, thread_records.Queued.Queued, work_records.WorkRecord.WorkRecord}
use Rattle.core_places.proofs.AlikeLemmas.{filings_alike, found_alike, number_alike, place_alike, stands_alike}
use Rattle.core_places.proofs.FiledLemmas.{kept_under}
use Rattle.core_places.specs.Moved.{Alike}
use Rattle.core_queues.proofs.ListLemmas.{none_in_part}
use Rattle.core_queues.proofs.RowLemmas.{IsRows-known}
use Rattle.core_removals.proofs.GoneLemmas.{Each-but, IsIndex-gone, IsIndex-shut, IsRows-dropped, IsRows-shut}
use Rattle.core_removals.proofs.LeftLemmas.{Leaves, named_left}
use Rattle.core_removals.proofs.LessLemmas.{found_gone, found_still, one_fewer, placed_before}
use Rattle.core_removals.proofs.OrderKeyGoneLemmas.{nodes_left, renamed_made, keyed_left}
use Rattle.core_removals.specs.Chains.{Closes, Drops, DropsIf}
use Rattle.core_removals.specs.Counted.{unthreaded}
use Rattle.core_records.proofs.KindLemmas.{item_number, item_read, item_stands}
use Rattle.core_records.proofs.MakeLemmas.{records_less, stands_less}
use Rattle.table_lists.specs.declared.ordered_lists.OrderKey.{OrderKey}
use Rattle.core_records.specs.RecordPlaces.{member_order_key, thread_order_key}
use Rattle.table_links.specs.declared.links.Node.{Node}
use Rattle.core_records.specs.Names.{keeps_waits}

abbrev number : GuestThread → ℕ
number g = g.number

abbrev machine : GuestThread → Thread
machine g = g.thread

module _ (p : CoreImage) (whole : IsWhole p) (made : ℕ) (sound : SoundTable thread_key p.threads made) (rep serial : ℕ) (g : GuestThread) (is : Ok g ≡ item_at item_of p.threads rep serial) where
  stands : (q : Placed (Single GuestThread)) × ((place_at p.threads rep ≡ Some q) × ((q.serial ≡ serial) × (q.entry ≡ entry_of g)))
  stands = item_stands number machine p.threads made sound rep serial g is

  before : (r : ℕ) (q : Placed (Single GuestThread)) → place_at (deleted rep p.threads) r ≡ Some q → place_at p.threads r ≡ Some q
  before = placed_before number machine p.threads made sound rep serial g is

  -- ---- The parts without it, with one thread less of its call

  module _ (calls : Table (Single GuestTask)) (alike : Alike unthreaded calls p.calls) (places waits : List (Spot OrderKey)) (marks instance_queues : List (Spot Queued)) (behind : List (Spot Follower)) (kept : CachedCounts) where
    abbrev pub less : CoreImage
    less = record p { threads = deleted rep p.threads; calls = calls; places = places; waits = waits; marks = marks; instance_queues = instance_queues; behind = behind; kept = kept }

    -- what is counted of its threads
    one_less : (test : Thread → Bool) → passing test (core_of less).threads + one_if_passes test (Some g.thread) ≡ passing test (core_of p).threads
    one_less test =
        let law = passing-with_at test (core_of p).threads g.number None in
        let map : passing test (core_of less).threads ≡ passing test (remove (core_of p).threads g.number) = ap (passing test) (records_less number machine p.threads made sound rep serial g is) in
        let one : one_if_passes test (get (core_of p).threads g.number) ≡ one_if_passes test (Some g.thread) =
        ap (one_if_passes test) (sym (item_read number machine p.threads made sound rep serial g is ∙ ap (get (core_of p).threads) (item_number number machine p.threads rep serial g is))) in
        omega arith

    pub threads_counted : (k : ℕ) → threads_of k (core_of less) + cond (g.thread.call == k) 1 0 ≡ threads_of k (core_of p)
    threads_counted k = one_less (λ t. t.call == k)

    calls_same : (core_of less).calls ≡ (core_of p).calls
    calls_same = same_map _ _ (λ n. get-records call_key calls.places n ∙ (found_alike unthreaded calls p.calls alike (λ (c : GuestTask). c.number) (λ c. refl) (λ (c : GuestTask). c.call) (λ c. refl) n ∙ sym (get-records call_key p.calls.places n)))

    pub left : Leaves (kinds p) (kinds less)
    left = record {
      threads = stands_less number machine p.threads made sound rep serial g is;
      calls = λ r n at. stands_alike unthreaded calls p.calls alike (λ (c : GuestTask). c.number) (λ c. refl) (λ (c : GuestTask). c.call) (λ (c : Call). c) (λ c. refl) r n at;
      works = λ r n at. at;
      sets = λ r n at. at;
      made = refl;
    }

    instance_same : (k : ℕ) → call_instance k (core_of less) ≡ call_instance k (core_of p)
    instance_same k = ap (λ (m : Records Call). (option_map_or (λ (c : Call). c.callee) (get m k) no_callee).instance) calls_same

    home_left : (h : GuestThread) → HasHome p h → HasHome less h
    home_left h home = record {
      call = number_alike unthreaded calls p.calls alike (λ (c : GuestTask). c.number) (λ c. refl) (λ (c : GuestTask). c.call) (λ (c : Call). c) (λ c. refl) h.task ∙ home.call;
      there = home.there;
      instance = instance_same h.thread.call ∙ home.instance;
      barred = ap (λ (m : Records Call). not (h.thread.explicit || is_sync (option_map_or (λ (d : Call). d.kind) (get m h.thread.call) ExportKind.Callback))) calls_same ∙ home.barred;
      waits = ap (λ (m : Records Call). keeps_waits p.version (option_map_or (λ (d : Call). d.kind) (get m h.thread.call) ExportKind.Callback)) calls_same ∙ home.waits;
      within = home.within;
      place = named_left (kinds p) (kinds less) left h.state_target _ home.place;
      op_progress = named_left (kinds p) (kinds less) left h.op_target _ home.op_progress;
    }

    call_left : (x y : GuestTask) → unthreaded x ≡ unthreaded y → IsCallNamed p x → IsCallNamed less y
    call_left x y same named =
        let bare : IsCallNamed less (unthreaded x) = record { caller = named_left (kinds p) (kinds less) left x.maker _ named.caller; first = named_left (kinds p) (kinds less) left x.first (ThreadOf x.number) named.first; join = named_left (kinds p) (kinds less) left x.joined _ named.join; group = named.group; positive = named.positive; waits = named.waits } in
        let one : IsCallNamed less (unthreaded y) = subst (IsCallNamed less) same bare in
        record { caller = one.caller; first = one.first; join = one.join; group = one.group; positive = one.positive; waits = one.waits }

    work_left : (w : WorkRecord) → IsWorkNamed p w → IsWorkNamed less w
    work_left w named = record { caller = named_left (kinds p) (kinds less) left w.maker _ named.caller; join = named_left (kinds p) (kinds less) left w.joined _ named.join; group = named.group }

    follows_left : (f : Follower) → IsFollower p f → (g.number == f.number) ≡ false → IsFollower less f
    follows_left f is_f other = keyed_left number machine p.threads made sound rep serial g is follower f.place f (λ same. absurd (let two = sym other ∙ eq-eqb g.number f.number (ap (λ (x : Follower). x.number) same) in cc)) is_f

    entry_left : (q : Queued) → IsKeyed p q → is_entry_of g.number q.entry ≡ false → IsKeyed less q
    entry_left q is_q other = by q.entry refl is_q
      where
        by : (e : Entry) → q.entry ≡ e → entry_keyed p e q.place ≡ Some q → entry_keyed less e q.place ≡ Some q
        by (Entry.Thread n) e at = keyed_left number machine p.threads made sound rep serial g is thread_entry q.place q (λ same. absurd (let two = sym other ∙ (ap (λ (x : Queued). is_entry_of g.number x.entry) (sym same) ∙ eq-eqb g.number g.number refl) in cc)) at
        by (Entry.Push i) e at = at
        by (Entry.Host i) e at = at

    -- ---- Keys

    under_is : place_chain p (UnderOf g.number) ≡ Some g.under
    under_is = kept_under number machine (λ (x : GuestThread). x.under) p.threads made sound rep serial g is

    callers_is : callers_chain p g.number ≡ Some g.callers
    callers_is = kept_under number machine (λ (x : GuestThread). x.callers) p.threads made sound rep serial g is

    place_else : (k : Where) → (k ≡ UnderOf g.number) ⊎ (place_chain less k ≡ place_chain p k)
    place_else (WaitsOn x) = inr refl
    place_else (StartsIn i) = inr refl
    place_else (HeldIn i) = inr refl
    place_else (UnderOf n) = elim (cases_eq n g.number) [
      | inl same ↦ inl (ap (λ m. UnderOf m) same)
      | inr other ↦ inr (found_still number machine p.threads made sound rep serial g is (λ (x : GuestThread). x.under) n other)
    ]
    place_else (BlockedOn (Subtask.Guest k)) = inr (found_alike unthreaded calls p.calls alike (λ (c : GuestTask). c.number) (λ c. refl) (λ (c : GuestTask). c.blocked) (λ c. refl) k)
    place_else (BlockedOn (Subtask.Host i)) = inr refl

    callers_else : (n : ℕ) → (n ≡ g.number) ⊎ (callers_chain less n ≡ callers_chain p n)
    callers_else n = elim (cases_eq n g.number) [
      | inl same ↦ inl same
      | inr other ↦ inr (found_still number machine p.threads made sound rep serial g is (λ (x : GuestThread). x.callers) n other)
    ]

    module _ (unqueued : (r : Row) → list_any (λ (q : Queued). is_entry_of g.number q.entry) (row p r) ≡ false) (not_behind : (n : ℕ) → list_any (λ (f : Follower). g.number == f.number) (callers_row p n) ≡ false) (not_switch : (f : Follower) → p.switch ≡ Some f → (g.number == f.number) ≡ false) (unkept : (x : ℕ) → keeps_set x g.thread g.thread.place ≡ false) where
      module _ (middle : List (Spot OrderKey)) (shut : Closes p.places middle g.under) (node_out : Drops middle places g.node.index) (wait_out : DropsIf p.waits waits g.wait) (mark_out : Renames p.marks marks g.mark.index FreeNode Unmade) (instance_queue_out : Renames p.instance_queues instance_queues g.instance_queue.index FreeNode Unmade) (middle_behind : List (Spot Follower)) (callers_shut : Closes p.behind middle_behind g.callers) (caller_out : Renames middle_behind behind g.caller.index FreeNode Unmade) where
        marks_left : IsRows (row_chain p) (λ q. q.mark.index) (IsKeyed less) marks (row p)
        marks_left =
            let rows = IsRows-dropped (row_chain p) (λ q. q.mark.index) (IsKeyed p) p.marks (row p) whole.chained.marks marks g.mark.index mark_out in
            IsRows-known (row_chain p) (λ q. q.mark.index) (IsKeyed p) (IsKeyed less) marks (row p) rows (λ r c at. Each-but (IsKeyed p) (IsKeyed less) (λ (q : Queued). is_entry_of g.number q.entry) entry_left (row p r) (unqueued r) (rows.all_known r c at))

        row_at : (r : Row) (o : Option ℕ) → row_chain p r ≡ o → chained marks o ≡ row p r
        row_at r None at = sym (ap (chained p.marks) at)
        row_at r (Some c) at = values_are (row_chain p) (λ q. q.mark.index) (IsKeyed less) marks (row p) marks_left r c at

        pub row_left : (r : Row) → row less r ≡ row p r
        row_left High = row_at High p.high refl
        row_left Low = row_at Low p.low refl

        instance_queues_left : IsRows (instance_queue_chain p) (λ q. q.instance_queue.index) (IsKeyed less) instance_queues (part is_of_instance (row p))
        instance_queues_left =
            let rows = IsRows-dropped (instance_queue_chain p) (λ q. q.instance_queue.index) (IsKeyed p) p.instance_queues (part is_of_instance (row p)) whole.chained.instance_queues instance_queues g.instance_queue.index instance_queue_out in
            IsRows-known (instance_queue_chain p) (λ q. q.instance_queue.index) (IsKeyed p) (IsKeyed less) instance_queues (part is_of_instance (row p)) rows
            (λ k c at. Each-but (IsKeyed p) (IsKeyed less) (λ (q : Queued). is_entry_of g.number q.entry) entry_left (filter (is_of_instance k.0) (row p k.1)) (none_in_part (is_of_instance k.0) (λ (q : Queued). is_entry_of g.number q.entry) (row p k.1) (unqueued k.1)) (rows.all_known k c at))

        behind_left : IsRows (callers_chain less) (λ f. f.node.index) (IsFollower less) behind (callers_row p)
        behind_left =
            let shut_rows = IsRows-shut (callers_chain p) (callers_chain less) p.behind middle_behind g.number g.callers callers_is (found_gone number machine p.threads made sound rep serial g is (λ (x : GuestThread). x.callers)) callers_else callers_shut (λ f. f.node.index) (IsFollower p) (callers_row p) whole.chained.behind in
            let rows = IsRows-dropped (callers_chain less) (λ f. f.node.index) (IsFollower p) middle_behind (callers_row p) shut_rows behind g.caller.index caller_out in
            IsRows-known (callers_chain less) (λ f. f.node.index) (IsFollower p) (IsFollower less) behind (callers_row p) rows (λ n c at. Each-but (IsFollower p) (IsFollower less) (λ (f : Follower). g.number == f.number) follows_left (callers_row p n) (not_behind n) (rows.all_known n c at))

        pub callers_left : (n c : ℕ) → callers_chain less n ≡ Some c → callers_row less n ≡ callers_row p n
        callers_left n c at = ap (chained behind) at ∙ values_are (callers_chain less) (λ f. f.node.index) (IsFollower less) behind (callers_row p) behind_left n c at

        waits_same : (k : ℕ) → wait_chain less k ≡ wait_chain p k
        waits_same k = ap (option_and_then (λ c. c)) (found_alike unthreaded calls p.calls alike (λ (c : GuestTask). c.number) (λ c. refl) (λ (c : GuestTask). c.waits) (λ c. refl) k)

        abbrev wait_was : Node → Filing ℕ OrderKey
        wait_was node = record {
          node = node.index;
          key = waits_in stands.0.entry.item.thread.place stands.0.entry.item.thread.call;
          value = member_order_key stands.0.entry.item.entry rep;
        }

        said_wait : (w : Option Node) → g.wait ≡ w → wait_filing rep stands.0.serial stands.0.entry ≡ option_map wait_was w
        said_wait w at = ap (option_map wait_was) (ap (λ (e : Single GuestThread). e.item.wait) stands.1.1.1 ∙ at)

        waits_kept : IsIndex (wait_chain p) waits (filings wait_filing (deleted rep p.threads))
        waits_kept = by g.wait refl
          where
            by : (w : Option Node) → g.wait ≡ w → IsIndex (wait_chain p) waits (filings wait_filing (deleted rep p.threads))
            by None none =
                let same : waits ≡ p.waits = subst (DropsIf p.waits waits) none wait_out in
                subst (λ (ws : List (Spot OrderKey)). IsIndex (wait_chain p) ws (filings wait_filing (deleted rep p.threads))) (sym same)
                (IsIndex-same (wait_chain p) p.waits (filings wait_filing p.threads) whole.chained.waits (filings wait_filing (deleted rep p.threads)) (λ r. elim (cases_eq r rep) [
                  | inl here ↦ ap (filings wait_filing (deleted rep p.threads)) here ∙ (filings-deleted_here wait_filing p.threads rep ∙ sym (ap (filings wait_filing p.threads) here ∙ (filings_at wait_filing p.threads rep (Some stands.0) stands.1.0 ∙ said_wait None none)))
                  | inr other ↦ filings-deleted_other wait_filing p.threads rep r other
                ]))
            by (Some node) some = IsIndex-gone wait_filing (wait_chain p) p.threads rep stands.0 stands.1.0 (wait_was node) (said_wait (Some node) some) p.waits waits (subst (DropsIf p.waits waits) some wait_out) whole.chained.waits

        chained_left : AreChained less
        chained_left = record {
          places = IsIndex-gone (place_filing p.version) (place_chain less) p.threads rep stands.0 stands.1.0 (record { node = stands.0.entry.item.node.index; key = where_at stands.0.entry.item.instance stands.0.entry.item.barred stands.0.entry.item.thread.place; value = thread_order_key p.version rep stands.0.entry.item }) refl middle places
              (subst (λ (e : Single GuestThread). Drops middle places e.item.node.index) (sym stands.1.1.1) node_out)
              (IsIndex-shut (place_chain p) (place_chain less) p.places middle (UnderOf g.number) g.under under_is (found_gone number machine p.threads made sound rep serial g is (λ (x : GuestThread). x.under)) place_else shut (filings (place_filing p.version) p.threads) whole.chained.places);
          waits = IsIndex-same_chains (wait_chain p) waits (filings wait_filing (deleted rep p.threads)) waits_kept (wait_chain less) waits_same;
          ready_calls = IsIndex-same (ready_call_chain p) p.ready_calls _ whole.chained.ready_calls (filings ready_call calls) (filings_alike unthreaded ready_call (λ r s x. refl) calls p.calls alike);
          ready_works = whole.chained.ready_works;
          polled = whole.chained.polled;
          rising = whole.chained.rising;
          marks = IsRows-same (row_chain p) (λ q. q.mark.index) (IsKeyed less) marks (row p) marks_left (row less) (λ r c at. row_left r);
          instance_queues = IsRows-same (instance_queue_chain p) (λ q. q.instance_queue.index) (IsKeyed less) instance_queues (part is_of_instance (row p)) instance_queues_left (part is_of_instance (row less)) (λ k c at. ap (filter (is_of_instance k.0)) (row_left k.1));
          low = subst (Each IsOfThread) (sym (row_left Low)) whole.chained.low;
          behind = IsRows-same (callers_chain less) (λ f. f.node.index) (IsFollower less) behind (callers_row p) behind_left (callers_row less) callers_left;
        }

        not_mark : (r : ℕ) (w : Placed (Single WorkRecord)) → place_at p.works r ≡ Some w → w.entry.item.mark.index ≡ g.mark.index → ⊥
        not_mark r w at same = whole.nodes.apart rep r stands.0 w stands.1.0 at (ap (λ (e : Single GuestThread). e.item.mark.index) stands.1.1.1 ∙ sym same)

        nodes_kept : HaveRowNodes less
        nodes_kept = record {
          marks = nodes_left number machine p.threads made sound rep serial g is (λ (x : GuestThread). x.mark.index) p.marks marks (renamed_made p.marks marks g.mark.index mark_out) whole.nodes.marks;
          instance_queues = nodes_left number machine p.threads made sound rep serial g is (λ (x : GuestThread). x.instance_queue.index) p.instance_queues instance_queues (renamed_made p.instance_queues instance_queues g.instance_queue.index instance_queue_out) whole.nodes.instance_queues;
          callers = nodes_left number machine p.threads made sound rep serial g is (λ (x : GuestThread). x.caller.index) p.behind behind (λ n other made. renamed_made middle_behind behind g.caller.index caller_out n other (callers_shut.made n made)) whole.nodes.callers;
          works = record { made = λ r w at. renamed_made p.marks marks g.mark.index mark_out w.entry.item.mark.index (not_mark r w at) (whole.nodes.works.made r w at); own = whole.nodes.works.own };
          apart = λ r s q w at_q at_w same. whole.nodes.apart r s q w (before r q at_q) at_w same;
        }

        switch_left : IfSome p.switch (IsFollower less)
        switch_left = by p.switch refl whole.named.switch
          where
            by : (o : Option Follower) → p.switch ≡ o → IfSome o (IsFollower p) → IfSome o (IsFollower less)
            by None at is_f = tt
            by (Some f) at is_f = follows_left f is_f (not_switch f at)

        module _ (used : kept.used + 2 ≡ p.kept.used) (groups : kept.groups ≡ p.kept.groups) (live : kept.live ≡ p.kept.live) (calls_kept : EachEntry (IsCallKept (core_of less)) calls) where
          counted_left : AreCounted less
          unfolding table_use
          counted_left = record {
            kept = record {
              used =
                  let all = whole.counted.kept.used in
                  let fewer = one_fewer number machine p.threads made sound rep serial g is in
                  let same : size (core_of less).calls ≡ size (core_of p).calls = ap size calls_same in
                  omega arith;
              groups = groups ∙ whole.counted.kept.groups;
              live = live ∙ whole.counted.kept.live;
            };
            calls = calls_kept;
            sets = λ r q at.
                let one = whole.counted.sets r q at in
                record {
                  members = one.members ∙ ap (λ (m : Records Call). passing (λ c. is_in_set q.entry.item.number c.join) m + passing (λ (w : Work). is_in_set q.entry.item.number w.join) (core_of p).works) (sym calls_same);
                  entries =
                      let law = one_less (λ t. keeps_set q.entry.item.number t t.place) in
                      let none : one_if_passes (λ (t : Thread). keeps_set q.entry.item.number t t.place) (Some g.thread) ≡ 0 = ap (λ b. cond b 1 0) (unkept q.entry.item.number) in
                      let old = one.entries in
                      omega arith;
                };
            groups = λ r q at. whole.counted.groups r q at ∙ ap (λ (m : Records Call). passing (λ c. c.group == q.entry.item.number) m + passing (is_of_group q.entry.item.number) (core_of p).works) (sym calls_same);
            few = whole.counted.few;
            finished = whole.counted.finished;
            high = whole.counted.high;
            low = whole.counted.low;
            works = whole.counted.works;
            results = λ k c at. whole.counted.results k c (ap (λ (m : Records Call). get m k) (sym calls_same) ∙ at);
          }

          pub less_whole : IsWhole less
          less_whole = record {
            named = record {
              threads = λ r q at. home_left q.entry.item (whole.named.threads r q (before r q at));
              calls = λ r q at. let one = place_alike unthreaded calls p.calls alike r q at in call_left one.0.entry.item q.entry.item one.1.1 (whole.named.calls r one.0 one.1.0);
              works = λ r q at. work_left q.entry.item (whole.named.works r q at);
              switch = switch_left;
            };
            chained = chained_left;
            nodes = nodes_kept;
            counted = counted_left;
          }
