-- Parts without one host work, which isn't live, has no entry and is in no set: they are whole.
use Rattle.core_records.proofs.Core.{ap, AreChained, AreCounted, arith, BlockedOn, Bool, calls_of, cases_eq, chained, cond, core_of, deleted, Each, EachEntry, Entry, entry_of, entry_keyed, eq-eqb, false, filings, filter, FreeNode, get, group_key, HasHome, HasNumber, HaveRowNodes, HeldIn, High, host_entry, inl, inr, is_host_call, is_in_set, is_live, is_of_group, is_of_instance, is_stage_live, IsCallNamed, IsGroupKept, IsOfThread, IsRows, IsRows-same, IsKeyed, IsWhole, IsWorkNamed, item_at, item_of, Join, kinds, length, List, list_any, live_chain, live_value, live_work, Low, nat_lt, None, Ok, one_if_passes, Option, part, CoreImage, passing, passing-with_at, place_at, place_chain, place_filing, Placed, push_entry, ready_in, ready_work, ready_work_chain, refl, remove, Renames, Row, row, row_chain, instance_queue_chain, Some, SoundTable, Spot, subst, Subtask, sym, Table, table_use, ThreadOf, UnderOf, Unmade, values_are, WaitsOn, Where, Work, work_key, ℕ, ◌+◌, ◌∙◌, ◌≡◌, ◌⊎◌, StartsIn}
use Rattle.core_records.specs.declared.{call_records.GuestTask.GuestTask, call_records.TaskGroup.TaskGroup, parts.CachedCounts.CachedCounts, single.Single.Single, thread_records.GuestThread.GuestThread, thread_records.Queued.Queued, work_records.WorkRecord.WorkRecord, work_records.LiveWork.LiveWork}
use Rattle.core_places.proofs.AlikeLemmas.{number_alike}
use Rattle.core_places.proofs.FiledLemmas.{kept_under}
use Rattle.core_places.specs.Moved.{Alike}
use Rattle.core_queues.proofs.ListLemmas.{none_in_part}
use Rattle.core_queues.proofs.RowLemmas.{IsRows-known}
use Rattle.core_queues.specs.OrderKeys.{is_entry_of_work}
use Rattle.core_removals.proofs.GoneLemmas.{Drops-renamed, Each-but, IsIndex-gone, IsIndex-shut, IsRows-dropped, Rises-renamed}
use Rattle.core_removals.proofs.GroupLemmas.{numbers_alike}
use Rattle.core_removals.proofs.LeftLemmas.{Leaves, named_left}
use Rattle.core_removals.proofs.LessLemmas.{found_gone, found_still, placed_before}
use Rattle.core_removals.proofs.OrderKeyGoneLemmas.{nodes_left, renamed_made, keyed_left}
use Rattle.core_removals.specs.Chains.{Closes, Drops}
use Rattle.core_removals.specs.Counted.{uncalled}
use Rattle.core_records.proofs.KindLemmas.{item_number, item_read, item_stands}
use Rattle.core_records.proofs.MakeLemmas.{records_less, stands_less}
use Rattle.table_lists.specs.declared.ordered_lists.OrderKey.{OrderKey}
use Rattle.core_records.specs.RecordPlaces.{member_order_key}

abbrev number : WorkRecord → ℕ
number w = w.number

abbrev machine : WorkRecord → Work
machine w = w.work

module _ (p : CoreImage) (whole : IsWhole p) (made : ℕ) (sound : SoundTable work_key p.works made) (rep serial : ℕ) (g : WorkRecord) (is : Ok g ≡ item_at item_of p.works rep serial) where
  stands : (q : Placed (Single WorkRecord)) × ((place_at p.works rep ≡ Some q) × ((q.serial ≡ serial) × (q.entry ≡ entry_of g)))
  stands = item_stands number machine p.works made sound rep serial g is

  before : (r : ℕ) (q : Placed (Single WorkRecord)) → place_at (deleted rep p.works) r ≡ Some q → place_at p.works r ≡ Some q
  before = placed_before number machine p.works made sound rep serial g is

  -- ---- The parts without it

  module _ (groups : Table (Single TaskGroup)) (alike : Alike uncalled groups p.groups) (places ready_works : List (Spot OrderKey)) (polled : List (Spot LiveWork)) (marks : List (Spot Queued)) (kept : CachedCounts) where
    abbrev pub less : CoreImage
    less = record p { works = deleted rep p.works; groups = groups; places = places; ready_works = ready_works; polled = polled; marks = marks; kept = kept }

    -- what is counted of its works
    one_less : (test : Work → Bool) → passing test (core_of less).works + one_if_passes test (Some g.work) ≡ passing test (core_of p).works
    one_less test =
        let law = passing-with_at test (core_of p).works g.number None in
        let map : passing test (core_of less).works ≡ passing test (remove (core_of p).works g.number) = ap (passing test) (records_less number machine p.works made sound rep serial g is) in
        let one : one_if_passes test (get (core_of p).works g.number) ≡ one_if_passes test (Some g.work) =
        ap (one_if_passes test) (sym (item_read number machine p.works made sound rep serial g is ∙ ap (get (core_of p).works) (item_number number machine p.works rep serial g is))) in
        omega arith

    pub works_counted : (n : ℕ) → calls_of n (core_of less) + cond (is_of_group n g.work) 1 0 ≡ calls_of n (core_of p)
    works_counted n = let law = one_less (is_of_group n) in omega arith

    pub left : Leaves (kinds p) (kinds less)
    left = record {
      threads = λ r n at. at;
      calls = λ r n at. at;
      works = stands_less number machine p.works made sound rep serial g is;
      sets = λ r n at. at;
      made = refl;
    }

    group_left : (r n : ℕ) → HasNumber group_key p.groups r n → HasNumber group_key groups r n
    group_left r n at = number_alike uncalled groups p.groups alike (λ (x : TaskGroup). x.number) (λ x. refl) (λ (x : TaskGroup). x.calls) (λ (k : ℕ). 0) (λ x. refl) r ∙ at

    home_left : (h : GuestThread) → HasHome p h → HasHome less h
    home_left h home = record { call = home.call; there = home.there; instance = home.instance; barred = home.barred; waits = home.waits; within = home.within; place = named_left (kinds p) (kinds less) left h.state_target _ home.place; op_progress = named_left (kinds p) (kinds less) left h.op_target _ home.op_progress }

    call_left : (x : GuestTask) → IsCallNamed p x → IsCallNamed less x
    call_left x named = record { caller = named_left (kinds p) (kinds less) left x.maker _ named.caller; first = named_left (kinds p) (kinds less) left x.first (ThreadOf x.number) named.first; join = named_left (kinds p) (kinds less) left x.joined _ named.join; group = group_left x.group x.call.group named.group; positive = named.positive; waits = named.waits }

    work_left : (w : WorkRecord) → IsWorkNamed p w → IsWorkNamed less w
    work_left w named = record { caller = named_left (kinds p) (kinds less) left w.maker _ named.caller; join = named_left (kinds p) (kinds less) left w.joined _ named.join; group = λ n at. let one = named.group n at in (group_left w.group n one.0, one.1) }

    entry_left : (q : Queued) → IsKeyed p q → is_entry_of_work g.number q.entry ≡ false → IsKeyed less q
    entry_left q is_q other = by q.entry refl is_q
      where
        by : (e : Entry) → q.entry ≡ e → entry_keyed p e q.place ≡ Some q → entry_keyed less e q.place ≡ Some q
        by (Entry.Thread n) e at = at
        by (Entry.Push i) e at = keyed_left number machine p.works made sound rep serial g is push_entry q.place q (λ same. absurd (let two = sym other ∙ (ap (λ (x : Queued). is_entry_of_work g.number x.entry) (sym same) ∙ eq-eqb g.number g.number refl) in cc)) at
        by (Entry.Host i) e at = keyed_left number machine p.works made sound rep serial g is host_entry q.place q (λ same. absurd (let two = sym other ∙ (ap (λ (x : Queued). is_entry_of_work g.number x.entry) (sym same) ∙ eq-eqb g.number g.number refl) in cc)) at

    -- ---- Keys

    blocked_is : place_chain p (BlockedOn (Subtask.Host g.number)) ≡ Some g.blocked
    blocked_is = kept_under number machine (λ (x : WorkRecord). x.blocked) p.works made sound rep serial g is

    place_else : (k : Where) → (k ≡ BlockedOn (Subtask.Host g.number)) ⊎ (place_chain less k ≡ place_chain p k)
    place_else (WaitsOn x) = inr refl
    place_else (StartsIn i) = inr refl
    place_else (HeldIn i) = inr refl
    place_else (UnderOf n) = inr refl
    place_else (BlockedOn (Subtask.Guest k)) = inr refl
    place_else (BlockedOn (Subtask.Host i)) = elim (cases_eq i g.number) [
      | inl same ↦ inl (ap (λ m. BlockedOn (Subtask.Host m)) same)
      | inr other ↦ inr (found_still number machine p.works made sound rep serial g is (λ (x : WorkRecord). x.blocked) i other)
    ]

    groups_same : (core_of less).groups ≡ (core_of p).groups
    groups_same = ap (filter (nat_lt p.finished)) (numbers_alike groups p.groups alike)

    module _ (unqueued : (r : Row) → list_any (λ (q : Queued). is_entry_of_work g.number q.entry) (row p r) ≡ false) (shut : Closes p.places places g.blocked) (ready_out : Drops p.ready_works ready_works g.ready.index) (live_out : Renames p.polled polled g.live.index FreeNode Unmade) (mark_out : Renames p.marks marks g.mark.index FreeNode Unmade) where
      marks_left : IsRows (row_chain p) (λ q. q.mark.index) (IsKeyed less) marks (row p)
      marks_left =
          let rows = IsRows-dropped (row_chain p) (λ q. q.mark.index) (IsKeyed p) p.marks (row p) whole.chained.marks marks g.mark.index mark_out in
          IsRows-known (row_chain p) (λ q. q.mark.index) (IsKeyed p) (IsKeyed less) marks (row p) rows (λ r c at. Each-but (IsKeyed p) (IsKeyed less) (λ (q : Queued). is_entry_of_work g.number q.entry) entry_left (row p r) (unqueued r) (rows.all_known r c at))

      row_at : (r : Row) (o : Option ℕ) → row_chain p r ≡ o → chained marks o ≡ row p r
      row_at r None at = sym (ap (chained p.marks) at)
      row_at r (Some c) at = values_are (row_chain p) (λ q. q.mark.index) (IsKeyed less) marks (row p) marks_left r c at

      pub row_left : (r : Row) → row less r ≡ row p r
      row_left High = row_at High p.high refl
      row_left Low = row_at Low p.low refl

      instance_queues_left : IsRows (instance_queue_chain p) (λ q. q.instance_queue.index) (IsKeyed less) p.instance_queues (part is_of_instance (row p))
      instance_queues_left = IsRows-known (instance_queue_chain p) (λ q. q.instance_queue.index) (IsKeyed p) (IsKeyed less) p.instance_queues (part is_of_instance (row p)) whole.chained.instance_queues
          (λ k c at. Each-but (IsKeyed p) (IsKeyed less) (λ (q : Queued). is_entry_of_work g.number q.entry) entry_left (filter (is_of_instance k.0) (row p k.1)) (none_in_part (is_of_instance k.0) (λ (q : Queued). is_entry_of_work g.number q.entry) (row p k.1) (unqueued k.1)) (whole.chained.instance_queues.all_known k c at))

      chained_left : AreChained less
      chained_left = record {
        places = IsIndex-shut (place_chain p) (place_chain less) p.places places (BlockedOn (Subtask.Host g.number)) g.blocked blocked_is (found_gone number machine p.works made sound rep serial g is (λ (x : WorkRecord). x.blocked)) place_else shut (filings (place_filing p.version) p.threads) whole.chained.places;
        waits = whole.chained.waits;
        ready_calls = whole.chained.ready_calls;
        ready_works = IsIndex-gone ready_work (ready_work_chain less) p.works rep stands.0 stands.1.0 (record { node = stands.0.entry.item.ready.index; key = ready_in stands.0.entry.item.work.event stands.0.entry.item.work.join; value = member_order_key stands.0.entry.item.entry rep }) refl p.ready_works ready_works
            (subst (λ (e : Single WorkRecord). Drops p.ready_works ready_works e.item.ready.index) (sym stands.1.1.1) ready_out) whole.chained.ready_works;
        polled = IsIndex-gone live_work (live_chain less) p.works rep stands.0 stands.1.0 (record { node = stands.0.entry.item.live.index; key = cond (is_stage_live stands.0.entry.item.work.stage) (Some tt) None; value = live_value rep stands.0.entry.item }) refl p.polled polled
            (subst (λ (e : Single WorkRecord). Drops p.polled polled e.item.live.index) (sym stands.1.1.1) (Drops-renamed p.polled polled g.live.index live_out)) whole.chained.polled;
        rising = Rises-renamed p.polled polled g.live.index live_out p.live whole.chained.rising;
        marks = IsRows-same (row_chain p) (λ q. q.mark.index) (IsKeyed less) marks (row p) marks_left (row less) (λ r c at. row_left r);
        instance_queues = IsRows-same (instance_queue_chain p) (λ q. q.instance_queue.index) (IsKeyed less) p.instance_queues (part is_of_instance (row p)) instance_queues_left (part is_of_instance (row less)) (λ k c at. ap (filter (is_of_instance k.0)) (row_left k.1));
        low = subst (Each IsOfThread) (sym (row_left Low)) whole.chained.low;
        behind = whole.chained.behind;
      }

      nodes_kept : HaveRowNodes less
      nodes_kept = record {
        marks = record { made = λ r q at. renamed_made p.marks marks g.mark.index mark_out q.entry.item.mark.index (λ same. whole.nodes.apart r rep q stands.0 at stands.1.0 (same ∙ sym (ap (λ (e : Single WorkRecord). e.item.mark.index) stands.1.1.1))) (whole.nodes.marks.made r q at); own = whole.nodes.marks.own };
        instance_queues = whole.nodes.instance_queues;
        callers = whole.nodes.callers;
        works = nodes_left number machine p.works made sound rep serial g is (λ (x : WorkRecord). x.mark.index) p.marks marks (renamed_made p.marks marks g.mark.index mark_out) whole.nodes.works;
        apart = λ r s q w at_q at_w same. whole.nodes.apart r s q w at_q (before s w at_w) same;
      }

      module _ (nowhere : g.work.join ≡ Join.Nowhere) (resting : is_live g.work ≡ false) (used : kept.used + cond (is_host_call g.work) 1 0 ≡ p.kept.used) (same_groups : kept.groups ≡ p.kept.groups) (live : kept.live ≡ p.kept.live) (groups_kept : EachEntry (IsGroupKept (core_of less)) groups) where
        counted_left : AreCounted less
        unfolding table_use
        counted_left = record {
          kept = record {
            used =
                let all = whole.counted.kept.used in
                let fewer = one_less is_host_call in
                let same : length (core_of less).groups ≡ length (core_of p).groups = ap length groups_same in
                omega arith;
            groups = same_groups ∙ (whole.counted.kept.groups ∙ ap length (sym groups_same));
            live =
                let all = whole.counted.kept.live in
                let law = one_less is_live in
                let none : one_if_passes is_live (Some g.work) ≡ 0 = ap (λ b. cond b 1 0) resting in
                omega arith;
          };
          calls = whole.counted.calls;
          sets = λ r q at.
              let one = whole.counted.sets r q at in
              record {
                members =
                    let law = one_less (λ w. is_in_set q.entry.item.number w.join) in
                    let none : one_if_passes (λ (w : Work). is_in_set q.entry.item.number w.join) (Some g.work) ≡ 0 = ap (λ j. cond (is_in_set q.entry.item.number j) 1 0) nowhere in
                    let old = one.members in
                    omega arith;
                entries = one.entries;
              };
          groups = groups_kept;
          few = whole.counted.few;
          finished = whole.counted.finished;
          high = whole.counted.high;
          low = whole.counted.low;
          works = λ r q at. whole.counted.works r q (before r q at);
          results = whole.counted.results;
        }

        pub less_whole : IsWhole less
        less_whole = record {
          named = record {
            threads = λ r q at. home_left q.entry.item (whole.named.threads r q at);
            calls = λ r q at. call_left q.entry.item (whole.named.calls r q at);
            works = λ r q at. work_left q.entry.item (whole.named.works r q (before r q at));
            switch = whole.named.switch;
          };
          chained = chained_left;
          nodes = nodes_kept;
          counted = counted_left;
        }
