-- Parts without one call, of which no thread is left and which is in no set: they are whole.
use Rattle.core_records.proofs.Core.{ap, AreChained, AreCounted, arith, BlockedOn, Bool, Call, call_key, calls_of, cases_eq, cond, core_of, deleted, EachEntry, entry_of, false, filings, filter, get, get-remove, group_key, HasHome, HasNumber, HeldIn, inl, inr, is_in_set, IsCallNamed, IsGroupKept, IsWhole, IsWorkNamed, item_at, item_of, Join, key_in, kinds, length, List, nat_lt, ne_eqb, no_callee, None, number_in, Ok, one_if_passes, option_map_or, CoreImage, passing, passing-with_at, place_at, place_at-deleted, place_chain, place_filing, Placed, ready_call, ready_call_chain, ready_in, record_at, Records, refl, remove, Some, SoundTable, Spot, subst, Subtask, sym, Table, table_use, ThreadOf, true, UnderOf, WaitsOn, Where, ℕ, ◌+◌, ◌==◌, ◌∙◌, ◌≡◌, ◌⊎◌, StartsIn, is_sync, not, ◌||◌, ExportKind, Option, IsIndex, IsIndex-same_chains, option_and_then, wait_chain, wait_filing}
use Rattle.core_records.specs.declared.{call_records.GuestTask.GuestTask, call_records.TaskGroup.TaskGroup, parts.CachedCounts.CachedCounts, single.Single.Single, thread_records.GuestThread.GuestThread, work_records.WorkRecord.WorkRecord}
use Rattle.core_places.proofs.AlikeLemmas.{number_alike}
use Rattle.core_places.proofs.FiledLemmas.{kept_under}
use Rattle.core_places.specs.Moved.{Alike}
use Rattle.core_removals.proofs.GoneLemmas.{IsIndex-gone, IsIndex-shut}
use Rattle.core_removals.proofs.GroupLemmas.{numbers_alike}
use Rattle.core_removals.proofs.LeftLemmas.{Leaves, named_left}
use Rattle.core_removals.proofs.LessLemmas.{found_gone, found_still, one_fewer, placed_before}
use Rattle.core_removals.specs.Chains.{Closes, ClosesIf, Drops}
use Rattle.core_removals.specs.Counted.{uncalled}
use Rattle.core_records.proofs.KindLemmas.{absent, item_number, item_read, item_stands}
use Rattle.core_records.proofs.MakeLemmas.{records_less, stands_less}
use Rattle.table_lists.specs.declared.ordered_lists.OrderKey.{OrderKey}
use Rattle.core_records.specs.RecordPlaces.{member_order_key}
use Rattle.core_records.specs.Names.{keeps_waits}

abbrev number : GuestTask → ℕ
number g = g.number

abbrev machine : GuestTask → Call
machine g = g.call

module _ (p : CoreImage) (whole : IsWhole p) (made : ℕ) (sound : SoundTable call_key p.calls made) (rep serial : ℕ) (g : GuestTask) (is : Ok g ≡ item_at item_of p.calls rep serial) where
  stands : (q : Placed (Single GuestTask)) × ((place_at p.calls rep ≡ Some q) × ((q.serial ≡ serial) × (q.entry ≡ entry_of g)))
  stands = item_stands number machine p.calls made sound rep serial g is

  before : (r : ℕ) (q : Placed (Single GuestTask)) → place_at (deleted rep p.calls) r ≡ Some q → place_at p.calls r ≡ Some q
  before = placed_before number machine p.calls made sound rep serial g is

  -- ---- The parts without it, with one call less of its group

  module _ (groups : Table (Single TaskGroup)) (alike : Alike uncalled groups p.groups) (places ready_calls waits : List (Spot OrderKey)) (kept : CachedCounts) where
    abbrev pub less : CoreImage
    less = record p { calls = deleted rep p.calls; groups = groups; places = places; ready_calls = ready_calls; waits = waits; kept = kept }

    calls_less : (core_of less).calls ≡ remove (core_of p).calls g.number
    calls_less = records_less number machine p.calls made sound rep serial g is

    -- what is counted of its calls
    one_less : (test : Call → Bool) → passing test (core_of less).calls + one_if_passes test (Some g.call) ≡ passing test (core_of p).calls
    one_less test =
        let law = passing-with_at test (core_of p).calls g.number None in
        let map : passing test (core_of less).calls ≡ passing test (remove (core_of p).calls g.number) = ap (passing test) calls_less in
        let one : one_if_passes test (get (core_of p).calls g.number) ≡ one_if_passes test (Some g.call) =
        ap (one_if_passes test) (sym (item_read number machine p.calls made sound rep serial g is ∙ ap (get (core_of p).calls) (item_number number machine p.calls rep serial g is))) in
        omega arith

    pub calls_counted : (n : ℕ) → calls_of n (core_of less) + cond (g.call.group == n) 1 0 ≡ calls_of n (core_of p)
    calls_counted n = let law = one_less (λ c. c.group == n) in omega arith

    pub left : Leaves (kinds p) (kinds less)
    left = record {
      threads = λ r n at. at;
      calls = stands_less number machine p.calls made sound rep serial g is;
      works = λ r n at. at;
      sets = λ r n at. at;
      made = refl;
    }

    group_left : (r n : ℕ) → HasNumber group_key p.groups r n → HasNumber group_key groups r n
    group_left r n at = number_alike uncalled groups p.groups alike (λ (x : TaskGroup). x.number) (λ x. refl) (λ (x : TaskGroup). x.calls) (λ (k : ℕ). 0) (λ x. refl) r ∙ at

    call_left : (x : GuestTask) → IsCallNamed p x → IsCallNamed less x
    call_left x named = record { caller = named_left (kinds p) (kinds less) left x.maker _ named.caller; first = named_left (kinds p) (kinds less) left x.first (ThreadOf x.number) named.first; join = named_left (kinds p) (kinds less) left x.joined _ named.join; group = group_left x.group x.call.group named.group; positive = named.positive; waits = named.waits }

    work_left : (w : WorkRecord) → IsWorkNamed p w → IsWorkNamed less w
    work_left w named = record { caller = named_left (kinds p) (kinds less) left w.maker _ named.caller; join = named_left (kinds p) (kinds less) left w.joined _ named.join; group = λ n at. let one = named.group n at in (group_left w.group n one.0, one.1) }

    -- another call is there still
    get_other : (k : ℕ) → (k ≡ g.number → ⊥) → get (core_of less).calls k ≡ get (core_of p).calls k
    get_other k other = ap (λ (m : Records Call). get m k) calls_less ∙ (get-remove (core_of p).calls g.number k ∙ ap (λ b. cond b None (get (core_of p).calls k)) (ne_eqb k g.number other))

    at_other : (r k : ℕ) → (k ≡ g.number → ⊥) → HasNumber call_key p.calls r k → HasNumber call_key (deleted rep p.calls) r k
    at_other r k other at = elim (cases_eq r rep) [
      | inl same ↦ absurd (other (sym at ∙ (ap (λ s. number_in (record_at call_key p.calls.places s)) same ∙ (ap (λ o. number_in (key_in call_key o)) stands.1.0 ∙ ap (λ (e : Single GuestTask). e.item.number) stands.1.1.1))))
      | inr apart ↦ ap (λ o. number_in (key_in call_key o)) (place_at-deleted p.calls rep r ∙ ap (λ b. cond b None (place_at p.calls r)) (ne_eqb r rep apart)) ∙ at
    ]

    home_left : (h : GuestThread) → (h.thread.call ≡ g.number → ⊥) → HasHome p h → HasHome less h
    home_left h other home = record {
      call = at_other h.task h.thread.call other home.call;
      there = home.there;
      instance = ap (λ o. (option_map_or (λ (c : Call). c.callee) o no_callee).instance) (get_other h.thread.call other) ∙ home.instance;
      barred = ap (λ (o : Option Call). not (h.thread.explicit || is_sync (option_map_or (λ (d : Call). d.kind) o ExportKind.Callback))) (get_other h.thread.call other) ∙ home.barred;
      waits = ap (λ (o : Option Call). keeps_waits p.version (option_map_or (λ (d : Call). d.kind) o ExportKind.Callback)) (get_other h.thread.call other) ∙ home.waits;
      within = home.within;
      place = named_left (kinds p) (kinds less) left h.state_target _ home.place;
      op_progress = named_left (kinds p) (kinds less) left h.op_target _ home.op_progress;
    }

    blocked_is : place_chain p (BlockedOn (Subtask.Guest g.number)) ≡ Some g.blocked
    blocked_is = kept_under number machine (λ (x : GuestTask). x.blocked) p.calls made sound rep serial g is

    place_else : (k : Where) → (k ≡ BlockedOn (Subtask.Guest g.number)) ⊎ (place_chain less k ≡ place_chain p k)
    place_else (WaitsOn x) = inr refl
    place_else (StartsIn i) = inr refl
    place_else (HeldIn i) = inr refl
    place_else (UnderOf n) = inr refl
    place_else (BlockedOn (Subtask.Guest k)) = elim (cases_eq k g.number) [
      | inl same ↦ inl (ap (λ m. BlockedOn (Subtask.Guest m)) same)
      | inr other ↦ inr (found_still number machine p.calls made sound rep serial g is (λ (x : GuestTask). x.blocked) k other)
    ]
    place_else (BlockedOn (Subtask.Host i)) = inr refl

    -- its own threads that wait
    waits_are : wait_chain p g.number ≡ g.waits
    waits_are = ap (option_and_then (λ c. c)) (kept_under number machine (λ (x : GuestTask). x.waits) p.calls made sound rep serial g is)

    no_waits : wait_chain less g.number ≡ None
    no_waits = ap (option_and_then (λ c. c)) (found_gone number machine p.calls made sound rep serial g is (λ (x : GuestTask). x.waits))

    waits_else : (k : ℕ) → (k ≡ g.number) ⊎ (wait_chain less k ≡ wait_chain p k)
    waits_else k = elim (cases_eq k g.number) [
      | inl same ↦ inl same
      | inr other ↦ inr (ap (option_and_then (λ c. c)) (found_still number machine p.calls made sound rep serial g is (λ (x : GuestTask). x.waits) k other))
    ]

    waits_left : ClosesIf p.waits waits g.waits → IsIndex (wait_chain less) waits (filings wait_filing p.threads)
    waits_left closes = by g.waits refl
      where
        by : (o : Option ℕ) → g.waits ≡ o → IsIndex (wait_chain less) waits (filings wait_filing p.threads)
        by None none =
            let same : waits ≡ p.waits = subst (ClosesIf p.waits waits) none closes in
            subst (λ (ws : List (Spot OrderKey)). IsIndex (wait_chain less) ws (filings wait_filing p.threads)) (sym same)
            (IsIndex-same_chains (wait_chain p) p.waits (filings wait_filing p.threads) whole.chained.waits (wait_chain less) (λ k. elim (waits_else k) [
              | inl here ↦ ap (wait_chain less) here ∙ no_waits ∙ sym (ap (wait_chain p) here ∙ waits_are ∙ none)
              | inr still ↦ still
            ]))
        by (Some c) some = IsIndex-shut (wait_chain p) (wait_chain less) p.waits waits g.number c (waits_are ∙ some) no_waits waits_else (subst (ClosesIf p.waits waits) some closes) (filings wait_filing p.threads) whole.chained.waits

    groups_same : (core_of less).groups ≡ (core_of p).groups
    groups_same = ap (filter (nat_lt p.finished)) (numbers_alike groups p.groups alike)

    module _ (nowhere : g.call.join ≡ Join.Nowhere) (each_apart : EachEntry (λ (h : GuestThread). h.thread.call ≡ g.number → ⊥) p.threads) (shut : Closes p.places places g.blocked) (ready_out : Drops p.ready_calls ready_calls g.ready.index) (waits_out : ClosesIf p.waits waits g.waits) (used : kept.used + 1 ≡ p.kept.used) (same_groups : kept.groups ≡ p.kept.groups) (live : kept.live ≡ p.kept.live) (groups_kept : EachEntry (IsGroupKept (core_of less)) groups) where
      chained_left : AreChained less
      chained_left = record {
        places = IsIndex-shut (place_chain p) (place_chain less) p.places places (BlockedOn (Subtask.Guest g.number)) g.blocked blocked_is (found_gone number machine p.calls made sound rep serial g is (λ (x : GuestTask). x.blocked)) place_else shut (filings (place_filing p.version) p.threads) whole.chained.places;
        waits = waits_left waits_out;
        ready_calls = IsIndex-gone ready_call (ready_call_chain less) p.calls rep stands.0 stands.1.0 (record { node = stands.0.entry.item.ready.index; key = ready_in stands.0.entry.item.call.event stands.0.entry.item.call.join; value = member_order_key stands.0.entry.item.entry rep }) refl p.ready_calls ready_calls
            (subst (λ (e : Single GuestTask). Drops p.ready_calls ready_calls e.item.ready.index) (sym stands.1.1.1) ready_out) whole.chained.ready_calls;
        ready_works = whole.chained.ready_works;
        polled = whole.chained.polled;
        rising = whole.chained.rising;
        marks = whole.chained.marks;
        instance_queues = whole.chained.instance_queues;
        low = whole.chained.low;
        behind = whole.chained.behind;
      }

      found_before : (k : ℕ) (c : Call) → get (core_of less).calls k ≡ Some c → get (core_of p).calls k ≡ Some c
      found_before k c at = by (k == g.number) (sym (ap (λ (m : Records Call). get m k) calls_less ∙ get-remove (core_of p).calls g.number k) ∙ at)
        where
          by : (b : Bool) → cond b None (get (core_of p).calls k) ≡ Some c → get (core_of p).calls k ≡ Some c
          by true none = absent c none
          by false some = some

      counted_left : AreCounted less
      unfolding table_use
      counted_left = record {
        kept = record {
          used =
              let all = whole.counted.kept.used in
              let fewer = one_fewer number machine p.calls made sound rep serial g is in
              let same : length (core_of less).groups ≡ length (core_of p).groups = ap length groups_same in
              omega arith;
          groups = same_groups ∙ (whole.counted.kept.groups ∙ ap length (sym groups_same));
          live = live ∙ whole.counted.kept.live;
        };
        calls = λ r q at. whole.counted.calls r q (before r q at);
        sets = λ r q at.
            let one = whole.counted.sets r q at in
            record {
              members =
                  let law = one_less (λ c. is_in_set q.entry.item.number c.join) in
                  let none : one_if_passes (λ (c : Call). is_in_set q.entry.item.number c.join) (Some g.call) ≡ 0 = ap (λ j. cond (is_in_set q.entry.item.number j) 1 0) nowhere in
                  let old = one.members in
                  omega arith;
              entries = one.entries;
            };
        groups = groups_kept;
        few = whole.counted.few;
        finished = whole.counted.finished;
        high = whole.counted.high;
        low = whole.counted.low;
        works = whole.counted.works;
        results = λ k c at. whole.counted.results k c (found_before k c at);
      }

      pub less_whole : IsWhole less
      less_whole = record {
        named = record {
          threads = λ r q at. home_left q.entry.item (each_apart r q at) (whole.named.threads r q at);
          calls = λ r q at. call_left q.entry.item (whole.named.calls r q (before r q at));
          works = λ r q at. work_left q.entry.item (whole.named.works r q at);
          switch = whole.named.switch;
        };
        chained = chained_left;
        nodes = record { marks = whole.nodes.marks; instance_queues = whole.nodes.instance_queues; callers = whole.nodes.callers; works = whole.nodes.works; apart = whole.nodes.apart };
        counted = counted_left;
      }
