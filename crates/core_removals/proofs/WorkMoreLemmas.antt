-- Parts with one host work more, whose nodes and chain hung on nothing: they are whole.
use Rattle.core_records.proofs.Core.{ap, AreChained, AreCounted, arith, AtPlace, BlockedOn, Bool, CallOf, calls_of, cases_eq, cond, core_of, EachEntry, Entry, entry_keyed, false, filings, filter, group_key, HasHome, HasNumber, HaveRowNodes, HeldIn, host_entry, inl, inr, is_host_call, is_in_set, is_live, is_of_group, is_of_instance, is_stage_live, IsCallNamed, IsGroupKept, IsKeyed, IsSome, IsWhole, IsWorkNamed, join_target, kinds, length, live_chain, live_value, nat_lt, None, Nothing, one_if_passes, Option, part, CoreImage, passing, place_chain, place_filing, Placed, push_entry, pushed, ready_in, ready_work_chain, refl, row, row_chain, SetOf, instance_queue_chain, Some, SoundTable, Status, subst, Subtask, sym, Table, table_use, Target, ThreadOf, UnderOf, WaitsOn, Where, Work, work_key, WorkOf, ℕ, ◌+◌, ◌<◌, ◌∙◌, ◌≡◌, ◌⊎◌, StartsIn}
use Rattle.core_records.specs.declared.{call_records.GuestTask.GuestTask, call_records.TaskGroup.TaskGroup, parts.CachedCounts.CachedCounts, single.Single.Single, thread_records.GuestThread.GuestThread, thread_records.Queued.Queued, work_records.WorkRecord.WorkRecord}
use Rattle.core_makes.proofs.FreshLemmas.{chain_new, chain_other, each_more}
use Rattle.core_makes.proofs.LooseLemmas.{IsIndex-opened}
use Rattle.core_makes.proofs.MoreLemmas.{IsRows-known, index_more, new_or_old, nodes_more, passing_more, order_key_stays}
use Rattle.core_places.proofs.AlikeLemmas.{number_alike}
use Rattle.core_places.specs.Moved.{Alike}
use Rattle.core_removals.proofs.GroupLemmas.{numbers_alike}
use Rattle.core_removals.specs.Counted.{uncalled}
use Rattle.core_makes.proofs.ThreadPushLemmas.{none_in_list}
use Rattle.core_records.proofs.MakeLemmas.{stands_more}
use Rattle.core_removals.specs.LooseWorks.{AreWorkLoose, nodes_of}
use Rattle.core_removals.specs.Raised.{IsWorkNext}
use Rattle.core_records.specs.RecordPlaces.{member_order_key}

abbrev number : WorkRecord → ℕ
number w = w.number

abbrev machine : WorkRecord → Work
machine w = w.work

abbrev host_in : Where → ℕ
host_in (BlockedOn (Subtask.Host i)) = i
host_in _ = 0

blocked_is : (n : ℕ) (k : Where) → (k ≡ BlockedOn (Subtask.Host n)) ⊎ (k ≡ BlockedOn (Subtask.Host n) → ⊥)
blocked_is n (WaitsOn x) = inr (λ same. absurd (cc))
blocked_is n (StartsIn i) = inr (λ same. absurd (cc))
blocked_is n (HeldIn i) = inr (λ same. absurd (cc))
blocked_is n (UnderOf m) = inr (λ same. absurd (cc))
blocked_is n (BlockedOn (Subtask.Guest k)) = inr (λ same. absurd (cc))
blocked_is n (BlockedOn (Subtask.Host i)) = elim (cases_eq i n) [
  | inl same ↦ inl (ap (λ m. BlockedOn (Subtask.Host m)) same)
  | inr other ↦ inr (λ same. other (ap host_in same))
]

module _ (p : CoreImage) (whole : IsWhole p) (sound : SoundTable work_key p.works p.made.works) (g : WorkRecord) (next : IsWorkNext p g) (loose : AreWorkLoose p (nodes_of g)) (high : IsSome p.high) (live : IsSome p.live) (groups : Table (Single TaskGroup)) (alike : Alike uncalled groups p.groups) (kept : CachedCounts) where
  abbrev pub more : CoreImage
  more = record p { works = pushed (record { item = g }) p.works; groups = groups; made = record p.made { works = p.made.works + 1 }; kept = kept }

  later : p.made.works < g.number
  later = let is = next.number in omega arith

  -- what is counted of its works
  one_more : (test : Work → Bool) → passing test (core_of more).works ≡ passing test (core_of p).works + one_if_passes test (Some g.work)
  one_more = passing_more number machine p.works p.made.works sound g next.number

  pub works_counted : (n : ℕ) → calls_of n (core_of more) ≡ calls_of n (core_of p) + cond (is_of_group n g.work) 1 0
  works_counted n = let law = one_more (is_of_group n) in omega arith

  -- ---- Names

  pub at_more : (rep : ℕ) (t : Target) → AtPlace p rep t → AtPlace more rep t
  at_more rep Nothing at = tt
  at_more rep (ThreadOf n) at = at
  at_more rep (CallOf n) at = at
  at_more rep (WorkOf n) at = (let few = at.0 in omega arith, stands_more number machine p.works p.made.works sound g next.number rep n at.0 at.1)
  at_more rep (SetOf n) at = at

  group_more : (r n : ℕ) → HasNumber group_key p.groups r n → HasNumber group_key groups r n
  group_more r n at = number_alike uncalled groups p.groups alike (λ (x : TaskGroup). x.number) (λ x. refl) (λ (x : TaskGroup). x.calls) (λ (k : ℕ). 0) (λ x. refl) r ∙ at

  home_more : (h : GuestThread) → HasHome p h → HasHome more h
  home_more h home = record { call = home.call; there = home.there; instance = home.instance; barred = home.barred; waits = home.waits; within = home.within; place = at_more h.state_target _ home.place; op_progress = at_more h.op_target _ home.op_progress }

  call_more : (x : GuestTask) → IsCallNamed p x → IsCallNamed more x
  call_more x named = record { caller = at_more x.maker _ named.caller; first = at_more x.first (ThreadOf x.number) named.first; join = at_more x.joined _ named.join; group = group_more x.group x.call.group named.group; positive = named.positive; waits = named.waits }

  work_more : (w : WorkRecord) → IsWorkNamed p w → IsWorkNamed more w
  work_more w named = record { caller = at_more w.maker _ named.caller; join = at_more w.joined _ named.join; group = λ n at. let one = named.group n at in (group_more w.group n one.0, one.1) }

  new_named : IsWorkNamed more g
  new_named = record {
    caller = at_more g.maker _ next.caller;
    join = subst (λ j. AtPlace more g.joined (join_target j)) (sym next.join) tt;
    group = λ n at. let one = next.group n at in (group_more g.group n one.0, one.1);
  }

  entry_more : (q : Queued) → IsKeyed p q → IsKeyed more q
  entry_more q is_q = by q.entry is_q
    where
      by : (e : Entry) → entry_keyed p e q.place ≡ Some q → entry_keyed more e q.place ≡ Some q
      by (Entry.Thread n) at = at
      by (Entry.Push i) at = order_key_stays p.works g sound.table push_entry q.place q at
      by (Entry.Host i) at = order_key_stays p.works g sound.table host_entry q.place q at

  -- ---- Keys

  place_others : (k : Where) → (k ≡ BlockedOn (Subtask.Host g.number) → ⊥) → place_chain more k ≡ place_chain p k
  place_others (WaitsOn x) other = refl
  place_others (StartsIn i) other = refl
  place_others (HeldIn i) other = refl
  place_others (UnderOf n) other = refl
  place_others (BlockedOn (Subtask.Guest k)) other = refl
  place_others (BlockedOn (Subtask.Host i)) other = chain_other number machine (λ (x : WorkRecord). x.blocked) p.works g sound.table sound.apart (sound.later g.number later) i (λ same. other (ap (λ m. BlockedOn (Subtask.Host m)) same))

  has_blocked : place_chain more (BlockedOn (Subtask.Host g.number)) ≡ Some g.blocked
  has_blocked = chain_new number machine (λ (x : WorkRecord). x.blocked) p.works g sound.table sound.apart (sound.later g.number later)

  not_live : is_live g.work ≡ false
  not_live = ap is_stage_live next.stage

  chained_more : AreChained more
  chained_more = record {
    places = IsIndex-opened (place_chain p) (place_chain more) p.places (BlockedOn (Subtask.Host g.number)) (blocked_is g.number) place_others g.blocked has_blocked loose.blocked (filings (place_filing p.version) p.threads) whole.chained.places
        (none_in_list p.version (kinds p) p.threads (BlockedOn (Subtask.Host g.number)) (λ rep q at. (whole.named.threads rep q at).place) (λ rep at. let few = at.0 in let is = later in omega arith));
    waits = whole.chained.waits;
    ready_calls = whole.chained.ready_calls;
    ready_works = index_more p.works g sound.table (λ h. h.ready.index) (λ h. ready_in h.work.event h.work.join) (λ r h. member_order_key h.entry r) p.ready_works loose.ready (ready_work_chain p) whole.chained.ready_works (ap (λ (e : Option Status). ready_in e g.work.join) next.event);
    polled = index_more p.works g sound.table (λ h. h.live.index) (λ h. cond (is_stage_live h.work.stage) (Some tt) None) live_value p.polled loose.live (live_chain p) whole.chained.polled (ap (λ b. cond b (Some tt) None) not_live);
    rising = whole.chained.rising;
    marks = IsRows-known (row_chain p) (λ q. q.mark.index) (IsKeyed p) (IsKeyed more) p.marks (row p) entry_more whole.chained.marks;
    instance_queues = IsRows-known (instance_queue_chain p) (λ q. q.instance_queue.index) (IsKeyed p) (IsKeyed more) p.instance_queues (part is_of_instance (row p)) entry_more whole.chained.instance_queues;
    low = whole.chained.low;
    behind = whole.chained.behind;
  }

  nodes_kept : HaveRowNodes more
  nodes_kept = record {
    marks = whole.nodes.marks;
    instance_queues = whole.nodes.instance_queues;
    callers = whole.nodes.callers;
    works = nodes_more p.works g sound.table (λ (h : WorkRecord). h.mark.index) p.marks loose.mark whole.nodes.works;
    apart = λ r s q w at_q at_w same. elim (new_or_old p.works g sound.table s w at_w) [
      | inl new ↦ loose.no_thread r q at_q (same ∙ ap (λ (z : Placed (Single WorkRecord)). z.entry.item.mark.index) new.1)
      | inr old ↦ whole.nodes.apart r s q w at_q old same
    ];
  }

  groups_same : (core_of more).groups ≡ (core_of p).groups
  groups_same = ap (filter (nat_lt p.finished)) (numbers_alike groups p.groups alike)

  module _ (used : kept.used ≡ p.kept.used + cond (is_host_call g.work) 1 0) (same_groups : kept.groups ≡ p.kept.groups) (same_live : kept.live ≡ p.kept.live) (groups_kept : EachEntry (IsGroupKept (core_of more)) groups) where
    counted_more : AreCounted more
    unfolding table_use
    counted_more = record {
      kept = record {
        used =
            let all = whole.counted.kept.used in
            let law = one_more is_host_call in
            let same : length (core_of more).groups ≡ length (core_of p).groups = ap length groups_same in
            omega arith;
        groups = same_groups ∙ (whole.counted.kept.groups ∙ ap length (sym groups_same));
        live =
            let all = whole.counted.kept.live in
            let law = one_more is_live in
            let none : one_if_passes is_live (Some g.work) ≡ 0 = ap (λ b. cond b 1 0) not_live in
            omega arith;
      };
      calls = whole.counted.calls;
      sets = λ r q at.
          let one = whole.counted.sets r q at in
          record {
            members =
                let law = one_more (λ w. is_in_set q.entry.item.number w.join) in
                let none : one_if_passes (λ (w : Work). is_in_set q.entry.item.number w.join) (Some g.work) ≡ 0 = ap (λ j. cond (is_in_set q.entry.item.number j) 1 0) next.join in
                let old = one.members in
                omega arith;
            entries = one.entries;
          };
      groups = groups_kept;
      few = whole.counted.few;
      finished = whole.counted.finished;
      high = whole.counted.high;
      low = whole.counted.low;
      works = each_more (λ (w : WorkRecord). IsSome p.high × IsSome p.live) p.works g sound.table whole.counted.works (high, live);
      results = whole.counted.results;
    }

    pub more_whole : IsWhole more
    more_whole = record {
      named = record {
        threads = λ r q at. home_more q.entry.item (whole.named.threads r q at);
        calls = λ r q at. call_more q.entry.item (whole.named.calls r q at);
        works = each_more (IsWorkNamed more) p.works g sound.table (λ r q at. work_more q.entry.item (whole.named.works r q at)) new_named;
        switch = whole.named.switch;
      };
      chained = chained_more;
      nodes = nodes_kept;
      counted = counted_more;
    }
