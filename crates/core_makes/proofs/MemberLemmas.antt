-- A thread more of a call that is there: the parts stay whole.
use Rattle.core_records.proofs.Core.{ap, AreChained, AreCounted, AreTables, arith, AtPlace, blocked_key, BlockedOn, Bool, Call, call_key, core_of, EachEntry, eq-eqb, filings, found_record, found_record_at, get, get-records, HasHome, HaveRowNodes, HeldIn, op_progress_target, OpProgress, is_in_set, IsCallKept, IsCallNamed, IsIndex-same_chains, IsIndex-with_entry_same, IsSetKept, IsSome, IsWhole, keeps_set, key_in, kinds, ne_eqb, no_callee, number_in, one_if_passes, Option, option_map_or, CoreImage, passing, Place, place_at, place_chain, place_filing, place_target, Placed, pushed, ready_call, ready_call_chain, Records, records, refl, size, Some, subst, Subtask, sym, Table, table_use, Thread, UnderOf, WaitsOn, Where, where_at, with_entry, ℕ, ◌+◌, ◌<◌, ◌==◌, ◌∙◌, ◌≡◌, StartsIn, ExportKind, option_and_then, wait_chain, wait_filing, waits_key, is_some}
use Rattle.core_records.specs.declared.{call_records.GuestTask.GuestTask, set_records.WaitSet.WaitSet, single.Single.Single, thread_records.GuestThread.GuestThread}
use Rattle.core_makes.proofs.MoreLemmas.{at_written, each_but, number_written, passing_more, size_more}
use Rattle.core_queues.proofs.BareLemmas.{number_positive, one_place}
use Rattle.core_makes.proofs.GrowLemmas.{Grows, call_grown, named_grown}
use Rattle.core_makes.proofs.CallThreadCountLemmas.{fails_none, passes_one}
use Rattle.core_makes.proofs.ThreadPushLemmas.{PlacesNamed, nodes_of, thread_chained, thread_nodes}
use Rattle.core_makes.specs.LooseCalls.{AreThreadLoose}
use Rattle.core_makes.specs.Member.{IsMember}
use Rattle.core_records.proofs.TableLemmas.{found_unseen, records_unseen}
use Rattle.core_primitives.specs.Barred.{bars_start}
use Rattle.core_records.specs.Names.{keeps_waits}

module _ (p : CoreImage) (whole : IsWhole p) (tables : AreTables p) (rep : ℕ) (q : Placed (Single GuestTask)) (at : place_at p.calls rep ≡ Some q) (g : GuestThread) (is : IsMember p q.entry.item rep g) (loose : AreThreadLoose p (is_some q.entry.item.waits) (nodes_of g)) where
  abbrev one_more : GuestTask
  one_more = record q.entry.item { threads = q.entry.item.threads + 1 }

  abbrev calls_now : Table (Single GuestTask)
  calls_now = with_entry rep (record { item = one_more }) p.calls

  abbrev pub with_member : CoreImage
  with_member = record p { threads = pushed (record { item = g }) p.threads; calls = calls_now; made = record p.made { threads = p.made.threads + 1 }; kept = record p.kept { used = p.kept.used + 2 } }

  later : p.made.threads < g.number
  later = let next = is.next in omega arith

  -- ---- The calls are what they were, but for the count

  calls_same : records call_key calls_now.places ≡ records call_key p.calls.places
  calls_same = records_unseen call_key p.calls rep q at (record { item = one_more }) refl

  pub grows : Grows p calls_now p.groups
  grows = record {
    stands = λ r n early stands some. number_written p.calls rep q at one_more call_key refl r n (stands (subst (λ (o : Option Call). IsSome o) (found_unseen call_key p.calls rep q at (record { item = one_more }) refl n) some));
    number = λ r n has some. number_written p.calls rep q at one_more call_key refl r n has;
    instance = λ r n has some. ap (λ (m : Records Call). (option_map_or (λ (d : Call). d.callee) (get m n) no_callee).instance) calls_same;
    kind = λ r n has some. ap (λ (m : Records Call). option_map_or (λ (d : Call). d.kind) (get m n) ExportKind.Callback) calls_same;
    group = λ r n has some. has;
  }

  -- ---- Chains and nodes

  abbrev recounted : CoreImage
  recounted = record p { calls = calls_now }

  chains_same : (k : Where) → place_chain recounted k ≡ place_chain p k
  chains_same (WaitsOn n) = refl
  chains_same (StartsIn i) = refl
  chains_same (HeldIn i) = refl
  chains_same (UnderOf n) = refl
  chains_same (BlockedOn (Subtask.Guest k)) = found_unseen blocked_key p.calls rep q at (record { item = one_more }) refl k
  chains_same (BlockedOn (Subtask.Host i)) = refl

  waits_same : (k : ℕ) → wait_chain recounted k ≡ wait_chain p k
  waits_same k = ap (option_and_then (λ c. c)) (found_unseen waits_key p.calls rep q at (record { item = one_more }) refl k)

  recounted_chained : AreChained recounted
  recounted_chained = record {
    places = IsIndex-same_chains (place_chain p) p.places (filings (place_filing p.version) p.threads) whole.chained.places (place_chain recounted) chains_same;
    waits = IsIndex-same_chains (wait_chain p) p.waits (filings wait_filing p.threads) whole.chained.waits (wait_chain recounted) waits_same;
    ready_calls = IsIndex-with_entry_same ready_call (ready_call_chain p) p.calls p.ready_calls whole.chained.ready_calls rep q at (record { item = one_more }) refl;
    ready_works = whole.chained.ready_works;
    polled = whole.chained.polled;
    rising = whole.chained.rising;
    marks = whole.chained.marks;
    instance_queues = whole.chained.instance_queues;
    low = whole.chained.low;
    behind = whole.chained.behind;
  }

  recounted_loose : AreThreadLoose recounted (is_some q.entry.item.waits) (nodes_of g)
  recounted_loose = record {
    wait = record { is = loose.wait.is; made = loose.wait.made; free = loose.wait.free; apart = loose.wait.apart };
    node = loose.node;
    mark = loose.mark;
    instance_queue = loose.instance_queue;
    caller = loose.caller;
    callers = record { empty = loose.callers.empty; apart = loose.callers.apart };
    under = record { empty = loose.under.empty; apart = λ k is_k. loose.under.apart k (sym (chains_same k) ∙ is_k) };
    no_work = loose.no_work;
  }

  named : PlacesNamed (kinds p) p.threads
  named r w w_at = (whole.named.threads r w w_at).place

  chained : AreChained with_member
  chained =
      let both = thread_chained recounted g (is_some q.entry.item.waits) tables.threads.table tables.threads.apart (tables.threads.later g.number later) recounted_loose (kinds p) later named (ap (where_at g.instance g.barred) is.unplaced) recounted_chained in
      record { places = both.places; waits = both.waits; ready_calls = both.ready_calls; ready_works = both.ready_works; polled = both.polled; rising = both.rising; marks = both.marks; instance_queues = both.instance_queues; low = both.low; behind = both.behind }

  nodes : HaveRowNodes with_member
  nodes =
      let was = whole.nodes in
      let both = thread_nodes recounted g (is_some q.entry.item.waits) tables.threads.table tables.threads.apart (tables.threads.later g.number later) recounted_loose (record { marks = was.marks; instance_queues = was.instance_queues; callers = was.callers; works = was.works; apart = was.apart }) in
      record { marks = both.marks; instance_queues = both.instance_queues; callers = both.callers; works = both.works; apart = both.apart }

  -- ---- Names

  call_found : get (core_of with_member).calls g.thread.call ≡ Some q.entry.item.call
  call_found =
      ap (λ (m : Records Call). get m g.thread.call) calls_same
      ∙ (get-records call_key p.calls.places g.thread.call
      ∙ (ap (λ (n : ℕ). found_record call_key n p.calls.places) is.of_call ∙ found_record_at call_key p.calls.places rep q.entry.item.number q.entry.item.call tables.calls.apart (ap (key_in call_key) at)))

  home : HasHome with_member g
  home = record {
    call = ap (λ o. number_in (key_in call_key o)) (ap (place_at calls_now) is.task ∙ at_written p.calls rep q at one_more) ∙ sym is.of_call;
    there = subst (λ (n : ℕ). 0 < n) (sym is.of_call) (number_positive (λ (c : GuestTask). c.number) (λ (c : GuestTask). c.call) p.calls p.made.threads tables.calls rep q at);
    instance = ap (λ (o : Option Call). (option_map_or (λ (d : Call). d.callee) o no_callee).instance) call_found ∙ sym is.instance;
    barred = ap (λ (o : Option Call). bars_start g.thread.explicit (option_map_or (λ (d : Call). d.kind) o ExportKind.Callback)) call_found ∙ is.barred;
    waits = ap (λ (o : Option Call). keeps_waits p.version (option_map_or (λ (d : Call). d.kind) o ExportKind.Callback)) call_found ∙ ((whole.named.calls rep q at).waits ∙ sym loose.wait.is);
    within = is.within;
    place = subst (λ (x : Place). AtPlace with_member g.state_target (place_target x)) (sym is.unplaced) tt;
    op_progress = subst (λ (x : OpProgress). AtPlace with_member g.op_target (op_progress_target x)) (sym is.fresh) tt;
  }

  -- ---- Kept numbers

  thread_more : (test : Thread → Bool) → passing test (core_of with_member).threads ≡ passing test (core_of p).threads + one_if_passes test (Some g.thread)
  thread_more = passing_more (λ (h : GuestThread). h.number) (λ (h : GuestThread). h.thread) p.threads p.made.threads tables.threads g is.next

  call_counts : (test : Call → Bool) → passing test (core_of with_member).calls ≡ passing test (core_of p).calls
  call_counts test = ap (λ (m : Records Call). passing test m) calls_same

  calls_kept : EachEntry (IsCallKept (core_of with_member)) calls_now
  calls_kept = each_but p.calls rep q at one_more (IsCallKept (core_of with_member))
      (let was = whole.counted.calls rep q at in
      let more = thread_more (λ t. t.call == q.entry.item.number) in
      let here = passes_one (λ (t : Thread). t.call == q.entry.item.number) g.thread (eq-eqb g.thread.call q.entry.item.number is.of_call) in
      omega arith)
      (λ r w other w_at.
      let was = whole.counted.calls r w w_at in
      let more = thread_more (λ t. t.call == w.entry.item.number) in
      let none = fails_none (λ (t : Thread). t.call == w.entry.item.number) g.thread (ne_eqb g.thread.call w.entry.item.number (λ same. other (one_place (λ (c : GuestTask). c.number) (λ (c : GuestTask). c.call) p.calls p.made.threads tables.calls r rep w q w_at at (sym same ∙ is.of_call)))) in
      omega arith)

  set_kept : (x : WaitSet) → IsSetKept (core_of p) x → IsSetKept (core_of with_member) x
  set_kept x was = record {
    members = let before = was.members in let same = call_counts (λ c. is_in_set x.number c.join) in omega arith;
    entries =
        let before = was.entries in
        let more = thread_more (λ t. keeps_set x.number t t.place) in
        let none = fails_none (λ (t : Thread). keeps_set x.number t t.place) g.thread (ap (λ (y : Place). keeps_set x.number g.thread y) is.unplaced) in
        omega arith;
  }

  used : p.kept.used + 2 ≡ table_use (core_of with_member)
  unfolding table_use
  used =
      let was = whole.counted.kept.used in
      let more = size_more (λ (h : GuestThread). h.number) (λ (h : GuestThread). h.thread) p.threads p.made.threads tables.threads g is.next in
      let same = ap (λ (m : Records Call). size m) calls_same in
      omega arith

  counted : AreCounted with_member
  counted = record {
    kept = record { used = used; groups = whole.counted.kept.groups; live = whole.counted.kept.live };
    calls = calls_kept;
    sets = λ r w w_at. set_kept w.entry.item (whole.counted.sets r w w_at);
    groups = λ r w w_at. let was = whole.counted.groups r w w_at in let same = call_counts (λ c. c.group == w.entry.item.number) in omega arith;
    few = whole.counted.few;
    finished = whole.counted.finished;
    high = whole.counted.high;
    low = whole.counted.low;
    works = whole.counted.works;
    results = λ k c at_k. whole.counted.results k c (sym (ap (λ (m : Records Call). get m k) calls_same) ∙ at_k);
  }

  pub member_whole : IsWhole with_member
  member_whole = record {
    named = named_grown p g tables.threads is.next calls_now p.groups with_member.kept grows whole.named home
        (each_but p.calls rep q at one_more (IsCallNamed with_member)
        (let was = call_grown p g tables.threads is.next calls_now p.groups with_member.kept grows q.entry.item (whole.named.calls rep q at) in record { caller = was.caller; first = was.first; join = was.join; group = was.group; positive = was.positive; waits = was.waits })
        (λ r w other w_at. call_grown p g tables.threads is.next calls_now p.groups with_member.kept grows w.entry.item (whole.named.calls r w w_at)));
    chained = chained;
    nodes = nodes;
    counted = counted;
  }
