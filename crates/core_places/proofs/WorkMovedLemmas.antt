-- A host work is written that has another event, set or stage, with the numbers that count these: what else holds of the parts stays.
use Rattle.core_records.proofs.Core.{ap, ap₂, AreChained, AreCounted, AtPlace, BlockedOn, Bool, CallOf, core_of, EachEntry, Entry, entry_keyed, filings, HasHome, HeldIn, StartsIn, host_entry, is_host_call, is_live, is_of_group, is_of_instance, IsCallNamed, IsGroupKept, IsIndex, IsIndex-same_chains, IsKeyed, IsSetKept, IsWhole, IsWorkNamed, join_target, length, List, live_chain, live_work, mapped, Nothing, on_item, part, CoreImage, passing, place_chain, push_entry, ready_call_chain, ready_work, ready_work_chain, records, refl, Rises, row, row_chain, SetOf, instance_queue_chain, size, Spot, subst, Subtask, sym, Table, table_use, Target, ThreadOf, UnderOf, WaitsOn, Where, Work, work_key, WorkOf, ℕ, ◌*◌, ◌+◌, ◌==◌, ◌∙◌, ◌≡◌}
use Rattle.core_records.specs.declared.{call_records.GuestTask.GuestTask, call_records.TaskGroup.TaskGroup, set_records.WaitSet.WaitSet, single.Single.Single, thread_records.GuestThread.GuestThread, thread_records.Queued.Queued, work_records.WorkRecord.WorkRecord, work_records.LiveWork.LiveWork}
use Rattle.core_records.proofs.KeptLemmas.{passing_seconds, records_seconds, seconds}
use Rattle.core_places.proofs.AlikeLemmas.{found_alike, nodes_alike, place_alike, keyed_alike, stands_alike}
use Rattle.core_places.proofs.MovedLemmas.{IsRows-alike}
use Rattle.core_places.proofs.PutLemmas.{sets_same}
use Rattle.core_places.specs.Moved.{Alike, quiet_work, still_work, uncounted}
use Rattle.table_lists.specs.declared.ordered_lists.OrderKey.{OrderKey}

module _ (p : CoreImage) (whole : IsWhole p) (works : Table (Single WorkRecord)) (alike : Alike still_work works p.works) (sets : Table (Single WaitSet)) (sets_alike : Alike uncounted sets p.sets) (ready : List (Spot OrderKey)) (polled : List (Spot LiveWork)) (live : ℕ) where
  abbrev pub heard : CoreImage
  heard = record p { works = works; sets = sets; ready_works = ready; polled = polled; kept = record p.kept { live = live } }

  pub at_heard : (rep : ℕ) (t : Target) → AtPlace p rep t → AtPlace heard rep t
  at_heard rep Nothing at = tt
  at_heard rep (ThreadOf n) at = at
  at_heard rep (CallOf k) at = at
  at_heard rep (WorkOf i) at = (at.0, stands_alike still_work works p.works alike (λ (w : WorkRecord). w.number) (λ w. refl) (λ (w : WorkRecord). w.work) quiet_work (λ w. refl) rep i at.1)
  at_heard rep (SetOf x) at = (at.0, stands_alike uncounted sets p.sets sets_alike (λ (x : WaitSet). x.number) (λ x. refl) (λ (x : WaitSet). x.set) (λ s. s) (λ x. refl) rep x at.1)

  home_heard : (g : GuestThread) → HasHome p g → HasHome heard g
  home_heard g h = record { call = h.call; there = h.there; instance = h.instance; barred = h.barred; waits = h.waits; within = h.within; place = at_heard g.state_target _ h.place; op_progress = at_heard g.op_target _ h.op_progress }

  call_heard : (g : GuestTask) → IsCallNamed p g → IsCallNamed heard g
  call_heard g h = record { caller = at_heard g.maker _ h.caller; first = at_heard g.first (ThreadOf g.number) h.first; join = at_heard g.joined _ h.join; group = h.group; positive = h.positive; waits = h.waits }

  work_heard : (w : WorkRecord) → IsWorkNamed p w → IsWorkNamed heard (still_work w)
  work_heard w h = record { caller = at_heard w.maker _ h.caller; join = tt; group = h.group }

  works_heard : EachEntry (λ (w : WorkRecord). AtPlace heard w.joined (join_target w.work.join)) works → EachEntry (IsWorkNamed heard) works
  works_heard joins r q at =
      let one = place_alike still_work works p.works alike r q at in
      let h = subst (IsWorkNamed heard) one.1.1 (work_heard one.0.entry.item (whole.named.works r one.0 one.1.0)) in
      record { caller = h.caller; join = joins r q at; group = h.group }

  keyed_heard : (q : Queued) → IsKeyed p q → IsKeyed heard q
  keyed_heard q is = by q.entry ∙ is
    where
      by : (e : Entry) → entry_keyed heard e q.place ≡ entry_keyed p e q.place
      by (Entry.Thread n) = refl
      by (Entry.Push i) = keyed_alike still_work works p.works alike push_entry (λ r w. refl) q.place
      by (Entry.Host i) = keyed_alike still_work works p.works alike host_entry (λ r w. refl) q.place

  place_chain_heard : (k : Where) → place_chain heard k ≡ place_chain p k
  place_chain_heard (WaitsOn x) = found_alike uncounted sets p.sets sets_alike (λ (x : WaitSet). x.number) (λ x. refl) (λ (x : WaitSet). x.waiters) (λ x. refl) x
  place_chain_heard (StartsIn i) = refl
  place_chain_heard (HeldIn i) = refl
  place_chain_heard (UnderOf n) = refl
  place_chain_heard (BlockedOn (Subtask.Guest k)) = refl
  place_chain_heard (BlockedOn (Subtask.Host i)) = found_alike still_work works p.works alike (λ (w : WorkRecord). w.number) (λ w. refl) (λ (w : WorkRecord). w.blocked) (λ w. refl) i

  ready_calls_heard : (x : ℕ) → ready_call_chain heard x ≡ ready_call_chain p x
  ready_calls_heard x = found_alike uncounted sets p.sets sets_alike (λ (x : WaitSet). x.number) (λ x. refl) (λ (x : WaitSet). x.ready_calls) (λ x. refl) x

  ready_works_heard : (x : ℕ) → ready_work_chain heard x ≡ ready_work_chain p x
  ready_works_heard x = found_alike uncounted sets p.sets sets_alike (λ (x : WaitSet). x.number) (λ x. refl) (λ (x : WaitSet). x.ready_works) (λ x. refl) x

  chained_heard : IsIndex (ready_work_chain p) ready (filings ready_work works) → IsIndex (live_chain p) polled (filings live_work works) → Rises polled p.live → AreChained heard
  chained_heard index live_index rises = record {
    places = IsIndex-same_chains (place_chain p) p.places _ whole.chained.places (place_chain heard) place_chain_heard;
    waits = whole.chained.waits;
    ready_calls = IsIndex-same_chains (ready_call_chain p) p.ready_calls _ whole.chained.ready_calls (ready_call_chain heard) ready_calls_heard;
    ready_works = IsIndex-same_chains (ready_work_chain p) ready (filings ready_work works) index (ready_work_chain heard) ready_works_heard;
    polled = live_index;
    rising = rises;
    marks = IsRows-alike (row_chain p) (row_chain heard) (λ q. q.mark.index) (IsKeyed p) (IsKeyed heard) p.marks (row p) (row heard) whole.chained.marks (λ k. refl) keyed_heard (λ k. refl);
    instance_queues = IsRows-alike (instance_queue_chain p) (instance_queue_chain heard) (λ q. q.instance_queue.index) (IsKeyed p) (IsKeyed heard) p.instance_queues (part is_of_instance (row p)) (part is_of_instance (row heard)) whole.chained.instance_queues (λ k. refl) keyed_heard (λ k. refl);
    low = whole.chained.low;
    behind = whole.chained.behind;
  }

  -- ---- Counts

  seen_quiet : (t : Table (Single WorkRecord)) → records work_key (mapped (on_item still_work) t).places ≡ seconds quiet_work (records work_key t.places)
  seen_quiet t = records_seconds quiet_work work_key work_key (on_item still_work) (λ e. refl) t

  passing_heard : (test : Work → Bool) → passing (λ w. test (quiet_work w)) (core_of heard).works ≡ passing (λ w. test (quiet_work w)) (core_of p).works
  passing_heard test = sym (ap (passing test) (seen_quiet works) ∙ passing_seconds quiet_work test (records work_key works.places)) ∙ (ap (λ (t : Table (Single WorkRecord)). passing test (records work_key t.places)) alike ∙ (ap (passing test) (seen_quiet p.works) ∙ passing_seconds quiet_work test (records work_key p.works.places)))

  group_heard : (g : TaskGroup) → IsGroupKept (core_of p) g → IsGroupKept (core_of heard) g
  group_heard g h = h ∙ ap (λ n. passing (λ c. c.group == g.number) (core_of p).calls + n) (sym (passing_heard (is_of_group g.number)))

  counted_heard : EachEntry (IsSetKept (core_of heard)) sets → live ≡ passing is_live (core_of heard).works → AreCounted heard
  unfolding table_use
  counted_heard kept live_is = record {
    kept = record { used = whole.counted.kept.used ∙ ap₂ (λ (m k : ℕ). length (core_of p).groups + size (core_of p).calls + 2 * size (core_of p).threads + m + k) (sym (passing_heard is_host_call)) (sym (ap size (sets_same sets p.sets sets_alike))); groups = whole.counted.kept.groups; live = live_is };
    calls = whole.counted.calls;
    sets = kept;
    groups = λ r q at. group_heard q.entry.item (whole.counted.groups r q at);
    few = whole.counted.few;
    finished = whole.counted.finished;
    high = whole.counted.high;
    low = whole.counted.low;
    works = λ r q at. let one = place_alike still_work works p.works alike r q at in whole.counted.works r one.0 one.1.0;
    results = whole.counted.results;
  }

  pub heard_whole : EachEntry (λ (w : WorkRecord). AtPlace heard w.joined (join_target w.work.join)) works → EachEntry (IsSetKept (core_of heard)) sets → IsIndex (ready_work_chain p) ready (filings ready_work works) → IsIndex (live_chain p) polled (filings live_work works) → Rises polled p.live → live ≡ passing is_live (core_of heard).works → IsWhole heard
  heard_whole joins kept index live_index rises live_is = record {
    named = record {
      threads = λ r q at. home_heard q.entry.item (whole.named.threads r q at);
      calls = λ r q at. call_heard q.entry.item (whole.named.calls r q at);
      works = works_heard joins;
      switch = whole.named.switch;
    };
    chained = chained_heard index live_index rises;
    nodes = record {
      marks = whole.nodes.marks;
      instance_queues = whole.nodes.instance_queues;
      callers = whole.nodes.callers;
      works = nodes_alike still_work works p.works alike (λ w. w.mark.index) (λ w. refl) p.marks whole.nodes.works;
      apart = λ r s q w at_q at_w same. let one = place_alike still_work works p.works alike s w at_w in whole.nodes.apart r s q one.0 at_q one.1.0 (same ∙ sym (ap (λ (x : WorkRecord). x.mark.index) one.1.1));
    };
    counted = counted_heard kept live_is;
  }
