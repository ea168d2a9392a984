-- A thread is written that gets another place, and the numbers of entries of sets: what else holds of the parts stays.
use Rattle.core_records.proofs.Core.{ap, ap₂, AreChained, AreCounted, AtPlace, BlockedOn, callers_chain, callers_row, CallOf, chained, core_of, count_by, Each, EachEntry, Entry, entry_keyed, filings, follower, HasHome, HaveRowNodes, HeldIn, StartsIn, IfSome, is_host_call, is_of_instance, IsCallNamed, IsFollower, IsIndex, IsIndex-same_chains, IsRows, IsKeyed, IsSetKept, IsWhole, IsWorkNamed, length, List, None, Nothing, Option, part, CoreImage, place_chain, place_filing, ready_call_chain, ready_work_chain, refl, row, row_chain, SetOf, instance_queue_chain, size, Some, Spot, subst, Subtask, sym, Table, table_use, Target, thread_entry, ThreadOf, threads_of, UnderOf, wait_chain, wait_filing, WaitsOn, Where, with_nodes, WorkOf, ℕ, ◌*◌, ◌+◌, ◌∙◌, ◌≡◌}
use Rattle.core_records.specs.declared.{call_records.GuestTask.GuestTask, set_records.WaitSet.WaitSet, single.Single.Single, thread_records.Follower.Follower, thread_records.GuestThread.GuestThread, thread_records.Queued.Queued, work_records.WorkRecord.WorkRecord}
use Rattle.core_places.proofs.AlikeLemmas.{found_alike, nodes_alike, place_alike, keyed_alike, stands_alike}
use Rattle.core_places.specs.Moved.{Alike, still, still_thread, uncounted}
use Rattle.core_queues.proofs.ListLemmas.{Each-weaker}
use Rattle.table_lists.specs.declared.ordered_lists.OrderKey.{OrderKey}

-- the same rows, by chains, lists and knowledge that say the same
pub IsRows-alike : {K P : Type 0} (chain chain' : K → Option ℕ) (node : P → ℕ) (Known Known' : P → Type 0) (links : List (Spot P)) (list list' : K → List P) → IsRows chain node Known links list → ((k : K) → chain' k ≡ chain k) → ((x : P) → Known x → Known' x) → ((k : K) → list' k ≡ list k) → IsRows chain' node Known' links list'
IsRows-alike chain chain' node Known Known' links list list' rows chains knows lists = record {
  live = λ k c at. rows.live k c (sym (chains k) ∙ at);
  own_chain = λ j k c at_j at_k. rows.own_chain j k c (sym (chains j) ∙ at_j) (sym (chains k) ∙ at_k);
  has_list = λ k c at. rows.has_list k c (sym (chains k) ∙ at) ∙ ap (with_nodes node) (sym (lists k));
  all_known = λ k c at. subst (Each Known') (sym (lists k)) (Each-weaker Known Known' knows (list k) (rows.all_known k c (sym (chains k) ∙ at)));
  owner = λ n c v link. let one = rows.owner n c v link in (one.0, chains one.0 ∙ one.1);
}

module _ (p : CoreImage) (whole : IsWhole p) (threads : Table (Single GuestThread)) (alike : Alike still_thread threads p.threads) (sets : Table (Single WaitSet)) (sets_alike : Alike uncounted sets p.sets) (places waits : List (Spot OrderKey)) where
  abbrev pub moved : CoreImage
  moved = record p { threads = threads; sets = sets; places = places; waits = waits }

  pub at_moved : (rep : ℕ) (t : Target) → AtPlace p rep t → AtPlace moved rep t
  at_moved rep Nothing at = tt
  at_moved rep (ThreadOf n) at = (at.0, stands_alike still_thread threads p.threads alike (λ (g : GuestThread). g.number) (λ g. refl) (λ (g : GuestThread). g.thread) still (λ g. refl) rep n at.1)
  at_moved rep (CallOf k) at = at
  at_moved rep (WorkOf i) at = at
  at_moved rep (SetOf x) at = (at.0, stands_alike uncounted sets p.sets sets_alike (λ (x : WaitSet). x.number) (λ x. refl) (λ (x : WaitSet). x.set) (λ s. s) (λ x. refl) rep x at.1)

  pub home_moved : (g : GuestThread) → HasHome p g → HasHome moved g
  home_moved g h = record { call = h.call; there = h.there; instance = h.instance; barred = h.barred; waits = h.waits; within = h.within; place = at_moved g.state_target _ h.place; op_progress = at_moved g.op_target _ h.op_progress }

  call_moved : (g : GuestTask) → IsCallNamed p g → IsCallNamed moved g
  call_moved g h = record { caller = at_moved g.maker _ h.caller; first = at_moved g.first (ThreadOf g.number) h.first; join = at_moved g.joined _ h.join; group = h.group; positive = h.positive; waits = h.waits }

  work_moved : (w : WorkRecord) → IsWorkNamed p w → IsWorkNamed moved w
  work_moved w h = record { caller = at_moved w.maker _ h.caller; join = at_moved w.joined _ h.join; group = h.group }

  follows_moved : (f : Follower) → IsFollower p f → IsFollower moved f
  follows_moved f is = keyed_alike still_thread threads p.threads alike follower (λ r g. refl) f.place ∙ is

  keyed_moved : (q : Queued) → IsKeyed p q → IsKeyed moved q
  keyed_moved q is = by q.entry ∙ is
    where
      by : (e : Entry) → entry_keyed moved e q.place ≡ entry_keyed p e q.place
      by (Entry.Thread n) = keyed_alike still_thread threads p.threads alike thread_entry (λ r g. refl) q.place
      by (Entry.Push i) = refl
      by (Entry.Host i) = refl

  switch_moved : IfSome p.switch (IsFollower moved)
  switch_moved = by p.switch whole.named.switch
    where
      by : (o : Option Follower) → IfSome o (IsFollower p) → IfSome o (IsFollower moved)
      by None is = tt
      by (Some f) is = follows_moved f is

  place_chain_moved : (k : Where) → place_chain moved k ≡ place_chain p k
  place_chain_moved (WaitsOn x) = found_alike uncounted sets p.sets sets_alike (λ (x : WaitSet). x.number) (λ x. refl) (λ (x : WaitSet). x.waiters) (λ x. refl) x
  place_chain_moved (StartsIn i) = refl
  place_chain_moved (HeldIn i) = refl
  place_chain_moved (UnderOf n) = found_alike still_thread threads p.threads alike (λ (g : GuestThread). g.number) (λ g. refl) (λ (g : GuestThread). g.under) (λ g. refl) n
  place_chain_moved (BlockedOn (Subtask.Guest k)) = refl
  place_chain_moved (BlockedOn (Subtask.Host i)) = refl

  ready_calls_moved : (x : ℕ) → ready_call_chain moved x ≡ ready_call_chain p x
  ready_calls_moved x = found_alike uncounted sets p.sets sets_alike (λ (x : WaitSet). x.number) (λ x. refl) (λ (x : WaitSet). x.ready_calls) (λ x. refl) x

  ready_works_moved : (x : ℕ) → ready_work_chain moved x ≡ ready_work_chain p x
  ready_works_moved x = found_alike uncounted sets p.sets sets_alike (λ (x : WaitSet). x.number) (λ x. refl) (λ (x : WaitSet). x.ready_works) (λ x. refl) x

  callers_moved : (n : ℕ) → callers_chain moved n ≡ callers_chain p n
  callers_moved n = found_alike still_thread threads p.threads alike (λ (g : GuestThread). g.number) (λ g. refl) (λ (g : GuestThread). g.callers) (λ g. refl) n

  chained_moved : IsIndex (place_chain p) places (filings (place_filing p.version) threads) → IsIndex (wait_chain p) waits (filings wait_filing threads) → AreChained moved
  chained_moved index wait_index = record {
    places = IsIndex-same_chains (place_chain p) places (filings (place_filing p.version) threads) index (place_chain moved) place_chain_moved;
    waits = wait_index;
    ready_calls = IsIndex-same_chains (ready_call_chain p) p.ready_calls _ whole.chained.ready_calls (ready_call_chain moved) ready_calls_moved;
    ready_works = IsIndex-same_chains (ready_work_chain p) p.ready_works _ whole.chained.ready_works (ready_work_chain moved) ready_works_moved;
    polled = whole.chained.polled;
    rising = whole.chained.rising;
    marks = IsRows-alike (row_chain p) (row_chain moved) (λ q. q.mark.index) (IsKeyed p) (IsKeyed moved) p.marks (row p) (row moved) whole.chained.marks (λ k. refl) keyed_moved (λ k. refl);
    instance_queues = IsRows-alike (instance_queue_chain p) (instance_queue_chain moved) (λ q. q.instance_queue.index) (IsKeyed p) (IsKeyed moved) p.instance_queues (part is_of_instance (row p)) (part is_of_instance (row moved)) whole.chained.instance_queues (λ k. refl) keyed_moved (λ k. refl);
    low = whole.chained.low;
    behind = IsRows-alike (callers_chain p) (callers_chain moved) (λ f. f.node.index) (IsFollower p) (IsFollower moved) p.behind (callers_row p) (callers_row moved) whole.chained.behind callers_moved follows_moved (λ n. ap (chained p.behind) (callers_moved n));
  }

  nodes_moved : HaveRowNodes moved
  nodes_moved = record {
    marks = nodes_alike still_thread threads p.threads alike (λ g. g.mark.index) (λ g. refl) p.marks whole.nodes.marks;
    instance_queues = nodes_alike still_thread threads p.threads alike (λ g. g.instance_queue.index) (λ g. refl) p.instance_queues whole.nodes.instance_queues;
    callers = nodes_alike still_thread threads p.threads alike (λ g. g.caller.index) (λ g. refl) p.behind whole.nodes.callers;
    works = whole.nodes.works;
    apart = λ r s q w at_q at_w same. let one = place_alike still_thread threads p.threads alike r q at_q in whole.nodes.apart r s one.0 w one.1.0 at_w (ap (λ (g : GuestThread). g.mark.index) one.1.1 ∙ same);
  }

  counted_moved : size (core_of moved).threads ≡ size (core_of p).threads → size (core_of moved).sets ≡ size (core_of p).sets → ((k : ℕ) → threads_of k (core_of moved) ≡ threads_of k (core_of p)) → EachEntry (IsSetKept (core_of moved)) sets → AreCounted moved
  unfolding table_use
  counted_moved same_threads same_sets same_calls sets_kept = record {
    kept = record { used = whole.counted.kept.used ∙ ap₂ (λ (m k : ℕ). length (core_of p).groups + size (core_of p).calls + 2 * m + count_by (λ e. is_host_call e.1) (core_of p).works.list + k) (sym same_threads) (sym same_sets); groups = whole.counted.kept.groups; live = whole.counted.kept.live };
    calls = λ rep q at. whole.counted.calls rep q at ∙ sym (same_calls q.entry.item.number);
    sets = sets_kept;
    groups = whole.counted.groups;
    few = whole.counted.few;
    finished = whole.counted.finished;
    high = whole.counted.high;
    low = whole.counted.low;
    works = whole.counted.works;
    results = whole.counted.results;
  }

  pub moved_whole : EachEntry (HasHome moved) threads → IsIndex (place_chain p) places (filings (place_filing p.version) threads) → IsIndex (wait_chain p) waits (filings wait_filing threads) → size (core_of moved).threads ≡ size (core_of p).threads → size (core_of moved).sets ≡ size (core_of p).sets → ((k : ℕ) → threads_of k (core_of moved) ≡ threads_of k (core_of p)) → EachEntry (IsSetKept (core_of moved)) sets → IsWhole moved
  moved_whole homes index wait_index same_threads same_sets same_calls sets_kept = record {
    named = record {
      threads = homes;
      calls = λ rep q at. call_moved q.entry.item (whole.named.calls rep q at);
      works = λ rep q at. work_moved q.entry.item (whole.named.works rep q at);
      switch = switch_moved;
    };
    chained = chained_moved index wait_index;
    nodes = nodes_moved;
    counted = counted_moved same_threads same_sets same_calls sets_kept;
  }
