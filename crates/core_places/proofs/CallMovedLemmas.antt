-- A call is written that has another event or set, and the numbers of members of sets: what else holds of the parts stays.
use Rattle.core_records.proofs.Core.{ap, ap₂, AreChained, AreCounted, AtPlace, BlockedOn, Bool, Call, call_instance, call_key, CallOf, core_of, count_by, EachEntry, filings, get, get-records, Goal, HasHome, HasRoom, HeldIn, StartsIn, is_host_call, is_of_group, IsCallKept, IsCallNamed, IsGroupKept, IsIndex, IsIndex-same_chains, IsSetKept, IsWhole, IsWorkNamed, join_target, length, List, mapped, no_callee, None, Nothing, on_item, Option, option_map, option_map_or, CoreImage, passing, place_chain, ready_call, ready_call_chain, ready_work_chain, records, refl, same_Some, SetOf, size, Some, Spot, subst, Subtask, sym, Table, table_use, Target, ThreadOf, UnderOf, WaitsOn, Where, WorkOf, ℕ, ◌*◌, ◌+◌, ◌==◌, ◌∙◌, ◌≡◌, option_and_then, wait_chain}
use Rattle.machine_data.specs.declared.component.ExportKind.{ExportKind}
use Rattle.machine_data.specs.Read.{kind_of}
use Rattle.core_records.specs.declared.{call_records.GuestTask.GuestTask, call_records.TaskGroup.TaskGroup, set_records.WaitSet.WaitSet, single.Single.Single, thread_records.GuestThread.GuestThread, work_records.WorkRecord.WorkRecord}
use Rattle.core_records.proofs.KeptLemmas.{passing_seconds, records_seconds, seconds, size_seconds}
use Rattle.core_places.proofs.AlikeLemmas.{found_alike, found_loose, number_alike, place_alike, stands_alike}
use Rattle.core_places.proofs.PutLemmas.{sets_same}
use Rattle.core_places.specs.Moved.{Alike, quiet_call, still_call, uncounted}
use Rattle.table_lists.specs.declared.ordered_lists.OrderKey.{OrderKey}
use Rattle.core_primitives.specs.Barred.{bars_start}
use Rattle.core_records.specs.Names.{keeps_waits}

quiet_instance : (o : Option Call) → (option_map_or (λ (c : Call). c.callee) (option_map quiet_call o) no_callee).instance ≡ (option_map_or (λ (c : Call). c.callee) o no_callee).instance
quiet_instance None = refl
quiet_instance (Some c) = refl

module _ (p : CoreImage) (whole : IsWhole p) (calls : Table (Single GuestTask)) (alike : Alike still_call calls p.calls) (sets : Table (Single WaitSet)) (sets_alike : Alike uncounted sets p.sets) (ready : List (Spot OrderKey)) where
  abbrev pub told : CoreImage
  told = record p { calls = calls; sets = sets; ready_calls = ready }

  pub at_told : (rep : ℕ) (t : Target) → AtPlace p rep t → AtPlace told rep t
  at_told rep Nothing at = tt
  at_told rep (ThreadOf n) at = at
  at_told rep (CallOf k) at = (at.0, stands_alike still_call calls p.calls alike (λ (g : GuestTask). g.number) (λ g. refl) (λ (g : GuestTask). g.call) quiet_call (λ g. refl) rep k at.1)
  at_told rep (WorkOf i) at = at
  at_told rep (SetOf x) at = (at.0, stands_alike uncounted sets p.sets sets_alike (λ (x : WaitSet). x.number) (λ x. refl) (λ (x : WaitSet). x.set) (λ s. s) (λ x. refl) rep x at.1)

  get_told : (k : ℕ) → option_map quiet_call (get (core_of told).calls k) ≡ option_map quiet_call (get (core_of p).calls k)
  get_told k = ap (option_map quiet_call) (get-records call_key calls.places k) ∙ (found_loose still_call calls p.calls alike (λ (g : GuestTask). g.number) (λ g. refl) (λ (g : GuestTask). g.call) quiet_call (λ g. refl) k ∙ sym (ap (option_map quiet_call) (get-records call_key p.calls.places k)))

  instance_told : (k : ℕ) → call_instance k (core_of told) ≡ call_instance k (core_of p)
  instance_told k = sym (quiet_instance (get (core_of told).calls k)) ∙ (ap (λ o. (option_map_or (λ (c : Call). c.callee) o no_callee).instance) (get_told k) ∙ quiet_instance (get (core_of p).calls k))

  quiet_kind : (o : Option Call) → option_map_or (λ (c : Call). c.kind) (option_map quiet_call o) ExportKind.Callback ≡ option_map_or (λ (c : Call). c.kind) o ExportKind.Callback
  quiet_kind None = refl
  quiet_kind (Some c) = refl

  kind_told : (k : ℕ) → kind_of k (core_of told) ≡ kind_of k (core_of p)
  kind_told k = sym (quiet_kind (get (core_of told).calls k)) ∙ (ap (λ o. option_map_or (λ (c : Call). c.kind) o ExportKind.Callback) (get_told k) ∙ quiet_kind (get (core_of p).calls k))

  home_told : (g : GuestThread) → HasHome p g → HasHome told g
  home_told g h = record { call = number_alike still_call calls p.calls alike (λ (g : GuestTask). g.number) (λ g. refl) (λ (g : GuestTask). g.call) quiet_call (λ g. refl) g.task ∙ h.call; there = h.there; instance = instance_told g.thread.call ∙ h.instance; barred = ap (bars_start g.thread.explicit) (kind_told g.thread.call) ∙ h.barred; waits = ap (keeps_waits p.version) (kind_told g.thread.call) ∙ h.waits; within = h.within; place = at_told g.state_target _ h.place; op_progress = at_told g.op_target _ h.op_progress }

  call_told : (g : GuestTask) → IsCallNamed p g → IsCallNamed told (still_call g)
  call_told g h = record { caller = at_told g.maker _ h.caller; first = at_told g.first (ThreadOf g.number) h.first; join = tt; group = h.group; positive = h.positive; waits = h.waits }

  calls_told : EachEntry (λ (g : GuestTask). AtPlace told g.joined (join_target g.call.join)) calls → EachEntry (IsCallNamed told) calls
  calls_told joins r q at =
      let one = place_alike still_call calls p.calls alike r q at in
      let h = subst (IsCallNamed told) one.1.1 (call_told one.0.entry.item (whole.named.calls r one.0 one.1.0)) in
      record { caller = h.caller; first = h.first; join = joins r q at; group = h.group; positive = h.positive; waits = h.waits }

  work_told : (w : WorkRecord) → IsWorkNamed p w → IsWorkNamed told w
  work_told w h = record { caller = at_told w.maker _ h.caller; join = at_told w.joined _ h.join; group = h.group }

  place_chain_told : (k : Where) → place_chain told k ≡ place_chain p k
  place_chain_told (WaitsOn x) = found_alike uncounted sets p.sets sets_alike (λ (x : WaitSet). x.number) (λ x. refl) (λ (x : WaitSet). x.waiters) (λ x. refl) x
  place_chain_told (StartsIn i) = refl
  place_chain_told (HeldIn i) = refl
  place_chain_told (UnderOf n) = refl
  place_chain_told (BlockedOn (Subtask.Guest k)) = found_alike still_call calls p.calls alike (λ (g : GuestTask). g.number) (λ g. refl) (λ (g : GuestTask). g.blocked) (λ g. refl) k
  place_chain_told (BlockedOn (Subtask.Host i)) = refl

  wait_chain_told : (k : ℕ) → wait_chain told k ≡ wait_chain p k
  wait_chain_told k = ap (option_and_then (λ c. c)) (found_alike still_call calls p.calls alike (λ (g : GuestTask). g.number) (λ g. refl) (λ (g : GuestTask). g.waits) (λ g. refl) k)

  ready_calls_told : (x : ℕ) → ready_call_chain told x ≡ ready_call_chain p x
  ready_calls_told x = found_alike uncounted sets p.sets sets_alike (λ (x : WaitSet). x.number) (λ x. refl) (λ (x : WaitSet). x.ready_calls) (λ x. refl) x

  ready_works_told : (x : ℕ) → ready_work_chain told x ≡ ready_work_chain p x
  ready_works_told x = found_alike uncounted sets p.sets sets_alike (λ (x : WaitSet). x.number) (λ x. refl) (λ (x : WaitSet). x.ready_works) (λ x. refl) x

  chained_told : IsIndex (ready_call_chain p) ready (filings ready_call calls) → AreChained told
  chained_told index = record {
    places = IsIndex-same_chains (place_chain p) p.places _ whole.chained.places (place_chain told) place_chain_told;
    waits = IsIndex-same_chains (wait_chain p) p.waits _ whole.chained.waits (wait_chain told) wait_chain_told;
    ready_calls = IsIndex-same_chains (ready_call_chain p) ready (filings ready_call calls) index (ready_call_chain told) ready_calls_told;
    ready_works = IsIndex-same_chains (ready_work_chain p) p.ready_works _ whole.chained.ready_works (ready_work_chain told) ready_works_told;
    polled = whole.chained.polled;
    rising = whole.chained.rising;
    marks = whole.chained.marks;
    instance_queues = whole.chained.instance_queues;
    low = whole.chained.low;
    behind = whole.chained.behind;
  }

  -- ---- Counts

  seen_quiet : (t : Table (Single GuestTask)) → records call_key (mapped (on_item still_call) t).places ≡ seconds quiet_call (records call_key t.places)
  seen_quiet t = records_seconds quiet_call call_key call_key (on_item still_call) (λ e. refl) t

  passing_told : (test : Call → Bool) → passing (λ c. test (quiet_call c)) (core_of told).calls ≡ passing (λ c. test (quiet_call c)) (core_of p).calls
  passing_told test = sym (ap (passing test) (seen_quiet calls) ∙ passing_seconds quiet_call test (records call_key calls.places)) ∙ (ap (λ (t : Table (Single GuestTask)). passing test (records call_key t.places)) alike ∙ (ap (passing test) (seen_quiet p.calls) ∙ passing_seconds quiet_call test (records call_key p.calls.places)))

  size_told : size (core_of told).calls ≡ size (core_of p).calls
  size_told = sym (ap size (seen_quiet calls) ∙ size_seconds quiet_call (records call_key calls.places)) ∙ (ap (λ (t : Table (Single GuestTask)). size (records call_key t.places)) alike ∙ (ap size (seen_quiet p.calls) ∙ size_seconds quiet_call (records call_key p.calls.places)))

  kept_told : EachEntry (IsCallKept (core_of told)) calls
  kept_told r q at = let one = place_alike still_call calls p.calls alike r q at in subst (λ (g : GuestTask). IsCallKept (core_of told) g) one.1.1 (whole.counted.calls r one.0 one.1.0)

  group_told : (g : TaskGroup) → IsGroupKept (core_of p) g → IsGroupKept (core_of told) g
  group_told g h = h ∙ ap (λ n. n + passing (is_of_group g.number) (core_of p).works) (sym (passing_told (λ c. c.group == g.number)))

  results_told : (k : ℕ) (c : Call) → get (core_of told).calls k ≡ Some c → c.goal ≡ Goal.Main → HasRoom k p.results
  results_told k c is main = by (get (core_of p).calls k) refl (sym (ap (option_map quiet_call) is) ∙ get_told k)
    where
      by : (o : Option Call) → get (core_of p).calls k ≡ o → Some (quiet_call c) ≡ option_map quiet_call o → HasRoom k p.results
      by None was same = absurd (cc)
      by (Some d) was same = whole.counted.results k d was (sym (ap (λ (x : Call). x.goal) (same_Some (quiet_call c) (quiet_call d) same)) ∙ main)

  counted_told : EachEntry (IsSetKept (core_of told)) sets → AreCounted told
  unfolding table_use
  counted_told kept = record {
    kept = record { used = whole.counted.kept.used ∙ ap₂ (λ (m k : ℕ). length (core_of p).groups + m + 2 * size (core_of p).threads + count_by (λ e. is_host_call e.1) (core_of p).works.list + k) (sym size_told) (sym (ap size (sets_same sets p.sets sets_alike))); groups = whole.counted.kept.groups; live = whole.counted.kept.live };
    calls = kept_told;
    sets = kept;
    groups = λ r q at. group_told q.entry.item (whole.counted.groups r q at);
    few = whole.counted.few;
    finished = whole.counted.finished;
    high = whole.counted.high;
    low = whole.counted.low;
    works = whole.counted.works;
    results = results_told;
  }

  pub told_whole : EachEntry (λ (g : GuestTask). AtPlace told g.joined (join_target g.call.join)) calls → EachEntry (IsSetKept (core_of told)) sets → IsIndex (ready_call_chain p) ready (filings ready_call calls) → IsWhole told
  told_whole joins kept index = record {
    named = record {
      threads = λ r q at. home_told q.entry.item (whole.named.threads r q at);
      calls = calls_told joins;
      works = λ r q at. work_told q.entry.item (whole.named.works r q at);
      switch = whole.named.switch;
    };
    chained = chained_told index;
    nodes = record { marks = whole.nodes.marks; instance_queues = whole.nodes.instance_queues; callers = whole.nodes.callers; works = whole.nodes.works; apart = whole.nodes.apart };
    counted = counted_told kept;
  }
