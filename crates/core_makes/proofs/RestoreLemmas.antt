-- Tables that hold at each place what they held: the core is sound, and nothing is seen of it.
use Rattle.core_records.specs.Keys.{call_seat_key, thread_seat_key, work_seat_key}
use Rattle.core_records.proofs.Core.{AreEnded, [], ap, ap₂, AreHandlesNamed, AreKept, arith, AtPlace, bare, bare_call, bare_thread, bare_work, blocked_key, BlockedOn, Call, call_instance, call_key, callers_chain, callers_in, callers_key, callers_row, CallOf, cases_eq, chained, children_of, children_of-deleted, children_of-pushed, children_of-with_entry, cond, Core, core_of, deleted, Each, Entry, entry_keyed, eq-eqb, Filing, filings, follower, found, found_record, get, get-records, group_key, HandleKind, HasHome, HaveNodes, HeldIn, host_entry, IfSome, image, inl, inr, is_moving, IsCallKept, IsCallNamed, IsFollower, IsGroupKept, IsHeldNamed, IsIndex-same, IsIndex-same_chains, IsNamedAt, IsRows, IsKeyed, IsSetKept, IsSome, IsTable, IsTable-with_entry, IsWhole, IsWorkNamed, item_at, item_in, item_of, key_in, Kinds, kinds, tracked_in, tracked_of, List, live_chain, live_work, map, mapped, ne_eqb, next_place, next_place_free, None, Nothing, number_in, of_serial, on_item, Option, option_map, or_record, CoreImage, passing, place_at, place_at-deleted, place_at-mapped, place_at-pushed, place_chain, place_filing, Placed, placed_as, push_entry, pushed, ready_call, ready_call_chain, ready_calls_key, ready_work, ready_work_chain, ready_works_key, records, refl, Rep, said, same_map, set_key, SetOf, slice_get, slice_get-map, Some, Sound, SoundTable, Spot, standing, StandsAt, subst, Subtask, suc, sym, Table, Tag, tag_of, tags_in, Target, thread_entry, thread_key, ThreadOf, trimmed, under_key, UnderOf, WaitableKind, waiters_key, WaitsOn, Where, with_entry, with_first, with_nodes, work_blocked_key, work_key, WorkOf, ℕ, ◌∙◌, ◌∷◌, ◌≡◌, StartsIn, option_and_then, wait_chain, wait_filing, waits_key, keeps_waits}
use Rattle.core_records.specs.declared.{call_records.GuestTask.GuestTask, call_records.TaskGroup.TaskGroup, instance_records.InstanceRecord.InstanceRecord, set_records.WaitSet.WaitSet, single.Single.Single, thread_records.Follower.Follower, thread_records.GuestThread.GuestThread, thread_records.Queued.Queued, work_records.WorkRecord.WorkRecord}
use Rattle.core_makes.proofs.MoreLemmas.{IsRows-known, at_unwritten, at_written}
use Rattle.core_makes.specs.Restored.{IsRestored, Restores}
use Rattle.machine_data.specs.Read.{kind_of}
use Rattle.core_primitives.specs.Barred.{bars_start}

-- ---- Names in more tables

module _ (k l : Kinds) (more : (rep : ℕ) (t : Target) → IsNamedAt k rep t → IsNamedAt l rep t) where
  held_grown : (h : HandleKind) (r : Rep) → IsHeldNamed k h r → IsHeldNamed l h r
  held_grown (HandleKind.Waitable WaitableKind.GuestSubtask) r is = more r.id (CallOf r.serial) is
  held_grown (HandleKind.Waitable WaitableKind.HostSubtask) r is = more r.id (WorkOf r.serial) is
  held_grown (HandleKind.Waitable WaitableKind.Stream) r is = is
  held_grown (HandleKind.Waitable WaitableKind.Future) r is = is
  held_grown HandleKind.Set r is = more r.id (SetOf r.serial) is

  pub handles_grown : (i : InstanceRecord) → AreHandlesNamed k i → AreHandlesNamed l i
  handles_grown i named = record {
    small = named.small;
    small_threads = named.small_threads;
    handles = λ h x live. held_grown x.kind x.rep (named.handles h x live);
    thread_handles = λ h r live. more r.id (ThreadOf r.serial) (named.thread_handles h r live);
  }

-- ---- What is seen

abbrev shown : {X : Type 0} → Option (Option X) → Option X
shown None = None
shown (Some o) = o

all_free : (xs : List (Option Tag)) → ((r : ℕ) → shown (slice_get xs r) ≡ None) → trimmed xs ≡ []
all_free [] none = refl
all_free (None ∷ xs) none = ap (with_first None) (all_free xs (λ r. none (suc r)))
all_free (Some x ∷ xs) none = absurd (let here = none 0 in cc)

trimmed_same : (xs ys : List (Option Tag)) → ((r : ℕ) → shown (slice_get xs r) ≡ shown (slice_get ys r)) → trimmed xs ≡ trimmed ys
trimmed_same [] ys same = sym (all_free ys (λ r. sym (same r)))
trimmed_same (x ∷ xs) [] same = all_free (x ∷ xs) same
trimmed_same (x ∷ xs) (y ∷ ys) same = ap₂ with_first (same 0) (trimmed_same xs ys (λ r. same (suc r)))

module _ {E X : Type 0} (key : E → Option (ℕ × X)) where
  shown_at : (t : Table E) (r : ℕ) → shown (slice_get (map (tag_of key) t.places) r) ≡ tag_of key (place_at t r)
  shown_at t r = ap shown (slice_get-map (tag_of key) t.places r) ∙ by_place (slice_get t.places r)
    where
      by_place : (o : Option (Option (Placed E))) → shown (option_map (tag_of key) o) ≡ tag_of key (standing o)
      by_place None = refl
      by_place (Some o) = refl

  pub tags_same : (t u : Table E) → ((r : ℕ) → place_at u r ≡ place_at t r) → tags_in key u ≡ tags_in key t
  tags_same t u same = trimmed_same (map (tag_of key) u.places) (map (tag_of key) t.places) (λ r. shown_at u r ∙ (ap (tag_of key) (same r) ∙ sym (shown_at t r)))

-- ---- Tables

abbrev pub SamePlaces : {E : Type 0} → Table E → Table E → Type 0
SamePlaces t u = (r : ℕ) → place_at u r ≡ place_at t r

module _ {E X : Type 0} (key : E → Option (ℕ × X)) where
  found_by_place : (n : ℕ) (ps qs : List (Option (Placed E))) → ((r : ℕ) → standing (slice_get qs r) ≡ standing (slice_get ps r)) → found_record key n qs ≡ found_record key n ps
  unfolding found_record
  found_by_place n [] [] same = refl
  found_by_place n [] (o ∷ qs) same = ap₂ (or_record n) (ap (key_in key) (same 0)) (found_by_place n [] qs (λ r. same (suc r)))
  found_by_place n (o ∷ ps) [] same = ap₂ (or_record n) (ap (key_in key) (same 0)) (found_by_place n ps [] (λ r. same (suc r)))
  found_by_place n (o ∷ ps) (e ∷ qs) same = ap₂ (or_record n) (ap (key_in key) (same 0)) (found_by_place n ps qs (λ r. same (suc r)))

  module _ (t u : Table E) (same : SamePlaces t u) where
    pub found_same : (n : ℕ) → found_record key n u.places ≡ found_record key n t.places
    found_same n = found_by_place n t.places u.places same

    pub records_same : records key u.places ≡ records key t.places
    records_same = same_map _ _ (λ n. get-records key u.places n ∙ (found_same n ∙ sym (get-records key t.places n)))

    pub stands_same : (r n : ℕ) → StandsAt key t r n → StandsAt key u r n
    stands_same r n at some = ap (λ o. number_in (key_in key o)) (same r) ∙ at (subst (λ (o : Option X). IsSome o) (found_same n) some)

pub filings_same : {E K P : Type 0} (says : ℕ → ℕ → E → Option (Filing K P)) (t u : Table E) → SamePlaces t u → (r : ℕ) → filings says u r ≡ filings says t r
unfolding filings
filings_same says t u same r = ap (said says r) (same r)

mapped_same : {E F : Type 0} (f : E → F) (t u : Table E) → SamePlaces t u → SamePlaces (mapped f t) (mapped f u)
mapped_same f t u same r = place_at-mapped f u r ∙ (ap (placed_as f) (same r) ∙ sym (place_at-mapped f t r))

nodes_kept : {T P : Type 0} (node : T → ℕ) (t u : Table (Single T)) (links : List (Spot P)) → SamePlaces t u → HaveNodes node t links → HaveNodes node u links
nodes_kept node t u links same have = record {
  made = λ r q at. have.made r q (sym (same r) ∙ at);
  own = λ r s q w at_q at_w. have.own r s q w (sym (same r) ∙ at_q) (sym (same s) ∙ at_w);
}

IsRows-same_chains : {K P : Type 0} (chain chain' : K → Option ℕ) (node : P → ℕ) (Known : P → Type 0) (links : List (Spot P)) (list list' : K → List P) → ((k : K) → chain' k ≡ chain k) → ((k : K) → list' k ≡ list k) → IsRows chain node Known links list → IsRows chain' node Known links list'
IsRows-same_chains chain chain' node Known links list list' chains lists rows = record {
  live = λ k c at. rows.live k c (sym (chains k) ∙ at);
  own_chain = λ j k c at_j at_k. rows.own_chain j k c (sym (chains j) ∙ at_j) (sym (chains k) ∙ at_k);
  has_list = λ k c at. rows.has_list k c (sym (chains k) ∙ at) ∙ ap (with_nodes node) (sym (lists k));
  all_known = λ k c at. subst (Each Known) (sym (lists k)) (rows.all_known k c (sym (chains k) ∙ at));
  owner = λ n c v link. let o = rows.owner n c v link in (o.0, chains o.0 ∙ o.1);
}

-- ---- The parts of a core

module _ (p : CoreImage) (threads : Table (Single GuestThread)) (calls : Table (Single GuestTask)) (works : Table (Single WorkRecord)) (sets : Table (Single WaitSet)) (groups : Table (Single TaskGroup))
    (same_threads : SamePlaces p.threads threads) (same_calls : SamePlaces p.calls calls) (same_works : SamePlaces p.works works) (same_sets : SamePlaces p.sets sets) (same_groups : SamePlaces p.groups groups) where
  abbrev pub restored : CoreImage
  restored = record p { threads = threads; calls = calls; works = works; sets = sets; groups = groups }

  pub core_same : core_of restored ≡ core_of p
  core_same = rw (records_same call_key p.calls calls same_calls, records_same thread_key p.threads threads same_threads, records_same (callers_in p.behind) p.threads threads same_threads, records_same work_key p.works works same_works, records_same set_key p.sets sets same_sets, records_same group_key p.groups groups same_groups) refl

  pub at_restored : (rep : ℕ) (t : Target) → AtPlace p rep t → AtPlace restored rep t
  at_restored rep Nothing at = tt
  at_restored rep (ThreadOf n) at = (at.0, stands_same thread_key p.threads threads same_threads rep n at.1)
  at_restored rep (CallOf n) at = (at.0, stands_same call_key p.calls calls same_calls rep n at.1)
  at_restored rep (WorkOf n) at = (at.0, stands_same work_key p.works works same_works rep n at.1)
  at_restored rep (SetOf n) at = (at.0, stands_same set_key p.sets sets same_sets rep n at.1)

  home_kept : (g : GuestThread) → HasHome p g → HasHome restored g
  home_kept g h = record {
    call = ap (λ o. number_in (key_in call_key o)) (same_calls g.task) ∙ h.call;
    there = h.there;
    instance = ap (λ (s : Core). call_instance g.thread.call s) core_same ∙ h.instance;
    barred = ap (λ s. bars_start g.thread.explicit (kind_of g.thread.call s)) core_same ∙ h.barred;
    waits = ap (λ s. keeps_waits p.version (kind_of g.thread.call s)) core_same ∙ h.waits;
    within = h.within;
    place = at_restored g.state_target _ h.place;
    op_progress = at_restored g.op_target _ h.op_progress;
  }

  call_kept : (g : GuestTask) → IsCallNamed p g → IsCallNamed restored g
  call_kept g h = record { caller = at_restored g.maker _ h.caller; first = at_restored g.first (ThreadOf g.number) h.first; join = at_restored g.joined _ h.join; group = ap (λ o. number_in (key_in group_key o)) (same_groups g.group) ∙ h.group; positive = h.positive; waits = h.waits }

  work_kept : (w : WorkRecord) → IsWorkNamed p w → IsWorkNamed restored w
  work_kept w h = record { caller = at_restored w.maker _ h.caller; join = at_restored w.joined _ h.join; group = λ n is. let one = h.group n is in (ap (λ o. number_in (key_in group_key o)) (same_groups w.group) ∙ one.0, one.1) }

  follower_kept : (f : Follower) → IsFollower p f → IsFollower restored f
  follower_kept f is = ap (option_map (λ (q : Placed (Single GuestThread)). follower f.place q.entry.item)) (same_threads f.place) ∙ is

  switch_kept : (o : Option Follower) → IfSome o (IsFollower p) → IfSome o (IsFollower restored)
  switch_kept None is = is
  switch_kept (Some f) is = follower_kept f is

  chains_kept : (k : Where) → place_chain restored k ≡ place_chain p k
  chains_kept (WaitsOn n) = found_same waiters_key p.sets sets same_sets n
  chains_kept (StartsIn i) = refl
  chains_kept (HeldIn i) = refl
  chains_kept (UnderOf n) = found_same under_key p.threads threads same_threads n
  chains_kept (BlockedOn (Subtask.Guest k)) = found_same blocked_key p.calls calls same_calls k
  chains_kept (BlockedOn (Subtask.Host i)) = found_same work_blocked_key p.works works same_works i

  order_key_kept : (x : Queued) → IsKeyed p x → IsKeyed restored x
  order_key_kept x is = by x.entry is
    where
      by : (e : Entry) → entry_keyed p e x.place ≡ Some x → entry_keyed restored e x.place ≡ Some x
      by (Entry.Thread n) is = ap (option_map (λ (q : Placed (Single GuestThread)). thread_entry x.place q.entry.item)) (same_threads x.place) ∙ is
      by (Entry.Push i) is = ap (option_map (λ (q : Placed (Single WorkRecord)). push_entry x.place q.entry.item)) (same_works x.place) ∙ is
      by (Entry.Host i) is = ap (option_map (λ (q : Placed (Single WorkRecord)). host_entry x.place q.entry.item)) (same_works x.place) ∙ is

  pub whole_restored : IsWhole p → IsWhole restored
  whole_restored whole = record {
    named = record {
      threads = λ rep q at. home_kept q.entry.item (whole.named.threads rep q (sym (same_threads rep) ∙ at));
      calls = λ rep q at. call_kept q.entry.item (whole.named.calls rep q (sym (same_calls rep) ∙ at));
      works = λ rep q at. work_kept q.entry.item (whole.named.works rep q (sym (same_works rep) ∙ at));
      switch = switch_kept p.switch whole.named.switch;
    };
    chained = record {
      places = IsIndex-same (place_chain restored) p.places (filings (place_filing p.version) p.threads) (IsIndex-same_chains (place_chain p) p.places (filings (place_filing p.version) p.threads) whole.chained.places (place_chain restored) chains_kept) (filings (place_filing p.version) threads) (filings_same (place_filing p.version) p.threads threads same_threads);
      waits = IsIndex-same (wait_chain restored) p.waits (filings wait_filing p.threads) (IsIndex-same_chains (wait_chain p) p.waits (filings wait_filing p.threads) whole.chained.waits (wait_chain restored) (λ k. ap (option_and_then (λ c. c)) (found_same waits_key p.calls calls same_calls k))) (filings wait_filing threads) (filings_same wait_filing p.threads threads same_threads);
      ready_calls = IsIndex-same (ready_call_chain restored) p.ready_calls (filings ready_call p.calls) (IsIndex-same_chains (ready_call_chain p) p.ready_calls (filings ready_call p.calls) whole.chained.ready_calls (ready_call_chain restored) (found_same ready_calls_key p.sets sets same_sets)) (filings ready_call calls) (filings_same ready_call p.calls calls same_calls);
      ready_works = IsIndex-same (ready_work_chain restored) p.ready_works (filings ready_work p.works) (IsIndex-same_chains (ready_work_chain p) p.ready_works (filings ready_work p.works) whole.chained.ready_works (ready_work_chain restored) (found_same ready_works_key p.sets sets same_sets)) (filings ready_work works) (filings_same ready_work p.works works same_works);
      polled = IsIndex-same (live_chain p) p.polled (filings live_work p.works) whole.chained.polled (filings live_work works) (filings_same live_work p.works works same_works);
      rising = whole.chained.rising;
      marks = IsRows-known _ _ (IsKeyed p) (IsKeyed restored) _ _ order_key_kept whole.chained.marks;
      instance_queues = IsRows-known _ _ (IsKeyed p) (IsKeyed restored) _ _ order_key_kept whole.chained.instance_queues;
      low = whole.chained.low;
      behind = IsRows-same_chains (callers_chain p) (callers_chain restored) _ (IsFollower restored) p.behind (callers_row p) (callers_row restored) (found_same callers_key p.threads threads same_threads) (λ n. ap (chained p.behind) (found_same callers_key p.threads threads same_threads n))
          (IsRows-known _ _ (IsFollower p) (IsFollower restored) _ _ follower_kept whole.chained.behind);
    };
    nodes = record {
      marks = nodes_kept _ p.threads threads p.marks same_threads whole.nodes.marks;
      instance_queues = nodes_kept _ p.threads threads p.instance_queues same_threads whole.nodes.instance_queues;
      callers = nodes_kept _ p.threads threads p.behind same_threads whole.nodes.callers;
      works = nodes_kept _ p.works works p.marks same_works whole.nodes.works;
      apart = λ r s q w at_q at_w. whole.nodes.apart r s q w (sym (same_threads r) ∙ at_q) (sym (same_works s) ∙ at_w);
    };
    counted = record {
      kept = subst (λ (s : Core). AreKept s p.kept) (sym core_same) whole.counted.kept;
      calls = λ rep q at. subst (λ (s : Core). IsCallKept s q.entry.item) (sym core_same) (whole.counted.calls rep q (sym (same_calls rep) ∙ at));
      sets = λ rep q at. subst (λ (s : Core). IsSetKept s q.entry.item) (sym core_same) (whole.counted.sets rep q (sym (same_sets rep) ∙ at));
      groups = λ rep q at. subst (λ (s : Core). IsGroupKept s q.entry.item) (sym core_same) (whole.counted.groups rep q (sym (same_groups rep) ∙ at));
      few = whole.counted.few;
      finished = whole.counted.finished;
      high = whole.counted.high;
      low = whole.counted.low;
      works = λ rep q at. whole.counted.works rep q (sym (same_works rep) ∙ at);
      results = λ k c at. whole.counted.results k c (sym (ap (λ (s : Core). get s.calls k) core_same) ∙ at);
    };
  }

-- ---- A core

module _ {E X : Type 0} (key : E → Option (ℕ × X)) (t u : Table E) (made : ℕ) (sound : SoundTable key t made) (back : Restores t u) where
  table_restored : SoundTable key u made
  table_restored = record {
    table = back.table;
    childless = λ r. back.children r ∙ sound.childless r;
    apart = record { one_place = λ r s n x y at_r at_s. sound.apart.one_place r s n x y (sym (ap (key_in key) (back.places r)) ∙ at_r) (sym (ap (key_in key) (back.places s)) ∙ at_s) };
    above_zero = found_same key t u back.places 0 ∙ sound.above_zero;
    later = λ n later. found_same key t u back.places n ∙ sound.later n later;
  }

module _ (p q : CoreImage) (back : IsRestored p q) where
  abbrev again : CoreImage
  again = restored p q.threads q.calls q.works q.sets q.groups back.threads.places back.calls.places back.works.places back.sets.places back.groups.places

  core_again : core_of again ≡ core_of p
  core_again = core_same p q.threads q.calls q.works q.sets q.groups back.threads.places back.calls.places back.works.places back.sets.places back.groups.places

  known_again : tracked_in again ≡ tracked_in p
  known_again = ap (λ (s : Core). tracked_of p.ended s.groups p.made.groups) core_again

  pub image_restored : image q ≡ image p
  image_restored =
      ap image back.rest ∙ rw (known_again, core_again, tags_same thread_key p.threads q.threads back.threads.places, tags_same call_key p.calls q.calls back.calls.places, tags_same work_key p.works q.works back.works.places, tags_same set_key p.sets q.sets back.sets.places, records_same thread_seat_key p.threads q.threads back.threads.places, records_same call_seat_key p.calls q.calls back.calls.places, records_same work_seat_key p.works q.works back.works.places) refl

  module _ (sound : Sound p) where
    threads_bare : SamePlaces (bare p).threads (bare again).threads
    threads_bare = mapped_same (on_item bare_thread) p.threads q.threads back.threads.places

    calls_bare : SamePlaces (bare p).calls (bare again).calls
    calls_bare = mapped_same (on_item bare_call) p.calls q.calls back.calls.places

    works_bare : SamePlaces (bare p).works (bare again).works
    works_bare = mapped_same (on_item bare_work) p.works q.works back.works.places

    pub sound_restored : Sound q
    sound_restored = subst Sound (sym back.rest) (record {
      tables = record {
        threads = table_restored thread_key p.threads q.threads p.made.threads sound.tables.threads back.threads;
        calls = table_restored call_key p.calls q.calls p.made.threads sound.tables.calls back.calls;
        works = table_restored work_key p.works q.works p.made.works sound.tables.works back.works;
        sets = table_restored set_key p.sets q.sets p.made.sets sound.tables.sets back.sets;
        groups = table_restored group_key p.groups q.groups p.made.groups sound.tables.groups back.groups;
      };
      whole = whole_restored (bare p) (bare again).threads (bare again).calls (bare again).works q.sets q.groups threads_bare calls_bare works_bare back.sets.places back.groups.places sound.whole;
      interesting = sound.interesting ∙ ap (λ (s : Core). passing (λ (c : Call). c.interesting) s.calls) (sym core_again);
      moving = sound.moving ∙ ap (λ (s : Core). passing is_moving s.works) (sym core_again);
      handles = λ i r at. handles_grown (kinds (bare p)) (kinds (bare again)) (at_restored (bare p) (bare again).threads (bare again).calls (bare again).works q.sets q.groups threads_bare calls_bare works_bare back.sets.places back.groups.places) r (sound.handles i r at);
      owned = λ rep g at h is. sound.owned rep g (sym (back.threads.places rep) ∙ at) h is;
      live = sound.live;
      ended = subst (λ (s : Core). AreEnded p.ended p.end_room s.groups p.made.groups) (sym core_again) sound.ended;
    })

-- ---- How tables are restored

pub Restores-same : {E : Type 0} (t : Table E) → IsTable t → Restores t t
Restores-same t table = record { table = table; places = λ r. refl; children = λ r. refl }

-- what was pushed is deleted, also where the table was restored since
module _ {E : Type 0} (t u v : Table E) (e : E) (table : IsTable t) (back : Restores (pushed e t) u) (rep : ℕ) (at : rep ≡ next_place t) (is : v ≡ deleted rep u) (sound : IsTable v) where
  new : place_at u (next_place t) ≡ Some (record { serial = t.given; parent = None; entry = e })
  new = back.places (next_place t) ∙ (place_at-pushed t e (next_place t) table ∙ ap (λ b. cond b (Some (record { serial = t.given; parent = None; entry = e })) (place_at t (next_place t))) (eq-eqb (next_place t) (next_place t) refl))

  deleted_is : v ≡ deleted (next_place t) u
  deleted_is = is ∙ ap (λ r. deleted r u) at

  pub Restores-deleted : Restores t v
  Restores-deleted = record {
    table = sound;
    places = λ r. ap (λ (w : Table E). place_at w r) deleted_is ∙ (place_at-deleted u (next_place t) r ∙ elim (cases_eq r (next_place t)) [
      | inl same ↦ ap (λ b. cond b None (place_at u r)) (eq-eqb r (next_place t) same) ∙ sym (ap (place_at t) same ∙ next_place_free t table)
      | inr other ↦ ap (λ b. cond b None (place_at u r)) (ne_eqb r (next_place t) other) ∙ (back.places r ∙ (place_at-pushed t e r table ∙ ap (λ b. cond b (Some (record { serial = t.given; parent = None; entry = e })) (place_at t r)) (ne_eqb r (next_place t) other)))
    ]);
    children = λ r.
        let less = children_of-deleted u (next_place t) r (record { serial = t.given; parent = None; entry = e }) new in
        let was = back.children r in
        let more = children_of-pushed t e r table in
        let here : children_of v r ≡ children_of (deleted (next_place t) u) r = ap (λ (w : Table E). children_of w r) deleted_is in
        omega arith;
  }

-- ---- What is restored

-- the parts differ in these tables alone, each of which is restored
pub restored_from : (p q : CoreImage) (t : Table (Single GuestThread)) (k : Table (Single GuestTask)) (w : Table (Single WorkRecord)) (x : Table (Single WaitSet)) (g : Table (Single TaskGroup)) → q ≡ record p { threads = t; calls = k; works = w; sets = x; groups = g } → Restores p.threads t → Restores p.calls k → Restores p.works w → Restores p.sets x → Restores p.groups g → IsRestored p q
restored_from p q t k w x g is rt rk rw_ rx rg = record {
  threads = subst (Restores p.threads) (sym (ap (λ (y : CoreImage). y.threads) is)) rt;
  calls = subst (Restores p.calls) (sym (ap (λ (y : CoreImage). y.calls) is)) rk;
  works = subst (Restores p.works) (sym (ap (λ (y : CoreImage). y.works) is)) rw_;
  sets = subst (Restores p.sets) (sym (ap (λ (y : CoreImage). y.sets) is)) rx;
  groups = subst (Restores p.groups) (sym (ap (λ (y : CoreImage). y.groups) is)) rg;
  rest = is ∙ sym (ap (λ (y : CoreImage). record p { threads = y.threads; calls = y.calls; works = y.works; sets = y.sets; groups = y.groups }) is);
}

-- an id finds in a restored table what it found
pub item_restored : {T : Type 0} (t u : Table (Single T)) → Restores t u → (rep serial : ℕ) → item_at item_of u rep serial ≡ item_at item_of t rep serial
unfolding found
item_restored t u back rep serial = ap (λ o. item_in item_of (of_serial serial o)) (back.places rep)

-- what was written is written back
module _ {T : Type 0} (t u v : Table (Single T)) (rep : ℕ) (q : Placed (Single T)) (at : place_at t rep ≡ Some q) (g h : T) (was : q.entry ≡ record { item = g }) (is : u ≡ with_entry rep (record { item = h }) t) (back : v ≡ with_entry rep (record { item = g }) u) (table : IsTable t) where
  there : place_at u rep ≡ Some (record q { entry = record { item = h } })
  there = ap (λ (w : Table (Single T)). place_at w rep) is ∙ at_written t rep q at h

  pub Restores-written : Restores t v
  Restores-written = record {
    table = subst IsTable (sym back) (IsTable-with_entry u rep (record { item = g }) (record q { entry = record { item = h } }) there (subst IsTable (sym is) (IsTable-with_entry t rep (record { item = h }) q at table)));
    places = λ r. elim (cases_eq r rep) [
      | inl same ↦
          ap (place_at v) same
          ∙ (ap (λ (w : Table (Single T)). place_at w rep) back
          ∙ (at_written u rep (record q { entry = record { item = h } }) there g
          ∙ (ap (λ (e : Single T). Some (record q { entry = e })) (sym was) ∙ sym (ap (place_at t) same ∙ at))))
      | inr other ↦
          ap (λ (w : Table (Single T)). place_at w r) back
          ∙ (at_unwritten u rep (record q { entry = record { item = h } }) there g r other
          ∙ (ap (λ (w : Table (Single T)). place_at w r) is ∙ at_unwritten t rep q at h r other))
    ];
    children = λ r.
        ap (λ (w : Table (Single T)). children_of w r) back
        ∙ (children_of-with_entry u rep r (record { item = g }) (record q { entry = record { item = h } }) there
        ∙ (ap (λ (w : Table (Single T)). children_of w r) is ∙ children_of-with_entry t rep r (record { item = h }) q at));
  }

-- what was pushed is what the table is
pub Restores-pushed : {T : Type 0} (t u v : Table (Single T)) (g : T) → IsTable u → u ≡ pushed (record { item = g }) t → v ≡ u → Restores (pushed (record { item = g }) t) v
Restores-pushed t u v g table is same = subst (Restores (pushed (record { item = g }) t)) (sym (same ∙ is)) (Restores-same (pushed (record { item = g }) t) (subst IsTable is table))
