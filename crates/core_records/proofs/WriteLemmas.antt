-- A write of fields on which nothing hangs is the machine's change of the record.
use Rattle.core_records.proofs.Core.{[], ap, ap₂, AreHandlesNamed, arith, bare, bare_call, bare_thread, bare_work, Bool, Call, call_key, call_of, callers_in, cases_eq, change, cond, EachEntry, entry_of, entry_put, eq-eqb, Err, false, GuestTaskKey, HostTaskKey, inl, inr, is_moving, IsSoundCore, IsWhole, item_at, item_of, Kinds, kinds, List, loose_call, loose_work, mapped, mapped-with_entry_same, ne_eqb, None, Ok, on_call, on_core, on_item, on_thread, on_work, one_if_passes, Option, OwnsHandle, parts_of, passing, place_at, place_at-with_entry, Placed, Records, records, refl, ResourceTableError, same_Some, Script, seen, set_uninteresting, slice_get, Some, StateView, subst, sym, Table, TableId, Tag, tags_in, Thread, thread_key, thread_of, ThreadKey, true, uninterested, unmoved, with_entry, Work, work_key, work_of, ℕ, ◌+◌, ◌==◌, ◌∙◌, ◌≡◌, ◌≤◌, ◌⊎◌}
use Rattle.core_records.specs.declared.{call_records.GuestTask.GuestTask, instance_records.InstanceRecord.InstanceRecord, parts.CoreParts.CoreParts, single.Single.Single, thread_records.GuestThread.GuestThread, work_records.WorkRecord.WorkRecord}
use Rattle.core_records.proofs.KindLemmas.{item_stands, passing_written, records_changed, refused_write, table_written, tags_written}
use Rattle.core_records.proofs.ReadLemmas.{call_shown, thread_shown, work_shown}
use Rattle.core_records.proofs.TableLemmas.{records_unseen}
use Rattle.core_records.specs.Keys.{call_seat_key, thread_seat_key, work_seat_key}
use Rattle.machine_rules.specs.Picks.{ThreadSeat}

-- what the handles of all instances name
abbrev HandlesNamed : Kinds → CoreParts → Type 0
HandlesNamed k a = (i : ℕ) (r : InstanceRecord) → slice_get a.instances.items i ≡ Some r → AreHandlesNamed k r

-- what holds of each entry holds of each after one was written of which it holds
pub each_written : {T : Type 0} (t : Table (Single T)) (rep : ℕ) (p : Placed (Single T)) → place_at t rep ≡ Some p → (P : T → Type 0) (h : T) → P h → EachEntry P t → EachEntry P (with_entry rep (entry_of h) t)
each_written {T} t rep p at P h new each r q there = by_place (cases_eq r rep)
  where
    is : (b : Bool) → (r == rep) ≡ b → cond b (entry_put (entry_of h) (place_at t r)) (place_at t r) ≡ Some q
    is b same = ap (λ c. cond c (entry_put (entry_of h) (place_at t r)) (place_at t r)) (sym same) ∙ (sym (place_at-with_entry t rep r (entry_of h)) ∙ there)

    by_place : (r ≡ rep) ⊎ (r ≡ rep → ⊥) → P q.entry.item
    by_place (inl here) =
        let one : Some (record p { entry = entry_of h }) ≡ Some q = ap (entry_put (entry_of h)) (sym at ∙ ap (place_at t) (sym here)) ∙ is true (eq-eqb r rep here) in
        subst (λ (x : Placed (Single T)). P x.entry.item) (same_Some _ q one) new
    by_place (inr other) = each r q (is false (ne_eqb r rep other))

-- a thread, a call and a work as far as another write may see it
abbrev pub close_thread : GuestThread → GuestThread
close_thread g = record g { thread = record g.thread { position = 0; registers = []; script = Script.Start; saved_own = None; saved_callee = None } }

abbrev pub close_call : GuestTask → GuestTask
close_call g = record g { call = loose_call g.call }

abbrev pub close_work : WorkRecord → WorkRecord
close_work w = record w { work = loose_work w.work }

-- ---- Threads

module _ (a : CoreParts) (sound : IsSoundCore a) (id : TableId ThreadKey) where
  -- under an id that is refused nothing changes
  pub thread_nowhere : (why : ResourceTableError) → Err why ≡ item_at item_of a.threads id.rep id.serial → (f : Thread → Thread) → seen a ≡ on_core (on_thread (thread_of (seen a) id) f) (seen a)
  unfolding seen IsSoundCore on_thread
  thread_nowhere why is f =
      ap (λ (m : Records Thread). record (seen a) { core = record (seen a).core { threads = m } })
      (sym (refused_write (λ (g : GuestThread). g.number) (λ (g : GuestThread). g.thread) a.threads a.made.threads sound.tables.threads id.rep id.serial why is f)
      ∙ ap (λ n. change n f (records thread_key a.threads.places)) (sym (thread_shown a id)))

  module _ (g : GuestThread) (is : Ok g ≡ item_at item_of a.threads id.rep id.serial) (h : GuestThread) (thread_loose : bare_thread h ≡ bare_thread g) where
    abbrev pub thread_after : CoreParts
    thread_after = record a { threads = with_entry id.rep (entry_of h) a.threads }

    thread_same : h.number ≡ g.number
    thread_same = ap (λ (x : GuestThread). x.number) thread_loose

    thread_stands : (p : Placed (Single GuestThread)) × ((place_at a.threads id.rep ≡ Some p) × ((p.serial ≡ id.serial) × (p.entry ≡ entry_of g)))
    unfolding IsSoundCore
    thread_stands = item_stands (λ (g : GuestThread). g.number) (λ (g : GuestThread). g.thread) a.threads a.made.threads sound.tables.threads id.rep id.serial g is

    thread_bare : mapped (on_item bare_thread) (with_entry id.rep (entry_of h) a.threads) ≡ mapped (on_item bare_thread) a.threads
    thread_bare = mapped-with_entry_same (on_item bare_thread) a.threads id.rep (entry_of h) thread_stands.0 thread_stands.1.0 (ap entry_of thread_loose ∙ ap (on_item bare_thread) (sym thread_stands.1.1.1))

    pub thread_put_sound : OwnsHandle (parts_of a) h → IsSoundCore thread_after
    unfolding IsSoundCore
    thread_put_sound owns = record {
      tables = record { threads = table_written (λ (g : GuestThread). g.number) (λ (g : GuestThread). g.thread) a.threads a.made.threads sound.tables.threads id.rep id.serial g is h thread_same; calls = sound.tables.calls; works = sound.tables.works; sets = sound.tables.sets; groups = sound.tables.groups };
      whole = subst (λ (t : Table (Single GuestThread)). IsWhole (record (bare (parts_of a)) { threads = t })) (sym thread_bare) sound.whole;
      interesting = sound.interesting;
      moving = sound.moving;
      handles = subst (λ (t : Table (Single GuestThread)). HandlesNamed (record (kinds (bare (parts_of a))) { threads = t }) a) (sym thread_bare) sound.handles;
      owned = each_written a.threads id.rep thread_stands.0 thread_stands.1.0 (OwnsHandle (parts_of a)) h
          owns
          sound.owned;
      live = sound.live;
      ended = sound.ended;
    }

    callers_same : records (callers_in a.behind) (with_entry id.rep (entry_of h) a.threads).places ≡ records (callers_in a.behind) a.threads.places
    callers_same = records_unseen (callers_in a.behind) a.threads id.rep thread_stands.0 thread_stands.1.0 (entry_of h) (ap (λ (x : GuestThread). callers_in a.behind (entry_of x)) thread_loose ∙ ap (callers_in a.behind) (sym thread_stands.1.1.1))

    seats_same : records thread_seat_key (with_entry id.rep (entry_of h) a.threads).places ≡ records thread_seat_key a.threads.places
    seats_same = records_unseen thread_seat_key a.threads id.rep thread_stands.0 thread_stands.1.0 (entry_of h) (ap (λ (x : GuestThread). thread_seat_key (entry_of x)) thread_loose ∙ ap thread_seat_key (sym thread_stands.1.1.1))

    threads_seen : Records Thread → Records (List ℕ) → List (Option Tag) → Records ThreadSeat → StateView
    threads_seen m k l p = record (seen a) { core = record (seen a).core { threads = m; callers = k }; tags = record (seen a).tags { threads = l; seats = record (seen a).tags.seats { threads = p } } }

    pub thread_put_writes : (f : Thread → Thread) → f g.thread ≡ h.thread → seen thread_after ≡ on_core (on_thread (thread_of (seen a) id) f) (seen a)
    unfolding seen IsSoundCore on_thread threads_seen
    thread_put_writes f is_f =
        let now = with_entry id.rep (entry_of h) a.threads in
        let change_is = change (thread_of (seen a) id) f (records thread_key a.threads.places) in
        let callers_are = records (callers_in a.behind) a.threads.places in
        ap (λ (m : Records Thread). threads_seen m (records (callers_in a.behind) now.places) (tags_in thread_key now) (records thread_seat_key now.places))
        (records_changed (λ (g : GuestThread). g.number) (λ (g : GuestThread). g.thread) a.threads a.made.threads sound.tables.threads id.rep id.serial g is h thread_same f is_f ∙ ap (λ n. change n f (records thread_key a.threads.places)) (sym (thread_shown a id)))
        ∙ (ap (λ (k : Records (List ℕ)). threads_seen change_is k (tags_in thread_key now) (records thread_seat_key now.places)) callers_same
        ∙ (ap (λ (l : List (Option Tag)). threads_seen change_is callers_are l (records thread_seat_key now.places))
        (tags_written (λ (g : GuestThread). g.number) (λ (g : GuestThread). g.thread) a.threads a.made.threads sound.tables.threads id.rep id.serial g is h thread_same)
        ∙ ap (threads_seen change_is callers_are (tags_in thread_key a.threads)) seats_same))

  -- with the same handle
  module _ (g : GuestThread) (is : Ok g ≡ item_at item_of a.threads id.rep id.serial) (h : GuestThread) (close : close_thread h ≡ close_thread g) where
    owns_same : OwnsHandle (parts_of a) h
    unfolding IsSoundCore
    owns_same =
        let one = item_stands (λ (g : GuestThread). g.number) (λ (g : GuestThread). g.thread) a.threads a.made.threads sound.tables.threads id.rep id.serial g is in
        subst (λ (x : GuestThread). OwnsHandle (parts_of a) x) (sym close) (subst (λ (x : GuestThread). OwnsHandle (parts_of a) x) (ap (λ (e : Single GuestThread). e.item) one.1.1.1) (sound.owned id.rep one.0 one.1.0))

    pub thread_sound : IsSoundCore (record a { threads = with_entry id.rep (entry_of h) a.threads })
    thread_sound = thread_put_sound g is h (ap bare_thread close) owns_same

    pub thread_writes : (f : Thread → Thread) → f g.thread ≡ h.thread → seen (record a { threads = with_entry id.rep (entry_of h) a.threads }) ≡ on_core (on_thread (thread_of (seen a) id) f) (seen a)
    thread_writes f is_f = thread_put_writes g is h (ap bare_thread close) f is_f

-- ---- Calls

module _ (a : CoreParts) (sound : IsSoundCore a) (id : TableId GuestTaskKey) where
  -- under an id that is refused nothing changes
  pub call_nowhere : (why : ResourceTableError) → Err why ≡ item_at item_of a.calls id.rep id.serial → (f : Call → Call) → seen a ≡ on_core (on_call (call_of (seen a) id) f) (seen a)
  unfolding seen IsSoundCore on_call
  call_nowhere why is f =
      ap (λ (m : Records Call). record (seen a) { core = record (seen a).core { calls = m } })
      (sym (refused_write (λ (g : GuestTask). g.number) (λ (g : GuestTask). g.call) a.calls a.made.threads sound.tables.calls id.rep id.serial why is f)
      ∙ ap (λ n. change n f (records call_key a.calls.places)) (sym (call_shown a id)))

-- where another number of calls is interesting
module _ (a : CoreParts) (sound : IsSoundCore a) (id : TableId GuestTaskKey) (g : GuestTask) (is : Ok g ≡ item_at item_of a.calls id.rep id.serial) (h : GuestTask) (alike : bare_call h ≡ bare_call g) where
  call_same : h.number ≡ g.number
  call_same = ap (λ (x : GuestTask). x.number) alike

  call_bare : mapped (on_item bare_call) (with_entry id.rep (entry_of h) a.calls) ≡ mapped (on_item bare_call) a.calls
  unfolding IsSoundCore
  call_bare =
      let one = item_stands (λ (g : GuestTask). g.number) (λ (g : GuestTask). g.call) a.calls a.made.threads sound.tables.calls id.rep id.serial g is in
      mapped-with_entry_same (on_item bare_call) a.calls id.rep (entry_of h) one.0 one.1.0 (ap entry_of alike ∙ ap (on_item bare_call) (sym one.1.1.1))

  module _ (kept : ℕ) (now : kept + one_if_passes (λ (c : Call). c.interesting) (Some g.call) ≡ a.kept.interesting + one_if_passes (λ (c : Call). c.interesting) (Some h.call)) where
    abbrev pub call_after : CoreParts
    call_after = record a { calls = with_entry id.rep (entry_of h) a.calls; kept = record a.kept { interesting = kept } }

    call_put_sound : IsSoundCore call_after
    unfolding IsSoundCore
    call_put_sound = record {
      tables = record {
        threads = sound.tables.threads;
        calls = table_written (λ (g : GuestTask). g.number) (λ (g : GuestTask). g.call) a.calls a.made.threads sound.tables.calls id.rep id.serial g is h call_same;
        works = sound.tables.works;
        sets = sound.tables.sets;
        groups = sound.tables.groups;
      };
      whole = subst (λ (t : Table (Single GuestTask)). IsWhole (record (bare (parts_of a)) { calls = t })) (sym call_bare) sound.whole;
      interesting =
          let law = passing_written (λ (g : GuestTask). g.number) (λ (g : GuestTask). g.call) a.calls a.made.threads sound.tables.calls id.rep id.serial g is h call_same (λ c. c.interesting) in
          let was = sound.interesting in
          omega arith;
      moving = sound.moving;
      handles = subst (λ (t : Table (Single GuestTask)). HandlesNamed (record (kinds (bare (parts_of a))) { calls = t }) a) (sym call_bare) sound.handles;
      owned = sound.owned;
      live = sound.live;
      ended = sound.ended;
    }

    call_put_writes : (f : Call → Call) → f g.call ≡ h.call → seen call_after ≡ on_core (on_call (call_of (seen a) id) f) (seen a)
    unfolding seen IsSoundCore on_call
    call_put_writes f is_f =
        let now = with_entry id.rep (entry_of h) a.calls in
        let one = item_stands (λ (g : GuestTask). g.number) (λ (g : GuestTask). g.call) a.calls a.made.threads sound.tables.calls id.rep id.serial g is in
        let seats : records call_seat_key now.places ≡ records call_seat_key a.calls.places =
        records_unseen call_seat_key a.calls id.rep one.0 one.1.0 (entry_of h) (ap (λ (x : GuestTask). call_seat_key (entry_of x)) alike ∙ ap call_seat_key (sym one.1.1.1)) in
        ap (λ (p : Records ℕ). record (seen call_after) { tags = record (seen call_after).tags { seats = record (seen a).tags.seats { calls = p } } }) seats
        ∙ ap₂ (λ (m : Records Call) (l : List (Option Tag)). record (seen a) { core = record (seen a).core { calls = m }; tags = record (seen a).tags { calls = l } })
        (records_changed (λ (g : GuestTask). g.number) (λ (g : GuestTask). g.call) a.calls a.made.threads sound.tables.calls id.rep id.serial g is h call_same f is_f
        ∙ ap (λ (n : ℕ). change n f (records call_key a.calls.places)) (sym (call_shown a id)))
        (tags_written (λ (g : GuestTask). g.number) (λ (g : GuestTask). g.call) a.calls a.made.threads sound.tables.calls id.rep id.serial g is h call_same)

-- and where as many are
module _ (a : CoreParts) (sound : IsSoundCore a) (id : TableId GuestTaskKey) (g : GuestTask) (is : Ok g ≡ item_at item_of a.calls id.rep id.serial) (h : GuestTask) (close : close_call h ≡ close_call g) where
  as_many : a.kept.interesting + one_if_passes (λ (c : Call). c.interesting) (Some g.call) ≡ a.kept.interesting + one_if_passes (λ (c : Call). c.interesting) (Some h.call)
  as_many = ap (λ (x : GuestTask). a.kept.interesting + one_if_passes (λ (c : Call). c.interesting) (Some x.call)) (sym close)

  pub call_sound : IsSoundCore (record a { calls = with_entry id.rep (entry_of h) a.calls })
  call_sound = call_put_sound a sound id g is h (ap (λ (x : GuestTask). record x { call = uninterested x.call }) close) a.kept.interesting as_many

  pub call_writes : (f : Call → Call) → f g.call ≡ h.call → seen (record a { calls = with_entry id.rep (entry_of h) a.calls }) ≡ on_core (on_call (call_of (seen a) id) f) (seen a)
  call_writes = call_put_writes a sound id g is h (ap (λ (x : GuestTask). record x { call = uninterested x.call }) close) a.kept.interesting as_many

-- ---- Host works

module _ (a : CoreParts) (sound : IsSoundCore a) (id : TableId HostTaskKey) where
  -- under an id that is refused nothing changes
  pub work_nowhere : (why : ResourceTableError) → Err why ≡ item_at item_of a.works id.rep id.serial → (f : Work → Work) → seen a ≡ on_core (on_work (work_of (seen a) id) f) (seen a)
  unfolding seen IsSoundCore on_work
  work_nowhere why is f =
      ap (λ (m : Records Work). record (seen a) { core = record (seen a).core { works = m } })
      (sym (refused_write (λ (g : WorkRecord). g.number) (λ (g : WorkRecord). g.work) a.works a.made.works sound.tables.works id.rep id.serial why is f)
      ∙ ap (λ n. change n f (records work_key a.works.places)) (sym (work_shown a id)))

-- where another number of works moves
module _ (a : CoreParts) (sound : IsSoundCore a) (id : TableId HostTaskKey) (g : WorkRecord) (is : Ok g ≡ item_at item_of a.works id.rep id.serial) (h : WorkRecord) (alike : bare_work h ≡ bare_work g) where
  moved_same : h.number ≡ g.number
  moved_same = ap (λ (x : WorkRecord). x.number) alike

  moved_bare : mapped (on_item bare_work) (with_entry id.rep (entry_of h) a.works) ≡ mapped (on_item bare_work) a.works
  unfolding IsSoundCore
  moved_bare =
      let one = item_stands (λ (g : WorkRecord). g.number) (λ (g : WorkRecord). g.work) a.works a.made.works sound.tables.works id.rep id.serial g is in
      mapped-with_entry_same (on_item bare_work) a.works id.rep (entry_of h) one.0 one.1.0 (ap entry_of alike ∙ ap (on_item bare_work) (sym one.1.1.1))

  counted : passing is_moving (records work_key (with_entry id.rep (entry_of h) a.works).places) + one_if_passes is_moving (Some g.work) ≡ a.kept.moving + one_if_passes is_moving (Some h.work)
  unfolding IsSoundCore
  counted =
      let law = passing_written (λ (g : WorkRecord). g.number) (λ (g : WorkRecord). g.work) a.works a.made.works sound.tables.works id.rep id.serial g is h moved_same is_moving in
      let was = sound.moving in
      omega arith

  -- what moves is counted
  pub moving_counted : is_moving g.work ≡ true → 1 ≤ a.kept.moving + one_if_passes is_moving (Some h.work)
  moving_counted some =
      let one : one_if_passes is_moving (Some g.work) ≡ 1 = ap (λ b. cond b 1 0) some in
      let law = counted in
      omega arith

  module _ (kept : ℕ) (now : kept + one_if_passes is_moving (Some g.work) ≡ a.kept.moving + one_if_passes is_moving (Some h.work)) where
    abbrev pub moved_after : CoreParts
    moved_after = record a { works = with_entry id.rep (entry_of h) a.works; kept = record a.kept { moving = kept } }

    pub moved_sound : IsSoundCore moved_after
    unfolding IsSoundCore
    moved_sound = record {
      tables = record {
        threads = sound.tables.threads;
        calls = sound.tables.calls;
        works = table_written (λ (g : WorkRecord). g.number) (λ (g : WorkRecord). g.work) a.works a.made.works sound.tables.works id.rep id.serial g is h moved_same;
        sets = sound.tables.sets;
        groups = sound.tables.groups;
      };
      whole = subst (λ (t : Table (Single WorkRecord)). IsWhole (record (bare (parts_of a)) { works = t })) (sym moved_bare) sound.whole;
      interesting = sound.interesting;
      moving = let law = counted in omega arith;
      handles = subst (λ (t : Table (Single WorkRecord)). HandlesNamed (record (kinds (bare (parts_of a))) { works = t }) a) (sym moved_bare) sound.handles;
      owned = sound.owned;
      live = sound.live;
      ended = sound.ended;
    }

    pub moved_writes : (f : Work → Work) → f g.work ≡ h.work → seen moved_after ≡ on_core (on_work (work_of (seen a) id) f) (seen a)
    unfolding seen IsSoundCore on_work
    moved_writes f is_f =
        let now = with_entry id.rep (entry_of h) a.works in
        let one = item_stands (λ (g : WorkRecord). g.number) (λ (g : WorkRecord). g.work) a.works a.made.works sound.tables.works id.rep id.serial g is in
        let seats : records work_seat_key now.places ≡ records work_seat_key a.works.places =
        records_unseen work_seat_key a.works id.rep one.0 one.1.0 (entry_of h) (ap (λ (x : WorkRecord). work_seat_key (entry_of x)) alike ∙ ap work_seat_key (sym one.1.1.1)) in
        ap (λ (p : Records ℕ). record (seen moved_after) { tags = record (seen moved_after).tags { seats = record (seen a).tags.seats { works = p } } }) seats
        ∙ ap₂ (λ (m : Records Work) (l : List (Option Tag)). record (seen a) { core = record (seen a).core { works = m }; tags = record (seen a).tags { works = l } })
        (records_changed (λ (g : WorkRecord). g.number) (λ (g : WorkRecord). g.work) a.works a.made.works sound.tables.works id.rep id.serial g is h moved_same f is_f
        ∙ ap (λ (n : ℕ). change n f (records work_key a.works.places)) (sym (work_shown a id)))
        (tags_written (λ (g : WorkRecord). g.number) (λ (g : WorkRecord). g.work) a.works a.made.works sound.tables.works id.rep id.serial g is h moved_same)

-- and where as many move
module _ (a : CoreParts) (sound : IsSoundCore a) (id : TableId HostTaskKey) (g : WorkRecord) (is : Ok g ≡ item_at item_of a.works id.rep id.serial) (h : WorkRecord) (close : close_work h ≡ close_work g) where
  still : a.kept.moving + one_if_passes is_moving (Some g.work) ≡ a.kept.moving + one_if_passes is_moving (Some h.work)
  still = ap (λ (x : WorkRecord). a.kept.moving + one_if_passes is_moving (Some x.work)) (sym close)

  pub work_sound : IsSoundCore (record a { works = with_entry id.rep (entry_of h) a.works })
  work_sound = moved_sound a sound id g is h (ap (λ (x : WorkRecord). record x { work = unmoved x.work }) close) a.kept.moving still

  pub work_writes : (f : Work → Work) → f g.work ≡ h.work → seen (record a { works = with_entry id.rep (entry_of h) a.works }) ≡ on_core (on_work (work_of (seen a) id) f) (seen a)
  work_writes = moved_writes a sound id g is h (ap (λ (x : WorkRecord). record x { work = unmoved x.work }) close) a.kept.moving still

-- ---- Interest

module _ (a : CoreParts) (sound : IsSoundCore a) (id : TableId GuestTaskKey) (g : GuestTask) (is : Ok g ≡ item_at item_of a.calls id.rep id.serial) where
  module _ (kept : ℕ) (fewer : kept + one_if_passes (λ (c : Call). c.interesting) (Some g.call) ≡ a.kept.interesting) where
    now_fewer : kept + one_if_passes (λ (c : Call). c.interesting) (Some g.call) ≡ a.kept.interesting + one_if_passes (λ (c : Call). c.interesting) (Some (uninterested g.call))
    now_fewer = omega (arith, fewer)

    pub uninterested_sound : IsSoundCore (record a { calls = with_entry id.rep (entry_of (record g { call = uninterested g.call })) a.calls; kept = record a.kept { interesting = kept } })
    uninterested_sound = call_put_sound a sound id g is (record g { call = uninterested g.call }) refl kept now_fewer

    pub uninterested_writes : seen (record a { calls = with_entry id.rep (entry_of (record g { call = uninterested g.call })) a.calls; kept = record a.kept { interesting = kept } }) ≡ on_core (set_uninteresting (call_of (seen a) id)) (seen a)
    unfolding set_uninteresting
    uninterested_writes = call_put_writes a sound id g is (record g { call = uninterested g.call }) refl kept now_fewer uninterested refl

  -- who is interesting is counted
  pub interest_counted : g.call.interesting ≡ true → 1 ≤ a.kept.interesting
  unfolding IsSoundCore
  interest_counted some =
      let law = passing_written (λ (g : GuestTask). g.number) (λ (g : GuestTask). g.call) a.calls a.made.threads sound.tables.calls id.rep id.serial g is (record g { call = uninterested g.call }) refl (λ c. c.interesting) in
      let one : one_if_passes (λ (c : Call). c.interesting) (Some g.call) ≡ 1 = ap (λ b. cond b 1 0) some in
      let was = sound.interesting in
      omega arith
