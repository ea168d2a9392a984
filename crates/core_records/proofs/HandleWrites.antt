-- A handle of an instance is given or taken back: what hangs on it.
use Rattle.core_records.proofs.Core.{ap, ap₂, AreHandlesNamed, arith, AtPlace, bare, bare_instance, Bool, by_place, cases_eq, change, cond, Counter, EachEntry, eq-eqb, false, get, give_thread_handle, giving, Global, handle_table, Handles, held_by, image, inl, inr, insert, Inserts, IsNamedAt, IsSoundCore, IsWhole, kinds, List, live_in, map, map-set, named_by, named_of, ne_eqb, new_thread_handle, next_handle, None, on_core, Option, option_map, option_map_or, OwnsHandle, parts_of, Records, refl, Rep, same_Some, seen, set, set-slice_get, size, slice_get, slice_get-map, slice_get-set_other, slice_get-set_same, slice_get_within, Some, Sound, subst, sum_by-insert, sum_by-remove, sym, thread_at, ThreadOf, true, value_in, Vec, ℕ, ◌+◌, ◌==◌, ◌∙◌, ◌≡◌, ◌≤◌, ◌⊎◌}
use Rattle.task_handles.specs.Handles.{live_count}
use Rattle.machine_data.specs.Core.{NameTable}
use Rattle.core_records.specs.declared.{instance_records.InstanceRecord.InstanceRecord, parts.CoreParts.CoreParts}
use Rattle.task_handles.specs.Handles.{next_handle as given_next}
use Rattle.core_records.proofs.GivenLemmas.{free_given, held_given, live_given, names_new, names_on, one_changed, table_given}
use Rattle.core_records.proofs.HandleReads.{next_given}
use Rattle.core_records.proofs.HomeLemmas.{place_in_bare}
use Rattle.core_records.proofs.InstanceLemmas.{by_place-set}
use Rattle.core_records.proofs.InstanceReads.{handles_read, thread_handles_read}
use Rattle.core_records.proofs.HandleLemmas.{size-records_by}
use Rattle.core_records.specs.Instances.{thread_of as thread_named}

-- an instance with other handles, and another count of them
module _ (a : CoreParts) (i : ℕ) (r s : InstanceRecord) (at : Some r ≡ slice_get a.instances.items i) (loose : bare_instance s ≡ bare_instance r) (v : Vec InstanceRecord Global) (is : v.items ≡ set a.instances.items i s) (c : Counter) where
  abbrev pub handles_after : CoreParts
  handles_after = record a { instances = v; counter = c }

  pub unchanged : {Y : Type 0} (f : InstanceRecord → Y) → f s ≡ f r → map f v.items ≡ map f a.instances.items
  unchanged f same =
      ap (map f) is ∙ (map-set f a.instances.items i s ∙ (ap (set (map f a.instances.items) i) same
      ∙ set-slice_get (map f a.instances.items) i (f r) (slice_get-map f a.instances.items i ∙ ap (option_map f) (sym at))))

  module _ (sound : IsSoundCore a) (named : AreHandlesNamed (kinds (bare (parts_of a))) s) where
    by_number : (j : ℕ) (q : InstanceRecord) → slice_get v.items j ≡ Some q → (j ≡ i) ⊎ (j ≡ i → ⊥) → AreHandlesNamed (kinds (bare (parts_of a))) q
    unfolding IsSoundCore
    by_number j q there (inl here) =
        let one : Some q ≡ Some s = sym there ∙ (ap (λ xs. slice_get xs j) is ∙ (ap (slice_get (set a.instances.items i s)) here ∙ slice_get-set_same a.instances.items i s (slice_get_within a.instances.items i r (sym at)))) in
        subst (λ (x : InstanceRecord). AreHandlesNamed (kinds (bare (parts_of a))) x) (sym (same_Some q s one)) named
    by_number j q there (inr other) = sound.handles j q (sym (slice_get-set_other a.instances.items i j s other) ∙ (ap (λ xs. slice_get xs j) (sym is) ∙ there))

    pub handles_sound : EachEntry (OwnsHandle (parts_of handles_after)) a.threads → c.live ≡ live_in (seen handles_after).core.handles + live_in (seen handles_after).core.thread_handles → IsSoundCore handles_after
    unfolding IsSoundCore seen
    handles_sound owned live = record {
      tables = record { threads = sound.tables.threads; calls = sound.tables.calls; works = sound.tables.works; sets = sound.tables.sets; groups = sound.tables.groups };
      whole = subst (λ (xs : List InstanceRecord). IsWhole (record (bare (parts_of a)) { instances = xs })) (sym (unchanged bare_instance loose)) sound.whole;
      interesting = sound.interesting;
      moving = sound.moving;
      handles = λ j q there. by_number j q there (cases_eq j i);
      owned = owned;
      live = live;
      ended = sound.ended;
    }

-- ---- A thread handle is given

module _ (a : CoreParts) (sound : IsSoundCore a) (i : ℕ) (r : InstanceRecord) (at : Some r ≡ slice_get a.instances.items i) (rep : Rep) (new : Handles Rep) (v : Vec InstanceRecord Global) (is : v.items ≡ set a.instances.items i (record r { thread_handles = new })) (c : Counter) (handle : ℕ) (inserts : Inserts rep r.thread_handles new a.counter c handle) where
  given_thread : handle_table thread_named new ≡ giving rep.serial (handle_table thread_named r.thread_handles)
  given_thread = ap (handle_table thread_named) inserts.table ∙ table_given thread_named r.thread_handles rep inserts.whole

  thread_table_at : get (seen a).core.thread_handles i ≡ Some (handle_table thread_named r.thread_handles)
  thread_table_at = sym (thread_handles_read a i (Some r) at)

  free_thread : get (handle_table thread_named r.thread_handles).live (next_handle (handle_table thread_named r.thread_handles) r.thread_handles.freed) ≡ None
  free_thread = free_given thread_named r.thread_handles inserts.whole (ap (held_by r.thread_handles) (sym inserts.handle_is) ∙ inserts.free)

  threads_given : by_place (map (λ (x : InstanceRecord). handle_table thread_named x.thread_handles) v.items) ≡ change i (giving rep.serial) (seen a).core.thread_handles
  unfolding seen
  threads_given =
      ap (λ (xs : List InstanceRecord). by_place (map (λ (x : InstanceRecord). handle_table thread_named x.thread_handles) xs)) is
      ∙ (ap by_place (map-set (λ (x : InstanceRecord). handle_table thread_named x.thread_handles) a.instances.items i (record r { thread_handles = new }))
      ∙ (by_place-set i (map (λ (x : InstanceRecord). handle_table thread_named x.thread_handles) a.instances.items) (handle_table thread_named r.thread_handles) (handle_table thread_named new) (slice_get-map (λ (x : InstanceRecord). handle_table thread_named x.thread_handles) a.instances.items i ∙ ap (option_map (λ (x : InstanceRecord). handle_table thread_named x.thread_handles)) (sym at))
      ∙ (ap (insert (seen a).core.thread_handles i) given_thread
      ∙ sym (one_changed (seen a).core.thread_handles i (handle_table thread_named r.thread_handles) thread_table_at (giving rep.serial)))))

  handles_same : by_place (map (λ (x : InstanceRecord). handle_table named_of x.handles) v.items) ≡ (seen a).core.handles
  unfolding seen
  handles_same = ap by_place (unchanged a i r (record r { thread_handles = new }) at refl v is c (λ x. handle_table named_of x.handles) refl)

  instances_same : by_place (map (λ (x : InstanceRecord). x.instance) v.items) ≡ (seen a).core.instances
  unfolding seen
  instances_same = ap by_place (unchanged a i r (record r { thread_handles = new }) at refl v is c (λ x. x.instance) refl)

  pub thread_handle_writes : seen (record a { instances = v; counter = c }) ≡ on_core (give_thread_handle i rep.serial) (seen a)
  unfolding seen give_thread_handle
  thread_handle_writes = rw (instances_same, handles_same, threads_given, ap (λ (k : Counter). k.limit) inserts.counter) refl

  pub thread_handle_is : handle ≡ new_thread_handle i (seen a).core
  unfolding new_thread_handle
  thread_handle_is = inserts.handle_is ∙ (next_given thread_named r.thread_handles inserts.whole ∙ sym (ap (λ (o : Option (NameTable ℕ)). option_map_or (λ (t : NameTable ℕ). next_handle t t.freed) o 1) thread_table_at))

  pub thread_handle_names : thread_at i handle (seen (record a { instances = v; counter = c })).core ≡ Some rep.serial
  unfolding seen
  thread_handle_names = ap (λ (m : Records (NameTable ℕ)). named_by m i handle) threads_given ∙ (ap (named_by (change i (giving rep.serial) (seen a).core.thread_handles) i) (inserts.handle_is ∙ next_given thread_named r.thread_handles inserts.whole) ∙ names_new (seen a).core.thread_handles i (handle_table thread_named r.thread_handles) thread_table_at rep.serial)

  module _ (stands : AtPlace (parts_of a) rep.id (ThreadOf rep.serial)) where
    thread_held : (h : ℕ) (x : Rep) → held_by new h ≡ Some x → ((h ≡ handle) × (rep ≡ x)) ⊎ (held_by r.thread_handles h ≡ Some x)
    thread_held h x live = by_handle (cases_eq h handle)
      where
        is_next : (b : Bool) → (h == given_next r.thread_handles) ≡ b → cond b (Some rep) (held_by r.thread_handles h) ≡ Some x
        is_next b same = ap (λ k. cond k (Some rep) (held_by r.thread_handles h)) (sym same) ∙ (sym (held_given thread_named r.thread_handles rep h) ∙ (ap (λ t. held_by t h) (sym inserts.table) ∙ live))

        by_handle : (h ≡ handle) ⊎ (h ≡ handle → ⊥) → ((h ≡ handle) × (rep ≡ x)) ⊎ (held_by r.thread_handles h ≡ Some x)
        by_handle (inl same) = inl (same, same_Some rep x (is_next true (eq-eqb h (given_next r.thread_handles) (same ∙ inserts.handle_is))))
        by_handle (inr other) = inr (is_next false (ne_eqb h (given_next r.thread_handles) (λ same. other (same ∙ sym inserts.handle_is))))

    thread_handle_named : AreHandlesNamed (kinds (bare (parts_of a))) (record r { thread_handles = new })
    unfolding IsSoundCore
    thread_handle_named =
        let was = sound.handles i r (sym at) in
        record {
          small = was.small;
          small_threads = λ h x live. elim (thread_held h x live) [
            | inl one ↦ subst (λ n. n ≤ 268435455) (sym one.0) inserts.small
            | inr old ↦ was.small_threads h x old
          ];
          handles = was.handles;
          thread_handles = λ h x live. elim (thread_held h x live) [
            | inl one ↦ subst (λ (y : Rep). IsNamedAt (kinds (bare (parts_of a))) y.id (ThreadOf y.serial)) one.1 (place_in_bare a rep.id (ThreadOf rep.serial) stands)
            | inr old ↦ was.thread_handles h x old
          ];
        }

    pub thread_handle_sound : IsSoundCore (record a { instances = v; counter = c })
    unfolding IsSoundCore seen
    thread_handle_sound =
        handles_sound a i r (record r { thread_handles = new }) at refl v is c sound thread_handle_named
        (λ q p there h has. ap (λ (m : Records (NameTable ℕ)). named_by m p.entry.item.instance h) threads_given ∙ names_on (seen a).core.thread_handles i (handle_table thread_named r.thread_handles) thread_table_at rep.serial free_thread p.entry.item.instance h p.entry.item.number (sound.owned q p there h has))
        (let more : c.live ≡ a.counter.live + 1 = ap (λ (k : Counter). k.live) inserts.counter in
        let one = live_given (seen a).core.thread_handles i (handle_table thread_named r.thread_handles) thread_table_at rep.serial free_thread in
        let was = sound.live in
        let is_handles : live_in (seen (record a { instances = v; counter = c })).core.handles ≡ live_in (seen a).core.handles = ap live_in handles_same in
        let is_threads : live_in (seen (record a { instances = v; counter = c })).core.thread_handles ≡ live_in (change i (giving rep.serial) (seen a).core.thread_handles) = ap live_in threads_given in
        omega arith)

-- ---- What a give asks

module _ (a : CoreParts) (i : ℕ) (r : InstanceRecord) (at : Some r ≡ slice_get a.instances.items i) (v : Vec InstanceRecord Global) (is : v.items ≡ set a.instances.items i r) (c : Counter) (same : c ≡ a.counter) where
  items_same : v.items ≡ a.instances.items
  items_same = is ∙ set-slice_get a.instances.items i r (sym at)

  -- nothing has changed
  pub nothing_given : IsSoundCore a → IsSoundCore (record a { instances = v; counter = c })
  unfolding IsSoundCore
  nothing_given sound = subst (λ (k : Counter). Sound (record (parts_of a) { instances = v.items; counter = k })) (sym same) (subst (λ (xs : List InstanceRecord). Sound (record (parts_of a) { instances = xs })) (sym items_same) sound)

  pub nothing_seen : seen (record a { instances = v; counter = c }) ≡ seen a
  unfolding seen
  nothing_seen = ap₂ (λ (xs : List InstanceRecord) (k : Counter). image (record (parts_of a) { instances = xs; counter = k })) items_same same

-- no table has more than all
part_of : {Y : Type 0} (m : Records (NameTable Y)) (i : ℕ) (t : NameTable Y) → get m i ≡ Some t → size t.live ≤ live_in m
part_of m i t at =
    let law = sum_by-insert (λ u. size u.live) m i t in
    let was : value_in (λ u. size u.live) (get m i) ≡ size t.live = ap (value_in (λ u. size u.live)) at in
    let less = sum_by-remove (λ u. size u.live) m i in
    omega arith

module _ (a : CoreParts) (sound : IsSoundCore a) (i : ℕ) (r : InstanceRecord) (at : Some r ≡ slice_get a.instances.items i) where
  pub counts_threads : live_count r.thread_handles ≤ a.counter.live
  unfolding IsSoundCore seen
  counts_threads =
      let part = part_of (seen a).core.thread_handles i (handle_table thread_named r.thread_handles) (sym (thread_handles_read a i (Some r) at)) in
      let len = size-records_by thread_named r.thread_handles.live in
      let all = sound.live in
      omega arith

  pub counts_items : live_count r.handles ≤ a.counter.live
  unfolding IsSoundCore seen
  counts_items =
      let part = part_of (seen a).core.handles i (handle_table named_of r.handles) (sym (handles_read a i (Some r) at)) in
      let len = size-records_by named_of r.handles.live in
      let all = sound.live in
      omega arith
