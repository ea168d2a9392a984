-- A handle of a subtask or a set is taken back.
use Rattle.core_records.proofs.Core.{ap, AreHandlesNamed, arith, as_subtask, bare, Bool, by_place, change, cond, Counter, false, free_handle, get, Global, handle_table, HandleKind, Handles, HeldItem, held_by, insert, is_some, IsSome, IsSoundCore, kinds, length, List, live_in, map, map-set, Named, named_as, named_by, named_of, None, Ok, on_core, Option, option_and_then, option_map, parts_of, Records, refl, Removes, Rep, seen, set, slice_get, slice_get-map, Some, subst, subtask_at, subtask_of, sym, taking, true, Vec, WaitableKind, ℕ, ◌+◌, ◌-◌, ◌<◌, ◌==◌, ◌∙◌, ◌≡◌}
use Rattle.task_handles.specs.HeldItem.{subtask_in}
use Rattle.machine_data.specs.Core.{NameTable}
use Rattle.core_records.specs.declared.{instance_records.InstanceRecord.InstanceRecord, parts.CoreParts.CoreParts}
use Rattle.core_records.proofs.GivenLemmas.{held_taken, live_taken, one_changed, table_taken}
use Rattle.core_records.proofs.HandleWrites.{handles_sound, unchanged}
use Rattle.core_records.proofs.HandleLemmas.{get-records_by}
use Rattle.core_records.proofs.InstanceLemmas.{by_place-set}
use Rattle.core_records.proofs.InstanceReads.{handles_read, instance_unchecked}
use Rattle.core_records.specs.Instances.{thread_of as thread_named}

-- ---- A handle is taken back

module _ (a : CoreParts) (sound : IsSoundCore a) (i : ℕ) (r : InstanceRecord) (at : Some r ≡ slice_get a.instances.items i) (h : ℕ) (item : HeldItem) (held : held_by r.handles h ≡ Some item) where
  item_table_at : get (seen a).core.handles i ≡ Some (handle_table named_of r.handles)
  item_table_at = sym (handles_read a i (Some r) at)

  named_item : get (handle_table named_of r.handles).live h ≡ Some (named_of item)
  named_item = get-records_by named_of r.handles.live h ∙ ap (option_map named_of) held

  fewer : live_in (change i (taking h) (seen a).core.handles) + 1 ≡ live_in (seen a).core.handles
  fewer = live_taken (seen a).core.handles i (handle_table named_of r.handles) item_table_at h (named_of item) named_item

  -- it is counted
  pub item_counted : 0 < a.counter.live
  unfolding IsSoundCore seen
  item_counted = let law = fewer in let all = sound.live in omega arith

  module _ (new : Handles HeldItem) (v : Vec InstanceRecord Global) (is : v.items ≡ set a.instances.items i (record r { handles = new })) (c : Counter) (removes : Removes h r.handles new a.counter c) where
    items_taken : by_place (map (λ (x : InstanceRecord). handle_table named_of x.handles) v.items) ≡ change i (taking h) (seen a).core.handles
    unfolding seen
    items_taken =
        ap (λ (xs : List InstanceRecord). by_place (map (λ (x : InstanceRecord). handle_table named_of x.handles) xs)) is
        ∙ (ap by_place (map-set (λ (x : InstanceRecord). handle_table named_of x.handles) a.instances.items i (record r { handles = new }))
        ∙ (by_place-set i (map (λ (x : InstanceRecord). handle_table named_of x.handles) a.instances.items) (handle_table named_of r.handles) (handle_table named_of new) (slice_get-map (λ (x : InstanceRecord). handle_table named_of x.handles) a.instances.items i ∙ ap (option_map (λ (x : InstanceRecord). handle_table named_of x.handles)) (sym at))
        ∙ (ap (insert (seen a).core.handles i) (ap (handle_table named_of) removes.table ∙ table_taken named_of r.handles h)
        ∙ sym (one_changed (seen a).core.handles i (handle_table named_of r.handles) item_table_at (taking h)))))

    threads_same : by_place (map (λ (x : InstanceRecord). handle_table thread_named x.thread_handles) v.items) ≡ (seen a).core.thread_handles
    unfolding seen
    threads_same = ap by_place (unchanged a i r (record r { handles = new }) at refl v is c (λ x. handle_table thread_named x.thread_handles) refl)

    instances_same : by_place (map (λ (x : InstanceRecord). x.instance) v.items) ≡ (seen a).core.instances
    unfolding seen
    instances_same = ap by_place (unchanged a i r (record r { handles = new }) at refl v is c (λ x. x.instance) refl)

    pub item_taken_writes : seen (record a { instances = v; counter = c }) ≡ on_core (free_handle i h) (seen a)
    unfolding seen free_handle
    item_taken_writes = rw (instances_same, items_taken, threads_same, ap (λ (k : Counter). k.limit) removes.counter) refl

    held_before : (g : ℕ) (x : HeldItem) → held_by new g ≡ Some x → held_by r.handles g ≡ Some x
    held_before g x live = by_test (g == h) (sym (held_taken named_of r.handles h g) ∙ (ap (λ t. held_by t g) (sym removes.table) ∙ live))
      where
        by_test : (b : Bool) → cond b None (held_by r.handles g) ≡ Some x → held_by r.handles g ≡ Some x
        by_test true none = absurd (cc)
        by_test false some = some

    left_named : AreHandlesNamed (kinds (bare (parts_of a))) (record r { handles = new })
    unfolding IsSoundCore
    left_named =
        let was = sound.handles i r (sym at) in
        record {
          small = λ g x live. was.small g x (held_before g x live);
          small_threads = was.small_threads;
          handles = λ g x live. was.handles g x (held_before g x live);
          thread_handles = was.thread_handles;
        }

    pub item_taken_sound : IsSoundCore (record a { instances = v; counter = c })
    unfolding IsSoundCore seen
    item_taken_sound =
        handles_sound a i r (record r { handles = new }) at refl v is c sound left_named
        (λ q p there g has. ap (λ (m : Records (NameTable ℕ)). named_by m p.entry.item.instance g) threads_same ∙ sound.owned q p there g has)
        (let less : c.live ≡ a.counter.live - 1 = ap (λ (k : Counter). k.live) removes.counter in
        let one = fewer in
        let was = sound.live in
        let is_threads : live_in (seen (record a { instances = v; counter = c })).core.thread_handles ≡ live_in (seen a).core.thread_handles = ap live_in threads_same in
        let is_handles : live_in (seen (record a { instances = v; counter = c })).core.handles ≡ live_in (change i (taking h) (seen a).core.handles) = ap live_in items_taken in
        omega arith)

-- ---- A handle that names a subtask

is_subtask : (k : HandleKind) (rep : Rep) → IsSome (as_subtask (named_as k rep.serial)) → (p : Rep × Bool) × (subtask_in k rep ≡ Ok p)
is_subtask (HandleKind.Waitable WaitableKind.GuestSubtask) rep some = ((rep, false), refl)
is_subtask (HandleKind.Waitable WaitableKind.HostSubtask) rep some = ((rep, true), refl)
is_subtask (HandleKind.Waitable WaitableKind.Stream) rep some = absurd (cc)
is_subtask (HandleKind.Waitable WaitableKind.Future) rep some = absurd (cc)
is_subtask HandleKind.Set rep some = absurd (cc)

module _ (a : CoreParts) (i h : ℕ) (some : IsSome (subtask_at i h (seen a).core)) where
  -- the instance is there
  pub subtask_instance : i < length a.instances.items
  subtask_instance = instance_unchecked a i (by_table (get (seen a).core.handles i) refl)
    where
      by_table : (o : Option (NameTable Named)) → get (seen a).core.handles i ≡ o → is_some o ≡ true
      by_table None is = absurd (let none : IsSome (option_and_then as_subtask (option_and_then (λ (t : NameTable Named). get t.live h) None)) = subst (λ (o : Option (NameTable Named)). IsSome (option_and_then as_subtask (option_and_then (λ (t : NameTable Named). get t.live h) o))) is some in cc)
      by_table (Some t) is = refl

  module _ (r : InstanceRecord) (at : Some r ≡ slice_get a.instances.items i) where
    read : subtask_at i h (seen a).core ≡ option_and_then as_subtask (option_map named_of (held_by r.handles h))
    read = ap (λ (o : Option (NameTable Named)). option_and_then as_subtask (option_and_then (λ (t : NameTable Named). get t.live h) o)) (sym (handles_read a i (Some r) at)) ∙ ap (option_and_then as_subtask) (get-records_by named_of r.handles.live h)

    -- and the handle is live
    pub subtask_held : (item : HeldItem) × ((held_by r.handles h ≡ Some item) × ((p : Rep × Bool) × (subtask_of (held_by r.handles h) ≡ Ok p)))
    subtask_held = by_held (held_by r.handles h) refl
      where
        by_held : (o : Option HeldItem) → held_by r.handles h ≡ o → (item : HeldItem) × ((held_by r.handles h ≡ Some item) × ((p : Rep × Bool) × (subtask_of (held_by r.handles h) ≡ Ok p)))
        by_held None is = absurd (let none : IsSome (option_and_then as_subtask (option_map named_of None)) = subst IsSome (read ∙ ap (λ (o : Option HeldItem). option_and_then as_subtask (option_map named_of o)) is) some in cc)
        by_held (Some item) is =
            let one = is_subtask item.kind item.rep (subst IsSome (read ∙ ap (λ (o : Option HeldItem). option_and_then as_subtask (option_map named_of o)) is) some) in
            (item, (is, (one.0, ap subtask_of is ∙ one.1)))
