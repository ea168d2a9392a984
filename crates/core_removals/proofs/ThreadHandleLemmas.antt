-- The handle of a thread that is gone is taken back.
use Rattle.core_records.proofs.Core.{ap, ap₂, AreHandlesNamed, arith, bare, Bool, by_place, change, cond, Core, Counter, EachEntry, false, free_thread_handle, freed_thread_handle, get, get-remove_same, Global, handle_table, Handles, held_by, insert, instance_of, IsSome, IsSoundCore, item_at, item_of, kinds, length, List, live_in, map, map-set, named_by, named_of, None, Ok, on_core, Option, option_and_then, option_map, OwnsHandle, parts_of, Records, refl, remove_thread, Removes, Rep, same_Some, seen, set, slice_get, slice_get-map, slice_get_within, Some, sym, TableId, taking, thread_at, thread_handle_of, ThreadKey, true, Vec, ℕ, ◌+◌, ◌-◌, ◌<◌, ◌==◌, ◌∙◌, ◌≡◌}
use Rattle.machine_data.specs.Core.{NameTable}
use Rattle.core_records.specs.declared.{instance_records.InstanceRecord.InstanceRecord, parts.CoreParts.CoreParts, thread_records.GuestThread.GuestThread}
use Rattle.core_removals.proofs.LessLemmas.{read_at}
use Rattle.core_removals.proofs.RewriteLemmas.{each_there}
use Rattle.core_records.proofs.GivenLemmas.{held_taken, live_taken, names_left, one_changed, table_taken}
use Rattle.core_records.proofs.HandleLemmas.{get-records_by}
use Rattle.core_records.proofs.HandleWrites.{handles_sound, unchanged}
use Rattle.core_records.proofs.InstanceLemmas.{by_place-set}
use Rattle.core_records.proofs.InstanceReads.{thread_handles_read}
use Rattle.core_records.proofs.KindLemmas.{absent}
use Rattle.core_records.specs.Instances.{thread_of as thread_named}

module _ (a : CoreParts) (i h n : ℕ) (names : thread_at i h (seen a).core ≡ Some n) where
  -- the instance is there
  pub thread_instance : i < length a.instances.items
  thread_instance = by_place (slice_get a.instances.items i) refl
    where
      by_place : (o : Option InstanceRecord) → slice_get a.instances.items i ≡ o → i < length a.instances.items
      by_place None is = absent n (ap (option_and_then (λ (t : NameTable ℕ). get t.live h)) (thread_handles_read a i None (sym is)) ∙ names)
      by_place (Some r) is = slice_get_within a.instances.items i r is

  module _ (r : InstanceRecord) (at : Some r ≡ slice_get a.instances.items i) where
    read : thread_at i h (seen a).core ≡ option_map thread_named (held_by r.thread_handles h)
    read = ap (option_and_then (λ (t : NameTable ℕ). get t.live h)) (sym (thread_handles_read a i (Some r) at)) ∙ get-records_by thread_named r.thread_handles.live h

    -- and the handle is live
    pub thread_held : (item : Rep) × ((held_by r.thread_handles h ≡ Some item) × (item.serial ≡ n))
    thread_held = by_held (held_by r.thread_handles h) refl (sym read ∙ names)
      where
        by_held : (o : Option Rep) → held_by r.thread_handles h ≡ o → option_map thread_named (held_by r.thread_handles h) ≡ Some n → (item : Rep) × ((held_by r.thread_handles h ≡ Some item) × (item.serial ≡ n))
        by_held None is some = absent n (sym (ap (option_map thread_named) is) ∙ some)
        by_held (Some item) is some = (item, (is, same_Some item.serial n (sym (ap (option_map thread_named) is) ∙ some)))

-- ---- It is taken back

module _ (a : CoreParts) (sound : IsSoundCore a) (i : ℕ) (r : InstanceRecord) (at : Some r ≡ slice_get a.instances.items i) (h n : ℕ) (names : thread_at i h (seen a).core ≡ Some n) (gone : get (seen a).core.threads n ≡ None) where
  abbrev item : Rep
  item = (thread_held a i h n names r at).0

  thread_table_at : get (seen a).core.thread_handles i ≡ Some (handle_table thread_named r.thread_handles)
  thread_table_at = sym (thread_handles_read a i (Some r) at)

  named_thread : get (handle_table thread_named r.thread_handles).live h ≡ Some (thread_named item)
  unfolding thread_held
  named_thread = get-records_by thread_named r.thread_handles.live h ∙ ap (option_map thread_named) (thread_held a i h n names r at).1.0

  fewer : live_in (change i (taking h) (seen a).core.thread_handles) + 1 ≡ live_in (seen a).core.thread_handles
  fewer = live_taken (seen a).core.thread_handles i (handle_table thread_named r.thread_handles) thread_table_at h (thread_named item) named_thread

  -- it is counted
  pub thread_handle_counted : 0 < a.counter.live
  unfolding IsSoundCore seen
  thread_handle_counted = let law = fewer in let all = sound.live in omega arith

  module _ (new : Handles Rep) (v : Vec InstanceRecord Global) (is : v.items ≡ set a.instances.items i (record r { thread_handles = new })) (c : Counter) (removes : Removes h r.thread_handles new a.counter c) where
    threads_taken : by_place (map (λ (x : InstanceRecord). handle_table thread_named x.thread_handles) v.items) ≡ change i (taking h) (seen a).core.thread_handles
    unfolding seen
    threads_taken =
        ap (λ (xs : List InstanceRecord). by_place (map (λ (x : InstanceRecord). handle_table thread_named x.thread_handles) xs)) is
        ∙ (ap by_place (map-set (λ (x : InstanceRecord). handle_table thread_named x.thread_handles) a.instances.items i (record r { thread_handles = new }))
        ∙ (by_place-set i (map (λ (x : InstanceRecord). handle_table thread_named x.thread_handles) a.instances.items) (handle_table thread_named r.thread_handles) (handle_table thread_named new) (slice_get-map (λ (x : InstanceRecord). handle_table thread_named x.thread_handles) a.instances.items i ∙ ap (option_map (λ (x : InstanceRecord). handle_table thread_named x.thread_handles)) (sym at))
        ∙ (ap (insert (seen a).core.thread_handles i) (ap (handle_table thread_named) removes.table ∙ table_taken thread_named r.thread_handles h)
        ∙ sym (one_changed (seen a).core.thread_handles i (handle_table thread_named r.thread_handles) thread_table_at (taking h)))))

    handles_same : by_place (map (λ (x : InstanceRecord). handle_table named_of x.handles) v.items) ≡ (seen a).core.handles
    unfolding seen
    handles_same = ap by_place (unchanged a i r (record r { thread_handles = new }) at refl v is c (λ x. handle_table named_of x.handles) refl)

    instances_same : by_place (map (λ (x : InstanceRecord). x.instance) v.items) ≡ (seen a).core.instances
    unfolding seen
    instances_same = ap by_place (unchanged a i r (record r { thread_handles = new }) at refl v is c (λ x. x.instance) refl)

    pub thread_taken_writes : seen (record a { instances = v; counter = c }) ≡ on_core (free_thread_handle i h) (seen a)
    unfolding seen free_thread_handle
    thread_taken_writes = rw (instances_same, handles_same, threads_taken, ap (λ (k : Counter). k.limit) removes.counter) refl

    held_before : (g : ℕ) (x : Rep) → held_by new g ≡ Some x → held_by r.thread_handles g ≡ Some x
    held_before g x live = by_test (g == h) (sym (held_taken thread_named r.thread_handles h g) ∙ (ap (λ t. held_by t g) (sym removes.table) ∙ live))
      where
        by_test : (b : Bool) → cond b None (held_by r.thread_handles g) ≡ Some x → held_by r.thread_handles g ≡ Some x
        by_test true none = absurd (cc)
        by_test false some = some

    left_named : AreHandlesNamed (kinds (bare (parts_of a))) (record r { thread_handles = new })
    unfolding IsSoundCore
    left_named =
        let was = sound.handles i r (sym at) in
        record {
          small = was.small;
          small_threads = λ g x live. was.small_threads g x (held_before g x live);
          handles = was.handles;
          thread_handles = λ g x live. was.thread_handles g x (held_before g x live);
        }

    -- a thread that is there owns another handle
    owns_left : EachEntry (OwnsHandle (parts_of (record a { instances = v; counter = c }))) a.threads
    unfolding IsSoundCore seen
    owns_left q p there g has =
        ap (λ (m : Records (NameTable ℕ)). named_by m p.entry.item.instance g) threads_taken
        ∙ names_left (seen a).core.thread_handles i (handle_table thread_named r.thread_handles) thread_table_at h p.entry.item.instance g p.entry.item.number other (sound.owned q p there g has)
      where
        other : p.entry.item.instance ≡ i → g ≡ h → ⊥
        other same_i same_h = absent p.entry.item.thread
            (sym gone ∙ (ap (get (seen a).core.threads) (same_Some n p.entry.item.number (sym names ∙ (ap₂ (λ j k. thread_at j k (seen a).core) (sym same_i) (sym same_h) ∙ sound.owned q p there g has)))
            ∙ read_at (λ (x : GuestThread). x.number) (λ (x : GuestThread). x.thread) a.threads a.made.threads sound.tables.threads q p there))

    pub thread_taken_sound : IsSoundCore (record a { instances = v; counter = c })
    unfolding IsSoundCore seen
    thread_taken_sound =
        handles_sound a i r (record r { thread_handles = new }) at refl v is c sound left_named owns_left
        (let less : c.live ≡ a.counter.live - 1 = ap (λ (k : Counter). k.live) removes.counter in
        let one = fewer in
        let was = sound.live in
        let is_handles : live_in (seen (record a { instances = v; counter = c })).core.handles ≡ live_in (seen a).core.handles = ap live_in handles_same in
        let is_threads : live_in (seen (record a { instances = v; counter = c })).core.thread_handles ≡ live_in (change i (taking h) (seen a).core.thread_handles) = ap live_in threads_taken in
        omega arith)

-- ---- The handle of a thread that goes

pub named_one : (o : Option ℕ) → IsSome o → (n : ℕ) × (o ≡ Some n)
named_one None some = absurd (cc)
named_one (Some n) some = (n, refl)

pub owned_by : (a : CoreParts) → IsSoundCore a → (id : TableId ThreadKey) (g : GuestThread) → Ok g ≡ item_at item_of a.threads id.rep id.serial → (h : ℕ) → g.thread.handle ≡ Some h → thread_at g.instance h (seen a).core ≡ Some g.number
unfolding IsSoundCore seen
owned_by a sound id g is h has = each_there (λ (x : GuestThread). x.number) (λ (x : GuestThread). x.thread) a.threads a.made.threads sound.tables.threads id.rep id.serial g is (OwnsHandle (parts_of a)) sound.owned h has

module _ (i h n : ℕ) (s : Core) where
  pub names_removed : thread_at i h (remove_thread n s) ≡ thread_at i h s
  unfolding remove_thread
  names_removed = refl

  pub gone_removed : get (remove_thread n s).threads n ≡ None
  unfolding remove_thread
  gone_removed = get-remove_same s.threads n

  pub retired : i ≡ instance_of n s → Some h ≡ thread_handle_of n s → free_thread_handle i h (remove_thread n s) ≡ remove_thread n (freed_thread_handle (instance_of n s) (thread_handle_of n s) s)
  unfolding free_thread_handle remove_thread
  retired at has = ap₂ (λ (j : ℕ) (o : Option ℕ). remove_thread n (freed_thread_handle j o s)) at has
