-- A handle of a subtask or a set is given.
use Rattle.core_records.proofs.Core.{ap, AreHandlesNamed, arith, bare, Bool, by_place, cases_eq, change, cond, Counter, eq-eqb, false, get, give_handle, giving, Global, handle_table, Handles, HeldItem, held_by, inl, inr, insert, Inserts, IsHeldNamed, IsSoundCore, kinds, List, live_in, map, map-set, Named, named_by, named_of, ne_eqb, new_handle, next_handle, None, on_core, Option, option_map, option_map_or, parts_of, Records, refl, same_Some, seen, set, slice_get, slice_get-map, Some, subst, sym, true, Vec, ℕ, ◌+◌, ◌==◌, ◌∙◌, ◌≡◌, ◌≤◌, ◌⊎◌}
use Rattle.machine_data.specs.Core.{NameTable}
use Rattle.core_records.specs.declared.{instance_records.InstanceRecord.InstanceRecord, parts.CoreParts.CoreParts}
use Rattle.task_handles.specs.Handles.{next_handle as given_next}
use Rattle.core_records.proofs.GivenLemmas.{free_given, held_given, live_given, one_changed, table_given}
use Rattle.core_records.proofs.HandleWrites.{handles_sound, unchanged}
use Rattle.core_records.proofs.HandleReads.{next_given}
use Rattle.core_records.proofs.InstanceLemmas.{by_place-set}
use Rattle.core_records.proofs.InstanceReads.{handles_read}
use Rattle.core_records.specs.Instances.{thread_of as thread_named}

-- ---- A handle is given

module _ (a : CoreParts) (sound : IsSoundCore a) (i : ℕ) (r : InstanceRecord) (at : Some r ≡ slice_get a.instances.items i) (item : HeldItem) (new : Handles HeldItem) (v : Vec InstanceRecord Global) (is : v.items ≡ set a.instances.items i (record r { handles = new })) (c : Counter) (handle : ℕ) (inserts : Inserts item r.handles new a.counter c handle) where
  given_item : handle_table named_of new ≡ giving (named_of item) (handle_table named_of r.handles)
  given_item = ap (handle_table named_of) inserts.table ∙ table_given named_of r.handles item inserts.whole

  item_table_at : get (seen a).core.handles i ≡ Some (handle_table named_of r.handles)
  item_table_at = sym (handles_read a i (Some r) at)

  free_item : get (handle_table named_of r.handles).live (next_handle (handle_table named_of r.handles) r.handles.freed) ≡ None
  free_item = free_given named_of r.handles inserts.whole (ap (held_by r.handles) (sym inserts.handle_is) ∙ inserts.free)

  items_given : by_place (map (λ (x : InstanceRecord). handle_table named_of x.handles) v.items) ≡ change i (giving (named_of item)) (seen a).core.handles
  unfolding seen
  items_given =
      ap (λ (xs : List InstanceRecord). by_place (map (λ (x : InstanceRecord). handle_table named_of x.handles) xs)) is
      ∙ (ap by_place (map-set (λ (x : InstanceRecord). handle_table named_of x.handles) a.instances.items i (record r { handles = new }))
      ∙ (by_place-set i (map (λ (x : InstanceRecord). handle_table named_of x.handles) a.instances.items) (handle_table named_of r.handles) (handle_table named_of new) (slice_get-map (λ (x : InstanceRecord). handle_table named_of x.handles) a.instances.items i ∙ ap (option_map (λ (x : InstanceRecord). handle_table named_of x.handles)) (sym at))
      ∙ (ap (insert (seen a).core.handles i) given_item
      ∙ sym (one_changed (seen a).core.handles i (handle_table named_of r.handles) item_table_at (giving (named_of item))))))

  threads_same : by_place (map (λ (x : InstanceRecord). handle_table thread_named x.thread_handles) v.items) ≡ (seen a).core.thread_handles
  unfolding seen
  threads_same = ap by_place (unchanged a i r (record r { handles = new }) at refl v is c (λ x. handle_table thread_named x.thread_handles) refl)

  instances_same : by_place (map (λ (x : InstanceRecord). x.instance) v.items) ≡ (seen a).core.instances
  unfolding seen
  instances_same = ap by_place (unchanged a i r (record r { handles = new }) at refl v is c (λ x. x.instance) refl)

  pub handle_writes : seen (record a { instances = v; counter = c }) ≡ on_core (give_handle i (named_of item)) (seen a)
  unfolding seen give_handle
  handle_writes = rw (instances_same, items_given, threads_same, ap (λ (k : Counter). k.limit) inserts.counter) refl

  pub handle_is : handle ≡ new_handle i (seen a).core
  unfolding new_handle
  handle_is = inserts.handle_is ∙ (next_given named_of r.handles inserts.whole ∙ sym (ap (λ (o : Option (NameTable Named)). option_map_or (λ (t : NameTable Named). next_handle t t.freed) o 1) item_table_at))

  module _ (stands : IsHeldNamed (kinds (bare (parts_of a))) item.kind item.rep) where
    item_held : (h : ℕ) (x : HeldItem) → held_by new h ≡ Some x → ((h ≡ handle) × (item ≡ x)) ⊎ (held_by r.handles h ≡ Some x)
    item_held h x live = by_handle (cases_eq h handle)
      where
        is_next : (b : Bool) → (h == given_next r.handles) ≡ b → cond b (Some item) (held_by r.handles h) ≡ Some x
        is_next b same = ap (λ k. cond k (Some item) (held_by r.handles h)) (sym same) ∙ (sym (held_given named_of r.handles item h) ∙ (ap (λ t. held_by t h) (sym inserts.table) ∙ live))

        by_handle : (h ≡ handle) ⊎ (h ≡ handle → ⊥) → ((h ≡ handle) × (item ≡ x)) ⊎ (held_by r.handles h ≡ Some x)
        by_handle (inl same) = inl (same, same_Some item x (is_next true (eq-eqb h (given_next r.handles) (same ∙ inserts.handle_is))))
        by_handle (inr other) = inr (is_next false (ne_eqb h (given_next r.handles) (λ same. other (same ∙ sym inserts.handle_is))))

    handle_named : AreHandlesNamed (kinds (bare (parts_of a))) (record r { handles = new })
    unfolding IsSoundCore
    handle_named =
        let was = sound.handles i r (sym at) in
        record {
          small = λ h x live. elim (item_held h x live) [
            | inl one ↦ subst (λ n. n ≤ 268435455) (sym one.0) inserts.small
            | inr old ↦ was.small h x old
          ];
          small_threads = was.small_threads;
          handles = λ h x live. elim (item_held h x live) [
            | inl one ↦ subst (λ (y : HeldItem). IsHeldNamed (kinds (bare (parts_of a))) y.kind y.rep) one.1 stands
            | inr old ↦ was.handles h x old
          ];
          thread_handles = was.thread_handles;
        }

    pub handle_sound : IsSoundCore (record a { instances = v; counter = c })
    unfolding IsSoundCore seen
    handle_sound =
        handles_sound a i r (record r { handles = new }) at refl v is c sound handle_named
        (λ q p there h has. ap (λ (m : Records (NameTable ℕ)). named_by m p.entry.item.instance h) threads_same ∙ sound.owned q p there h has)
        (let more : c.live ≡ a.counter.live + 1 = ap (λ (k : Counter). k.live) inserts.counter in
        let one = live_given (seen a).core.handles i (handle_table named_of r.handles) item_table_at (named_of item) free_item in
        let was = sound.live in
        let is_threads : live_in (seen (record a { instances = v; counter = c })).core.thread_handles ≡ live_in (seen a).core.thread_handles = ap live_in threads_same in
        let is_handles : live_in (seen (record a { instances = v; counter = c })).core.handles ≡ live_in (change i (giving (named_of item)) (seen a).core.handles) = ap live_in items_given in
        omega arith)
