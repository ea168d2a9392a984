-- What the handles of an instance name.
use Rattle.core_records.proofs.Core.{[], ap, AreHandlesNamed, arith, bare, CallOf, get, handle_table, HandleKind, Handles, HeldItem, held_by, IfSome, IsHeldNamed, IsSoundCore, kinds, length, List, named_by, named_of, next_handle, None, Option, option_and_then, option_map, parts_of, Records, refl, Rep, seen, SetOf, slice_get, Some, StandsAt, sym, thread_at, thread_key, ThreadOf, WaitableKind, WorkOf, ℕ, ◌+◌, ◌<◌, ◌∙◌, ◌∷◌, ◌≡◌}
use Rattle.task_handles.specs.Handles.{IsWhole}
use Rattle.machine_data.specs.Core.{NameTable}
use Rattle.core_records.specs.declared.{instance_records.InstanceRecord.InstanceRecord, parts.CoreParts.CoreParts}
use Rattle.task_handles.specs.Handles.{live_count as handles_live, next_handle as given_next}
use Rattle.core_records.proofs.HandleLemmas.{get-records_by, size-records_by}
use Rattle.core_records.proofs.HomeLemmas.{place_bare}
use Rattle.core_records.proofs.InstanceReads.{handles_read, thread_handles_read}
use Rattle.core_records.specs.Instances.{thread_of as thread_named}

module _ {X Y : Type 0} (f : X → Y) (tables : Records (NameTable Y)) (i h : ℕ) where
  in_table : Option (Handles X) → Option Y
  in_table None = None
  in_table (Some t) = option_map f (held_by t h)

  by_table : (o : Option (Handles X)) → option_map (handle_table f) o ≡ get tables i → named_by tables i h ≡ in_table o
  unfolding in_table
  by_table None at = ap (option_and_then (λ (t : NameTable Y). get t.live h)) (sym at)
  by_table (Some t) at = ap (option_and_then (λ (t : NameTable Y). get t.live h)) (sym at) ∙ get-records_by f t.live h

  -- what the handle of a table names
  pub names_here : (t : Handles X) → Some (handle_table f t) ≡ get tables i → option_map f (held_by t h) ≡ named_by tables i h
  unfolding in_table
  names_here t at = sym (by_table (Some t) at)

  -- no handle is so great
  pub names_past : (o : Option (Handles X)) → option_map (handle_table f) o ≡ get tables i → ((t : Handles X) → o ≡ Some t → (x : X) → held_by t h ≡ Some x → ⊥) → None ≡ named_by tables i h
  unfolding in_table
  names_past o at none = sym (by_table o at ∙ by_handle o none)
    where
      by_held : (q : Option X) → ((x : X) → q ≡ Some x → ⊥) → option_map f q ≡ None
      by_held None none = refl
      by_held (Some x) none = absurd (none x refl)

      by_handle : (o : Option (Handles X)) → ((t : Handles X) → o ≡ Some t → (x : X) → held_by t h ≡ Some x → ⊥) → in_table o ≡ None
      by_handle None none = refl
      by_handle (Some t) none = by_held (held_by t h) (none t refl)

module _ (a : CoreParts) (sound : IsSoundCore a) (i : ℕ) (o : Option InstanceRecord) (at : o ≡ slice_get a.instances.items i) where
  pub instance_names : (r : InstanceRecord) → o ≡ Some r → AreHandlesNamed (kinds (bare (parts_of a))) r
  unfolding IsSoundCore
  instance_names r is = sound.handles i r (sym at ∙ is)

  held_bare : (k : HandleKind) (r : Rep) → IsHeldNamed (kinds (bare (parts_of a))) k r → IsHeldNamed (kinds (parts_of a)) k r
  held_bare (HandleKind.Waitable WaitableKind.GuestSubtask) r is = place_bare a r.id (CallOf r.serial) is
  held_bare (HandleKind.Waitable WaitableKind.HostSubtask) r is = place_bare a r.id (WorkOf r.serial) is
  held_bare (HandleKind.Waitable WaitableKind.Stream) r is = absurd is
  held_bare (HandleKind.Waitable WaitableKind.Future) r is = absurd is
  held_bare HandleKind.Set r is = place_bare a r.id (SetOf r.serial) is

  module _ (h : ℕ) where
    pub held_past : 4294967295 < h → None ≡ named_by (seen a).core.handles i h
    held_past great = names_past named_of (seen a).core.handles i h (option_map (λ (r : InstanceRecord). r.handles) o) (by_instance o ∙ handles_read a i o at) (λ t is x live. none o refl t is x live)
      where
        by_instance : (q : Option InstanceRecord) → option_map (handle_table named_of) (option_map (λ (r : InstanceRecord). r.handles) q) ≡ option_map (λ (r : InstanceRecord). handle_table named_of r.handles) q
        by_instance None = refl
        by_instance (Some r) = refl

        none : (q : Option InstanceRecord) → o ≡ q → (t : Handles HeldItem) → option_map (λ (r : InstanceRecord). r.handles) q ≡ Some t → (x : HeldItem) → held_by t h ≡ Some x → ⊥
        none None is t same x live = absurd (cc)
        none (Some r) is t same x live =
            let few = (instance_names r is).small h x (ap (λ (q : Option (Handles HeldItem)). option_and_then (λ (t : Handles HeldItem). held_by t h) q) same ∙ live) in
            omega arith

    pub thread_past : 4294967295 < h → None ≡ thread_at i h (seen a).core
    thread_past great = names_past thread_named (seen a).core.thread_handles i h (option_map (λ (r : InstanceRecord). r.thread_handles) o) (by_instance o ∙ thread_handles_read a i o at) (λ t is x live. none o refl t is x live)
      where
        by_instance : (q : Option InstanceRecord) → option_map (handle_table thread_named) (option_map (λ (r : InstanceRecord). r.thread_handles) q) ≡ option_map (λ (r : InstanceRecord). handle_table thread_named r.thread_handles) q
        by_instance None = refl
        by_instance (Some r) = refl

        none : (q : Option InstanceRecord) → o ≡ q → (t : Handles Rep) → option_map (λ (r : InstanceRecord). r.thread_handles) q ≡ Some t → (x : Rep) → held_by t h ≡ Some x → ⊥
        none None is t same x live = absurd (cc)
        none (Some r) is t same x live =
            let few = (instance_names r is).small_threads h x (ap (λ (q : Option (Handles Rep)). option_and_then (λ (t : Handles Rep). held_by t h) q) same ∙ live) in
            omega arith

    module _ (r : InstanceRecord) (is : o ≡ Some r) where
      pub held_named : (q : Option HeldItem) → q ≡ held_by r.handles h → IfSome q (λ x. IsHeldNamed (kinds (parts_of a)) x.kind x.rep)
      held_named None live = tt
      held_named (Some x) live = held_bare x.kind x.rep ((instance_names r is).handles h x (sym live))

      pub thread_named_at : (q : Option Rep) → q ≡ held_by r.thread_handles h → IfSome q (λ x. StandsAt thread_key a.threads x.id x.serial)
      thread_named_at None live = tt
      thread_named_at (Some x) live = (place_bare a x.id (ThreadOf x.serial) ((instance_names r is).thread_handles h x (sym live))).1

-- the handle that a table gives next is the machine's
pub next_given : {X Y : Type 0} (f : X → Y) (t : Handles X) → IsWhole t → given_next t ≡ next_handle (handle_table f t) t.freed
next_given {X} {Y} f t whole = by_freed t.freed refl
  where
    by_freed : (fs : List ℕ) → t.freed ≡ fs → given_next (record t { freed = fs }) ≡ next_handle (handle_table f t) fs
    by_freed [] is =
        let none = ap (λ (ns : List ℕ). length ns) is in
        let len = size-records_by f t.live in
        let all : handles_live t + length t.freed ≡ t.made = whole in
        omega arith
    by_freed (h ∷ hs) is = refl
