-- A handle that names a set.
use Rattle.core_records.proofs.Core.{ap, as_set, bare, get, HandleKind, HeldItem, held_by, is_some, IsHeldNamed, IsSome, IsSoundCore, Kinds, kinds, length, Named, named_as, named_of, None, Ok, Option, option_and_then, option_map, parts_of, refl, Rep, seen, set_at, set_in, slice_get, Some, subst, sym, true, WaitableKind, ℕ, ◌<◌, ◌∙◌, ◌≡◌}
use Rattle.machine_data.specs.Core.{NameTable}
use Rattle.core_records.specs.declared.{instance_records.InstanceRecord.InstanceRecord, parts.CoreParts.CoreParts}
use Rattle.task_handles.specs.HeldItem.{set_of as held_set}
use Rattle.core_records.proofs.HandleLemmas.{get-records_by}
use Rattle.core_records.proofs.InstanceReads.{handles_read, instance_unchecked}

is_set : (p : Kinds) (k : HandleKind) (rep : Rep) → IsHeldNamed p k rep → IsSome (as_set (named_as k rep.serial)) → (r : Rep) × (set_in k rep ≡ Ok r)
is_set p (HandleKind.Waitable WaitableKind.GuestSubtask) rep named some = absurd (cc)
is_set p (HandleKind.Waitable WaitableKind.HostSubtask) rep named some = absurd (cc)
is_set p (HandleKind.Waitable WaitableKind.Stream) rep named some = absurd named
is_set p (HandleKind.Waitable WaitableKind.Future) rep named some = absurd named
is_set p HandleKind.Set rep named some = (rep, refl)

module _ (a : CoreParts) (i h : ℕ) (some : IsSome (set_at i h (seen a).core)) where
  -- the instance is there
  pub set_instance : i < length a.instances.items
  set_instance = instance_unchecked a i (by_table (get (seen a).core.handles i) refl)
    where
      by_table : (o : Option (NameTable Named)) → get (seen a).core.handles i ≡ o → is_some o ≡ true
      by_table None is = absurd (let none : IsSome (option_and_then as_set (option_and_then (λ (t : NameTable Named). get t.live h) None)) = subst (λ (o : Option (NameTable Named)). IsSome (option_and_then as_set (option_and_then (λ (t : NameTable Named). get t.live h) o))) is some in cc)
      by_table (Some t) is = refl

  module _ (sound : IsSoundCore a) (r : InstanceRecord) (at : Some r ≡ slice_get a.instances.items i) where
    read : set_at i h (seen a).core ≡ option_and_then as_set (option_map named_of (held_by r.handles h))
    read = ap (λ (o : Option (NameTable Named)). option_and_then as_set (option_and_then (λ (t : NameTable Named). get t.live h) o)) (sym (handles_read a i (Some r) at)) ∙ ap (option_and_then as_set) (get-records_by named_of r.handles.live h)

    -- and the handle is live
    pub set_held : (item : HeldItem) × ((held_by r.handles h ≡ Some item) × ((p : Rep) × (held_set (held_by r.handles h) ≡ Ok p)))
    unfolding IsSoundCore
    set_held = by_held (held_by r.handles h) refl
      where
        by_held : (o : Option HeldItem) → held_by r.handles h ≡ o → (item : HeldItem) × ((held_by r.handles h ≡ Some item) × ((p : Rep) × (held_set (held_by r.handles h) ≡ Ok p)))
        by_held None is = absurd (let none : IsSome (option_and_then as_set (option_map named_of None)) = subst IsSome (read ∙ ap (λ (o : Option HeldItem). option_and_then as_set (option_map named_of o)) is) some in cc)
        by_held (Some item) is =
            let one = is_set (kinds (bare (parts_of a))) item.kind item.rep ((sound.handles i r (sym at)).handles h item is) (subst IsSome (read ∙ ap (λ (o : Option HeldItem). option_and_then as_set (option_map named_of o)) is) some) in
            (item, (is, (one.0, ap held_set is ∙ one.1)))
