-- An instance more, as contracts see it.
use Rattle.core_records.proofs.Core.{[], ap, ap₂, AreHandlesNamed, bare, bare_instance, bare_thread, by_place, cases_eq, EachEntry, Err, get, Global, handle_table, Handles, held_by, image, inl, inr, insert, IsSome, IsSoundCore, IsWhole, kinds, length, length-map, List, live_in, map, map-append, Named, named_of, nat_cmp, no_handles, None, Ok, on_core, on_item, OnErr, Option, option_and_then, OwnsHandle, parts_of, place_at, place_at-mapped, Placed, placed_as, Records, refl, Result, same_Some, seen, size, slice_get, Some, Sound, subst, sym, untouched, Vec, ℕ, ◌++◌, ◌+◌, ◌∙◌, ◌∷◌, ◌≡◌}
use Rattle.machine_data.specs.Core.{NameTable}
use Rattle.core_records.specs.declared.{instance_records.InstanceRecord.InstanceRecord, parts.CoreParts.CoreParts, single.Single.Single, thread_records.GuestThread.GuestThread}
use Rattle.std.specs.FinMap as fin
use Rattle.core_makes.proofs.InstanceLemmas.{grown_whole, pushed_last, pushed_other, there_before}
use Rattle.core_makes.specs.Instances.{with_instance}
use Rattle.core_makes.specs.Loose.{AreLoose}
use Rattle.task_handles.specs.Handles.{no_handles as none_given}
use Rattle.core_records.proofs.HandleLemmas.{handle_table-none, live_in-more}
use Rattle.core_records.proofs.InstanceLemmas.{by_place-push, get-by_place, get-by_place_past, size-by_place}
use Rattle.core_records.specs.Instances.{thread_of as thread_named}

nothing_held : {X Y : Type 0} (t : Handles X) → t ≡ none_given → (h : ℕ) (x : X) → held_by t h ≡ Some x → Y
nothing_held t is h x live = absurd (let none = sym (ap (λ t. held_by t h) is ∙ fin.get-empty nat_cmp h) ∙ live in cc)

module _ (a : CoreParts) where
  -- how many instances there are
  pub instance_count : length a.instances.items ≡ size (seen a).core.instances
  unfolding seen
  instance_count = sym (length-map a.instances.items (λ (x : InstanceRecord). x.instance)) ∙ sym (size-by_place (map (λ (x : InstanceRecord). x.instance) a.instances.items))

  pub none_yet : get (seen a).core.instances (size (seen a).core.instances) ≡ None
  unfolding seen
  none_yet = get-by_place_past (size (seen a).core.instances) (map (λ (x : InstanceRecord). x.instance) a.instances.items) (length-map a.instances.items (λ (x : InstanceRecord). x.instance) ∙ instance_count)

  pub none_named : get (seen a).core.handles (size (seen a).core.instances) ≡ None
  unfolding seen
  none_named = get-by_place_past (size (seen a).core.instances) (map (λ (x : InstanceRecord). handle_table named_of x.handles) a.instances.items)
      (length-map a.instances.items (λ (x : InstanceRecord). handle_table named_of x.handles) ∙ instance_count)

  module _ (r : InstanceRecord) (instance : r.instance ≡ untouched) (handles : r.handles ≡ none_given) (threads : r.thread_handles ≡ none_given) (v : Vec InstanceRecord Global) (is : v.items ≡ a.instances.items ++ r ∷ []) where
    abbrev more : CoreParts
    more = record a { instances = v }

    map_more : {Y : Type 0} (f : InstanceRecord → Y) → map f v.items ≡ map f a.instances.items ++ f r ∷ []
    map_more f = ap (map f) is ∙ map-append f a.instances.items (r ∷ [])

    placed_more : {Y : Type 0} (f : InstanceRecord → Y) (y : Y) → f r ≡ y → by_place (map f v.items) ≡ insert (by_place (map f a.instances.items)) (size (seen a).core.instances) y
    placed_more f y same =
        ap by_place (map_more f)
        ∙ (by_place-push (map f a.instances.items) (f r)
        ∙ ap₂ (λ (n : ℕ) (x : _). insert (by_place (map f a.instances.items)) n x) (length-map a.instances.items f ∙ instance_count) same)

    instances_more : by_place (map (λ (x : InstanceRecord). x.instance) v.items) ≡ insert (seen a).core.instances (size (seen a).core.instances) untouched
    unfolding seen
    instances_more = placed_more (λ x. x.instance) untouched instance

    handles_more : by_place (map (λ (x : InstanceRecord). handle_table named_of x.handles) v.items) ≡ insert (seen a).core.handles (size (seen a).core.instances) no_handles
    unfolding seen
    handles_more = placed_more (λ x. handle_table named_of x.handles) no_handles (ap (handle_table named_of) handles ∙ handle_table-none named_of)

    threads_more : by_place (map (λ (x : InstanceRecord). handle_table thread_named x.thread_handles) v.items) ≡ insert (seen a).core.thread_handles (size (seen a).core.instances) no_handles
    unfolding seen
    threads_more = placed_more (λ x. handle_table thread_named x.thread_handles) no_handles (ap (handle_table thread_named) threads ∙ handle_table-none thread_named)

    pub instance_seen : seen more ≡ on_core with_instance (seen a)
    unfolding seen with_instance
    instance_seen = rw (instances_more, handles_more, threads_more) refl

    module _ (sound : IsSoundCore a) (loose : AreLoose (bare (parts_of a)) r.held r.starts r.high r.low) (high : IsSome a.high) (low : IsSome a.low) where
      whole_more : IsWhole (bare (parts_of more))
      unfolding IsSoundCore
      whole_more = subst (λ (xs : List InstanceRecord). IsWhole (record (bare (parts_of a)) { instances = xs })) (sym (map_more bare_instance)) (grown_whole (bare (parts_of a)) sound.whole (bare_instance r) loose high low)

      new_named : AreHandlesNamed (kinds (bare (parts_of a))) r
      new_named = record {
        small = λ h x live. nothing_held r.handles handles h x live;
        small_threads = λ h x live. nothing_held r.thread_handles threads h x live;
        handles = λ h x live. nothing_held r.handles handles h x live;
        thread_handles = λ h x live. nothing_held r.thread_handles threads h x live;
      }

      named_more : (j : ℕ) (q : InstanceRecord) → slice_get v.items j ≡ Some q → AreHandlesNamed (kinds (bare (parts_of a))) q
      unfolding IsSoundCore
      named_more j q at = elim (cases_eq j (length a.instances.items)) [
        | inl same ↦ subst (λ (x : InstanceRecord). AreHandlesNamed (kinds (bare (parts_of a))) x) (same_Some r q (sym (pushed_last a.instances.items r) ∙ (sym (ap₂ (λ (xs : List InstanceRecord) (i : ℕ). slice_get xs i) is same) ∙ at))) new_named
        | inr other ↦ sound.handles j q (sym (ap (λ (xs : List InstanceRecord). slice_get xs j) is ∙ pushed_other a.instances.items j r other) ∙ at)
      ]

      -- a thread's instance is one that was there
      thread_before : (rep : ℕ) (q : Placed (Single GuestThread)) → place_at a.threads rep ≡ Some q → q.entry.item.instance ≡ length a.instances.items → ⊥
      unfolding IsSoundCore
      thread_before rep q at same = there_before (map bare_instance a.instances.items) q.entry.item.instance
          (sound.whole.named.threads rep _ (place_at-mapped (on_item bare_thread) a.threads rep ∙ ap (placed_as (on_item bare_thread)) at)).within
          (same ∙ sym (length-map a.instances.items bare_instance))

      table_kept : (i : ℕ) → (i ≡ length a.instances.items → ⊥) → get (seen more).core.thread_handles i ≡ get (seen a).core.thread_handles i
      unfolding seen
      table_kept i other =
          let f : InstanceRecord → NameTable ℕ = λ x. handle_table thread_named x.thread_handles in
          get-by_place i (map f v.items)
          ∙ (ap (λ (xs : List (NameTable ℕ)). slice_get xs i) (map_more f)
          ∙ (pushed_other (map f a.instances.items) i (f r) (λ same. other (same ∙ length-map a.instances.items f))
          ∙ sym (get-by_place i (map f a.instances.items))))

      owned_more : EachEntry (OwnsHandle (parts_of more)) a.threads
      unfolding IsSoundCore seen
      owned_more rep q at h has =
          ap (λ (o : Option (NameTable ℕ)). option_and_then (λ (t : NameTable ℕ). get t.live h) o) (table_kept q.entry.item.instance (thread_before rep q at))
          ∙ sound.owned rep q at h has

      past : {Y : Type 0} (f : InstanceRecord → Y) → get (by_place (map f a.instances.items)) (size (seen a).core.instances) ≡ None
      past f = get-by_place_past (size (seen a).core.instances) (map f a.instances.items) (length-map a.instances.items f ∙ instance_count)

      live_more : a.counter.live ≡ live_in (seen more).core.handles + live_in (seen more).core.thread_handles
      unfolding IsSoundCore seen
      live_more =
          sound.live
          ∙ sym (ap₂ (λ (h : Records (NameTable Named)) (t : Records (NameTable ℕ)). live_in h + live_in t) handles_more threads_more
          ∙ ap₂ (λ (m n : ℕ). m + n)
          (live_in-more (seen a).core.handles (size (seen a).core.instances) (past (λ x. handle_table named_of x.handles)))
          (live_in-more (seen a).core.thread_handles (size (seen a).core.instances) (past (λ x. handle_table thread_named x.thread_handles))))

      pub instance_sound : IsSoundCore more
      unfolding IsSoundCore seen
      instance_sound = record {
        tables = record { threads = sound.tables.threads; calls = sound.tables.calls; works = sound.tables.works; sets = sound.tables.sets; groups = sound.tables.groups };
        whole = whole_more;
        interesting = sound.interesting;
        moving = sound.moving;
        handles = named_more;
        owned = owned_more;
        live = live_more;
        ended = sound.ended;
      }

-- where no room was found nothing is another
module _ (a : CoreParts) (v : Vec InstanceRecord Global) (is : v.items ≡ a.instances.items) where
  pub same_seen : seen (record a { instances = v }) ≡ seen a
  unfolding seen
  same_seen = ap (λ (xs : List InstanceRecord). image (record (parts_of a) { instances = xs })) is

  pub same_sound : IsSoundCore a → IsSoundCore (record a { instances = v })
  unfolding IsSoundCore
  same_sound sound = subst (λ (xs : List InstanceRecord). Sound (record (parts_of a) { instances = xs })) (sym is) sound

pub on_err : {X E P : Type 0} (o : Result X E) → P → OnErr o P
on_err (Ok x) p = tt
on_err (Err e) p = p
