-- The records of instances: what is read at a number, and a write of what nothing hangs on.
use Rattle.core_records.proofs.Core.{ap, ap₂, AreHandlesNamed, bare, bare_instance, by_place, cases_eq, change, changed, false, get, get_or, Global, handle_table, held_by, inl, inr, insert, Instance, is_some, IsSoundCore, IsWhole, kinds, length, List, live_in, map, map-set, Named, named_by, named_of, None, on_core, on_instance, Option, option_map, parts_of, Records, refl, same_Some, seen, set, set-slice_get, slice_get, slice_get-get_or, slice_get-map, slice_get-set_other, slice_get-set_same, slice_get_past, slice_get_within, Some, StateView, subst, sym, true, untouched, Vec, ℕ, ◌+◌, ◌<◌, ◌∙◌, ◌≡◌, ◌≤◌, ◌⊎◌}
use Rattle.machine_data.specs.Core.{NameTable}
use Rattle.core_records.specs.declared.{instance_records.InstanceRecord.InstanceRecord, parts.CoreParts.CoreParts}
use Rattle.core_records.proofs.InstanceLemmas.{by_place-set, get-by_place}
use Rattle.core_records.specs.Instances.{thread_of as thread_named}

-- an instance as far as a write of its own record may not change it
abbrev pub close_instance : InstanceRecord → InstanceRecord
close_instance i = record i { instance = untouched }

-- what is read at a place that is there, and past the end
pub read_at : {X : Type 0} (xs : List X) (i : ℕ) (x : X) → i < length xs → x ≡ get_or xs i x → Some x ≡ slice_get xs i
read_at xs i x within is = sym (slice_get-get_or xs i x within ∙ ap (λ y. Some y) (sym is))

pub read_past : {X : Type 0} (xs : List X) (i : ℕ) → length xs ≤ i → None ≡ slice_get xs i
read_past xs i past = sym (slice_get_past xs i past)

module _ (a : CoreParts) (i : ℕ) where
  by_place_read : {Y : Type 0} (f : InstanceRecord → Y) → get (by_place (map f a.instances.items)) i ≡ option_map f (slice_get a.instances.items i)
  by_place_read f = get-by_place i (map f a.instances.items) ∙ slice_get-map f a.instances.items i

  module _ (o : Option InstanceRecord) (is : o ≡ slice_get a.instances.items i) where
    pub instance_read : option_map (λ (r : InstanceRecord). r.instance) o ≡ get (seen a).core.instances i
    unfolding seen
    instance_read = sym (by_place_read (λ r. r.instance) ∙ ap (option_map (λ (r : InstanceRecord). r.instance)) (sym is))

    pub handles_read : option_map (λ (r : InstanceRecord). handle_table named_of r.handles) o ≡ get (seen a).core.handles i
    unfolding seen
    handles_read = sym (by_place_read (λ r. handle_table named_of r.handles) ∙ ap (option_map (λ (r : InstanceRecord). handle_table named_of r.handles)) (sym is))

    pub thread_handles_read : option_map (λ (r : InstanceRecord). handle_table thread_named r.thread_handles) o ≡ get (seen a).core.thread_handles i
    unfolding seen
    thread_handles_read = sym (by_place_read (λ r. handle_table thread_named r.thread_handles) ∙ ap (option_map (λ (r : InstanceRecord). handle_table thread_named r.thread_handles)) (sym is))

  -- ---- A write of an instance's own record

  -- past the end nothing changes
  pub instance_nowhere : None ≡ slice_get a.instances.items i → (f : Instance → Instance) → seen a ≡ on_core (on_instance i f) (seen a)
  unfolding on_instance change
  instance_nowhere none f =
      ap (λ (m : Records Instance). record (seen a) { core = record (seen a).core { instances = m } })
      (sym (ap (changed (seen a).core.instances i f) (sym (instance_read None none))))

  module _ (r s : InstanceRecord) (at : Some r ≡ slice_get a.instances.items i) (close : close_instance s ≡ close_instance r) (v : Vec InstanceRecord Global) (is : v.items ≡ set a.instances.items i s) where
    abbrev pub instance_after : CoreParts
    instance_after = record a { instances = v }

    unchanged : {Y : Type 0} (f : InstanceRecord → Y) → f s ≡ f r → map f v.items ≡ map f a.instances.items
    unchanged f same =
        ap (map f) is ∙ (map-set f a.instances.items i s ∙ (ap (set (map f a.instances.items) i) same
        ∙ set-slice_get (map f a.instances.items) i (f r) (slice_get-map f a.instances.items i ∙ ap (option_map f) (sym at))))

    pub instance_sound : IsSoundCore a → IsSoundCore instance_after
    unfolding IsSoundCore
    instance_sound sound = record {
      tables = record { threads = sound.tables.threads; calls = sound.tables.calls; works = sound.tables.works; sets = sound.tables.sets; groups = sound.tables.groups };
      whole = subst (λ (xs : List InstanceRecord). IsWhole (record (bare (parts_of a)) { instances = xs })) (sym (unchanged bare_instance (ap bare_instance close))) sound.whole;
      interesting = sound.interesting;
      moving = sound.moving;
      handles = λ j q there. by_number j q there (cases_eq j i);
      owned = λ rep q there h has. ap (λ (t : Records (NameTable ℕ)). named_by t q.entry.item.instance h) same_threads ∙ sound.owned rep q there h has;
      live = sound.live ∙ ap₂ (λ (h : Records (NameTable Named)) (t : Records (NameTable ℕ)). live_in h + live_in t) (sym same_handles) (sym same_threads);
      ended = sound.ended;
    }
      where
        same_handles : by_place (map (λ (x : InstanceRecord). handle_table named_of x.handles) v.items) ≡ by_place (map (λ (x : InstanceRecord). handle_table named_of x.handles) a.instances.items)
        same_handles = ap by_place (unchanged (λ x. handle_table named_of x.handles) (ap (λ (x : InstanceRecord). handle_table named_of x.handles) close))

        same_threads : by_place (map (λ (x : InstanceRecord). handle_table thread_named x.thread_handles) v.items) ≡ by_place (map (λ (x : InstanceRecord). handle_table thread_named x.thread_handles) a.instances.items)
        same_threads = ap by_place (unchanged (λ x. handle_table thread_named x.thread_handles) (ap (λ (x : InstanceRecord). handle_table thread_named x.thread_handles) close))

        renamed : AreHandlesNamed (kinds (bare (parts_of a))) r → AreHandlesNamed (kinds (bare (parts_of a))) s
        renamed named = record {
          small = λ h x live. named.small h x (ap (λ (q : InstanceRecord). held_by q.handles h) (sym close) ∙ live);
          small_threads = λ h x live. named.small_threads h x (ap (λ (q : InstanceRecord). held_by q.thread_handles h) (sym close) ∙ live);
          handles = λ h x live. named.handles h x (ap (λ (q : InstanceRecord). held_by q.handles h) (sym close) ∙ live);
          thread_handles = λ h x live. named.thread_handles h x (ap (λ (q : InstanceRecord). held_by q.thread_handles h) (sym close) ∙ live);
        }

        by_number : (j : ℕ) (q : InstanceRecord) → slice_get v.items j ≡ Some q → (j ≡ i) ⊎ (j ≡ i → ⊥) → AreHandlesNamed (kinds (bare (parts_of a))) q
        by_number j q there (inl here) =
            let one : Some q ≡ Some s = sym there ∙ (ap (λ xs. slice_get xs j) is ∙ (ap (slice_get (set a.instances.items i s)) here ∙ slice_get-set_same a.instances.items i s (slice_get_within a.instances.items i r (sym at)))) in
            subst (λ (x : InstanceRecord). AreHandlesNamed (kinds (bare (parts_of a))) x) (sym (same_Some q s one)) (renamed (sound.handles i r (sym at)))
        by_number j q there (inr other) = sound.handles j q (sym (slice_get-set_other a.instances.items i j s other) ∙ (ap (λ xs. slice_get xs j) (sym is) ∙ there))

    instances_seen : Records Instance → Records (NameTable Named) → Records (NameTable ℕ) → StateView
    instances_seen m h t = record (seen a) { core = record (seen a).core { instances = m; handles = h; thread_handles = t } }

    pub instance_writes : (f : Instance → Instance) → f r.instance ≡ s.instance → seen instance_after ≡ on_core (on_instance i f) (seen a)
    unfolding seen on_instance change instances_seen
    instance_writes f is_f =
        ap (λ (m : Records Instance). instances_seen m (by_place (map (λ (x : InstanceRecord). handle_table named_of x.handles) v.items)) (by_place (map (λ (x : InstanceRecord). handle_table thread_named x.thread_handles) v.items)))
        (ap (λ (xs : List InstanceRecord). by_place (map (λ (x : InstanceRecord). x.instance) xs)) is
        ∙ (ap by_place (map-set (λ (x : InstanceRecord). x.instance) a.instances.items i s)
        ∙ (by_place-set i (map (λ (x : InstanceRecord). x.instance) a.instances.items) r.instance s.instance (slice_get-map (λ (x : InstanceRecord). x.instance) a.instances.items i ∙ ap (option_map (λ (x : InstanceRecord). x.instance)) (sym at))
        ∙ (ap (insert (seen a).core.instances i) (sym is_f) ∙ ap (changed (seen a).core.instances i f) (instance_read (Some r) at)))))
        ∙ (ap (λ (h : Records (NameTable Named)). instances_seen (change i f (seen a).core.instances) h (by_place (map (λ (x : InstanceRecord). handle_table thread_named x.thread_handles) v.items)))
        (ap by_place (unchanged (λ x. handle_table named_of x.handles) (ap (λ (x : InstanceRecord). handle_table named_of x.handles) close)))
        ∙ ap (λ (t : Records (NameTable ℕ)). instances_seen (change i f (seen a).core.instances) (seen a).core.handles t)
        (ap by_place (unchanged (λ x. handle_table thread_named x.thread_handles) (ap (λ (x : InstanceRecord). handle_table thread_named x.thread_handles) close))))

  -- where an instance has a table of handles it is there
  pub instance_unchecked : is_some (get (seen a).core.handles i) ≡ true → i < length a.instances.items
  instance_unchecked some = by_place (slice_get a.instances.items i) refl
    where
      by_place : (o : Option InstanceRecord) → slice_get a.instances.items i ≡ o → i < length a.instances.items
      by_place None is = absurd (let none : is_some (get (seen a).core.handles i) ≡ false = ap is_some (sym (handles_read None (sym is))) in cc)
      by_place (Some r) is = slice_get_within a.instances.items i r is
