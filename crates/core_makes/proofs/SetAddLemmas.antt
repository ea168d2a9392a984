-- A set more, as contracts see it.
use Rattle.core_records.proofs.Core.{add_set, ap, AreHandlesNamed, arith, bare, call_number, fits, HandleKind, insert, IsHeldNamed, IsSoundCore, IsTable, Keeps, kinds, next_place, parts_of, pushed, Records, records, refl, Rep, seen, Set, set_key, set_of, SetKey, SetOf, subst, sym, Table, table_use, TableId, thread_number, true, WaitableKind, work_number, ℕ, ◌+◌, ◌<◌, ◌^◌, ◌∙◌, ◌≡◌, ◌≤◌}
use Rattle.core_records.specs.declared.{instance_records.InstanceRecord.InstanceRecord, parts.CoreParts.CoreParts, set_records.WaitSet.WaitSet, single.Single.Single}
use Rattle.core_makes.proofs.SetLemmas.{at_more, set_whole}
use Rattle.core_makes.specs.Loose.{AreSetLoose}
use Rattle.core_records.proofs.KeptLemmas.{used_is}
use Rattle.core_records.proofs.MakeLemmas.{number_kept, number_new, records_more, table_more}
use Rattle.core_records.proofs.ReadLemmas.{set_shown}

module _ (a : CoreParts) (sound : IsSoundCore a) where
  -- the numbers that are counted have room
  pub used_few : fits 1 (seen a).core ≡ true → a.kept.used + 1 < 2 ^ 64
  unfolding fits seen IsSoundCore
  used_few room =
      let used = used_is a sound in
      let few = sound.whole.counted.few in
      let fit : table_use (seen a).core + 1 ≤ a.capacity = grind (arith, room) in
      omega arith

  module _ (x : WaitSet) (next : x.number ≡ a.made.sets + 1) (t : Table (Single WaitSet)) (is : t ≡ pushed (record { item = x }) a.sets) where
    abbrev pub with_set_made : Table (Single WaitSet) → CoreParts
    with_set_made u = record a { sets = u; made = record a.made { sets = a.made.sets + 1 }; kept = record a.kept { used = a.kept.used + 1 } }

    pub set_core : (seen (with_set_made t)).core ≡ add_set x.set (seen a).core
    unfolding seen add_set IsSoundCore
    set_core =
        ap (λ (m : Records Set). record (seen a).core { sets = m; made = record (seen a).core.made { sets = a.made.sets + 1 } })
        (ap (λ (u : Table (Single WaitSet)). records set_key u.places) is
        ∙ (records_more (λ (y : WaitSet). y.number) (λ (y : WaitSet). y.set) a.sets a.made.sets sound.tables.sets x next
        ∙ ap (λ (n : ℕ). insert (records set_key a.sets.places) n x.set) next))

    pub set_named : (id : TableId SetKey) → id.rep ≡ next_place a.sets → id.serial ≡ a.sets.given → set_of (seen (with_set_made t)) id ≡ (seen a).core.made.sets + 1
    unfolding seen IsSoundCore
    set_named id at serial =
        subst (λ (u : Table (Single WaitSet)). set_of (seen (with_set_made u)) id ≡ a.made.sets + 1) (sym is)
        (set_shown (with_set_made (pushed (record { item = x }) a.sets)) id
        ∙ (number_new (λ (y : WaitSet). y.number) (λ (y : WaitSet). y.set) a.sets a.made.sets sound.tables.sets x next id.rep id.serial at serial ∙ next))

    keeps_set : (id : TableId SetKey) → 0 < set_of (seen a) id → set_of (seen (with_set_made (pushed (record { item = x }) a.sets))) id ≡ set_of (seen a) id
    unfolding IsSoundCore
    keeps_set id live =
        set_shown (with_set_made (pushed (record { item = x }) a.sets)) id
        ∙ (number_kept (λ (y : WaitSet). y.number) (λ (y : WaitSet). y.set) a.sets a.made.sets sound.tables.sets x next id.rep id.serial (subst (λ (n : ℕ). 0 < n) (set_shown a id) live)
        ∙ sym (set_shown a id))

    pub set_tags : Keeps (seen a).tags (seen (with_set_made t)).tags
    unfolding seen thread_number call_number work_number
    set_tags = subst (λ (u : Table (Single WaitSet)). Keeps (seen a).tags (seen (with_set_made u)).tags) (sym is) (record { threads = λ id live. refl; calls = λ id live. refl; sets = keeps_set; works = λ id live. refl; same = refl; wanted = refl })

    module _ (table : IsTable t) (loose : AreSetLoose (bare (parts_of a)) x) (no_members : x.members ≡ 0) (no_entries : x.entries ≡ 0) where
      held_more : (h : HandleKind) (r : Rep) → IsHeldNamed (kinds (bare (parts_of a))) h r → IsHeldNamed (kinds (bare (parts_of (with_set_made (pushed (record { item = x }) a.sets))))) h r
      unfolding IsSoundCore
      held_more (HandleKind.Waitable WaitableKind.GuestSubtask) r at = at
      held_more (HandleKind.Waitable WaitableKind.HostSubtask) r at = at
      held_more (HandleKind.Waitable WaitableKind.Stream) r at = at
      held_more (HandleKind.Waitable WaitableKind.Future) r at = at
      held_more HandleKind.Set r at = at_more (bare (parts_of a)) sound.whole sound.tables.sets x next loose no_members no_entries r.id (SetOf r.serial) at

      handles_more : (r : InstanceRecord) → AreHandlesNamed (kinds (bare (parts_of a))) r → AreHandlesNamed (kinds (bare (parts_of (with_set_made (pushed (record { item = x }) a.sets))))) r
      handles_more r named = record {
        small = named.small;
        small_threads = named.small_threads;
        handles = λ h y live. held_more y.kind y.rep (named.handles h y live);
        thread_handles = named.thread_handles;
      }

      pub set_sound : IsSoundCore (with_set_made t)
      unfolding IsSoundCore
      set_sound = subst (λ (u : Table (Single WaitSet)). IsSoundCore (with_set_made u)) (sym is) (record {
        tables = record {
          threads = sound.tables.threads;
          calls = sound.tables.calls;
          works = sound.tables.works;
          sets = table_more (λ (y : WaitSet). y.number) (λ (y : WaitSet). y.set) a.sets a.made.sets sound.tables.sets x next (subst (λ (u : Table (Single WaitSet)). IsTable u) is table);
          groups = sound.tables.groups;
        };
        whole = set_whole (bare (parts_of a)) sound.whole sound.tables.sets x next loose no_members no_entries;
        interesting = sound.interesting;
        moving = sound.moving;
        handles = λ i r at. handles_more r (sound.handles i r at);
        owned = sound.owned;
        live = sound.live;
        ended = sound.ended;
      })
