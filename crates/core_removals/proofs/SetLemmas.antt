-- A set is gone, as it is.
use Rattle.core_records.proofs.Core.{ap, arith, bare, BlockedOn, call_number, cases_eq, core_of, deleted, HasHome, HeldIn, inl, inr, IsCallNamed, IsSetKept, IsSome, IsSoundCore, IsTable, IsWhole, IsWorkNamed, item_at, item_of, KeepsBut, kinds, List, list_of, lost_set, None, number_of, Ok, CoreImage, parts_of, place_chain, ready_call_chain, ready_work_chain, records, refl, remove, remove_set, seen, set_key, set_of, SetKey, Some, Spot, subst, Subtask, sym, Table, table_use, TableId, thread_number, ThreadOf, UnderOf, WaitsOn, Where, work_number, ℕ, ◌-◌, ◌∙◌, ◌≡◌, ◌≤◌, ◌⊎◌, StartsIn}
use Rattle.core_records.specs.declared.{call_records.GuestTask.GuestTask, parts.CoreParts.CoreParts, set_records.WaitSet.WaitSet, single.Single.Single, thread_records.GuestThread.GuestThread, work_records.WorkRecord.WorkRecord}
use Rattle.core_removals.proofs.GoneLemmas.{IsIndex-shut}
use Rattle.core_removals.proofs.LeftLemmas.{Leaves, handles_left, named_left}
use Rattle.core_removals.proofs.LessLemmas.{each_left, found_gone, found_still, one_fewer}
use Rattle.core_removals.specs.Chains.{Closes}
use Rattle.core_places.proofs.FiledLemmas.{kept_under}
use Rattle.core_records.proofs.MakeLemmas.{number_left, records_less, stands_less, table_less}
use Rattle.core_records.proofs.ReadLemmas.{set_named, set_shown}
use Rattle.table_lists.specs.declared.ordered_lists.OrderKey.{OrderKey}

module _ (a : CoreParts) (sound : IsSoundCore a) (id : TableId SetKey) (g : WaitSet) (is : Ok g ≡ item_at item_of a.sets id.rep id.serial) where
  under_waiters : place_chain (bare (parts_of a)) (WaitsOn g.number) ≡ Some g.waiters
  unfolding IsSoundCore
  under_waiters = kept_under (λ (x : WaitSet). x.number) (λ (x : WaitSet). x.set) (λ (x : WaitSet). x.waiters) a.sets a.made.sets sound.tables.sets id.rep id.serial g is

  under_calls : ready_call_chain (bare (parts_of a)) g.number ≡ Some g.ready_calls
  unfolding IsSoundCore
  under_calls = kept_under (λ (x : WaitSet). x.number) (λ (x : WaitSet). x.set) (λ (x : WaitSet). x.ready_calls) a.sets a.made.sets sound.tables.sets id.rep id.serial g is

  under_works : ready_work_chain (bare (parts_of a)) g.number ≡ Some g.ready_works
  unfolding IsSoundCore
  under_works = kept_under (λ (x : WaitSet). x.number) (λ (x : WaitSet). x.set) (λ (x : WaitSet). x.ready_works) a.sets a.made.sets sound.tables.sets id.rep id.serial g is

  abbrev gone : CoreImage
  gone = record (bare (parts_of a)) { sets = deleted id.rep a.sets }

  -- no other key loses its chain
  waits_else : (k : Where) → (k ≡ WaitsOn g.number) ⊎ (place_chain gone k ≡ place_chain (bare (parts_of a)) k)
  unfolding IsSoundCore
  waits_else (WaitsOn y) = elim (cases_eq y g.number) [
    | inl same ↦ inl (ap (λ n. WaitsOn n) same)
    | inr other ↦ inr (found_still (λ (x : WaitSet). x.number) (λ (x : WaitSet). x.set) a.sets a.made.sets sound.tables.sets id.rep id.serial g is (λ (x : WaitSet). x.waiters) y other)
  ]
  waits_else (StartsIn i) = inr refl
  waits_else (HeldIn i) = inr refl
  waits_else (UnderOf n) = inr refl
  waits_else (BlockedOn (Subtask.Guest k)) = inr refl
  waits_else (BlockedOn (Subtask.Host i)) = inr refl

  calls_else : (y : ℕ) → (y ≡ g.number) ⊎ (ready_call_chain gone y ≡ ready_call_chain (bare (parts_of a)) y)
  unfolding IsSoundCore
  calls_else y = elim (cases_eq y g.number) [
    | inl same ↦ inl same
    | inr other ↦ inr (found_still (λ (x : WaitSet). x.number) (λ (x : WaitSet). x.set) a.sets a.made.sets sound.tables.sets id.rep id.serial g is (λ (x : WaitSet). x.ready_calls) y other)
  ]

  works_else : (y : ℕ) → (y ≡ g.number) ⊎ (ready_work_chain gone y ≡ ready_work_chain (bare (parts_of a)) y)
  unfolding IsSoundCore
  works_else y = elim (cases_eq y g.number) [
    | inl same ↦ inl same
    | inr other ↦ inr (found_still (λ (x : WaitSet). x.number) (λ (x : WaitSet). x.set) a.sets a.made.sets sound.tables.sets id.rep id.serial g is (λ (x : WaitSet). x.ready_works) y other)
  ]

  no_waiters : place_chain gone (WaitsOn g.number) ≡ None
  unfolding IsSoundCore
  no_waiters = found_gone (λ (x : WaitSet). x.number) (λ (x : WaitSet). x.set) a.sets a.made.sets sound.tables.sets id.rep id.serial g is (λ (x : WaitSet). x.waiters)

  no_calls : ready_call_chain gone g.number ≡ None
  unfolding IsSoundCore
  no_calls = found_gone (λ (x : WaitSet). x.number) (λ (x : WaitSet). x.set) a.sets a.made.sets sound.tables.sets id.rep id.serial g is (λ (x : WaitSet). x.ready_calls)

  no_works : ready_work_chain gone g.number ≡ None
  unfolding IsSoundCore
  no_works = found_gone (λ (x : WaitSet). x.number) (λ (x : WaitSet). x.set) a.sets a.made.sets sound.tables.sets id.rep id.serial g is (λ (x : WaitSet). x.ready_works)

  -- it is counted in the table's use
  pub set_counted : 1 ≤ a.kept.used
  unfolding IsSoundCore table_use
  set_counted =
      let fewer = one_fewer (λ (x : WaitSet). x.number) (λ (x : WaitSet). x.set) a.sets a.made.sets sound.tables.sets id.rep id.serial g is in
      let all = sound.whole.counted.kept.used in
      omega arith

  -- and the table gives it up
  left : Leaves (kinds (bare (parts_of a))) (kinds gone)
  unfolding IsSoundCore
  left = record {
    threads = λ rep n at. at;
    calls = λ rep n at. at;
    works = λ rep n at. at;
    sets = stands_less (λ (x : WaitSet). x.number) (λ (x : WaitSet). x.set) a.sets a.made.sets sound.tables.sets id.rep id.serial g is;
    made = refl;
  }

  -- an id of another set names what it named
  pub others_named : (b : CoreParts) → b.sets ≡ deleted id.rep a.sets → (other : TableId SetKey) → (set_of (seen a) other ≡ set_of (seen a) id → ⊥) → set_of (seen b) other ≡ set_of (seen a) other
  unfolding IsSoundCore
  others_named b sets other differs =
      set_shown b other
      ∙ (ap (λ t. number_of set_key t other.rep other.serial) sets
      ∙ (number_left (λ (x : WaitSet). x.number) (λ (x : WaitSet). x.set) a.sets a.made.sets sound.tables.sets id.rep id.serial g is other.rep other.serial (λ same. differs (set_shown a other ∙ (same ∙ set_named a id g is)))
      ∙ sym (set_shown a other)))

  -- ---- What the primitive asks

  pub waiters_live : IsSome (list_of a.places g.waiters)
  unfolding IsSoundCore
  waiters_live = sound.whole.chained.places.live (WaitsOn g.number) g.waiters under_waiters

  pub calls_live : IsSome (list_of a.ready_calls g.ready_calls)
  unfolding IsSoundCore
  calls_live = sound.whole.chained.ready_calls.live g.number g.ready_calls under_calls

  pub works_live : IsSome (list_of a.ready_works g.ready_works)
  unfolding IsSoundCore
  works_live = sound.whole.chained.ready_works.live g.number g.ready_works under_works

  module _ (places ready_calls ready_works : List (Spot OrderKey)) (waiters_shut : Closes a.places places g.waiters) (calls_shut : Closes a.ready_calls ready_calls g.ready_calls) (works_shut : Closes a.ready_works ready_works g.ready_works) where
    abbrev pub set_removed : CoreParts
    set_removed = record a { sets = deleted id.rep a.sets; places = places; ready_calls = ready_calls; ready_works = ready_works; kept = record a.kept { used = a.kept.used - 1 } }

    home_left : (h : GuestThread) → HasHome (bare (parts_of a)) h → HasHome (bare (parts_of set_removed)) h
    home_left h home = record { call = home.call; there = home.there; instance = home.instance; barred = home.barred; waits = home.waits; within = home.within; place = named_left (kinds (bare (parts_of a))) (kinds gone) left _ _ home.place; op_progress = named_left (kinds (bare (parts_of a))) (kinds gone) left _ _ home.op_progress }

    call_left : (c : GuestTask) → IsCallNamed (bare (parts_of a)) c → IsCallNamed (bare (parts_of set_removed)) c
    call_left c named = record { caller = named_left (kinds (bare (parts_of a))) (kinds gone) left _ _ named.caller; first = named_left (kinds (bare (parts_of a))) (kinds gone) left c.first (ThreadOf c.number) named.first; join = named_left (kinds (bare (parts_of a))) (kinds gone) left _ _ named.join; group = named.group; positive = named.positive; waits = named.waits }

    work_left : (w : WorkRecord) → IsWorkNamed (bare (parts_of a)) w → IsWorkNamed (bare (parts_of set_removed)) w
    work_left w named = record { caller = named_left (kinds (bare (parts_of a))) (kinds gone) left _ _ named.caller; join = named_left (kinds (bare (parts_of a))) (kinds gone) left _ _ named.join; group = named.group }

    removed_whole : IsWhole (bare (parts_of a)) → IsWhole (bare (parts_of set_removed))
    unfolding IsSoundCore table_use
    removed_whole whole = record {
      named = record {
        threads = λ rep q at. home_left q.entry.item (whole.named.threads rep q at);
        calls = λ rep q at. call_left q.entry.item (whole.named.calls rep q at);
        works = λ rep q at. work_left q.entry.item (whole.named.works rep q at);
        switch = whole.named.switch;
      };
      chained = record {
        places = IsIndex-shut (place_chain (bare (parts_of a))) (place_chain gone) a.places places (WaitsOn g.number) g.waiters under_waiters no_waiters waits_else waiters_shut _ whole.chained.places;
        waits = whole.chained.waits;
        ready_calls = IsIndex-shut (ready_call_chain (bare (parts_of a))) (ready_call_chain gone) a.ready_calls ready_calls g.number g.ready_calls under_calls no_calls calls_else calls_shut _ whole.chained.ready_calls;
        ready_works = IsIndex-shut (ready_work_chain (bare (parts_of a))) (ready_work_chain gone) a.ready_works ready_works g.number g.ready_works under_works no_works works_else works_shut _ whole.chained.ready_works;
        polled = whole.chained.polled;
        rising = whole.chained.rising;
        marks = whole.chained.marks;
        instance_queues = whole.chained.instance_queues;
        low = whole.chained.low;
        behind = whole.chained.behind;
      };
      nodes = record { marks = whole.nodes.marks; instance_queues = whole.nodes.instance_queues; callers = whole.nodes.callers; works = whole.nodes.works; apart = whole.nodes.apart };
      counted = record {
        kept = record {
          used =
              let fewer = one_fewer (λ (x : WaitSet). x.number) (λ (x : WaitSet). x.set) a.sets a.made.sets sound.tables.sets id.rep id.serial g is in
              let all = whole.counted.kept.used in
              omega arith;
          groups = whole.counted.kept.groups;
          live = whole.counted.kept.live;
        };
        calls = whole.counted.calls;
        sets = λ rep q at.
            let one = each_left (λ (x : WaitSet). x.number) (λ (x : WaitSet). x.set) a.sets a.made.sets sound.tables.sets id.rep id.serial g is (IsSetKept (core_of (bare (parts_of a)))) whole.counted.sets rep q at in
            record { members = one.members; entries = one.entries };
        groups = whole.counted.groups;
        few = whole.counted.few;
        finished = whole.counted.finished;
        high = whole.counted.high;
        low = whole.counted.low;
        works = whole.counted.works;
        results = whole.counted.results;
      };
    }

    sound_without : IsTable (deleted id.rep a.sets) → IsSoundCore set_removed
    unfolding IsSoundCore
    sound_without table = record {
      tables = record { threads = sound.tables.threads; calls = sound.tables.calls; works = sound.tables.works; sets = table_less (λ (x : WaitSet). x.number) (λ (x : WaitSet). x.set) a.sets a.made.sets sound.tables.sets id.rep id.serial g is table; groups = sound.tables.groups };
      whole = removed_whole sound.whole;
      interesting = sound.interesting;
      moving = sound.moving;
      handles = λ i r at. handles_left (kinds (bare (parts_of a))) (kinds gone) left r (sound.handles i r at);
      owned = sound.owned;
      live = sound.live;
      ended = sound.ended;
    }

    core_without : (seen set_removed).core ≡ remove_set (set_of (seen a) id) (seen a).core
    unfolding seen IsSoundCore remove_set
    core_without =
        ap (λ m. record (seen a).core { sets = m }) (records_less (λ (x : WaitSet). x.number) (λ (x : WaitSet). x.set) a.sets a.made.sets sound.tables.sets id.rep id.serial g is ∙ ap (λ n. remove (records set_key a.sets.places) n) (set_named a id g is))

    tags_without : KeepsBut (lost_set (set_of (seen a) id)) (seen a).tags (seen set_removed).tags
    unfolding seen thread_number call_number work_number
    tags_without = record { threads = λ t other. refl; calls = λ k other. refl; sets = λ x other. others_named set_removed refl x other; works = λ w other. refl; gone = λ t none. none; same = refl; wanted = refl; seats = record { threads = λ n live other. refl; calls = λ k live other. refl; works = λ i live other. refl } }

    module _ (sets : Table (Single WaitSet)) (less : sets ≡ deleted id.rep a.sets) where
      abbrev without : CoreParts
      without = record set_removed { sets = sets }

      pub removed_sound : IsTable sets → IsSoundCore without
      removed_sound table = subst (λ (t : Table (Single WaitSet)). IsSoundCore (record set_removed { sets = t })) (sym less) (sound_without (subst (λ (t : Table (Single WaitSet)). IsTable t) less table))

      pub removed_core : (seen without).core ≡ remove_set (set_of (seen a) id) (seen a).core
      removed_core = ap (λ (t : Table (Single WaitSet)). (seen (record set_removed { sets = t })).core) less ∙ core_without

      pub removed_tags : KeepsBut (lost_set (set_of (seen a) id)) (seen a).tags (seen without).tags
      removed_tags = subst (λ (t : Table (Single WaitSet)). KeepsBut (lost_set (set_of (seen a) id)) (seen a).tags (seen (record set_removed { sets = t })).tags) (sym less) tags_without
