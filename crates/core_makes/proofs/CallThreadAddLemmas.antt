-- A call more and its thread, as a core: it is sound, and contracts see just that.
use Rattle.core_records.proofs.Core.{add_call, add_thread, ap, AreApart, AreTables, arith, AtPlace, bare, bare_call, bare_thread, bare_work, Call, call_key, call_of, calls_of, core_of, count_by-le-length, fits, GroupKey, GuestTaskKey, insert, is_of_group, is_some, IsSoundCore, IsTable, IsWhole, item_at, item_of, Keeps, kinds, length, loose_call, loose_thread, loose_work, mapped, mapped-pushed, next_place, None, Ok, on_item, Option, OwnsHandle, CoreImage, parts_of, passing, place_at, Placed, pushed, records, refl, seen, set_number, size, size-records-le, Some, subst, sym, Table, table_len, table_use, TableId, Target, thread_of, ThreadKey, true, uninterested, unmoved, with_entry, Work, work_key, work_number, ℕ, ◌+◌, ◌<◌, ◌==◌, ◌^◌, ◌∙◌, ◌≡◌, ◌≤◌, filter, nat_lt, numbers, group_key, tracked_of}
use Rattle.core_records.specs.declared.{call_records.GuestTask.GuestTask, call_records.TaskGroup.TaskGroup, parts.CoreParts.CoreParts, single.Single.Single, thread_records.GuestThread.GuestThread, work_records.WorkRecord.WorkRecord}
use Rattle.core_makes.proofs.FreshLemmas.{each_more}
use Rattle.core_makes.proofs.MoreLemmas.{passing_more, table_bare}
use Rattle.core_makes.proofs.RestoreLemmas.{handles_grown}
use Rattle.std.specs.Prelude.{vec_capacity}
use Rattle.core_records.proofs.TrackedLemmas.{ended_alike}
use Rattle.core_makes.proofs.CallPushLemmas.{nodes_of as call_nodes_of}
use Rattle.core_makes.proofs.GroupLemmas.{group_numbers}
use Rattle.core_makes.proofs.GrowLemmas.{at_grown}
use Rattle.core_makes.proofs.CallThreadCountLemmas.{passes_one}
use Rattle.core_makes.proofs.CallThreadLemmas.{grows, call_thread_whole}
use Rattle.core_makes.proofs.ThreadPushLemmas.{nodes_of}
use Rattle.core_makes.proofs.ThreadSeenLemmas.{callers_are, thread_new, thread_still, threads_are}
use Rattle.core_makes.specs.LooseCalls.{AreCallAndThreadLoose}
use Rattle.core_makes.specs.CallThread.{IsCallWithThread}
use Rattle.core_records.proofs.KeptLemmas.{used_is}
use Rattle.core_records.proofs.KindLemmas.{item_stands, table_written}
use Rattle.core_records.proofs.MakeLemmas.{number_kept, number_new, records_more, table_more}
use Rattle.core_records.proofs.ReadLemmas.{call_shown}
use Rattle.core_records.specs.Names.{keeps_waits}

-- few are in a table
pub places_few : {E X : Type 0} (key : E → Option (ℕ × X)) (t : Table E) → IsTable t → AreApart key t.places → length (records key t.places).list ≤ 4294967295
unfolding size
places_few key t table apart =
    let all : length (records key t.places).list ≤ table_len t = size-records-le key t apart in
    let places : table_len t ≤ length t.places = count_by-le-length is_some t.places in
    let few = table.places_fit in
    omega arith

module _ (a : CoreParts) (sound : IsSoundCore a) where
  pub used_few : fits 3 (seen a).core ≡ true → a.kept.used + 3 < 2 ^ 64
  unfolding fits seen IsSoundCore
  used_few room =
      let used = used_is a sound in
      let few = sound.whole.counted.few in
      let fit : table_use (seen a).core + 3 ≤ a.capacity = grind (arith, room) in
      omega arith

  pub interesting_few : a.kept.interesting + 1 < 2 ^ 64
  unfolding IsSoundCore
  interesting_few =
      let some : passing (λ (d : Call). d.interesting) (core_of (parts_of a)).calls ≤ length (core_of (parts_of a)).calls.list = count_by-le-length (λ (e : ℕ × Call). e.1.interesting) (core_of (parts_of a)).calls.list in
      let few = places_few call_key a.calls sound.tables.calls.table sound.tables.calls.apart in
      let is = sound.interesting in
      omega arith

  pub tables_bare : AreTables (bare (parts_of a))
  unfolding IsSoundCore
  tables_bare = record {
    threads = table_bare (λ (g : GuestThread). g.number) (λ (g : GuestThread). g.thread) a.threads a.made.threads sound.tables.threads bare_thread loose_thread (λ g. refl) (λ g. refl);
    calls = table_bare (λ (c : GuestTask). c.number) (λ (c : GuestTask). c.call) a.calls a.made.threads sound.tables.calls bare_call (λ c. uninterested (loose_call c)) (λ c. refl) (λ c. refl);
    works = table_bare (λ (w : WorkRecord). w.number) (λ (w : WorkRecord). w.work) a.works a.made.works sound.tables.works bare_work (λ w. unmoved (loose_work w)) (λ w. refl) (λ w. refl);
    sets = sound.tables.sets;
    groups = sound.tables.groups;
  }

  module _ (c : GuestTask) (g : GuestThread) (id : TableId GroupKey) (r : TaskGroup) (stands : Ok r ≡ item_at item_of a.groups id.rep id.serial) where
    abbrev pub one_more : TaskGroup
    one_more = record r { calls = r.calls + 1 }

    abbrev pub made_with : Table (Single GuestThread) → Table (Single GuestTask) → Table (Single TaskGroup) → CoreParts
    made_with t k gs = record a { threads = t; calls = k; groups = gs; made = record a.made { threads = a.made.threads + 1 }; kept = record a.kept { used = a.kept.used + 3; interesting = a.kept.interesting + 1 } }

    abbrev pub made : CoreParts
    made = made_with (pushed (record { item = g }) a.threads) (pushed (record { item = c }) a.calls) (with_entry id.rep (record { item = one_more }) a.groups)

    -- what is shown of the core with these tables holds where the tables are what calls made of them
    pub as_made : (t : Table (Single GuestThread)) (k : Table (Single GuestTask)) (gs : Table (Single TaskGroup)) → t ≡ made.threads → k ≡ made.calls → gs ≡ made.groups → (P : CoreParts → Type 0) → P made → P (made_with t k gs)
    as_made t k gs is_t is_k is_gs P shown = subst (λ (u : Table (Single GuestThread)). P (made_with u k gs)) (sym is_t) (subst (λ (u : Table (Single GuestTask)). P (made_with made.threads u gs)) (sym is_k) (subst (λ (u : Table (Single TaskGroup)). P (made_with made.threads made.calls u)) (sym is_gs) shown))

    placed : (q : Placed (Single TaskGroup)) × ((place_at a.groups id.rep ≡ Some q) × ((q.serial ≡ id.serial) × (q.entry ≡ record { item = r })))
    unfolding IsSoundCore
    placed = item_stands (λ (h : TaskGroup). h.number) (λ (h : TaskGroup). h.calls) a.groups a.made.groups sound.tables.groups id.rep id.serial r stands

    same_number : one_more.number ≡ placed.0.entry.item.number
    same_number = sym (ap (λ (e : Single TaskGroup). e.item.number) placed.1.1.1)

    -- ---- There is room to count

    pub group_few : r.calls + 1 < 2 ^ 64
    unfolding IsSoundCore size
    group_few =
        let s = core_of (bare (parts_of a)) in
        let is : r.calls ≡ calls_of placed.0.entry.item.number s = sym (ap (λ (e : Single TaskGroup). e.item.calls) placed.1.1.1) ∙ sound.whole.counted.groups id.rep placed.0 placed.1.0 in
        let calls : passing (λ (d : Call). d.group == placed.0.entry.item.number) s.calls ≤ length s.calls.list = count_by-le-length (λ (e : ℕ × Call). e.1.group == placed.0.entry.item.number) s.calls.list in
        let works : passing (is_of_group placed.0.entry.item.number) s.works ≤ length s.works.list = count_by-le-length (λ (e : ℕ × Work). is_of_group placed.0.entry.item.number e.1) s.works.list in
        let few_calls = places_few call_key (bare (parts_of a)).calls tables_bare.calls.table tables_bare.calls.apart in
        let few_works = places_few work_key (bare (parts_of a)).works tables_bare.works.table tables_bare.works.apart in
        omega arith

    module _ (is : IsCallWithThread (bare (parts_of a)) (bare_call c) (bare_thread g)) (loose : AreCallAndThreadLoose (bare (parts_of a)) (keeps_waits a.version c.call.kind) (call_nodes_of c) (nodes_of g)) where
      -- ---- What contracts see

      calls_are : records call_key (pushed (record { item = c }) a.calls).places ≡ insert (records call_key a.calls.places) c.number c.call
      unfolding IsSoundCore
      calls_are = records_more (λ (d : GuestTask). d.number) (λ (d : GuestTask). d.call) a.calls a.made.threads sound.tables.calls c is.call_next

      pub call_thread_core : (seen made).core ≡ add_thread g.thread (add_call c.number c.call (seen a).core)
      unfolding seen add_thread add_call
      call_thread_core = rw (threads_are a sound g is.thread_next, calls_are, callers_are a sound g is.thread_next loose.thread.callers, group_numbers a.groups id.rep placed.0 placed.1.0 one_more same_number) refl

      live_same : filter (nat_lt a.finished) (numbers (records group_key made.groups.places)) ≡ filter (nat_lt a.finished) (numbers (records group_key a.groups.places))
      live_same = ap (filter (nat_lt a.finished)) (group_numbers a.groups id.rep placed.0 placed.1.0 one_more same_number)

      call_kept : (k : TableId GuestTaskKey) → 0 < call_of (seen a) k → call_of (seen made) k ≡ call_of (seen a) k
      unfolding IsSoundCore
      call_kept k live =
          call_shown made k
          ∙ (number_kept (λ (d : GuestTask). d.number) (λ (d : GuestTask). d.call) a.calls a.made.threads sound.tables.calls c is.call_next k.rep k.serial (subst (λ (n : ℕ). 0 < n) (call_shown a k) live)
          ∙ sym (call_shown a k))

      pub call_thread_tags : Keeps (seen a).tags (seen made).tags
      unfolding seen set_number work_number
      call_thread_tags = record { threads = thread_still a sound g is.thread_next made refl; calls = call_kept; sets = λ k live. refl; works = λ k live. refl; same = ap (λ gs. tracked_of a.ended.items gs a.made.groups) live_same; wanted = refl }

      pub thread_named : (k : TableId ThreadKey) → k.rep ≡ next_place a.threads → k.serial ≡ a.threads.given → thread_of (seen made) k ≡ a.made.threads + 1
      thread_named = thread_new a sound g is.thread_next made refl

      pub call_named : (k : TableId GuestTaskKey) → k.rep ≡ next_place a.calls → k.serial ≡ a.calls.given → call_of (seen made) k ≡ a.made.threads + 1
      unfolding IsSoundCore
      call_named k at serial = call_shown made k ∙ (number_new (λ (d : GuestTask). d.number) (λ (d : GuestTask). d.call) a.calls a.made.threads sound.tables.calls c is.call_next k.rep k.serial at serial ∙ is.call_next)

      -- ---- It is sound

      module _ (group_place : c.group ≡ id.rep) (of_group : r.number ≡ c.call.group) where
        group_is : placed.0.entry.item.number ≡ c.call.group
        group_is = sym same_number ∙ of_group

        abbrev with_tables : Table (Single GuestThread) → Table (Single GuestTask) → Table (Single TaskGroup) → CoreImage
        with_tables t k gs = record (bare (parts_of made)) { threads = t; calls = k; groups = gs }

        abbrev bare_after : CoreImage
        bare_after = with_tables (pushed (record { item = bare_thread g }) (mapped (on_item bare_thread) a.threads)) (pushed (record { item = bare_call c }) (mapped (on_item bare_call) a.calls)) (with_entry id.rep (record { item = record placed.0.entry.item { calls = placed.0.entry.item.calls + 1 } }) a.groups)

        -- the parts with the bare records are the bare parts with the records
        moved : (P : CoreImage → Type 0) → P bare_after → P (bare (parts_of made))
        moved P is_after =
            subst (λ (k : Table (Single GuestTask)). P (with_tables (mapped (on_item bare_thread) made.threads) k made.groups)) (sym (mapped-pushed (on_item bare_call) a.calls (record { item = c })))
            (subst (λ (t : Table (Single GuestThread)). P (with_tables t (pushed (record { item = bare_call c }) (mapped (on_item bare_call) a.calls)) made.groups)) (sym (mapped-pushed (on_item bare_thread) a.threads (record { item = g })))
            (subst (λ (e : Single TaskGroup). P (with_tables (pushed (record { item = bare_thread g }) (mapped (on_item bare_thread) a.threads)) (pushed (record { item = bare_call c }) (mapped (on_item bare_call) a.calls)) (with_entry id.rep (record { item = record e.item { calls = e.item.calls + 1 } }) a.groups))) placed.1.1.1 is_after))

        named_still : (rep : ℕ) (t : Target) → AtPlace (bare (parts_of a)) rep t → AtPlace (bare (parts_of made)) rep t
        unfolding IsSoundCore
        named_still rep t at = moved (λ q. AtPlace q rep t) (at_grown (bare (parts_of a)) (bare_thread g) tables_bare.threads is.thread_next bare_after.calls bare_after.groups bare_after.kept
            (grows (bare (parts_of a)) sound.whole tables_bare (bare_call c) (bare_thread g) is loose.call loose.thread loose.two id.rep placed.0 placed.1.0 group_place group_is) rep t at)

        module _ (threads_table : IsTable made.threads) (calls_table : IsTable made.calls) (unnamed : g.thread.handle ≡ None) (interests : c.call.interesting ≡ true) where
          none_owned : OwnsHandle (parts_of made) g
          none_owned h is_h = absurd (let none : ◌≡◌ {A = Option ℕ} None (Some h) = sym unnamed ∙ is_h in cc)

          pub call_thread_sound : IsSoundCore made
          unfolding IsSoundCore
          call_thread_sound = record {
            tables = record {
              threads = table_more (λ (h : GuestThread). h.number) (λ (h : GuestThread). h.thread) a.threads a.made.threads sound.tables.threads g is.thread_next threads_table;
              calls = table_more (λ (d : GuestTask). d.number) (λ (d : GuestTask). d.call) a.calls a.made.threads sound.tables.calls c is.call_next calls_table;
              works = sound.tables.works;
              sets = sound.tables.sets;
              groups = table_written (λ (h : TaskGroup). h.number) (λ (h : TaskGroup). h.calls) a.groups a.made.groups sound.tables.groups id.rep id.serial r stands one_more refl;
            };
            whole = moved IsWhole (call_thread_whole (bare (parts_of a)) sound.whole tables_bare (bare_call c) (bare_thread g) is loose.call loose.thread loose.two id.rep placed.0 placed.1.0 group_place group_is);
            interesting =
                let was = sound.interesting in
                let more = passing_more (λ (d : GuestTask). d.number) (λ (d : GuestTask). d.call) a.calls a.made.threads sound.tables.calls c is.call_next (λ d. d.interesting) in
                let one = passes_one (λ (d : Call). d.interesting) c.call interests in
                omega arith;
            moving = sound.moving;
            handles = λ i x at. handles_grown (kinds (bare (parts_of a))) (kinds (bare (parts_of made))) named_still x (sound.handles i x at);
            owned = each_more (OwnsHandle (parts_of made)) a.threads g sound.tables.threads.table (λ rep q at. sound.owned rep q at) none_owned;
            live = sound.live;
            ended = ended_alike a.ended.items (vec_capacity a.ended) _ _ a.made.groups live_same sound.ended;
          }
