-- A thread more of a call that is there, as a core: it is sound, contracts see just that, and it can be taken back.
use Rattle.core_records.proofs.Core.{add_thread, ap, ap₂, arith, AtPlace, bare, bare_call, bare_thread, Call, call_key, call_number, core_of, count_by-le-length, deleted, fits, GuestTaskKey, IsSoundCore, IsTable, IsWhole, item_at, item_of, Keeps, kinds, length, List, mapped, mapped-pushed, mapped-with_entry, named, next_place, None, Ok, on_item, Option, OwnsHandle, CoreImage, parts_of, passing, place_at, place_at-mapped, Placed, placed_as, pushed, Records, records, refl, seen, set_number, size, slice_get, Some, SoundTable, subst, sym, Table, table_use, TableId, Tag, tags_in, Target, Thread, thread_key, thread_of, ThreadKey, threads_of, true, with_entry, work_number, ℕ, ◌+◌, ◌-◌, ◌<◌, ◌==◌, ◌^◌, ◌∙◌, ◌≡◌, ◌≤◌, is_some}
use Rattle.core_records.specs.declared.{call_records.GuestTask.GuestTask, parts.CoreParts.CoreParts, single.Single.Single, thread_records.GuestThread.GuestThread}
use Rattle.core_makes.proofs.FreshLemmas.{each_more}
use Rattle.core_makes.proofs.RestoreLemmas.{Restores-deleted, Restores-pushed, Restores-same, Restores-written, handles_grown, restored_from}
use Rattle.core_makes.specs.Restored.{IsRestored}
use Rattle.core_makes.proofs.GrowLemmas.{at_grown}
use Rattle.core_makes.proofs.MemberLemmas.{grows, member_whole}
use Rattle.core_makes.proofs.CallThreadAddLemmas.{places_few, tables_bare}
use Rattle.core_makes.proofs.ThreadPushLemmas.{nodes_of}
use Rattle.core_makes.proofs.ThreadSeenLemmas.{callers_are, thread_new, thread_still, threads_are}
use Rattle.core_makes.specs.LooseCalls.{AreThreadLoose}
use Rattle.core_makes.specs.Member.{IsMember}
use Rattle.core_makes.specs.Pushed.{PushesThread}
use Rattle.core_records.proofs.KeptLemmas.{call_threads, used_is}
use Rattle.core_records.proofs.KindLemmas.{item_stands, table_written, tags_written}
use Rattle.core_records.proofs.MakeLemmas.{table_more}
use Rattle.core_records.proofs.TableLemmas.{records_unseen}

-- more were made
later_table : {E X : Type 0} {key : E → Option (ℕ × X)} {t : Table E} {made : ℕ} → SoundTable key t made → SoundTable key t (made + 1)
later_table sound = record { table = sound.table; childless = sound.childless; apart = sound.apart; above_zero = sound.above_zero; later = λ n later. sound.later n (omega arith) }

module _ (a : CoreParts) (sound : IsSoundCore a) where
  pub member_used : fits 2 (seen a).core ≡ true → a.kept.used + 2 < 2 ^ 64
  unfolding fits seen IsSoundCore
  member_used room =
      let used = used_is a sound in
      let few = sound.whole.counted.few in
      let fit : table_use (seen a).core + 2 ≤ a.capacity = grind (arith, room) in
      omega arith

  module _ (id : TableId GuestTaskKey) (c : GuestTask) (stands : Ok c ≡ item_at item_of a.calls id.rep id.serial) (g : GuestThread) where
    abbrev one_more : GuestTask
    one_more = record c { threads = c.threads + 1 }

    abbrev pub member_with : Table (Single GuestThread) → Table (Single GuestTask) → CoreParts
    member_with t k = record a { threads = t; calls = k; made = record a.made { threads = a.made.threads + 1 }; kept = record a.kept { used = a.kept.used + 2 } }

    abbrev pub member : CoreParts
    member = member_with (pushed (record { item = g }) a.threads) (with_entry id.rep (record { item = one_more }) a.calls)

    -- what is shown of the core with these tables holds where the tables are what calls made of them
    pub as_member : (t : Table (Single GuestThread)) (k : Table (Single GuestTask)) → t ≡ member.threads → k ≡ member.calls → (P : CoreParts → Type 0) → P member → P (member_with t k)
    as_member t k is_t is_k P shown = subst (λ (u : Table (Single GuestThread)). P (member_with u k)) (sym is_t) (subst (λ (u : Table (Single GuestTask)). P (member_with member.threads u)) (sym is_k) shown)

    placed : (q : Placed (Single GuestTask)) × ((place_at a.calls id.rep ≡ Some q) × ((q.serial ≡ id.serial) × (q.entry ≡ record { item = c })))
    unfolding IsSoundCore
    placed = item_stands (λ (d : GuestTask). d.number) (λ (d : GuestTask). d.call) a.calls a.made.threads sound.tables.calls id.rep id.serial c stands

    pub threads_few : c.threads + 1 < 2 ^ 64
    unfolding IsSoundCore size records seen
    threads_few =
        let s = core_of (parts_of a) in
        let is : c.threads ≡ threads_of c.number s = call_threads a sound id c stands in
        let some : passing (λ (t : Thread). t.call == c.number) s.threads ≤ length s.threads.list = count_by-le-length (λ (e : ℕ × Thread). e.1.call == c.number) s.threads.list in
        let few = places_few thread_key a.threads sound.tables.threads.table sound.tables.threads.apart in
        omega arith

    abbrev bare_placed : Placed (Single GuestTask)
    bare_placed = record { serial = placed.0.serial; parent = placed.0.parent; entry = record { item = bare_call c } }

    bare_at : place_at (bare (parts_of a)).calls id.rep ≡ Some bare_placed
    bare_at = place_at-mapped (on_item bare_call) a.calls id.rep ∙ (ap (placed_as (on_item bare_call)) placed.1.0 ∙ ap (λ (e : Single GuestTask). Some (record { serial = placed.0.serial; parent = placed.0.parent; entry = on_item bare_call e })) placed.1.1.1)

    calls_same : records call_key member.calls.places ≡ records call_key a.calls.places
    calls_same = records_unseen call_key a.calls id.rep placed.0 placed.1.0 (record { item = one_more }) (ap (λ (e : Single GuestTask). call_key e) (sym placed.1.1.1))

    module _ (is : IsMember (bare (parts_of a)) (bare_call c) id.rep (bare_thread g)) (loose : AreThreadLoose (bare (parts_of a)) (is_some c.waits) (nodes_of g)) where
      -- ---- What contracts see

      pub member_core : (seen member).core ≡ add_thread g.thread (seen a).core
      unfolding seen add_thread
      member_core = rw (threads_are a sound g is.next, calls_same, callers_are a sound g is.next loose.callers) refl

      call_tags : tags_in call_key member.calls ≡ tags_in call_key a.calls
      unfolding IsSoundCore
      call_tags = tags_written (λ (d : GuestTask). d.number) (λ (d : GuestTask). d.call) a.calls a.made.threads sound.tables.calls id.rep id.serial c stands one_more refl

      pub member_tags : Keeps (seen a).tags (seen member).tags
      unfolding seen call_number set_number work_number
      member_tags = record { threads = thread_still a sound g is.next member refl; calls = λ k live. ap (λ (ts : List (Option Tag)). named k.serial (slice_get ts k.rep)) call_tags; sets = λ k live. refl; works = λ k live. refl; same = refl; wanted = refl }

      pub member_named : (k : TableId ThreadKey) → k.rep ≡ next_place a.threads → k.serial ≡ a.threads.given → thread_of (seen member) k ≡ a.made.threads + 1
      member_named = thread_new a sound g is.next member refl

      -- ---- It is sound

      abbrev with_tables : Table (Single GuestThread) → Table (Single GuestTask) → CoreImage
      with_tables t k = record (bare (parts_of member)) { threads = t; calls = k }

      moved : (P : CoreImage → Type 0) → P (with_tables (pushed (record { item = bare_thread g }) (mapped (on_item bare_thread) a.threads)) (with_entry id.rep (record { item = bare_call one_more }) (mapped (on_item bare_call) a.calls))) → P (bare (parts_of member))
      moved P is_after =
          subst (λ (k : Table (Single GuestTask)). P (with_tables (mapped (on_item bare_thread) member.threads) k)) (sym (mapped-with_entry (on_item bare_call) a.calls id.rep (record { item = one_more })))
          (subst (λ (t : Table (Single GuestThread)). P (with_tables t (with_entry id.rep (record { item = bare_call one_more }) (mapped (on_item bare_call) a.calls)))) (sym (mapped-pushed (on_item bare_thread) a.threads (record { item = g }))) is_after)

      named_still : (rep : ℕ) (t : Target) → AtPlace (bare (parts_of a)) rep t → AtPlace (bare (parts_of member)) rep t
      unfolding IsSoundCore
      named_still rep t at = moved (λ q. AtPlace q rep t)
          (at_grown (bare (parts_of a)) (bare_thread g) (tables_bare a sound).threads is.next (with_entry id.rep (record { item = bare_call one_more }) (bare (parts_of a)).calls) a.groups (bare (parts_of member)).kept
          (grows (bare (parts_of a)) sound.whole (tables_bare a sound) id.rep bare_placed bare_at (bare_thread g) is loose) rep t at)

      module _ (threads_table : IsTable member.threads) (unnamed : g.thread.handle ≡ None) where
        none_owned : OwnsHandle (parts_of member) g
        none_owned h is_h = absurd (let none : ◌≡◌ {A = Option ℕ} None (Some h) = sym unnamed ∙ is_h in cc)

        pub member_sound : IsSoundCore member
        unfolding IsSoundCore
        member_sound = record {
          tables = record {
            threads = table_more (λ (h : GuestThread). h.number) (λ (h : GuestThread). h.thread) a.threads a.made.threads sound.tables.threads g is.next threads_table;
            calls = later_table (table_written (λ (d : GuestTask). d.number) (λ (d : GuestTask). d.call) a.calls a.made.threads sound.tables.calls id.rep id.serial c stands one_more refl);
            works = sound.tables.works;
            sets = sound.tables.sets;
            groups = sound.tables.groups;
          };
          whole = moved IsWhole (member_whole (bare (parts_of a)) sound.whole (tables_bare a sound) id.rep bare_placed bare_at (bare_thread g) is loose);
          interesting = sound.interesting ∙ ap (λ (m : Records Call). passing (λ d. d.interesting) m) (sym calls_same);
          moving = sound.moving;
          handles = λ i x at. handles_grown (kinds (bare (parts_of a))) (kinds (bare (parts_of member))) named_still x (sound.handles i x at);
          owned = each_more (OwnsHandle (parts_of member)) a.threads g sound.tables.threads.table (λ rep q at. sound.owned rep q at) none_owned;
          live = sound.live;
          ended = sound.ended;
        }

-- ---- It is taken back

module _ (a b c e : CoreParts) (sound_a : IsSoundCore a) (sound_b : IsSoundCore b) (id : TableId GuestTaskKey) (call : GuestTask) (stands : Ok call ≡ item_at item_of a.calls id.rep id.serial) (new : TableId ThreadKey)
    (made : PushesThread a b id call new) (same : parts_of c ≡ parts_of b)
    (only_e : e ≡ record c { threads = e.threads; calls = e.calls; made = record c.made { threads = c.made.threads - 1 }; kept = record c.kept { used = c.kept.used - 2 } })
    (threads : e.threads ≡ deleted new.rep c.threads) (calls : e.calls ≡ with_entry id.rep (record { item = call }) c.calls) (threads_table : IsTable e.threads) where
  abbrev less : CoreImage → CoreImage
  less q = record q { threads = e.threads; calls = e.calls; made = record q.made { threads = q.made.threads - 1 }; kept = record q.kept { used = q.kept.used - 2 } }

  one_less : (n : ℕ) → n + 1 - 1 ≡ n
  one_less n = omega arith

  two_less : (n : ℕ) → n + 2 - 2 ≡ n
  two_less n = omega arith

  differs : parts_of e ≡ record (parts_of a) { threads = e.threads; calls = e.calls }
  differs =
      ap parts_of only_e ∙ (ap less same ∙ (ap (λ (y : CoreParts). less (parts_of y)) made.only
      ∙ ap₂ (λ (m n : ℕ). record (parts_of a) { threads = e.threads; calls = e.calls; made = record a.made { threads = m }; kept = record a.kept { used = n } }) (one_less a.made.threads) (two_less a.kept.used)))

  pub member_restored : IsRestored (parts_of a) (parts_of e)
  unfolding IsSoundCore
  member_restored =
      let at = item_stands (λ (d : GuestTask). d.number) (λ (d : GuestTask). d.call) a.calls a.made.threads sound_a.tables.calls id.rep id.serial call stands in
      restored_from (parts_of a) (parts_of e) e.threads e.calls a.works a.sets a.groups differs
      (Restores-deleted a.threads c.threads e.threads (record { item = made.thread }) sound_a.tables.threads.table (Restores-pushed a.threads b.threads c.threads made.thread sound_b.tables.threads.table made.threads (ap (λ (q : CoreImage). q.threads) same)) new.rep made.thread_at threads threads_table)
      (Restores-written a.calls c.calls e.calls id.rep at.0 at.1.0 call (record call { threads = call.threads + 1 }) at.1.1.1 (ap (λ (q : CoreImage). q.calls) same ∙ made.calls) calls sound_a.tables.calls.table)
      (Restores-same a.works sound_a.tables.works.table)
      (Restores-same a.sets sound_a.tables.sets.table)
      (Restores-same a.groups sound_a.tables.groups.table)
