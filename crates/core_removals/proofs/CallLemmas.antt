-- A call is gone, as the primitive takes it away.
use Rattle.core_queues.proofs.SeatLemmas.{seats_less}
use Rattle.core_records.proofs.Core.{ap, ap₂, AreHandlesNamed, arith, bare, bare_call, bare_thread, BlockedOn, Call, call_group, call_key, call_of, calls_of, cond, Core, core_of, deleted, EachEntry, entry_of, eq-eqb, false, filings_at, filter, get, group_key, GroupKey, GuestTaskKey, has_thread, is_made, IsGroupKept, IsSome, IsSoundCore, IsTable, IsWhole, item_at, item_of, Join, join_of, KeepsBut, kinds, List, list_of, loose_call, lost_call, mapped-deleted, nat_lt, ne_eqb, None, number_of, Ok, on_item, one_if_passes, option_map_or, CoreImage, parts_of, passing, passing-with_at, place_at, Placed, ready_call, Records, records, refl, remove, remove_call, seen, set_number, Some, SoundTable, Spot, subst, Subtask, sym, Table, table_use, TableId, Thread, thread_number, true, uninterested, with_entry, work_number, ℕ, ◌+◌, ◌-◌, ◌<◌, ◌==◌, ◌∙◌, ◌≡◌, ◌≤◌, numbers, tracked_of, IfSome, Option, option_and_then}
use Rattle.core_records.specs.declared.{call_records.GuestTask.GuestTask, call_records.TaskGroup.TaskGroup, parts.CoreParts.CoreParts, parts.CachedCounts.CachedCounts, single.Single.Single, thread_records.GuestThread.GuestThread}
use Rattle.core_places.proofs.AlikeLemmas.{number_of_alike}
use Rattle.core_places.proofs.FiledLemmas.{kept_under}
use Rattle.core_places.specs.Moved.{Alike}
use Rattle.core_queues.proofs.BareLemmas.{mapped_place}
use Rattle.core_removals.proofs.BareTables.{item_mapped, sound_mapped}
use Rattle.core_removals.proofs.CallGoneLemmas.{calls_counted, left, less, less_whole}
use Rattle.core_removals.proofs.GroupLemmas.{numbers_alike}
use Rattle.core_removals.proofs.LeftLemmas.{handles_left}
use Rattle.core_removals.proofs.LessLemmas.{one_fewer, passes_not, read_at}
use Rattle.core_removals.proofs.RewriteLemmas.{each_rewritten, each_there, rewritten_alike}
use Rattle.core_removals.specs.Chains.{Closes, ClosesIf, Drops}
use Rattle.core_removals.specs.Counted.{uncalled}
use Rattle.core_records.proofs.HomeLemmas.{call_names}
use Rattle.std.specs.Prelude.{vec_capacity}
use Rattle.core_records.proofs.TrackedLemmas.{ended_alike}
use Rattle.core_records.proofs.KindLemmas.{item_number, item_read, item_stands, table_written}
use Rattle.core_records.proofs.MakeLemmas.{number_left, records_less, table_less}
use Rattle.core_records.proofs.ReadLemmas.{call_named, call_read, call_shown}
use Rattle.table_lists.specs.declared.ordered_lists.OrderKey.{OrderKey}

abbrev number : GuestTask → ℕ
number g = g.number

abbrev machine : GuestTask → Call
machine g = g.call

abbrev group_number : TaskGroup → ℕ
group_number r = r.number

abbrev group_calls : TaskGroup → ℕ
group_calls r = r.calls

module _ (a : CoreParts) (sound : IsSoundCore a) (id : TableId GuestTaskKey) (g : GuestTask) (is : Ok g ≡ item_at item_of a.calls id.rep id.serial) where
  abbrev bared : CoreImage
  bared = bare (parts_of a)

  whole : IsWhole bared
  unfolding IsSoundCore
  whole = sound.whole

  calls_sound : SoundTable call_key bared.calls a.made.threads
  unfolding IsSoundCore
  calls_sound = sound_mapped number machine bare_call (λ c. uninterested (loose_call c)) (λ x. refl) (λ x. refl) a.calls a.made.threads sound.tables.calls

  bare_is : Ok (bare_call g) ≡ item_at item_of bared.calls id.rep id.serial
  bare_is = item_mapped bare_call a.calls id.rep id.serial g is

  bare_stands : (q : Placed (Single GuestTask)) × ((place_at bared.calls id.rep ≡ Some q) × ((q.serial ≡ id.serial) × (q.entry ≡ entry_of (bare_call g))))
  bare_stands = item_stands number machine bared.calls a.made.threads calls_sound id.rep id.serial (bare_call g) bare_is

  named : g.number ≡ call_of (seen a) id
  named = call_named a id g is

  -- ---- What the primitive asks

  pub blocked_live : IsSome (list_of a.places g.blocked)
  blocked_live = whole.chained.places.live (BlockedOn (Subtask.Guest g.number)) g.blocked (kept_under number machine (λ (x : GuestTask). x.blocked) bared.calls a.made.threads calls_sound id.rep id.serial (bare_call g) bare_is)

  pub waits_live : IfSome g.waits (λ c. IsSome (list_of a.waits c))
  waits_live = by g.waits refl
    where
      by : (o : Option ℕ) → g.waits ≡ o → IfSome o (λ c. IsSome (list_of a.waits c))
      by None none = tt
      by (Some c) some = whole.chained.waits.live g.number c
          (ap (option_and_then (λ c. c)) (kept_under number machine (λ (x : GuestTask). x.waits) bared.calls a.made.threads calls_sound id.rep id.serial (bare_call g) bare_is) ∙ some)

  pub ready_made : is_made a.ready_calls g.ready.index ≡ true
  ready_made = subst (λ (e : Single GuestTask). is_made a.ready_calls e.item.ready.index ≡ true) bare_stands.1.1.1 (whole.chained.ready_calls.made id.rep _ (filings_at ready_call bared.calls id.rep (Some bare_stands.0) bare_stands.1.0))

  pub group_positive : 0 < g.call.group
  group_positive = (call_names a sound id g is).positive

  pub call_counted : 1 ≤ a.kept.used
  unfolding table_use
  call_counted =
      let fewer = one_fewer number machine bared.calls a.made.threads calls_sound id.rep id.serial (bare_call g) bare_is in
      let all = whole.counted.kept.used in
      omega arith

  -- what is counted of the calls
  calls_map : records call_key (deleted id.rep a.calls).places ≡ remove (records call_key a.calls.places) g.number
  unfolding IsSoundCore
  calls_map = records_less number machine a.calls a.made.threads sound.tables.calls id.rep id.serial g is

  interest : passing (λ (c : Call). c.interesting) (records call_key (deleted id.rep a.calls).places) + cond g.call.interesting 1 0 ≡ passing (λ (c : Call). c.interesting) (records call_key a.calls.places)
  unfolding IsSoundCore
  interest =
      let law = passing-with_at (λ (c : Call). c.interesting) (records call_key a.calls.places) g.number None in
      let map = ap (passing (λ (c : Call). c.interesting)) calls_map in
      let one : one_if_passes (λ (c : Call). c.interesting) (get (records call_key a.calls.places) g.number) ≡ cond {A = ℕ} g.call.interesting 1 0 =
      ap (one_if_passes (λ (c : Call). c.interesting)) (sym (item_read number machine a.calls a.made.threads sound.tables.calls id.rep id.serial g is ∙ ap (get (records call_key a.calls.places)) (item_number number machine a.calls id.rep id.serial g is))) in
      omega arith

  pub interest_counted : cond g.call.interesting 1 0 ≤ a.kept.interesting
  unfolding IsSoundCore seen
  interest_counted = let law = interest in let all = sound.interesting in omega arith

  module _ (group : TableId GroupKey) (r : TaskGroup) (is_r : Ok r ≡ item_at item_of a.groups group.rep group.serial) (of : r.number ≡ g.call.group) where
    groups_sound : SoundTable group_key a.groups a.made.groups
    unfolding IsSoundCore
    groups_sound = sound.tables.groups

    abbrev pub group_less : TaskGroup
    group_less = record r { calls = r.calls - 1 }

    abbrev pub groups_less : Table (Single TaskGroup)
    groups_less = with_entry group.rep (entry_of group_less) a.groups

    alike : Alike uncalled groups_less a.groups
    alike = rewritten_alike group_number group_calls a.groups a.made.groups groups_sound group.rep group.serial r is_r uncalled group_less refl

    -- it is one of the calls of its group
    pub group_counted : 1 ≤ r.calls
    group_counted =
        let law = calls_counted bared whole a.made.threads calls_sound id.rep id.serial (bare_call g) bare_is groups_less alike a.places a.ready_calls a.waits a.kept r.number in
        let one : cond {A = ℕ} ((bare_call g).call.group == r.number) 1 0 ≡ 1 = ap (λ b. cond b 1 0) (eq-eqb g.call.group r.number (sym of)) in
        let all : r.calls ≡ calls_of r.number (core_of bared) = each_there group_number group_calls a.groups a.made.groups groups_sound group.rep group.serial r is_r (IsGroupKept (core_of bared)) whole.counted.groups in
        omega arith

    pub group_named : number_of group_key groups_less group.rep group.serial ≡ call_group (call_of (seen a) id) (seen a).core
    group_named = number_of_alike uncalled group_key (λ e. refl) groups_less a.groups alike group.rep group.serial ∙ (item_number group_number group_calls a.groups group.rep group.serial r is_r ∙ (of ∙ ap (λ o. option_map_or (λ (c : Call). c.group) o 0) (call_read a sound id g is)))

    module _ (alone : has_thread (call_of (seen a) id) (seen a).core ≡ false) (apart : join_of (Subtask.Guest (call_of (seen a) id)) (seen a).core ≡ Join.Nowhere) where
      nowhere : g.call.join ≡ Join.Nowhere
      nowhere = ap (λ o. option_map_or (λ (c : Call). c.join) o Join.Nowhere) (call_read a sound id g is) ∙ apart

      each_apart : EachEntry (λ (h : GuestThread). h.thread.call ≡ g.number → ⊥) bared.threads
      unfolding IsSoundCore seen has_thread
      each_apart r q at same =
          let one = mapped_place (on_item bare_thread) a.threads r q at in
          passes_not (λ (t : Thread). t.call == call_of (seen a) id) (seen a).core.threads alone one.0.entry.item.number one.0.entry.item.thread
          (read_at (λ (h : GuestThread). h.number) (λ (h : GuestThread). h.thread) a.threads a.made.threads sound.tables.threads r one.0 one.1.0)
          (eq-eqb one.0.entry.item.thread.call (call_of (seen a) id) (ap (λ (e : Single GuestThread). e.item.thread.call) one.1.1 ∙ (same ∙ named)))

      module _ (places ready_calls waits : List (Spot OrderKey)) (shut : Closes a.places places g.blocked) (ready_out : Drops a.ready_calls ready_calls g.ready.index) (waits_out : ClosesIf a.waits waits g.waits) (interesting : ℕ) (still : interesting + cond g.call.interesting 1 0 ≡ a.kept.interesting) where
        abbrev pub call_removed : CoreParts
        call_removed = record a { calls = deleted id.rep a.calls; groups = groups_less; places = places; ready_calls = ready_calls; waits = waits; kept = record a.kept { used = a.kept.used - 1; interesting = interesting } }

        abbrev bare_kept : CachedCounts
        bare_kept = record a.kept { used = a.kept.used - 1; interesting = 0; moving = 0 }

        abbrev gone : CoreImage
        gone = less bared whole a.made.threads calls_sound id.rep id.serial (bare_call g) bare_is groups_less alike places ready_calls waits bare_kept

        bare_gone : bare (parts_of call_removed) ≡ gone
        bare_gone = ap (λ (t : Table (Single GuestTask)). record gone { calls = t }) (mapped-deleted (on_item bare_call) a.calls id.rep)

        counted : (n : ℕ) → calls_of n (core_of gone) + cond (g.call.group == n) 1 0 ≡ calls_of n (core_of bared)
        counted = calls_counted bared whole a.made.threads calls_sound id.rep id.serial (bare_call g) bare_is groups_less alike places ready_calls waits bare_kept

        groups_kept : EachEntry (IsGroupKept (core_of gone)) groups_less
        groups_kept = each_rewritten group_number group_calls a.groups a.made.groups groups_sound group.rep group.serial r is_r group_less (IsGroupKept (core_of bared)) (IsGroupKept (core_of gone)) new others whole.counted.groups
          where
            new : r.calls ≡ calls_of r.number (core_of bared) → r.calls - 1 ≡ calls_of r.number (core_of gone)
            new kept =
                let law = counted r.number in
                let one : cond {A = ℕ} (g.call.group == r.number) 1 0 ≡ 1 = ap (λ b. cond b 1 0) (eq-eqb g.call.group r.number (sym of)) in
                omega arith

            others : (x : TaskGroup) → (x.number ≡ r.number → ⊥) → x.calls ≡ calls_of x.number (core_of bared) → x.calls ≡ calls_of x.number (core_of gone)
            others x differs kept =
                let law = counted x.number in
                let none : cond {A = ℕ} (g.call.group == x.number) 1 0 ≡ 0 = ap (λ b. cond b 1 0) (ne_eqb g.call.group x.number (λ same. differs (sym same ∙ sym of))) in
                omega arith

        gone_whole : IsWhole gone
        gone_whole =
            let all = call_counted in
            less_whole bared whole a.made.threads calls_sound id.rep id.serial (bare_call g) bare_is groups_less alike places ready_calls waits bare_kept nowhere each_apart shut ready_out waits_out (omega arith) refl refl groups_kept

        live_same : filter (nat_lt a.finished) (numbers (records group_key groups_less.places)) ≡ filter (nat_lt a.finished) (numbers (records group_key a.groups.places))
        live_same = ap (filter (nat_lt a.finished)) (numbers_alike groups_less a.groups alike)

        sound_without : IsTable (deleted id.rep a.calls) → IsSoundCore call_removed
        unfolding IsSoundCore seen
        sound_without table = record {
          tables = record {
            threads = sound.tables.threads;
            calls = table_less number machine a.calls a.made.threads sound.tables.calls id.rep id.serial g is table;
            works = sound.tables.works;
            sets = sound.tables.sets;
            groups = table_written group_number group_calls a.groups a.made.groups sound.tables.groups group.rep group.serial r is_r group_less refl;
          };
          whole = subst IsWhole (sym bare_gone) gone_whole;
          interesting = let law = interest in let all = sound.interesting in let less = still in omega arith;
          moving = sound.moving;
          handles = λ i q at. subst (λ (p : CoreImage). AreHandlesNamed (kinds p) q) (sym bare_gone) (handles_left (kinds bared) (kinds gone) (left bared whole a.made.threads calls_sound id.rep id.serial (bare_call g) bare_is groups_less alike places ready_calls waits bare_kept) q (sound.handles i q at));
          owned = sound.owned;
          live = sound.live;
          ended = ended_alike a.ended.items (vec_capacity a.ended) _ _ a.made.groups live_same sound.ended;
        }

        abbrev with_maps : Records Call → List ℕ → Core
        with_maps cs gs = record (seen a).core { calls = cs; groups = gs }

        core_without : (seen call_removed).core ≡ remove_call (call_of (seen a) id) (seen a).core
        unfolding seen remove_call
        core_without = ap₂ with_maps (calls_map ∙ ap (remove (records call_key a.calls.places)) named) (ap (filter (nat_lt a.finished)) (numbers_alike groups_less a.groups alike))

        tags_without : KeepsBut (lost_call (call_of (seen a) id)) (seen a).tags (seen call_removed).tags
        unfolding seen IsSoundCore set_number work_number thread_number
        tags_without = record {
          threads = λ t other. refl;
          calls = λ k other. call_shown call_removed k ∙ (number_left number machine a.calls a.made.threads sound.tables.calls id.rep id.serial g is k.rep k.serial (λ same. other (call_shown a k ∙ (same ∙ named))) ∙ sym (call_shown a k));
          sets = λ x other. refl;
          works = λ w other. refl;
          gone = λ t none. none;
          same = ap (λ gs. tracked_of a.ended.items gs a.made.groups) live_same;
          wanted = refl;
          seats = record {
            threads = λ n live other. refl;
            calls = λ k live other. seats_less number machine (λ (h : GuestTask). h.entry) a.calls a.made.threads sound.tables.calls id.rep id.serial g is k (λ same. other (same ∙ named));
            works = λ i live other. refl;
          };
        }

        module _ (calls : Table (Single GuestTask)) (are : calls ≡ deleted id.rep a.calls) where
          pub removed_sound : IsTable calls → IsSoundCore (record call_removed { calls = calls })
          removed_sound table = subst (λ (t : Table (Single GuestTask)). IsSoundCore (record call_removed { calls = t })) (sym are) (sound_without (subst (λ (t : Table (Single GuestTask)). IsTable t) are table))

          pub removed_core : (seen (record call_removed { calls = calls })).core ≡ remove_call (call_of (seen a) id) (seen a).core
          removed_core = ap (λ (t : Table (Single GuestTask)). (seen (record call_removed { calls = t })).core) are ∙ core_without

          pub removed_tags : KeepsBut (lost_call (call_of (seen a) id)) (seen a).tags (seen (record call_removed { calls = calls })).tags
          removed_tags = subst (λ (t : Table (Single GuestTask)). KeepsBut (lost_call (call_of (seen a) id)) (seen a).tags (seen (record call_removed { calls = t })).tags) (sym are) tags_without
