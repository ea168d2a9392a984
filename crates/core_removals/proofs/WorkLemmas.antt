-- A host work is gone, as the primitive takes it away.
use Rattle.core_queues.proofs.SeatLemmas.{seats_less}
use Rattle.core_records.proofs.Core.{[], ap, ap₂, AreHandlesNamed, arith, bare, bare_work, BlockedOn, Bool, call_number, calls_of, chained, cond, Core, core_of, deleted, Each, EachEntry, Entry, entry_of, eq-eqb, false, filings_at, filter, free_unlinked, FreeNode, get, group_key, GroupKey, High, host_entry, HostTaskKey, is_aborted, is_free, is_host_call, is_live, is_made, is_moving, is_never, is_of_group, is_some, is_stage_live, IsGroupKept, IsLinks, IsOfThread, IsKeyed, IsSome, IsSoundCore, IsTable, IsWhole, item_at, item_of, Join, join_of, KeepsBut, kinds, link_for, link_of, List, list_any, list_of, live_chain, live_value, live_work, loose_work, lost_work, Low, map, mapped, mapped-deleted, nat_lt, ne_eqb, None, not, Ok, on_item, one_if_passes, Option, option_and_then, option_map_or, CoreImage, parts_of, passing, passing-with_at, place_at, Placed, ready_work, Records, records, refl, remove, remove_work, Renames, Row, row, seen, set_number, Some, SoundTable, Spot, Stage, stage_of, subst, Subtask, sym, Table, table_use, TableId, thread_number, true, Unmade, unmoved, Work, work_entries, work_group, work_key, work_of, ℕ, ◌&&◌, ◌+◌, ◌-◌, ◌==◌, ◌||◌, ◌∙◌, ◌∷◌, ◌≡◌, ◌≤◌, numbers, tracked_of}
use Rattle.core_records.specs.declared.{call_records.TaskGroup.TaskGroup, parts.CoreParts.CoreParts, parts.CachedCounts.CachedCounts, single.Single.Single, thread_records.Queued.Queued, work_records.WorkRecord.WorkRecord, work_records.LiveWork.LiveWork}
use Rattle.core_places.proofs.AlikeLemmas.{number_of_alike}
use Rattle.core_places.proofs.FiledLemmas.{kept_under}
use Rattle.core_places.specs.Moved.{Alike}
use Rattle.core_queues.proofs.ListLemmas.{no_work_entry, none_passes}
use Rattle.core_queues.proofs.PushLemmas.{high_there, host_free}
use Rattle.core_queues.proofs.RowLemmas.{row_known}
use Rattle.core_queues.proofs.OrderKeyLemmas.{threads_own}
use Rattle.core_queues.proofs.SeenLemmas.{row_seen}
use Rattle.core_queues.specs.OrderKeys.{is_entry_of_work}
use Rattle.core_removals.proofs.BareTables.{item_mapped, sound_mapped}
use Rattle.core_removals.proofs.GroupLemmas.{numbers_alike}
use Rattle.core_removals.proofs.LeftLemmas.{handles_left}
use Rattle.core_removals.proofs.RewriteLemmas.{each_rewritten, each_there, rewritten_alike}
use Rattle.core_removals.proofs.WorkGoneLemmas.{left, less, less_whole, row_left, works_counted}
use Rattle.core_removals.specs.Chains.{Closes, Drops}
use Rattle.core_removals.specs.Counted.{IsIn, IsNamedBy, Lowers, uncalled}
use Rattle.core_records.proofs.HomeLemmas.{work_names}
use Rattle.std.specs.Prelude.{vec_capacity}
use Rattle.core_records.proofs.TrackedLemmas.{ended_alike}
use Rattle.core_records.proofs.KindLemmas.{item_number, item_read, item_stands, table_written}
use Rattle.core_records.proofs.MakeLemmas.{number_left, records_less, table_less}
use Rattle.core_records.proofs.ReadLemmas.{work_named, work_read, work_shown}
use Rattle.table_lists.specs.declared.ordered_lists.OrderKey.{OrderKey}

abbrev number : WorkRecord → ℕ
number w = w.number

abbrev machine : WorkRecord → Work
machine w = w.work

abbrev group_number : TaskGroup → ℕ
group_number r = r.number

abbrev group_calls : TaskGroup → ℕ
group_calls r = r.calls

pub is_there : (o : Option ℕ) → is_some o ≡ true → (n : ℕ) × (o ≡ Some n)
is_there None some = absurd (cc)
is_there (Some n) some = (n, refl)

module _ (a : CoreParts) (sound : IsSoundCore a) (id : TableId HostTaskKey) (g : WorkRecord) (is : Ok g ≡ item_at item_of a.works id.rep id.serial) where
  abbrev bared : CoreImage
  bared = bare (parts_of a)

  whole : IsWhole bared
  unfolding IsSoundCore
  whole = sound.whole

  works_sound : SoundTable work_key bared.works a.made.works
  unfolding IsSoundCore
  works_sound = sound_mapped number machine bare_work (λ w. unmoved (loose_work w)) (λ x. refl) (λ x. refl) a.works a.made.works sound.tables.works

  groups_sound : SoundTable group_key a.groups a.made.groups
  unfolding IsSoundCore
  groups_sound = sound.tables.groups

  bare_is : Ok (bare_work g) ≡ item_at item_of bared.works id.rep id.serial
  bare_is = item_mapped bare_work a.works id.rep id.serial g is

  bare_stands : (q : Placed (Single WorkRecord)) × ((place_at bared.works id.rep ≡ Some q) × ((q.serial ≡ id.serial) × (q.entry ≡ entry_of (bare_work g))))
  bare_stands = item_stands number machine bared.works a.made.works works_sound id.rep id.serial (bare_work g) bare_is

  named : g.number ≡ work_of (seen a) id
  named = work_named a id g is

  -- ---- What the primitive asks

  pub blocked_live : IsSome (list_of a.places g.blocked)
  blocked_live = whole.chained.places.live (BlockedOn (Subtask.Host g.number)) g.blocked (kept_under number machine (λ (x : WorkRecord). x.blocked) bared.works a.made.works works_sound id.rep id.serial (bare_work g) bare_is)

  pub ready_made : is_made a.ready_works g.ready.index ≡ true
  ready_made = subst (λ (e : Single WorkRecord). is_made a.ready_works e.item.ready.index ≡ true) bare_stands.1.1.1 (whole.chained.ready_works.made id.rep _ (filings_at ready_work bared.works id.rep (Some bare_stands.0) bare_stands.1.0))

  -- one that has ended is in no chain of the live works
  pub live_free : stage_of (work_of (seen a) id) (seen a).core ≡ Stage.Ended → is_free a.polled g.live.index ≡ true
  live_free ended = free_unlinked a.polled g.live.index
      (subst (λ (e : Single WorkRecord). link_of a.polled e.item.live.index ≡ link_for (live_chain bared) (record { node = e.item.live.index; key = cond (is_stage_live e.item.work.stage) (Some tt) None; value = live_value id.rep e.item })) bare_stands.1.1.1 (whole.chained.polled.has_link id.rep _ (filings_at live_work bared.works id.rep (Some bare_stands.0) bare_stands.1.0))
      ∙ ap (λ x. link_for (live_chain bared) (record { node = g.live.index; key = cond (is_stage_live x) (Some tt) None; value = live_value id.rep g })) (ap (λ o. option_map_or (λ (w : Work). w.stage) o Stage.Ended) (work_read a sound id g is) ∙ ended))
      (subst (λ (e : Single WorkRecord). is_made a.polled e.item.live.index ≡ true) bare_stands.1.1.1 (whole.chained.polled.made id.rep _ (filings_at live_work bared.works id.rep (Some bare_stands.0) bare_stands.1.0)))

  pub mark_unlinked : work_entries (work_of (seen a) id) (seen a).core.queues.high ≡ 0 → IsLinks a.marks → is_free a.marks g.mark.index ≡ true
  mark_unlinked none links = by a.high refl (high_there a sound id g is)
    where
      by : (o : Option ℕ) → a.high ≡ o → IsSome o → is_free a.marks g.mark.index ≡ true
      by None at some = absurd (cc)
      by (Some k) at some = host_free a sound id g is id.rep refl (host_entry id.rep g) refl k at none links

  works_map : records work_key (deleted id.rep a.works).places ≡ remove (records work_key a.works.places) g.number
  unfolding IsSoundCore
  works_map = records_less number machine a.works a.made.works sound.tables.works id.rep id.serial g is

  -- what is counted of the works
  fewer : (test : Work → Bool) → passing test (records work_key (deleted id.rep a.works).places) + cond (test g.work) 1 0 ≡ passing test (records work_key a.works.places)
  unfolding IsSoundCore
  fewer test =
      let law = passing-with_at test (records work_key a.works.places) g.number None in
      let map = ap (passing test) works_map in
      let one : one_if_passes test (get (records work_key a.works.places) g.number) ≡ cond {A = ℕ} (test g.work) 1 0 =
      ap (one_if_passes test) (sym (item_read number machine a.works a.made.works sound.tables.works id.rep id.serial g is ∙ ap (get (records work_key a.works.places)) (item_number number machine a.works id.rep id.serial g is))) in
      omega arith

  alike_same : Alike uncalled a.groups a.groups
  alike_same = refl

  law_of : (n : ℕ) → calls_of n (core_of bared) ≡ calls_of n (core_of (less bared whole a.made.works works_sound id.rep id.serial (bare_work g) bare_is a.groups alike_same a.places a.ready_works a.polled a.marks a.kept)) + cond (is_of_group n g.work) 1 0
  law_of n = sym (works_counted bared whole a.made.works works_sound id.rep id.serial (bare_work g) bare_is a.groups alike_same a.places a.ready_works a.polled a.marks a.kept n)

  -- a host call is one of its group
  pub group_counted : (n : ℕ) (r : TaskGroup) → g.work.group ≡ Some n → r.number ≡ n → IsIn r a.groups → 1 ≤ r.calls
  group_counted n r has same there =
      let law = law_of r.number in
      let one : cond {A = ℕ} (is_of_group r.number g.work) 1 0 ≡ 1 = ap (λ b. cond b 1 0) (ap (λ o. option_map_or (λ h. h == r.number) o false) has ∙ eq-eqb n r.number (sym same)) in
      let all : r.calls ≡ calls_of r.number (core_of bared) = each_there group_number group_calls a.groups a.made.groups groups_sound there.0 there.1.0 r there.1.1 (IsGroupKept (core_of bared)) whole.counted.groups in
      omega arith

  module _ (unqueued_high : work_entries (work_of (seen a) id) (seen a).core.queues.high ≡ 0) (apart : join_of (Subtask.Host (work_of (seen a) id)) (seen a).core ≡ Join.Nowhere) (ended : stage_of (work_of (seen a) id) (seen a).core ≡ Stage.Ended) where
    nowhere : g.work.join ≡ Join.Nowhere
    nowhere = ap (λ o. option_map_or (λ (w : Work). w.join) o Join.Nowhere) (work_read a sound id g is) ∙ apart

    resting : is_live g.work ≡ false
    resting = ap is_stage_live (ap (λ o. option_map_or (λ (w : Work). w.stage) o Stage.Ended) (work_read a sound id g is) ∙ ended)

    -- low has entries of threads alone
    low_none : (qs : List Queued) → Each (IsKeyed bared) qs → Each IsOfThread qs → list_any (λ (q : Queued). is_entry_of_work g.number q.entry) qs ≡ false
    low_none [] known threads = refl
    low_none (q ∷ qs) known threads =
        let order_key = threads_own bared q known.0 threads.0 in
        ap₂ (λ b d. b || d) (ap (λ (x : Queued). is_entry_of_work g.number x.entry) (sym order_key.is)) (low_none qs known.1 threads.1)

    unqueued : (r : Row) → list_any (λ (q : Queued). is_entry_of_work g.number q.entry) (row bared r) ≡ false
    unfolding seen
    unqueued High = none_passes (IsKeyed bared) (λ (q : Queued). q.entry) (λ (q : Queued). is_entry_of_work g.number q.entry) (is_entry_of_work g.number) (λ q known is. is) (row bared High) (row_known bared whole High) (no_work_entry g.number (row_seen a High) (ap (λ n. work_entries n (row_seen a High)) named ∙ unqueued_high))
    unqueued Low = low_none (row bared Low) (row_known bared whole Low) whole.chained.low

    module _ (groups : Table (Single TaskGroup)) (group : Option (TableId GroupKey)) (lowers : Lowers a.groups groups g.work.group group) where
      alike : Alike uncalled groups a.groups
      alike = by g.work.group group lowers
        where
          by : (o : Option ℕ) (i : Option (TableId GroupKey)) → Lowers a.groups groups o i → Alike uncalled groups a.groups
          by None None l = ap (mapped (on_item uncalled)) l
          by None (Some k) l = absurd l
          by (Some n) None l = absurd l
          by (Some n) (Some k) l = subst (λ (t : Table (Single TaskGroup)). Alike uncalled t a.groups) (sym l.1.1.1) (rewritten_alike group_number group_calls a.groups a.made.groups groups_sound k.rep k.serial l.0 l.1.0 uncalled (record l.0 { calls = l.0.calls - 1 }) refl)

      pub group_named : IsNamedBy groups (work_group (work_of (seen a) id) (seen a).core) group
      group_named = subst (λ (o : Option ℕ). IsNamedBy groups o group) (ap (option_and_then (λ (w : Work). w.group)) (work_read a sound id g is)) (by g.work.group group refl lowers)
        where
          by : (o : Option ℕ) (i : Option (TableId GroupKey)) → g.work.group ≡ o → Lowers a.groups groups o i → IsNamedBy groups o i
          by None None has l = tt
          by None (Some k) has l = absurd l
          by (Some n) None has l = absurd l
          by (Some n) (Some k) has l = (number_of_alike uncalled group_key (λ e. refl) groups a.groups alike k.rep k.serial ∙ (item_number group_number group_calls a.groups k.rep k.serial l.0 l.1.0 ∙ l.1.1.0), ((work_names a sound id g is).group n has).1)

      module _ (places ready_works : List (Spot OrderKey)) (polled : List (Spot LiveWork)) (shut : Closes a.places places g.blocked) (ready_out : Drops a.ready_works ready_works g.ready.index) (live_out : Renames a.polled polled g.live.index FreeNode Unmade) (marks : List (Spot Queued)) (mark_out : Renames a.marks marks g.mark.index FreeNode Unmade) (used : ℕ) (still : used + cond (is_host_call g.work) 1 0 ≡ a.kept.used) where
        abbrev pub work_removed : CoreParts
        work_removed = record a { works = deleted id.rep a.works; groups = groups; places = places; ready_works = ready_works; polled = polled; marks = marks; kept = record a.kept { used = used } }

        abbrev bare_kept : CachedCounts
        bare_kept = record a.kept { used = used; interesting = 0; moving = 0 }

        abbrev gone : CoreImage
        gone = less bared whole a.made.works works_sound id.rep id.serial (bare_work g) bare_is groups alike places ready_works polled marks bare_kept

        bare_gone : bare (parts_of work_removed) ≡ gone
        bare_gone = ap (λ (t : Table (Single WorkRecord)). record gone { works = t }) (mapped-deleted (on_item bare_work) a.works id.rep)

        counted : (n : ℕ) → calls_of n (core_of gone) + cond (is_of_group n g.work) 1 0 ≡ calls_of n (core_of bared)
        counted = works_counted bared whole a.made.works works_sound id.rep id.serial (bare_work g) bare_is groups alike places ready_works polled marks bare_kept

        groups_kept : EachEntry (IsGroupKept (core_of gone)) groups
        groups_kept = by g.work.group group refl lowers
          where
            test_is : (o : Option ℕ) → g.work.group ≡ o → (n : ℕ) → cond {A = ℕ} (is_of_group n g.work) 1 0 ≡ cond (option_map_or (λ h. h == n) o false) 1 0
            test_is o has n = ap (λ x. cond (option_map_or (λ h. h == n) x false) 1 0) has

            by : (o : Option ℕ) (i : Option (TableId GroupKey)) → g.work.group ≡ o → Lowers a.groups groups o i → EachEntry (IsGroupKept (core_of gone)) groups
            by None None has l = subst (λ (t : Table (Single TaskGroup)). EachEntry (IsGroupKept (core_of gone)) t) (sym l) (λ s q at.
                let all = whole.counted.groups s q at in
                let law = counted q.entry.item.number in
                let none = test_is None has q.entry.item.number in
                omega arith)
            by None (Some k) has l = absurd l
            by (Some n) None has l = absurd l
            by (Some n) (Some k) has l = subst (λ (t : Table (Single TaskGroup)). EachEntry (IsGroupKept (core_of gone)) t) (sym l.1.1.1)
                (each_rewritten group_number group_calls a.groups a.made.groups groups_sound k.rep k.serial l.0 l.1.0 (record l.0 { calls = l.0.calls - 1 }) (IsGroupKept (core_of bared)) (IsGroupKept (core_of gone)) new others whole.counted.groups)
              where
                new : l.0.calls ≡ calls_of l.0.number (core_of bared) → l.0.calls - 1 ≡ calls_of l.0.number (core_of gone)
                new kept =
                    let law = counted l.0.number in
                    let one : cond {A = ℕ} (is_of_group l.0.number g.work) 1 0 ≡ 1 = test_is (Some n) has l.0.number ∙ ap (λ b. cond b 1 0) (eq-eqb n l.0.number (sym l.1.1.0)) in
                    omega arith

                others : (x : TaskGroup) → (x.number ≡ l.0.number → ⊥) → x.calls ≡ calls_of x.number (core_of bared) → x.calls ≡ calls_of x.number (core_of gone)
                others x differs kept =
                    let law = counted x.number in
                    let none : cond {A = ℕ} (is_of_group x.number g.work) 1 0 ≡ 0 = test_is (Some n) has x.number ∙ ap (λ b. cond b 1 0) (ne_eqb n x.number (λ same. differs (sym same ∙ sym l.1.1.0))) in
                    omega arith

        gone_whole : IsWhole gone
        gone_whole = less_whole bared whole a.made.works works_sound id.rep id.serial (bare_work g) bare_is groups alike places ready_works polled marks bare_kept unqueued shut ready_out live_out mark_out nowhere resting still refl refl groups_kept

        moves_not : is_moving g.work ≡ false
        moves_not = ap (λ b. b && (not (is_never g.work.course) || is_aborted g.work.phase)) resting

        groups_table : SoundTable group_key groups a.made.groups
        groups_table = by g.work.group group lowers
          where
            by : (o : Option ℕ) (i : Option (TableId GroupKey)) → Lowers a.groups groups o i → SoundTable group_key groups a.made.groups
            by None None l = subst (λ (t : Table (Single TaskGroup)). SoundTable group_key t a.made.groups) (sym l) groups_sound
            by None (Some k) l = absurd l
            by (Some n) None l = absurd l
            by (Some n) (Some k) l = subst (λ (t : Table (Single TaskGroup)). SoundTable group_key t a.made.groups) (sym l.1.1.1) (table_written group_number group_calls a.groups a.made.groups groups_sound k.rep k.serial l.0 l.1.0 (record l.0 { calls = l.0.calls - 1 }) refl)

        live_same : filter (nat_lt a.finished) (numbers (records group_key groups.places)) ≡ filter (nat_lt a.finished) (numbers (records group_key a.groups.places))
        live_same = ap (filter (nat_lt a.finished)) (numbers_alike groups a.groups alike)

        sound_without : IsTable (deleted id.rep a.works) → IsSoundCore work_removed
        unfolding IsSoundCore seen
        sound_without table = record {
          tables = record {
            threads = sound.tables.threads;
            calls = sound.tables.calls;
            works = table_less number machine a.works a.made.works sound.tables.works id.rep id.serial g is table;
            sets = sound.tables.sets;
            groups = groups_table;
          };
          whole = subst IsWhole (sym bare_gone) gone_whole;
          interesting = sound.interesting;
          moving = let law = fewer is_moving in let all = sound.moving in let none : cond {A = ℕ} (is_moving g.work) 1 0 ≡ 0 = ap (λ b. cond b 1 0) moves_not in omega arith;
          handles = λ i q at. subst (λ (p : CoreImage). AreHandlesNamed (kinds p) q) (sym bare_gone) (handles_left (kinds bared) (kinds gone) (left bared whole a.made.works works_sound id.rep id.serial (bare_work g) bare_is groups alike places ready_works polled marks bare_kept) q (sound.handles i q at));
          owned = sound.owned;
          live = sound.live;
          ended = ended_alike a.ended.items (vec_capacity a.ended) _ _ a.made.groups live_same sound.ended;
        }

        rule_same : (r : Row) → row gone r ≡ row bared r
        rule_same = row_left bared whole a.made.works works_sound id.rep id.serial (bare_work g) bare_is groups alike places ready_works polled marks bare_kept unqueued shut ready_out live_out mark_out

        abbrev entries_of : List Queued → List Entry
        entries_of qs = map (λ (q : Queued). q.entry) qs

        abbrev with_maps : Records Work → List ℕ → List Queued → List Queued → Core
        with_maps ws gs high low = record (seen a).core { works = ws; groups = gs; queues = record (seen a).core.queues { high = entries_of high; low = entries_of low } }

        core_without : (seen work_removed).core ≡ remove_work (work_of (seen a) id) (seen a).core
        unfolding seen remove_work
        core_without =
            ap₂ (λ ws gs. with_maps ws gs (chained marks a.high) (chained marks a.low)) (works_map ∙ ap (remove (records work_key a.works.places)) named) (ap (filter (nat_lt a.finished)) (numbers_alike groups a.groups alike))
            ∙ ap₂ (with_maps (remove (records work_key a.works.places) (work_of (seen a) id)) (seen a).core.groups) (rule_same High) (rule_same Low)

        tags_without : KeepsBut (lost_work (work_of (seen a) id)) (seen a).tags (seen work_removed).tags
        unfolding seen IsSoundCore set_number call_number thread_number
        tags_without = record {
          threads = λ t other. refl;
          calls = λ k other. refl;
          sets = λ x other. refl;
          works = λ w other. work_shown work_removed w ∙ (number_left number machine a.works a.made.works sound.tables.works id.rep id.serial g is w.rep w.serial (λ same. other (work_shown a w ∙ (same ∙ named))) ∙ sym (work_shown a w));
          gone = λ t none. none;
          same = ap (λ gs. tracked_of a.ended.items gs a.made.groups) live_same;
          wanted = refl;
          seats = record {
            threads = λ n live other. refl;
            calls = λ k live other. refl;
            works = λ i live other. seats_less number machine (λ (h : WorkRecord). h.entry) a.works a.made.works sound.tables.works id.rep id.serial g is i (λ same. other (same ∙ named));
          };
        }

        module _ (works : Table (Single WorkRecord)) (are : works ≡ deleted id.rep a.works) where
          pub removed_sound : IsTable works → IsSoundCore (record work_removed { works = works })
          removed_sound table = subst (λ (t : Table (Single WorkRecord)). IsSoundCore (record work_removed { works = t })) (sym are) (sound_without (subst (λ (t : Table (Single WorkRecord)). IsTable t) are table))

          pub removed_core : (seen (record work_removed { works = works })).core ≡ remove_work (work_of (seen a) id) (seen a).core
          removed_core = ap (λ (t : Table (Single WorkRecord)). (seen (record work_removed { works = t })).core) are ∙ core_without

          pub removed_tags : KeepsBut (lost_work (work_of (seen a) id)) (seen a).tags (seen (record work_removed { works = works })).tags
          removed_tags = subst (λ (t : Table (Single WorkRecord)). KeepsBut (lost_work (work_of (seen a) id)) (seen a).tags (seen (record work_removed { works = t })).tags) (sym are) tags_without

  -- its entry in the table's use is counted
  pub use_counted : cond (is_host_call g.work) 1 0 ≤ a.kept.used
  unfolding table_use
  use_counted =
      let law = one_host in
      let all = whole.counted.kept.used in
      omega arith
    where
      one_host : cond {A = ℕ} (is_host_call g.work) 1 0 ≤ passing is_host_call (core_of bared).works
      one_host =
          let sum = passing-with_at is_host_call (core_of bared).works g.number None in
          let one : one_if_passes is_host_call (get (core_of bared).works g.number) ≡ cond {A = ℕ} (is_host_call g.work) 1 0 =
          ap (one_if_passes is_host_call) (sym (item_read number machine bared.works a.made.works works_sound id.rep id.serial (bare_work g) bare_is ∙ ap (get (core_of bared).works) (item_number number machine bared.works id.rep id.serial (bare_work g) bare_is))) in
          omega arith
