-- A host work more, as a core: it is sound, and contracts see just that.
use Rattle.std.specs.Prelude.{vec_capacity}
use Rattle.core_records.proofs.TrackedLemmas.{ended_alike}
use Rattle.core_records.proofs.Core.{[], add_work, ap, ap₂, AreApart, arith, AtPlace, bare, bare_call, bare_work, Call, call_key, call_number, calls_of, cond, Core, core_of, count_by-le-length, count_work, Each, EachEntry, Entry, eq-eqb, eqb-true, false, filter, get, get-records, group_key, GroupKey, HasNumber, High, HostTaskKey, inl, inr, is_aborted, is_host_call, is_moving, is_never, is_of_group, is_some, is_stage_live, IsGroupKept, IsKeyed, IsSome, IsSoundCore, IsTable, IsWhole, item_at, item_of, Keeps, key_in, kinds, length, List, loose_call, loose_work, map, mapped, mapped-pushed, nat_lt, ne_eqb, next_place, None, not, number_in, Ok, on_item, one_if_passes, Option, option_map, option_map_or, CoreImage, parts_of, passing, pushed, Records, records, refl, row, same_Some, seen, set_number, size, size-records-le, Some, SoundTable, subst, suc, sym, Table, table_len, TableId, Target, thread_number, true, uninterested, unmoved, Work, work_caller_target, work_entries, work_key, work_of, ℕ, ◌&&◌, ◌+◌, ◌<◌, ◌==◌, ◌^◌, ◌||◌, ◌∙◌, ◌∷◌, ◌≡◌, ◌≤◌, numbers, tracked_of}
use Rattle.core_records.specs.declared.{call_records.GuestTask.GuestTask, call_records.TaskGroup.TaskGroup, parts.CoreParts.CoreParts, parts.CachedCounts.CachedCounts, single.Single.Single, thread_records.Queued.Queued, work_records.WorkRecord.WorkRecord}
use Rattle.core_makes.proofs.MoreLemmas.{early, passing_more, table_bare}
use Rattle.core_makes.proofs.RestoreLemmas.{handles_grown}
use Rattle.core_places.specs.Moved.{Alike}
use Rattle.core_queues.proofs.RowLemmas.{row_known}
use Rattle.core_queues.proofs.OrderKeyLemmas.{order_key_of}
use Rattle.core_queues.specs.OrderKeys.{is_entry_of_work}
use Rattle.core_removals.proofs.BareTables.{sound_mapped}
use Rattle.core_removals.proofs.GroupLemmas.{numbers_alike}
use Rattle.core_removals.proofs.RewriteLemmas.{each_rewritten, rewritten_alike}
use Rattle.core_removals.specs.Counted.{IsIn, uncalled}
use Rattle.core_records.proofs.HomeLemmas.{place_in_bare}
use Rattle.core_records.proofs.KindLemmas.{item_number, item_read, item_stands, table_written}
use Rattle.core_records.proofs.MakeLemmas.{number_kept, number_new, records_more, table_more}
use Rattle.core_records.proofs.ReadLemmas.{work_shown}
use Rattle.core_removals.proofs.WorkMoreLemmas.{at_more, more, more_whole, works_counted}
use Rattle.core_removals.specs.LooseWorks.{AreWorkLoose, nodes_of}
use Rattle.core_removals.specs.Raised.{GroupHere, IsHere, IsWorkNext, Raises, group_name, raised, record_for}
use Rattle.core_removals.specs.declared.work_nodes.WorkNodes.{WorkNodes}
use Rattle.core_removals.specs.declared.work_requests.WorkRequest.{WorkRequest}

abbrev number : WorkRecord → ℕ
number w = w.number

abbrev machine : WorkRecord → Work
machine w = w.work

abbrev group_number : TaskGroup → ℕ
group_number r = r.number

abbrev group_calls : TaskGroup → ℕ
group_calls r = r.calls

-- few are in a table
places_few : {E X : Type 0} (key : E → Option (ℕ × X)) (t : Table E) → IsTable t → AreApart key t.places → length (records key t.places).list ≤ 4294967295
unfolding size
places_few key t table apart =
    let all : length (records key t.places).list ≤ table_len t = size-records-le key t apart in
    let places : table_len t ≤ length t.places = count_by-le-length is_some t.places in
    let few = table.places_fit in
    omega arith

pub same_tags : (a b : CoreParts) → a ≡ b → Keeps (seen a).tags (seen b).tags
same_tags a b same = subst (λ (x : CoreParts). Keeps (seen a).tags (seen x).tags) same (record { threads = λ t some. refl; calls = λ k some. refl; sets = λ x some. refl; works = λ w some. refl; same = refl; wanted = refl })

module _ (a : CoreParts) (sound : IsSoundCore a) where
  abbrev bared : CoreImage
  bared = bare (parts_of a)

  whole : IsWhole bared
  unfolding IsSoundCore
  whole = sound.whole

  works_sound : SoundTable work_key bared.works a.made.works
  unfolding IsSoundCore
  works_sound = sound_mapped number machine bare_work (λ w. unmoved (loose_work w)) (λ x. refl) (λ x. refl) a.works a.made.works sound.tables.works

  groups_sound : SoundTable group_key a.groups a.made.groups
  unfolding IsSoundCore
  groups_sound = sound.tables.groups

  -- the next work has no entry yet
  pub no_entry_yet : work_entries (a.made.works + 1) (seen a).core.queues.high ≡ 0
  unfolding seen
  no_entry_yet = by_row (row bared High) (row_known bared whole High)
    where
      by_entry : (q : Queued) (m : ℕ) → m ≤ a.made.works → (e : Entry) → is_entry_of_work m e ≡ true → (es : List Entry) → work_entries (a.made.works + 1) es ≡ 0 → work_entries (a.made.works + 1) (e ∷ es) ≡ 0
      by_entry q m few (Entry.Thread n) is es none = absurd (cc)
      by_entry q m few (Entry.Push j) is es none = let same = eqb-true m j is in ap (λ b. cond b (suc (work_entries (a.made.works + 1) es)) (work_entries (a.made.works + 1) es)) (ne_eqb (a.made.works + 1) j (λ here. omega arith)) ∙ none
      by_entry q m few (Entry.Host j) is es none = let same = eqb-true m j is in ap (λ b. cond b (suc (work_entries (a.made.works + 1) es)) (work_entries (a.made.works + 1) es)) (ne_eqb (a.made.works + 1) j (λ here. omega arith)) ∙ none

      by_row : (qs : List Queued) → Each (IsKeyed bared) qs → work_entries (a.made.works + 1) (map (λ (q : Queued). q.entry) qs) ≡ 0
      by_row [] known = refl
      by_row (q ∷ qs) known = elim (order_key_of bared q known.0) [
        | inl order_key ↦ ap (λ (x : Queued). work_entries (a.made.works + 1) (x.entry ∷ map (λ (y : Queued). y.entry) qs)) (sym order_key.is) ∙ by_row qs known.1
        | inr order_key ↦ by_entry q order_key.placed.entry.item.number (early number machine bared.works a.made.works works_sound q.place order_key.placed order_key.at) q.entry order_key.entry (map (λ (y : Queued). y.entry) qs) (by_row qs known.1)
      ]

  pub groups_few : (r : TaskGroup) → IsIn r a.groups → r.calls + 1 < 2 ^ 64
  unfolding IsSoundCore
  groups_few r there =
      let placed = item_stands group_number group_calls a.groups a.made.groups groups_sound there.0 there.1.0 r there.1.1 in
      let s = core_of bared in
      let n = placed.0.entry.item.number in
      let is : r.calls ≡ calls_of n s = sym (ap (λ (e : Single TaskGroup). e.item.calls) placed.1.1.1) ∙ whole.counted.groups there.0 placed.0 placed.1.0 in
      let calls : passing (λ (d : Call). d.group == n) s.calls ≤ length s.calls.list = count_by-le-length (λ (e : ℕ × Call). e.1.group == n) s.calls.list in
      let works : passing (is_of_group n) s.works ≤ length s.works.list = count_by-le-length (λ (e : ℕ × Work). is_of_group n e.1) s.works.list in
      let bare_calls = table_bare (λ (c : GuestTask). c.number) (λ (c : GuestTask). c.call) a.calls a.made.threads sound.tables.calls bare_call (λ c. uninterested (loose_call c)) (λ c. refl) (λ c. refl) in
      let few_calls = places_few call_key bared.calls bare_calls.table bare_calls.apart in
      let few_works = places_few work_key bared.works works_sound.table works_sound.apart in
      omega arith

  module _ (g : WorkRecord) (next : IsWorkNext bared (bare_work g)) (loose : AreWorkLoose bared (nodes_of g)) (high : IsSome a.high) (live : IsSome a.live) (groups : Table (Single TaskGroup)) (group : Option (TableId GroupKey)) (raises : Raises a.groups groups g.work.group group) (used : ℕ) (is_used : used ≡ a.kept.used + cond (is_host_call g.work) 1 0) where
    alike : Alike uncalled groups a.groups
    alike = by g.work.group group raises
      where
        by : (o : Option ℕ) (i : Option (TableId GroupKey)) → Raises a.groups groups o i → Alike uncalled groups a.groups
        by None None l = ap (mapped (on_item uncalled)) l
        by None (Some k) l = absurd l
        by (Some n) None l = absurd l
        by (Some n) (Some k) l = subst (λ (t : Table (Single TaskGroup)). Alike uncalled t a.groups) (sym l.1.1.1) (rewritten_alike group_number group_calls a.groups a.made.groups groups_sound k.rep k.serial l.0 l.1.0 uncalled (record l.0 { calls = l.0.calls + 1 }) refl)

    groups_table : SoundTable group_key groups a.made.groups
    groups_table = by g.work.group group raises
      where
        by : (o : Option ℕ) (i : Option (TableId GroupKey)) → Raises a.groups groups o i → SoundTable group_key groups a.made.groups
        by None None l = subst (λ (t : Table (Single TaskGroup)). SoundTable group_key t a.made.groups) (sym l) groups_sound
        by None (Some k) l = absurd l
        by (Some n) None l = absurd l
        by (Some n) (Some k) l = subst (λ (t : Table (Single TaskGroup)). SoundTable group_key t a.made.groups) (sym l.1.1.1) (table_written group_number group_calls a.groups a.made.groups groups_sound k.rep k.serial l.0 l.1.0 (record l.0 { calls = l.0.calls + 1 }) refl)

    abbrev pub work_made : Table (Single WorkRecord) → CoreParts
    work_made t = record a { works = t; groups = groups; made = record a.made { works = a.made.works + 1 }; kept = record a.kept { used = used } }

    abbrev pub works_now : Table (Single WorkRecord)
    works_now = pushed (record { item = g }) a.works

    abbrev bare_kept : CachedCounts
    bare_kept = record a.kept { used = used; interesting = 0; moving = 0 }

    abbrev grown : CoreImage
    grown = more bared whole works_sound (bare_work g) next loose high live groups alike bare_kept

    bare_grown : bare (parts_of (work_made works_now)) ≡ grown
    bare_grown = ap (λ (t : Table (Single WorkRecord)). record grown { works = t }) (mapped-pushed (on_item bare_work) a.works (record { item = g }))

    counted : (n : ℕ) → calls_of n (core_of grown) ≡ calls_of n (core_of bared) + cond (is_of_group n g.work) 1 0
    counted = works_counted bared whole works_sound (bare_work g) next loose high live groups alike bare_kept

    groups_kept : EachEntry (IsGroupKept (core_of grown)) groups
    groups_kept = by g.work.group group refl raises
      where
        test_is : (o : Option ℕ) → g.work.group ≡ o → (n : ℕ) → cond {A = ℕ} (is_of_group n g.work) 1 0 ≡ cond (option_map_or (λ h. h == n) o false) 1 0
        test_is o has n = ap (λ x. cond (option_map_or (λ h. h == n) x false) 1 0) has

        by : (o : Option ℕ) (i : Option (TableId GroupKey)) → g.work.group ≡ o → Raises a.groups groups o i → EachEntry (IsGroupKept (core_of grown)) groups
        by None None has l = subst (λ (t : Table (Single TaskGroup)). EachEntry (IsGroupKept (core_of grown)) t) (sym l) (λ s q at.
            let all = whole.counted.groups s q at in
            let law = counted q.entry.item.number in
            let none = test_is None has q.entry.item.number in
            omega arith)
        by None (Some k) has l = absurd l
        by (Some n) None has l = absurd l
        by (Some n) (Some k) has l = subst (λ (t : Table (Single TaskGroup)). EachEntry (IsGroupKept (core_of grown)) t) (sym l.1.1.1)
            (each_rewritten group_number group_calls a.groups a.made.groups groups_sound k.rep k.serial l.0 l.1.0 (record l.0 { calls = l.0.calls + 1 }) (IsGroupKept (core_of bared)) (IsGroupKept (core_of grown)) new others whole.counted.groups)
          where
            new : l.0.calls ≡ calls_of l.0.number (core_of bared) → l.0.calls + 1 ≡ calls_of l.0.number (core_of grown)
            new kept =
                let law = counted l.0.number in
                let one : cond {A = ℕ} (is_of_group l.0.number g.work) 1 0 ≡ 1 = test_is (Some n) has l.0.number ∙ ap (λ b. cond b 1 0) (eq-eqb n l.0.number (sym l.1.1.0)) in
                omega arith

            others : (x : TaskGroup) → (x.number ≡ l.0.number → ⊥) → x.calls ≡ calls_of x.number (core_of bared) → x.calls ≡ calls_of x.number (core_of grown)
            others x differs kept =
                let law = counted x.number in
                let none : cond {A = ℕ} (is_of_group x.number g.work) 1 0 ≡ 0 = test_is (Some n) has x.number ∙ ap (λ b. cond b 1 0) (ne_eqb n x.number (λ same. differs (sym same ∙ sym l.1.1.0))) in
                omega arith

    grown_whole : IsWhole grown
    grown_whole = more_whole bared whole works_sound (bare_work g) next loose high live groups alike bare_kept is_used refl refl groups_kept

    moves_not : is_moving g.work ≡ false
    moves_not = ap (λ b. b && (not (is_never g.work.course) || is_aborted g.work.phase)) (ap is_stage_live next.stage)

    named_still : (rep : ℕ) (t : Target) → AtPlace bared rep t → AtPlace (bare (parts_of (work_made works_now))) rep t
    named_still rep t at = subst (λ (q : CoreImage). AtPlace q rep t) (sym bare_grown) (at_more bared whole works_sound (bare_work g) next loose high live groups alike bare_kept rep t at)

    live_same : filter (nat_lt a.finished) (numbers (records group_key groups.places)) ≡ filter (nat_lt a.finished) (numbers (records group_key a.groups.places))
    live_same = ap (filter (nat_lt a.finished)) (numbers_alike groups a.groups alike)

    sound_with : IsTable works_now → IsSoundCore (work_made works_now)
    unfolding IsSoundCore seen
    sound_with table = record {
      tables = record {
        threads = sound.tables.threads;
        calls = sound.tables.calls;
        works = table_more number machine a.works a.made.works sound.tables.works g next.number table;
        sets = sound.tables.sets;
        groups = groups_table;
      };
      whole = subst IsWhole (sym bare_grown) grown_whole;
      interesting = sound.interesting;
      moving =
          let law = passing_more number machine a.works a.made.works sound.tables.works g next.number is_moving in
          let none : one_if_passes is_moving (Some g.work) ≡ 0 = ap (λ b. cond b 1 0) moves_not in
          let all = sound.moving in
          omega arith;
      handles = λ i q at. handles_grown (kinds bared) (kinds (bare (parts_of (work_made works_now)))) named_still q (sound.handles i q at);
      owned = sound.owned;
      live = sound.live;
      ended = ended_alike a.ended.items (vec_capacity a.ended) _ _ a.made.groups live_same sound.ended;
    }

    abbrev with_maps : Records Work → List ℕ → Core
    with_maps ws gs = record (seen a).core { works = ws; groups = gs; made = record (seen a).core.made { works = a.made.works + 1 } }

    core_with : (seen (work_made works_now)).core ≡ add_work g.number g.work (count_work (seen a).core)
    unfolding seen add_work count_work IsSoundCore
    core_with = ap₂ with_maps (records_more number machine a.works a.made.works sound.tables.works g next.number) (ap (filter (nat_lt a.finished)) (numbers_alike groups a.groups alike))

    tags_with : Keeps (seen a).tags (seen (work_made works_now)).tags
    unfolding seen IsSoundCore set_number call_number thread_number
    tags_with = record {
      threads = λ t some. refl;
      calls = λ k some. refl;
      sets = λ x some. refl;
      works = λ w some. work_shown (work_made works_now) w ∙ (number_kept number machine a.works a.made.works sound.tables.works g next.number w.rep w.serial (subst (λ (n : ℕ). 0 < n) (work_shown a w) some) ∙ sym (work_shown a w));
      same = ap (λ gs. tracked_of a.ended.items gs a.made.groups) live_same;
      wanted = refl;
    }

    named_with : (id : TableId HostTaskKey) → id.rep ≡ next_place a.works → id.serial ≡ a.works.given → work_of (seen (work_made works_now)) id ≡ a.made.works + 1
    unfolding IsSoundCore
    named_with id rep serial = work_shown (work_made works_now) id ∙ (number_new number machine a.works a.made.works sound.tables.works g next.number id.rep id.serial rep serial ∙ next.number)

    module _ (t : Table (Single WorkRecord)) (are : t ≡ works_now) where
      pub made_sound : IsTable t → IsSoundCore (work_made t)
      made_sound table = subst (λ (u : Table (Single WorkRecord)). IsSoundCore (work_made u)) (sym are) (sound_with (subst (λ (u : Table (Single WorkRecord)). IsTable u) are table))

      pub made_core : (seen (work_made t)).core ≡ add_work g.number g.work (count_work (seen a).core)
      made_core = ap (λ (u : Table (Single WorkRecord)). (seen (work_made u)).core) are ∙ core_with

      pub made_tags : Keeps (seen a).tags (seen (work_made t)).tags
      made_tags = subst (λ (u : Table (Single WorkRecord)). Keeps (seen a).tags (seen (work_made u)).tags) (sym are) tags_with

      pub made_named : (id : TableId HostTaskKey) → id.rep ≡ next_place a.works → id.serial ≡ a.works.given → work_of (seen (work_made t)) id ≡ a.made.works + 1
      made_named id rep serial = subst (λ (u : Table (Single WorkRecord)). work_of (seen (work_made u)) id ≡ a.made.works + 1) (sym are) (named_with id rep serial)

-- ---- The group that a work is made in

pub raises_of : (t : Table (Single TaskGroup)) (group : GroupHere) (o : Option ℕ) → o ≡ group_name group → IsHere t group → (u : Table (Single TaskGroup)) → u ≡ raised t group → Raises t u o (option_map (λ g. g.0) group)
raises_of t None o is here u raised_is = subst (λ (x : Option ℕ). Raises t u x None) (sym is) raised_is
raises_of t (Some g) o is here u raised_is = subst (λ (x : Option ℕ). Raises t u x (Some g.0)) (sym is) (g.1, (here, (refl, raised_is)))

-- The record of a request is the next.
module _ (a : CoreParts) (sound : IsSoundCore a) where
  group_positive : (id : TableId GroupKey) (r : TaskGroup) → Ok r ≡ item_at item_of a.groups id.rep id.serial → 0 < r.number
  unfolding IsSoundCore
  group_positive id r here = by r.number refl
    where
      reads : Some r.calls ≡ get (records group_key a.groups.places) r.number
      reads = item_read group_number group_calls a.groups a.made.groups sound.tables.groups id.rep id.serial r here ∙ ap (get (records group_key a.groups.places)) (item_number group_number group_calls a.groups id.rep id.serial r here)

      by : (n : ℕ) → r.number ≡ n → 0 < r.number
      by ℕ.zero is = absurd (let none : ◌≡◌ {A = Option ℕ} (Some r.calls) None = reads ∙ (ap (get (records group_key a.groups.places)) is ∙ (get-records group_key a.groups.places 0 ∙ sound.tables.groups.above_zero)) in cc)
      by (suc n) is = omega (arith, is)

  group_known : (id : TableId GroupKey) (r : TaskGroup) → Ok r ≡ item_at item_of a.groups id.rep id.serial → HasNumber group_key a.groups id.rep r.number × (0 < r.number)
  unfolding IsSoundCore
  group_known id r here =
      let placed = item_stands group_number group_calls a.groups a.made.groups sound.tables.groups id.rep id.serial r here in
      (ap (λ o. number_in (key_in group_key o)) placed.1.0 ∙ ap (λ (e : Single TaskGroup). e.item.number) placed.1.1.1, group_positive id r here)

  group_next : (group : GroupHere) → IsHere a.groups group → (n : ℕ) → group_name group ≡ Some n → HasNumber group_key a.groups (option_map_or (λ (g : TableId GroupKey × TaskGroup). g.0.rep) group 0) n × (0 < n)
  group_next None here n is = absurd (cc)
  group_next (Some g) here n is = subst (λ (m : ℕ). HasNumber group_key a.groups g.0.rep m × (0 < m)) (same_Some g.1.number n is) (group_known g.0 g.1 here)

  pub record_next : (q : WorkRequest) (group : GroupHere) (nodes : WorkNodes) → IsHere a.groups group → AtPlace (parts_of a) q.maker (work_caller_target q.caller) → (g : WorkRecord) → g ≡ record_for (a.made.works + 1) q group nodes → IsWorkNext (bare (parts_of a)) (bare_work g)
  record_next q group nodes here caller g is = subst (λ (w : WorkRecord). IsWorkNext (bare (parts_of a)) (bare_work w)) (sym is) (record {
    number = refl;
    stage = refl;
    event = refl;
    join = refl;
    caller = place_in_bare a q.maker (work_caller_target q.caller) caller;
    group = group_next group here;
  })
