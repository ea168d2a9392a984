-- A group of which nothing is left is finished.
use Rattle.core_records.proofs.Core.{ap, ap₂, AreCounted, arith, bare, bare_call, bare_work, Bool, Call, call_key, calls_of, cases_eq, cond, core_of, deleted, entry_of, eq-eqb, false, filter, get, group_key, group_settled, GroupKey, HasHome, HasNumber, inl, inr, is_group_done, is_of_group, IsGroupKept, IsSoundCore, IsTable, IsWhole, item_at, item_of, key_in, length, List, list_any, loose_call, loose_work, nat_lt, ne_eqb, None, not, number_in, number_of, numbers, Ok, on_core, option_map_or, CoreImage, parts_of, passing, place_at, place_at-deleted, Placed, record_at, Records, records, refl, remove, remove_group, seen, Some, SoundTable, subst, suc, sym, Table, table_use, TableId, true, uninterested, unmoved, with_core, Work, work_key, zero, ℕ, ◌+◌, ◌<◌, ◌==◌, ◌||◌, ◌∙◌, ◌≡◌, ◌≤◌, AreEnded, tracked_of, has, IsMembers-numbers, is_some, found_record, get-records, Option, ◌⊎◌, Global}
use Rattle.core_records.specs.declared.{call_records.GuestTask.GuestTask, call_records.TaskGroup.TaskGroup, parts.CoreParts.CoreParts, parts.CachedCounts.CachedCounts, single.Single.Single, thread_records.GuestThread.GuestThread, work_records.WorkRecord.WorkRecord}
use Rattle.std.proofs.lemmas.Bool.{cases_lt}
use Rattle.std.specs.Prelude.{vec_capacity, Vec, ◌&&◌}
use Rattle.core_records.proofs.TrackedLemmas.{ended_alike, ended_settled, has_filter, known_settled, with_one}
use Rattle.core_removals.proofs.BareTables.{sound_mapped}
use Rattle.core_removals.proofs.GroupLemmas.{numbers_fewer, numbers_left}
use Rattle.core_removals.proofs.LessLemmas.{each_left, passes_not, read_at}
use Rattle.core_removals.proofs.RewriteLemmas.{each_there}
use Rattle.core_records.proofs.KeptLemmas.{any_passing, count_calls, count_works}
use Rattle.core_records.proofs.KindLemmas.{item_number, item_read, item_stands}
use Rattle.core_records.proofs.MakeLemmas.{records_less, table_less}

abbrev number : TaskGroup → ℕ
number r = r.number

abbrev count : TaskGroup → ℕ
count r = r.calls

abbrev call_number : GuestTask → ℕ
call_number c = c.number

abbrev call_machine : GuestTask → Call
call_machine c = c.call

abbrev work_number : WorkRecord → ℕ
work_number w = w.number

abbrev work_machine : WorkRecord → Work
work_machine w = w.work

some_of : (m n : ℕ) → (nat_lt 0 m || nat_lt 0 n) ≡ nat_lt 0 (m + n)
some_of zero n = let same : 0 + n ≡ n = omega arith in sym (ap (nat_lt 0) same)
some_of (suc m) n = grind arith

pub one_above : (f n : ℕ) → f < n → cond {A = ℕ} (nat_lt f n) 1 0 ≡ 1
one_above f n more = let is : nat_lt f n ≡ true = grind arith in ap (λ b. cond b 1 0) is

pub none_above : (f n : ℕ) → n ≤ f → cond {A = ℕ} (nat_lt f n) 1 0 ≡ 0
none_above f n less = let is : nat_lt f n ≡ false = grind arith in ap (λ b. cond b 1 0) is

module _ (p : CoreImage) (whole : IsWhole p) (made made_calls made_works : ℕ) (sound : SoundTable group_key p.groups made) (calls_sound : SoundTable call_key p.calls made_calls) (works_sound : SoundTable work_key p.works made_works) (rep serial : ℕ) (r : TaskGroup) (is : Ok r ≡ item_at item_of p.groups rep serial) (empty : calls_of r.number (core_of p) ≡ 0) where
  stands : (q : Placed (Single TaskGroup)) × ((place_at p.groups rep ≡ Some q) × ((q.serial ≡ serial) × (q.entry ≡ entry_of r)))
  stands = item_stands number count p.groups made sound rep serial r is

  at_other : (s n : ℕ) → (n ≡ r.number → ⊥) → HasNumber group_key p.groups s n → HasNumber group_key (deleted rep p.groups) s n
  at_other s n other at = elim (cases_eq s rep) [
    | inl same ↦ absurd (other (sym at ∙ (ap (λ t. number_in (record_at group_key p.groups.places t)) same ∙ (ap (λ o. number_in (key_in group_key o)) stands.1.0 ∙ ap (λ (e : Single TaskGroup). e.item.number) stands.1.1.1))))
    | inr apart ↦ ap (λ o. number_in (key_in group_key o)) (place_at-deleted p.groups rep s ∙ ap (λ b. cond b None (place_at p.groups s)) (ne_eqb s rep apart)) ∙ at
  ]

  no_call : list_any (λ (e : ℕ × Call). e.1.group == r.number) (core_of p).calls.list ≡ false
  no_call = sym (any_passing (λ (c : Call). c.group == r.number) (core_of p).calls) ∙ ap (nat_lt 0) (let all = empty in let none : passing (λ (c : Call). c.group == r.number) (core_of p).calls ≡ 0 = omega arith in none)

  no_work : list_any (λ (e : ℕ × Work). is_of_group r.number e.1) (core_of p).works.list ≡ false
  no_work = sym (any_passing (is_of_group r.number) (core_of p).works) ∙ ap (nat_lt 0) (let all = empty in let none : passing (is_of_group r.number) (core_of p).works ≡ 0 = omega arith in none)

  call_else : (s : ℕ) (q : Placed (Single GuestTask)) → place_at p.calls s ≡ Some q → q.entry.item.call.group ≡ r.number → ⊥
  call_else s q at same = passes_not (λ (c : Call). c.group == r.number) (core_of p).calls no_call q.entry.item.number q.entry.item.call (read_at call_number call_machine p.calls made_calls calls_sound s q at) (eq-eqb q.entry.item.call.group r.number same)

  work_else : (s : ℕ) (q : Placed (Single WorkRecord)) → place_at p.works s ≡ Some q → (n : ℕ) → q.entry.item.work.group ≡ Some n → n ≡ r.number → ⊥
  work_else s q at n has same = passes_not (is_of_group r.number) (core_of p).works no_work q.entry.item.number q.entry.item.work (read_at work_number work_machine p.works made_works works_sound s q at) (ap (λ o. option_map_or (λ h. h == r.number) o false) has ∙ eq-eqb n r.number same)

  pub here : get (records group_key p.groups.places) r.number ≡ Some r.calls
  here = sym (item_read number count p.groups made sound rep serial r is ∙ ap (get (records group_key p.groups.places)) (item_number number count p.groups rep serial r is))

  module _ (kept : CachedCounts) where
    abbrev pub less : CoreImage
    less = record p { groups = deleted rep p.groups; kept = kept }

    pub groups_left : (core_of less).groups ≡ filter (λ q. not (r.number == q)) (core_of p).groups
    groups_left = ap (λ (m : Records ℕ). filter (nat_lt p.finished) (numbers m)) (records_less number count p.groups made sound rep serial r is) ∙ numbers_left (records group_key p.groups.places) r.number r.calls here p.finished

    pub groups_fewer : length (core_of less).groups + cond (nat_lt p.finished r.number) 1 0 ≡ length (core_of p).groups
    groups_fewer =
        let law = numbers_fewer (records group_key p.groups.places) r.number r.calls here p.finished in
        let map : length (core_of less).groups ≡ length (filter (nat_lt p.finished) (numbers (remove (records group_key p.groups.places) r.number))) = ap (λ (m : Records ℕ). length (filter (nat_lt p.finished) (numbers m))) (records_less number count p.groups made sound rep serial r is) in
        omega arith

    module _ (used : kept.used + cond (nat_lt p.finished r.number) 1 0 ≡ p.kept.used) (groups : kept.groups + cond (nat_lt p.finished r.number) 1 0 ≡ p.kept.groups) (live : kept.live ≡ p.kept.live) where
      home_left : (g : GuestThread) → HasHome p g → HasHome less g
      home_left g h = record { call = h.call; there = h.there; instance = h.instance; barred = h.barred; waits = h.waits; within = h.within; place = h.place; op_progress = h.op_progress }

      counted_left : AreCounted less
      unfolding table_use
      counted_left = record {
        kept = record {
          used = let all = whole.counted.kept.used in let fewer = groups_fewer in omega arith;
          groups = let all = whole.counted.kept.groups in let fewer = groups_fewer in omega arith;
          live = live ∙ whole.counted.kept.live;
        };
        calls = whole.counted.calls;
        sets = λ s q at. let one = whole.counted.sets s q at in record { members = one.members; entries = one.entries };
        groups = each_left number count p.groups made sound rep serial r is (IsGroupKept (core_of p)) whole.counted.groups;
        few = whole.counted.few;
        finished = whole.counted.finished;
        high = whole.counted.high;
        low = whole.counted.low;
        works = whole.counted.works;
        results = whole.counted.results;
      }

      pub less_whole : IsWhole less
      less_whole = record {
        named = record {
          threads = λ s q at. home_left q.entry.item (whole.named.threads s q at);
          calls = λ s q at. let one = whole.named.calls s q at in record { caller = one.caller; first = one.first; join = one.join; group = at_other q.entry.item.group q.entry.item.call.group (call_else s q at) one.group; positive = one.positive; waits = one.waits };
          works = λ s q at. let one = whole.named.works s q at in record { caller = one.caller; join = one.join; group = λ n has. let two = one.group n has in (at_other q.entry.item.group n (work_else s q at n has) two.0, two.1) };
          switch = whole.named.switch;
        };
        chained = record { places = whole.chained.places; waits = whole.chained.waits; ready_calls = whole.chained.ready_calls; ready_works = whole.chained.ready_works; polled = whole.chained.polled; rising = whole.chained.rising; marks = whole.chained.marks; instance_queues = whole.chained.instance_queues; low = whole.chained.low; behind = whole.chained.behind };
        nodes = record { marks = whole.nodes.marks; instance_queues = whole.nodes.instance_queues; callers = whole.nodes.callers; works = whole.nodes.works; apart = whole.nodes.apart };
        counted = counted_left;
      }

module _ (a : CoreParts) (sound : IsSoundCore a) (id : TableId GroupKey) (r : TaskGroup) (is : Ok r ≡ item_at item_of a.groups id.rep id.serial) where
  abbrev bared : CoreImage
  bared = bare (parts_of a)

  whole : IsWhole bared
  unfolding IsSoundCore
  whole = sound.whole

  ended_are : AreEnded a.ended.items (vec_capacity a.ended) (core_of (parts_of a)).groups a.made.groups
  unfolding IsSoundCore
  ended_are = sound.ended

  groups_sound : SoundTable group_key a.groups a.made.groups
  unfolding IsSoundCore
  groups_sound = sound.tables.groups

  bare_calls : SoundTable call_key bared.calls a.made.threads
  unfolding IsSoundCore
  bare_calls = sound_mapped call_number call_machine bare_call (λ c. uninterested (loose_call c)) (λ x. refl) (λ x. refl) a.calls a.made.threads sound.tables.calls

  bare_works : SoundTable work_key bared.works a.made.works
  unfolding IsSoundCore
  bare_works = sound_mapped work_number work_machine bare_work (λ w. unmoved (loose_work w)) (λ x. refl) (λ x. refl) a.works a.made.works sound.tables.works

  -- who has a record was made
  made_within : (n k : ℕ) → get (records group_key a.groups.places) n ≡ Some k → (0 < n) × (n ≤ a.made.groups)
  made_within n k at = (above n at, below n (cases_lt a.made.groups n) at)
    where
      found : (m : ℕ) → get (records group_key a.groups.places) m ≡ Some k → found_record group_key m a.groups.places ≡ Some k
      found m at = sym (get-records group_key a.groups.places m) ∙ at

      no_record : {X : Type 0} (o : Option ℕ) → o ≡ None → o ≡ Some k → X
      no_record None none some = absurd (cc)
      no_record (Some j) none some = absurd (cc)

      above : (m : ℕ) → get (records group_key a.groups.places) m ≡ Some k → 0 < m
      above zero at = no_record _ groups_sound.above_zero (found zero at)
      above (suc m) at = omega arith

      below : (m : ℕ) → (a.made.groups < m) ⊎ (m ≤ a.made.groups) → get (records group_key a.groups.places) m ≡ Some k → m ≤ a.made.groups
      below m (inl more) at = no_record _ (groups_sound.later m more) (found m at)
      below m (inr less) at = less

  named : number_of group_key a.groups id.rep id.serial ≡ r.number
  named = item_number number count a.groups id.rep id.serial r is

  kept_is : r.calls ≡ calls_of r.number (core_of bared)
  kept_is = each_there number count a.groups a.made.groups groups_sound id.rep id.serial r is (IsGroupKept (core_of bared)) whole.counted.groups

  -- it is done where none of it is left
  done_is : is_group_done r.number (seen a).core ≡ not (nat_lt 0 r.calls)
  unfolding is_group_done
  done_is =
      ap not (ap₂ (λ b d. b || d)
      (sym (any_passing (λ (c : Call). c.group == r.number) (seen a).core.calls) ∙ ap (nat_lt 0) (sym (count_calls a (λ (c : Call). c.group == r.number))))
      (sym (any_passing (is_of_group r.number) (seen a).core.works) ∙ ap (nat_lt 0) (sym (count_works a (is_of_group r.number))))
      ∙ (some_of (passing (λ (c : Call). c.group == r.number) (core_of bared).calls) (passing (is_of_group r.number) (core_of bared).works) ∙ ap (nat_lt 0) (sym kept_is)))

  settled_is : (b : Bool) → is_group_done r.number (seen a).core ≡ b → on_core (group_settled (number_of group_key a.groups id.rep id.serial)) (seen a) ≡ with_core (cond b (remove_group r.number (seen a).core) (seen a).core) (seen a)
  unfolding group_settled
  settled_is b done = ap (λ n. with_core (cond (is_group_done n (seen a).core) (remove_group n (seen a).core) (seen a).core) (seen a)) named ∙ ap (λ d. with_core (cond d (remove_group r.number (seen a).core) (seen a).core) (seen a)) done

  pub group_stays : 0 < r.calls → seen a ≡ on_core (group_settled (number_of group_key a.groups id.rep id.serial)) (seen a)
  group_stays some = let is : nat_lt 0 r.calls ≡ true = grind arith in sym (settled_is false (done_is ∙ ap not is))

  module _ (none : r.calls ≡ 0) where
    empty : calls_of r.number (core_of bared) ≡ 0
    empty = sym kept_is ∙ none

    pub groups_counted : cond (nat_lt a.finished r.number) 1 0 ≤ a.kept.groups
    groups_counted = let law = groups_fewer bared whole a.made.groups a.made.threads a.made.works groups_sound bare_calls bare_works id.rep id.serial r is empty a.kept in let all = whole.counted.kept.groups in omega arith

    pub use_counted : cond (nat_lt a.finished r.number) 1 0 ≤ a.kept.used
    unfolding table_use
    use_counted = let law = groups_fewer bared whole a.made.groups a.made.threads a.made.works groups_sound bare_calls bare_works id.rep id.serial r is empty a.kept in let all = whole.counted.kept.used in omega arith

    -- it has room among those that have ended
    pub end_fits : a.finished < r.number → length a.ended.items < vec_capacity a.ended
    end_fits more =
        let law = groups_fewer bared whole a.made.groups a.made.threads a.made.works groups_sound bare_calls bare_works id.rep id.serial r is empty a.kept in
        let one = one_above a.finished r.number more in
        let fits = ended_are.room in
        omega (arith, law, one, fits)

    -- it is live where its number is above the groups that the trap finished
    was_live : has r.number (seen a).core.groups ≡ nat_lt a.finished r.number
    unfolding seen
    was_live =
        has_filter (nat_lt a.finished) r.number (numbers (records group_key a.groups.places))
        ∙ ap (λ b. b && nat_lt a.finished r.number)
        ((IsMembers-numbers (records group_key a.groups.places)).are r.number ∙ ap is_some (here bared whole a.made.groups a.made.threads a.made.works groups_sound bare_calls bare_works id.rep id.serial r is empty))

    -- it was made
    was_made : (0 < r.number) × (r.number ≤ a.made.groups)
    was_made = made_within r.number r.calls (here bared whole a.made.groups a.made.threads a.made.works groups_sound bare_calls bare_works id.rep id.serial r is empty)

    module _ (used groups : ℕ) (is_used : used + cond (nat_lt a.finished r.number) 1 0 ≡ a.kept.used) (is_groups : groups + cond (nat_lt a.finished r.number) 1 0 ≡ a.kept.groups)
        (ended : Vec ℕ Global) (is_ended : ended.items ≡ with_one (nat_lt a.finished r.number) r.number a.ended.items) (same_room : vec_capacity ended ≡ vec_capacity a.ended) where
      abbrev pub group_removed : Table (Single TaskGroup) → CoreParts
      group_removed t = record a { groups = t; kept = record a.kept { used = used; groups = groups }; ended = ended }

      abbrev bare_kept : CachedCounts
      bare_kept = record a.kept { used = used; groups = groups; interesting = 0; moving = 0 }

      abbrev less_parts : CoreImage
      less_parts = less bared whole a.made.groups a.made.threads a.made.works groups_sound bare_calls bare_works id.rep id.serial r is empty bare_kept

      left : (core_of less_parts).groups ≡ filter (λ q. not (r.number == q)) (core_of bared).groups
      left = groups_left bared whole a.made.groups a.made.threads a.made.works groups_sound bare_calls bare_works id.rep id.serial r is empty bare_kept

      still_known : tracked_of ended.items (core_of less_parts).groups a.made.groups ≡ (seen a).tags.tracked
      unfolding seen
      still_known =
          ap₂ (λ (es gs : List ℕ). tracked_of es gs a.made.groups) is_ended left
          ∙ known_settled a.ended.items (vec_capacity a.ended) (seen a).core.groups a.made.groups r.number (nat_lt a.finished r.number) was_live

      sound_without : IsTable (deleted id.rep a.groups) → IsSoundCore (group_removed (deleted id.rep a.groups))
      unfolding IsSoundCore seen
      sound_without table = record {
        tables = record { threads = sound.tables.threads; calls = sound.tables.calls; works = sound.tables.works; sets = sound.tables.sets; groups = table_less number count a.groups a.made.groups sound.tables.groups id.rep id.serial r is table };
        whole = less_whole bared whole a.made.groups a.made.threads a.made.works groups_sound bare_calls bare_works id.rep id.serial r is empty bare_kept is_used is_groups refl;
        interesting = sound.interesting;
        moving = sound.moving;
        handles = sound.handles;
        owned = sound.owned;
        live = sound.live;
        ended = subst (λ k. AreEnded ended.items k (core_of less_parts).groups a.made.groups) (sym same_room)
            (subst (λ ns. AreEnded ns (vec_capacity a.ended) (core_of less_parts).groups a.made.groups) (sym is_ended)
            (ended_alike (with_one (nat_lt a.finished r.number) r.number a.ended.items) (vec_capacity a.ended) _ _ a.made.groups left
            (ended_settled a.ended.items (vec_capacity a.ended) (seen a).core.groups a.made.groups r.number (nat_lt a.finished r.number) was_live sound.ended was_made
            (ap (λ (ns : List ℕ). length ns + cond (nat_lt a.finished r.number) 1 0) (sym left) ∙ groups_fewer bared whole a.made.groups a.made.threads a.made.works groups_sound bare_calls bare_works id.rep id.serial r is empty bare_kept))));
      }

      seen_without : seen (group_removed (deleted id.rep a.groups)) ≡ on_core (group_settled (number_of group_key a.groups id.rep id.serial)) (seen a)
      unfolding seen remove_group
      seen_without =
          ap₂ (λ (gs ks : List ℕ). record (seen a) { core = record (seen a).core { groups = gs }; tags = record (seen a).tags { tracked = ks } }) left still_known
          ∙ sym (settled_is true (done_is ∙ ap (λ n. not (nat_lt 0 n)) none))

      module _ (t : Table (Single TaskGroup)) (are : t ≡ deleted id.rep a.groups) where
        pub settled_sound : IsTable t → IsSoundCore (group_removed t)
        settled_sound table = subst (λ (u : Table (Single TaskGroup)). IsSoundCore (group_removed u)) (sym are) (sound_without (subst (λ (u : Table (Single TaskGroup)). IsTable u) are table))

        pub settled_seen : seen (group_removed t) ≡ on_core (group_settled (number_of group_key a.groups id.rep id.serial)) (seen a)
        settled_seen = ap (λ (u : Table (Single TaskGroup)). seen (group_removed u)) are ∙ seen_without
