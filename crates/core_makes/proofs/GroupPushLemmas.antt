-- A group more: the parts stay whole, and contracts see just that.
use Rattle.core_records.proofs.Core.{AreEnded, Global, tracked_of, with_group as grouped_view, [], add_group, ap, ap₂, arith, bare, Call, call_key, calls_of, core_of, false, filter, filter-append, filter-one, fits, get, get-records, group_key, HasHome, HasNumber, insert, is_of_group, IsCallNamed, IsGroupKept, IsSoundCore, IsTable, IsWhole, IsWorkNamed, key_in, kinds, length, length-append, List, nat_lt, ne_eqb, None, numbers, Option, option_map_or, CoreImage, parts_of, place_at, Placed, pushed, Records, records, refl, same_Some, seen, Some, SoundTable, subst, sym, Table, table_use, true, Work, work_key, ℕ, ◌++◌, ◌+◌, ◌<◌, ◌==◌, ◌^◌, ◌∙◌, ◌∷◌, ◌≡◌, ◌≤◌}
use Rattle.core_records.specs.declared.{call_records.GuestTask.GuestTask, call_records.TaskGroup.TaskGroup, parts.CoreParts.CoreParts, single.Single.Single, thread_records.GuestThread.GuestThread, work_records.WorkRecord.WorkRecord}
use Rattle.core_makes.proofs.FreshLemmas.{each_more, none_passing}
use Rattle.core_makes.proofs.MoreLemmas.{early_at, number_stays}
use Rattle.std.specs.Prelude.{Vec, vec_capacity}
use Rattle.core_makes.proofs.GroupLemmas.{last_number}
use Rattle.core_makes.specs.Ends.{HasEndRoom}
use Rattle.core_records.proofs.KeptLemmas.{groups_are, used_is}
use Rattle.core_records.proofs.TrackedLemmas.{ended_alike, ended_more, known_more}
use Rattle.core_records.proofs.LaterLemmas.{IsLater, handles_later}
use Rattle.core_records.proofs.MakeLemmas.{records_more, table_more}

abbrev pub new_group : (n entry : ℕ) → TaskGroup
new_group n entry = record { number = n; calls = 0; entry = entry }

-- a work is of a group that is there
of_group : (n : ℕ) (o : Option ℕ) → ((m : ℕ) → o ≡ Some m → m ≡ n → ⊥) → option_map_or (λ m. m == n) o false ≡ false
of_group n None none = refl
of_group n (Some m) none = ne_eqb m n (none m refl)

module _ (p : CoreImage) (whole : IsWhole p) (groups : SoundTable group_key p.groups p.made.groups) (entry : ℕ) where
  abbrev next : ℕ
  next = p.made.groups + 1

  abbrev pub with_group : CoreImage
  with_group = record p { groups = pushed (record { item = new_group next entry }) p.groups; made = record p.made { groups = next }; kept = record p.kept { used = p.kept.used + 1; groups = p.kept.groups + 1 } }

  -- ---- The numbers of the groups

  numbers_more : numbers (records group_key with_group.groups.places) ≡ numbers (records group_key p.groups.places) ++ next ∷ []
  unfolding numbers insert get
  numbers_more =
      ap (λ (m : Records ℕ). numbers m) (records_more (λ (r : TaskGroup). r.number) (λ (r : TaskGroup). r.calls) p.groups p.made.groups groups (new_group next entry) refl)
      ∙ last_number p.made.groups (records group_key p.groups.places).list (λ n later. get-records group_key p.groups.places n ∙ groups.later n later) next 0 (omega arith)

  pub groups_more : (core_of with_group).groups ≡ (core_of p).groups ++ next ∷ []
  groups_more =
      ap (filter (nat_lt p.finished)) numbers_more
      ∙ (filter-append (nat_lt p.finished) (numbers (records group_key p.groups.places)) (next ∷ [])
      ∙ ap (λ (ns : List ℕ). (core_of p).groups ++ ns) (filter-one (nat_lt p.finished) next (let within = whole.counted.finished in grind (arith, within))))

  -- ---- Nobody is of it

  none_of_it : (rep n : ℕ) → HasNumber group_key p.groups rep n → 0 < n → n ≡ next → ⊥
  none_of_it rep n has some same = let early = early_at (λ (r : TaskGroup). r.number) (λ (r : TaskGroup). r.calls) p.groups p.made.groups groups rep n has some in omega arith

  no_calls : 0 ≡ calls_of next (core_of p)
  no_calls = sym (ap₂ (λ (m n : ℕ). m + n)
      (none_passing (λ (c : Call). c.group == next) call_key p.calls.places (λ r e at. by_call r e (place_at p.calls r) refl at))
      (none_passing (is_of_group next) work_key p.works.places (λ r e at. by_work r e (place_at p.works r) refl at)))
    where
      by_call : (r : ℕ) (e : ℕ × Call) (o : Option (Placed (Single GuestTask))) → place_at p.calls r ≡ o → key_in call_key o ≡ Some e → (e.1.group == next) ≡ false
      by_call r e None at is = absurd (cc)
      by_call r e (Some q) at is =
          let named = whole.named.calls r q at in
          ap (λ (d : ℕ × Call). d.1.group == next) (sym (same_Some (q.entry.item.number, q.entry.item.call) e is)) ∙ ne_eqb q.entry.item.call.group next (none_of_it q.entry.item.group q.entry.item.call.group named.group named.positive)

      by_work : (r : ℕ) (e : ℕ × Work) (o : Option (Placed (Single WorkRecord))) → place_at p.works r ≡ o → key_in work_key o ≡ Some e → is_of_group next e.1 ≡ false
      by_work r e None at is = absurd (cc)
      by_work r e (Some q) at is =
          let named = whole.named.works r q at in
          ap (λ (d : ℕ × Work). is_of_group next d.1) (sym (same_Some (q.entry.item.number, q.entry.item.work) e is)) ∙ of_group next q.entry.item.work.group (λ m is_m. let one = named.group m is_m in none_of_it q.entry.item.group m one.0 one.1)

  -- ---- The parts

  group_still : (rep n : ℕ) → HasNumber group_key p.groups rep n → 0 < n → HasNumber group_key with_group.groups rep n
  group_still = number_stays p.groups (new_group next entry) groups.table group_key

  home_still : (g : GuestThread) → HasHome p g → HasHome with_group g
  home_still g h = record { call = h.call; there = h.there; instance = h.instance; barred = h.barred; waits = h.waits; within = h.within; place = h.place; op_progress = h.op_progress }

  call_still : (c : GuestTask) → IsCallNamed p c → IsCallNamed with_group c
  call_still c h = record { caller = h.caller; first = h.first; join = h.join; group = group_still c.group c.call.group h.group h.positive; positive = h.positive; waits = h.waits }

  work_still : (w : WorkRecord) → IsWorkNamed p w → IsWorkNamed with_group w
  work_still w h = record { caller = h.caller; join = h.join; group = λ n is. let one = h.group n is in (group_still w.group n one.0 one.1, one.1) }

  length_more : length (core_of with_group).groups ≡ length (core_of p).groups + 1
  length_more = ap (λ (l : List ℕ). length l) groups_more ∙ length-append (core_of p).groups (next ∷ [])

  used : p.kept.used + 1 ≡ table_use (core_of with_group)
  unfolding table_use
  used = let was = whole.counted.kept.used in let more = length_more in omega arith

  pub group_whole : IsWhole with_group
  group_whole = record {
    named = record {
      threads = λ rep q at. home_still q.entry.item (whole.named.threads rep q at);
      calls = λ rep q at. call_still q.entry.item (whole.named.calls rep q at);
      works = λ rep q at. work_still q.entry.item (whole.named.works rep q at);
      switch = whole.named.switch;
    };
    chained = record {
      places = whole.chained.places;
      waits = whole.chained.waits;
      ready_calls = whole.chained.ready_calls;
      ready_works = whole.chained.ready_works;
      polled = whole.chained.polled;
      rising = whole.chained.rising;
      marks = whole.chained.marks;
      instance_queues = whole.chained.instance_queues;
      low = whole.chained.low;
      behind = whole.chained.behind;
    };
    nodes = record { marks = whole.nodes.marks; instance_queues = whole.nodes.instance_queues; callers = whole.nodes.callers; works = whole.nodes.works; apart = whole.nodes.apart };
    counted = record {
      kept = record { used = used; groups = let was = whole.counted.kept.groups in let more = length_more in omega arith; live = whole.counted.kept.live };
      calls = whole.counted.calls;
      sets = λ rep q at. let one = whole.counted.sets rep q at in record { members = one.members; entries = one.entries };
      groups = each_more (IsGroupKept (core_of with_group)) p.groups (new_group next entry) groups.table (λ rep q at. whole.counted.groups rep q at) no_calls;
      few = whole.counted.few;
      finished = let within = whole.counted.finished in omega arith;
      high = whole.counted.high;
      low = whole.counted.low;
      works = whole.counted.works;
      results = whole.counted.results;
    };
  }

-- ---- A core

module _ (a : CoreParts) (sound : IsSoundCore a) where
  pub group_counts : fits 1 (seen a).core ≡ true → (a.kept.used + 1 < 2 ^ 64) × (a.kept.groups + 1 < 2 ^ 64)
  unfolding fits seen IsSoundCore table_use
  group_counts room =
      let used = used_is a sound in
      let groups = groups_are a sound in
      let few = sound.whole.counted.few in
      let fit : table_use (seen a).core + 1 ≤ a.capacity = grind (arith, room) in
      (omega arith, omega arith)

  abbrev pub grouped : Table (Single TaskGroup) → CoreParts
  grouped t = record a { groups = t; made = record a.made { groups = a.made.groups + 1 }; kept = record a.kept { used = a.kept.used + 1; groups = a.kept.groups + 1 } }

  more_made : IsLater a.made (record a.made { groups = a.made.groups + 1 })
  more_made = record { threads = omega arith; works = omega arith; sets = omega arith; groups = omega arith }

  -- room for it to end
  has_end_room : HasEndRoom a → length a.ended.items + length (core_of (parts_of a)).groups + 1 ≤ vec_capacity a.ended
  unfolding seen
  has_end_room fits =
      let is : a.kept.groups ≡ length (core_of (parts_of a)).groups = groups_are a sound in
      omega (arith, fits, is)

  module _ (entry : ℕ) (t : Table (Single TaskGroup)) (is : t ≡ pushed (record { item = new_group (a.made.groups + 1) entry }) a.groups) where
    more_live : (core_of (parts_of (grouped (pushed (record { item = new_group (a.made.groups + 1) entry }) a.groups)))).groups ≡ (core_of (parts_of a)).groups ++ (a.made.groups + 1) ∷ []
    unfolding IsSoundCore
    more_live = groups_more (bare (parts_of a)) sound.whole sound.tables.groups entry

    more_is_known : tracked_of a.ended.items (core_of (parts_of (grouped (pushed (record { item = new_group (a.made.groups + 1) entry }) a.groups)))).groups (a.made.groups + 1)
        ≡ tracked_of a.ended.items (core_of (parts_of a)).groups a.made.groups ++ (a.made.groups + 1) ∷ []
    more_is_known = ap (λ gs. tracked_of a.ended.items gs (a.made.groups + 1)) more_live ∙ known_more a.ended.items (core_of (parts_of a)).groups a.made.groups

    pub group_seen : seen (grouped t) ≡ grouped_view (seen a)
    unfolding seen add_group
    group_seen = subst (λ (u : Table (Single TaskGroup)). seen (grouped u) ≡ grouped_view (seen a)) (sym is)
        (ap₂ (λ (gs ks : List ℕ). record (seen a) { core = record (seen a).core { groups = gs; made = record a.made { groups = a.made.groups + 1 } }; tags = record (seen a).tags { tracked = ks } }) more_live more_is_known)

    pub group_sound : HasEndRoom a → IsTable t → IsSoundCore (grouped t)
    unfolding IsSoundCore
    group_sound fits table = subst (λ (u : Table (Single TaskGroup)). IsSoundCore (grouped u)) (sym is) (record {
      tables = record {
        threads = sound.tables.threads;
        calls = sound.tables.calls;
        works = sound.tables.works;
        sets = sound.tables.sets;
        groups = table_more (λ (r : TaskGroup). r.number) (λ (r : TaskGroup). r.calls) a.groups a.made.groups sound.tables.groups (new_group (a.made.groups + 1) entry) refl (subst (λ (u : Table (Single TaskGroup)). IsTable u) is table);
      };
      whole = group_whole (bare (parts_of a)) sound.whole sound.tables.groups entry;
      interesting = sound.interesting;
      moving = sound.moving;
      handles = λ i r at. handles_later (kinds (bare (parts_of a))) (record a.made { groups = a.made.groups + 1 }) more_made r (sound.handles i r at);
      owned = sound.owned;
      live = sound.live;
      ended = ended_alike a.ended.items (vec_capacity a.ended) _ _ (a.made.groups + 1) more_live (ended_more a.ended.items (vec_capacity a.ended) (core_of (parts_of a)).groups a.made.groups sound.ended (has_end_room fits));
    })

-- ---- Room for one to end

module _ (a : CoreParts) (sound : IsSoundCore a) (v : Vec ℕ Global) (same : v.items ≡ a.ended.items) (more : vec_capacity a.ended ≤ vec_capacity v) where
  pub roomy_seen : seen (record a { ended = v }) ≡ seen a
  unfolding seen
  roomy_seen = ap (λ (ns : List ℕ). record (seen a) { tags = record (seen a).tags { tracked = tracked_of ns (core_of (parts_of a)).groups a.made.groups } }) same

  pub roomy_sound : IsSoundCore (record a { ended = v })
  unfolding IsSoundCore
  roomy_sound = record {
    tables = record { threads = sound.tables.threads; calls = sound.tables.calls; works = sound.tables.works; sets = sound.tables.sets; groups = sound.tables.groups };
    whole = sound.whole;
    interesting = sound.interesting;
    moving = sound.moving;
    handles = sound.handles;
    owned = sound.owned;
    live = sound.live;
    ended = subst (λ (ns : List ℕ). AreEnded ns (vec_capacity v) (core_of (parts_of a)).groups a.made.groups) (sym same)
        (record { once = sound.ended.once; apart = sound.ended.apart; within = sound.ended.within; room = let fits = sound.ended.room in omega (arith, fits, more) });
  }

  pub roomy_room : {n : ℕ} → a.kept.groups + 1 ≤ n → length v.items + n ≤ vec_capacity v → HasEndRoom (record a { ended = v })
  roomy_room few fits = omega (arith, few, fits)
