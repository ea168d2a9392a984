-- A host work with another event, set or stage, as the primitives write it.
use Rattle.core_records.specs.Keys.{work_seat_key}
use Rattle.core_records.proofs.Core.{[], ap, AreHandlesNamed, arith, AtPlace, bare, bare_work, Bool, CallOf, change, cond, core_of, EachEntry, entry_of, filings, filings_at, HandleKind, HostTaskKey, IfSome, is_in_set, is_live, is_made, is_moving, IsHeldNamed, IsIndex, IsIndex-with_entry, IsSetKept, IsSome, IsSoundCore, IsWhole, item_at, item_of, Join, join_target, kinds, link_for, link_of, List, list_of, live_chain, live_value, live_work, loose_work, mapped, mapped-with_entry, mapped-with_entry_same, members_of, None, Ok, on_core, on_item, on_work, one_if_passes, Option, option_and_then, CoreImage, parts_of, passing, place_at, Placed, ready_in, ready_work, ready_work_chain, Records, records, Refiles, refl, Rep, Rises, seen, Set, set_key, set_of, SetKey, SetOf, Some, SoundTable, Spot, StateView, Status, subst, sym, Table, TableId, Tag, tags_in, ThreadOf, true, unmoved, WaitableKind, with_entry, Work, work_key, work_of, WorkOf, ℕ, ◌+◌, ◌∙◌, ◌≡◌, ◌≤◌}
use Rattle.core_records.specs.declared.{instance_records.InstanceRecord.InstanceRecord, parts.CoreParts.CoreParts, set_records.WaitSet.WaitSet, single.Single.Single, work_records.WorkRecord.WorkRecord, work_records.LiveWork.LiveWork}
use Rattle.core_records.proofs.HomeLemmas.{place_bare, place_in_bare, work_names}
use Rattle.core_records.proofs.KeptLemmas.{passing_seconds, records_seconds}
use Rattle.core_records.proofs.TableLemmas.{records_unseen}
use Rattle.core_records.proofs.KindLemmas.{item_stands, passing_written, records_changed, table_written, tags_written}
use Rattle.core_records.proofs.ReadLemmas.{work_shown}
use Rattle.core_records.proofs.WriteLemmas.{each_written}
use Rattle.core_places.proofs.AlikeLemmas.{tags_alike}
use Rattle.core_places.proofs.WorkMovedLemmas.{at_heard, heard, heard_whole}
use Rattle.core_places.proofs.PutLemmas.{sets_same}
use Rattle.core_places.proofs.JoinLemmas.{in_is, members_kept, sets_alike, sets_now}
use Rattle.core_places.specs.Moved.{Alike, joined_set, live_key, set_named, still_work, uncounted}
use Rattle.core_queues.proofs.BareLemmas.{place_mapped}
use Rattle.table_lists.specs.declared.ordered_lists.OrderKey.{OrderKey}
use Rattle.core_records.specs.RecordPlaces.{member_order_key}

module _ (a : CoreParts) (sound : IsSoundCore a) (id : TableId HostTaskKey) (g : WorkRecord) (is : Ok g ≡ item_at item_of a.works id.rep id.serial) where
  abbrev pub bared : CoreImage
  bared = bare (parts_of a)

  pub is_whole : IsWhole bared
  unfolding IsSoundCore
  is_whole = sound.whole

  pub stands : (p : Placed (Single WorkRecord)) × ((place_at a.works id.rep ≡ Some p) × ((p.serial ≡ id.serial) × (p.entry ≡ entry_of g)))
  unfolding IsSoundCore
  stands = item_stands (λ (g : WorkRecord). g.number) (λ (g : WorkRecord). g.work) a.works a.made.works sound.tables.works id.rep id.serial g is

  abbrev pub bare_placed : Placed (Single WorkRecord)
  bare_placed = record { serial = stands.0.serial; parent = stands.0.parent; entry = on_item bare_work stands.0.entry }

  pub bare_stands : place_at bared.works id.rep ≡ Some bare_placed
  bare_stands = place_mapped (on_item bare_work) a.works id.rep stands.0 stands.1.0

  pub bare_entry : bare_placed.entry ≡ entry_of (bare_work g)
  bare_entry = ap (on_item bare_work) stands.1.1.1

  pub work_join_at : AtPlace (parts_of a) g.joined (join_target g.work.join)
  work_join_at = place_bare a _ _ (work_names a sound id g is).join

  pub ready_made : is_made a.ready_works g.ready.index ≡ true
  ready_made = subst (λ (e : Single WorkRecord). is_made a.ready_works e.item.ready.index ≡ true) bare_entry (is_whole.chained.ready_works.made id.rep _ (filings_at ready_work bared.works id.rep (Some bare_placed) bare_stands))

  pub live_made : is_made a.polled g.live.index ≡ true
  live_made = subst (λ (e : Single WorkRecord). is_made a.polled e.item.live.index ≡ true) bare_entry (is_whole.chained.polled.made id.rep _ (filings_at live_work bared.works id.rep (Some bare_placed) bare_stands))

  pub ready_live : (e : Option Status) (j : Join) (chain : Option ℕ) → option_and_then (ready_work_chain bared) (ready_in e j) ≡ chain → IfSome chain (λ c. IsSome (list_of a.ready_works c))
  ready_live e j chain is = by (ready_in e j) chain is
    where
      by : (w : Option ℕ) (o : Option ℕ) → option_and_then (ready_work_chain bared) w ≡ o → IfSome o (λ c. IsSome (list_of a.ready_works c))
      by w None is = tt
      by None (Some c) is = absurd (cc)
      by (Some k) (Some c) is = is_whole.chained.ready_works.live k c is

  -- how many host works pass a test that looks at what is kept of them
  module _ (test : Work → Bool) (blind : (w : Work) → test (unmoved (loose_work w)) ≡ test w) where
    abbrev works_that : Table (Single WorkRecord) → ℕ
    works_that t = passing test (records work_key t.places)

    bare_that : (t : Table (Single WorkRecord)) → works_that (mapped (on_item bare_work) t) ≡ works_that t
    bare_that t =
        ap (passing test) (records_seconds (λ c. unmoved (loose_work c)) work_key work_key (on_item bare_work) (λ e. refl) t)
        ∙ (passing_seconds (λ c. unmoved (loose_work c)) test (records work_key t.places) ∙ (λ i. passing (λ w. blind w i) (records work_key t.places)))

  module _ (h : WorkRecord) (stays : still_work (bare_work h) ≡ still_work (bare_work g)) where
    same_number : h.number ≡ g.number
    same_number = ap (λ (x : WorkRecord). x.number) stays

    abbrev pub works_now : Table (Single WorkRecord)
    works_now = with_entry id.rep (entry_of h) a.works

    abbrev pub bare_now : Table (Single WorkRecord)
    bare_now = mapped (on_item bare_work) works_now

    bare_put : bare_now ≡ with_entry id.rep (entry_of (bare_work h)) bared.works
    bare_put = mapped-with_entry (on_item bare_work) a.works id.rep (entry_of h)

    pub works_alike : Alike still_work bare_now bared.works
    works_alike = ap (mapped (on_item still_work)) bare_put ∙ mapped-with_entry_same (on_item still_work) bared.works id.rep (entry_of (bare_work h)) bare_placed bare_stands (ap entry_of stays ∙ sym (ap (on_item still_work) bare_entry))

    module _ (sets : Table (Single WaitSet)) (as_sets : Alike uncounted sets a.sets) (links : List (Spot OrderKey)) (polled : List (Spot LiveWork)) (live moving : ℕ) where
      abbrev pub heard_after : CoreParts
      heard_after = record a { works = works_now; sets = sets; ready_works = links; polled = polled; kept = record a.kept { live = live; moving = moving } }

      abbrev pub after : CoreImage
      after = heard bared is_whole bare_now works_alike sets as_sets links polled live

      -- a set counts one more that is in it now, and one less that was
      pub members_change : (n : ℕ) → members_of n (core_of after) + cond (is_in_set n g.work.join) 1 0 ≡ members_of n (core_of bared) + cond (is_in_set n h.work.join) 1 0
      unfolding IsSoundCore
      members_change n =
          let law = passing_written (λ (g : WorkRecord). g.number) (λ (g : WorkRecord). g.work) a.works a.made.works sound.tables.works id.rep id.serial g is h same_number (λ (c : Work). is_in_set n c.join) in
          let now = bare_that (λ w. is_in_set n w.join) (λ w. refl) works_now in
          let then = bare_that (λ w. is_in_set n w.join) (λ w. refl) a.works in
          omega (arith, law, now, then)

      pub members_same : h.work.join ≡ g.work.join → (n : ℕ) → members_of n (core_of bared) ≡ members_of n (core_of after)
      members_same same n = let law = members_change n in let one : one_if_passes (λ (c : Work). is_in_set n c.join) (Some g.work) ≡ one_if_passes (λ (c : Work). is_in_set n c.join) (Some h.work) = ap (λ j. cond (is_in_set n j) 1 0) (sym same) in omega (arith, law, one)

      module _ (at : AtPlace (parts_of a) h.joined (join_target h.work.join)) (sets_sound : SoundTable set_key sets a.made.sets) (kept : EachEntry (IsSetKept (core_of after)) sets) (live_is : live + one_if_passes is_live (Some g.work) ≡ a.kept.live + one_if_passes is_live (Some h.work)) (moving_is : moving + one_if_passes is_moving (Some g.work) ≡ a.kept.moving + one_if_passes is_moving (Some h.work)) (live_re : Refiles a.polled polled g.live.index (link_for (live_chain bared) (record { node = g.live.index; key = live_key h.work.stage; value = live_value id.rep h }))) (rises : Rises polled a.live) (re : Refiles a.ready_works links g.ready.index (link_for (ready_work_chain bared) (record { node = g.ready.index; key = ready_in h.work.event h.work.join; value = member_order_key h.entry id.rep }))) where
        joins_now : EachEntry (λ (x : WorkRecord). AtPlace after x.joined (join_target x.work.join)) bare_now
        joins_now = subst (EachEntry (λ (x : WorkRecord). AtPlace after x.joined (join_target x.work.join))) (sym bare_put)
            (each_written bared.works id.rep bare_placed bare_stands (λ (x : WorkRecord). AtPlace after x.joined (join_target x.work.join)) (bare_work h)
            (at_heard bared is_whole bare_now works_alike sets as_sets links polled live h.joined _ (place_in_bare a h.joined _ at))
            (λ r q there. at_heard bared is_whole bare_now works_alike sets as_sets links polled live q.entry.item.joined _ (is_whole.named.works r q there).join))

        index_now : IsIndex (ready_work_chain bared) links (filings ready_work bare_now)
        index_now = subst (λ (t : Table (Single WorkRecord)). IsIndex (ready_work_chain bared) links (filings ready_work t)) (sym bare_put)
            (IsIndex-with_entry ready_work (ready_work_chain bared) bared.works a.ready_works is_whole.chained.ready_works id.rep bare_placed bare_stands links (entry_of (bare_work h))
            (record { node = bare_placed.entry.item.ready.index; key = ready_in bare_placed.entry.item.work.event bare_placed.entry.item.work.join; value = member_order_key bare_placed.entry.item.entry id.rep })
            (record { node = h.ready.index; key = ready_in h.work.event h.work.join; value = member_order_key h.entry id.rep })
            refl refl (ap (λ (x : WorkRecord). x.ready.index) stays ∙ sym (ap (λ (e : Single WorkRecord). e.item.ready.index) bare_entry))
            (subst (λ n. Refiles a.ready_works links n (link_for (ready_work_chain bared) (record { node = h.ready.index; key = ready_in h.work.event h.work.join; value = member_order_key h.entry id.rep }))) (sym (ap (λ (e : Single WorkRecord). e.item.ready.index) bare_entry)) re))

        live_index : IsIndex (live_chain bared) polled (filings live_work bare_now)
        live_index = subst (λ (t : Table (Single WorkRecord)). IsIndex (live_chain bared) polled (filings live_work t)) (sym bare_put)
            (IsIndex-with_entry live_work (live_chain bared) bared.works a.polled is_whole.chained.polled id.rep bare_placed bare_stands polled (entry_of (bare_work h))
            (record { node = bare_placed.entry.item.live.index; key = live_key bare_placed.entry.item.work.stage; value = live_value id.rep bare_placed.entry.item })
            (record { node = h.live.index; key = live_key h.work.stage; value = live_value id.rep h })
            refl refl (ap (λ (x : WorkRecord). x.live.index) stays ∙ sym (ap (λ (e : Single WorkRecord). e.item.live.index) bare_entry))
            (subst (λ n. Refiles a.polled polled n (link_for (live_chain bared) (record { node = h.live.index; key = live_key h.work.stage; value = live_value id.rep h }))) (sym (ap (λ (e : Single WorkRecord). e.item.live.index) bare_entry)) live_re))

        -- the live works are counted
        live_counted : live ≡ passing is_live (core_of after).works
        unfolding IsSoundCore
        live_counted =
            let law = passing_written (λ (g : WorkRecord). g.number) (λ (g : WorkRecord). g.work) a.works a.made.works sound.tables.works id.rep id.serial g is h same_number is_live in
            let now = bare_that is_live (λ w. refl) works_now in
            let was = is_whole.counted.kept.live in
            let then = bare_that is_live (λ w. refl) a.works in
            omega (arith, law, now, was, then, live_is)

        held_now : (kind : HandleKind) (r : Rep) → IsHeldNamed (kinds bared) kind r → IsHeldNamed (kinds after) kind r
        held_now (HandleKind.Waitable WaitableKind.GuestSubtask) r at = at_heard bared is_whole bare_now works_alike sets as_sets links polled live r.id (CallOf r.serial) at
        held_now (HandleKind.Waitable WaitableKind.HostSubtask) r at = at_heard bared is_whole bare_now works_alike sets as_sets links polled live r.id (WorkOf r.serial) at
        held_now (HandleKind.Waitable WaitableKind.Stream) r at = at
        held_now (HandleKind.Waitable WaitableKind.Future) r at = at
        held_now HandleKind.Set r at = at_heard bared is_whole bare_now works_alike sets as_sets links polled live r.id (SetOf r.serial) at

        handles_now : (r : InstanceRecord) → AreHandlesNamed (kinds bared) r → AreHandlesNamed (kinds after) r
        handles_now r named = record {
          small = named.small;
          small_threads = named.small_threads;
          handles = λ n x at. held_now x.kind x.rep (named.handles n x at);
          thread_handles = λ n x at. at_heard bared is_whole bare_now works_alike sets as_sets links polled live x.id (ThreadOf x.serial) (named.thread_handles n x at);
        }

        pub heard_sound : IsSoundCore heard_after
        unfolding IsSoundCore
        heard_sound = record {
          tables = record {
            threads = sound.tables.threads;
            calls = sound.tables.calls;
            works = table_written (λ (g : WorkRecord). g.number) (λ (g : WorkRecord). g.work) a.works a.made.works sound.tables.works id.rep id.serial g is h same_number;
            sets = sets_sound;
            groups = sound.tables.groups;
          };
          whole = heard_whole bared is_whole bare_now works_alike sets as_sets links polled live joins_now kept index_now live_index rises live_counted;
          interesting = sound.interesting;
          moving = let law = passing_written (λ (g : WorkRecord). g.number) (λ (g : WorkRecord). g.work) a.works a.made.works sound.tables.works id.rep id.serial g is h same_number is_moving in let was = sound.moving in omega (arith, law, was, moving_is);
          handles = λ i r at. handles_now r (sound.handles i r at);
          owned = sound.owned;
          live = sound.live;
          ended = sound.ended;
        }

      work_seats_same : records work_seat_key works_now.places ≡ records work_seat_key a.works.places
      work_seats_same = records_unseen work_seat_key a.works id.rep stands.0 stands.1.0 (entry_of h) (ap (λ (x : WorkRecord). work_seat_key (entry_of x)) stays ∙ sym (ap work_seat_key stands.1.1.1))

      works_seen : Records Work → Records Set → List (Option Tag) → List (Option Tag) → StateView
      works_seen m x l t = record (seen a) { core = record (seen a).core { works = m; sets = x }; tags = record (seen a).tags { works = l; sets = t } }

      pub heard_seen : (f : Work → Work) → f g.work ≡ h.work → seen heard_after ≡ on_core (on_work (work_of (seen a) id) f) (seen a)
      unfolding seen IsSoundCore on_work works_seen
      heard_seen f is_f =
          ap (λ (p : Records ℕ). record (seen heard_after) { tags = record (seen heard_after).tags { seats = record (seen a).tags.seats { works = p } } }) work_seats_same
          ∙ (ap (λ (m : Records Work). works_seen m (records set_key sets.places) (tags_in work_key works_now) (tags_in set_key sets))
          (records_changed (λ (g : WorkRecord). g.number) (λ (g : WorkRecord). g.work) a.works a.made.works sound.tables.works id.rep id.serial g is h same_number f is_f ∙ ap (λ n. change n f (records work_key a.works.places)) (sym (work_shown a id)))
          ∙ (ap (λ x. works_seen (change (work_of (seen a) id) f (records work_key a.works.places)) x (tags_in work_key works_now) (tags_in set_key sets)) (sets_same sets a.sets as_sets)
          ∙ (ap (λ (l : List (Option Tag)). works_seen (change (work_of (seen a) id) f (records work_key a.works.places)) (records set_key a.sets.places) l (tags_in set_key sets))
          (tags_written (λ (g : WorkRecord). g.number) (λ (g : WorkRecord). g.work) a.works a.made.works sound.tables.works id.rep id.serial g is h same_number)
          ∙ ap (λ t. works_seen (change (work_of (seen a) id) f (records work_key a.works.places)) (records set_key a.sets.places) (tags_in work_key a.works) t)
          (tags_alike uncounted set_key (λ e. refl) sets a.sets as_sets))))

    -- the sets as they were count what they counted, where the work stays in its set
    pub kept_same : h.work.join ≡ g.work.join → (links : List (Spot OrderKey)) → (polled : List (Spot LiveWork)) (live moving : ℕ) → EachEntry (IsSetKept (core_of (after a.sets refl links polled live moving))) a.sets
    kept_same same links polled live moving r q at = let was = is_whole.counted.sets r q at in record { members = was.members ∙ members_same a.sets refl links polled live moving same q.entry.item.number; entries = was.entries }

    -- a work that stays as live as it was stays filed
    pub stays_live : h.work.stage ≡ g.work.stage → Refiles a.polled a.polled g.live.index (link_for (live_chain bared) (record { node = g.live.index; key = live_key h.work.stage; value = live_value id.rep h }))
    stays_live same = record {
      here = subst (λ (e : Single WorkRecord). link_of a.polled e.item.live.index ≡ link_for (live_chain bared) (record { node = e.item.live.index; key = live_key e.item.work.stage; value = live_value id.rep e.item })) bare_entry
          (is_whole.chained.polled.has_link id.rep _ (filings_at live_work bared.works id.rep (Some bare_placed) bare_stands))
          ∙ (ap (λ x. link_for (live_chain bared) (record { node = g.live.index; key = live_key x; value = live_value id.rep g })) (sym same)
          ∙ ap (λ n. link_for (live_chain bared) (record { node = g.live.index; key = live_key h.work.stage; value = record { number = n; place = id.rep } })) (sym same_number));
      others = λ n other. refl;
      made = λ n made. made;
      live = λ c live. live;
    }

    pub same_sets : SoundTable set_key a.sets a.made.sets
    unfolding IsSoundCore
    same_sets = sound.tables.sets

  -- a set that the work is in has a member
  pub some_member : (n : ℕ) → is_in_set n g.work.join ≡ true → 1 ≤ members_of n (core_of bared)
  some_member n in_set =
      let law = members_change (record g { work = record g.work { join = Join.Nowhere } }) refl a.sets refl [] [] 0 0 n in
      let one : one_if_passes (λ (c : Work). is_in_set n c.join) (Some g.work) ≡ 1 = ap (λ b. cond b 1 0) in_set in
      omega (arith, law, one)

  module _ (h : WorkRecord) (stays : still_work (bare_work h) ≡ still_work (bare_work g)) where
    -- and where it goes from one set to another they count that
    module _ (from to : TableId SetKey) (from_is : set_of (seen a) from ≡ set_named (joined_set g.work.join) (seen a).core) (to_is : set_of (seen a) to ≡ set_named (joined_set h.work.join) (seen a).core) (links : List (Spot OrderKey)) where
      abbrev pub joined_now : Table (Single WaitSet)
      joined_now = sets_now a sound (joined_set g.work.join) (joined_set h.work.join) from to from_is to_is

      pub joined_alike : Alike uncounted joined_now a.sets
      joined_alike = sets_alike a sound (joined_set g.work.join) (joined_set h.work.join) from to from_is to_is

      pub kept_joined : EachEntry (IsSetKept (core_of (after h stays joined_now joined_alike links a.polled a.kept.live a.kept.moving))) joined_now
      kept_joined r q at =
          let one = members_kept a sound (joined_set g.work.join) (joined_set h.work.join) from to from_is to_is (λ n in_set. some_member n (in_is n g.work.join ∙ in_set)) (λ n. members_of n (core_of (after h stays joined_now joined_alike links a.polled a.kept.live a.kept.moving)))
          (λ n. ap (λ b. members_of n (core_of (after h stays joined_now joined_alike links a.polled a.kept.live a.kept.moving)) + cond b 1 0) (sym (in_is n g.work.join)) ∙ (members_change h stays joined_now joined_alike links a.polled a.kept.live a.kept.moving n ∙ ap (λ b. members_of n (core_of bared) + cond b 1 0) (in_is n h.work.join)))
          r q at in
          record { members = one.0; entries = one.1 }
