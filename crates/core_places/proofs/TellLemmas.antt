-- A call with another event or set, as the primitives write it.
use Rattle.core_records.specs.Keys.{call_seat_key}
use Rattle.core_records.proofs.Core.{[], ap, AreHandlesNamed, arith, AtPlace, bare, bare_call, Call, call_key, call_of, CallOf, change, cond, core_of, EachEntry, entry_of, filings, filings_at, GuestTaskKey, HandleKind, IfSome, is_in_set, is_made, IsHeldNamed, IsIndex, IsIndex-with_entry, IsSetKept, IsSome, IsSoundCore, IsWhole, item_at, item_of, Join, join_target, kinds, link_for, List, list_of, loose_call, mapped, mapped-with_entry, mapped-with_entry_same, members_of, None, Ok, on_call, on_core, on_item, one_if_passes, Option, option_and_then, CoreImage, parts_of, passing, place_at, Placed, ready_call, ready_call_chain, ready_in, Records, records, Refiles, refl, Rep, seen, Set, set_key, set_of, SetKey, SetOf, Some, SoundTable, Spot, StateView, Status, subst, sym, Table, TableId, Tag, tags_in, ThreadOf, true, uninterested, WaitableKind, with_entry, WorkOf, ℕ, ◌+◌, ◌∙◌, ◌≡◌, ◌≤◌}
use Rattle.core_records.specs.declared.{call_records.GuestTask.GuestTask, instance_records.InstanceRecord.InstanceRecord, parts.CoreParts.CoreParts, set_records.WaitSet.WaitSet, single.Single.Single}
use Rattle.core_records.proofs.HomeLemmas.{call_names, place_bare, place_in_bare}
use Rattle.core_records.proofs.KeptLemmas.{passing_seconds, records_seconds}
use Rattle.core_records.proofs.TableLemmas.{records_unseen}
use Rattle.core_records.proofs.KindLemmas.{item_stands, passing_same, passing_written, records_changed, table_written, tags_written}
use Rattle.core_records.proofs.ReadLemmas.{call_shown}
use Rattle.core_records.proofs.WriteLemmas.{each_written}
use Rattle.core_places.proofs.AlikeLemmas.{tags_alike}
use Rattle.core_places.proofs.CallMovedLemmas.{at_told, told, told_whole}
use Rattle.core_places.proofs.PutLemmas.{sets_same}
use Rattle.core_places.proofs.JoinLemmas.{in_is, members_kept, sets_alike, sets_now}
use Rattle.core_places.specs.Moved.{Alike, joined_set, set_named, still_call, uncounted}
use Rattle.core_queues.proofs.BareLemmas.{place_mapped}
use Rattle.table_lists.specs.declared.ordered_lists.OrderKey.{OrderKey}
use Rattle.core_records.specs.RecordPlaces.{member_order_key}

module _ (a : CoreParts) (sound : IsSoundCore a) (id : TableId GuestTaskKey) (g : GuestTask) (is : Ok g ≡ item_at item_of a.calls id.rep id.serial) where
  abbrev pub bared : CoreImage
  bared = bare (parts_of a)

  pub is_whole : IsWhole bared
  unfolding IsSoundCore
  is_whole = sound.whole

  stands : (p : Placed (Single GuestTask)) × ((place_at a.calls id.rep ≡ Some p) × ((p.serial ≡ id.serial) × (p.entry ≡ entry_of g)))
  unfolding IsSoundCore
  stands = item_stands (λ (g : GuestTask). g.number) (λ (g : GuestTask). g.call) a.calls a.made.threads sound.tables.calls id.rep id.serial g is

  abbrev bare_placed : Placed (Single GuestTask)
  bare_placed = record { serial = stands.0.serial; parent = stands.0.parent; entry = on_item bare_call stands.0.entry }

  bare_stands : place_at bared.calls id.rep ≡ Some bare_placed
  bare_stands = place_mapped (on_item bare_call) a.calls id.rep stands.0 stands.1.0

  bare_entry : bare_placed.entry ≡ entry_of (bare_call g)
  bare_entry = ap (on_item bare_call) stands.1.1.1

  pub join_at : AtPlace (parts_of a) g.joined (join_target g.call.join)
  join_at = place_bare a _ _ (call_names a sound id g is).join

  pub ready_made : is_made a.ready_calls g.ready.index ≡ true
  ready_made = subst (λ (e : Single GuestTask). is_made a.ready_calls e.item.ready.index ≡ true) bare_entry (is_whole.chained.ready_calls.made id.rep _ (filings_at ready_call bared.calls id.rep (Some bare_placed) bare_stands))

  pub ready_live : (e : Option Status) (j : Join) (chain : Option ℕ) → option_and_then (ready_call_chain bared) (ready_in e j) ≡ chain → IfSome chain (λ c. IsSome (list_of a.ready_calls c))
  ready_live e j chain is = by (ready_in e j) chain is
    where
      by : (w : Option ℕ) (o : Option ℕ) → option_and_then (ready_call_chain bared) w ≡ o → IfSome o (λ c. IsSome (list_of a.ready_calls c))
      by w None is = tt
      by None (Some c) is = absurd (cc)
      by (Some k) (Some c) is = is_whole.chained.ready_calls.live k c is

  -- a call that passes a test counts
  module _ (n : ℕ) where
    abbrev calls_in : Table (Single GuestTask) → ℕ
    calls_in t = passing (λ (c : Call). is_in_set n c.join) (records call_key t.places)

    bare_in : (t : Table (Single GuestTask)) → calls_in (mapped (on_item bare_call) t) ≡ calls_in t
    bare_in t = ap (passing (λ (c : Call). is_in_set n c.join)) (records_seconds (λ c. uninterested (loose_call c)) call_key call_key (on_item bare_call) (λ e. refl) t) ∙ passing_seconds (λ c. uninterested (loose_call c)) (λ (c : Call). is_in_set n c.join) (records call_key t.places)

  module _ (h : GuestTask) (stays : still_call (bare_call h) ≡ still_call (bare_call g)) where
    same_number : h.number ≡ g.number
    same_number = ap (λ (x : GuestTask). x.number) stays

    abbrev pub calls_now : Table (Single GuestTask)
    calls_now = with_entry id.rep (entry_of h) a.calls

    abbrev pub bare_now : Table (Single GuestTask)
    bare_now = mapped (on_item bare_call) calls_now

    bare_put : bare_now ≡ with_entry id.rep (entry_of (bare_call h)) bared.calls
    bare_put = mapped-with_entry (on_item bare_call) a.calls id.rep (entry_of h)

    pub calls_alike : Alike still_call bare_now bared.calls
    calls_alike = ap (mapped (on_item still_call)) bare_put ∙ mapped-with_entry_same (on_item still_call) bared.calls id.rep (entry_of (bare_call h)) bare_placed bare_stands (ap entry_of stays ∙ sym (ap (on_item still_call) bare_entry))

    module _ (sets : Table (Single WaitSet)) (as_sets : Alike uncounted sets a.sets) (links : List (Spot OrderKey)) where
      abbrev pub told_after : CoreParts
      told_after = record a { calls = calls_now; sets = sets; ready_calls = links }

      abbrev pub after : CoreImage
      after = told bared is_whole bare_now calls_alike sets as_sets links

      -- a set counts one more that is in it now, and one less that was
      pub members_change : (n : ℕ) → members_of n (core_of after) + cond (is_in_set n g.call.join) 1 0 ≡ members_of n (core_of bared) + cond (is_in_set n h.call.join) 1 0
      unfolding IsSoundCore
      members_change n =
          let law = passing_written (λ (g : GuestTask). g.number) (λ (g : GuestTask). g.call) a.calls a.made.threads sound.tables.calls id.rep id.serial g is h same_number (λ (c : Call). is_in_set n c.join) in
          let now = bare_in n calls_now in
          let then = bare_in n a.calls in
          omega (arith, law, now, then)

      pub members_same : h.call.join ≡ g.call.join → (n : ℕ) → members_of n (core_of bared) ≡ members_of n (core_of after)
      members_same same n = let law = members_change n in let one : one_if_passes (λ (c : Call). is_in_set n c.join) (Some g.call) ≡ one_if_passes (λ (c : Call). is_in_set n c.join) (Some h.call) = ap (λ j. cond (is_in_set n j) 1 0) (sym same) in omega (arith, law, one)

      module _ (at : AtPlace (parts_of a) h.joined (join_target h.call.join)) (sets_sound : SoundTable set_key sets a.made.sets) (kept : EachEntry (IsSetKept (core_of after)) sets) (interest : h.call.interesting ≡ g.call.interesting) (re : Refiles a.ready_calls links g.ready.index (link_for (ready_call_chain bared) (record { node = g.ready.index; key = ready_in h.call.event h.call.join; value = member_order_key h.entry id.rep }))) where
        joins_now : EachEntry (λ (x : GuestTask). AtPlace after x.joined (join_target x.call.join)) bare_now
        joins_now = subst (EachEntry (λ (x : GuestTask). AtPlace after x.joined (join_target x.call.join))) (sym bare_put)
            (each_written bared.calls id.rep bare_placed bare_stands (λ (x : GuestTask). AtPlace after x.joined (join_target x.call.join)) (bare_call h)
            (at_told bared is_whole bare_now calls_alike sets as_sets links h.joined _ (place_in_bare a h.joined _ at))
            (λ r q there. at_told bared is_whole bare_now calls_alike sets as_sets links q.entry.item.joined _ (is_whole.named.calls r q there).join))

        index_now : IsIndex (ready_call_chain bared) links (filings ready_call bare_now)
        index_now = subst (λ (t : Table (Single GuestTask)). IsIndex (ready_call_chain bared) links (filings ready_call t)) (sym bare_put)
            (IsIndex-with_entry ready_call (ready_call_chain bared) bared.calls a.ready_calls is_whole.chained.ready_calls id.rep bare_placed bare_stands links (entry_of (bare_call h))
            (record { node = bare_placed.entry.item.ready.index; key = ready_in bare_placed.entry.item.call.event bare_placed.entry.item.call.join; value = member_order_key bare_placed.entry.item.entry id.rep })
            (record { node = h.ready.index; key = ready_in h.call.event h.call.join; value = member_order_key h.entry id.rep })
            refl refl (ap (λ (x : GuestTask). x.ready.index) stays ∙ sym (ap (λ (e : Single GuestTask). e.item.ready.index) bare_entry))
            (subst (λ n. Refiles a.ready_calls links n (link_for (ready_call_chain bared) (record { node = h.ready.index; key = ready_in h.call.event h.call.join; value = member_order_key h.entry id.rep }))) (sym (ap (λ (e : Single GuestTask). e.item.ready.index) bare_entry)) re))

        held_now : (kind : HandleKind) (r : Rep) → IsHeldNamed (kinds bared) kind r → IsHeldNamed (kinds after) kind r
        held_now (HandleKind.Waitable WaitableKind.GuestSubtask) r at = at_told bared is_whole bare_now calls_alike sets as_sets links r.id (CallOf r.serial) at
        held_now (HandleKind.Waitable WaitableKind.HostSubtask) r at = at_told bared is_whole bare_now calls_alike sets as_sets links r.id (WorkOf r.serial) at
        held_now (HandleKind.Waitable WaitableKind.Stream) r at = at
        held_now (HandleKind.Waitable WaitableKind.Future) r at = at
        held_now HandleKind.Set r at = at_told bared is_whole bare_now calls_alike sets as_sets links r.id (SetOf r.serial) at

        handles_now : (r : InstanceRecord) → AreHandlesNamed (kinds bared) r → AreHandlesNamed (kinds after) r
        handles_now r named = record {
          small = named.small;
          small_threads = named.small_threads;
          handles = λ n x at. held_now x.kind x.rep (named.handles n x at);
          thread_handles = λ n x at. at_told bared is_whole bare_now calls_alike sets as_sets links x.id (ThreadOf x.serial) (named.thread_handles n x at);
        }

        pub told_sound : IsSoundCore told_after
        unfolding IsSoundCore
        told_sound = record {
          tables = record {
            threads = sound.tables.threads;
            calls = table_written (λ (g : GuestTask). g.number) (λ (g : GuestTask). g.call) a.calls a.made.threads sound.tables.calls id.rep id.serial g is h same_number;
            works = sound.tables.works;
            sets = sets_sound;
            groups = sound.tables.groups;
          };
          whole = told_whole bared is_whole bare_now calls_alike sets as_sets links joins_now kept index_now;
          interesting = sound.interesting ∙ sym (passing_same (λ (g : GuestTask). g.number) (λ (g : GuestTask). g.call) a.calls a.made.threads sound.tables.calls id.rep id.serial g is h same_number (λ c. c.interesting) interest);
          moving = sound.moving;
          handles = λ i r at. handles_now r (sound.handles i r at);
          owned = sound.owned;
          live = sound.live;
          ended = sound.ended;
        }

      call_seats_same : records call_seat_key calls_now.places ≡ records call_seat_key a.calls.places
      call_seats_same = records_unseen call_seat_key a.calls id.rep stands.0 stands.1.0 (entry_of h) (ap (λ (x : GuestTask). call_seat_key (entry_of x)) stays ∙ sym (ap call_seat_key stands.1.1.1))

      calls_seen : Records Call → Records Set → List (Option Tag) → List (Option Tag) → StateView
      calls_seen m x l t = record (seen a) { core = record (seen a).core { calls = m; sets = x }; tags = record (seen a).tags { calls = l; sets = t } }

      pub told_seen : (f : Call → Call) → f g.call ≡ h.call → seen told_after ≡ on_core (on_call (call_of (seen a) id) f) (seen a)
      unfolding seen IsSoundCore on_call calls_seen
      told_seen f is_f =
          ap (λ (p : Records ℕ). record (seen told_after) { tags = record (seen told_after).tags { seats = record (seen a).tags.seats { calls = p } } }) call_seats_same
          ∙ (ap (λ (m : Records Call). calls_seen m (records set_key sets.places) (tags_in call_key calls_now) (tags_in set_key sets))
          (records_changed (λ (g : GuestTask). g.number) (λ (g : GuestTask). g.call) a.calls a.made.threads sound.tables.calls id.rep id.serial g is h same_number f is_f ∙ ap (λ n. change n f (records call_key a.calls.places)) (sym (call_shown a id)))
          ∙ (ap (λ x. calls_seen (change (call_of (seen a) id) f (records call_key a.calls.places)) x (tags_in call_key calls_now) (tags_in set_key sets)) (sets_same sets a.sets as_sets)
          ∙ (ap (λ (l : List (Option Tag)). calls_seen (change (call_of (seen a) id) f (records call_key a.calls.places)) (records set_key a.sets.places) l (tags_in set_key sets))
          (tags_written (λ (g : GuestTask). g.number) (λ (g : GuestTask). g.call) a.calls a.made.threads sound.tables.calls id.rep id.serial g is h same_number)
          ∙ ap (λ t. calls_seen (change (call_of (seen a) id) f (records call_key a.calls.places)) (records set_key a.sets.places) (tags_in call_key a.calls) t)
          (tags_alike uncounted set_key (λ e. refl) sets a.sets as_sets))))

    -- the sets as they were count what they counted, where the call stays in its set
    pub kept_same : h.call.join ≡ g.call.join → (links : List (Spot OrderKey)) → EachEntry (IsSetKept (core_of (after a.sets refl links))) a.sets
    kept_same same links r q at = let was = is_whole.counted.sets r q at in record { members = was.members ∙ members_same a.sets refl links same q.entry.item.number; entries = was.entries }

    pub same_sets : SoundTable set_key a.sets a.made.sets
    unfolding IsSoundCore
    same_sets = sound.tables.sets

  -- a set that the call is in has a member
  pub some_member : (n : ℕ) → is_in_set n g.call.join ≡ true → 1 ≤ members_of n (core_of bared)
  some_member n in_set =
      let law = members_change (record g { call = record g.call { join = Join.Nowhere } }) refl a.sets refl [] n in
      let one : one_if_passes (λ (c : Call). is_in_set n c.join) (Some g.call) ≡ 1 = ap (λ b. cond b 1 0) in_set in
      omega (arith, law, one)

  module _ (h : GuestTask) (stays : still_call (bare_call h) ≡ still_call (bare_call g)) where
    -- and where it goes from one set to another they count that
    module _ (from to : TableId SetKey) (from_is : set_of (seen a) from ≡ set_named (joined_set g.call.join) (seen a).core) (to_is : set_of (seen a) to ≡ set_named (joined_set h.call.join) (seen a).core) (links : List (Spot OrderKey)) where
      abbrev pub joined_now : Table (Single WaitSet)
      joined_now = sets_now a sound (joined_set g.call.join) (joined_set h.call.join) from to from_is to_is

      pub joined_alike : Alike uncounted joined_now a.sets
      joined_alike = sets_alike a sound (joined_set g.call.join) (joined_set h.call.join) from to from_is to_is

      pub kept_joined : EachEntry (IsSetKept (core_of (after h stays joined_now joined_alike links))) joined_now
      kept_joined r q at =
          let one = members_kept a sound (joined_set g.call.join) (joined_set h.call.join) from to from_is to_is (λ n in_set. some_member n (in_is n g.call.join ∙ in_set)) (λ n. members_of n (core_of (after h stays joined_now joined_alike links)))
          (λ n. ap (λ b. members_of n (core_of (after h stays joined_now joined_alike links)) + cond b 1 0) (sym (in_is n g.call.join)) ∙ (members_change h stays joined_now joined_alike links n ∙ ap (λ b. members_of n (core_of bared) + cond b 1 0) (in_is n h.call.join)))
          r q at in
          record { members = one.0; entries = one.1 }
