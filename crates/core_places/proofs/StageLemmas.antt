-- A host work of another stage: what is counted, and where it is filed.
use Rattle.core_records.proofs.Core.{ap, arith, Bool, cond, count_by-le-length, filings_at, HostTaskKey, IfSome, is_live, is_moving, IsSome, IsSoundCore, item_at, item_of, length, link_for, link_of, list_of, live_chain, None, Ok, one_if_passes, Option, option_and_then, passing, ready_in, ready_work, ready_work_chain, records, Refiles, refl, seen, size, Some, Stage, subst, TableId, true, Work, work_key, ℕ, ◌+◌, ◌<◌, ◌^◌, ◌≡◌, ◌≤◌}
use Rattle.core_records.specs.declared.{parts.CoreParts.CoreParts, single.Single.Single, work_records.WorkRecord.WorkRecord}
use Rattle.core_records.proofs.KeptLemmas.{live_is}
use Rattle.core_records.proofs.KindLemmas.{passing_written}
use Rattle.core_places.proofs.FitLemmas.{records_fit}
use Rattle.core_places.proofs.HearLemmas.{bare_entry, bare_placed, bare_stands, bared, is_whole}
use Rattle.core_places.specs.Moved.{live_key}
use Rattle.core_records.specs.RecordPlaces.{member_order_key}

-- a number as the code recounts it
pub recounted_is : (kept now : ℕ) (was is b c : Bool) → b ≡ was → c ≡ is → now + cond b 1 0 ≡ kept + cond c 1 0 → now + cond was 1 0 ≡ kept + cond is 1 0
recounted_is kept now was is b c first second law = subst (λ (x : Bool). now + cond x 1 0 ≡ kept + cond is 1 0) first (subst (λ (x : Bool). now + cond b 1 0 ≡ kept + cond x 1 0) second law)

module _ (a : CoreParts) (sound : IsSoundCore a) where
  pub live_few : a.kept.live + 1 < 2 ^ 64
  unfolding IsSoundCore seen size
  live_few =
      let some = count_by-le-length (λ (e : ℕ × Work). is_live e.1) (seen a).core.works.list in
      let all : length (seen a).core.works.list ≤ length a.works.places = records_fit work_key a.works.places in
      let places = sound.tables.works.table.places_fit in
      let is = live_is a sound in
      omega (arith, some, all, places, is)

  module _ (id : TableId HostTaskKey) (g : WorkRecord) (is : Ok g ≡ item_at item_of a.works id.rep id.serial) where
    -- a work that passes is counted
    counted_some : (test : Work → Bool) (kept : ℕ) → kept ≡ passing test (records work_key a.works.places) → (h : WorkRecord) → h.number ≡ g.number → test g.work ≡ true → 1 ≤ kept + one_if_passes test (Some h.work)
    unfolding IsSoundCore
    counted_some test kept counts h same some =
        let law = passing_written (λ (g : WorkRecord). g.number) (λ (g : WorkRecord). g.work) a.works a.made.works sound.tables.works id.rep id.serial g is h same test in
        let one : one_if_passes test (Some g.work) ≡ 1 = ap (λ b. cond b 1 0) some in
        omega (arith, law, one, counts)

    pub live_some : (h : WorkRecord) → h.number ≡ g.number → is_live g.work ≡ true → 1 ≤ a.kept.live + one_if_passes is_live (Some h.work)
    unfolding seen
    live_some = counted_some is_live a.kept.live (live_is a sound)

    pub moving_some : (h : WorkRecord) → h.number ≡ g.number → is_moving g.work ≡ true → 1 ≤ a.kept.moving + one_if_passes is_moving (Some h.work)
    unfolding IsSoundCore
    moving_some = counted_some is_moving a.kept.moving sound.moving

    pub stage_live : (x : Stage) (chain : Option ℕ) → option_and_then (live_chain (bared a sound id g is)) (live_key x) ≡ chain → IfSome chain (λ c. IsSome (list_of a.polled c))
    stage_live x chain at = by (live_key x) chain at
      where
        by : (w : Option (Unit {0})) (o : Option ℕ) → option_and_then (live_chain (bared a sound id g is)) w ≡ o → IfSome o (λ c. IsSome (list_of a.polled c))
        by w None at = tt
        by None (Some c) at = absurd (cc)
        by (Some k) (Some c) at = (is_whole a sound id g is).chained.polled.live k c at

    -- a work that keeps its event and its set stays filed as a ready member
    pub stays_ready : Refiles a.ready_works a.ready_works g.ready.index (link_for (ready_work_chain (bared a sound id g is)) (record { node = g.ready.index; key = ready_in g.work.event g.work.join; value = member_order_key g.entry id.rep }))
    stays_ready = record {
      here = subst (λ (e : Single WorkRecord). link_of a.ready_works e.item.ready.index ≡ link_for (ready_work_chain (bared a sound id g is)) (record { node = e.item.ready.index; key = ready_in e.item.work.event e.item.work.join; value = member_order_key e.item.entry id.rep })) (bare_entry a sound id g is)
          ((is_whole a sound id g is).chained.ready_works.has_link id.rep _ (filings_at ready_work (bared a sound id g is).works id.rep (Some (bare_placed a sound id g is)) (bare_stands a sound id g is)));
      others = λ n other. refl;
      made = λ n made. made;
      live = λ c live. live;
    }
