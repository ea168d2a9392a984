-- A core without calls has no threads, so nothing of it hangs on the version by which it runs.
use Rattle.core_picks.specs.Rules.{with_version}
use Rattle.core_queues.proofs.BareLemmas.{mapped_place}
use Rattle.core_queues.proofs.SeatLemmas.{seat_read}
use Rattle.core_records.proofs.Core.{arith, bare, bare_call, call_key, CoreImage, filings, filings_at, IsIndex, IsIndex-same, IsSoundCore, IsWhole, IsWorkNamed, None, on_core, on_item, Option, parts_of, place_at, place_chain, place_filing, Placed, records, refl, seen, size, Some, sym, table_use, ℕ, ◌∙◌, ◌≡◌}
use Rattle.core_records.proofs.SoundLemmas.{sound_of_whole}
use Rattle.core_records.proofs.StandLemmas.{stands_here}
use Rattle.core_records.proofs.TableLemmas.{number_at_mapped}
use Rattle.core_records.specs.Sound.{loose_call, uninterested}
use Rattle.core_records.specs.declared.{call_records.GuestTask.GuestTask, parts.CoreParts.CoreParts, single.Single.Single, thread_records.GuestThread.GuestThread, work_records.WorkRecord.WorkRecord}
use Rattle.machine_data.proofs.SizeLemmas.{size-remove_present}
use Rattle.machine_data.specs.declared.scenario.Version.{Version}

module _ (a : CoreParts) (sound : IsSoundCore a) (none : size (seen a).core.calls ≡ 0) (v : Version) where
  abbrev bared : CoreImage
  bared = bare (parts_of a)

  abbrev after : CoreImage
  after = record bared { version = v }

  whole : IsWhole bared
  unfolding IsSoundCore
  whole = sound.whole

  no_call : (r : ℕ) (q : Placed (Single GuestTask)) → place_at a.calls r ≡ Some q → ⊥
  unfolding seen IsSoundCore
  no_call r q at =
      let one = seat_read (λ (g : GuestTask). g.number) (λ (g : GuestTask). g.call) (λ (g : GuestTask). g.call) a.calls a.made.threads sound.tables.calls r q at in
      let less = size-remove_present (records call_key a.calls.places) q.entry.item.number q.entry.item.call one in
      absurd (omega (arith, less, none))

  no_bare_call : (r : ℕ) (q : Placed (Single GuestTask)) → place_at bared.calls r ≡ Some q → ⊥
  no_bare_call r q at = let one = mapped_place (on_item bare_call) a.calls r q at in no_call r one.0 one.1.0

  -- a thread's call would be there
  no_thread : (r : ℕ) (q : Placed (Single GuestThread)) → place_at bared.threads r ≡ Some q → ⊥
  no_thread r q at =
      let home = whole.named.threads r q at in
      let has = sym (number_at_mapped call_key call_key (on_item bare_call) (λ c. uninterested (loose_call c)) (λ e. refl) a.calls q.entry.item.task) ∙ home.call in
      let one = stands_here (λ (g : GuestTask). g.number) (λ (g : GuestTask). g.call) a.calls q.entry.item.task q.entry.item.thread.call has home.there in
      no_call q.entry.item.task one.0 one.1.0

  places_same : (r : ℕ) → filings (place_filing v) bared.threads r ≡ filings (place_filing a.version) bared.threads r
  places_same r = by (place_at bared.threads r) refl
    where
      by : (o : Option (Placed (Single GuestThread))) → place_at bared.threads r ≡ o → filings (place_filing v) bared.threads r ≡ filings (place_filing a.version) bared.threads r
      by None at = filings_at (place_filing v) bared.threads r None at ∙ sym (filings_at (place_filing a.version) bared.threads r None at)
      by (Some q) at = absurd (no_thread r q at)

  work_named : (w : WorkRecord) → IsWorkNamed bared w → IsWorkNamed after w
  work_named w named = record { caller = named.caller; join = named.join; group = named.group }

  whole_after : IsWhole after
  unfolding table_use
  whole_after = record {
    named = record {
      threads = λ r q at. absurd (no_thread r q at);
      calls = λ r q at. absurd (no_bare_call r q at);
      works = λ r q at. work_named q.entry.item (whole.named.works r q at);
      switch = whole.named.switch;
    };
    chained = record {
      places = IsIndex-same (place_chain bared) a.places (filings (place_filing a.version) bared.threads) whole.chained.places (filings (place_filing v) bared.threads) places_same;
      waits = whole.chained.waits;
      ready_calls = whole.chained.ready_calls;
      ready_works = whole.chained.ready_works;
      polled = whole.chained.polled;
      rising = whole.chained.rising;
      marks = whole.chained.marks;
      instance_queues = whole.chained.instance_queues;
      low = whole.chained.low;
      behind = whole.chained.behind;
    };
    nodes = record { marks = whole.nodes.marks; instance_queues = whole.nodes.instance_queues; callers = whole.nodes.callers; works = whole.nodes.works; apart = whole.nodes.apart };
    counted = record {
      kept = record { used = whole.counted.kept.used; groups = whole.counted.kept.groups; live = whole.counted.kept.live };
      calls = whole.counted.calls;
      sets = λ r q at. let one = whole.counted.sets r q at in record { members = one.members; entries = one.entries };
      groups = whole.counted.groups;
      few = whole.counted.few;
      finished = whole.counted.finished;
      high = whole.counted.high;
      low = whole.counted.low;
      works = whole.counted.works;
      results = whole.counted.results;
    };
  }

  pub version_sound : IsSoundCore (record a { version = v })
  version_sound = sound_of_whole a (record a { version = v }) refl sound whole_after

  pub version_seen : seen (record a { version = v }) ≡ on_core (with_version v) (seen a)
  unfolding seen
  version_seen = refl
