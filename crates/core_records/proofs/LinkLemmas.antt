-- A node or a chain is made in an index: nothing else hangs on it.
use Rattle.core_records.proofs.SoundLemmas.{sound_of_whole}
use Rattle.core_records.proofs.Core.{ap, AreChained, bare, filings, HasHome, IsAscending, IsCallNamed, IsIndex, IsIndex-made, IsSome, IsSoundCore, IsWhole, IsWorkNamed, List, list_of, list_or_nil, live_chain, live_order, live_work, None, Option, CoreImage, parts_of, place_chain, place_filing, ready_call, ready_call_chain, ready_work, ready_work_chain, refl, Renames, Rises, Some, Spot, spot_link, spot_list, subst, sym, table_use, Unmade, ℕ, ◌∙◌, ◌≡◌, wait_chain, wait_filing}
use Rattle.core_records.specs.declared.{call_records.GuestTask.GuestTask, parts.CoreParts.CoreParts, thread_records.GuestThread.GuestThread, work_records.WorkRecord.WorkRecord, work_records.LiveWork.LiveWork}
use Rattle.table_lists.specs.declared.ordered_lists.OrderKey.{OrderKey}

Rises-made : (links new : List (Spot LiveWork)) (n : ℕ) (is : Spot LiveWork) → Renames links new n Unmade is → (o : Option ℕ) → ((c : ℕ) → o ≡ Some c → IsSome (list_of links c)) → Rises links o → Rises new o
Rises-made links new n is names None live rises = tt
Rises-made links new n is names (Some c) live rises = subst (IsAscending live_order) (sym (ap (λ s. list_or_nil (spot_list s)) (names.others c not_new))) rises
  where
    not_new : c ≡ n → ⊥
    not_new same = absurd (let none : list_of links c ≡ None = ap (list_of links) same ∙ ap spot_list names.named in let two = subst IsSome none (live c refl) in cc)

module _ (p : CoreImage) (places waits ready_calls ready_works : List (Spot OrderKey)) (polled : List (Spot LiveWork)) where
  abbrev pub indexed : CoreImage
  indexed = record p { places = places; waits = waits; ready_calls = ready_calls; ready_works = ready_works; polled = polled }

  home_indexed : (g : GuestThread) → HasHome p g → HasHome indexed g
  home_indexed g home = record { call = home.call; there = home.there; instance = home.instance; barred = home.barred; waits = home.waits; within = home.within; place = home.place; op_progress = home.op_progress }

  call_indexed : (g : GuestTask) → IsCallNamed p g → IsCallNamed indexed g
  call_indexed g named = record { caller = named.caller; first = named.first; join = named.join; group = named.group; positive = named.positive; waits = named.waits }

  work_indexed : (w : WorkRecord) → IsWorkNamed p w → IsWorkNamed indexed w
  work_indexed w named = record { caller = named.caller; join = named.join; group = named.group }

  -- the parts with other links of the indexes
  pub indexed_whole : IsIndex (place_chain p) places (filings (place_filing p.version) p.threads) → IsIndex (wait_chain p) waits (filings wait_filing p.threads) → IsIndex (ready_call_chain p) ready_calls (filings ready_call p.calls) → IsIndex (ready_work_chain p) ready_works (filings ready_work p.works) → IsIndex (live_chain p) polled (filings live_work p.works) → Rises polled p.live → IsWhole p → IsWhole indexed
  unfolding table_use
  indexed_whole in_places in_waits in_calls in_works in_polled rises whole = record {
    named = record {
      threads = λ rep q at. home_indexed q.entry.item (whole.named.threads rep q at);
      calls = λ rep q at. call_indexed q.entry.item (whole.named.calls rep q at);
      works = λ rep q at. work_indexed q.entry.item (whole.named.works rep q at);
      switch = whole.named.switch;
    };
    chained = record {
      places = in_places;
      waits = in_waits;
      ready_calls = in_calls;
      ready_works = in_works;
      polled = in_polled;
      rising = rises;
      marks = whole.chained.marks;
      instance_queues = whole.chained.instance_queues;
      low = whole.chained.low;
      behind = whole.chained.behind;
    };
    nodes = record { marks = whole.nodes.marks; instance_queues = whole.nodes.instance_queues; callers = whole.nodes.callers; works = whole.nodes.works; apart = whole.nodes.apart };
    counted = record {
      kept = record { used = whole.counted.kept.used; groups = whole.counted.kept.groups; live = whole.counted.kept.live };
      calls = whole.counted.calls;
      sets = λ rep q at. let one = whole.counted.sets rep q at in record { members = one.members; entries = one.entries };
      groups = whole.counted.groups;
      few = whole.counted.few;
      finished = whole.counted.finished;
      high = whole.counted.high;
      low = whole.counted.low;
      works = whole.counted.works;
      results = whole.counted.results;
    };
  }

module _ (a : CoreParts) (sound : IsSoundCore a) where
  abbrev bared : CoreImage
  bared = bare (parts_of a)

  module _ (places waits ready_calls ready_works : List (Spot OrderKey)) (polled : List (Spot LiveWork)) where
    indexed_sound : IsIndex (place_chain bared) places (filings (place_filing bared.version) bared.threads) → IsIndex (wait_chain bared) waits (filings wait_filing bared.threads) → IsIndex (ready_call_chain bared) ready_calls (filings ready_call bared.calls) → IsIndex (ready_work_chain bared) ready_works (filings ready_work bared.works) → IsIndex (live_chain bared) polled (filings live_work bared.works) → Rises polled a.live → IsSoundCore (record a { places = places; waits = waits; ready_calls = ready_calls; ready_works = ready_works; polled = polled })
    unfolding IsSoundCore
    indexed_sound in_places in_waits in_calls in_works in_polled rises = sound_of_whole a (record a { places = places; waits = waits; ready_calls = ready_calls; ready_works = ready_works; polled = polled }) refl sound (indexed_whole bared places waits ready_calls ready_works polled in_places in_waits in_calls in_works in_polled rises sound.whole)

  was : AreChained bared
  unfolding IsSoundCore
  was = sound.whole.chained

  -- a node or a chain more: among the places, the ready members, and the live works
  module _ (new : List (Spot OrderKey)) (n : ℕ) (is : Spot OrderKey) where
    pub place_made_sound : Renames a.places new n Unmade is → spot_link is ≡ None → IsSoundCore (record a { places = new })
    place_made_sound names unlinked = indexed_sound new a.waits a.ready_calls a.ready_works a.polled (IsIndex-made (place_chain bared) a.places (filings (place_filing bared.version) bared.threads) was.places new n is names unlinked) was.waits was.ready_calls was.ready_works was.polled was.rising

    pub wait_made_sound : Renames a.waits new n Unmade is → spot_link is ≡ None → IsSoundCore (record a { waits = new })
    wait_made_sound names unlinked = indexed_sound a.places new a.ready_calls a.ready_works a.polled was.places (IsIndex-made (wait_chain bared) a.waits (filings wait_filing bared.threads) was.waits new n is names unlinked) was.ready_calls was.ready_works was.polled was.rising

    pub ready_call_made_sound : Renames a.ready_calls new n Unmade is → spot_link is ≡ None → IsSoundCore (record a { ready_calls = new })
    ready_call_made_sound names unlinked = indexed_sound a.places a.waits new a.ready_works a.polled was.places was.waits (IsIndex-made (ready_call_chain bared) a.ready_calls (filings ready_call bared.calls) was.ready_calls new n is names unlinked) was.ready_works was.polled was.rising

    pub ready_work_made_sound : Renames a.ready_works new n Unmade is → spot_link is ≡ None → IsSoundCore (record a { ready_works = new })
    ready_work_made_sound names unlinked = indexed_sound a.places a.waits a.ready_calls new a.polled was.places was.waits was.ready_calls (IsIndex-made (ready_work_chain bared) a.ready_works (filings ready_work bared.works) was.ready_works new n is names unlinked) was.polled was.rising

  pub live_made_sound : (new : List (Spot LiveWork)) (n : ℕ) (is : Spot LiveWork) → Renames a.polled new n Unmade is → spot_link is ≡ None → IsSoundCore (record a { polled = new })
  live_made_sound new n is names unlinked = indexed_sound a.places a.waits a.ready_calls a.ready_works new was.places was.waits was.ready_calls was.ready_works (IsIndex-made (live_chain bared) a.polled (filings live_work bared.works) was.polled new n is names unlinked) (Rises-made a.polled new n is names a.live (was.polled.live tt) was.rising)
