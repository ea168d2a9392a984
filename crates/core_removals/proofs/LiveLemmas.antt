-- The chain of the live works is made: no work is there yet.
use Rattle.core_records.proofs.SoundLemmas.{sound_of_whole}
use Rattle.core_records.proofs.Core.{[], ap, bare, ChainOf, false, Filing, filings, HasHome, inl, is_some, IsAscending, IsCallNamed, IsSome, IsSoundCore, IsWhole, IsWorkNamed, list_of, list_or_nil, live_chain, live_order, live_work, None, Option, CoreImage, parts_of, place_at, Placed, refl, Renames, said, Some, spot_list, subst, sym, table_use, Unmade, ℕ, ◌∙◌, ◌≡◌}
use Rattle.core_records.specs.declared.{call_records.GuestTask.GuestTask, parts.CoreParts.CoreParts, single.Single.Single, thread_records.GuestThread.GuestThread, work_records.WorkRecord.WorkRecord, work_records.LiveWork.LiveWork}
use Rattle.core_makes.proofs.LooseLemmas.{IsIndex-opened}

pub none_there : {X : Type 0} (o : Option X) → is_some o ≡ false → o ≡ None
none_there None is = refl
none_there (Some x) is = absurd (cc)

module _ (p : CoreImage) (whole : IsWhole p) (none : p.live ≡ None) (c : ℕ) (empty : list_of p.polled c ≡ Some []) where
  abbrev pub opened : CoreImage
  opened = record p { live = Some c }

  no_chain : {X : Type 0} (d : ℕ) → p.live ≡ Some d → X
  no_chain d is = absurd (let two = sym none ∙ is in cc)

  no_work : (r : ℕ) (f : Filing (Unit {0}) LiveWork) → filings live_work p.works r ≡ Some f → f.key ≡ Some tt → ⊥
  unfolding filings
  no_work r f is key = by (place_at p.works r) refl is
    where
      none_some : IsSome p.live → ⊥
      none_some some = absurd (let two : IsSome {T = ℕ} None = subst IsSome none some in cc)

      by : (o : Option (Placed (Single WorkRecord))) → place_at p.works r ≡ o → said live_work r o ≡ Some f → ⊥
      by None at is = absurd (cc)
      by (Some q) at is = none_some (whole.counted.works r q at).1

  home_same : (g : GuestThread) → HasHome p g → HasHome opened g
  home_same g h = record { call = h.call; there = h.there; instance = h.instance; barred = h.barred; waits = h.waits; within = h.within; place = h.place; op_progress = h.op_progress }

  call_same : (g : GuestTask) → IsCallNamed p g → IsCallNamed opened g
  call_same g h = record { caller = h.caller; first = h.first; join = h.join; group = h.group; positive = h.positive; waits = h.waits }

  work_same : (w : WorkRecord) → IsWorkNamed p w → IsWorkNamed opened w
  work_same w h = record { caller = h.caller; join = h.join; group = h.group }

  pub opened_whole : IsWhole opened
  unfolding table_use
  opened_whole = record {
    named = record {
      threads = λ rep q at. home_same q.entry.item (whole.named.threads rep q at);
      calls = λ rep q at. call_same q.entry.item (whole.named.calls rep q at);
      works = λ rep q at. work_same q.entry.item (whole.named.works rep q at);
      switch = whole.named.switch;
    };
    chained = record {
      places = whole.chained.places;
      waits = whole.chained.waits;
      ready_calls = whole.chained.ready_calls;
      ready_works = whole.chained.ready_works;
      polled = IsIndex-opened (live_chain p) (live_chain opened) p.polled tt (λ j. inl refl) (λ j other. absurd (other refl)) c refl (record { empty = empty; apart = λ k at. no_chain c at }) (filings live_work p.works) whole.chained.polled no_work;
      rising = subst (IsAscending live_order) (sym (ap list_or_nil empty)) tt;
      marks = whole.chained.marks;
      instance_queues = whole.chained.instance_queues;
      low = whole.chained.low;
      behind = whole.chained.behind;
    };
    nodes = record { marks = whole.nodes.marks; instance_queues = whole.nodes.instance_queues; callers = whole.nodes.callers; works = whole.nodes.works; apart = whole.nodes.apart };
    counted = record {
      kept = record { used = whole.counted.kept.used; groups = whole.counted.kept.groups; live = whole.counted.kept.live };
      calls = whole.counted.calls;
      sets = λ rep q at. let one = whole.counted.sets rep q at in record { members = one.members; entries = one.entries };
      groups = whole.counted.groups;
      few = whole.counted.few;
      finished = whole.counted.finished;
      high = whole.counted.high;
      low = whole.counted.low;
      works = λ rep q at. let chains = whole.counted.works rep q at in (chains.0, refl);
      results = whole.counted.results;
    };
  }

module _ (a b : CoreParts) (sound : IsSoundCore b) (only : b ≡ record a { polled = b.polled }) (none : is_some a.live ≡ false) (c : ℕ) (names : Renames a.polled b.polled c Unmade (ChainOf [])) where
  none_live : b.live ≡ None
  none_live = ap (λ (x : CoreParts). x.live) only ∙ none_there a.live none

  pub live_opened_sound : IsSoundCore (record b { live = Some c })
  unfolding IsSoundCore
  live_opened_sound = sound_of_whole b (record b { live = Some c }) refl sound (opened_whole (bare (parts_of b)) sound.whole none_live c (ap spot_list names.names))
