-- The chain of a mark is made: no entry is at it yet.
use Rattle.core_records.proofs.SoundLemmas.{sound_of_whole}
use Rattle.core_records.proofs.Core.{[], ap, bare, chained, ChainOf, Each, false, filter, HasHome, High, image, inl, inr, is_of_instance, is_some, IsCallNamed, IsOfThread, IsRows, IsRows-opened, IsRows-same, IsKeyed, IsSome, IsSoundCore, IsWhole, IsWorkNamed, List, list_or_nil, Low, map, no_chain, None, Option, part, CoreImage, parts_of, refl, Renames, Row, row, row_chain, seen, instance_queue_chain, Some, spot_list, subst, sym, table_use, Unmade, ℕ, ◌∙◌, ◌≡◌, ◌⊎◌}
use Rattle.core_records.specs.declared.{call_records.GuestTask.GuestTask, parts.CoreParts.CoreParts, thread_records.GuestThread.GuestThread, thread_records.Queued.Queued, work_records.WorkRecord.WorkRecord}

pub row_is : (r s : Row) → (r ≡ s) ⊎ (r ≡ s → ⊥)
row_is High High = inl refl
row_is High Low = inr (λ same. absurd (cc))
row_is Low High = inr (λ same. absurd (cc))
row_is Low Low = inl refl

none_there : {X : Type 0} (o : Option X) → is_some o ≡ false → o ≡ None
none_there None is = refl
none_there (Some x) is = absurd (cc)

module _ (p : CoreImage) (whole : IsWhole p) (high low : Option ℕ) where
  abbrev marked : CoreImage
  marked = record p { high = high; low = low }

  home_same : (g : GuestThread) → HasHome p g → HasHome marked g
  home_same g h = record { call = h.call; there = h.there; instance = h.instance; barred = h.barred; waits = h.waits; within = h.within; place = h.place; op_progress = h.op_progress }

  call_same : (g : GuestTask) → IsCallNamed p g → IsCallNamed marked g
  call_same g h = record { caller = h.caller; first = h.first; join = h.join; group = h.group; positive = h.positive; waits = h.waits }

  work_same : (w : WorkRecord) → IsWorkNamed p w → IsWorkNamed marked w
  work_same w h = record { caller = h.caller; join = h.join; group = h.group }

  -- the marks have other chains, and the same entries
  module _ (same : (r : Row) → row marked r ≡ row p r) where
    pub marked_whole : (IsSome p.high → IsSome high) → (IsSome p.low → IsSome low) → IsRows (row_chain marked) (λ q. q.mark.index) (IsKeyed p) p.marks (row marked) → IsWhole marked
    unfolding table_use
    marked_whole keeps_high keeps_low rows = record {
      named = record {
        threads = λ rep q at. home_same q.entry.item (whole.named.threads rep q at);
        calls = λ rep q at. call_same q.entry.item (whole.named.calls rep q at);
        works = λ rep q at. work_same q.entry.item (whole.named.works rep q at);
        switch = whole.named.switch;
      };
      chained = record {
        places = whole.chained.places;
        waits = whole.chained.waits;
        ready_calls = whole.chained.ready_calls;
        ready_works = whole.chained.ready_works;
        polled = whole.chained.polled;
        rising = whole.chained.rising;
        marks = rows;
        instance_queues = IsRows-same (instance_queue_chain p) (λ q. q.instance_queue.index) (IsKeyed p) p.instance_queues (part is_of_instance (row p)) whole.chained.instance_queues (part is_of_instance (row marked)) (λ k c at. ap (filter (is_of_instance k.0)) (same k.1));
        low = subst (Each IsOfThread) (sym (same Low)) whole.chained.low;
        behind = whole.chained.behind;
      };
      nodes = record { marks = whole.nodes.marks; instance_queues = whole.nodes.instance_queues; callers = whole.nodes.callers; works = whole.nodes.works; apart = whole.nodes.apart };
      counted = record {
        kept = record { used = whole.counted.kept.used; groups = whole.counted.kept.groups; live = whole.counted.kept.live };
        calls = whole.counted.calls;
        sets = λ rep q at. let one = whole.counted.sets rep q at in record { members = one.members; entries = one.entries };
        groups = whole.counted.groups;
        few = whole.counted.few;
        finished = whole.counted.finished;
        high = λ some. keeps_high (whole.counted.high some);
        low = λ some. keeps_low (whole.counted.low some);
        works = λ rep q at. let chains = whole.counted.works rep q at in (keeps_high chains.0, chains.1);
        results = whole.counted.results;
      };
    }

module _ (a b : CoreParts) (sound_a : IsSoundCore a) (sound_b : IsSoundCore b) (only : b ≡ record a { marks = b.marks }) (c : ℕ) (names : Renames a.marks b.marks c Unmade (ChainOf [])) where
  empty : chained b.marks (Some c) ≡ []
  empty = ap (λ (o : Option (List (ℕ × Queued))). map (λ e. e.1) (list_or_nil o)) (ap spot_list names.names)

  unused : (r : Row) → row_chain (bare (parts_of b)) r ≡ Some c → ⊥
  unfolding IsSoundCore
  unused r at = no_chain (row_chain (bare (parts_of a))) (λ q. q.mark.index) (IsKeyed (bare (parts_of a))) a.marks (row (bare (parts_of a))) sound_a.whole.chained.marks c (ap spot_list names.named) r (sym (ap (λ (x : CoreParts). row_chain (bare (parts_of x)) r) only) ∙ at)

  module _ (none : is_some a.high ≡ false) where
    none_high : b.high ≡ None
    none_high = ap (λ (x : CoreParts). x.high) only ∙ none_there a.high none

    high_row : (p : CoreImage) → p.marks ≡ b.marks → p.high ≡ None → (r : Row) → row (record p { high = Some c }) r ≡ row p r
    high_row p marks high High = ap (λ m. chained m (Some c)) marks ∙ (empty ∙ sym (ap (chained p.marks) high))
    high_row p marks high Low = refl

    high_kept : IsSome b.high → IsSome (Some c)
    high_kept some = refl

    pub high_opened_sound : IsSoundCore (record b { high = Some c })
    unfolding IsSoundCore
    high_opened_sound =
        let p = bare (parts_of b) in
        sound_of_whole b (record b { high = Some c }) refl sound_b
        (marked_whole p sound_b.whole (Some c) b.low (high_row p refl none_high) high_kept (λ some. some)
        (IsRows-opened (row_chain p) (λ q. q.mark.index) (IsKeyed p) b.marks (row p) sound_b.whole.chained.marks (row_chain (marked p sound_b.whole (Some c) b.low)) (row (marked p sound_b.whole (Some c) b.low)) High (λ r. row_is r High) chains (λ r other. high_row p refl none_high r) c none_high refl empty (ap spot_list names.names) unused))
      where
        chains : (r : Row) → (r ≡ High → ⊥) → row_chain (marked (bare (parts_of b)) sound_b.whole (Some c) b.low) r ≡ row_chain (bare (parts_of b)) r
        chains High other = absurd (other refl)
        chains Low other = refl

    pub high_opened_seen : seen (record b { high = Some c }) ≡ seen b
    unfolding seen
    high_opened_seen = ap (λ (l : List Queued). record (image (parts_of b)) { core = record (image (parts_of b)).core { queues = record (image (parts_of b)).core.queues { high = map (λ q. q.entry) l } } }) (high_row (parts_of b) refl none_high High)

  module _ (none : is_some a.low ≡ false) where
    none_low : b.low ≡ None
    none_low = ap (λ (x : CoreParts). x.low) only ∙ none_there a.low none

    low_row : (p : CoreImage) → p.marks ≡ b.marks → p.low ≡ None → (r : Row) → row (record p { low = Some c }) r ≡ row p r
    low_row p marks low High = refl
    low_row p marks low Low = ap (λ m. chained m (Some c)) marks ∙ (empty ∙ sym (ap (chained p.marks) low))

    low_kept : IsSome b.low → IsSome (Some c)
    low_kept some = refl

    pub low_opened_sound : IsSoundCore (record b { low = Some c })
    unfolding IsSoundCore
    low_opened_sound =
        let p = bare (parts_of b) in
        sound_of_whole b (record b { low = Some c }) refl sound_b
        (marked_whole p sound_b.whole b.high (Some c) (low_row p refl none_low) (λ some. some) low_kept
        (IsRows-opened (row_chain p) (λ q. q.mark.index) (IsKeyed p) b.marks (row p) sound_b.whole.chained.marks (row_chain (marked p sound_b.whole b.high (Some c))) (row (marked p sound_b.whole b.high (Some c))) Low (λ r. row_is r Low) chains (λ r other. low_row p refl none_low r) c none_low refl empty (ap spot_list names.names) unused))
      where
        chains : (r : Row) → (r ≡ Low → ⊥) → row_chain (marked (bare (parts_of b)) sound_b.whole b.high (Some c)) r ≡ row_chain (bare (parts_of b)) r
        chains High other = refl
        chains Low other = absurd (other refl)

    pub low_opened_seen : seen (record b { low = Some c }) ≡ seen b
    unfolding seen
    low_opened_seen = ap (λ (l : List Queued). record (image (parts_of b)) { core = record (image (parts_of b)).core { queues = record (image (parts_of b)).core.queues { low = map (λ q. q.entry) l } } }) (low_row (parts_of b) refl none_low Low)
