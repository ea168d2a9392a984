-- What is seen of a core whose marks are changed.
use Rattle.core_records.proofs.Core.{[], ap, ap₂, bare, Entry, High, IsSoundCore, List, Low, map, map-append, on_core, parts_of, push_high, push_high_first, push_low, refl, Row, row, seen, Spot, StateView, ◌++◌, ◌∙◌, ◌∷◌, ◌≡◌}
use Rattle.core_records.specs.declared.{parts.CoreParts.CoreParts, thread_records.Queued.Queued}
use Rattle.core_queues.specs.OrderKeys.{RowsAre, row_with}
use Rattle.core_queues.proofs.WholeLemmas.{chains_sound}

-- the machine's list of a mark
abbrev pub row_seen : CoreParts → Row → List Entry
row_seen a r = map (λ (q : Queued). q.entry) (row (bare (parts_of a)) r)

-- the machine's queues as the lists say
abbrev pub queues_seen : CoreParts → List Entry → List Entry → StateView
queues_seen a high low = record (seen a) { core = record (seen a).core { queues = record { switch = (seen a).core.queues.switch; high = high; low = low } } }

module _ (a : CoreParts) (marks instance_queues : List (Spot Queued)) where
  abbrev pub rows_after : CoreParts
  rows_after = record a { marks = marks; instance_queues = instance_queues }

  module _ (list : Row → List Queued) (are : RowsAre (bare (parts_of a)) marks instance_queues list) where
    pub rows_sound : IsSoundCore a → IsSoundCore rows_after
    unfolding IsSoundCore
    rows_sound sound = chains_sound a marks instance_queues a.behind a.switch sound are.whole

    pub rows_seen : (high low : List Entry) → map (λ (q : Queued). q.entry) (list High) ≡ high → map (λ (q : Queued). q.entry) (list Low) ≡ low → seen rows_after ≡ queues_seen a high low
    unfolding seen
    rows_seen high low is_high is_low = ap₂ (queues_seen a) (ap (map (λ (q : Queued). q.entry)) (are.rows High) ∙ is_high) (ap (map (λ (q : Queued). q.entry)) (are.rows Low) ∙ is_low)

  module _ (v : Queued) where
    more_seen : (r : Row) → map (λ (q : Queued). q.entry) (row (bare (parts_of a)) r ++ v ∷ []) ≡ row_seen a r ++ v.entry ∷ []
    more_seen r = map-append (λ (q : Queued). q.entry) (row (bare (parts_of a)) r) (v ∷ [])

    pub high_pushed : RowsAre (bare (parts_of a)) marks instance_queues (row_with High (row (bare (parts_of a)) High ++ v ∷ []) (row (bare (parts_of a)))) → seen rows_after ≡ on_core (push_high v.entry) (seen a)
    unfolding seen push_high
    high_pushed are = rows_seen _ are (row_seen a High ++ v.entry ∷ []) (row_seen a Low) (more_seen High) refl

    pub high_pushed_first : RowsAre (bare (parts_of a)) marks instance_queues (row_with High (v ∷ row (bare (parts_of a)) High) (row (bare (parts_of a)))) → seen rows_after ≡ on_core (push_high_first v.entry) (seen a)
    unfolding seen push_high_first
    high_pushed_first are = rows_seen _ are (v.entry ∷ row_seen a High) (row_seen a Low) refl refl

    pub low_pushed : RowsAre (bare (parts_of a)) marks instance_queues (row_with Low (row (bare (parts_of a)) Low ++ v ∷ []) (row (bare (parts_of a)))) → seen rows_after ≡ on_core (push_low v.entry) (seen a)
    unfolding seen push_low
    low_pushed are = rows_seen _ are (row_seen a High) (row_seen a Low ++ v.entry ∷ []) refl (more_seen Low)
