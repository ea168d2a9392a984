-- A node or a chain is made among the marks or the instances' queues: every list stays as it is.
use Rattle.core_records.proofs.Core.{[], ap, ap₂, bare, cases_eq, chained, High, image, inl, inr, is_made, is_of_instance, IsRows, IsRows-made, IsKeyed, IsSoundCore, List, Low, map, None, part, CoreImage, parts_of, Renames, Row, row, row_chain, seen, instance_queue_chain, Spot, spot_is_made, spot_link, true, Unmade, ℕ, ◌∙◌, ◌≡◌, ◌⊎◌}
use Rattle.core_records.specs.declared.{parts.CoreParts.CoreParts, thread_records.Queued.Queued}
use Rattle.core_queues.proofs.WholeLemmas.{KeepsNodes, chains_sound, row_is, rows_whole}

-- what was made is made
pub keeps_made : {P : Type 0} (old new : List (Spot P)) (n : ℕ) (is : Spot P) → Renames old new n Unmade is → KeepsNodes old new
keeps_made old new n is names m made = by_number (cases_eq m n)
  where
    by_number : (m ≡ n) ⊎ (m ≡ n → ⊥) → is_made new m ≡ true
    by_number (inl same) = absurd (let none = ap (is_made old) same in let unmade = ap spot_is_made names.named in cc)
    by_number (inr other) = ap spot_is_made (names.others m other) ∙ made

no_row : (p : CoreImage) (r : Row) → row_chain p r ≡ None → row p r ≡ []
no_row p r none = ap (chained p.marks) none

module _ (a : CoreParts) (sound : IsSoundCore a) where
  module _ (new : List (Spot Queued)) (n : ℕ) (is : Spot Queued) (names : Renames a.instance_queues new n Unmade is) (unlinked : spot_link is ≡ None) where
    pub instance_queue_made_sound : IsSoundCore (record a { instance_queues = new })
    unfolding IsSoundCore
    instance_queue_made_sound =
        let p = bare (parts_of a) in
        chains_sound a a.marks new a.behind a.switch sound
        (rows_whole p sound.whole p.marks new (row p) sound.whole.chained.marks (no_row p) (λ m made. made) (keeps_made a.instance_queues new n is names)
        (IsRows-made (instance_queue_chain p) (λ q. q.instance_queue.index) (IsKeyed p) a.instance_queues (part is_of_instance (row p)) sound.whole.chained.instance_queues new n is names unlinked) sound.whole.chained.low)

  module _ (new : List (Spot Queued)) (n : ℕ) (is : Spot Queued) (names : Renames a.marks new n Unmade is) (unlinked : spot_link is ≡ None) where
    rows_made : IsRows (row_chain (bare (parts_of a))) (λ q. q.mark.index) (IsKeyed (bare (parts_of a))) new (row (bare (parts_of a)))
    unfolding IsSoundCore
    rows_made = let p = bare (parts_of a) in IsRows-made (row_chain p) (λ q. q.mark.index) (IsKeyed p) a.marks (row p) sound.whole.chained.marks new n is names unlinked

    pub mark_made_sound : IsSoundCore (record a { marks = new })
    unfolding IsSoundCore
    mark_made_sound =
        let p = bare (parts_of a) in
        chains_sound a new a.instance_queues a.behind a.switch sound
        (rows_whole p sound.whole new a.instance_queues (row p) rows_made (no_row p) (keeps_made a.marks new n is names) (λ m made. made) sound.whole.chained.instance_queues sound.whole.chained.low)

    rule_same : (r : Row) → chained new (row_chain (parts_of a) r) ≡ chained a.marks (row_chain (parts_of a) r)
    unfolding IsSoundCore
    rule_same High = let p = bare (parts_of a) in row_is p sound.whole new a.instance_queues (row p) rows_made (no_row p) High
    rule_same Low = let p = bare (parts_of a) in row_is p sound.whole new a.instance_queues (row p) rows_made (no_row p) Low

    pub mark_made_seen : seen (record a { marks = new }) ≡ seen a
    unfolding seen
    mark_made_seen =
        ap₂ (λ (high low : List Queued). record (image (parts_of a)) { core = record (image (parts_of a)).core { queues = record (image (parts_of a)).core.queues { high = map (λ q. q.entry) high; low = map (λ q. q.entry) low } } })
        (rule_same High) (rule_same Low)
