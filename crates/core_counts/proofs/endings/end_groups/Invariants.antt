use Rattle.std.specs.Prelude.{length, vec_capacity, ◌++◌, ◌+◌, ◌≡◌, ◌≤◌}
use Rattle.core_counts.specs.Entries.{numbers_of}
use Rattle.core_counts.proofs.endings.end_groups.Given as goal

abbrev pub invariant-loop-place : goal.invariant-loop-place
invariant-loop-place l =
    (l.ended.items ++ numbers_of l.finished l._place-iterator ≡ l.initial.ended.items ++ numbers_of l.finished l.initial._place-iterator)
    × ((vec_capacity l.ended ≡ vec_capacity l.initial.ended) × (length l.ended.items + length (numbers_of l.finished l._place-iterator) ≤ vec_capacity l.ended))
