use Rattle.std.proofs.Common.{List, ℕ, ◌≡◌, length, map}
use Rattle.std.specs.Vec.Iter.{into_iter_items, into_iter_len}
use Rattle.beside_works.specs.Aborters.{CanMeet, MetInPart, NoneOutOfMemory, with_all}
use Rattle.beside_works.specs.Counts.{later, met_count, met_of}
use Rattle.beside_works.specs.Views.{own_list, spawn_cell, split_count}
use Rattle.beside_works.proofs.meets.meet_all.Given as goal

abbrev pub invariant-loop-aborter : goal.invariant-loop-aborter
invariant-loop-aborter l = record {
  ends : into_iter_len l.aborter-iterator ≡ length (into_iter_items l.aborter-iterator);
  can : CanMeet (map spawn_cell l.cells.items) (map met_count l.cells.items) (into_iter_items l.aborter-iterator);
  cells : map spawn_cell l.cells.items ≡ map spawn_cell l.initial.cells.items;
  split : map split_count l.cells.items ≡ map split_count l.initial.cells.items;
  own : map own_list l.cells.items ≡ map own_list l.initial.cells.items;
  count : later (length (into_iter_items l.aborter-iterator)) (map met_count l.cells.items)
      ≡ later (length (into_iter_items l.initial.aborter-iterator)) (map met_count l.initial.cells.items);
  met : with_all (into_iter_items l.aborter-iterator) (map met_of l.cells.items)
      ≡ with_all (into_iter_items l.initial.aborter-iterator) (map met_of l.initial.cells.items);
  part : (news : List (List (ℕ × ℕ))) → MetInPart (into_iter_items l.aborter-iterator) (map met_of l.cells.items) news →
      MetInPart (into_iter_items l.initial.aborter-iterator) (map met_of l.initial.cells.items) news;
  out_of_memory : NoneOutOfMemory (into_iter_items l.aborter-iterator) → NoneOutOfMemory (into_iter_items l.initial.aborter-iterator);
}
