use Rattle.std.proofs.Common.{◌≡◌, drop, length, map}
use Rattle.std.specs.Vec.Iter.{into_iter_items, into_iter_len}
use Rattle.beside_works.proofs.MeetLemmas.{stepped}
use Rattle.beside_works.specs.Counts.{counts_in, met_count, met_of, raised, with_each}
use Rattle.beside_works.specs.Views.{own_list, spawn_cell, split_count}
use Rattle.beside_works.proofs.meets.meet_each.Given as goal

abbrev pub invariant-loop-pass : goal.invariant-loop-pass
invariant-loop-pass l = record {
  rest : into_iter_items l.pass-iterator ≡ drop l.place (into_iter_items l.initial.pass-iterator);
  ends : into_iter_len l.pass-iterator ≡ length (into_iter_items l.pass-iterator);
  cells : map spawn_cell l.cells.items ≡ map spawn_cell l.initial.cells.items;
  split : map split_count l.cells.items ≡ map split_count l.initial.cells.items;
  own : map own_list l.cells.items ≡ map own_list l.initial.cells.items;
  count : map met_count l.cells.items ≡ raised l.place (map met_count l.initial.cells.items);
  met : map met_of l.cells.items ≡ stepped l.place (map met_of l.initial.cells.items)
      (with_each l.number (counts_in (into_iter_items l.initial.pass-iterator)) (map met_of l.initial.cells.items));
}
