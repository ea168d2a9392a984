use Rattle.std.proofs.Common.{◌≡◌, length, map}
use Rattle.beside_works.specs.Aborters.{AreNew}
use Rattle.beside_works.specs.Counts.{later}
use Rattle.beside_works.specs.Views.{met_list, own_list, spawn_cell, split_count}
use Rattle.beside_works.proofs.meets.aborters_of.Given as goal

abbrev pub invariant-loop-line : goal.invariant-loop-line
invariant-loop-line l = record {
  new : AreNew (map spawn_cell l.initial.cells.items) (map split_count l.initial.cells.items) 0 l.all.items;
  each : length l.all.items ≡ l._line-index;
  number : l.before ≡ l._line-index;
  cells : map spawn_cell l.cells.items ≡ map spawn_cell l.initial.cells.items;
  split : map split_count l.cells.items ≡ later l._line-index (map split_count l.initial.cells.items);
  met : map met_list l.cells.items ≡ map met_list l.initial.cells.items;
  own : map own_list l.cells.items ≡ map own_list l.initial.cells.items;
}
