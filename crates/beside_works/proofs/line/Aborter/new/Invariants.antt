use Rattle.std.proofs.Common.{◌≡◌, map, replicate, take}
use Rattle.beside_works.specs.Counts.{cells_in, counts_in, places_in, raised}
use Rattle.beside_works.specs.Views.{met_list, own_list, spawn_cell, split_count}
use Rattle.beside_works.proofs.line.Aborter.new.Given as goal

abbrev pub invariant-loop-cell : goal.invariant-loop-cell
invariant-loop-cell l = record {
  same : map spawn_cell l.cell-items ≡ map spawn_cell l.initial.cell-items;
  met : map met_list l.cell-items ≡ map met_list l.initial.cell-items;
  own : map own_list l.cell-items ≡ map own_list l.initial.cell-items;
  split : map split_count l.cell-items ≡ raised l.cell-index (map split_count l.initial.cell-items);
  cells : cells_in l.passes.items ≡ take l.cell-index (map spawn_cell l.initial.cell-items);
  places : places_in l.passes.items ≡ take l.cell-index (map split_count l.initial.cell-items);
  counts : counts_in l.passes.items ≡ replicate l.cell-index 0;
}
