use Rattle.std.proofs.Common.{length, map, ◌≡◌, ◌≤◌}
use Rattle.beside_main.specs.Cells.{AreLogsOf}
use Rattle.beside_main.proofs.logs.logs_of.Given as goal

abbrev pub invariant-loop-cell : goal.invariant-loop-cell
invariant-loop-cell l = record {
  are : AreLogsOf l.cells l.early (map (λ v. v.items) l.logs.items);
  count : length l.logs.items ≡ l.cell-index;
  spawn : l.spawn ≡ l.cell-index;
  made : l.cell-index ≤ length l.script.spawns.items;
}
