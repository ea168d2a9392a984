use Rattle.std.proofs.Common.{◌≡◌, ◌++◌, map, take, drop}
use Rattle.table_lists.proofs.places.name_places.Given as goal

abbrev pub invariant-loop-index : goal.invariant-loop-index
invariant-loop-index g l = l.names ≡ map (g.H.Holders.place_of l.holders) (take l.index l.initial.names) ++ drop l.index l.initial.names
