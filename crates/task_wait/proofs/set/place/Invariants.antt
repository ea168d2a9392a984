use Rattle.std.proofs.Common.{option_map}
use Rattle.std.specs.Ordering.{is_lt}
use Rattle.table_links.specs.Links.{IsLinks, entries}
use Rattle.task_wait.specs.Walks.{IsWalk, up_to}
use Rattle.task_wait.proofs.set.place.Given as goal

abbrev pub invariant-loop-last : goal.invariant-loop-last
invariant-loop-last g l = record {
  sound : IsLinks l.links;
  walk : IsWalk (λ other. is_lt (g.P.Ord.cmp other l.value)) (entries l.links l.chain) (option_map (λ e. (e.0.index, e.1)) l.last) (option_map (λ node. node.index) l.place);
}

abbrev pub decreases-loop-last : goal.decreases-loop-last
decreases-loop-last g l = up_to (option_map (λ e. (e.0.index, e.1)) l.last) (entries l.links l.chain)
