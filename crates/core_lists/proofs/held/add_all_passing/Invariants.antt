use Rattle.core_lists.proofs.held.add_all_passing.Given as goal
use Rattle.core_lists.specs.Chains.{AddsPassing}
use Rattle.core_lists.specs.Listed.{held_passes_flag}
use Rattle.core_primitives.specs.StateView.{thread_of}
use Rattle.core_records.proofs.Core.{entries, filter, IsLinks, map, seen, ◌++◌}
use Rattle.core_removals.specs.Walks.{Walk, left_from, of_chain, of_node}
use Rattle.std.proofs.Common.{option_map}

abbrev pub invariant-loop-next : goal.invariant-loop-next
invariant-loop-next l = record {
  links : IsLinks l.parts.places;
  walk : Walk (AddsPassing (held_passes_flag (seen l.parts).core) (of_node l.parts) (map (λ id. thread_of (seen l.parts) id) l.fn.list.items ++ filter (held_passes_flag (seen l.parts).core) (of_chain l.parts l.chain)) (map (λ id. thread_of (seen l.parts) id) l.list.items)) (entries l.parts.places l.chain) (option_map (λ e. (e.0.index, e.1)) l.next);
}

abbrev pub decreases-loop-next : goal.decreases-loop-next
decreases-loop-next l = left_from (option_map (λ e. (e.0.index, e.1)) l.next) (entries l.parts.places l.chain)
