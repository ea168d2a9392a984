use Rattle.core_lists.proofs.chains.add_waiting.Given as goal
use Rattle.core_lists.specs.Chains.{Adds, waiting_in_chain, waiting_of_node}
use Rattle.core_primitives.specs.StateView.{thread_of}
use Rattle.core_records.proofs.Core.{entries, IsLinks, map, seen, ◌++◌}
use Rattle.core_removals.specs.Walks.{Walk, left_from}
use Rattle.std.proofs.Common.{option_map}

abbrev pub invariant-loop-next : goal.invariant-loop-next
invariant-loop-next l = record {
  links : IsLinks l.parts.waits;
  walk : Walk (Adds (waiting_of_node l.parts) (map (λ id. thread_of (seen l.parts) id) l.fn.list.items ++ waiting_in_chain l.parts l.chain) (map (λ id. thread_of (seen l.parts) id) l.list.items)) (entries l.parts.waits l.chain) (option_map (λ e. (e.0.index, e.1)) l.next);
}

abbrev pub decreases-loop-next : goal.decreases-loop-next
decreases-loop-next l = left_from (option_map (λ e. (e.0.index, e.1)) l.next) (entries l.parts.waits l.chain)
