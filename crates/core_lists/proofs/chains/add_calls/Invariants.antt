use Rattle.core_lists.proofs.chains.add_calls.Given as goal
use Rattle.core_lists.specs.Chains.{Adds, call_of_node, calls_in}
use Rattle.core_primitives.specs.Names.{subtask_in}
use Rattle.core_records.proofs.Core.{entries, IsLinks, map, seen, ◌++◌}
use Rattle.core_removals.specs.Walks.{Walk, left_from}
use Rattle.std.proofs.Common.{option_map}

abbrev pub invariant-loop-next : goal.invariant-loop-next
invariant-loop-next l = record {
  links : IsLinks l.parts.ready_calls;
  walk : Walk (Adds (call_of_node l.parts) (map (λ id. subtask_in (seen l.parts).tags id) l.fn.list.items ++ calls_in l.parts l.chain) (map (λ id. subtask_in (seen l.parts).tags id) l.list.items)) (entries l.parts.ready_calls l.chain) (option_map (λ e. (e.0.index, e.1)) l.next);
}

abbrev pub decreases-loop-next : goal.decreases-loop-next
decreases-loop-next l = left_from (option_map (λ e. (e.0.index, e.1)) l.next) (entries l.parts.ready_calls l.chain)
