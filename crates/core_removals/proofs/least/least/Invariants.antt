use Rattle.core_records.proofs.Core.{entries, IsLinks, seen, thread_of}
use Rattle.std.proofs.Common.{option_map}
use Rattle.core_removals.proofs.least.least.Given as goal
use Rattle.core_removals.specs.Least.{HasLeast}
use Rattle.core_removals.specs.Walks.{Walk, left_from, of_chain, of_node}

abbrev pub invariant-loop-next : goal.invariant-loop-next
invariant-loop-next l = record {
  links : IsLinks l.parts.places;
  walk : Walk (HasLeast (of_node l.parts) (of_chain l.parts l.chain) (option_map (λ id. thread_of (seen l.parts) id) l.least)) (entries l.parts.places l.chain) (option_map (λ e. (e.0.index, e.1)) l.next);
}

abbrev pub decreases-loop-next : goal.decreases-loop-next
decreases-loop-next l = left_from (option_map (λ e. (e.0.index, e.1)) l.next) (entries l.parts.places l.chain)
