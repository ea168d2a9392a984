use Rattle.core_records.proofs.Core.{entries, IsLinks, seen}
use Rattle.std.proofs.Common.{option_map}
use Rattle.core_removals.proofs.admissions.some_admitted.Given as goal
use Rattle.core_removals.specs.Held.{AnyLeft, is_admitted}
use Rattle.core_removals.specs.Walks.{Walk, left_from, of_chain, of_node}

abbrev pub invariant-loop-next : goal.invariant-loop-next
invariant-loop-next l = record {
  links : IsLinks l.parts.places;
  walk : Walk (AnyLeft (of_node l.parts) (is_admitted l.instance (seen l.parts).core) (of_chain l.parts l.chain)) (entries l.parts.places l.chain) (option_map (λ e. (e.0.index, e.1)) l.next);
}

abbrev pub decreases-loop-next : goal.decreases-loop-next
decreases-loop-next l = left_from (option_map (λ e. (e.0.index, e.1)) l.next) (entries l.parts.places l.chain)
