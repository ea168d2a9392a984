use Rattle.core_records.proofs.Core.{entries, IsLinks, IsSoundCore, seen}
use Rattle.std.proofs.Common.{option_map}
use Rattle.core_removals.proofs.releases.release_chain.Given as goal
use Rattle.core_removals.specs.Held.{Releases}
use Rattle.core_removals.specs.Walks.{Walk, left_from, of_chain}

abbrev pub invariant-loop-next : goal.invariant-loop-next
invariant-loop-next l = record {
  sound : IsSoundCore l.parts;
  links : IsLinks l.parts.places;
  walk : Walk (Releases l.instance (seen l.fn.parts) (of_chain l.fn.parts l.chain) l.parts) (entries l.parts.places l.chain) (option_map (λ e. (e.0.index, e.1)) l.next);
}

abbrev pub decreases-loop-next : goal.decreases-loop-next
decreases-loop-next l = left_from (option_map (λ e. (e.0.index, e.1)) l.next) (entries l.parts.places l.chain)
