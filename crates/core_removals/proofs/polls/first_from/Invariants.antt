use Rattle.core_records.proofs.Core.{AreLinked, entries, IsLinks}
use Rattle.std.proofs.Common.{option_map}
use Rattle.core_removals.proofs.polls.first_from.Given as goal
use Rattle.core_removals.specs.Walks.{HasNext, Walk, left_from}

abbrev pub invariant-loop-next : goal.invariant-loop-next
invariant-loop-next l = record {
  links : IsLinks l.parts.polled;
  linked : AreLinked l.parts.polled l.chain (entries l.parts.polled l.chain);
  walk : Walk (HasNext l.polled (entries l.parts.polled l.chain)) (entries l.parts.polled l.chain) (option_map (λ e. (e.0.index, e.1)) l.next);
}

abbrev pub decreases-loop-next : goal.decreases-loop-next
decreases-loop-next l = left_from (option_map (λ e. (e.0.index, e.1)) l.next) (entries l.parts.polled l.chain)
