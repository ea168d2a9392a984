use Rattle.core_records.proofs.Core.{entries, length}
use Rattle.core_removals.proofs.chains_removals.close.Given as goal
use Rattle.core_removals.specs.Chains.{Empties}

-- all else stays as nodes leave
abbrev pub invariant-loop-node : goal.invariant-loop-node
invariant-loop-node g l = Empties l.initial.links l.links l.chain

abbrev pub decreases-loop-node : goal.decreases-loop-node
decreases-loop-node g l = length (entries l.links l.chain)
