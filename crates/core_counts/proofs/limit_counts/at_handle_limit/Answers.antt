use Rattle.core_counts.proofs.limit_counts.at_handle_limit.Goals as goal
use Rattle.core_records.proofs.Core.{ap₂, at_handle_limit, nat_le, seen, ◌∙◌}
use Rattle.core_records.proofs.KeptLemmas.{handles_are}

pub returns : goal.returns
unfolding at_handle_limit seen
returns c = ap₂ nat_le c.limit.ensures.value (c.live.ensures.value ∙ handles_are c.args.parts.now c.requires)
