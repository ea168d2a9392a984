use Rattle.core_counts.proofs.limit_counts.has_interesting.Goals as goal
use Rattle.core_records.proofs.Core.{ap, IsSoundCore, nat_lt, seen, ◌∙◌}
use Rattle.machine_rules.specs.MainOps.{has_interesting}
use Rattle.core_records.proofs.KeptLemmas.{any_passing}

pub returns : goal.returns
unfolding IsSoundCore has_interesting seen
returns c = ap (nat_lt 0) c.requires.interesting ∙ any_passing (λ r. r.interesting) (seen c.args.parts.now).core.calls
