use Rattle.core_counts.proofs.work_counts.has_moving_work.Goals as goal
use Rattle.core_records.proofs.Core.{ap, has_moving_work, is_moving, IsSoundCore, nat_lt, seen, ◌∙◌}
use Rattle.core_records.proofs.KeptLemmas.{any_passing}

pub returns : goal.returns
unfolding IsSoundCore has_moving_work seen
returns c = ap (nat_lt 0) c.requires.moving ∙ any_passing is_moving (seen c.args.parts.now).core.works
