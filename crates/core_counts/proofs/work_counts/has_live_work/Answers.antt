use Rattle.core_counts.proofs.work_counts.has_live_work.Goals as goal
use Rattle.core_records.proofs.Core.{ap, has_live_work, is_live, nat_lt, seen, ◌∙◌}
use Rattle.core_records.proofs.KeptLemmas.{any_passing, live_is}

pub returns : goal.returns
unfolding has_live_work
returns c = ap (nat_lt 0) (live_is c.args.parts.now c.requires) ∙ any_passing is_live (seen c.args.parts.now).core.works
