use Rattle.core_counts.proofs.EndedLemmas.{counted}
use Rattle.core_counts.proofs.endings.count_ended.Goals as goal

pub returns : goal.returns
returns c = counted c.args.parts.now c.requires
