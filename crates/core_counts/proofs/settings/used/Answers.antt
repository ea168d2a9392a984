use Rattle.core_counts.proofs.settings.used.Goals as goal
use Rattle.core_records.proofs.KeptLemmas.{used_is}

pub returns : goal.returns
returns c = used_is c.args.parts.now c.requires
