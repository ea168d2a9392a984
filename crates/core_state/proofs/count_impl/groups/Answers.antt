use Rattle.core_state.proofs.count_impl.groups.Goals as goal
use Rattle.core_records.proofs.KeptLemmas.{groups_are}

pub returns : goal.returns
returns c = groups_are c.args.parts.now c.requires
