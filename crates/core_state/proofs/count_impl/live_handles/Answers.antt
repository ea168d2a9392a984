use Rattle.core_state.proofs.count_impl.live_handles.Goals as goal
use Rattle.core_records.proofs.Core.{◌∙◌}
use Rattle.core_records.proofs.KeptLemmas.{handles_are}

pub returns : goal.returns
returns c = c.live.ensures.value ∙ handles_are c.args.parts.now c.requires
