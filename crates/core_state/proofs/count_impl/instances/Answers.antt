use Rattle.core_makes.proofs.AddLemmas.{instance_count}
use Rattle.core_state.proofs.count_impl.instances.Goals as goal
use Rattle.std.proofs.Common.{◌∙◌}

pub returns : goal.returns
returns c = c.len.ensures ∙ (c.args.parts.now.instances.ok.0 ∙ instance_count c.args.parts.now)
