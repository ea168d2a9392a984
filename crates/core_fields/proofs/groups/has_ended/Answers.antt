use Rattle.core_fields.proofs.GroupLemmas.{flipped}
use Rattle.core_fields.proofs.groups.has_ended.Goals as goal
use Rattle.std.proofs.Common.{◌∙◌}

pub returns : goal.returns
returns c = c.contains.ensures.value ∙ flipped c.args.group c.args.ended.now
