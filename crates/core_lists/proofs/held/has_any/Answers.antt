use Rattle.core_lists.proofs.held.has_any.Goals as goal
use Rattle.core_records.proofs.Core.{◌∙◌}
use Rattle.core_removals.proofs.HeldLemmas.{first_is_any}

pub returns-clause-is : goal.returns-clause-is
returns-clause-is c = c.is_some.ensures ∙ first_is_any _ _ c.first.result c.first.ensures.entry
