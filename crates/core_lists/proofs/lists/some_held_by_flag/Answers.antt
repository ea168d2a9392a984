use Rattle.core_lists.proofs.lists.some_held_by_flag.Goals as goal
use Rattle.core_primitives.specs.StateView.{StateView}
use Rattle.core_records.proofs.Core.{ap, is_nil, not, ◌∙◌}
use Rattle.machine_rules.specs.Ends.{held_by_flag}

pub returns : goal.returns
returns c = c.some_by_flag.ensures ∙ ap (λ (s : StateView). not (is_nil (held_by_flag c.args.instance s.core))) c.parts.ensures.seen
