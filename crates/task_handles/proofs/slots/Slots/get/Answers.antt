use Rattle.std.proofs.Common.{sym, ◌∙◌}
use Rattle.task_handles.proofs.StepLemmas.{held_by_shown}
use Rattle.task_handles.proofs.slots.Slots.get.Goals as goal

pub returns : goal.returns
returns g c = c.value_at.ensures ∙ sym (held_by_shown _ _ _ c.args.handle _ c.self.view_is)
