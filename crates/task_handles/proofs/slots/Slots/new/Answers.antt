use Rattle.task_handles.proofs.StepLemmas.{empty_sound, empty_shown}
use Rattle.task_handles.proofs.slots.Slots.new.Goals as goal

pub invariant_of-result : goal.invariant_of-result
invariant_of-result g c = empty_sound _ c.new.ensures.items

pub returns : goal.returns
returns g c = empty_shown _ c.new.ensures.items
