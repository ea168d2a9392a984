use Rattle.task_handles.proofs.CountLemmas.{removes}
use Rattle.task_handles.proofs.slots.Slots.remove_counted.Goals as goal

pub returns : goal.returns
returns g c = removes _ _ _ _ _ c.requires.live c.remove.ensures c.lower.ensures.counter
