use Rattle.task_handles.proofs.CountLemmas.{inserts}
use Rattle.task_handles.proofs.slots.Slots.insert_counted.Goals as goal

pub returns-clause-ok : goal.returns-clause-ok
returns-clause-ok g c = inserts _ _ _ _ _ _ c.in-Ok.ensures.handle c.in-Ok.ensures.whole c.in-Ok.ensures.free c.in-Ok.ensures.positive c.in-Ok.ensures.small c.in-Ok.ensures.ok c.raise.ensures c.requires
