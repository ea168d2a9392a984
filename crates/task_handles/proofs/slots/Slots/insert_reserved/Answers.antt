use Rattle.std.proofs.Common.{ap, ◌∙◌}
use Rattle.task_handles.specs.Counter.{raised}
use Rattle.task_handles.proofs.CountLemmas.{inserts_reserved}
use Rattle.task_handles.proofs.slots.Slots.insert_reserved.Goals as goal

pub returns-in-Ok-clause-ok : goal.returns-in-Ok-clause-ok
returns-in-Ok-clause-ok g c =
    inserts_reserved _ _ _ _ _ _ c.in-Ok.ensures.handle c.in-Ok.ensures.whole c.in-Ok.ensures.free c.in-Ok.ensures.positive c.in-Ok.ensures.small c.in-Ok.ensures.ok
    (c.raise.ensures ∙ ap (λ k. raised k) c.lower.ensures.counter) c.requires
