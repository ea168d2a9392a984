use Rattle.task_handles.proofs.StepLemmas.{whole}
use Rattle.task_handles.proofs.slots.Slots.next_handle.Goals as goal

pub returns-clause-whole : goal.returns-clause-whole
returns-clause-whole g c = whole _ _ _ _ c.self.view_is c.self.invariant

pub returns-then-self-eq0-clause-whole : goal.returns-then-self-eq0-clause-whole
returns-then-self-eq0-clause-whole g c = whole _ _ _ _ c.self.view_is c.self.invariant
