use Rattle.std.proofs.Common.{rules}
use Rattle.task_handles.proofs.StepLemmas.{append_sound, append_shown, append_free, fill_sound, fill_shown, fill_free, fill_small, whole}
use Rattle.task_handles.proofs.slots.Slots.insert.Goals as goal

pub invariant_of-self-then-self-eq0 : goal.invariant_of-self-then-self-eq0
invariant_of-self-then-self-eq0 g c = append_sound _ _ _ _ c.args.value _ c.self.view_is c.self.invariant c.if-self-eq0.true c.in_ok-push.ensures.items c.requires

pub returns-then-self-eq0-clause-free : goal.returns-then-self-eq0-clause-free
returns-then-self-eq0-clause-free g c = append_free _ _ _ _ c.self.view_is c.self.invariant _ c.if-self-eq0.true (search rules)

pub returns-then-self-eq0-clause-ok : goal.returns-then-self-eq0-clause-ok
returns-then-self-eq0-clause-ok g c = append_shown _ _ _ _ c.args.value _ c.self.view_is c.self.invariant c.if-self-eq0.true c.in_ok-push.ensures.items

pub invariant_of-self-2 : goal.invariant_of-self-2
invariant_of-self-2 g c = rw c.fill-self-inside.ensures.link (fill_sound _ _ _ _ c.args.value _ c.self.view_is c.self.invariant c.if-self-eq0.false c.fill-self-inside.ensures.filled)

pub returns-clause-free : goal.returns-clause-free
returns-clause-free g c = fill_free _ _ _ _ c.self.view_is c.self.invariant c.if-self-eq0.false

pub returns-clause-small : goal.returns-clause-small
returns-clause-small g c = fill_small _ _ _ _ c.self.view_is c.self.invariant c.if-self-eq0.false

pub returns-clause-ok : goal.returns-clause-ok
returns-clause-ok g c = rw c.fill-self-inside.ensures.link (fill_shown _ _ _ _ c.args.value _ c.self.view_is c.self.invariant c.if-self-eq0.false c.fill-self-inside.ensures.filled)

pub returns-clause-whole : goal.returns-clause-whole
returns-clause-whole g c = whole _ _ _ _ c.self.view_is c.self.invariant
