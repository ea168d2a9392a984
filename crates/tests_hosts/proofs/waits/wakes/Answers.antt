-- The call can tell that it has begun, and nothing else changes but entries.
use Rattle.ops_state.proofs.PlacedLemmas.{placed_idle}
use Rattle.tests_hosts.proofs.WaitLemmas.{can_tell_begun, rest_asked, rest_works, stays_sitting, woken_current, woken_given, woken_rest}
use Rattle.std.proofs.Common.{ap}
use Rattle.core_primitives.specs.StateView.{StateView}
use Rattle.tests_hosts.proofs.waits.wakes.Goals as goal

pub set_event-requires-clause-idle : goal.set_event-requires-clause-idle
set_event-requires-clause-idle c = placed_idle _ c.requires.placed

pub set_event-requires-clause-there : goal.set_event-requires-clause-there
set_event-requires-clause-there c = c.requires.joins _

pub returns-clause-order : goal.returns-clause-order
returns-clause-order c = stays_sitting _ _ (c.set_event.ensures.order (can_tell_begun _ _ c.requires.unended))

pub returns-clause-current : goal.returns-clause-current
returns-clause-current c = woken_current _ _ _ _ _ c.set_event.ensures.woken

pub returns-clause-hosts : goal.returns-clause-hosts
returns-clause-hosts c = rest_works _ _ _ (woken_rest _ _ _ _ _ c.set_event.ensures.woken)

pub returns-clause-groups : goal.returns-clause-groups
returns-clause-groups c =
    let s = c.args.store.now.state in
    let t = c.set_event.new.w in
    rest_asked s t (ap (λ (v : StateView). v.tags.tracked) c.set_event.ensures.woken.core) (woken_rest _ _ s _ t c.set_event.ensures.woken)

pub returns-clause-given : goal.returns-clause-given
returns-clause-given c = woken_given _ _ _ _ _ c.set_event.ensures.woken
