use Rattle.trace_machine.proofs.SpotLemmas.{taking_live}
use Rattle.trace_machine.proofs.machine.Machine.offered.Goals as goal

pub at-requires-clause-wakes : goal.at-requires-clause-wakes
at-requires-clause-wakes c = c.spot-place.ensures.0.0

pub at-requires-clause-takes : goal.at-requires-clause-takes
at-requires-clause-takes c = taking_live c.args.self.now.store.state _ c.spot-place.result.takes c.spot-place.ensures.0.1

pub at-requires-clause-known : goal.at-requires-clause-known
at-requires-clause-known c = c.requires.named

pub returns : goal.returns
returns c = record { spot = c.spot-place.result; offers = c.spot-place.ensures; listed = c.in_ok-offered.ensures _ c.spot-place.ensures.0 }
