use Rattle.trace_machine.proofs.MachineLemmas.{lists_offer}
use Rattle.trace_machine.proofs.machine.Machine.offer.Goals as goal

pub returns : goal.returns
returns c = lists_offer c.args.self.now c.in_ok-offered.offered _ c.in_ok-offer.ensures c.in_ok-offered.ensures
