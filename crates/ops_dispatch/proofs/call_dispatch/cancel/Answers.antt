use Rattle.ops_dispatch.proofs.call_dispatch.cancel.Goals as goal

pub returns-clause-does : goal.returns-clause-does
returns-clause-does g c = c.cancels.ensures.does
