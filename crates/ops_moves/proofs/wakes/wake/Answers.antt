use Rattle.ops_moves.proofs.FirstLemmas.{first_to_wake}
use Rattle.ops_moves.proofs.wakes.wake.Goals as goal

pub returns-clause-first : goal.returns-clause-first
returns-clause-first g c = first_to_wake _ c.first_waiter-waiter.result (g.W.View.view c.args.w.now) c.first_waiter-waiter.ensures.some c.first_waiter-waiter.ensures.first
