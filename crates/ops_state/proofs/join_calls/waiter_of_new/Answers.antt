use Rattle.ops_moves.proofs.PublishLemmas.{waiter_waits}
use Rattle.ops_state.proofs.join_calls.waiter_of_new.Goals as goal

pub returns-in-Some-Some-clause-waits : goal.returns-in-Some-Some-clause-waits
returns-in-Some-Some-clause-waits g c = waiter_waits _ c.first_waiter.result (g.W.View.view c.args.w.now) c.first_waiter.ensures.some
