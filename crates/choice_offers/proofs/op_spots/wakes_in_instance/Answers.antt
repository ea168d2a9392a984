use Rattle.choice_offers.proofs.op_spots.wakes_in_instance.Goals as goal
use Rattle.core_primitives.specs.StateView.{thread_if_any}

pub returns : goal.returns
returns c = (thread_if_any c.args.core.now c.tell_waiter.result, (c.tell_waiter.ensures.choice, c.wakes_of.ensures))
