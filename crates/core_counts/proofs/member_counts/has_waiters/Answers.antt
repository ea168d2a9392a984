use Rattle.core_counts.proofs.member_counts.has_waiters.Goals as goal
use Rattle.core_records.proofs.KeptLemmas.{some_waiter}

pub returns : goal.returns
returns c = some_waiter c.args.parts.now c.requires.sound c.args.set c.set_there.result.now c.set_there.ensures.item
