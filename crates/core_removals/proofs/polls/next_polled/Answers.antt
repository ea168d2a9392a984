use Rattle.core_removals.proofs.PollLemmas.{none_polled}
use Rattle.core_removals.proofs.polls.next_polled.Goals as goal

pub returns-in-None : goal.returns-in-None
returns-in-None c = none_polled c.args.parts.now c.requires c.args.polled c.in-None.is
