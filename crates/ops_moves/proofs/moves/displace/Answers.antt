use Rattle.ops_moves.proofs.MoveLemmas.{unqueued_at_switch}
use Rattle.ops_moves.proofs.moves.displace.Goals as goal

pub push_high_first-requires-clause-unqueued : goal.push_high_first-requires-clause-unqueued
push_high_first-requires-clause-unqueued g c = unqueued_at_switch c.in-Some.thread _ _ _ c.requires c.set_mark.ensures c.in-Some.ensures.is
