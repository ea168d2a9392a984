use Rattle.ops_moves.proofs.MoveLemmas.{unqueued_standing}
use Rattle.ops_moves.proofs.moves.put_low.Goals as goal

pub push_low-requires-clause-unqueued : goal.push_low-requires-clause-unqueued
push_low-requires-clause-unqueued g c = unqueued_standing c.args.thread _ _ _ c.requires.unqueued c.set_place.ensures
