use Rattle.ops_moves.proofs.MoveLemmas.{unqueued_standing}
use Rattle.ops_moves.proofs.moves.put_high.Goals as goal

pub push_high-requires-clause-unqueued : goal.push_high-requires-clause-unqueued
push_high-requires-clause-unqueued g c = unqueued_standing c.args.thread _ _ _ c.requires.unqueued c.set_place.ensures
