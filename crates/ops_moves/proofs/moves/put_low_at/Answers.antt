use Rattle.ops_moves.proofs.MoveLemmas.{low_at, unqueued_at}
use Rattle.ops_moves.proofs.moves.put_low_at.Goals as goal

pub push_low-requires-clause-unqueued : goal.push_low-requires-clause-unqueued
push_low-requires-clause-unqueued g c = unqueued_at c.args.thread _ _ _ _ c.requires.unqueued c.stand_at.ensures

pub returns : goal.returns
returns g c = low_at c.args.thread _ _ (g.W.View.view c.args.w.now) (g.W.View.view c.stand_at.new.self) _ c.stand_at.ensures c.push_low.ensures
