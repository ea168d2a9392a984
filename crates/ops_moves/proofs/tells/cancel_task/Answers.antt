use Rattle.ops_moves.proofs.TellLemmas.{can_after_end}
use Rattle.ops_moves.proofs.tells.cancel_task.Goals as goal

pub tell-requires : goal.tell-requires
tell-requires g c = can_after_end c.args.call _ _ (g.W.View.view c.args.w.now) _ c.set_end.ensures c.requires
