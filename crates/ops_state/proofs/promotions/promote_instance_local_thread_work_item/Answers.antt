use Rattle.ops_state.proofs.OrderLemmas.{local_order}
use Rattle.ops_state.proofs.promotions.promote_instance_local_thread_work_item.Goals as goal

pub returns-clause-order : goal.returns-clause-order
returns-clause-order g c d p going = local_order d p going _ (g.W.View.view c.args.w.now) _ c.move_first.ensures
