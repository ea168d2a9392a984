use Rattle.ops_subtasks.proofs.GuestLemmas.{out_same, out_switched}
use Rattle.ops_subtasks.proofs.withdrawals.take_out.Goals as goal

pub returns-then-switched : goal.returns-then-switched
returns-then-switched g c = out_switched c.args.thread (g.W.View.view c.args.w.now) _ _ (c.is_switched-switched.ensures.yes c.if-switched.true) c.unqueue.ensures c.set_switch.ensures

pub returns-else-switched : goal.returns-else-switched
returns-else-switched g c = out_same c.args.thread (g.W.View.view c.args.w.now) _ (c.is_switched-switched.ensures.no c.if-switched.false) c.unqueue.ensures
