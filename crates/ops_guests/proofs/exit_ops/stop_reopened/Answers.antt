use Rattle.ops_guests.proofs.ExitLemmas.{reopened_may_stop, stopped_in_order}
use Rattle.ops_guests.proofs.exit_ops.stop_reopened.Goals as goal

pub stop-requires-clause-may : goal.stop-requires-clause-may
stop-requires-clause-may g c = reopened_may_stop c.args.thread c.foot_of-foot.result _ (g.W.View.view c.args.w.now) _ c.requires.running c.foot_of-foot.ensures.is c.reopen.ensures

pub returns : goal.returns
returns g c = stopped_in_order c.args.thread c.foot_of-foot.result _ (g.W.View.view c.args.w.now) (g.W.View.view c.reopen.new.w) _ c.instance_of-instance.ensures c.foot_of-foot.ensures.is c.reopen.ensures c.stop.ensures
