use Rattle.ops_guests.proofs.ExitLemmas.{check_may_stop, checked_stopped_apart}
use Rattle.ops_guests.proofs.exit_ops.stop_and_end.Goals as goal

pub stop-requires-clause-may : goal.stop-requires-clause-may
stop-requires-clause-may g c = check_may_stop c.args.thread c.foot_of-foot.result _ (g.W.View.view c.args.w.now) _ c.requires.running c.foot_of-foot.ensures.is c.check.ensures

pub end_thread-requires-clause-apart : goal.end_thread-requires-clause-apart
end_thread-requires-clause-apart g c = checked_stopped_apart c.args.thread _ _ (g.W.View.view c.args.w.now) (g.W.View.view c.check.new.w) _ c.requires.running c.check.ensures c.stop.ensures
