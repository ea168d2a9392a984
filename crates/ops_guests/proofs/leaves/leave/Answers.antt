use Rattle.ops_guests.proofs.LeaveLemmas.{can_after_restore, leaves_core, left_apart, left_is, left_may_stop}
use Rattle.ops_guests.proofs.leaves.leave.Goals as goal

pub return_value-requires : goal.return_value-requires
return_value-requires g c = can_after_restore c.args.thread c.task_of-call.result c.args.waiter _ (g.W.View.view c.args.w.now) _ c.task_of-call.ensures.is c.requires.can c.restore.ensures

pub stop-requires-clause-may : goal.stop-requires-clause-may
stop-requires-clause-may g c =
    let v = g.W.View.view in
    let s = v c.args.w.now in
    left_may_stop c.args.thread c.task_of-call.result c.args.waiter c.foot_of-foot.result _ c.register-value.result s (v c.return_value.new.w) c.requires.running c.requires.can c.foot_of-foot.ensures.is
    (left_is c.args.thread c.task_of-call.result c.args.waiter c.register-value.result s (v c.restore.new.w) (v c.return_value.new.w) c.restore.ensures c.return_value.ensures)

pub end_thread-requires-clause-apart : goal.end_thread-requires-clause-apart
end_thread-requires-clause-apart g c =
    let v = g.W.View.view in
    let s = v c.args.w.now in
    left_apart c.args.thread c.task_of-call.result c.args.waiter _ _ c.register-value.result s (v c.return_value.new.w) (v c.stop.new.w) c.requires.running c.requires.can
    (left_is c.args.thread c.task_of-call.result c.args.waiter c.register-value.result s (v c.restore.new.w) (v c.return_value.new.w) c.restore.ensures c.return_value.ensures) c.stop.ensures

pub returns-clause-core : goal.returns-clause-core
returns-clause-core g c =
    let v = g.W.View.view in
    let s = v c.args.w.now in
    leaves_core c.args.thread c.task_of-call.result c.args.waiter c.foot_of-foot.result c.register-value.result s (v c.return_value.new.w) (v c.stop.new.w) (v c.end_thread.new.w).core c.task_of-call.ensures.is c.register-value.ensures c.foot_of-foot.ensures.is
    (left_is c.args.thread c.task_of-call.result c.args.waiter c.register-value.result s (v c.restore.new.w) (v c.return_value.new.w) c.restore.ensures c.return_value.ensures) c.stop.ensures c.end_thread.ensures.core
