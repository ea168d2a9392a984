use Rattle.ops_guests.proofs.OpenLemmas.{can_after_open, opened_core, opened_running}
use Rattle.ops_guests.proofs.leaves.leave_open.Goals as goal

pub return_value-requires : goal.return_value-requires
return_value-requires g c =
    let v = g.W.View.view in
    can_after_open c.args.thread c.task_of-call.result c.args.waiter _ (v c.args.w.now) (v c.reopen.new.w) c.requires.running c.reopen.ensures _ c.task_of-call.ensures.is c.requires.can

pub stop_and_end-requires-clause-running : goal.stop_and_end-requires-clause-running
stop_and_end-requires-clause-running g c =
    let v = g.W.View.view in
    opened_running c.args.thread c.task_of-call.result c.args.waiter _ (v c.args.w.now) (v c.reopen.new.w) c.requires.running c.reopen.ensures c.register-value.result _ (v c.return_value.new.w) c.requires.can c.return_value.ensures

pub returns-clause-core : goal.returns-clause-core
returns-clause-core g c =
    let v = g.W.View.view in
    opened_core c.args.thread c.task_of-call.result c.args.waiter _ (v c.args.w.now) (v c.reopen.new.w) c.requires.running c.reopen.ensures c.register-value.result _ (v c.return_value.new.w) c.requires.can c.return_value.ensures _
    c.task_of-call.ensures.is c.register-value.ensures c.instance_of-instance.ensures c.stop_and_end.ensures.core
