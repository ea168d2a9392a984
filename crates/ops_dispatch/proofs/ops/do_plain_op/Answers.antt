use Rattle.ops_dispatch.proofs.OpLemmas.{named_op}
use Rattle.ops_dispatch.proofs.StayLemmas.{ok_then}
use Rattle.ops_dispatch.proofs.ops.do_plain_op.Goals as goal
use Rattle.ops_dispatch.specs.Continues.{DoesOp}
use Rattle.ops_guests.specs.Does.{Rule}
use Rattle.ops_guests.specs.Works.{KeepsTold, NamesTold}
use Rattle.ops_guests.specs.declared.op_result.OpResult.{OpResult}
use Rattle.machine_rules.specs.Sets.{set_rule}
use Rattle.machine_rules.specs.Task.{task_rule}
use Rattle.machine_rules.specs.Threads.{thread_rule}

pub returns-in-Task-clause-does : goal.returns-in-Task-clause-does
returns-in-Task-clause-does g c =
    let v = g.W.View.view in
    rw c.in-Task.is (named_op (λ d n ch s. task_rule d n s ch c.in-Task.op) c.args.thread (v c.args.w.now) (v c.do_task_op.new.w) c.do_task_op.result c.do_task_op.ensures.does)

pub returns-in-Set-clause-does : goal.returns-in-Set-clause-does
returns-in-Set-clause-does g c =
    let v = g.W.View.view in
    let s = v c.args.w.now in
    let t = v c.do_set_op.new.w in
    let rule : Rule = λ d n ch s. set_rule d n s ch c.in-Set.op in
    rw c.in-Set.is (ok_then (λ (r : OpResult). DoesOp KeepsTold rule c.args.thread s r t) (λ (r : OpResult). DoesOp NamesTold rule c.args.thread s r t) c.do_set_op.result (λ r h. named_op rule c.args.thread s t r h) c.do_set_op.ensures.does)

pub returns-in-Call-clause-does : goal.returns-in-Call-clause-does
returns-in-Call-clause-does g c = rw c.in-Call.is c.do_plain_call.ensures.does

pub returns-in-Thread-clause-does : goal.returns-in-Thread-clause-does
returns-in-Thread-clause-does g c =
    let v = g.W.View.view in
    let s = v c.args.w.now in
    let t = v c.do_thread_op.new.w in
    let rule : Rule = λ d n ch s. thread_rule d c.args.component.now n s c.in-Thread.op in
    rw c.in-Thread.is (ok_then (λ (r : OpResult). DoesOp KeepsTold rule c.args.thread s r t) (λ (r : OpResult). DoesOp NamesTold rule c.args.thread s r t) c.do_thread_op.result (λ r h. named_op rule c.args.thread s t r h) c.do_thread_op.ensures.does)
