use Rattle.ops_dispatch.proofs.OpLemmas.{alike_op, named_op, scripted_op_rule}
use Rattle.ops_dispatch.proofs.StayLemmas.{ok_then}
use Rattle.ops_dispatch.proofs.SubtaskRules.{drop_shows}
use Rattle.ops_dispatch.proofs.call_dispatch.do_plain_call.Goals as goal
use Rattle.ops_dispatch.specs.Continues.{DoesOp, cancels_here}
use Rattle.ops_dispatch.specs.Rules.{calls_here, calls_in_sync, rule_of}
use Rattle.std.proofs.Common.{ap, rules, subst, sym}
use Rattle.std.specs.Prelude.{IfOk, List, ℕ, ◌≡◌}
use Rattle.machine_data.specs.Read.{op_progress_of}
use Rattle.machine_data.specs.declared.op.CallOp.TheVariants as call_op
use Rattle.machine_data.specs.declared.op.Op.TheVariants as op
use Rattle.machine_data.specs.declared.op.Operand.{Operand}
use Rattle.ops_guests.specs.declared.op_result.OpResult.{OpResult}
use Rattle.ops_guests.specs.Works.{KeepsTold, NamesTold}
use Rattle.machine_rules.specs.Cancels.{Async, Sync, cancel_rule, drop_rule}
use Rattle.machine_rules.specs.Finish.{SomeHost}
use Rattle.core_primitives.specs.StateView.{thread_of}

pub returns-in-Call-clause-does : goal.returns-in-Call-clause-does
returns-in-Call-clause-does g c =
    let s = g.W.View.view c.args.w.now in
    let t = g.W.View.view c.call.new.w in
    let id = c.args.thread in
    let xs = c.as_slice.result.now in
    let same : xs ≡ c.in-Call.params = search rules in
    let rule = calls_here c.args.component.now c.in-Call.result c.in-Call.callee in
    rw c.in-Call.is
    (subst (λ (ys : List Operand). IfOk c.call.result (λ (r : OpResult). DoesOp NamesTold (rule ys) id s r t)) same
    (ok_then (λ (r : OpResult). DoesOp KeepsTold (rule xs) id s r t) (λ (r : OpResult). DoesOp NamesTold (rule xs) id s r t) c.call.result (λ r did. named_op (rule xs) id s t r did) c.call.ensures.does))

pub returns-in-CallSync-clause-does : goal.returns-in-CallSync-clause-does
returns-in-CallSync-clause-does g c =
    let s = g.W.View.view c.args.w.now in
    let t = g.W.View.view c.call_sync.new.w in
    let id = c.args.thread in
    let xs = c.as_slice-in-CallSync.result.now in
    let same : xs ≡ c.in-CallSync.params = search rules in
    let rule = calls_in_sync c.args.component.now c.in-CallSync.callee in
    rw c.in-CallSync.is
    (subst (λ (ys : List Operand). IfOk c.call_sync.result (λ (r : OpResult). DoesOp NamesTold (rule ys) id s r t)) same
    (ok_then (λ (r : OpResult). DoesOp KeepsTold (rule xs) id s r t) (λ (r : OpResult). DoesOp NamesTold (rule xs) id s r t) c.call_sync.result (λ r did. named_op (rule xs) id s t r did) c.call_sync.ensures.does))

pub returns-in-Cancel-clause-does : goal.returns-in-Cancel-clause-does
returns-in-Cancel-clause-does g c =
    let s = g.W.View.view c.args.w.now in
    let t = g.W.View.view c.cancel.new.w in
    let n = thread_of s c.args.thread in
    let id = c.args.thread in
    let own = cancels_here Async c.value_of-handle.result in
    let rule = rule_of c.args.component.now (op.Call (call_op.Cancel c.in-Cancel.to c.in-Cancel.subtask)) in
    rw c.in-Cancel.is
    (ok_then (λ (r : OpResult). DoesOp KeepsTold own id s r t) (λ (r : OpResult). DoesOp NamesTold rule id s r t) c.cancel.result
    (λ r did. named_op rule id s t r (scripted_op_rule KeepsTold own rule id s t r did
    (λ d. ap (λ (x : ℕ). cancel_rule d Async n x s.core (op_progress_of n s.core)) (sym c.value_of-handle.ensures)))) c.cancel.ensures.does)

pub returns-in-CancelSync-clause-does : goal.returns-in-CancelSync-clause-does
returns-in-CancelSync-clause-does g c =
    let s = g.W.View.view c.args.w.now in
    let t = g.W.View.view c.cancel-in-CancelSync.new.w in
    let n = thread_of s c.args.thread in
    let id = c.args.thread in
    let own = cancels_here Sync c.value_of-handle-in-CancelSync.result in
    let rule = rule_of c.args.component.now (op.Call (call_op.CancelSync c.in-CancelSync.to c.in-CancelSync.subtask)) in
    rw c.in-CancelSync.is
    (ok_then (λ (r : OpResult). DoesOp KeepsTold own id s r t) (λ (r : OpResult). DoesOp NamesTold rule id s r t) c.cancel-in-CancelSync.result
    (λ r did. named_op rule id s t r (scripted_op_rule KeepsTold own rule id s t r did
    (λ d. ap (λ (x : ℕ). cancel_rule d Sync n x s.core (op_progress_of n s.core)) (sym c.value_of-handle-in-CancelSync.ensures)))) c.cancel-in-CancelSync.ensures.does)

pub returns-in-Drop-clause-does : goal.returns-in-Drop-clause-does
returns-in-Drop-clause-does g c =
    let s = g.W.View.view c.args.w.now in
    let t = g.W.View.view c.drop_subtask.new.w in
    let n = thread_of s c.args.thread in
    let e = c.drop_subtask.ensures in
    let h = c.value_of-handle-in-Drop.result in
    rw c.in-Drop.is
    (alike_op NamesTold NamesTold (λ d n ch s. drop_rule d n h s) (rule_of c.args.component.now (op.Call (call_op.Drop c.in-Drop.subtask))) c.args.thread s t c.drop_subtask.result
    (drop_shows n s.core SomeHost h) c.requires.runner.current e.current e.thread (λ k. k)
    (λ d ch. ap (λ (x : ℕ). drop_rule d n x s.core) (sym c.value_of-handle-in-Drop.ensures)) e.does)
