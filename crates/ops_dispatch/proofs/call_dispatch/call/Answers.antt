use Rattle.ops_dispatch.proofs.CallLemmas.{called_at, calls_as, queues_shows}
use Rattle.ops_dispatch.proofs.OpLemmas.{alike_op, call_told, tags_told}
use Rattle.ops_dispatch.proofs.StayLemmas.{ok_then}
use Rattle.ops_dispatch.proofs.SubtaskRules.{status_shows}
use Rattle.ops_dispatch.proofs.call_dispatch.call.Goals as goal
use Rattle.ops_dispatch.specs.Continues.{DoesOp}
use Rattle.ops_dispatch.specs.Rules.{calls_here}
use Rattle.std.proofs.Common.{ap, sym}
use Rattle.std.specs.Prelude.{length, take}
use Rattle.ops_subtasks.specs.Named.{LosesCallOf}
use Rattle.ops_subtasks.specs.Rules.{goes_on_with, queues_call}
use Rattle.machine_data.specs.Labels.{choice_of}
use Rattle.machine_data.specs.Read.{op_progress_of, registers_of}
use Rattle.machine_data.specs.declared.records.Goal.TheVariants as goals
use Rattle.machine_data.specs.declared.records.OpProgress.{OpProgress}
use Rattle.ops_guests.specs.Does.{DoesRule, KeepsNames}
use Rattle.ops_guests.specs.Steps.{label_of}
use Rattle.ops_guests.specs.Works.{KeepsTold}
use Rattle.ops_guests.specs.declared.op_result.OpResult.{OpResult}
use Rattle.machine_rules.specs.Calls.{call_rule, status_found}
use Rattle.machine_rules.specs.Finish.{SomeHost}
use Rattle.machine_rules.specs.Scripts.{values_in}
use Rattle.core_primitives.specs.StateView.{call_of, thread_of}

pub returns-in-Some-clause-does : goal.returns-in-Some-clause-does
returns-in-Some-clause-does g c =
    let s = g.W.View.view c.args.w.now in
    let t = g.W.View.view c.go_on_calling.new.w in
    let n = thread_of s c.args.thread in
    let id = c.args.thread in
    let k = call_of s c.in-Some.call in
    let e = c.go_on_calling.ensures in
    let comp = c.args.component.now in
    let words = values_in (registers_of n s.core) c.args.params.now in
    let far = called_at (op_progress_of n s.core) k (sym c.in-Some.ensures.is) in
    let rule = calls_here comp c.args.register c.args.callee c.args.params.now in
    ok_then (λ (r : OpResult). DoesRule (LosesCallOf c.in-Some.call) (goes_on_with k) id s r t) (λ (r : OpResult). DoesOp KeepsTold rule id s r t) c.go_on_calling.result
    (λ r h. alike_op (LosesCallOf c.in-Some.call) KeepsTold (goes_on_with k) rule id s t r (status_shows n s.core SomeHost k (status_found k s.core)) c.requires.runner.current h.kept.1 e.thread (call_told k s t)
    (λ d ch. ap (λ (f : OpProgress). call_rule d comp n c.args.register c.args.callee words s.core f) far) h) e.does

pub returns-clause-does : goal.returns-clause-does
returns-clause-does g c =
    let s = g.W.View.view c.args.w.now in
    let t = g.W.View.view c.begin_call.new.w in
    let n = thread_of s c.args.thread in
    let id = c.args.thread in
    let comp = c.args.component.now in
    let words = take (length c.args.params.now) c.read_operands.new.words in
    let given = values_in (registers_of n s.core) c.args.params.now in
    let x = c.export_kind-kind.result in
    let to = goals.Register c.args.register in
    let rule = calls_here comp c.args.register c.args.callee c.args.params.now in
    let own = queues_call x to c.args.callee words in
    ok_then (λ (r : OpResult). DoesRule KeepsNames own id s r t) (λ (r : OpResult). DoesOp KeepsTold rule id s r t) c.begin_call.result
    (λ r h. alike_op KeepsNames KeepsTold own rule id s t r (queues_shows x to c.args.callee words SomeHost n (choice_of (label_of n r)) s.core) c.requires.runner.current h.kept.1 (h.kept.0.threads id c.requires.runner.live) (λ k. tags_told s t k.0)
    (λ d ch. calls_as comp n d ch c.args.register c.args.callee words given x s.core (op_progress_of n s.core) c.export_kind-kind.ensures c.read_operands.ensures (sym c.in_default.ensures.is)) h) c.begin_call.ensures.does
