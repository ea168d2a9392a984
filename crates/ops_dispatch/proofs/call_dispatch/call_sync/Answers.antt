use Rattle.ops_dispatch.proofs.CallLemmas.{answered_at, called_at}
use Rattle.ops_dispatch.proofs.OpLemmas.{alike_op, call_told}
use Rattle.ops_dispatch.proofs.SubtaskRules.{sync_status_shows}
use Rattle.ops_dispatch.proofs.call_dispatch.call_sync.Goals as goal
use Rattle.ops_dispatch.specs.Rules.{calls_in_sync}
use Rattle.std.proofs.Common.{ap, refl, sym}
use Rattle.ops_subtasks.specs.Named.{LosesCallOf}
use Rattle.ops_subtasks.specs.Rules.{answers_value, goes_on_in_sync}
use Rattle.machine_data.specs.Read.{op_progress_of, registers_of}
use Rattle.machine_data.specs.declared.records.OpProgress.{OpProgress}
use Rattle.ops_guests.proofs.DoesLemmas.{same_rest}
use Rattle.ops_guests.specs.Does.{SameNames}
use Rattle.ops_guests.specs.Works.{KeepsTold}
use Rattle.machine_rules.specs.Calls.{call_sync_rule, status_found}
use Rattle.machine_rules.specs.Finish.{SomeHost}
use Rattle.machine_rules.specs.Scripts.{values_in}
use Rattle.core_primitives.specs.StateView.{call_of, thread_of}

pub returns-in-Some-clause-does : goal.returns-in-Some-clause-does
returns-in-Some-clause-does g c =
    let s = g.W.View.view c.args.w.now in
    let n = thread_of s c.args.thread in
    let comp = c.args.component.now in
    let words = values_in (registers_of n s.core) c.args.params.now in
    let far = answered_at (op_progress_of n s.core) c.in-Some.value (sym c.in-Some.ensures) in
    alike_op SameNames KeepsTold (answers_value c.in-Some.value) (calls_in_sync comp c.args.callee c.args.params.now) c.args.thread s s c.answer_call.result (refl, refl) c.requires.runner.current refl refl (λ k. (same_rest s s k).0)
    (λ d ch. ap (λ (f : OpProgress). call_sync_rule d comp n c.args.callee words s.core f) far) c.answer_call.ensures.does

pub returns-in-Some-called-clause-does : goal.returns-in-Some-called-clause-does
returns-in-Some-called-clause-does g c =
    let s = g.W.View.view c.args.w.now in
    let t = g.W.View.view c.go_on_calling_sync.new.w in
    let n = thread_of s c.args.thread in
    let comp = c.args.component.now in
    let k = call_of s c.in-Some-called.call in
    let words = values_in (registers_of n s.core) c.args.params.now in
    let far = called_at (op_progress_of n s.core) k (sym c.in-Some-called.ensures.is) in
    let e = c.go_on_calling_sync.ensures in
    alike_op (LosesCallOf c.in-Some-called.call) KeepsTold (goes_on_in_sync k) (calls_in_sync comp c.args.callee c.args.params.now) c.args.thread s t c.go_on_calling_sync.result (sync_status_shows n s.core SomeHost k (status_found k s.core)) c.requires.runner.current e.does.kept.1 e.thread (call_told k s t)
    (λ d ch. ap (λ (f : OpProgress). call_sync_rule d comp n c.args.callee words s.core f) far) e.does
