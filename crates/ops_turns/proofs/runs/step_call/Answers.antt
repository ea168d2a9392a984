-- The op is looked up anew, and calls a host.
use Rattle.ops_guests.specs.Steps.{label_of}
use Rattle.machine_data.specs.Labels.{choice_of}
use Rattle.ops_dispatch.specs.Fits.{calls_host}
use Rattle.std.proofs.Common.{ap, length, refl, subst, sym, ◌<◌, ◌≡◌, ◌∙◌}
use Rattle.std.proofs.lemmas.Option.{slice_get_within}
use Rattle.std.specs.Prelude.{None, Some, option_copied, true, ℕ}
use Rattle.machine_data.specs.Read.{task_of}
use Rattle.machine_rules.specs.Scripts.{op_of}
use Rattle.ops_turns.proofs.OrderLemmas.{number_at, runner}
use Rattle.ops_turns.proofs.RunLemmas.{op_is, row_at}
use Rattle.ops_turns.proofs.SteppedLemmas.{call_steps, err_then, run_wants}
use Rattle.ops_turns.proofs.runs.step_call.Goals as goal
use Rattle.core_primitives.specs.StateView.{thread_of}

pub at-point-requires : goal.at-point-requires
at-point-requires g c =
    let s = g.W.View.view c.args.w.now in
    (runner c.args.component.now c.args.number s c.requires.order c.none_is_zero.ensures.threads c.requires.runs c.in-Some.thread (sym c.current.ensures ∙ c.in-Some.is)).live

pub run_host-requires-clause-runner : goal.run_host-requires-clause-runner
run_host-requires-clause-runner g c =
    let s = g.W.View.view c.args.w.now in
    runner c.args.component.now c.args.number s c.requires.order c.none_is_zero.ensures.threads c.requires.runs c.in-Some.thread (sym c.current.ensures ∙ c.in-Some.is)

pub run_host-requires-clause-within : goal.run_host-requires-clause-within
run_host-requires-clause-within g c =
    subst (λ k. k < length c.script_ops-body.result.now) c.at-point.ensures.position (slice_get_within c.script_ops-body.result.now c.at-point.result.position c.in-Some-op_at.op.now (sym (sym (ap option_copied c.in-Some-op_at.is) ∙ c.op_at.ensures)))

pub run_host-requires-clause-calls : goal.run_host-requires-clause-calls
run_host-requires-clause-calls g c =
    let s = g.W.View.view c.args.w.now in
    let n = thread_of s c.in-Some.thread in
    let q = runner c.args.component.now c.args.number s c.requires.order c.none_is_zero.ensures.threads c.requires.runs c.in-Some.thread (sym c.current.ensures ∙ c.in-Some.is) in
    let comp = c.args.component.now in
    let number = number_at c.args.number s c.requires.runs c.in-Some.thread (sym c.current.ensures ∙ c.in-Some.is) in
    let o = c.in-Some-op_at.op.now in
    let is = op_is comp n s.core q.thread q.here c.script_ops-body.result.now c.at-point.result.callee (task_of n s.core) c.at-point.result.position c.at-point.result.script c.at-point.ensures.callee refl (c.at-point.ensures.script q.thread q.here) c.script_ops-body.ensures c.at-point.ensures.position (Some o) (sym (ap option_copied c.in-Some-op_at.is) ∙ c.op_at.ensures) in
    sym (ap calls_host is) ∙ subst (λ (k : ℕ). calls_host (op_of comp k s.core) ≡ true) (sym number) c.requires.calls

pub unreachable-requires-in-None : goal.unreachable-requires-in-None
unreachable-requires-in-None g c =
    let s = g.W.View.view c.args.w.now in
    let n = thread_of s c.in-Some.thread in
    let q = runner c.args.component.now c.args.number s c.requires.order c.none_is_zero.ensures.threads c.requires.runs c.in-Some.thread (sym c.current.ensures ∙ c.in-Some.is) in
    let comp = c.args.component.now in
    let number = number_at c.args.number s c.requires.runs c.in-Some.thread (sym c.current.ensures ∙ c.in-Some.is) in
    let is = op_is comp n s.core q.thread q.here c.script_ops-body.result.now c.at-point.result.callee (task_of n s.core) c.at-point.result.position c.at-point.result.script c.at-point.ensures.callee refl (c.at-point.ensures.script q.thread q.here) c.script_ops-body.ensures c.at-point.ensures.position None (sym (ap option_copied c.in-None.is) ∙ c.op_at.ensures) in
    let calls = sym (ap calls_host is) ∙ subst (λ (k : ℕ). calls_host (op_of comp k s.core) ≡ true) (sym number) c.requires.calls in
    cc

pub returns-clause-ran : goal.returns-clause-ran
returns-clause-ran g c =
    let s = g.W.View.view c.args.w.now in
    let n = thread_of s c.in-Some.thread in
    let q = runner c.args.component.now c.args.number s c.requires.order c.none_is_zero.ensures.threads c.requires.runs c.in-Some.thread (sym c.current.ensures ∙ c.in-Some.is) in
    let t = g.W.View.view c.run_host.new.w in
    let comp = c.args.component.now in
    let number = number_at c.args.number s c.requires.runs c.in-Some.thread (sym c.current.ensures ∙ c.in-Some.is) in
    let o = c.in-Some-op_at.op.now in
    let e = sym (ap option_copied c.in-Some-op_at.is) ∙ c.op_at.ensures in
    let is = op_is comp n s.core q.thread q.here c.script_ops-body.result.now c.at-point.result.callee (task_of n s.core) c.at-point.result.position c.at-point.result.script c.at-point.ensures.callee refl (c.at-point.ensures.script q.thread q.here) c.script_ops-body.ensures c.at-point.ensures.position (Some o) e in
    call_steps comp c.in-Some.thread c.args.number s t number o is
    (λ r. row_at comp n s.core q.thread q.here c.script_ops-body.result.now c.at-point.result.callee (task_of n s.core) c.at-point.result.position c.at-point.result.script c.at-point.ensures.callee refl (c.at-point.ensures.script q.thread q.here) c.script_ops-body.ensures c.at-point.ensures.position (Some o) e (choice_of (label_of n r)))
    c.args.answer c.run_host.result c.run_host.ensures.ran c.run_host.ensures.work

pub returns-clause-err : goal.returns-clause-err
returns-clause-err g c =
    let s = g.W.View.view c.args.w.now in
    let n = thread_of s c.in-Some.thread in
    let q = runner c.args.component.now c.args.number s c.requires.order c.none_is_zero.ensures.threads c.requires.runs c.in-Some.thread (sym c.current.ensures ∙ c.in-Some.is) in
    let t = g.W.View.view c.run_host.new.w in
    let comp = c.args.component.now in
    let number = number_at c.args.number s c.requires.runs c.in-Some.thread (sym c.current.ensures ∙ c.in-Some.is) in
    let o = c.in-Some-op_at.op.now in
    let e = sym (ap option_copied c.in-Some-op_at.is) ∙ c.op_at.ensures in
    let is = op_is comp n s.core q.thread q.here c.script_ops-body.result.now c.at-point.result.callee (task_of n s.core) c.at-point.result.position c.at-point.result.script c.at-point.ensures.callee refl (c.at-point.ensures.script q.thread q.here) c.script_ops-body.ensures c.at-point.ensures.position (Some o) e in
    err_then c.run_host.result (λ wants. run_wants comp c.in-Some.thread c.args.number s t number o is
    (λ r. row_at comp n s.core q.thread q.here c.script_ops-body.result.now c.at-point.result.callee (task_of n s.core) c.at-point.result.position c.at-point.result.script c.at-point.ensures.callee refl (c.at-point.ensures.script q.thread q.here) c.script_ops-body.ensures c.at-point.ensures.position (Some o) e (choice_of (label_of n r))) wants)
    c.run_host.ensures.err
