use Rattle.ops_dispatch.specs.Makes.{makes, takes_memory}
use Rattle.ops_dispatch.specs.declared.done.Done.{Done}
use Rattle.std.proofs.Common.{ap, length, refl, subst, sym, ◌<◌, ◌≡◌, ◌∙◌}
use Rattle.std.proofs.lemmas.Option.{slice_get_within}
use Rattle.std.specs.Prelude.{IfOk, None, OnErr, Some, option_copied, slice_get, true}
use Rattle.machine_data.specs.Read.{callee_of, op_progress_of, instance_of, task_of}
use Rattle.machine_data.specs.declared.component.Callee.{Callee}
use Rattle.machine_data.specs.declared.op.Op.{Op}
use Rattle.ops_turns.proofs.CoveredLemmas.{home_below}
use Rattle.ops_turns.proofs.RunLemmas.{op_is, script_is}
use Rattle.ops_dispatch.proofs.EndLemmas.{exit_op}
use Rattle.ops_turns.proofs.runs.run_op.Goals as goal
use Rattle.ops_turns.specs.Ran.{DidOp}
use Rattle.core_primitives.specs.StateView.{thread_of}

pub do_op-requires-clause-fits : goal.do_op-requires-clause-fits
do_op-requires-clause-fits g c =
    c.requires.covered.ops c.at-point.result.callee c.at-point.result.script c.at-point.result.position c.in-Some.op.now
    (subst (λ os. slice_get os c.at-point.result.position ≡ Some c.in-Some.op.now) c.script_ops-body.ensures (sym c.op_at.ensures ∙ ap option_copied c.in-Some.is))

pub do_op-requires-clause-handles : goal.do_op-requires-clause-handles
do_op-requires-clause-handles g c =
    let s = g.W.View.view c.args.w.now in
    let n = thread_of s c.args.thread in
    let own : c.at-point.result.callee ≡ callee_of (task_of n s.core) s.core = c.at-point.ensures.callee in
    c.requires.handles (instance_of n s.core) (subst (λ (f : Callee). f.instance < length c.args.component.now.instances) own
    (home_below c.args.component.now c.at-point.result.callee c.at-point.result.script c.at-point.result.position c.in-Some.op.now (subst (λ os. slice_get os c.at-point.result.position ≡ Some c.in-Some.op.now) c.script_ops-body.ensures (sym c.op_at.ensures ∙ ap option_copied c.in-Some.is))))

pub do_op-requires-clause-within : goal.do_op-requires-clause-within
do_op-requires-clause-within g c =
    let s = g.W.View.view c.args.w.now in
    let n = thread_of s c.args.thread in
    let q = c.requires.runner in (
      subst (λ k. k < length c.script_ops-body.result.now) c.at-point.ensures.position (slice_get_within c.script_ops-body.result.now c.at-point.result.position c.in-Some.op.now (sym c.op_at.ensures ∙ ap option_copied c.in-Some.is)),
      ap length (script_is c.args.component.now n s.core q.thread q.here c.script_ops-body.result.now c.at-point.result.callee (task_of n s.core) c.at-point.result.position c.at-point.result.script c.at-point.ensures.callee refl (c.at-point.ensures.script q.thread q.here) c.script_ops-body.ensures c.at-point.ensures.position),
    )

pub do_op-requires-clause-few : goal.do_op-requires-clause-few
do_op-requires-clause-few g c made =
    let s = g.W.View.view c.args.w.now in
    let n = thread_of s c.args.thread in
    let q = c.requires.runner in
    let is = op_is c.args.component.now n s.core q.thread q.here c.script_ops-body.result.now c.at-point.result.callee (task_of n s.core) c.at-point.result.position c.at-point.result.script c.at-point.ensures.callee refl (c.at-point.ensures.script q.thread q.here) c.script_ops-body.ensures c.at-point.ensures.position (Some c.in-Some.op.now) (sym (ap option_copied c.in-Some.is) ∙ c.op_at.ensures) in
    c.requires.few (subst (λ (o : Op). makes (op_progress_of n s.core) o ≡ true) (sym is) made)

pub returns-in-Some-clause-err : goal.returns-in-Some-clause-err
returns-in-Some-clause-err g c =
    let s = g.W.View.view c.args.w.now in
    let t = g.W.View.view c.do_op.new.w in
    let n = thread_of s c.args.thread in
    let q = c.requires.runner in
    let is = op_is c.args.component.now n s.core q.thread q.here c.script_ops-body.result.now c.at-point.result.callee (task_of n s.core) c.at-point.result.position c.at-point.result.script c.at-point.ensures.callee refl (c.at-point.ensures.script q.thread q.here) c.script_ops-body.ensures c.at-point.ensures.position (Some c.in-Some.op.now) (sym (ap option_copied c.in-Some.is) ∙ c.op_at.ensures) in
    subst (λ (o : Op). OnErr c.do_op.result ((takes_memory o ≡ true) × (t ≡ s))) (sym is) c.do_op.ensures.err

pub returns-in-Some-clause-did : goal.returns-in-Some-clause-did
returns-in-Some-clause-did g c =
    let s = g.W.View.view c.args.w.now in
    let t = g.W.View.view c.do_op.new.w in
    let n = thread_of s c.args.thread in
    let q = c.requires.runner in
    let is = op_is c.args.component.now n s.core q.thread q.here c.script_ops-body.result.now c.at-point.result.callee (task_of n s.core) c.at-point.result.position c.at-point.result.script c.at-point.ensures.callee refl (c.at-point.ensures.script q.thread q.here) c.script_ops-body.ensures c.at-point.ensures.position (Some c.in-Some.op.now) (sym (ap option_copied c.in-Some.is) ∙ c.op_at.ensures) in
    subst (λ (o : Op). IfOk c.do_op.result (λ (d : Done). DidOp c.args.answer c.args.component.now o c.args.thread s d t)) (sym is) c.do_op.ensures.did

pub returns-in-None-clause-did : goal.returns-in-None-clause-did
returns-in-None-clause-did g c =
    let s = g.W.View.view c.args.w.now in
    let t = g.W.View.view c.exit.new.w in
    let n = thread_of s c.args.thread in
    let q = c.requires.runner in
    let is = op_is c.args.component.now n s.core q.thread q.here c.script_ops-body.result.now c.at-point.result.callee (task_of n s.core) c.at-point.result.position c.at-point.result.script c.at-point.ensures.callee refl (c.at-point.ensures.script q.thread q.here) c.script_ops-body.ensures c.at-point.ensures.position None (sym (ap option_copied c.in-None.is) ∙ c.op_at.ensures) in
    let done : Done = record { op_result = c.exit.result; polled = None; work = None } in
    subst (λ (o : Op). DidOp c.args.answer c.args.component.now o c.args.thread s done t) (sym is) (exit_op c.args.answer c.args.component.now c.args.thread s t c.exit.result c.exit.ensures.does)
