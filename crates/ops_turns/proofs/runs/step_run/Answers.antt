use Rattle.std.proofs.Common.{ap, arith, length, refl, subst, sym, ◌<◌, ◌≡◌, ◌∙◌}
use Rattle.std.proofs.lemmas.Option.{slice_get_within}
use Rattle.std.specs.Prelude.{None, Some, option_copied, slice_get}
use Rattle.machine_data.specs.Labels.{choice_of}
use Rattle.machine_data.specs.Read.{callee_of, instance_of, task_of}
use Rattle.machine_data.specs.declared.component.Callee.{Callee}
use Rattle.machine_data.specs.declared.op.Op.TheVariants as op
use Rattle.machine_data.specs.declared.op.TaskOp.TheVariants as task
use Rattle.ops_guests.specs.Steps.{label_of}
use Rattle.ops_turns.proofs.CoveredLemmas.{home_below}
use Rattle.ops_turns.proofs.OrderLemmas.{number_at, runner}
use Rattle.ops_turns.proofs.RunLemmas.{op_is, row_at, script_is}
use Rattle.ops_turns.proofs.SteppedLemmas.{made_room, of_made, run_steps, run_wants, step_made}
use Rattle.ops_turns.proofs.runs.step_run.Goals as goal
use Rattle.core_primitives.specs.StateView.{thread_of}

pub at-point-requires : goal.at-point-requires
at-point-requires g c =
    let s = g.W.View.view c.args.w.now in
    (runner c.args.component.now c.args.number s c.requires.order c.none_is_zero.ensures.threads c.requires.runs c.in-Some.thread (sym c.current.ensures ∙ c.in-Some.is)).live

pub run_by-requires-clause-runner : goal.run_by-requires-clause-runner
run_by-requires-clause-runner g c =
    let s = g.W.View.view c.args.w.now in
    runner c.args.component.now c.args.number s c.requires.order c.none_is_zero.ensures.threads c.requires.runs c.in-Some.thread (sym c.current.ensures ∙ c.in-Some.is)

pub run_exit-requires : goal.run_exit-requires
run_exit-requires g c =
    let s = g.W.View.view c.args.w.now in
    record { runner = runner c.args.component.now c.args.number s c.requires.order c.none_is_zero.ensures.threads c.requires.runs c.in-Some.thread (sym c.current.ensures ∙ c.in-Some.is); room = c.requires.room }

pub run_by-requires-clause-fits : goal.run_by-requires-clause-fits
run_by-requires-clause-fits g c =
    c.requires.covered.ops c.at-point.result.callee c.at-point.result.script c.at-point.result.position c.in-Some-op_at.op.now (subst (λ os. slice_get os c.at-point.result.position ≡ Some c.in-Some-op_at.op.now) c.script_ops-script.ensures (sym (sym (ap option_copied c.in-Some-op_at.is) ∙ c.op_at.ensures)))

pub run_by-requires-clause-within : goal.run_by-requires-clause-within
run_by-requires-clause-within g c =
    let s = g.W.View.view c.args.w.now in
    let n = thread_of s c.in-Some.thread in
    let q = runner c.args.component.now c.args.number s c.requires.order c.none_is_zero.ensures.threads c.requires.runs c.in-Some.thread (sym c.current.ensures ∙ c.in-Some.is) in (
      subst (λ k. k < length c.script_ops-script.result.now) c.at-point.ensures.position (slice_get_within c.script_ops-script.result.now c.at-point.result.position c.in-Some-op_at.op.now (sym (sym (ap option_copied c.in-Some-op_at.is) ∙ c.op_at.ensures))),
      ap length (script_is c.args.component.now n s.core q.thread q.here c.script_ops-script.result.now c.at-point.result.callee (task_of n s.core) c.at-point.result.position c.at-point.result.script c.at-point.ensures.callee refl (c.at-point.ensures.script q.thread q.here) c.script_ops-script.ensures c.at-point.ensures.position),
    )

pub run_by-requires-clause-handles : goal.run_by-requires-clause-handles
run_by-requires-clause-handles g c =
    let s = g.W.View.view c.args.w.now in
    let n = thread_of s c.in-Some.thread in
    let own : c.at-point.result.callee ≡ callee_of (task_of n s.core) s.core = c.at-point.ensures.callee in
    c.requires.order.handles (instance_of n s.core) (subst (λ (f : Callee). f.instance < length c.args.component.now.instances) own
    (home_below c.args.component.now c.at-point.result.callee c.at-point.result.script c.at-point.result.position c.in-Some-op_at.op.now (subst (λ os. slice_get os c.at-point.result.position ≡ Some c.in-Some-op_at.op.now) c.script_ops-script.ensures (sym (sym (ap option_copied c.in-Some-op_at.is) ∙ c.op_at.ensures)))))

pub returns-in-Some-op_at-clause-ran : goal.returns-in-Some-op_at-clause-ran
returns-in-Some-op_at-clause-ran g c =
    let s = g.W.View.view c.args.w.now in
    let n = thread_of s c.in-Some.thread in
    let q = runner c.args.component.now c.args.number s c.requires.order c.none_is_zero.ensures.threads c.requires.runs c.in-Some.thread (sym c.current.ensures ∙ c.in-Some.is) in
    let t = g.W.View.view c.run_by.new.w in
    let comp = c.args.component.now in
    let number = number_at c.args.number s c.requires.runs c.in-Some.thread (sym c.current.ensures ∙ c.in-Some.is) in
    let o = c.in-Some-op_at.op.now in
    let e = sym (ap option_copied c.in-Some-op_at.is) ∙ c.op_at.ensures in
    let is = op_is c.args.component.now n s.core q.thread q.here c.script_ops-script.result.now c.at-point.result.callee (task_of n s.core) c.at-point.result.position c.at-point.result.script c.at-point.ensures.callee refl (c.at-point.ensures.script q.thread q.here) c.script_ops-script.ensures c.at-point.ensures.position (Some o) e in
    run_steps comp c.in-Some.thread c.args.number s t number o is
    (λ r. row_at c.args.component.now n s.core q.thread q.here c.script_ops-script.result.now c.at-point.result.callee (task_of n s.core) c.at-point.result.position c.at-point.result.script c.at-point.ensures.callee refl (c.at-point.ensures.script q.thread q.here) c.script_ops-script.ensures c.at-point.ensures.position (Some o) e (choice_of (label_of n r)))
    c.args.trace.now.labels c.run_by.new.trace.labels c.run_by.result c.run_by.ensures.step c.run_by.ensures.polls

pub returns-in-Some-op_at-clause-full : goal.returns-in-Some-op_at-clause-full
returns-in-Some-op_at-clause-full g c lacks =
    let s = g.W.View.view c.args.w.now in
    let n = thread_of s c.in-Some.thread in
    let q = runner c.args.component.now c.args.number s c.requires.order c.none_is_zero.ensures.threads c.requires.runs c.in-Some.thread (sym c.current.ensures ∙ c.in-Some.is) in
    let t = g.W.View.view c.run_by.new.w in
    let comp = c.args.component.now in
    let number = number_at c.args.number s c.requires.runs c.in-Some.thread (sym c.current.ensures ∙ c.in-Some.is) in
    let o = c.in-Some-op_at.op.now in
    let e = sym (ap option_copied c.in-Some-op_at.is) ∙ c.op_at.ensures in
    let is = op_is c.args.component.now n s.core q.thread q.here c.script_ops-script.result.now c.at-point.result.callee (task_of n s.core) c.at-point.result.position c.at-point.result.script c.at-point.ensures.callee refl (c.at-point.ensures.script q.thread q.here) c.script_ops-script.ensures c.at-point.ensures.position (Some o) e in
    run_wants comp c.in-Some.thread c.args.number s t number o is
    (λ r. row_at c.args.component.now n s.core q.thread q.here c.script_ops-script.result.now c.at-point.result.callee (task_of n s.core) c.at-point.result.position c.at-point.result.script c.at-point.ensures.callee refl (c.at-point.ensures.script q.thread q.here) c.script_ops-script.ensures c.at-point.ensures.position (Some o) e (choice_of (label_of n r)))
    (c.run_by.ensures.step.full lacks).0

pub returns-in-None-clause-ran : goal.returns-in-None-clause-ran
returns-in-None-clause-ran g c =
    let s = g.W.View.view c.args.w.now in
    let n = thread_of s c.in-Some.thread in
    let q = runner c.args.component.now c.args.number s c.requires.order c.none_is_zero.ensures.threads c.requires.runs c.in-Some.thread (sym c.current.ensures ∙ c.in-Some.is) in
    let t = g.W.View.view c.run_exit.new.w in
    let comp = c.args.component.now in
    let number = number_at c.args.number s c.requires.runs c.in-Some.thread (sym c.current.ensures ∙ c.in-Some.is) in
    let e = sym (ap option_copied c.in-None.is) ∙ c.op_at.ensures in
    let is = op_is c.args.component.now n s.core q.thread q.here c.script_ops-script.result.now c.at-point.result.callee (task_of n s.core) c.at-point.result.position c.at-point.result.script c.at-point.ensures.callee refl (c.at-point.ensures.script q.thread q.here) c.script_ops-script.ensures c.at-point.ensures.position None e in
    let before = c.args.trace.now.labels in
    let after = c.run_exit.new.trace.labels in
    of_made c.run_exit.result c.run_exit.ensures.made
    (step_made comp c.in-Some.thread c.args.number s t number (op.Task task.Exit) is
    (λ r. row_at c.args.component.now n s.core q.thread q.here c.script_ops-script.result.now c.at-point.result.callee (task_of n s.core) c.at-point.result.position c.at-point.result.script c.at-point.ensures.callee refl (c.at-point.ensures.script q.thread q.here) c.script_ops-script.ensures c.at-point.ensures.position None e (choice_of (label_of n r)))
    before after c.run_exit.result (c.run_exit.ensures.shown comp) refl)

pub returns-in-None-clause-full : goal.returns-in-None-clause-full
returns-in-None-clause-full g c lacks = absurd (made_room c.run_exit.result c.run_exit.ensures.made lacks)

pub returns-in-None-clause-spare : goal.returns-in-None-clause-spare
returns-in-None-clause-spare g c = record { most = omega (arith, c.run_exit.ensures.spare); unmade = λ unmade. absurd (let no = sym c.run_exit.ensures.made ∙ unmade in cc) }
