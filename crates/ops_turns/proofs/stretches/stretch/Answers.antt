-- Each op of the stretch adds to the run, and in the end the context is written back.
use Rattle.std.proofs.Common.{ap, arith, length, refl, subst, sym, ◌+◌, ◌≡◌, ◌∙◌}
use Rattle.run_trace.specs.Traced.{Traced}
use Rattle.machine_data.specs.declared.label.Label.TheVariants as label
use Rattle.std.proofs.lemmas.Option.{slice_get_within}
use Rattle.std.specs.Prelude.{List, Some, [], option_copied, slice_get, ◌++◌, ◌∷◌}
use Rattle.machine_data.specs.Core.{Core}
use Rattle.machine_data.specs.Read.{op_progress_of, position_of, registers_of, task_of}
use Rattle.machine_data.specs.declared.label.Label.{Label}
use Rattle.machine_data.specs.declared.op.Op.{Op}
use Rattle.machine_data.specs.declared.op.Op.TheVariants as op
use Rattle.machine_data.specs.declared.records.OpProgress.TheVariants as op_progress
use Rattle.machine_data.specs.declared.records.Turn.TheVariants as turn
use Rattle.ops_turns.proofs.OrderLemmas.{number_at, runner, runs_still}
use Rattle.ops_turns.proofs.StretchLemmas.{begins, begun, beside_both, beside_same, beside_script, beside_there, computes_more, computes_none, keeps_on, stops_at, script_there, written, written_works}
use Rattle.ops_turns.proofs.stretches.stretch.Goals as goal
use Rattle.ops_turns.specs.Context.{state_in}
use Rattle.ops_turns.specs.Drive.{Computes, KeepsOn, StopsShort}
use Rattle.core_primitives.specs.StateView.{StateView, thread_of, with_core}

pub at-point-requires : goal.at-point-requires
at-point-requires g c =
    (runner c.args.component.now c.args.number (g.W.View.view c.args.w.now) c.requires.order c.none_is_zero.ensures.threads c.requires.runs c.in-Some.thread (sym c.current.ensures ∙ c.in-Some.is)).live

pub context_of-context-requires : goal.context_of-context-requires
context_of-context-requires g c =
    (runner c.args.component.now c.args.number (g.W.View.view c.args.w.now) c.requires.order c.none_is_zero.ensures.threads c.requires.runs c.in-Some.thread (sym c.current.ensures ∙ c.in-Some.is)).live

pub ops-init : goal.ops-init
ops-init g c =
    let s = g.W.View.view c.args.w.now in
    let current = sym c.current.ensures ∙ c.in-Some.is in
    let q = begun c.args.component.now c.args.number s c.requires.order c.none_is_zero.ensures.threads c.requires.runs c.in-Some.thread current c.at-point.result.callee (task_of (thread_of s c.in-Some.thread) s.core) c.at-point.result.script c.script_ops-script.result.now c.at-point.ensures.callee refl c.at-point.ensures.script c.script_ops-script.ensures in
    let number = number_at c.args.number s c.requires.runs c.in-Some.thread current in
    let x = c.context_of-context.result in
    let fresh = subst (λ k. op_progress_of k s.core ≡ op_progress.Fresh) number (c.if-not-is_plain.ensures.fresh refl) in
    let position = subst (λ k. x.position ≡ position_of k s.core) number c.context_of-context.ensures.position in
    let registers = subst (λ k. x.registers ≡ registers_of k s.core) number c.context_of-context.ensures.registers in
    let same = begins c.args.number s.core q.0 q.1.0 fresh x position registers in
    record {
      spare = omega arith;
      beside = beside_same s;
      on = subst (λ (d : Core). KeepsOn c.args.component.now (turn.Run c.args.number) s c.args.trace.now.labels c.args.added (with_core d s) c.args.trace.now.labels c.args.added) (sym same) (λ z component first trace numbers m going. going);
      computes = subst (λ (d : Core). Computes c.args.component.now (turn.Run c.args.number) s c.args.trace.now.labels c.args.added (with_core d s) c.args.trace.now.labels c.args.added) (sym same) (computes_none c.args.component.now (turn.Run c.args.number) s c.args.trace.now.labels c.args.added);
    }

pub returns-in_default-op_at-clause-on : goal.returns-in_default-op_at-clause-on
returns-in_default-op_at-clause-on g c =
    let s = g.W.View.view c.args.w.now in
    let number = number_at c.args.number s c.requires.runs c.in-Some.thread (sym c.current.ensures ∙ c.in-Some.is) in
    let back = written c.args.number s (g.W.View.view c.ops.w) (g.W.View.view c.set_context.new.self) c.in-Some.thread c.ops.context number c.ops.invariant.beside c.set_context.ensures in
    subst (λ (u : StateView). KeepsOn c.args.component.now (turn.Run c.args.number) s c.args.trace.now.labels c.args.added u c.ops.trace.labels c.ops.count) (sym back) c.ops.invariant.on

pub returns-in_default-op_at-clause-computes : goal.returns-in_default-op_at-clause-computes
returns-in_default-op_at-clause-computes g c =
    let s = g.W.View.view c.args.w.now in
    let number = number_at c.args.number s c.requires.runs c.in-Some.thread (sym c.current.ensures ∙ c.in-Some.is) in
    let back = written c.args.number s (g.W.View.view c.ops.w) (g.W.View.view c.set_context.new.self) c.in-Some.thread c.ops.context number c.ops.invariant.beside c.set_context.ensures in
    subst (λ (u : StateView). Computes c.args.component.now (turn.Run c.args.number) s c.args.trace.now.labels c.args.added u c.ops.trace.labels c.ops.count) (sym back) c.ops.invariant.computes

pub computes_in-label-requires-clause-there : goal.computes_in-label-requires-clause-there
computes_in-label-requires-clause-there g c =
    let s = g.W.View.view c.args.w.now in
    let q = begun c.args.component.now c.args.number s c.requires.order c.none_is_zero.ensures.threads c.requires.runs c.in-Some.thread (sym c.current.ensures ∙ c.in-Some.is) c.at-point.result.callee (task_of (thread_of s c.in-Some.thread) s.core) c.at-point.result.script c.script_ops-script.result.now c.at-point.ensures.callee refl c.at-point.ensures.script c.script_ops-script.ensures in
    (q.0, beside_there c.args.number s (g.W.View.view c.ops.w) c.ops.invariant.beside q.0 q.1.0)

pub computes_in-label-requires-clause-before : goal.computes_in-label-requires-clause-before
computes_in-label-requires-clause-before g c =
    slice_get_within c.script_ops-script.result.now c.ops.context.position c.in-Some-Data.field-0.now (sym c.op_at.ensures ∙ ap option_copied c.in-Some-Data.is)

pub ops-preserved : goal.ops-preserved
ops-preserved g c =
    let s = g.W.View.view c.args.w.now in
    let t = g.W.View.view c.ops.w in
    let u = g.W.View.view c.computes_in-label.new.w in
    let d = c.args.component.now in
    let n = c.args.number in
    let ops = c.script_ops-script.result.now in
    let beside = c.ops.invariant.beside in
    let q = begun d n s c.requires.order c.none_is_zero.ensures.threads c.requires.runs c.in-Some.thread (sym c.current.ensures ∙ c.in-Some.is) c.at-point.result.callee (task_of (thread_of s c.in-Some.thread) s.core) c.at-point.result.script ops c.at-point.ensures.callee refl c.at-point.ensures.script c.script_ops-script.ensures in
    let found = beside_there n s t beside q.0 q.1.0 in
    let runs = runs_still s t beside.tags beside.current ∙ c.requires.runs in
    let script = beside_script d n s t beside ∙ q.1.1 in
    let x = c.ops.context in
    let y = c.computes_in-label.new.context in
    let l = c.computes_in-label.result in
    let row = c.computes_in-label.ensures.row d (ap length (script_there d n t q.0 found runs ops script x)) in
    let here : slice_get ops x.position ≡ Some (op.Data c.in-Some-Data.op) = sym c.op_at.ensures ∙ (ap option_copied c.in-Some-Data.is ∙ ap (λ (o : Op). Some o) c.in-Some-Data.field-0-is) in
    let labels = ap (λ (ts : Traced). ts.labels) c.push.ensures ∙ ap (λ (ls : List Label). ls ++ label.Data l ∷ []) c.in-Ok.ensures.labels in
    let on = keeps_on d n t q.0 found runs ops script x c.in-Some-Data.op l y u c.computes_in-label.ensures.beside row here s c.args.trace.now.labels c.ops.trace.labels c.args.added c.ops.count c.ops.invariant.on in
    record {
      spare = omega (arith, c.ops.invariant.spare, ap (λ (ts : Traced). ts.spare) c.push.ensures, c.in-Ok.ensures.kept, c.in-Ok.ensures.room);
      beside = beside_both s t u beside c.computes_in-label.ensures.beside;
      on = subst (λ (ls : List Label). KeepsOn d (turn.Run n) s c.args.trace.now.labels c.args.added (state_in n y u) ls (c.ops.count + 1)) (sym labels) on;
      computes = subst (λ (ls : List Label). Computes d (turn.Run n) s c.args.trace.now.labels c.args.added (state_in n y u) ls (c.ops.count + 1)) (sym labels)
          (computes_more d n t q.0 found runs ops script x c.in-Some-Data.op l y u c.computes_in-label.ensures.beside row here s c.args.trace.now.labels c.ops.trace.labels c.args.added c.ops.count c.ops.invariant.computes);
    }

pub returns-clause-on : goal.returns-clause-on
returns-clause-on g c =
    let s = g.W.View.view c.args.w.now in
    let number = number_at c.args.number s c.requires.runs c.in-Some.thread (sym c.current.ensures ∙ c.in-Some.is) in
    let back = written c.args.number s (g.W.View.view c.ops.w) (g.W.View.view c.set_context-2.new.self) c.in-Some.thread c.ops.context number c.ops.invariant.beside c.set_context-2.ensures in
    let all : c.ops.count ≡ c.args.steps = omega (arith, c.ops-test.false) in
    subst (λ k. KeepsOn c.args.component.now (turn.Run c.args.number) s c.args.trace.now.labels c.args.added (g.W.View.view c.set_context-2.new.self) c.ops.trace.labels k) all
    (subst (λ (u : StateView). KeepsOn c.args.component.now (turn.Run c.args.number) s c.args.trace.now.labels c.args.added u c.ops.trace.labels c.ops.count) (sym back) c.ops.invariant.on)

-- there is no room for the next label, and the context is written back
pub returns-in_default-make_room-clause-err : goal.returns-in_default-make_room-clause-err
returns-in_default-make_room-clause-err g c =
    let s = g.W.View.view c.args.w.now in
    let number = number_at c.args.number s c.requires.runs c.in-Some.thread (sym c.current.ensures ∙ c.in-Some.is) in
    let back = written c.args.number s (g.W.View.view c.ops.w) (g.W.View.view c.set_context-in_default-make_room.new.self) c.in-Some.thread c.ops.context number c.ops.invariant.beside c.set_context-in_default-make_room.ensures in
    let none = c.in_default-make_room.ensures.err in
    rw none.0 (stops_at c.args.component.now c.args.number s c.args.trace.now c.args.added (g.W.View.view c.set_context-in_default-make_room.new.self) c.ops.trace c.ops.count c.args.steps (omega (arith, c.ops-test.true))
    (omega (arith, c.ops.invariant.spare, none.1))
    (subst (λ (u : StateView). KeepsOn c.args.component.now (turn.Run c.args.number) s c.args.trace.now.labels c.args.added u c.ops.trace.labels c.ops.count) (sym back) c.ops.invariant.on)
    (subst (λ (u : StateView). Computes c.args.component.now (turn.Run c.args.number) s c.args.trace.now.labels c.args.added u c.ops.trace.labels c.ops.count) (sym back) c.ops.invariant.computes))

pub returns-clause-computes : goal.returns-clause-computes
returns-clause-computes g c =
    let s = g.W.View.view c.args.w.now in
    let number = number_at c.args.number s c.requires.runs c.in-Some.thread (sym c.current.ensures ∙ c.in-Some.is) in
    let back = written c.args.number s (g.W.View.view c.ops.w) (g.W.View.view c.set_context-2.new.self) c.in-Some.thread c.ops.context number c.ops.invariant.beside c.set_context-2.ensures in
    let all : c.ops.count ≡ c.args.steps = omega (arith, c.ops-test.false) in
    subst (λ k. Computes c.args.component.now (turn.Run c.args.number) s c.args.trace.now.labels c.args.added (g.W.View.view c.set_context-2.new.self) c.ops.trace.labels k) all
    (subst (λ (u : StateView). Computes c.args.component.now (turn.Run c.args.number) s c.args.trace.now.labels c.args.added u c.ops.trace.labels c.ops.count) (sym back) c.ops.invariant.computes)

pub returns-in_default-op_at-clause-works : goal.returns-in_default-op_at-clause-works
returns-in_default-op_at-clause-works g c =
    let v = g.W.View.view in
    written_works (v c.args.w.now) (v c.ops.w) (v c.set_context.new.self) _ _ _ c.ops.invariant.beside c.set_context.ensures

pub returns-clause-works : goal.returns-clause-works
returns-clause-works g c =
    let v = g.W.View.view in
    written_works (v c.args.w.now) (v c.ops.w) (v c.set_context-2.new.self) _ _ _ c.ops.invariant.beside c.set_context-2.ensures

pub returns-in_default-make_room-clause-works : goal.returns-in_default-make_room-clause-works
returns-in_default-make_room-clause-works g c =
    let v = g.W.View.view in
    written_works (v c.args.w.now) (v c.ops.w) (v c.set_context-in_default-make_room.new.self) _ _ _ c.ops.invariant.beside c.set_context-in_default-make_room.ensures
