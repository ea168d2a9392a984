use Rattle.std.proofs.Common.{ap, arith, subst, sym, ◌∙◌}
use Rattle.run_trace.specs.Traced.{Traced}
use Rattle.std.specs.Prelude.{Bool, List, None, Option, Some, false}
use Rattle.laws_states.specs.Order.{WorksQueued}
use Rattle.machine_data.specs.Core.{Unscripted}
use Rattle.machine_data.specs.declared.label.Label.{Label}
use Rattle.machine_data.specs.declared.records.Turn.TheVariants as turn
use Rattle.ops_turns.proofs.SteppedLemmas.{made_room, made_told, of_made}
use Rattle.ops_turns.proofs.ThereLemmas.{idle_there, took_beside, took_there}
use Rattle.ops_turns.proofs.turns.take.Goals as goal
use Rattle.ops_guests.specs.Works.{KeepsTold}
use Rattle.ops_turns.specs.StepResult.{Added, IsInTrace, is_made}
use Rattle.ops_turns.specs.Turn.{CoreInOrder, TurnedBeside}
use Rattle.ops_turns.specs.declared.made.MadeStep.{MadeStep}
use Rattle.core_primitives.specs.StateView.{StateView}

pub rest-requires-clause-works : goal.rest-requires-clause-works
rest-requires-clause-works g c =
    let v = g.W.View.view in
    let s = v c.args.w.now in
    let u = v c.step_take-taken.new.w in
    let comp = c.args.component.now in
    let took = c.step_take-taken.ensures.took.nothing c.in-Nothing.is in
    subst (λ (s : StateView). WorksQueued s.core) (sym took.0.1) (c.requires.at.order.order Unscripted).works

-- ---- An entry was taken, or it is out of memory

pub returns-in_default-clause-turned : goal.returns-in_default-clause-turned
returns-in_default-clause-turned g c =
    let comp = c.args.component.now in
    let s = g.W.View.view c.args.w.now in
    let t = g.W.View.view c.step_take-taken.new.w in
    took_beside comp c.args.trap_on_idle c.args.ended s c.args.trace.now.labels c.step_take-taken.result t c.step_take-taken.new.trace.labels c.in_default.not-Nothing c.step_take-taken.ensures.took

pub returns-in_default-clause-there : goal.returns-in_default-clause-there
returns-in_default-clause-there g c room =
    let comp = c.args.component.now in
    let s = g.W.View.view c.args.w.now in
    let t = g.W.View.view c.step_take-taken.new.w in
    let q = c.step_take-taken.result in
    took_there comp c.args.ended s t c.requires.at.order q c.args.trace.now.labels c.step_take-taken.new.trace.labels (made_told q c.in_default.not-Nothing room c.step_take-taken.ensures.took) c.step_take-taken.ensures.took

-- ---- Nothing is there

pub returns-in-Some-clause-turned : goal.returns-in-Some-clause-turned
returns-in-Some-clause-turned g c =
    let v = g.W.View.view in
    let s = v c.args.w.now in
    let u = v c.step_take-taken.new.w in
    let t = v c.rest.new.w in
    let comp = c.args.component.now in
    let b = c.args.trap_on_idle in
    let took = c.step_take-taken.ensures.took.nothing c.in-Nothing.is in
    let in_turn = subst (λ (w : StateView). CoreInOrder comp (turn.Take false) w.core) (sym took.0.1) (subst (λ (e : Bool). CoreInOrder comp (turn.Take e) s.core) c.if-ended.false c.requires.at.order) in
    let turned = subst (λ (o : Option MadeStep). TurnedBeside comp b (turn.Take false) u o t) c.in-Some.is (c.rest.ensures.turned comp in_turn) in
    let beside = subst (λ (e : Bool). TurnedBeside comp b (turn.Take e) s (Some c.in-Some.made) t) (sym c.if-ended.false) (subst (λ (w : StateView). TurnedBeside comp b (turn.Take false) w (Some c.in-Some.made) t) took.0.1 turned) in
    of_made {M = Added (λ step. TurnedBeside comp b (turn.Take c.args.ended) s (Some step) t) c.put.result c.args.trace.now.labels c.put.new.trace.labels} c.put.result c.put.ensures.made (c.in-Some.made, (subst (λ (l : List Label). IsInTrace c.put.result l c.in-Some.made c.put.new.trace.labels) took.1 c.put.ensures.in_trace, beside))

pub returns-in-None-clause-turned : goal.returns-in-None-clause-turned
returns-in-None-clause-turned g c =
    let v = g.W.View.view in
    let s = v c.args.w.now in
    let u = v c.step_take-taken.new.w in
    let t = v c.rest.new.w in
    let comp = c.args.component.now in
    let b = c.args.trap_on_idle in
    let took = c.step_take-taken.ensures.took.nothing c.in-Nothing.is in
    let in_turn = subst (λ (w : StateView). CoreInOrder comp (turn.Take false) w.core) (sym took.0.1) (subst (λ (e : Bool). CoreInOrder comp (turn.Take e) s.core) c.if-ended.false c.requires.at.order) in
    let turned = subst (λ (o : Option MadeStep). TurnedBeside comp b (turn.Take false) u o t) c.in-None.is (c.rest.ensures.turned comp in_turn) in
    let beside = subst (λ (e : Bool). TurnedBeside comp b (turn.Take e) s None t) (sym c.if-ended.false) (subst (λ (w : StateView). TurnedBeside comp b (turn.Take false) w None t) took.0.1 turned) in
    record { made = λ e. absurd (cc); nothing = λ e. (beside, took.1); full = λ e. absurd (cc); failed = λ e. absurd (cc) }

pub returns-in-Some-clause-there : goal.returns-in-Some-clause-there
returns-in-Some-clause-there g c room = idle_there (g.W.View.view c.rest.new.w) c.rest.ensures.current

pub returns-in-None-clause-there : goal.returns-in-None-clause-there
returns-in-None-clause-there g c room = idle_there (g.W.View.view c.rest.new.w) c.rest.ensures.current

pub returns-in-Some-clause-works : goal.returns-in-Some-clause-works
returns-in-Some-clause-works g c =
    let v = g.W.View.view in
    let s = v c.args.w.now in
    let u = v c.step_take-taken.new.w in
    let comp = c.args.component.now in
    let took = c.step_take-taken.ensures.took.nothing c.in-Nothing.is in
    subst (λ (w : StateView). KeepsTold w (v c.rest.new.w)) took.0.1 c.rest.ensures.works

pub returns-in-None-clause-works : goal.returns-in-None-clause-works
returns-in-None-clause-works g c =
    let v = g.W.View.view in
    let s = v c.args.w.now in
    let u = v c.step_take-taken.new.w in
    let comp = c.args.component.now in
    let took = c.step_take-taken.ensures.took.nothing c.in-Nothing.is in
    subst (λ (w : StateView). KeepsTold w (v c.rest.new.w)) took.0.1 c.rest.ensures.works

-- ---- The room that is left

pub put-requires : goal.put-requires
put-requires g c = rw (c.step_take-taken.ensures.spare.unmade (ap is_made c.in-Nothing.is)) c.requires.room

pub returns-in-Some-clause-spare : goal.returns-in-Some-clause-spare
returns-in-Some-clause-spare g c =
    let still = ap (λ (ts : Traced). ts.spare) (c.step_take-taken.ensures.spare.unmade (ap is_made c.in-Nothing.is)) in
    record { most = omega (arith, still, c.put.ensures.spare); unmade = λ unmade. absurd (let no = sym c.put.ensures.made ∙ unmade in cc) }

pub returns-in-None-clause-spare : goal.returns-in-None-clause-spare
returns-in-None-clause-spare g c =
    let still = c.step_take-taken.ensures.spare.unmade (ap is_made c.in-Nothing.is) in
    let same = ap (λ (ts : Traced). ts.spare) still in
    record { most = omega (arith, same); unmade = λ unmade. still }

pub returns-in-Some-clause-full : goal.returns-in-Some-clause-full
returns-in-Some-clause-full g c lacks = absurd (made_room c.put.result c.put.ensures.made lacks)

pub returns-in-None-clause-full : goal.returns-in-None-clause-full
returns-in-None-clause-full g c lacks = absurd (cc)
