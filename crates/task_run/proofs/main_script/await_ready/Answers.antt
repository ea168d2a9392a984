-- Main goes on if the instance takes calls.
use Rattle.std.proofs.Common.{◌∙◌, ap, refl, sym}
use Rattle.std.specs.Option.{option_map}
use Rattle.std.specs.Prelude.{Bool}
use Rattle.std.proofs.lemmas.Option.{slice_get-map}
use Rattle.machine_data.specs.Core.{Scripted}
use Rattle.machine_data.specs.declared.label.Label.TheVariants as label
use Rattle.machine_data.specs.declared.label.MainLabel.TheVariants as main_label
use Rattle.machine_data.specs.declared.scenario.MainOpDef.TheVariants as machine
use Rattle.machine_rules.specs.MainOps.{unless_pending}
use Rattle.task_run.specs.Script.{machine_op, part_of, place_of, script_of}
use Rattle.task_run.proofs.ScriptLemmas.{did_by_rule, pends_by_rule}
use Rattle.task_run.proofs.StepLemmas.{script_stepped}
use Rattle.task_loop.specs.LoopCalls.{callee_of}
use Rattle.task_run.proofs.main_script.await_ready.Goals as goal
use Rattle.ops_turns.specs.Main.{Steps}
use Rattle.ops_turns.specs.declared.mains.MainStep.TheVariants as step

pub returns-then-not-is_ready-clause-step : goal.returns-then-not-is_ready-clause-step
returns-then-not-is_ready-clause-step g w =
    let d = w.args.component.now in
    let main = w.args.main.now in
    let s = w.args.access.now.store.now in
    let p = place_of main in
    let o = machine.Ready (callee_of w.args.func) in
    let at = slice_get-map machine_op main.ops.now main.at ∙ ap (option_map machine_op) w.requires.op in
    let row = ap (λ (b : Bool). unless_pending b main_label.Ready s.state.core) (sym w.is_ready.ensures ∙ w.if-not-is_ready.true) in
    script_stepped g.H.HostWork.course d main s w.requires.may step.Pends main s refl refl refl refl (pends_by_rule d (script_of main) p s.state.core o at row) refl refl (λ id live. refl) w.requires.may.works

pub returns-clause-step : goal.returns-clause-step
returns-clause-step g w =
    let d = w.args.component.now in
    let main = w.args.main.now in
    let s = w.args.access.now.store.now in
    let p = place_of main in
    let o = machine.Ready (callee_of w.args.func) in
    let at = slice_get-map machine_op main.ops.now main.at ∙ ap (option_map machine_op) w.requires.op in
    let after = Scripted (record p { position = w.next_place-at.result }) in
    let l = main_label.Ready in
    let row = ap (λ (b : Bool). unless_pending b main_label.Ready s.state.core) (sym w.is_ready.ensures ∙ w.if-not-is_ready.false) in
    let steps : Steps d (script_of main) (part_of main) s.state.core (step.Did (label.Main l)) after s.state.core =
    rw w.next_place-at.ensures (did_by_rule d (script_of main) p s.state.core o at l s.state.core row tt) in
    script_stepped g.H.HostWork.course d main s w.requires.may (step.Did (label.Main l)) _ s refl refl refl refl steps refl refl (λ id live. refl) w.requires.may.works
