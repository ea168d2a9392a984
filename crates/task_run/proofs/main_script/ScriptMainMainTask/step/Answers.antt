-- Main's op is done, or main waits past the script's end.
use Rattle.std.proofs.Common.{◌≡◌, ◌∙◌, Some, None, ap, refl, sym}
use Rattle.std.specs.Prelude.{slice_get}
use Rattle.std.specs.Option.{option_map}
use Rattle.std.proofs.lemmas.Option.{slice_get-map}
use Rattle.machine_data.specs.declared.scenario.MainOpDef.TheVariants as machine
use Rattle.task_run.specs.declared.scenario.MainOp.{MainOp}
use Rattle.task_run.specs.declared.scenario.MainOp.TheVariants as main_op
use Rattle.task_run.specs.Script.{machine_op, part_of, place_of, script_of}
use Rattle.task_run.proofs.ScriptLemmas.{answers_by_rule, pends_past}
use Rattle.task_run.proofs.StepLemmas.{script_stepped}
use Rattle.task_run.proofs.main_script.ScriptMainMainTask.step.Goals as goal
use Rattle.ops_turns.specs.Main.{Steps}
use Rattle.ops_turns.specs.declared.mains.MainStep.TheVariants as step

pub returns-in-Some-Answer-clause-steps : goal.returns-in-Some-Answer-clause-steps
returns-in-Some-Answer-clause-steps c w =
    let d = w.args.component.now in
    let main = w.args.self.now in
    let s = w.args.access.now.store.now in
    let at : slice_get main.ops.now main.at ≡ Some (main_op.Answer w.in-Some-Answer.value) = sym w.in-Some-Answer.ensures ∙ ap (λ (o : MainOp). Some o) w.in-Some-Answer.field-0-is in
    let steps : Steps d (script_of main) (part_of main) s.state.core (step.Answer w.operand_value.result) (part_of main) s.state.core =
    rw w.operand_value.ensures
    (answers_by_rule d (script_of main) (place_of main) s.state.core (machine.Answer w.in-Some-Answer.value) (slice_get-map machine_op main.ops.now main.at ∙ ap (option_map machine_op) at) _ refl) in
    script_stepped c.H.HostWork.course d main s w.requires.may (step.Answer w.operand_value.result) main s refl refl refl refl steps refl refl (λ id live. refl) w.requires.may.works

pub returns-in-None-clause-steps : goal.returns-in-None-clause-steps
returns-in-None-clause-steps c w =
    let d = w.args.component.now in
    let main = w.args.self.now in
    let s = w.args.access.now.store.now in
    let at : slice_get main.ops.now main.at ≡ None = sym w.in-None.ensures in
    let steps : Steps d (script_of main) (part_of main) s.state.core step.Pends (part_of main) s.state.core =
    pends_past d (script_of main) (place_of main) s.state.core (slice_get-map machine_op main.ops.now main.at ∙ ap (option_map machine_op) at) in
    script_stepped c.H.HostWork.course d main s w.requires.may step.Pends main s refl refl refl refl steps refl refl (λ id live. refl) w.requires.may.works
