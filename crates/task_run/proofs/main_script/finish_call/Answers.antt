-- The result of the call, if it is there, is main's.
use Rattle.std.proofs.Common.{◌∙◌, ap, refl, subst, sym}
use Rattle.std.specs.Option.{option_map}
use Rattle.std.proofs.lemmas.Option.{slice_get-map}
use Rattle.machine_data.specs.Core.{Scripted}
use Rattle.machine_data.specs.declared.label.Label.TheVariants as label
use Rattle.machine_data.specs.declared.label.MainLabel.TheVariants as main_label
use Rattle.machine_data.specs.declared.scenario.MainOpDef.TheVariants as machine
use Rattle.ops_guests.specs.Works.{KeepsWorks}
use Rattle.machine_rules.specs.MainOps.{finish_act, finish_result}
use Rattle.task_run.specs.Script.{machine_op, part_of, place_of, script_of}
use Rattle.task_run.proofs.ScriptLemmas.{did_by_rule, pends_by_rule}
use Rattle.task_run.proofs.StepLemmas.{script_stepped}
use Rattle.task_loop.proofs.StartLemmas.{finish_holds}
use Rattle.task_store.specs.Hosts.{held_by}
use Rattle.ops_turns.specs.Main.{Steps}
use Rattle.ops_turns.specs.Turn.{running_of}
use Rattle.ops_turns.specs.declared.mains.MainStep.TheVariants as step
use Rattle.core_primitives.specs.StateView.{StateView}
use Rattle.task_run.proofs.main_script.finish_call.Goals as goal

pub returns-in-Ready-clause-steps : goal.returns-in-Ready-clause-steps
returns-in-Ready-clause-steps c w =
    let d = w.args.component.now in
    let main = w.args.main.now in
    let s = w.args.access.now.store.now in
    let p = place_of main in
    let o = machine.Finish w.args.start w.args.register in
    let at = slice_get-map machine_op main.ops.now main.at ∙ ap (option_map machine_op) w.requires.op in
    let t = record s { state = w.finish_call.new.w } in
    let works = finish_holds (held_by c.H.HostWork.course s) _ s.state w.finish_call.new.w w.finish_call.result w.finish_call.ensures.finishes w.requires.may.works in
    let after = Scripted (record (place_of w.set_register.new.self) { position = w.next_place-at.result }) in
    let l = main_label.Finish w.args.start w.in-Ready.value in
    let fin = w.in-Ready.ensures.finishes in
    let row = ap (finish_act w.args.start s.state.core) w.in-Ok.ensures ∙ ap (finish_result w.args.start _ s.state.core) fin.0 in
    let steps : Steps d (script_of main) (part_of main) s.state.core (step.Did (label.Main l)) after t.state.core =
    rw (fin.1, w.set_register.ensures.registers, w.set_register.ensures.starts, w.set_register.ensures.spawns, w.next_place-at.ensures)
    (did_by_rule d (script_of main) p s.state.core o at l _ row tt) in
    script_stepped c.H.HostWork.course d main s w.requires.may (step.Did (label.Main l)) _ t w.set_register.ensures.ops w.set_register.ensures.spawns refl (ap (λ (v : StateView). v.tags.tracked) fin.1) steps refl (ap running_of fin.1)
    (subst (λ (u : StateView). KeepsWorks s.state u) (sym fin.1) (λ id live. refl)) works

pub returns-in-Pending-clause-steps : goal.returns-in-Pending-clause-steps
returns-in-Pending-clause-steps c w =
    let d = w.args.component.now in
    let main = w.args.main.now in
    let s = w.args.access.now.store.now in
    let p = place_of main in
    let o = machine.Finish w.args.start w.args.register in
    let at = slice_get-map machine_op main.ops.now main.at ∙ ap (option_map machine_op) w.requires.op in
    let t = record s { state = w.finish_call.new.w } in
    let works = finish_holds (held_by c.H.HostWork.course s) _ s.state w.finish_call.new.w w.finish_call.result w.finish_call.ensures.finishes w.requires.may.works in
    let fin = w.in-Pending.ensures.finishes in
    let row = ap (finish_act w.args.start s.state.core) w.in-Ok.ensures ∙ ap (finish_result w.args.start _ s.state.core) fin.0 in
    let steps : Steps d (script_of main) (part_of main) s.state.core step.Pends (part_of main) t.state.core = rw fin.1 (pends_by_rule d (script_of main) p s.state.core o at row) in
    script_stepped c.H.HostWork.course d main s w.requires.may step.Pends main t refl refl refl (ap (λ (v : StateView). v.tags.tracked) fin.1) steps refl (ap running_of fin.1)
    (subst (λ (u : StateView). KeepsWorks s.state u) (sym fin.1) (λ id live. refl)) works

pub returns-in-Err-clause-steps : goal.returns-in-Err-clause-steps
returns-in-Err-clause-steps c w =
    let d = w.args.component.now in
    let main = w.args.main.now in
    let s = w.args.access.now.store.now in
    let p = place_of main in
    let o = machine.Finish w.args.start w.args.register in
    let at = slice_get-map machine_op main.ops.now main.at ∙ ap (option_map machine_op) w.requires.op in
    let after = Scripted (record p { position = w.next_place-at.result }) in
    let l = main_label.FinishRefused w.in-Err.why w.args.start in
    let steps : Steps d (script_of main) (part_of main) s.state.core (step.Did (label.Main l)) after s.state.core =
    rw w.next_place-at.ensures (did_by_rule d (script_of main) p s.state.core o at l _ (ap (finish_act w.args.start s.state.core) w.in-Err.ensures) tt) in
    script_stepped c.H.HostWork.course d main s w.requires.may (step.Did (label.Main l)) _ s refl refl refl refl steps refl refl (λ id live. refl) w.requires.may.works
