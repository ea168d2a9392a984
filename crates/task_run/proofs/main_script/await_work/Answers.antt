-- Main goes on if the work of the spawn has ended, or there is none.
use Rattle.std.proofs.Common.{◌∙◌, ap, refl, subst, sym}
use Rattle.std.specs.Option.{option_map}
use Rattle.std.specs.Prelude.{Bool, ℕ, ◌-◌}
use Rattle.std.proofs.lemmas.Option.{slice_get-map}
use Rattle.machine_data.specs.Core.{Scripted}
use Rattle.machine_data.specs.declared.label.Label.TheVariants as label
use Rattle.machine_data.specs.declared.label.MainLabel.TheVariants as main_label
use Rattle.machine_data.specs.declared.scenario.MainOpDef.TheVariants as machine
use Rattle.machine_data.specs.Read.{phase_of}
use Rattle.ops_guests.specs.Works.{KeepsWorks}
use Rattle.machine_rules.specs.MainOps.{is_complete, unless_pending}
use Rattle.task_run.specs.Script.{machine_op, part_of, place_of, script_of}
use Rattle.task_run.proofs.ScriptLemmas.{did_by_rule, pends_by_rule}
use Rattle.task_run.proofs.SpawnLemmas.{spawn_known}
use Rattle.task_run.proofs.StepLemmas.{script_stepped}
use Rattle.task_run.proofs.main_script.await_work.Goals as goal
use Rattle.ops_turns.specs.Main.{Steps}
use Rattle.ops_turns.specs.Turn.{running_of}
use Rattle.ops_turns.specs.declared.mains.MainStep.TheVariants as step
use Rattle.core_primitives.specs.StateView.{StateView}

pub is_complete-requires-clause-spawned : goal.is_complete-requires-clause-spawned
is_complete-requires-clause-spawned g w = spawn_known w.args.main.now w.args.access.now.store.now.state (w.args.spawn - 1) w.spawned-work.result w.spawned-work.ensures.is w.requires.may.knows

pub returns-then-not-is_complete-clause-step : goal.returns-then-not-is_complete-clause-step
returns-then-not-is_complete-clause-step g w =
    let d = w.args.component.now in
    let main = w.args.main.now in
    let s = w.args.access.now.store.now in
    let p = place_of main in
    let o = machine.Await w.args.spawn in
    let at = slice_get-map machine_op main.ops.now main.at ∙ ap (option_map machine_op) w.requires.op in
    let t = w.is_complete.new.access.store.now in
    let store = w.is_complete.ensures.store in
    let row = ap (λ (i : ℕ). unless_pending (is_complete (phase_of i s.state.core)) (main_label.Await w.args.spawn) s.state.core) w.spawned-work.ensures.number
    ∙ ap (λ (b : Bool). unless_pending b (main_label.Await w.args.spawn) s.state.core) (sym w.is_complete.ensures.answer ∙ w.if-not-is_complete.true) in
    let steps : Steps d (script_of main) (part_of main) s.state.core step.Pends (part_of main) t.state.core = rw store (pends_by_rule d (script_of main) p s.state.core o at row) in
    script_stepped g.H.HostWork.course d main s w.requires.may step.Pends main t refl refl (ap (λ st. st.listeners) store) (ap (λ st. st.state.tags.tracked) store) steps refl (ap (λ st. running_of st.state) store)
    (subst (λ (u : StateView). KeepsWorks s.state u) (sym (ap (λ st. st.state) store)) (λ id live. refl)) w.is_complete.ensures.hosts

pub returns-clause-step : goal.returns-clause-step
returns-clause-step g w =
    let d = w.args.component.now in
    let main = w.args.main.now in
    let s = w.args.access.now.store.now in
    let p = place_of main in
    let o = machine.Await w.args.spawn in
    let at = slice_get-map machine_op main.ops.now main.at ∙ ap (option_map machine_op) w.requires.op in
    let t = w.is_complete.new.access.store.now in
    let after = Scripted (record p { position = w.next_place-at.result }) in
    let l = main_label.Await w.args.spawn in
    let store = w.is_complete.ensures.store in
    let row = ap (λ (i : ℕ). unless_pending (is_complete (phase_of i s.state.core)) (main_label.Await w.args.spawn) s.state.core) w.spawned-work.ensures.number
    ∙ ap (λ (b : Bool). unless_pending b (main_label.Await w.args.spawn) s.state.core) (sym w.is_complete.ensures.answer ∙ w.if-not-is_complete.false) in
    let steps : Steps d (script_of main) (part_of main) s.state.core (step.Did (label.Main l)) after t.state.core =
    rw (store, w.next_place-at.ensures) (did_by_rule d (script_of main) p s.state.core o at l s.state.core row tt) in
    script_stepped g.H.HostWork.course d main s w.requires.may (step.Did (label.Main l)) _ t refl refl (ap (λ st. st.listeners) store) (ap (λ st. st.state.tags.tracked) store) steps refl (ap (λ st. running_of st.state) store)
    (subst (λ (u : StateView). KeepsWorks s.state u) (sym (ap (λ st. st.state) store)) (λ id live. refl)) w.is_complete.ensures.hosts
