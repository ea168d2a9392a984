-- The work of the spawn, if there is one, is aborted.
use Rattle.std.proofs.Common.{◌∙◌, ap, refl, subst, sym}
use Rattle.std.specs.Option.{option_map}
use Rattle.std.specs.Prelude.{◌-◌}
use Rattle.std.proofs.lemmas.Option.{slice_get-map}
use Rattle.machine_data.specs.Core.{Scripted}
use Rattle.machine_data.specs.declared.label.Label.TheVariants as label
use Rattle.machine_data.specs.declared.label.MainLabel.TheVariants as main_label
use Rattle.machine_data.specs.declared.scenario.MainOpDef.TheVariants as machine
use Rattle.ops_guests.specs.Works.{KeepsWorks}
use Rattle.machine_rules.specs.MainOps.{spawned_at}
use Rattle.task_run.specs.Script.{machine_op, part_of, place_of, script_of}
use Rattle.task_run.specs.Spawns.{number_in}
use Rattle.task_run.proofs.ScriptLemmas.{did_by_rule}
use Rattle.task_run.proofs.SpawnLemmas.{aborted_rule, spawn_known}
use Rattle.task_run.proofs.StepLemmas.{script_stepped}
use Rattle.task_run.proofs.main_script.abort_work.Goals as goal
use Rattle.ops_turns.specs.Main.{Steps}
use Rattle.ops_turns.specs.Turn.{running_of}
use Rattle.ops_turns.specs.declared.mains.MainStep.TheVariants as step
use Rattle.core_primitives.specs.StateView.{StateView}

pub abort-phase-requires-clause-spawned : goal.abort-phase-requires-clause-spawned
abort-phase-requires-clause-spawned g w = spawn_known w.args.main.now w.args.access.now.store.now.state (w.args.spawn - 1) w.spawned-work.result w.spawned-work.ensures.is w.requires.may.knows

pub returns-clause-step : goal.returns-clause-step
returns-clause-step g w =
    let d = w.args.component.now in
    let main = w.args.main.now in
    let s = w.args.access.now.store.now in
    let p = place_of main in
    let o = machine.Abort w.args.spawn in
    let at = slice_get-map machine_op main.ops.now main.at ∙ ap (option_map machine_op) w.requires.op in
    let t = w.abort-phase.new.access.store.now in
    let after = Scripted (record p { position = w.next_place-at.result }) in
    let l = main_label.Abort w.abort-phase.result w.args.spawn in
    let state = ap (λ st. st.state) w.abort-phase.ensures.store in
    let row = aborted_rule s.state.core (spawned_at p w.args.spawn) (number_in w.spawned-work.result) w.args.spawn w.abort-phase.result t.state.core w.spawned-work.ensures.number w.abort-phase.ensures.phase (ap (λ st. st.state.core) w.abort-phase.ensures.store) in
    let steps : Steps d (script_of main) (part_of main) s.state.core (step.Did (label.Main l)) after t.state.core =
    rw w.next_place-at.ensures (did_by_rule d (script_of main) p s.state.core o at l _ row tt) in
    script_stepped g.H.HostWork.course d main s w.requires.may (step.Did (label.Main l)) _ t refl refl (ap (λ st. st.listeners) w.abort-phase.ensures.store) (ap (λ st. st.state.tags.tracked) w.abort-phase.ensures.store) steps refl (ap (λ st. running_of st.state) w.abort-phase.ensures.store)
    (subst (λ (u : StateView). KeepsWorks s.state u) (sym state) (λ id live. refl)) w.abort-phase.ensures.hosts
