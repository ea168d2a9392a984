-- The work that was spawned is queued, and main has its handle.
use Rattle.std.proofs.Common.{◌∙◌, ◌+◌, ap, inl, refl, subst, sym}
use Rattle.std.specs.Option.{option_map}
use Rattle.std.specs.Prelude.{IsSome, List, None, Option, slice_get, ℕ}
use Rattle.std.proofs.lemmas.List.{length-map, map_push}
use Rattle.std.proofs.lemmas.Result.{err_from_is_err_and}
use Rattle.std.proofs.lemmas.Option.{slice_get-map}
use Rattle.task_loop.proofs.LackLemmas.{tells_none}
use Rattle.task_loop.proofs.MainStepLemmas.{stepped_quietly}
use Rattle.task_loop.proofs.StartLemmas.{current_still}
use Rattle.machine_data.specs.Core.{Unscripted}
use Rattle.machine_data.specs.declared.component.HostDef.{HostDef}
use Rattle.machine_data.specs.declared.label.Label.TheVariants as label
use Rattle.machine_data.specs.declared.label.MainLabel.TheVariants as main_label
use Rattle.machine_data.specs.declared.records.WorkCaller.TheVariants as work_caller
use Rattle.machine_data.specs.declared.scenario.MainOpDef.TheVariants as machine
use Rattle.machine_rules.specs.Calls.{next_work, work_queued}
use Rattle.machine_rules.specs.MainOps.{Does, main_spawned}
use Rattle.task_run.specs.Says.{script_says}
use Rattle.task_run.specs.Script.{machine_op, part_of, place_of, script_of}
use Rattle.task_run.proofs.ScriptLemmas.{did_by_rule, spawned_rule}
use Rattle.task_run.proofs.SpawnLemmas.{knows_more}
use Rattle.task_run.proofs.StepLemmas.{suits_still}
use Rattle.task_run.proofs.main_script.spawn_work.Goals as goal
use Rattle.task_store.specs.declared.spawn.SpawnHandle.{SpawnHandle}
use Rattle.task_store.specs.declared.store.Store.{Store}
use Rattle.ops_turns.specs.Main.{Steps}
use Rattle.ops_turns.specs.declared.mains.MainStep.TheVariants as step

-- the script spawns a host that is there
pub unreachable-requires : goal.unreachable-requires
unreachable-requires g w =
    let there = w.requires.may.suits.spawns w.args.main.now.at w.args.host w.requires.op in
    let none = sym (ap (λ (hs : List HostDef). slice_get hs w.args.host) w.as_slice.ensures) ∙ (sym w.host_here.ensures ∙ w.in_default.is) in
    let clash = subst (λ (o : Option HostDef). IsSome o) none there in
    cc

pub returns-clause-steps : goal.returns-clause-steps
returns-clause-steps g w =
    let d = w.args.component.now in
    let main = w.args.main.now in
    let s = w.args.access.now.store.now in
    let t = w.spawn.new.self in
    let n = w.keep_spawn.new.self in
    let may = w.requires.may in
    let there = w.in-Some.ensures ∙ ap (λ (hs : List HostDef). slice_get hs w.args.host) w.as_slice.ensures in
    let number = w.number-future.ensures ∙ w.in-Ok.ensures.spawns.number in
    let core = w.in-Ok.ensures.spawns.core ∙ ap (λ (h : HostDef). work_queued work_caller.Spawn h None s.state.core) w.from_host.ensures in
    let k = w.next_spawn-number.result in
    let l = label.Main (main_label.Spawn k w.number-future.result) in
    let row = ap (λ (i : ℕ). Does (main_label.Spawn i (next_work s.state.core)) (main_spawned d w.args.host s.state.core)) (ap (λ (i : ℕ). i + 1) (length-map main.spawns.items (λ (h : SpawnHandle). h.number)) ∙ sym w.next_spawn-number.ensures)
    ∙ spawned_rule d w.args.host w.in-Some.def s.state.core t.state.core k w.number-future.result there core number in
    let steps : Steps d (script_of main) (part_of main) s.state.core (step.Did l) (part_of n) t.state.core =
    rw (w.in_ok-keep_spawn.ensures.at, w.in_ok-keep_spawn.ensures.registers, w.in_ok-keep_spawn.ensures.starts, w.in_ok-keep_spawn.ensures.spawns, map_push, sym w.number-future.ensures)
    (did_by_rule d (script_of main) (place_of main) s.state.core (machine.Spawn w.args.host) (slice_get-map machine_op main.ops.now main.at ∙ ap (option_map machine_op) w.requires.op) (main_label.Spawn k w.number-future.result) t.state.core row tt) in
    stepped_quietly script_says g.H.HostWork.course d (step.Did l) main s n t (ap (λ (st : Store _ _ _). st.listeners) w.spawn.ensures.spawns.rest) w.spawn.ensures.spawns.tags.same steps refl may.asked
    (current_still s.state t.state w.spawn.ensures.spawns.current may.idle ∙ sym may.idle) tt (suits_still d main n w.in_ok-keep_spawn.ensures.ops may.suits)
    (knows_more d (script_of main) (part_of main) (part_of n) l main n s.state t.state w.in-Ok.work w.in_ok-keep_spawn.ensures.spawns w.in-Ok.ensures.spawns.spawned may.order steps (λ id live. w.spawn.ensures.spawns.tags.works id live) may.knows)
    (w.spawn.ensures.spawns.hosts (may.order.order Unscripted).works.made may.works)

-- ---- It is out of memory

pub returns-in_default-spawn-clause-steps : goal.returns-in_default-spawn-clause-steps
returns-in_default-spawn-clause-steps g w = inl (refl, tells_none _ _ (ap (λ (st : Store _ _ _). st.listeners) w.spawn.ensures.spawns.rest))

pub returns-in_err-keep_spawn-clause-steps : goal.returns-in_err-keep_spawn-clause-steps
returns-in_err-keep_spawn-clause-steps g w =
    let answered = err_from_is_err_and w.from_residual.result w.from_residual.ensures.1 in
    rw (answered.1, answered.2) (inl (refl, tells_none _ _ (ap (λ (st : Store _ _ _). st.listeners) w.spawn.ensures.spawns.rest)))
