-- What came of the start is an op of main.
use Rattle.std.proofs.Common.{arith, inl, length, ◌≡◌, ◌∙◌, ◌+◌, ap, ap₂, refl, subst, sym, Err, Ok}
use Rattle.std.specs.Option.{option_map}
use Rattle.std.specs.Prelude.{IfSome, IsSome, Option}
use Rattle.std.proofs.lemmas.List.{length-map, map_push}
use Rattle.std.proofs.lemmas.Result.{err_from_is_err_and}
use Rattle.std.proofs.lemmas.Option.{slice_get-map}
use Rattle.machine_data.specs.Write.{set_trapped}
use Rattle.machine_data.specs.declared.component.ExportDef.{ExportDef}
use Rattle.machine_data.specs.declared.label.MainLabel.TheVariants as main_label
use Rattle.machine_data.specs.declared.records.Turn.TheVariants as turn
use Rattle.machine_data.specs.declared.scenario.MainOpDef.TheVariants as machine
use Rattle.machine_rules.specs.MainOps.{Does, start_act, start_refusal}
use Rattle.machine_rules.specs.Scripts.{value_in}
use Rattle.ops_calls.specs.MainCalls.{Starts}
use Rattle.ops_state.specs.declared.error.TaskError.{TaskError}
use Rattle.ops_state.specs.declared.error.TaskError.TheVariants as task_error
use Rattle.task_loop.proofs.CallStartLemmas.{stop_starts, stop_told}
use Rattle.task_loop.proofs.HookLemmas.{unfailed}
use Rattle.task_loop.proofs.LackLemmas.{started_tells, stopped_tells, tells_none}
use Rattle.task_loop.proofs.MainStartLemmas.{refusal_stepped, shows_refusal, shows_start, start_failed, start_stepped}
use Rattle.task_loop.specs.LoopCalls.{callee_of}
use Rattle.task_run.specs.Says.{script_says}
use Rattle.task_run.specs.Script.{machine_op, part_of, place_of, script_of, started_of}
use Rattle.task_run.proofs.ScriptLemmas.{asked_names, did_by_rule, refused_rule, start_names, started_rule}
use Rattle.task_run.proofs.SpawnLemmas.{knows_still}
use Rattle.task_run.proofs.StepLemmas.{suits_still}
use Rattle.ops_turns.specs.Main.{Steps}
use Rattle.core_primitives.specs.StateView.{on_core}
use Rattle.task_run.proofs.main_script.make_start.Goals as goal

pub start_call_concurrent-requires-clause-covered : goal.start_call_concurrent-requires-clause-covered
start_call_concurrent-requires-clause-covered c w = w.requires.may.covered

pub start_call_concurrent-requires-clause-order : goal.start_call_concurrent-requires-clause-order
start_call_concurrent-requires-clause-order c w = (turn.Main, w.requires.may.order)

pub start_call_concurrent-requires-clause-given : goal.start_call_concurrent-requires-clause-given
start_call_concurrent-requires-clause-given c w = let few = w.requires.may.few in omega (arith, few)

-- the script calls an export that is there, with as many words as it takes
pub start_call_concurrent-requires-clause-there : goal.start_call_concurrent-requires-clause-there
start_call_concurrent-requires-clause-there c w =
    let e = w.requires.may.suits.starts w.args.main.now.at w.args.func w.args.params.now w.requires.op in
    subst (λ (o : Option ExportDef). IsSome o) (sym e.1.0) refl

pub start_call_concurrent-requires-clause-params : goal.start_call_concurrent-requires-clause-params
start_call_concurrent-requires-clause-params c w =
    let e = w.requires.may.suits.starts w.args.main.now.at w.args.func w.args.params.now w.requires.op in
    let words = w.as_slice.result.now in
    let many : length words ≡ length w.args.params.now = ap length (w.as_slice.ensures.value ∙ w.in_ok-words.ensures) ∙ length-map w.args.params.now (value_in w.args.main.now.registers) in
    subst (λ (o : Option ExportDef). IfSome o (λ d. length words ≡ d.params)) (sym e.1.0) (many ∙ e.1.1)

pub returns-in-Ok-clause-steps : goal.returns-in-Ok-clause-steps
returns-in-Ok-clause-steps c w =
    let d = w.args.component.now in
    let main = w.args.main.now in
    let s = w.args.access.now.store.now in
    let t = w.start_call_concurrent.new.store in
    let e = callee_of w.args.func in
    let words = w.as_slice.result.now in
    let k = w.next_start-number.result in
    let n = w.keep.new.self in
    let call = w.in-Ok.call in
    let thread = w.thread-thread.result in
    let has = w.in-Ok.ensures.does in
    let row = ap₂ (λ i ws. start_act d i e ws s.state.core (start_refusal s.state.core)) (ap (λ i. i + 1) (length-map main.starts.items started_of) ∙ sym w.next_start-number.ensures) (sym w.in_ok-words.ensures ∙ sym w.as_slice.ensures.value)
    ∙ started_rule d e words s.state t.state k (start_refusal s.state.core) call.thread has.starts ∙ ap (λ i. Does (main_label.Start k i) t.state.core) (sym w.thread-thread.ensures) in
    let steps : Steps d (script_of main) (part_of main) s.state.core (shows_start k thread) (part_of n) t.state.core =
    rw (w.in_ok-keep-in-Ok.ensures.at, w.in_ok-keep-in-Ok.ensures.registers, w.in_ok-keep-in-Ok.ensures.starts, w.in_ok-keep-in-Ok.ensures.spawns, map_push)
    (did_by_rule d (script_of main) (place_of main) s.state.core (machine.Start e w.args.params.now) (slice_get-map machine_op main.ops.now main.at ∙ ap (option_map machine_op) w.requires.op) (main_label.Start k thread) _ row tt) in
    start_stepped script_says c.H.HostWork.course d e words main s w.requires.may t w.in-Ok.ensures.keeps k call has thread w.thread-thread.ensures n steps tt (suits_still d main n w.in_ok-keep-in-Ok.ensures.ops w.requires.may.suits)
    (knows_still d (script_of main) main n s.state t.state (shows_start k thread) w.in_ok-keep-in-Ok.ensures.spawns w.requires.may.order steps (start_names d e words s.state t.state k (start_refusal s.state.core) (Ok call.thread) has.starts) w.requires.may.knows)

pub returns-in-Err-Trap-clause-steps : goal.returns-in-Err-Trap-clause-steps
returns-in-Err-Trap-clause-steps c w =
    let d = w.args.component.now in
    let main = w.args.main.now in
    let s = w.args.access.now.store.now in
    let t = w.start_call_concurrent.new.store in
    let e = callee_of w.args.func in
    let words = w.as_slice.result.now in
    let k = w.next_start-number.result in
    let n = w.keep-in_default.new.self in
    let why = w.in-Err-Trap.trap in
    let other = unfailed c.G.TaskGroupHook.listens _ _ (λ is. let at = w.in-Err-Trap.field-0-is in w.in_default.not-HookFailed (cc))
    (stop_starts d e words c.G.TaskGroupHook.listens s _ t w.in-Err-Trap.ensures.does) in
    let trapped = on_core set_trapped s.state in
    let state = w.in-Err-Trap.ensures.does.state in
    let starts = subst (λ (o : TaskError). Starts d e words s.state (start_refusal s.state.core) (Err o) trapped) w.in-Err-Trap.field-0-is other in
    let row = ap₂ (λ i ws. start_act d i e ws s.state.core (start_refusal s.state.core)) (ap (λ i. i + 1) (length-map main.starts.items started_of) ∙ sym w.next_start-number.ensures) (sym w.in_ok-words.ensures ∙ sym w.as_slice.ensures.value)
    ∙ refused_rule d e words s.state trapped k (start_refusal s.state.core) why starts in
    let steps : Steps d (script_of main) (part_of main) s.state.core (shows_refusal k why) (part_of n) t.state.core =
    rw (state, w.in-Ok-keep.ensures.at, w.in-Ok-keep.ensures.registers, w.in-Ok-keep.ensures.starts, w.in-Ok-keep.ensures.spawns, map_push)
    (did_by_rule d (script_of main) (place_of main) s.state.core (machine.Start e w.args.params.now) (slice_get-map machine_op main.ops.now main.at ∙ ap (option_map machine_op) w.requires.op) (main_label.StartRefused why k) _ row tt) in
    let told = stop_told c.G.TaskGroupHook.listens s _ t w.in-Err-Trap.ensures.does (λ is. let at = w.in-Err-Trap.field-0-is in w.in_default.not-HookFailed (cc))
    (λ is. let at = w.in-Err-Trap.field-0-is in absurd (cc)) in
    refusal_stepped script_says c.H.HostWork.course d e words main s w.requires.may t w.in-Err-Trap.ensures.keeps k why starts state told n steps tt (suits_still d main n w.in-Ok-keep.ensures.ops w.requires.may.suits)
    (knows_still d (script_of main) main n s.state t.state (shows_refusal k why) w.in-Ok-keep.ensures.spawns w.requires.may.order steps (rw state (asked_names s.state trapped (start_names d e words s.state trapped k (start_refusal s.state.core) (Err (task_error.Trap why)) starts))) w.requires.may.knows)

-- the hook answered an error to it
pub returns-in-HookFailed-clause-steps : goal.returns-in-HookFailed-clause-steps
returns-in-HookFailed-clause-steps c w =
    let d = w.args.component.now in
    let main = w.args.main.now in
    let s = w.args.access.now.store.now in
    let t = w.start_call_concurrent.new.store in
    let e = callee_of w.args.func in
    let words = w.as_slice.result.now in
    let k = w.next_start-number.result in
    let at = w.in-Err-Trap.field-0-is in
    let is = w.in-HookFailed.is in
    start_failed script_says c.H.HostWork.course d e words main s w.requires.may t w.in-Err-Trap.ensures.keeps k c.G.TaskGroupHook.listens (task_error.Trap w.in-Err-Trap.trap) _ w.in-Err-Trap.ensures.does (cc) (cc)

pub returns-in-Ok-clause-constants_stay : goal.returns-in-Ok-clause-constants_stay
returns-in-Ok-clause-constants_stay c w = rw w.in-Ok.ensures.keeps.rest refl

pub returns-in-Err-Trap-clause-constants_stay : goal.returns-in-Err-Trap-clause-constants_stay
returns-in-Err-Trap-clause-constants_stay c w = rw w.in-Err-Trap.ensures.keeps.rest refl

-- ---- It is out of memory

pub returns-in_err-words-clause-steps : goal.returns-in_err-words-clause-steps
returns-in_err-words-clause-steps c w =
    let answered = err_from_is_err_and w.from_residual.result w.from_residual.ensures.1 in
    rw (answered.1, answered.2) (inl (refl, tells_none _ _ refl))

pub returns-in_err-keep-in-Ok-clause-steps : goal.returns-in_err-keep-in-Ok-clause-steps
returns-in_err-keep-in-Ok-clause-steps c w =
    let answered = err_from_is_err_and w.from_residual-in_err-keep-in-Ok.result w.from_residual-in_err-keep-in-Ok.ensures.1 in
    rw (answered.1, answered.2)
    (inl (refl, started_tells w.args.component.now (callee_of w.args.func) w.as_slice.result.now w.args.access.now.store.now w.in-Ok.call w.start_call_concurrent.new.store w.in-Ok.ensures.does))

pub returns-in_default-keep-clause-steps : goal.returns-in_default-keep-clause-steps
returns-in_default-keep-clause-steps c w =
    inl (refl, stopped_tells c.G.TaskGroupHook.listens w.args.access.now.store.now _ w.start_call_concurrent.new.store w.in-Err-Trap.ensures.does)

pub returns-clause-steps : goal.returns-clause-steps
returns-clause-steps c w =
    inl (refl, stopped_tells c.G.TaskGroupHook.listens w.args.access.now.store.now _ w.start_call_concurrent.new.store w.in-Err.ensures.does)
