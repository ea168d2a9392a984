-- What came of the start is an op of main.
use Rattle.task_loop.proofs.OpenMainLemmas.{did_refuse, did_start, takes_these}
use Rattle.vatbramble_host.proofs.steps.start.Goals as goal
use Rattle.vatbramble_host.specs.Asks.{KnowsSpawns, asking_says, spawns_later}
use Rattle.vatbramble_host.specs.declared.ask.Answer.TheVariants as answer
use Rattle.ops_state.specs.declared.error.TaskError.{TaskError}
use Rattle.std.proofs.Common.{ap, arith, refl, subst, sym, ◌+◌, ◌-◌, ◌<◌, ◌≡◌}
use Rattle.std.specs.Prelude.{Err, Ok, [], false, ℕ}
use Rattle.ops_calls.specs.MainCalls.{Starts}
use Rattle.store_notices.specs.Moves.{finishes}
use Rattle.task_loop.proofs.CallStartLemmas.{stop_starts}
use Rattle.task_loop.proofs.HookLemmas.{works_trapped}
use Rattle.task_loop.proofs.LackLemmas.{started_tells}
use Rattle.task_loop.proofs.LastLemmas.{start_last}
use Rattle.task_loop.proofs.MainStartLemmas.{refusal_stepped, shows_start, start_stepped}
use Rattle.task_loop.specs.LoopCalls.{callee_of}
use Rattle.machine_data.specs.Core.{Unscripted}
use Rattle.machine_data.specs.Write.{set_trapped}
use Rattle.machine_data.specs.declared.records.Turn.TheVariants as turn
use Rattle.machine_rules.specs.MainOps.{start_refusal}
use Rattle.ops_turns.specs.Main.{Steps}
use Rattle.core_primitives.specs.StateView.{StateView, on_core}

pub start_call_concurrent-requires-clause-order : goal.start_call_concurrent-requires-clause-order
start_call_concurrent-requires-clause-order g c = (turn.Main, c.requires.may.order)

pub start_call_concurrent-requires-clause-given : goal.start_call_concurrent-requires-clause-given
start_call_concurrent-requires-clause-given g c = let few = c.requires.may.few in omega (arith, few)

pub returns-in-Ok-push-clause-step : goal.returns-in-Ok-push-clause-step
returns-in-Ok-push-clause-step g c =
    let d = c.args.component.now in
    let s = c.args.access.now.store.now in
    let t = c.start_call_concurrent.new.store in
    let e = callee_of c.args.func in
    let words = c.args.words.now in
    let k = c.number_of-number.result in
    let call = c.in-Ok.call in
    let has = c.in-Ok.ensures.does in
    let thread = c.thread-thread.result in
    let place = c.len-place.result in
    let counted = c.args.main.now.calls.ok.0 in
    let taken = c.len-place.ensures in
    let numbered = c.requires.numbered in
    let few : place < 4294967295 = omega (arith, counted, taken, numbered) in
    let number = c.number_of-number.ensures few in
    let same : place ≡ k - 1 = omega (arith, number) in
    let answered = ap (λ (i : ℕ). answer.Started (record { place = i })) same in
    let steps : Steps d [] Unscripted s.state.core (shows_start k thread) Unscripted t.state.core =
    rw c.thread-thread.ensures (did_start d e words s.state t.state k (takes_these d c.args.func _ c.requires.takes) call.thread has.starts) in
    start_stepped asking_says g.H.HostWork.course d e words c.args.main.now s c.requires.may t c.start_call_concurrent.ensures.keeps k call has thread c.thread-thread.ensures _ steps answered tt
    (spawns_later c.args.main.now.spawns.items s.state t.state (start_last d e words s.state t.state (start_refusal s.state.core) (Ok call.thread) has.starts) c.requires.may.knows)

pub returns-in-Err-Trap-clause-step : goal.returns-in-Err-Trap-clause-step
returns-in-Err-Trap-clause-step g c =
    let d = c.args.component.now in
    let s = c.args.access.now.store.now in
    let t = c.start_call_concurrent.new.store in
    let e = callee_of c.args.func in
    let words = c.args.words.now in
    let k = c.number_of-number.result in
    let state = c.in-Err-Trap.ensures.does.state in
    let starts = subst (λ (r : TaskError). Starts d e words s.state (start_refusal s.state.core) (Err r) (on_core set_trapped s.state)) c.in-Err-Trap.field-0-is (stop_starts d e words false s _ t c.in-Err-Trap.ensures.does) in
    refusal_stepped asking_says g.H.HostWork.course d e words c.args.main.now s c.requires.may t c.start_call_concurrent.ensures.keeps k c.in-Err-Trap.trap starts state c.in-Err-Trap.ensures.does.unhooked _
    (rw state (did_refuse d e words s.state (on_core set_trapped s.state) k (takes_these d c.args.func _ c.requires.takes) c.in-Err-Trap.trap starts)) refl tt
    (subst (λ (u : StateView). KnowsSpawns c.args.main.now.spawns.items u) (sym state) (spawns_later c.args.main.now.spawns.items s.state _ (works_trapped s.state) c.requires.may.knows))

pub returns-in-Ok-push-clause-constants_stay : goal.returns-in-Ok-push-clause-constants_stay
returns-in-Ok-push-clause-constants_stay g c = rw c.start_call_concurrent.ensures.keeps.rest refl

pub returns-in_default-clause-constants_stay : goal.returns-in_default-clause-constants_stay
returns-in_default-clause-constants_stay g c = rw c.start_call_concurrent.ensures.keeps.rest refl

pub returns-in-Err-Trap-clause-constants_stay : goal.returns-in-Err-Trap-clause-constants_stay
returns-in-Err-Trap-clause-constants_stay g c = rw c.start_call_concurrent.ensures.keeps.rest refl

pub returns-in-Err-clause-constants_stay : goal.returns-in-Err-clause-constants_stay
returns-in-Err-clause-constants_stay g c = rw c.start_call_concurrent.ensures.keeps.rest refl

-- ---- It is out of memory

pub returns-in_default-clause-err : goal.returns-in_default-clause-err
returns-in_default-clause-err g c =
    (refl, started_tells c.args.component.now (callee_of c.args.func) c.args.words.now c.args.access.now.store.now c.in-Ok.call c.start_call_concurrent.new.store c.in-Ok.ensures.does)

pub returns-in-Err-clause-err : goal.returns-in-Err-clause-err
returns-in-Err-clause-err g c =
    (refl, (finishes c.args.access.now.store.now.state.tags.tracked, c.in-Err.ensures.does.unhooked))
