-- What came of the start is a step of main.
use Rattle.host_embedding.proofs.HostLemmas.{takes_one}
use Rattle.task_loop.proofs.OpenMainLemmas.{did_refuse, did_start}
use Rattle.host_embedding.proofs.ScopeLemmas.{child_started, one_more}
use Rattle.host_embedding.proofs.relay.start.Goals as goal
use Rattle.host_embedding.specs.Says.{relay_says}
use Rattle.store_works.specs.declared.scripted.ScriptedHost.{ScriptedHost}
use Rattle.std.proofs.Common.{ap, arith, refl, subst, sym, ◌∙◌}
use Rattle.std.specs.Prelude.{Err, List, Ok, Result, [], ℕ, ◌+◌, ◌∷◌, ◌≡◌}
use Rattle.task_loop.proofs.MainStartLemmas.{refusal_stepped, shows_start}
use Rattle.task_loop.proofs.MainStepLemmas.{stepped_quietly}
use Rattle.task_loop.specs.LoopCalls.{callee_of}
use Rattle.machine_data.specs.Core.{Unscripted}
use Rattle.machine_data.specs.Write.{set_trapped}
use Rattle.task_nursery.proofs.ScopeLemmas.{begun, left_alone, made_thread}
use Rattle.task_nursery.specs.Scope.{BeginsChild}
use Rattle.task_nursery.specs.declared.children.Child.{Child}
use Rattle.task_nursery.specs.declared.nursery.NurseryError.{NurseryError}
use Rattle.task_nursery.specs.declared.nursery.NurseryError.TheVariants as errors
use Rattle.ops_turns.specs.Main.{Steps}
use Rattle.ops_turns.specs.Turn.{running_of}
use Rattle.ops_turns.specs.declared.mains.MainStep.TheVariants as step
use Rattle.core_primitives.specs.StateView.{on_core}

pub start-requires-clause-few : goal.start-requires-clause-few
start-requires-clause-few c = let few = c.requires.may.knows.few in let most = c.requires.few in omega (arith, few, most)

-- ---- The call was started

pub unreachable-requires : goal.unreachable-requires
unreachable-requires c =
    let n = c.args.relay.now.calls in
    let has = c.in-Ok.ensures.begins in
    let b = begun c.args.component.now c.args.func (c.args.relay.now.word ∷ []) n c.args.access.now.store.now (Ok c.in-Ok.child) c.start.new.self c.start.new.store has.refuses has.begins (λ clash. absurd (cc)) (λ clash. absurd (cc)) in
    let clash = sym c.in_default.is ∙ (c.thread.ensures ∙ made_thread n c.start.new.self c.args.func b.0 c.in-Ok.child b.1 b.2) in
    absurd (cc)

pub returns-in-Some-clause-constants_stay : goal.returns-in-Some-clause-constants_stay
returns-in-Some-clause-constants_stay c = rw c.in-Ok.ensures.keeps.rest refl

pub returns-in-Some-clause-step : goal.returns-in-Some-clause-step
returns-in-Some-clause-step c =
    let d = c.args.component.now in
    let n = c.args.relay.now.calls in
    let main = c.args.relay.now in
    let s = c.args.access.now.store.now in
    let t = c.start.new.store in
    let words : List ℕ = main.word ∷ [] in
    let has = c.in-Ok.ensures.begins in
    let b = begun d c.args.func words n s (Ok c.in-Ok.child) c.start.new.self t has.refuses has.begins (λ clash. absurd (cc)) (λ clash. absurd (cc)) in
    let is = sym c.in-Some.is ∙ (c.thread.ensures ∙ made_thread n c.start.new.self c.args.func b.0 c.in-Ok.child b.1 b.2) in
    let mine : c.in-Some.thread ≡ b.0.thread = cc in
    let k = main.started + 1 in
    let steps : Steps d [] Unscripted s.state.core (shows_start k c.in-Some.thread) Unscripted t.state.core =
    rw mine (did_start d (callee_of c.args.func) words s.state t.state k (takes_one d c.args.func c.requires.takes) b.0.thread b.3) in
    child_started relay_says (λ (w : ScriptedHost). w.left) d c.args.func words main s c.requires.may t c.in-Ok.ensures.keeps k c.in-Ok.child (has.told c.requires.may.asked) b.0 b.3 c.in-Some.thread mine _ steps refl c.requires.may.suits
    (record { of = has.of; few = one_more n c.start.new.self _ main.started b.1 c.requires.may.knows.few })

-- ---- The store has refused it

pub returns-in-Err-Trap-clause-constants_stay : goal.returns-in-Err-Trap-clause-constants_stay
returns-in-Err-Trap-clause-constants_stay c = rw c.start.ensures.keeps.rest refl

pub returns-in-Err-Trap-clause-step : goal.returns-in-Err-Trap-clause-step
returns-in-Err-Trap-clause-step c =
    let d = c.args.component.now in
    let n = c.args.relay.now.calls in
    let main = c.args.relay.now in
    let s = c.args.access.now.store.now in
    let t = c.start.new.store in
    let words : List ℕ = main.word ∷ [] in
    let k = main.started + 1 in
    let is = c.in-Err-Trap.is ∙ ap (λ (w : NurseryError). Err w) c.in-Err-Trap.field-0-is in
    let has = subst (λ (r : Result Child NurseryError). BeginsChild d c.args.func words n s r c.start.new.self t) is c.start.ensures.begins in
    let b = begun d c.args.func words n s _ c.start.new.self t has.refuses has.begins (λ clash. absurd (cc)) (λ clash. absurd (cc)) in
    let few = c.requires.may.knows.few in
    let most = c.requires.few in
    refusal_stepped relay_says (λ (w : ScriptedHost). w.left) d (callee_of c.args.func) words main s c.requires.may t c.start.ensures.keeps k c.in-Err-Trap.trap b.0 b.1 (has.told c.requires.may.asked) _
    (rw b.1 (did_refuse d (callee_of c.args.func) words s.state (on_core set_trapped s.state) k (takes_one d c.args.func c.requires.takes) c.in-Err-Trap.trap b.0)) refl c.requires.may.suits
    (record { of = has.of; few = rw has.refuses.same (omega (arith, few, most)) })

-- ---- It is out of memory

pub returns-in-Err-NoMemory-clause-constants_stay : goal.returns-in-Err-NoMemory-clause-constants_stay
returns-in-Err-NoMemory-clause-constants_stay c = rw c.start.ensures.keeps.rest refl

pub returns-in-Err-NoMemory-clause-err : goal.returns-in-Err-NoMemory-clause-err
returns-in-Err-NoMemory-clause-err c =
    let d = c.args.component.now in
    let main = c.args.relay.now in
    let words : List ℕ = main.word ∷ [] in
    let is = c.in-Err-NoMemory.is ∙ ap (λ (w : NurseryError). Err w) c.in-Err-NoMemory.field-0-is in
    let has = subst (λ (r : Result Child NurseryError). BeginsChild d c.args.func words main.calls c.args.access.now.store.now r c.start.new.self c.start.new.store) is c.start.ensures.begins in
    (refl, has.told c.requires.may.asked)

-- ---- The scope has refused it

pub returns-in-Err-Closed-clause-constants_stay : goal.returns-in-Err-Closed-clause-constants_stay
returns-in-Err-Closed-clause-constants_stay c = rw c.start.ensures.keeps.rest refl

pub returns-in-Err-Closed-clause-step : goal.returns-in-Err-Closed-clause-step
returns-in-Err-Closed-clause-step c =
    let d = c.args.component.now in
    let n = c.args.relay.now.calls in
    let main = c.args.relay.now in
    let s = c.args.access.now.store.now in
    let t = c.start.new.store in
    let words : List ℕ = main.word ∷ [] in
    let is = c.in-Err-Closed.is ∙ ap (λ (w : NurseryError). Err w) c.in-Err-Closed.field-0-is in
    let has = subst (λ (r : Result Child NurseryError). BeginsChild d c.args.func words n s r c.start.new.self t) is c.start.ensures.begins in
    let same = left_alone d c.args.func words n s (Err errors.Closed) c.start.new.self t has.refuses has.begins (λ b. b) in
    let steps : Steps d [] Unscripted s.state.core step.Pends Unscripted t.state.core = record { part = refl; core = ap (λ q. q.state.core) same; pends = refl } in
    stepped_quietly relay_says (λ (w : ScriptedHost). w.left) d step.Pends main s _ t (ap (λ q. q.listeners) same) (ap (λ q. q.state.tags.tracked) same) steps refl c.requires.may.asked (ap (λ q. running_of q.state) same) refl c.requires.may.suits
    (record { of = has.of; few = rw has.refuses.same c.requires.may.knows.few }) (c.start.ensures.keeps.works (λ (w : ScriptedHost). w.left) c.requires.may.works)

pub returns-in-Err-Full-clause-constants_stay : goal.returns-in-Err-Full-clause-constants_stay
returns-in-Err-Full-clause-constants_stay c = rw c.start.ensures.keeps.rest refl

pub returns-in-Err-Full-clause-step : goal.returns-in-Err-Full-clause-step
returns-in-Err-Full-clause-step c =
    let d = c.args.component.now in
    let n = c.args.relay.now.calls in
    let main = c.args.relay.now in
    let s = c.args.access.now.store.now in
    let t = c.start.new.store in
    let words : List ℕ = main.word ∷ [] in
    let is = c.in-Err-Full.is ∙ ap (λ (w : NurseryError). Err w) c.in-Err-Full.field-0-is in
    let has = subst (λ (r : Result Child NurseryError). BeginsChild d c.args.func words n s r c.start.new.self t) is c.start.ensures.begins in
    let same = left_alone d c.args.func words n s (Err errors.Full) c.start.new.self t has.refuses has.begins (λ b. b) in
    let steps : Steps d [] Unscripted s.state.core step.Pends Unscripted t.state.core = record { part = refl; core = ap (λ q. q.state.core) same; pends = refl } in
    stepped_quietly relay_says (λ (w : ScriptedHost). w.left) d step.Pends main s _ t (ap (λ q. q.listeners) same) (ap (λ q. q.state.tags.tracked) same) steps refl c.requires.may.asked (ap (λ q. running_of q.state) same) refl c.requires.may.suits
    (record { of = has.of; few = rw has.refuses.same c.requires.may.knows.few }) (c.start.ensures.keeps.works (λ (w : ScriptedHost). w.left) c.requires.may.works)
