-- What came of the turn is a step of main: it finishes the call, or waits.
use Rattle.task_loop.proofs.OpenMainLemmas.{did_finish}
use Rattle.host_embedding.proofs.ScopeLemmas.{as_many, takes_none}
use Rattle.host_embedding.proofs.relay.finish.Goals as goal
use Rattle.host_embedding.specs.Says.{relay_says}
use Rattle.store_works.specs.declared.scripted.ScriptedHost.{ScriptedHost}
use Rattle.std.proofs.Common.{ap, refl, sym, ◌∙◌}
use Rattle.std.specs.Prelude.{[]}
use Rattle.task_loop.proofs.MainStepLemmas.{stepped_quietly}
use Rattle.machine_data.specs.Core.{Unscripted}
use Rattle.machine_data.specs.declared.label.Label.TheVariants as label
use Rattle.machine_data.specs.declared.label.MainLabel.TheVariants as main_label
use Rattle.task_nursery.proofs.TurnLemmas.{turn_finishes}
use Rattle.task_nursery.specs.Numbers.{numbered}
use Rattle.ops_turns.specs.Main.{Steps}
use Rattle.ops_turns.specs.Turn.{running_of}
use Rattle.ops_turns.specs.declared.mains.MainStep.TheVariants as step

-- no call has returned
pub returns-in_default-clause-step : goal.returns-in_default-clause-step
returns-in_default-clause-step c =
    let d = c.args.component.now in
    let main = c.args.relay.now in
    let s = c.args.access.now.store.now in
    let t = c.turn.new.store in
    let none = c.in_default.ensures.none in
    let steps : Steps d [] Unscripted s.state.core step.Pends Unscripted t.state.core = record { part = refl; core = ap (λ u. u.core) none.1; pends = refl } in
    stepped_quietly relay_says (λ (w : ScriptedHost). w.left) d step.Pends main s _ t (ap (λ k. k.listeners) c.turn.ensures.keeps.rest) (ap (λ v. v.tags.tracked) none.1) steps refl c.requires.may.asked (ap running_of none.1) refl c.requires.may.suits
    (record { of = c.turn.ensures.of; few = rw none.0 c.requires.may.knows.few }) c.turn.ensures.hosts

pub returns-in_default-clause-constants_stay : goal.returns-in_default-clause-constants_stay
returns-in_default-clause-constants_stay c = rw c.turn.ensures.keeps.rest refl

-- what has ended is none of the calls
pub returns-in_default-value-clause-step : goal.returns-in_default-value-clause-step
returns-in_default-value-clause-step c =
    let d = c.args.component.now in
    let main = c.args.relay.now in
    let n = main.calls in
    let k = c.in-Some.child.number in
    let e = c.in-Some.ensures.ended in
    let s = c.args.access.now.store.now in
    let t = c.turn.new.store in
    let none = sym c.value.ensures ∙ c.in_default-value.is in
    let steps : Steps d [] Unscripted s.state.core step.Pends Unscripted t.state.core = record {
      part = refl;
      core = ap (λ u. u.core) e.1 ∙ takes_none n c.turn.new.self s.state.core k (numbered n.children k) refl e.0 none;
      pends = refl;
    } in
    stepped_quietly relay_says (λ (w : ScriptedHost). w.left) d step.Pends main s _ t (ap (λ k. k.listeners) c.turn.ensures.keeps.rest) (ap (λ v. v.tags.tracked) e.1) steps refl c.requires.may.asked (ap running_of e.1) refl c.requires.may.suits
    (record { of = c.turn.ensures.of; few = as_many n c.turn.new.self s.state.core k main.started e.0 c.requires.may.knows.few }) c.turn.ensures.hosts

pub returns-in_default-value-clause-constants_stay : goal.returns-in_default-value-clause-constants_stay
returns-in_default-value-clause-constants_stay c = rw c.turn.ensures.keeps.rest refl

-- it is the call, which is finished
pub returns-clause-step : goal.returns-clause-step
returns-clause-step c =
    let d = c.args.component.now in
    let main = c.args.relay.now in
    let n = main.calls in
    let k = c.in-Some.child.number in
    let e = c.in-Some.ensures.ended in
    let s = c.args.access.now.store.now in
    let t = c.turn.new.store in
    let value = c.in-Some-value.value in
    let f = turn_finishes n c.turn.new.self s.state t.state k value (sym c.in-Some.ensures.least) e.0 e.1 (sym c.value.ensures ∙ c.in-Some-value.is) in
    let steps : Steps d [] Unscripted s.state.core (step.Did (label.Main (main_label.Finish k value))) Unscripted t.state.core = did_finish d s.state t.state f.1.thread k value f.3 in
    stepped_quietly relay_says (λ (w : ScriptedHost). w.left) d (step.Did (label.Main (main_label.Finish k value))) main s _ t (ap (λ k. k.listeners) c.turn.ensures.keeps.rest) (ap (λ v. v.tags.tracked) e.1) steps refl c.requires.may.asked (ap running_of e.1) refl c.requires.may.suits
    (record { of = c.turn.ensures.of; few = as_many n c.turn.new.self s.state.core k main.started e.0 c.requires.may.knows.few }) c.turn.ensures.hosts

pub returns-clause-constants_stay : goal.returns-clause-constants_stay
returns-clause-constants_stay c = rw c.turn.ensures.keeps.rest refl
