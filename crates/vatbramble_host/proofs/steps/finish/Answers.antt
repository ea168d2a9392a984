-- What came of a finish is an op of main.
use Rattle.vatbramble_host.proofs.AskLemmas.{pends_now}
use Rattle.task_loop.proofs.OpenMainLemmas.{did_finish, finish_keeps}
use Rattle.vatbramble_host.proofs.steps.finish.Goals as goal
use Rattle.vatbramble_host.specs.Asks.{KnowsSpawns, asking_says, spawns_later}
use Rattle.std.proofs.Common.{ap, refl, subst, sym}
use Rattle.std.specs.Prelude.{[]}
use Rattle.task_loop.proofs.LastLemmas.{finish_last}
use Rattle.task_loop.proofs.MainStepLemmas.{stepped_quietly}
use Rattle.machine_data.specs.Core.{Unscripted}
use Rattle.machine_data.specs.Write.{take_result}
use Rattle.machine_data.specs.declared.label.Label.TheVariants as label
use Rattle.machine_data.specs.declared.label.MainLabel.TheVariants as main_label
use Rattle.ops_turns.specs.Main.{Steps}
use Rattle.ops_turns.specs.Turn.{running_of}
use Rattle.ops_turns.specs.declared.mains.MainStep.TheVariants as step
use Rattle.core_primitives.specs.StateView.{StateView, on_core}

pub returns-clause-step : goal.returns-clause-step
returns-clause-step g c =
    let d = c.args.component.now in
    let s = c.args.access.now.store.now in
    let t = c.finish_call_concurrent.new.store in
    let thread = c.in-Some.begun.now.call.thread in
    let fin = c.in-Ready.ensures.finishes in
    let items = c.args.main.now.spawns.items in
    let last = spawns_later items s.state (on_core (take_result thread) s.state) (finish_last thread s.state) c.requires.may.knows in
    stepped_quietly asking_says g.H.HostWork.course d (step.Did (label.Main (main_label.Finish c.number_of.result c.in-Ready.value))) c.args.main.now s _ t (ap (λ k. k.listeners) c.finish_call_concurrent.ensures.rest)
    (ap (λ (v : StateView). v.tags.tracked) fin.1) (did_finish d s.state t.state thread c.number_of.result c.in-Ready.value fin) refl c.requires.may.asked (finish_keeps d s.state t.state thread c.in-Ready.value fin) refl tt
    (subst (λ (u : StateView). KnowsSpawns items u) (sym fin.1) last)
    ((c.finish_call_concurrent.ensures.keeps d).works g.H.HostWork.course c.requires.may.works)

pub returns-in_default-finish_call_concurrent-clause-step : goal.returns-in_default-finish_call_concurrent-clause-step
returns-in_default-finish_call_concurrent-clause-step g c =
    let d = c.args.component.now in
    let s = c.args.access.now.store.now in
    let t = c.finish_call_concurrent.new.store in
    let same = c.in_default-finish_call_concurrent.ensures.finishes.1 in
    let steps : Steps d [] Unscripted s.state.core step.Pends Unscripted t.state.core = rw same (pends_now d s.state.core) in
    stepped_quietly asking_says g.H.HostWork.course d step.Pends c.args.main.now s _ t (ap (λ k. k.listeners) c.finish_call_concurrent.ensures.rest)
    (ap (λ (v : StateView). v.tags.tracked) same) steps refl c.requires.may.asked (ap running_of same) tt tt
    (subst (λ (u : StateView). KnowsSpawns c.args.main.now.spawns.items u) (sym same) c.requires.may.knows)
    ((c.finish_call_concurrent.ensures.keeps d).works g.H.HostWork.course c.requires.may.works)
