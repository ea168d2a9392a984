-- Main waited until the work had ended.
use Rattle.vatbramble_host.proofs.AskLemmas.{pends_now}
use Rattle.task_loop.proofs.OpenMainLemmas.{did_await, has_ended}
use Rattle.vatbramble_host.proofs.SpawnLemmas.{spawned_at}
use Rattle.vatbramble_host.proofs.steps.wait.Goals as goal
use Rattle.vatbramble_host.specs.Asks.{KnowsSpawns, asking_says}
use Rattle.std.proofs.Common.{ap, refl, subst, sym}
use Rattle.std.specs.Prelude.{[]}
use Rattle.task_loop.proofs.MainStepLemmas.{stepped_quietly}
use Rattle.machine_data.specs.Core.{Unscripted}
use Rattle.machine_data.specs.declared.label.Label.TheVariants as label
use Rattle.machine_data.specs.declared.label.MainLabel.TheVariants as main_label
use Rattle.ops_turns.specs.Main.{Steps}
use Rattle.ops_turns.specs.Turn.{running_of}
use Rattle.ops_turns.specs.declared.mains.MainStep.TheVariants as step
use Rattle.core_primitives.specs.StateView.{StateView}

pub poll-requires-clause-spawned : goal.poll-requires-clause-spawned
poll-requires-clause-spawned g c = spawned_at c.args.main.now.spawns.items c.deref.result.now c.args.work.place c.in-Some.handle.now c.args.access.now.store.now.state c.deref.ensures.value c.in-Some.ensures.lookup.3.0 c.in-Some.ensures.lookup.1 c.requires.may.knows

pub returns-clause-step : goal.returns-clause-step
returns-clause-step g c =
    let d = c.args.component.now in
    let main = c.args.main.now in
    let s = c.args.access.now.store.now in
    let t = c.poll.new.store in
    let may = c.requires.may in
    let n = c.in-Some.handle.now.number in
    let k = c.number_of.result in
    let state = ap (λ k. k.state) c.poll.ensures.rest in
    let spawned = spawned_at c.args.main.now.spawns.items c.deref.result.now c.args.work.place c.in-Some.handle.now c.args.access.now.store.now.state c.deref.ensures.value c.in-Some.ensures.lookup.3.0 c.in-Some.ensures.lookup.1 c.requires.may.knows in
    let steps : Steps d [] Unscripted s.state.core (step.Did (label.Main (main_label.Await k))) Unscripted t.state.core =
    rw state (did_await d s.state.core n k spawned.there (has_ended _ c.in-Ready.ensures.answer)) in
    stepped_quietly asking_says g.H.HostWork.course d (step.Did (label.Main (main_label.Await k))) main s _ t (ap (λ k. k.listeners) c.poll.ensures.rest) (ap (λ (v : StateView). v.tags.tracked) state) steps refl may.asked (ap running_of state) refl tt
    (subst (λ (u : StateView). KnowsSpawns main.spawns.items u) (sym state) may.knows) c.poll.ensures.hosts

pub returns-in_default-poll-clause-step : goal.returns-in_default-poll-clause-step
returns-in_default-poll-clause-step g c =
    let d = c.args.component.now in
    let main = c.args.main.now in
    let s = c.args.access.now.store.now in
    let t = c.poll.new.store in
    let may = c.requires.may in
    let state = ap (λ k. k.state) c.poll.ensures.rest in
    let steps : Steps d [] Unscripted s.state.core step.Pends Unscripted t.state.core = rw state (pends_now d s.state.core) in
    stepped_quietly asking_says g.H.HostWork.course d step.Pends main s _ t (ap (λ k. k.listeners) c.poll.ensures.rest) (ap (λ (v : StateView). v.tags.tracked) state) steps refl may.asked (ap running_of state) tt tt
    (subst (λ (u : StateView). KnowsSpawns main.spawns.items u) (sym state) may.knows) c.poll.ensures.hosts
