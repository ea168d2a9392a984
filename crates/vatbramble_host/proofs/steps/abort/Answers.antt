-- The work was asked to end.
use Rattle.task_loop.proofs.OpenMainLemmas.{did_abort}
use Rattle.vatbramble_host.proofs.SpawnLemmas.{spawned_at}
use Rattle.vatbramble_host.proofs.steps.abort.Goals as goal
use Rattle.vatbramble_host.specs.Asks.{KnowsSpawns, asking_says, spawns_later}
use Rattle.std.proofs.Common.{ap, refl, subst, sym}
use Rattle.std.specs.Prelude.{[]}
use Rattle.task_loop.proofs.LastLemmas.{abort_last}
use Rattle.task_loop.proofs.MainStepLemmas.{stepped_quietly}
use Rattle.machine_data.specs.Core.{Core, Unscripted}
use Rattle.machine_data.specs.declared.label.Label.TheVariants as label
use Rattle.machine_data.specs.declared.label.MainLabel.TheVariants as main_label
use Rattle.machine_data.specs.declared.statuses.Phase.{Phase}
use Rattle.machine_rules.specs.MainOps.{main_aborted}
use Rattle.ops_turns.specs.Main.{Did}
use Rattle.ops_turns.specs.Turn.{running_of}
use Rattle.ops_turns.specs.declared.mains.MainStep.TheVariants as step
use Rattle.core_primitives.specs.StateView.{StateView, on_core}

pub abort-phase-requires-clause-spawned : goal.abort-phase-requires-clause-spawned
abort-phase-requires-clause-spawned g c = spawned_at c.args.main.now.spawns.items c.deref.result.now c.args.work.place c.in-Some.handle.now c.args.access.now.store.now.state c.deref.ensures.value c.in-Some.ensures.lookup.3.0 c.in-Some.ensures.lookup.1 c.requires.may.knows

pub returns-clause-step : goal.returns-clause-step
returns-clause-step g c =
    let d = c.args.component.now in
    let main = c.args.main.now in
    let s = c.args.access.now.store.now in
    let t = c.abort-phase.new.store in
    let may = c.requires.may in
    let n = c.in-Some.handle.now.number in
    let k = c.number_of.result in
    let phase = c.abort-phase.result in
    let state = ap (λ k. k.state) c.abort-phase.ensures.state in
    let spawned = spawned_at c.args.main.now.spawns.items c.deref.result.now c.args.work.place c.in-Some.handle.now c.args.access.now.store.now.state c.deref.ensures.value c.in-Some.ensures.lookup.3.0 c.in-Some.ensures.lookup.1 c.requires.may.knows in
    let did =
    subst (λ (u : StateView). Did d [] Unscripted s.state.core (label.Main (main_label.Abort phase k)) Unscripted u.core) (sym state)
    (subst (λ (p : Phase). Did d [] Unscripted s.state.core (label.Main (main_label.Abort p k)) Unscripted (main_aborted n s.state.core)) (sym c.abort-phase.ensures.phase)
    (did_abort d s.state.core n k spawned.there)) in
    let knows = subst (λ (u : StateView). KnowsSpawns main.spawns.items u) (sym state) (spawns_later main.spawns.items s.state (on_core (main_aborted n) s.state) (abort_last n s.state) may.knows) in
    stepped_quietly asking_says g.H.HostWork.course d (step.Did (label.Main (main_label.Abort phase k))) main s _ t (ap (λ k. k.listeners) c.abort-phase.ensures.state) (ap (λ (v : StateView). v.tags.tracked) state) did refl may.asked (ap running_of state) refl tt knows c.abort-phase.ensures.hosts
