-- A work of the host's own was spawned.
use Rattle.task_loop.proofs.OpenMainLemmas.{did_spawn_own}
use Rattle.vatbramble_host.proofs.SpawnLemmas.{spawns_more}
use Rattle.vatbramble_host.proofs.steps.spawn.Goals as goal
use Rattle.vatbramble_host.specs.Asks.{KnowsSpawns, asking_says}
use Rattle.vatbramble_host.specs.declared.ask.Answer.TheVariants as answer
use Rattle.std.proofs.Common.{ap, arith, refl, subst, sym, ◌+◌, ◌-◌, ◌<◌, ◌≡◌, ◌∙◌}
use Rattle.std.specs.Prelude.{List, ℕ}
use Rattle.task_loop.proofs.LackLemmas.{tells_none}
use Rattle.task_loop.proofs.LastLemmas.{spawn_last}
use Rattle.task_loop.proofs.MainStepLemmas.{stepped_quietly}
use Rattle.task_loop.proofs.StartLemmas.{current_still}
use Rattle.machine_data.specs.Core.{Unscripted}
use Rattle.machine_data.specs.declared.label.Label.TheVariants as label
use Rattle.machine_data.specs.declared.label.MainLabel.TheVariants as main_label
use Rattle.task_store.specs.declared.spawn.SpawnHandle.{SpawnHandle}
use Rattle.ops_turns.specs.declared.mains.MainStep.TheVariants as step

pub spawn-requires : goal.spawn-requires
spawn-requires g c = let few = c.requires.may.few in record { given = omega (arith, few) }

pub returns-clause-step : goal.returns-clause-step
returns-clause-step g c =
    let d = c.args.component.now in
    let main = c.args.main.now in
    let s = c.args.access.now.store.now in
    let t = c.spawn.new.self in
    let may = c.requires.may in
    let k = c.number_of.result in
    let i = c.number-future.result in
    let place = c.len-place.result in
    let counted = main.spawns.ok.0 in
    let taken = c.len-place.ensures in
    let numbered = c.requires.numbered in
    let few : place < 4294967295 = omega (arith, counted, taken, numbered) in
    let number = c.number_of.ensures few in
    let same : place ≡ k - 1 = omega (arith, number) in
    let answered = ap (λ (q : ℕ). answer.Spawned (record { place = q })) same in
    let made = c.in-Ok.ensures.spawns in
    let kept = c.spawn.ensures.spawns in
    let own = did_spawn_own d s.state.core k i (g.H.HostWork.course c.from_host.result) t.state.core c.from_host.ensures (c.number-future.ensures ∙ made.number) made.core in
    let last = spawn_last _ s.state t.state made.core kept.tags in
    let knows = subst (λ (xs : List SpawnHandle). KnowsSpawns xs t.state) (sym c.in-Ok-push.ensures.items) (spawns_more main.spawns.items c.in-Ok.work s.state t.state last may.knows made.spawned) in
    stepped_quietly asking_says g.H.HostWork.course d (step.Did (label.Main (main_label.Spawn k i))) main s _ t (ap (λ k. k.listeners) kept.rest) kept.tags.same own refl may.asked
    (current_still s.state t.state kept.current may.idle ∙ sym may.idle) answered tt knows
    (kept.hosts (may.order.order Unscripted).works.made may.works)

-- ---- It is out of memory

pub returns-in_default-clause-err : goal.returns-in_default-clause-err
returns-in_default-clause-err g c = (refl, tells_none _ _ (ap (λ k. k.listeners) c.spawn.ensures.spawns.rest))

pub returns-in_default-push-clause-err : goal.returns-in_default-push-clause-err
returns-in_default-push-clause-err g c = (refl, tells_none _ _ (ap (λ k. k.listeners) c.spawn.ensures.spawns.rest))
