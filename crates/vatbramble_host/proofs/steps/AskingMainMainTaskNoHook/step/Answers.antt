-- What was asked is done, or main waits.
use Rattle.vatbramble_host.proofs.AskLemmas.{may_after, pends_now, stepped_before, steps_before}
use Rattle.task_loop.proofs.OpenMainLemmas.{answers_now}
use Rattle.vatbramble_host.proofs.SpawnLemmas.{spawns_same}
use Rattle.vatbramble_host.proofs.steps.AskingMainMainTaskNoHook.step.Goals as goal
use Rattle.vatbramble_host.specs.Asks.{asking_says}
use Rattle.std.proofs.Common.{ap, refl}
use Rattle.task_loop.proofs.MainStepLemmas.{stepped_still}
use Rattle.ops_turns.specs.declared.mains.MainStep.TheVariants as step

pub start-requires-clause-may : goal.start-requires-clause-may
start-requires-clause-may g c = may_after g.H.HostWork.course c.args.component.now c.args.self.now c.admitted.new.self c.args.access.now.store.now c.admitted.ensures.spawns c.requires.may

pub finish-requires-clause-may : goal.finish-requires-clause-may
finish-requires-clause-may g c = may_after g.H.HostWork.course c.args.component.now c.args.self.now c.admitted.new.self c.args.access.now.store.now c.admitted.ensures.spawns c.requires.may

pub quiet-requires : goal.quiet-requires
quiet-requires g c = record { may = may_after g.H.HostWork.course c.args.component.now c.args.self.now c.admitted.new.self c.args.access.now.store.now c.admitted.ensures.spawns c.requires.may }

pub ready-requires-clause-may : goal.ready-requires-clause-may
ready-requires-clause-may g c = may_after g.H.HostWork.course c.args.component.now c.args.self.now c.admitted.new.self c.args.access.now.store.now c.admitted.ensures.spawns c.requires.may

pub spawn-requires-clause-may : goal.spawn-requires-clause-may
spawn-requires-clause-may g c = may_after g.H.HostWork.course c.args.component.now c.args.self.now c.admitted.new.self c.args.access.now.store.now c.admitted.ensures.spawns c.requires.may

pub abort-requires-clause-may : goal.abort-requires-clause-may
abort-requires-clause-may g c = may_after g.H.HostWork.course c.args.component.now c.args.self.now c.admitted.new.self c.args.access.now.store.now c.admitted.ensures.spawns c.requires.may

pub wait-requires-clause-may : goal.wait-requires-clause-may
wait-requires-clause-may g c = may_after g.H.HostWork.course c.args.component.now c.args.self.now c.admitted.new.self c.args.access.now.store.now c.admitted.ensures.spawns c.requires.may

pub returns-in-Spawn-clause-steps : goal.returns-in-Spawn-clause-steps
returns-in-Spawn-clause-steps g c =
    steps_before g.H.HostWork.course c.args.component.now c.args.self.now c.admitted.new.self c.args.access.now.store.now c.spawn.result _ _ c.spawn.ensures.step c.spawn.ensures.err

pub returns-in-Abort-clause-steps : goal.returns-in-Abort-clause-steps
returns-in-Abort-clause-steps g c =
    stepped_before g.H.HostWork.course c.args.component.now c.args.self.now c.admitted.new.self c.args.access.now.store.now c.abort.result _ _ c.abort.ensures.step

pub returns-in-Await-clause-steps : goal.returns-in-Await-clause-steps
returns-in-Await-clause-steps g c =
    stepped_before g.H.HostWork.course c.args.component.now c.args.self.now c.admitted.new.self c.args.access.now.store.now c.wait.result _ _ c.wait.ensures.step

pub returns-in-Start-clause-steps : goal.returns-in-Start-clause-steps
returns-in-Start-clause-steps g c =
    steps_before g.H.HostWork.course c.args.component.now c.args.self.now c.admitted.new.self c.args.access.now.store.now c.start.result _ _ c.start.ensures.step c.start.ensures.err

pub returns-in-Finish-clause-steps : goal.returns-in-Finish-clause-steps
returns-in-Finish-clause-steps g c =
    stepped_before g.H.HostWork.course c.args.component.now c.args.self.now c.admitted.new.self c.args.access.now.store.now c.finish.result _ _ c.finish.ensures.step

pub returns-in-Quiet-clause-steps : goal.returns-in-Quiet-clause-steps
returns-in-Quiet-clause-steps g c =
    stepped_before g.H.HostWork.course c.args.component.now c.args.self.now c.admitted.new.self c.args.access.now.store.now c.quiet.result _ _ c.quiet.ensures.step

pub returns-in-Ready-clause-steps : goal.returns-in-Ready-clause-steps
returns-in-Ready-clause-steps g c =
    stepped_before g.H.HostWork.course c.args.component.now c.args.self.now c.admitted.new.self c.args.access.now.store.now c.ready.result _ _ c.ready.ensures.step

pub returns-in-Answer-clause-steps : goal.returns-in-Answer-clause-steps
returns-in-Answer-clause-steps g c =
    let s = c.args.access.now.store.now in
    stepped_still asking_says g.H.HostWork.course c.args.component.now (step.Answer c.in-Answer.value) c.args.self.now s _ c.requires.may (answers_now c.args.component.now s.state.core c.in-Answer.value) refl tt tt (spawns_same _ _ _ (ap (λ v. v.items) c.admitted.ensures.spawns) c.requires.may.knows)

pub returns-in-Pend-clause-steps : goal.returns-in-Pend-clause-steps
returns-in-Pend-clause-steps g c =
    let s = c.args.access.now.store.now in
    stepped_still asking_says g.H.HostWork.course c.args.component.now step.Pends c.args.self.now s _ c.requires.may (pends_now c.args.component.now s.state.core) refl tt tt (spawns_same _ _ _ (ap (λ v. v.items) c.admitted.ensures.spawns) c.requires.may.knows)

pub returns-in_default-clause-steps : goal.returns-in_default-clause-steps
returns-in_default-clause-steps g c =
    let s = c.args.access.now.store.now in
    stepped_still asking_says g.H.HostWork.course c.args.component.now step.Pends c.args.self.now s _ c.requires.may (pends_now c.args.component.now s.state.core) refl tt tt (spawns_same _ _ _ (ap (λ v. v.items) c.admitted.ensures.spawns) c.requires.may.knows)
