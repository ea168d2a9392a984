-- A main that is no script may answer.
use Rattle.std.proofs.Common.{refl}
use Rattle.tests_surface.proofs.DriveLemmas.{answers_now}
use Rattle.tests_surface.proofs.drive.HostMainTask.step.Goals as goal
use Rattle.task_loop.proofs.MainStepLemmas.{stepped_still}
use Rattle.ops_turns.specs.declared.mains.MainStep.TheVariants as step

pub returns-in-Some-clause-steps : goal.returns-in-Some-clause-steps
returns-in-Some-clause-steps g c =
    let main = c.args.self.now in
    let s = c.args._access.now.store.now in
    stepped_still _ g.H.HostWork.course c.args._component.now (step.Answer c.in-Some.value) main s main c.requires.may (answers_now c.args._component.now s.state.core c.in-Some.value) refl refl tt tt

pub returns-in-None-clause-steps : goal.returns-in-None-clause-steps
returns-in-None-clause-steps g c =
    let main = c.args.self.now in
    stepped_still _ g.H.HostWork.course c.args._component.now step.Pends main c.args._access.now.store.now main c.requires.may (record { part = refl; core = refl; pends = refl }) refl refl tt tt
