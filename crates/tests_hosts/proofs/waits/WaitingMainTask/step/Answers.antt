-- Main waits.
use Rattle.tests_hosts.proofs.waits.WaitingMainTask.step.Goals as goal
use Rattle.std.proofs.Common.{refl}
use Rattle.task_loop.proofs.MainStepLemmas.{stepped_still}
use Rattle.ops_turns.specs.declared.mains.MainStep.TheVariants as step

pub returns-clause-steps : goal.returns-clause-steps
returns-clause-steps g c =
    let main = c.args.self.now in
    stepped_still _ g.H.HostWork.course c.args._component.now step.Pends main c.args._access.now.store.now main c.requires.may (record { part = refl; core = refl; pends = refl }) refl refl tt tt
