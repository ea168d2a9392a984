-- Main waits.
use Rattle.store_works.specs.declared.scripted.ScriptedHost.{ScriptedHost}
use Rattle.tests_serve.proofs.stage.ScopedMainTaskUnitScriptedHostNoHook.step.Goals as goal
use Rattle.std.proofs.Common.{refl}
use Rattle.task_loop.proofs.MainStepLemmas.{stepped_still}
use Rattle.ops_turns.specs.declared.mains.MainStep.TheVariants as step

pub returns-clause-steps : goal.returns-clause-steps
returns-clause-steps c =
    let main = c.args.self.now in
    stepped_still _ (λ (w : ScriptedHost). w.left) c.args._component.now step.Pends main c.args._access.now.store.now main c.requires.may (record { part = refl; core = refl; pends = refl }) refl refl tt c.requires.may.knows
