-- What was finished or started is a step of main, and main may answer.
use Rattle.task_loop.proofs.OpenMainLemmas.{answers_now}
use Rattle.host_embedding.proofs.relay.RelayMainTaskUnitScriptedHostNoHook.step.Goals as goal
use Rattle.host_embedding.specs.Says.{relay_says}
use Rattle.store_works.specs.declared.scripted.ScriptedHost.{ScriptedHost}
use Rattle.std.proofs.Common.{inl, refl}
use Rattle.std.specs.Prelude.{Err, IfErr, IfOk, Ok, Result}
use Rattle.ops_state.specs.declared.error.TaskError.{TaskError}
use Rattle.task_loop.proofs.MainStepLemmas.{stepped_still}
use Rattle.task_loop.specs.HasRun.{HasStepResult, StepsTo}
use Rattle.task_loop.specs.Hooked.{LacksOp}
use Rattle.machine_data.specs.declared.component.Component.{Component}
use Rattle.task_store.specs.declared.store.Store.{Store}
use Rattle.host_embedding.specs.declared.relay.Relay.{Relay}
use Rattle.ops_turns.specs.declared.mains.MainStep.{MainStep}
use Rattle.ops_turns.specs.declared.mains.MainStep.TheVariants as step

-- what a start has resulted in is a step of main
started_to : {T G : Type 0} (d : Component) (r : Result MainStep TaskError) (m : Relay) (s : Store T ScriptedHost G) (n : Relay) (t : Store T ScriptedHost G) → IfOk r (λ q. HasStepResult relay_says (λ (w : ScriptedHost). w.left) d q m s n t) →
    IfErr r (λ e. LacksOp e s.listeners t.listeners) → StepsTo relay_says (λ (w : ScriptedHost). w.left) d r m s n t
started_to d (Ok q) m s n t did err = did
started_to d (Err e) m s n t did err = inl err

pub returns-in-0-clause-steps : goal.returns-in-0-clause-steps
returns-in-0-clause-steps c = started_to c.args.component.now c.start.result _ _ _ _ c.start.ensures.step c.start.ensures.err

pub returns-in-1-clause-steps : goal.returns-in-1-clause-steps
returns-in-1-clause-steps c = started_to c.args.component.now c.start-in-1.result _ _ _ _ c.start-in-1.ensures.step c.start-in-1.ensures.err

pub returns-in_default-clause-steps : goal.returns-in_default-clause-steps
returns-in_default-clause-steps c =
    let s = c.args.access.now.store.now in
    let main = c.args.self.now in
    stepped_still relay_says (λ (w : ScriptedHost). w.left) c.args.component.now (step.Answer main.word) main s _ c.requires.may (answers_now c.args.component.now s.state.core main.word) refl (refl, refl) c.requires.may.suits c.requires.may.knows

pub returns-then-self-clause-steps : goal.returns-then-self-clause-steps
returns-then-self-clause-steps c = c.finish.ensures.step
