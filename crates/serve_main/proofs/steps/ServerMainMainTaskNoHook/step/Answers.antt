-- What a server did is a step of main.
use Rattle.serve_main.proofs.SaysLemmas.{after_wait, may_serve, served, waited_on}
use Rattle.serve_main.proofs.steps.ServerMainMainTaskNoHook.step.Goals as goal
use Rattle.serve_main.specs.Steps.{HasStepResult, HasWaited}
use Rattle.task_group.specs.Listeners.{Listeners}
use Rattle.task_loop.proofs.LackLemmas.{tells_none}
use Rattle.task_loop.specs.Hooked.{LacksOp}
use Rattle.task_loop.specs.Told.{TellsSome}
use Rattle.std.proofs.Common.{inl, refl, rules, subst}
use Rattle.std.proofs.lemmas.Result.{err_from_is_err_and}

pub reply_refusal-requires-clause-may : goal.reply_refusal-requires-clause-may
reply_refusal-requires-clause-may g c = may_serve g.H.HostWork.course c.args.component.now c.args.self.now c.args.access.now.store.now c.requires.may

pub finish_next-requires : goal.finish_next-requires
finish_next-requires g c = record { may = may_serve g.H.HostWork.course c.args.component.now c.args.self.now c.args.access.now.store.now c.requires.may }

pub returns-then-self-2-clause-steps : goal.returns-then-self-2-clause-steps
returns-then-self-2-clause-steps g c =
    served g.H.HostWork.course c.args.component.now c.args.self.now c.args.access.now.store.now _ _ _ c.requires.may.suits c.reply_refusal.ensures.step

pub returns-in-Some-clause-steps : goal.returns-in-Some-clause-steps
returns-in-Some-clause-steps g c =
    served g.H.HostWork.course c.args.component.now c.args.self.now c.args.access.now.store.now _ _ _ c.requires.may.suits c.in-Some.ensures.step

pub returns-in-Some-2-clause-steps : goal.returns-in-Some-2-clause-steps
returns-in-Some-2-clause-steps g c =
    let course = g.H.HostWork.course in
    let d = c.args.component.now in
    let m = c.args.self.now in
    let s = c.args.access.now.store.now in
    let k = c.finish_next.new.main in
    let u = c.finish_next.new.access.store.now in
    let n = c.start_next.new.main in
    let t = c.start_next.new.access.store.now in
    let waited : HasWaited course d m s k u = search rules in
    let did : HasStepResult course d k u c.in-Some-2.step n t = search rules in
    served course d m s c.in-Some-2.step n t c.requires.may.suits (after_wait course d m s k u waited c.in-Some-2.step n t did)

pub returns-clause-steps : goal.returns-clause-steps
returns-clause-steps g c =
    let course = g.H.HostWork.course in
    let d = c.args.component.now in
    let m = c.args.self.now in
    let s = c.args.access.now.store.now in
    let k = c.finish_next.new.main in
    let u = c.finish_next.new.access.store.now in
    let n = c.start_next.new.main in
    let t = c.start_next.new.access.store.now in
    let waited : HasWaited course d m s k u = search rules in
    let again : HasWaited course d k u n t = search rules in
    served course d m s c.rest.result n t c.requires.may.suits (after_wait course d m s n t (waited_on course d m s k u waited n t again) c.rest.result n t c.rest.ensures.step)

-- ---- It is out of memory

pub returns-then-not-trapped-clause-steps : goal.returns-then-not-trapped-clause-steps
returns-then-not-trapped-clause-steps g c = inl (refl, tells_none _ _ refl)

pub returns-in_err-step-clause-steps : goal.returns-in_err-step-clause-steps
returns-in_err-step-clause-steps g c =
    let s = c.args.access.now.store.now in
    let u = c.finish_next.new.access.store.now in
    let t = c.start_next.new.access.store.now in
    let waited : HasWaited g.H.HostWork.course c.args.component.now c.args.self.now s c.finish_next.new.main u = search rules in
    let lacks : LacksOp _ u.listeners t.listeners = c.in_err-step.ensures.err in
    let answered = err_from_is_err_and c.from_residual.result c.from_residual.ensures.1 in
    rw (answered.1, answered.2) (inl (lacks.0, subst (λ (l : Listeners). TellsSome l t.listeners) waited.listeners lacks.1))
