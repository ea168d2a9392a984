-- A step that pends is made apart.
use Rattle.std.proofs.Common.{arith, refl, ◌∙◌}
use Rattle.task_loop.proofs.MainStepLemmas.{fails_telling, lacks_main, step_failed, step_turned}
use Rattle.task_loop.proofs.run.step_main.Goals as goal
use Rattle.ops_turns.proofs.SteppedLemmas.{of_failed, of_lost, of_made}
use Rattle.ops_turns.specs.declared.mains.MainStep.TheVariants as step

pub ask_main-requires : goal.ask_main-requires
ask_main-requires g c = record { may = c.requires.may }

pub made_by_main-pends-requires : goal.made_by_main-pends-requires
made_by_main-pends-requires g c = c.in-Ok.ensures.steps.idle ∙ c.requires.may.idle

pub made_by_main-made-requires : goal.made_by_main-made-requires
made_by_main-made-requires g c = c.in-Ok.ensures.steps.idle ∙ c.requires.may.idle

pub returns-in-Pends-clause-turned : goal.returns-in-Pends-clause-turned
returns-in-Pends-clause-turned g c idle =
    of_made c.put.result c.put.ensures.made
    (step_turned g.M.MainTask.says g.H.HostWork.course c.args.component.now c.in-Ok.step step.Pends c.in-Pends.is c.args.main.now c.args.store.now c.ask_main.new.main c.ask_main.new.store c.in-Ok.ensures.steps c.requires.may.idle
    c.made_by_main-pends.result c.made_by_main-pends.ensures.label c.made_by_main-pends.ensures.turns c.put.result c.args.trace.now.labels c.put.new.trace.labels c.put.ensures.made c.put.ensures.in_trace idle)

pub returns : goal.returns
returns g c = record {
  constants_stay = c.in-Ok.ensures.constants_stay;
  script = c.in-Ok.ensures.script;
  turned = λ idle.
      of_made c.put-2.result c.put-2.ensures.made
      (step_turned g.M.MainTask.says g.H.HostWork.course c.args.component.now c.in-Ok.step c.in-Ok.step refl c.args.main.now c.args.store.now c.ask_main.new.main c.ask_main.new.store c.in-Ok.ensures.steps c.requires.may.idle
      c.made_by_main-made.result c.made_by_main-made.ensures.label c.made_by_main-made.ensures.turns c.put-2.result c.args.trace.now.labels c.put-2.new.trace.labels c.put-2.ensures.made c.put-2.ensures.in_trace idle);
  spare = omega (arith, c.put-2.ensures.spare);
}

-- ---- It isn't made

pub returns-in-Err-Trap-clause-turned : goal.returns-in-Err-Trap-clause-turned
returns-in-Err-Trap-clause-turned g c idle =
    let main = c.args.main.now in
    let s = c.args.store.now in
    of_failed (step_failed g.M.MainTask.says g.H.HostWork.course c.args.component.now _ _ c.in-Err-Trap.field-0-is main s c.ask_main.new.main c.ask_main.new.store c.in-Err-Trap.ensures.steps
    (λ u last. g.met.M.MainTask.stays main s.state u last) c.requires.may.knows c.args.trace.now.labels c.args.trace.now.labels refl idle)

pub returns-in-Err : goal.returns-in-Err
returns-in-Err g c = record {
  constants_stay = c.in-Err.ensures.constants_stay;
  script = c.in-Err.ensures.script;
  turned = λ idle. of_lost (lacks_main g.M.MainTask.says g.H.HostWork.course c.args.component.now c.args.main.now c.args.store.now c.ask_main.new.main c.ask_main.new.store
      (fails_telling g.M.MainTask.says g.H.HostWork.course c.args.component.now _ c.args.main.now c.ask_main.new.main c.args.store.now c.ask_main.new.store c.in-Err.ensures.steps) c.args.trace.now.labels c.args.trace.now.labels refl idle);
  spare = omega arith;
}
