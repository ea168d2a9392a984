use Rattle.std.proofs.Common.{refl, subst}
use Rattle.std.specs.Prelude.{List, Option, Some, []}
use Rattle.machine_data.specs.declared.label.Label.{Label}
use Rattle.machine_data.specs.declared.records.Turn.{Turn}
use Rattle.task_loop.specs.HasRun.{Keeps, at}
use Rattle.task_loop.specs.SingleSteps.{StepsOnce}
use Rattle.task_run.specs.Says.{script_says}
use Rattle.trace_machine.proofs.StepLemmas.{idle_rests, may_run, once_shown, steps_on}
use Rattle.trace_machine.proofs.machine.Machine.go_on.Goals as goal
use Rattle.trace_machine.specs.Machines.{scripted_course}

pub step-stepped-requires : goal.step-stepped-requires
step-stepped-requires c = record { may = may_run c.args.self.now _ c.requires.kept c.requires.turn c.requires.few }

pub unreachable-requires : goal.unreachable-requires
unreachable-requires c =
    let m = c.args.self.now in
    let run = c.step-stepped.new.self in
    let main = c.step-stepped.new.main in
    let store = c.step-stepped.new.store in
    let trace = c.step-stepped.new.trace in
    idle_rests m run store main c.in-Ok.made c.in_default-made.not-Some c.requires.kept c.requires.moves trace
    (subst (λ (ls : List Label). StepsOnce script_says scripted_course m.scenario.now.component c.in-Ok.made (at m.run m.main m.store ls) (at run main store trace)) c.new-trace.ensures c.in-Ok.ensures.stepped)

pub only_label-label-requires : goal.only_label-label-requires
only_label-label-requires c =
    let m = c.args.self.now in
    let run = c.step-stepped.new.self in
    let main = c.step-stepped.new.main in
    let store = c.step-stepped.new.store in
    let trace = c.step-stepped.new.trace in
    once_shown m run store main trace c.in-Some.turn
    (subst (λ (o : Option Turn). StepsOnce script_says scripted_course m.scenario.now.component o (at m.run m.main m.store []) (at run main store trace)) c.in-Some.is
    (subst (λ (ls : List Label). StepsOnce script_says scripted_course m.scenario.now.component c.in-Ok.made (at m.run m.main m.store ls) (at run main store trace)) c.new-trace.ensures c.in-Ok.ensures.stepped))

pub keep_order-requires : goal.keep_order-requires
keep_order-requires c = c.requires.kept.timed

pub returns : goal.returns
returns c =
    let m = c.args.self.now in
    let run = c.step-stepped.new.self in
    let main = c.step-stepped.new.main in
    let store = c.step-stepped.new.store in
    let trace = c.step-stepped.new.trace in
    steps_on m _ trace c.in-Some.turn c.only_label-label.result c.requires.kept c.requires.turn refl refl refl c.only_label-label.ensures c.in_ok-keep_order.ensures.0 c.in_ok-keep_order.ensures.1
    (subst (λ (ls : List Label). Keeps script_says (at m.run m.main m.store ls) (at run main store trace)) c.new-trace.ensures c.step-stepped.ensures.keeps)
    (subst (λ (o : Option Turn). StepsOnce script_says scripted_course m.scenario.now.component o (at m.run m.main m.store []) (at run main store trace)) c.in-Some.is
    (subst (λ (ls : List Label). StepsOnce script_says scripted_course m.scenario.now.component c.in-Ok.made (at m.run m.main m.store ls) (at run main store trace)) c.new-trace.ensures c.in-Ok.ensures.stepped))
