use Rattle.std.proofs.Common.{subst, sym}
use Rattle.std.specs.Prelude.{Bool}
use Rattle.beside_main.proofs.ReportLemmas.{able_trap, cut_past, past_result}
use Rattle.beside_main.specs.Course.{Able}
use Rattle.beside_main.specs.Round.{RoundMade}
use Rattle.task_loop.specs.declared.run.RunConcurrent.{RunConcurrent}
use Rattle.beside_main.proofs.report.go_past.Goals as goal

pub last_round-requires-clause-able : goal.last_round-requires-clause-able
last_round-requires-clause-able g c =
    subst (λ (r : RunConcurrent). Able c.args.component.now (record c.args.beside.now { run = r })) (sym c.set_trap_on_idle.ensures)
    (able_trap c.args.component.now c.args.trap c.args.beside.now c.requires.able c.requires.turn)

pub returns-then-not-done : goal.returns-then-not-done
returns-then-not-done g c =
    let a = c.args.beside.now in
    let made = subst (λ (r : RunConcurrent). RoundMade c.args.component.now c.in_ok-done.done (record a { run = r }) c.last_round.new.self) c.set_trap_on_idle.ensures
    c.in_ok-done.ensures.round in
    cut_past c.args.component.now c.args.trap a c.last_round.new.self
    (subst (λ (d : Bool). RoundMade c.args.component.now d (record a { run = record a.run { trap_on_idle = c.args.trap } }) c.last_round.new.self) c.if-not-done.true made)
    c.requires.turn

pub go_on-requires : goal.go_on-requires
go_on-requires g c = record { able = c.in_ok-done.ensures.round.able }

pub returns : goal.returns
returns g c =
    let a = c.args.beside.now in
    let made = subst (λ (r : RunConcurrent). RoundMade c.args.component.now c.in_ok-done.done (record a { run = r }) c.last_round.new.self) c.set_trap_on_idle.ensures
    c.in_ok-done.ensures.round in
    past_result c.args.component.now c.args.trap c.go_on.result a c.last_round.new.self c.go_on.new.self
    (subst (λ (d : Bool). RoundMade c.args.component.now d (record a { run = record a.run { trap_on_idle = c.args.trap } }) c.last_round.new.self) c.if-not-done.false made)
    c.requires.turn c.go_on.ensures.took c.go_on.ensures.left
