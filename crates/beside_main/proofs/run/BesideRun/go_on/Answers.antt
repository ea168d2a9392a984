use Rattle.std.proofs.Common.{ap, arith, refl, sym, ◌∙◌}
use Rattle.beside_main.proofs.CourseLemmas.{goes_on_by, goes_still, took_behind, took_result}
use Rattle.beside_main.proofs.MetLemmas.{rested_took}
use Rattle.beside_main.proofs.run.BesideRun.go_on.Goals as goal

pub steps-init : goal.steps-init
steps-init g c = goes_still c.args.component.now c.args.self.now c.requires.able

pub step-requires-clause-able : goal.step-requires-clause-able
step-requires-clause-able g c = c.steps.invariant.able

pub steps-preserved : goal.steps-preserved
steps-preserved g c = goes_on_by c.args.component.now c.args.self.now c.steps.self c.step.new.self c.in_ok-outcome.outcome c.steps.invariant c.in_ok-outcome.ensures.took (c.is_open.ensures.open c.if-not-is_open.false)

pub returns-then-not-is_open-clause-took : goal.returns-then-not-is_open-clause-took
returns-then-not-is_open-clause-took g c = took_behind c.args.component.now c.args.self.now c.steps.self c.step.new.self c.in_ok-outcome.outcome c.steps.invariant c.in_ok-outcome.ensures.took

pub returns-then-not-is_open-clause-left : goal.returns-then-not-is_open-clause-left
returns-then-not-is_open-clause-left g c is = absurd (c.is_open.ensures.over c.if-not-is_open.true is)

pub drive-requires : goal.drive-requires
drive-requires g c = record { may = c.steps.invariant.able.may }

pub returns-clause-took : goal.returns-clause-took
returns-clause-took g c =
    let k = c.args.component.now in
    let a = c.steps.self in
    let b = record a { run = c.drive.new.self; store = c.drive.new.store; main = c.drive.new.main; trace = c.drive.new.trace } in
    took_result k c.args.self.now a b c.drive.result c.steps.invariant
    (rested_took k c.drive.result a.run.yield_budget c.drive.new.self.yield_budget a b c.steps.invariant.able refl refl c.drive.ensures.keeps c.drive.ensures.drives)
