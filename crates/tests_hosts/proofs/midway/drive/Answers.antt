-- The scenario's opening state is in order, and a run keeps it so.
use Rattle.machine_data.specs.declared.scenario.Version.TheVariants as version
use Rattle.tests_hosts.proofs.midway.drive.Goals as goal
use Rattle.std.proofs.Common.{ap, arith, ◌∙◌, ◌≡◌}
use Rattle.std.specs.Prelude.{Ok}
use Rattle.machine_data.specs.declared.outcome.Outcome.{Outcome}
use Rattle.machine_data.specs.declared.outcome.Outcome.TheVariants as outcome
use Rattle.task_loop.proofs.BeginLemmas.{may_open, runner_stands}

pub drive-driven-requires : goal.drive-driven-requires
drive-driven-requires g c =
    let x = c.args.scenario.now in
    record {
      may = may_open _ _ _ c.in-Ok.run' c.in-Ok.ensures.turn c.new-main.result (rw (c.new-main.ensures.ops, c.as_slice.ensures) c.requires.runnable.main) c.requires.runnable.component c.args.store.now _ c.run_concurrent.ensures.store _
          c.requires.runnable.codes version.One 1 100000 1000000 (let one = c.requires.one in omega (arith, one)) c.requires.fresh c.requires.works (c.new-main.ensures.knows _) c.requires.groups;
    }

pub returns-clause-order : goal.returns-clause-order
returns-clause-order g c =
    let steps : c.drive-driven.result ≡ Ok outcome.OutOfSteps = c.in-Ok-OutOfSteps.is ∙ ap (λ (o : Outcome). Ok o) (rw c.in-Ok-OutOfSteps.is at c.in-Ok-OutOfSteps.field-0-is) in
    let driven = rw steps at c.drive-driven.ensures.drives in
    rw c.end.ensures (runner_stands _ _ _ _ _ driven.gone.has.may_turn)
