-- The scenario's opening state is in order, and a run keeps it so.
use Rattle.machine_data.specs.declared.scenario.Version.TheVariants as version
use Rattle.std.proofs.Common.{arith, ◌≡◌}
use Rattle.tests_surface.proofs.instance_calls.drive.Goals as goal
use Rattle.ops_turns.specs.Turn.{given}
use Rattle.ops_turns.proofs.FreshLemmas.{given_fresh}
use Rattle.task_loop.proofs.BeginLemmas.{may_open, runner_stands}

pub drive-driven-requires : goal.drive-driven-requires
drive-driven-requires g c =
    let x = c.args.scenario.now in
    record {
      may = may_open _ _ _ c.in-Ok.run' c.in-Ok.ensures.turn c.new-main.result (rw (c.new-main.ensures.ops, c.as_slice.ensures) c.requires.runnable.main) c.requires.runnable.component c.args.store.now _ c.run_concurrent.ensures.store _
          c.requires.runnable.codes version.One 2 100000 1000000 (let two = c.requires.two in omega (arith, two)) c.requires.fresh c.requires.works (c.new-main.ensures.knows _) c.requires.groups;
    }

pub returns-clause-order : goal.returns-clause-order
returns-clause-order g c = let driven = rw c.in-Ok-OutOfSteps.is at c.drive-driven.ensures.drives in rw c.end.ensures (runner_stands _ _ _ _ _ driven.gone.has.may_turn)

pub returns-clause-given : goal.returns-clause-given
returns-clause-given g c =
    let driven = rw c.in-Ok-OutOfSteps.is at c.drive-driven.ensures.drives in
    let few = driven.gone.has.numbers in
    let none : given c.run_concurrent.new.store.state.core ≡ 0 = rw (c.run_concurrent.ensures.store, c.requires.fresh) (given_fresh version.One 2 100000 1000000) in
    let steps = c.requires.few in
    rw c.end.ensures (omega (arith, few, none, steps))

pub returns-clause-hosts : goal.returns-clause-hosts
returns-clause-hosts g c = let driven = rw c.in-Ok-OutOfSteps.is at c.drive-driven.ensures.drives in rw c.end.ensures driven.gone.has.may_turn.works
