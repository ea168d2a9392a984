-- The scenario's opening state is in order, and so is the state in which nothing goes on.
use Rattle.machine_data.specs.declared.scenario.Version.TheVariants as version
use Rattle.std.proofs.Common.{ap, arith, subst, ◌∙◌}
use Rattle.tests_hosts.proofs.WaitLemmas.{given_after, given_zero, idle_turn}
use Rattle.tests_hosts.proofs.waits.idles.Goals as goal
use Rattle.machine_data.specs.declared.records.Turn.{Turn}
use Rattle.ops_turns.specs.Turn.{CoreInOrder, runs_in}
use Rattle.task_loop.proofs.BeginLemmas.{may_open}
use Rattle.task_loop.proofs.HasRunLemmas.{drives_of}

pub drive-requires : goal.drive-requires
drive-requires g c =
    let x = c.args.scenario.now in
    record {
      may = may_open _ _ _ c.in-Ok.run' c.in-Ok.ensures.turn c.new-main.result (rw (c.new-main.ensures.ops, c.as_slice.ensures) c.requires.runnable.main) c.requires.runnable.component c.args.store.now _ c.run_concurrent.ensures.store _
          c.requires.runnable.codes version.One 2 100000 1000000 (let two = c.requires.two in omega (arith, two)) c.requires.fresh c.requires.works (c.new-main.ensures.knows _) c.requires.groups;
    }

pub returns-clause-turn : goal.returns-clause-turn
returns-clause-turn g c =
    let gone = (rw c.in-Ok-Idle.is at c.drive.ensures.drives).gone in idle_turn _ _ _ _ _ _ _ (drives_of _ _ _ _ _ 100 _ gone) c.in-Ok-Idle.field-0-is

pub returns-clause-order : goal.returns-clause-order
returns-clause-order g c =
    let gone = (rw c.in-Ok-Idle.is at c.drive.ensures.drives).gone in
    let taking = idle_turn _ _ _ _ _ _ _ (drives_of _ _ _ _ _ 100 _ gone) c.in-Ok-Idle.field-0-is in
    subst (λ (p : Turn). CoreInOrder c.args.scenario.now.component p c.drive.new.store.state.core) taking gone.has.may_turn.order

pub returns-clause-current : goal.returns-clause-current
returns-clause-current g c =
    let gone = (rw c.in-Ok-Idle.is at c.drive.ensures.drives).gone in
    let taking = idle_turn _ _ _ _ _ _ _ (drives_of _ _ _ _ _ 100 _ gone) c.in-Ok-Idle.field-0-is in gone.has.may_turn.running ∙ ap runs_in taking

pub returns-clause-hosts : goal.returns-clause-hosts
returns-clause-hosts g c = let d = rw c.in-Ok-Idle.is at c.drive.ensures.drives in d.gone.has.may_turn.works

pub returns-clause-groups : goal.returns-clause-groups
returns-clause-groups g c = let d = rw c.in-Ok-Idle.is at c.drive.ensures.drives in d.gone.has.may_turn.asked

pub returns-clause-given : goal.returns-clause-given
returns-clause-given g c =
    let d = rw c.in-Ok-Idle.is at c.drive.ensures.drives in given_after _ _ (rw c.run_concurrent.ensures.store (given_zero _ c.requires.fresh)) d.gone.has.numbers
