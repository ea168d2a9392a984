-- A run begins in a new store.
use Rattle.machine_data.specs.declared.scenario.Version.TheVariants as version
use Rattle.std.proofs.Common.{arith}
use Rattle.tests_hosts.proofs.single.first_step.Goals as goal
use Rattle.task_loop.proofs.BeginLemmas.{may_open}

pub step-answer-requires : goal.step-answer-requires
step-answer-requires g c =
    let x = c.args.scenario.now in
    record {
      may = may_open _ _ _ c.in-Ok.run' c.in-Ok.ensures.turn c.new-main.result (rw (c.new-main.ensures.ops, c.as_slice.ensures) c.requires.runnable.main) c.requires.runnable.component c.args.store.now _ c.run_concurrent.ensures.store _
          c.requires.runnable.codes version.One 1 100000 x.table (let one = c.requires.one in omega (arith, one)) c.requires.fresh c.requires.works (c.new-main.ensures.knows _) c.requires.groups;
    }
