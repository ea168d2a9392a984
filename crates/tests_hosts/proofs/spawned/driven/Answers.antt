-- A run begins in a new store in which a work was spawned.
use Rattle.machine_data.specs.declared.scenario.Version.TheVariants as version
use Rattle.tests_hosts.proofs.spawned.driven.Goals as goal
use Rattle.std.proofs.Common.{ap, arith, ◌∙◌}
use Rattle.std.specs.Option.{option_map}
use Rattle.task_loop.proofs.BeginLemmas.{may_start}
use Rattle.machine_data.specs.declared.records.Turn.TheVariants as turn
use Rattle.ops_turns.proofs.FreshLemmas.{core_in_order_fresh}
use Rattle.core_primitives.specs.StateView.{StateView, thread_of}

pub drive-requires : goal.drive-requires
drive-requires g c =
    let x = c.args.scenario.now in
    let e = c.spawns.ensures in
    record {
      may = may_start _ _ _ c.in-Ok.run' c.in-Ok.ensures.turn c.new-main.result (rw (c.new-main.ensures.ops, c.as_slice.ensures) c.requires.runnable.main) c.requires.runnable.component c.spawns.new.store _ c.run_concurrent.ensures.store _
          (e.order x.component turn.Main (rw c.requires.fresh (core_in_order_fresh x.component c.requires.runnable.codes version.One 1 100000 x.table (let one = c.requires.one in omega (arith, one)))))
          (ap (option_map (λ k. thread_of c.spawns.new.store.state k)) (e.current ∙ ap (λ (v : StateView). v.current) c.requires.fresh))
          (c.new-main.ensures.knows _) e.hosts (e.groups c.requires.groups) (let given = e.given in omega (arith, given));
    }
