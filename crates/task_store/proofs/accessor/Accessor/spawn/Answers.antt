use Rattle.std.proofs.Common.{ap, refl, sym}
use Rattle.task_store.specs.Spawns.{of_task}
use Rattle.task_store.proofs.accessor.Accessor.spawn.Goals as goal

pub returns-in-Ok : goal.returns-in-Ok
returns-in-Ok g c =
    rw c.in-Store.is (
      c.spawn.result,
      ap of_task (sym c.in-Ok.is),
      record {
        left = _;
        held = refl;
        same = refl;
        holds = c.spawn.ensures.spawns;
      },
    )

pub returns-in-Err : goal.returns-in-Err
returns-in-Err g c =
    rw c.in-Store.is (
      c.spawn.result,
      ap of_task (sym c.in-Err.is),
      record {
        left = _;
        held = refl;
        same = refl;
        holds = c.spawn.ensures.spawns;
      },
    )
