-- A run begins in a new store.
use Rattle.std.proofs.Common.{arith}
use Rattle.tests_surface.proofs.drive.ran.Goals as goal
use Rattle.task_loop.proofs.BeginLemmas.{may_start}

pub drive-outcome-requires : goal.drive-outcome-requires
drive-outcome-requires g c =
    let e = c.store-store.ensures in
    record { may = may_start _ _ _ c.in-Ok.run' c.in-Ok.ensures.turn _ tt c.component-component.ensures.covered c.store-store.result _ (c.run_concurrent.ensures.store) _ e.order e.current tt e.hosts e.groups (let given = e.given in omega (arith, given)) }
