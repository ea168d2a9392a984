-- The run begins at main's turn, in the store as it was.
use Rattle.tests_serve.proofs.stage.settle.Goals as goal
use Rattle.std.proofs.Common.{arith}
use Rattle.task_loop.proofs.BeginLemmas.{may_start}

pub drive-requires : goal.drive-requires
drive-requires g c =
    let ready = c.requires.ready in
    record { may = may_start _ _ _ c.in-Ok.run' c.in-Ok.ensures.turn _ tt c.requires.covered c.args.store.now _ c.run_concurrent.ensures.store _ ready.order ready.current c.requires.of ready.hosts ready.groups (let few = ready.few in omega (arith, few)) }

pub returns-clause-hosts : goal.returns-clause-hosts
returns-clause-hosts g c = rw c.end.ensures c.in-Ok-drive.ensures.drives.gone.has.may_turn.works

pub returns-clause-of : goal.returns-clause-of
returns-clause-of g c = rw c.end.ensures c.in-Ok-drive.ensures.drives.gone.has.may_turn.knows
