use Rattle.std.proofs.Common.{◌≡◌, drop}
use Rattle.task_abort.specs.Staged.{any_abort}
use Rattle.beside_works.specs.Shared.{listed}
use Rattle.beside_works.proofs.log.any_abort.Given as goal

abbrev pub invariant-loop-aborter : goal.invariant-loop-aborter
invariant-loop-aborter l = any_abort (listed l.aborters) ≡ any_abort (listed (drop l.aborter-index l.aborters))
