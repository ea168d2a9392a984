use Rattle.std.proofs.Common.{◌≡◌, ◌++◌, drop}
use Rattle.task_abort.specs.Staged.{all_aborts}
use Rattle.beside_works.specs.Shared.{listed}
use Rattle.beside_works.proofs.log.add_all.Given as goal

abbrev pub invariant-loop-aborter : goal.invariant-loop-aborter
invariant-loop-aborter l = l.out.items ++ all_aborts (listed (drop l.aborter-index l.aborters)) ≡ l.initial.out.items ++ all_aborts (listed l.aborters)
