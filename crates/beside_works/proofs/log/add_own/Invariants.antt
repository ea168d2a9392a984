use Rattle.std.proofs.Common.{◌≡◌, ◌++◌, drop, false}
use Rattle.task_abort.specs.Staged.{entered}
use Rattle.beside_works.proofs.log.add_own.Given as goal

abbrev pub invariant-loop-made : goal.invariant-loop-made
invariant-loop-made l = l.out.items ++ entered l.left l.others l.requested (drop l.made-index l.own) ≡ l.initial.out.items ++ entered l.early l.others false l.own
