use Rattle.std.proofs.Common.{◌≡◌, ◌++◌, map, take}
use Rattle.task_abort.specs.PhaseLog.{entry}
use Rattle.task_abort.specs.declared.log.PhaseCall.TheVariants.{Abort}
use Rattle.beside_works.proofs.log.add_aborts.Given as goal

abbrev pub invariant-loop-phase : goal.invariant-loop-phase
invariant-loop-phase l = l.out.items ≡ l.initial.out.items ++ map (λ p. entry l.aborter.number Abort p) (take l.phase-index l.aborter.found.items)
