use Rattle.std.proofs.Common.{◌≡◌, ◌++◌, take}
use Rattle.task_abort.specs.Staged.{in_stage}
use Rattle.beside_works.proofs.log.add_stage.Given as goal

abbrev pub invariant-loop-entry : goal.invariant-loop-entry
invariant-loop-entry l = l.out.items ≡ l.initial.out.items ++ in_stage l.wanted (take l.entry-index l.entries)
