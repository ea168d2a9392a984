use Rattle.std.proofs.Common.{◌≡◌, take}
use Rattle.task_run.proofs.copy.copy_exports.Given as goal

abbrev pub invariant-loop-export : goal.invariant-loop-export
invariant-loop-export l = l.copies ≡ take l.export-index l.export-items
