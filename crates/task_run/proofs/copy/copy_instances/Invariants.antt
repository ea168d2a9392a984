use Rattle.std.proofs.Common.{◌≡◌, take}
use Rattle.task_run.proofs.copy.copy_instances.Given as goal

abbrev pub invariant-loop-instance : goal.invariant-loop-instance
invariant-loop-instance l = l.copies ≡ take l.instance-index l.instance-items
