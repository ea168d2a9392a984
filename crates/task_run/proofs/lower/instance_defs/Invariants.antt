use Rattle.std.proofs.Common.{◌≡◌, map}
use Rattle.task_run.specs.Lower.{names_of, instance_def}
use Rattle.task_run.proofs.lower.instance_defs.Given as goal

abbrev pub invariant-loop-instance : goal.invariant-loop-instance
invariant-loop-instance l = record {
  names : l.names ≡ map names_of l.yielded;
  defs : l.defs ≡ map instance_def l.yielded;
}
