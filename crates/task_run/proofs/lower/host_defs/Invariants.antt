use Rattle.std.proofs.Common.{◌≡◌, map}
use Rattle.task_run.specs.Lower.{host_def, host_name}
use Rattle.task_run.proofs.lower.host_defs.Given as goal

abbrev pub invariant-loop-host : goal.invariant-loop-host
invariant-loop-host l = record {
  names : l.names ≡ map host_name l.yielded;
  defs : l.defs ≡ map host_def l.yielded;
}
