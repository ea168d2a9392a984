use Rattle.std.proofs.Common.{◌≡◌, map}
use Rattle.task_run.specs.Lower.{main_op}
use Rattle.task_run.proofs.lower.main_ops.Given as goal

abbrev pub invariant-loop-line : goal.invariant-loop-line
invariant-loop-line l = l.ops ≡ map main_op l.yielded
