-- The ops for which there are calls of an instance, if there is more than one.
use Rattle.std.specs.Prelude.{Bool, false, true, ℕ}
use Rattle.ops_calls.specs.declared.intrinsics.SuspensionTarget.{SuspensionTarget}
use Rattle.ops_calls.specs.declared.intrinsics.SuspensionTarget.TheVariants as target
use Rattle.machine_data.specs.declared.op.CallOp.TheVariants as call_op
use Rattle.machine_data.specs.declared.op.Op.{Op}
use Rattle.machine_data.specs.declared.op.Op.TheVariants as op
use Rattle.machine_data.specs.declared.op.Operand.TheVariants as operand
use Rattle.machine_data.specs.declared.op.TaskOp.TheVariants as task_op
use Rattle.machine_data.specs.declared.op.ThreadOp.TheVariants as thread_op

abbrev pub cancel_op : (not_waiting : Bool) → (handle : ℕ) → Op
cancel_op true h = op.Call (call_op.Cancel 0 (operand.Number h))
cancel_op false h = op.Call (call_op.CancelSync 0 (operand.Number h))

abbrev pub pressure_op : (up : Bool) → Op
pressure_op true = op.Task task_op.BpInc
pressure_op false = op.Task task_op.BpDec

abbrev pub suspension_op : (yielding : Bool) → SuspensionTarget → Op
suspension_op false (target.Resume h) = op.Thread (thread_op.SuspendThenResume (operand.Number h))
suspension_op false (target.Promote h) = op.Thread (thread_op.SuspendThenPromote (operand.Number h))
suspension_op false target.None = op.Thread thread_op.Suspend
suspension_op true (target.Resume h) = op.Thread (thread_op.YieldThenResume (operand.Number h))
suspension_op true (target.Promote h) = op.Thread (thread_op.YieldThenPromote (operand.Number h))
suspension_op true target.None = op.Thread thread_op.Yield
