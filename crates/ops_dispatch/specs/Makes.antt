-- Which ops may take memory, and which make something.
use Rattle.std.specs.Prelude.{Bool, false, true, None, ℕ, ◌<◌, ◌^◌, ◌≡◌}
use Rattle.machine_data.specs.declared.op.CallOp.TheVariants as call_op
use Rattle.machine_data.specs.declared.op.Op.{Op}
use Rattle.machine_data.specs.declared.op.Op.TheVariants as op
use Rattle.machine_data.specs.declared.op.SetOp.TheVariants as set_op
use Rattle.machine_data.specs.declared.op.ThreadOp.TheVariants as thread_op
use Rattle.machine_data.specs.declared.records.OpProgress.{OpProgress}
use Rattle.machine_data.specs.declared.records.OpProgress.TheVariants as op_progress
use Rattle.machine_data.specs.declared.records.Subtask.TheVariants as subtask
use Rattle.machine_data.specs.Core.{Core}
use Rattle.core_primitives.specs.StateView.{StateView}
use Rattle.task_table.specs.declared.id.TableId.{TableId}
use Rattle.task_wait.specs.declared.keys.ThreadKey.{ThreadKey}
use Rattle.machine_data.specs.Read.{op_progress_of}
use Rattle.ops_dispatch.specs.Continues.{given}
use Rattle.ops_dispatch.specs.Runner.{called_call, given_answer, progress_of}

-- The calls, `set_new` and `thread_new` may take memory. No other op does, and so none answers that it is out of memory.
abbrev pub takes_memory : Op → Bool
takes_memory (op.Call (call_op.Call r q e xs)) = true
takes_memory (op.Call (call_op.CallSync r e xs)) = true
takes_memory (op.Call (call_op.CallHost r q h)) = true
takes_memory (op.Call (call_op.CallSyncHost r h)) = true
takes_memory (op.Set (set_op.New r)) = true
takes_memory (op.Thread (thread_op.New r x v)) = true
takes_memory _ = false

-- They make a thread, a work or a set, which gets a new number. A call makes nothing more once it is inside of what it made, or answered.
abbrev pub makes : OpProgress → Op → Bool
makes (op_progress.Calls (subtask.Guest k)) (op.Call (call_op.Call r q e xs)) = false
makes (op_progress.Calls (subtask.Guest k)) (op.Call (call_op.CallSync r e xs)) = false
makes (op_progress.Calls (subtask.Host i)) (op.Call (call_op.CallSyncHost r h)) = false
makes (op_progress.Answered v) (op.Call (call_op.CallSync r e xs)) = false
makes h o = takes_memory o

-- The thread can do the op: if it makes something, a new number fits.
abbrev pub HasNumbersFor : Op → TableId ThreadKey → StateView → Type 0
HasNumbersFor o id s = makes (progress_of id s) o ≡ true → given s.core < 2 ^ 61

-- The thread, where its call of an export isn't made and it was given no answer, can make the call: new numbers fit.
abbrev pub HasNumbersForCall : ℕ → Core → Type 0
HasNumbersForCall n s = given_answer (op_progress_of n s) ≡ None → called_call (op_progress_of n s) ≡ None → given s < 2 ^ 61
