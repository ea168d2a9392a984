-- What an op says by itself: whether it ends an activation, which export it calls, and how far it can come.
use Rattle.std.specs.Prelude.{Bool, None, Option, Some, false, is_some, true}
use Rattle.machine_data.specs.declared.component.Callee.{Callee}
use Rattle.machine_data.specs.declared.op.CallOp.{CallOp}
use Rattle.machine_data.specs.declared.op.Op.{Op}
use Rattle.machine_data.specs.declared.op.TaskOp.{TaskOp}
use Rattle.machine_data.specs.declared.op.ThreadOp.{ThreadOp}
use Rattle.machine_data.specs.declared.records.OpProgress.{OpProgress}
use Rattle.machine_data.specs.declared.records.OpProgress.TheVariants as op_progress
use Rattle.machine_data.specs.declared.records.Subtask.TheVariants as subtask
use Rattle.machine_data.specs.declared.op.SetOp.TheVariants as set_op
use Rattle.machine_data.specs.declared.op.ThreadOp.TheVariants as thread_op
use Rattle.machine_data.specs.declared.scenario.MainOpDef.{MainOpDef}
use Rattle.machine_data.specs.declared.op.CallOp.TheVariants as call_op
use Rattle.machine_data.specs.declared.op.Op.TheVariants as op
use Rattle.machine_data.specs.declared.op.TaskOp.TheVariants as task_op
use Rattle.machine_data.specs.declared.scenario.MainOpDef.TheVariants as main_op

-- the ops that end a callback's activation with a code
abbrev pub is_code_op : TaskOp → Bool
is_code_op task_op.CbYield = true
is_code_op (task_op.CbWait x) = true
is_code_op (task_op.Code x) = true
is_code_op _ = false

-- on registers and memory cells
abbrev pub is_data_op : Op → Bool
is_data_op (op.Data o) = true
is_data_op _ = false

-- a script's end is an exit, and so no other op
abbrev pub is_exit_op : Op → Bool
is_exit_op (op.Task task_op.Exit) = true
is_exit_op _ = false

abbrev pub ends_activation : Op → Bool
ends_activation (op.Task o) = is_code_op o
ends_activation _ = false

-- the export that an op calls
abbrev pub callee_of_call : CallOp → Option Callee
callee_of_call (call_op.Call r q e xs) = Some e
callee_of_call (call_op.CallSync r e xs) = Some e
callee_of_call _ = None

abbrev pub callee_of_op : Op → Option Callee
callee_of_op (op.Call o) = callee_of_call o
callee_of_op _ = None

abbrev pub callee_of_main_op : MainOpDef → Option Callee
callee_of_main_op (main_op.Start e xs) = Some e
callee_of_main_op _ = None

abbrev pub makes_set : Op → Bool
makes_set (op.Set (set_op.New r)) = true
makes_set _ = false

abbrev pub calls_host : Op → Bool
calls_host (op.Call (call_op.CallHost r q h)) = true
calls_host _ = false

-- ---- How far an op can come

abbrev pub is_wait : Op → Bool
is_wait (op.Set (set_op.Wait r x)) = true
is_wait _ = false

abbrev pub is_join : Op → Bool
is_join (op.Set (set_op.Join x y)) = true
is_join _ = false

abbrev pub is_sync_call : Op → Bool
is_sync_call (op.Call (call_op.CallSync r e xs)) = true
is_sync_call _ = false

abbrev pub is_sync_host_call : Op → Bool
is_sync_host_call (op.Call (call_op.CallSyncHost r h)) = true
is_sync_host_call _ = false

-- the thread goes on inside of a host's call
abbrev pub is_calling_host : OpProgress → Bool
is_calling_host (op_progress.Calls (subtask.Host i)) = true
is_calling_host _ = false

-- an op that has come so far polls a host first, and may make its work
abbrev pub queues_work : OpProgress → Op → Bool
queues_work h (op.Call (call_op.CallHost r q f)) = true
queues_work (op_progress.Calls (subtask.Host i)) (op.Call (call_op.CallSyncHost r f)) = false
queues_work h (op.Call (call_op.CallSyncHost r f)) = true
queues_work h _ = false

abbrev pub is_sync_cancel : Op → Bool
is_sync_cancel (op.Call (call_op.CancelSync r x)) = true
is_sync_cancel _ = false

abbrev pub is_cancel : Op → Bool
is_cancel (op.Call (call_op.Cancel r x)) = true
is_cancel o = is_sync_cancel o

abbrev pub suspends : ThreadOp → Bool
suspends thread_op.Suspend = true
suspends (thread_op.SuspendThenResume x) = true
suspends (thread_op.SuspendThenPromote x) = true
suspends _ = false

abbrev pub yields : ThreadOp → Bool
yields thread_op.Yield = true
yields (thread_op.YieldThenResume x) = true
yields (thread_op.YieldThenPromote x) = true
yields _ = false

abbrev pub is_thread_op : (ThreadOp → Bool) → Op → Bool
is_thread_op test (op.Thread o) = test o
is_thread_op test _ = false

-- Any op may be about to begin. A wait can be inside its wait, a call inside the call that it made, and a sync one answered; a sync call of
-- a host can be inside its work. A cancel can be behind its callee, and a sync one can await the end. The ops that suspend can be
-- suspended, and those that yield can have yielded.
abbrev pub can_come : Op → OpProgress → Bool
can_come o op_progress.Fresh = true
can_come o (op_progress.Waits x) = is_wait o
can_come o (op_progress.Calls (subtask.Guest k)) = is_some (callee_of_op o)
can_come o (op_progress.Calls (subtask.Host i)) = is_sync_host_call o
can_come o (op_progress.Answered v) = is_sync_call o
can_come o (op_progress.Cancels (subtask.Guest k)) = is_cancel o
can_come o (op_progress.Cancels (subtask.Host i)) = false
can_come o (op_progress.AwaitsEnd sub) = is_sync_cancel o
can_come o op_progress.Suspends = is_thread_op suspends o
can_come o op_progress.Yields = is_thread_op yields o
