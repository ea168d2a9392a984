-- Which values a line may have, apart from where it is.
use Rattle.std.specs.Prelude.{ℕ, ◌^◌, Bool, true, false, nat_lt, nat_le, ◌&&◌}
use Rattle.machine_data.specs.declared.op.Operand.{Operand}
use Rattle.machine_data.specs.declared.op.Operand.TheVariants.{Number, Register}
use Rattle.machine_data.specs.declared.op.Op.{Op}
use Rattle.machine_data.specs.declared.op.Op.TheVariants as op
use Rattle.machine_data.specs.declared.op.DataOp.{DataOp}
use Rattle.machine_data.specs.declared.op.DataOp.TheVariants as data_op
use Rattle.machine_data.specs.declared.op.TaskOp.{TaskOp}
use Rattle.machine_data.specs.declared.op.TaskOp.TheVariants as task_op
use Rattle.machine_data.specs.declared.op.SetOp.{SetOp}
use Rattle.machine_data.specs.declared.op.SetOp.TheVariants as set_op
use Rattle.machine_data.specs.declared.op.CallOp.{CallOp}
use Rattle.machine_data.specs.declared.op.CallOp.TheVariants as call_op
use Rattle.machine_data.specs.declared.op.ThreadOp.{ThreadOp}
use Rattle.machine_data.specs.declared.op.ThreadOp.TheVariants as thread_op
use Rattle.text_lines.specs.declared.line.HostWork.{HostWork}
use Rattle.text_lines.specs.declared.line.HostWork.TheVariants as work

abbrev pub number_fits : ℕ → Bool
number_fits n = nat_lt n (2 ^ 64)

abbrev pub register_fits : ℕ → Bool
register_fits r = nat_le r 15

abbrev pub operand_fits : Operand → Bool
operand_fits (Number n) = number_fits n
operand_fits (Register r) = register_fits r

-- at most so many handles may be live at once
abbrev pub handles_fit : ℕ → Bool
handles_fit n = nat_le n 268435455

-- at most so many entries does the table have room for
abbrev pub table_fits : ℕ → Bool
table_fits n = nat_le n 1000000

-- a host pends at so many polls
abbrev pub polls_fit : ℕ → Bool
polls_fit n = nat_le n 1000000

abbrev pub work_fits : HostWork → Bool
work_fits (work.Value n v) = polls_fit n && number_fits v
work_fits (work.Fail n) = polls_fit n
work_fits work.Never = true

-- the memory cells of an instance are 0 to 15, and so are its slots
abbrev pub memory_cell_fits : ℕ → Bool
memory_cell_fits w = nat_le w 15

abbrev pub slot_fits : ℕ → Bool
slot_fits s = nat_le s 15

-- a skip is no longer than a script
abbrev pub data_op_fits : DataOp → Bool
data_op_fits (data_op.Set r x) = register_fits r && operand_fits x
data_op_fits (data_op.Add r x) = register_fits r && operand_fits x
data_op_fits (data_op.Handle r x) = register_fits r && operand_fits x
data_op_fits (data_op.Load r w) = register_fits r && memory_cell_fits w
data_op_fits (data_op.Store w x) = memory_cell_fits w && operand_fits x
data_op_fits (data_op.SkipEq x y n) = operand_fits x && operand_fits y && nat_le n 4096

abbrev pub task_op_fits : TaskOp → Bool
task_op_fits (task_op.Ret x) = operand_fits x
task_op_fits (task_op.RetBad x) = operand_fits x
task_op_fits (task_op.CbWait x) = operand_fits x
task_op_fits (task_op.Code x) = operand_fits x
task_op_fits task_op.TaskCancel = true
task_op_fits task_op.Exit = true
task_op_fits task_op.CbYield = true
task_op_fits task_op.BpInc = true
task_op_fits task_op.BpDec = true

-- an event is written to three registers
abbrev pub set_op_fits : SetOp → Bool
set_op_fits (set_op.New r) = register_fits r
set_op_fits (set_op.Drop x) = operand_fits x
set_op_fits (set_op.Wait r x) = nat_le r 13 && operand_fits x
set_op_fits (set_op.Poll r x) = nat_le r 13 && operand_fits x
set_op_fits (set_op.Join x y) = operand_fits x && operand_fits y

-- a call fits where its callee is known, which isn't said here
abbrev pub subtask_op_fits : CallOp → Bool
subtask_op_fits (call_op.Cancel r x) = register_fits r && operand_fits x
subtask_op_fits (call_op.CancelSync r x) = register_fits r && operand_fits x
subtask_op_fits (call_op.Drop x) = operand_fits x
subtask_op_fits _ = false

abbrev pub thread_op_fits : ThreadOp → Bool
thread_op_fits (thread_op.New r s x) = register_fits r && slot_fits s && operand_fits x
thread_op_fits (thread_op.Index r) = register_fits r
thread_op_fits (thread_op.ResumeLater x) = operand_fits x
thread_op_fits thread_op.Suspend = true
thread_op_fits thread_op.Yield = true
thread_op_fits (thread_op.SuspendThenResume x) = operand_fits x
thread_op_fits (thread_op.YieldThenResume x) = operand_fits x
thread_op_fits (thread_op.SuspendThenPromote x) = operand_fits x
thread_op_fits (thread_op.YieldThenPromote x) = operand_fits x

abbrev pub plain_op_fits : Op → Bool
plain_op_fits (op.Data o) = data_op_fits o
plain_op_fits (op.Task o) = task_op_fits o
plain_op_fits (op.Set o) = set_op_fits o
plain_op_fits (op.Call o) = subtask_op_fits o
plain_op_fits (op.Thread o) = thread_op_fits o
