-- The tokens that spell each value and each line, one spelling for each. A token is a list of bytes.
use Rattle.std.specs.Prelude.{ℕ, List, [], ◌∷◌, ◌++◌, map, decimal, codes}
use Rattle.machine_data.specs.declared.component.ExportKind.{ExportKind}
use Rattle.machine_data.specs.declared.component.ExportKind.TheVariants as kind
use Rattle.machine_data.specs.declared.op.Operand.{Operand}
use Rattle.machine_data.specs.declared.op.Operand.TheVariants.{Number, Register}
use Rattle.machine_data.specs.declared.op.Op.{Op}
use Rattle.machine_data.specs.declared.op.Op.TheVariants as op
use Rattle.machine_data.specs.declared.op.DataOp.{DataOp}
use Rattle.machine_data.specs.declared.op.DataOp.TheVariants as data_op
use Rattle.machine_data.specs.declared.op.TaskOp.{TaskOp}
use Rattle.machine_data.specs.declared.op.TaskOp.TheVariants as task_op
use Rattle.machine_data.specs.declared.op.SetOp.{SetOp}
use Rattle.machine_data.specs.declared.op.SetOp.TheVariants as set_op
use Rattle.machine_data.specs.declared.op.CallOp.{CallOp}
use Rattle.machine_data.specs.declared.op.CallOp.TheVariants as call_op
use Rattle.machine_data.specs.declared.op.ThreadOp.{ThreadOp}
use Rattle.machine_data.specs.declared.op.ThreadOp.TheVariants as thread_op
use Rattle.machine_data.specs.declared.scenario.IdleLine.{IdleLine}
use Rattle.machine_data.specs.declared.scenario.Version.TheVariants as version
use Rattle.machine_data.specs.declared.scenario.Version.{Version}
use Rattle.machine_data.specs.declared.scenario.IdleLine.TheVariants as idle
use Rattle.text_lines.specs.declared.line.HostWork.{HostWork}
use Rattle.text_lines.specs.declared.line.HostWork.TheVariants as work

-- ---- Tokens

abbrev pub register_token : ℕ → List ℕ
register_token r = 114 ∷ decimal r

abbrev pub operand_token : Operand → List ℕ
operand_token (Number n) = decimal n
operand_token (Register r) = register_token r

abbrev pub version_token : Version → List ℕ
version_token version.One = codes "1"
version_token version.Two = codes "2"

abbrev pub idle_token : IdleLine → List ℕ
idle_token idle.Trap = codes "trap"
idle_token idle.Wait = codes "wait"

abbrev pub kind_token : ExportKind → List ℕ
kind_token kind.Sync = codes "sync"
kind_token kind.Blocking = codes "blocking"
kind_token kind.Stackful = codes "stackful"
kind_token kind.Callback = codes "callback"

-- `INSTANCE.EXPORT`
abbrev pub callee_token : List ℕ → List ℕ → List ℕ
callee_token instance export = instance ++ 46 ∷ export

-- ---- The head

abbrev pub title_tokens : Version → List (List ℕ)
title_tokens v = codes "scenario" ∷ version_token v ∷ []

abbrev pub handles_tokens : ℕ → List (List ℕ)
handles_tokens n = codes "handles" ∷ decimal n ∷ []

abbrev pub table_tokens : ℕ → List (List ℕ)
table_tokens n = codes "table" ∷ decimal n ∷ []

abbrev pub idle_tokens : IdleLine → List (List ℕ)
idle_tokens i = codes "idle" ∷ idle_token i ∷ []

-- ---- Hosts, instances and what they have

abbrev pub work_tokens : HostWork → List (List ℕ)
work_tokens (work.Value n v) = codes "polls" ∷ decimal n ∷ codes "value" ∷ decimal v ∷ []
work_tokens (work.Fail n) = codes "polls" ∷ decimal n ∷ codes "fail" ∷ []
work_tokens work.Never = codes "never" ∷ []

abbrev pub host_tokens : List ℕ → HostWork → List (List ℕ)
host_tokens name w = codes "host" ∷ name ∷ work_tokens w

abbrev pub instance_tokens : List ℕ → List (List ℕ)
instance_tokens name = codes "instance" ∷ name ∷ []

abbrev pub export_tokens : List ℕ → ExportKind → ℕ → List (List ℕ)
export_tokens name k params = codes "export" ∷ name ∷ kind_token k ∷ decimal params ∷ []

abbrev pub react_tokens : List (List ℕ)
react_tokens = codes "react" ∷ []

abbrev pub thread_tokens : ℕ → List (List ℕ)
thread_tokens slot = codes "thread" ∷ decimal slot ∷ []

abbrev pub bad_tokens : ℕ → List (List ℕ)
bad_tokens slot = codes "bad" ∷ decimal slot ∷ []

-- ---- Ops that name no callee

abbrev pub data_op_tokens : DataOp → List (List ℕ)
data_op_tokens (data_op.Set r x) = codes "set" ∷ register_token r ∷ operand_token x ∷ []
data_op_tokens (data_op.Add r x) = codes "add" ∷ register_token r ∷ operand_token x ∷ []
data_op_tokens (data_op.Handle r x) = codes "handle" ∷ register_token r ∷ operand_token x ∷ []
data_op_tokens (data_op.Load r w) = codes "load" ∷ register_token r ∷ decimal w ∷ []
data_op_tokens (data_op.Store w x) = codes "store" ∷ decimal w ∷ operand_token x ∷ []
data_op_tokens (data_op.SkipEq x y n) = codes "skip_eq" ∷ operand_token x ∷ operand_token y ∷ decimal n ∷ []

abbrev pub task_op_tokens : TaskOp → List (List ℕ)
task_op_tokens (task_op.Ret x) = codes "ret" ∷ operand_token x ∷ []
task_op_tokens (task_op.RetBad x) = codes "ret_bad" ∷ operand_token x ∷ []
task_op_tokens task_op.TaskCancel = codes "task_cancel" ∷ []
task_op_tokens task_op.Exit = codes "exit" ∷ []
task_op_tokens task_op.CbYield = codes "cb_yield" ∷ []
task_op_tokens (task_op.CbWait x) = codes "cb_wait" ∷ operand_token x ∷ []
task_op_tokens (task_op.Code x) = codes "code" ∷ operand_token x ∷ []
task_op_tokens task_op.BpInc = codes "bp_inc" ∷ []
task_op_tokens task_op.BpDec = codes "bp_dec" ∷ []

abbrev pub set_op_tokens : SetOp → List (List ℕ)
set_op_tokens (set_op.New r) = codes "set_new" ∷ register_token r ∷ []
set_op_tokens (set_op.Drop x) = codes "set_drop" ∷ operand_token x ∷ []
set_op_tokens (set_op.Wait r x) = codes "wait" ∷ register_token r ∷ operand_token x ∷ []
set_op_tokens (set_op.Poll r x) = codes "poll" ∷ register_token r ∷ operand_token x ∷ []
set_op_tokens (set_op.Join x y) = codes "join" ∷ operand_token x ∷ operand_token y ∷ []

-- a call's tokens name its callee, and aren't here
abbrev pub subtask_op_tokens : CallOp → List (List ℕ)
subtask_op_tokens (call_op.Cancel r x) = codes "cancel" ∷ register_token r ∷ operand_token x ∷ []
subtask_op_tokens (call_op.CancelSync r x) = codes "cancel_sync" ∷ register_token r ∷ operand_token x ∷ []
subtask_op_tokens (call_op.Drop x) = codes "drop" ∷ operand_token x ∷ []
subtask_op_tokens _ = []

abbrev pub thread_op_tokens : ThreadOp → List (List ℕ)
thread_op_tokens (thread_op.New r s x) = codes "thread_new" ∷ register_token r ∷ decimal s ∷ operand_token x ∷ []
thread_op_tokens (thread_op.Index r) = codes "thread_index" ∷ register_token r ∷ []
thread_op_tokens (thread_op.ResumeLater x) = codes "resume_later" ∷ operand_token x ∷ []
thread_op_tokens thread_op.Suspend = codes "suspend" ∷ []
thread_op_tokens thread_op.Yield = codes "yield" ∷ []
thread_op_tokens (thread_op.SuspendThenResume x) = codes "suspend_then_resume" ∷ operand_token x ∷ []
thread_op_tokens (thread_op.YieldThenResume x) = codes "yield_then_resume" ∷ operand_token x ∷ []
thread_op_tokens (thread_op.SuspendThenPromote x) = codes "suspend_then_promote" ∷ operand_token x ∷ []
thread_op_tokens (thread_op.YieldThenPromote x) = codes "yield_then_promote" ∷ operand_token x ∷ []

abbrev pub plain_op_tokens : Op → List (List ℕ)
plain_op_tokens (op.Data o) = data_op_tokens o
plain_op_tokens (op.Task o) = task_op_tokens o
plain_op_tokens (op.Set o) = set_op_tokens o
plain_op_tokens (op.Call o) = subtask_op_tokens o
plain_op_tokens (op.Thread o) = thread_op_tokens o

-- ---- Ops with callees, each callee by its token

abbrev pub call_tokens : ℕ → ℕ → List ℕ → List Operand → List (List ℕ)
call_tokens r q callee xs = codes "call" ∷ register_token r ∷ register_token q ∷ callee ∷ map operand_token xs

abbrev pub call_sync_tokens : ℕ → List ℕ → List Operand → List (List ℕ)
call_sync_tokens r callee xs = codes "call_sync" ∷ register_token r ∷ callee ∷ map operand_token xs

-- ---- Main

abbrev pub main_tokens : List (List ℕ)
main_tokens = codes "main" ∷ []

abbrev pub start_tokens : List ℕ → List Operand → List (List ℕ)
start_tokens callee xs = codes "start" ∷ callee ∷ map operand_token xs

abbrev pub finish_tokens : ℕ → ℕ → List (List ℕ)
finish_tokens k r = codes "finish" ∷ decimal k ∷ register_token r ∷ []

abbrev pub spawn_tokens : List ℕ → List (List ℕ)
spawn_tokens host = codes "spawn" ∷ host ∷ []

abbrev pub abort_tokens : ℕ → List (List ℕ)
abort_tokens k = codes "abort" ∷ decimal k ∷ []

abbrev pub await_tokens : ℕ → List (List ℕ)
await_tokens k = codes "await" ∷ decimal k ∷ []

abbrev pub quiet_tokens : List (List ℕ)
quiet_tokens = codes "quiet" ∷ []

abbrev pub ready_tokens : List ℕ → List (List ℕ)
ready_tokens callee = codes "ready" ∷ callee ∷ []

abbrev pub answer_tokens : Operand → List (List ℕ)
answer_tokens x = codes "answer" ∷ operand_token x ∷ []

abbrev pub aborter_tokens : List ℕ → List (List ℕ)
aborter_tokens ks = codes "aborter" ∷ map decimal ks

abbrev pub end_tokens : List (List ℕ)
end_tokens = codes "end" ∷ []
