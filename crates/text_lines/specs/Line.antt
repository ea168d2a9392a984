-- A line as it is read, apart from where it is.
use Rattle.std.specs.Prelude.{ℕ, List, [], ◌∷◌, Option, Some, None, length, take, drop, ◌+◌, position, codes, ◌==◌, ◌&&◌, if◌then◌else◌}
use Rattle.std.specs.Str.{bytes_eq}
use Rattle.machine_data.specs.declared.op.Operand.{Operand}
use Rattle.machine_data.specs.declared.op.Op.TheVariants as op
use Rattle.machine_data.specs.declared.op.DataOp.{DataOp}
use Rattle.machine_data.specs.declared.op.DataOp.TheVariants as data_op
use Rattle.machine_data.specs.declared.op.TaskOp.{TaskOp}
use Rattle.machine_data.specs.declared.op.TaskOp.TheVariants as task_op
use Rattle.machine_data.specs.declared.op.SetOp.{SetOp}
use Rattle.machine_data.specs.declared.op.SetOp.TheVariants as set_op
use Rattle.machine_data.specs.declared.op.CallOp.TheVariants as call_op
use Rattle.machine_data.specs.declared.op.ThreadOp.{ThreadOp}
use Rattle.machine_data.specs.declared.op.ThreadOp.TheVariants as thread_op
use Rattle.text_lines.specs.declared.keyword.HeadKeyword.{HeadKeyword}
use Rattle.text_lines.specs.declared.keyword.HeadKeyword.TheVariants as head
use Rattle.text_lines.specs.declared.keyword.PartKeyword.{PartKeyword}
use Rattle.text_lines.specs.declared.keyword.PartKeyword.TheVariants as part
use Rattle.text_lines.specs.declared.keyword.DataKeyword.{DataKeyword}
use Rattle.text_lines.specs.declared.keyword.DataKeyword.TheVariants as datum
use Rattle.text_lines.specs.declared.keyword.TaskKeyword.{TaskKeyword}
use Rattle.text_lines.specs.declared.keyword.TaskKeyword.TheVariants as task
use Rattle.text_lines.specs.declared.keyword.SetKeyword.{SetKeyword}
use Rattle.text_lines.specs.declared.keyword.SetKeyword.TheVariants as waitable
use Rattle.text_lines.specs.declared.keyword.CallKeyword.{CallKeyword}
use Rattle.text_lines.specs.declared.keyword.CallKeyword.TheVariants as call
use Rattle.text_lines.specs.declared.keyword.ThreadKeyword.{ThreadKeyword}
use Rattle.text_lines.specs.declared.keyword.ThreadKeyword.TheVariants as thread
use Rattle.text_lines.specs.declared.keyword.MainKeyword.{MainKeyword}
use Rattle.text_lines.specs.declared.keyword.MainKeyword.TheVariants as main
use Rattle.text_lines.specs.declared.keyword.FrameKeyword.{FrameKeyword}
use Rattle.text_lines.specs.declared.keyword.FrameKeyword.TheVariants as frame
use Rattle.text_lines.specs.declared.keyword.Keyword.{Keyword}
use Rattle.text_lines.specs.declared.keyword.Keyword.TheVariants as keyword
use Rattle.text_lines.specs.declared.line.HeadLine.{HeadLine}
use Rattle.text_lines.specs.declared.line.HeadLine.TheVariants as head_line
use Rattle.text_lines.specs.declared.line.HostWork.{HostWork}
use Rattle.text_lines.specs.declared.line.HostWork.TheVariants as work
use Rattle.text_lines.specs.declared.line.PartLine.{PartLine}
use Rattle.text_lines.specs.declared.line.PartLine.TheVariants as part_line
use Rattle.text_lines.specs.declared.line.CalleeName.{CalleeName}
use Rattle.text_lines.specs.declared.line.CalleeName.TheVariants as callee
use Rattle.text_lines.specs.declared.line.NamedCall.{NamedCall}
use Rattle.text_lines.specs.declared.line.NamedCall.TheVariants as named_call
use Rattle.text_lines.specs.declared.line.NamedOp.{NamedOp}
use Rattle.text_lines.specs.declared.line.NamedOp.TheVariants as named
use Rattle.text_lines.specs.declared.line.Line.{Line}
use Rattle.text_lines.specs.declared.line.Line.TheVariants as line
use Rattle.text_lines.specs.Keyword.{keyword_at}
use Rattle.text_lines.specs.Tokens.{◌>>=◌, number_at, bounded_at, register_up_to, register_at, operand_at, version_at, idle_at, kind_at, is_name, one_of, two_of, three_of, four_of, each_at}

-- what no tokens after a keyword complete
abbrev pub alone : {L : Type 0} → L → List (List ℕ) → Option L
alone l tokens = if length tokens == 0 then Some l else None

-- ---- The head

unfoldable pub head_after : HeadKeyword → List (List ℕ) → Option HeadLine
head_after head.Scenario tokens = do
  a ← one_of tokens
  v ← version_at a
  Some (head_line.Title v)
head_after head.Handles tokens = do
  a ← one_of tokens
  n ← bounded_at 268435455 a
  Some (head_line.Handles n)
head_after head.Table tokens = do
  a ← one_of tokens
  n ← bounded_at 1000000 a
  Some (head_line.Table n)
head_after head.Idle tokens = do
  a ← one_of tokens
  i ← idle_at a
  Some (head_line.Idle i)

-- ---- Hosts, instances and what they have

unfoldable pub never_after : List (List ℕ) → Option HostWork
never_after tokens = do
  a ← one_of tokens
  if bytes_eq a (codes "never") then Some work.Never else None

unfoldable pub fail_after : List (List ℕ) → Option HostWork
fail_after tokens = do
  p ← three_of tokens
  n ← bounded_at 1000000 p.1
  if bytes_eq p.0 (codes "polls") && bytes_eq p.2 (codes "fail") then Some (work.Fail n) else None

unfoldable pub value_after : List (List ℕ) → Option HostWork
value_after tokens = do
  p ← four_of tokens
  n ← bounded_at 1000000 p.1
  v ← number_at p.3
  if bytes_eq p.0 (codes "polls") && bytes_eq p.2 (codes "value") then Some (work.Value n v) else None

abbrev pub else_read : {A : Type 0} → Option A → Option A → Option A
else_read (Some x) other = Some x
else_read None other = other

unfoldable pub work_after : List (List ℕ) → Option HostWork
work_after tokens = else_read (never_after tokens) (else_read (fail_after tokens) (value_after tokens))

unfoldable pub host_after : List (List ℕ) → Option PartLine
host_after [] = None
host_after (name ∷ tokens) = do
  w ← work_after tokens
  if is_name name then Some (part_line.Host name w) else None

unfoldable pub instance_after : List (List ℕ) → Option PartLine
instance_after tokens = do
  name ← one_of tokens
  if is_name name then Some (part_line.Instance name) else None

unfoldable pub export_after : List (List ℕ) → Option PartLine
export_after tokens = do
  p ← three_of tokens
  k ← kind_at p.1
  n ← bounded_at 16 p.2
  if is_name p.0 then Some (part_line.Export p.0 k n) else None

unfoldable pub slot_after : List (List ℕ) → Option ℕ
slot_after tokens = one_of tokens >>= bounded_at 15

unfoldable pub part_after : PartKeyword → List (List ℕ) → Option PartLine
part_after part.Host tokens = host_after tokens
part_after part.Instance tokens = instance_after tokens
part_after part.Export tokens = export_after tokens
part_after part.React tokens = alone part_line.React tokens
part_after part.Thread tokens = do
  s ← slot_after tokens
  Some (part_line.Thread s)
part_after part.Bad tokens = do
  s ← slot_after tokens
  Some (part_line.Bad s)

-- ---- Ops that name no callee

unfoldable pub register_after : List (List ℕ) → Option ℕ
register_after tokens = one_of tokens >>= register_at

unfoldable pub operand_after : List (List ℕ) → Option Operand
operand_after tokens = one_of tokens >>= operand_at

-- a register and an operand
unfoldable pub target_after : List (List ℕ) → Option (ℕ × Operand)
target_after tokens = do
  p ← two_of tokens
  r ← register_at p.0
  x ← operand_at p.1
  Some (r, x)

unfoldable pub event_after : List (List ℕ) → Option (ℕ × Operand)
event_after tokens = do
  p ← two_of tokens
  r ← register_up_to 13 p.0
  x ← operand_at p.1
  Some (r, x)

unfoldable pub load_after : List (List ℕ) → Option DataOp
load_after tokens = do
  p ← two_of tokens
  r ← register_at p.0
  w ← bounded_at 15 p.1
  Some (data_op.Load r w)

unfoldable pub store_after : List (List ℕ) → Option DataOp
store_after tokens = do
  p ← two_of tokens
  w ← bounded_at 15 p.0
  x ← operand_at p.1
  Some (data_op.Store w x)

unfoldable pub skip_after : List (List ℕ) → Option DataOp
skip_after tokens = do
  p ← three_of tokens
  x ← operand_at p.0
  y ← operand_at p.1
  n ← bounded_at 4096 p.2
  Some (data_op.SkipEq x y n)

unfoldable pub data_op_after : DataKeyword → List (List ℕ) → Option DataOp
data_op_after datum.Set tokens = do
  p ← target_after tokens
  Some (data_op.Set p.0 p.1)
data_op_after datum.Add tokens = do
  p ← target_after tokens
  Some (data_op.Add p.0 p.1)
data_op_after datum.Handle tokens = do
  p ← target_after tokens
  Some (data_op.Handle p.0 p.1)
data_op_after datum.Load tokens = load_after tokens
data_op_after datum.Store tokens = store_after tokens
data_op_after datum.SkipEq tokens = skip_after tokens

unfoldable pub task_op_after : TaskKeyword → List (List ℕ) → Option TaskOp
task_op_after task.Ret tokens = do
  x ← operand_after tokens
  Some (task_op.Ret x)
task_op_after task.RetBad tokens = do
  x ← operand_after tokens
  Some (task_op.RetBad x)
task_op_after task.TaskCancel tokens = alone task_op.TaskCancel tokens
task_op_after task.Exit tokens = alone task_op.Exit tokens
task_op_after task.CbYield tokens = alone task_op.CbYield tokens
task_op_after task.CbWait tokens = do
  x ← operand_after tokens
  Some (task_op.CbWait x)
task_op_after task.Code tokens = do
  x ← operand_after tokens
  Some (task_op.Code x)
task_op_after task.BpInc tokens = alone task_op.BpInc tokens
task_op_after task.BpDec tokens = alone task_op.BpDec tokens

unfoldable pub join_after : List (List ℕ) → Option SetOp
join_after tokens = do
  p ← two_of tokens
  x ← operand_at p.0
  y ← operand_at p.1
  Some (set_op.Join x y)

unfoldable pub set_op_after : SetKeyword → List (List ℕ) → Option SetOp
set_op_after waitable.New tokens = do
  r ← register_after tokens
  Some (set_op.New r)
set_op_after waitable.Drop tokens = do
  x ← operand_after tokens
  Some (set_op.Drop x)
set_op_after waitable.Wait tokens = do
  p ← event_after tokens
  Some (set_op.Wait p.0 p.1)
set_op_after waitable.Poll tokens = do
  p ← event_after tokens
  Some (set_op.Poll p.0 p.1)
set_op_after waitable.Join tokens = join_after tokens

unfoldable pub new_thread_after : List (List ℕ) → Option ThreadOp
new_thread_after tokens = do
  p ← three_of tokens
  r ← register_at p.0
  s ← bounded_at 15 p.1
  x ← operand_at p.2
  Some (thread_op.New r s x)

unfoldable pub thread_op_after : ThreadKeyword → List (List ℕ) → Option ThreadOp
thread_op_after thread.New tokens = new_thread_after tokens
thread_op_after thread.Index tokens = do
  r ← register_after tokens
  Some (thread_op.Index r)
thread_op_after thread.ResumeLater tokens = do
  x ← operand_after tokens
  Some (thread_op.ResumeLater x)
thread_op_after thread.Suspend tokens = alone thread_op.Suspend tokens
thread_op_after thread.Yield tokens = alone thread_op.Yield tokens
thread_op_after thread.SuspendThenResume tokens = do
  x ← operand_after tokens
  Some (thread_op.SuspendThenResume x)
thread_op_after thread.YieldThenResume tokens = do
  x ← operand_after tokens
  Some (thread_op.YieldThenResume x)
thread_op_after thread.SuspendThenPromote tokens = do
  x ← operand_after tokens
  Some (thread_op.SuspendThenPromote x)
thread_op_after thread.YieldThenPromote tokens = do
  x ← operand_after tokens
  Some (thread_op.YieldThenPromote x)

-- ---- Lines with callees

abbrev pub operands_at : List (List ℕ) → Option (List Operand)
operands_at tokens = each_at operand_at tokens

abbrev pub numbers_at : List (List ℕ) → Option (List ℕ)
numbers_at tokens = each_at (bounded_at 4095) tokens

-- `INSTANCE.EXPORT`
unfoldable pub callee_at : List ℕ → Option (List ℕ × List ℕ)
callee_at token = do
  i ← position (λ b. b == 46) token
  if is_name (take i token) && is_name (drop (i + 1) token) then Some (take i token, drop (i + 1) token) else None

unfoldable pub callee_name_at : List ℕ → Option CalleeName
callee_name_at token = if is_name token then Some (callee.Host token) else callee_at token >>= λ p. Some (callee.Export p.0 p.1)

unfoldable pub params_after : List (List ℕ) → Option (CalleeName × List Operand)
params_after [] = None
params_after (token ∷ tokens) = do
  c ← callee_name_at token
  xs ← operands_at tokens
  Some (c, xs)

unfoldable pub call_from : ℕ → List (List ℕ) → Option NamedCall
call_from r [] = None
call_from r (token ∷ tokens) = do
  q ← register_at token
  p ← params_after tokens
  Some (named_call.Call r q p.0 p.1)

unfoldable pub call_after : List (List ℕ) → Option NamedCall
call_after [] = None
call_after (token ∷ tokens) = register_at token >>= λ r. call_from r tokens

unfoldable pub call_sync_after : List (List ℕ) → Option NamedCall
call_sync_after [] = None
call_sync_after (token ∷ tokens) = do
  r ← register_at token
  p ← params_after tokens
  Some (named_call.CallSync r p.0 p.1)

unfoldable pub call_line_after : CallKeyword → List (List ℕ) → Option Line
call_line_after call.Call tokens = do
  c ← call_after tokens
  Some (line.Call c)
call_line_after call.CallSync tokens = do
  c ← call_sync_after tokens
  Some (line.Call c)
call_line_after call.Cancel tokens = do
  p ← target_after tokens
  Some (line.Op (op.Call (call_op.Cancel p.0 p.1)))
call_line_after call.CancelSync tokens = do
  p ← target_after tokens
  Some (line.Op (op.Call (call_op.CancelSync p.0 p.1)))
call_line_after call.Drop tokens = do
  x ← operand_after tokens
  Some (line.Op (op.Call (call_op.Drop x)))

unfoldable pub start_after : List (List ℕ) → Option NamedOp
start_after [] = None
start_after (token ∷ tokens) = do
  c ← callee_at token
  xs ← operands_at tokens
  Some (named.Start c.0 c.1 xs)

unfoldable pub finish_after : List (List ℕ) → Option NamedOp
finish_after tokens = do
  p ← two_of tokens
  k ← bounded_at 4095 p.0
  r ← register_at p.1
  Some (named.Finish k r)

unfoldable pub host_name_after : List (List ℕ) → Option (List ℕ)
host_name_after tokens = do
  name ← one_of tokens
  if is_name name then Some name else None

unfoldable pub number_after : List (List ℕ) → Option ℕ
number_after tokens = one_of tokens >>= bounded_at 4095

unfoldable pub ready_after : List (List ℕ) → Option NamedOp
ready_after tokens = do
  a ← one_of tokens
  c ← callee_at a
  Some (named.Ready c.0 c.1)

unfoldable pub main_op_after : MainKeyword → List (List ℕ) → Option NamedOp
main_op_after main.Start tokens = start_after tokens
main_op_after main.Finish tokens = finish_after tokens
main_op_after main.Spawn tokens = do
  name ← host_name_after tokens
  Some (named.Spawn name)
main_op_after main.Abort tokens = do
  k ← number_after tokens
  Some (named.Abort k)
main_op_after main.Await tokens = do
  k ← number_after tokens
  Some (named.Await k)
main_op_after main.Quiet tokens = alone named.Quiet tokens
main_op_after main.Ready tokens = ready_after tokens

-- ---- Any line

unfoldable pub frame_after : FrameKeyword → List (List ℕ) → Option Line
frame_after frame.Main tokens = alone line.Main tokens
frame_after frame.Answer tokens = do
  x ← operand_after tokens
  Some (line.Answer x)
frame_after frame.Aborter tokens = do
  ks ← numbers_at tokens
  Some (line.Aborter ks)
frame_after frame.End tokens = alone line.End tokens

unfoldable pub line_after : Keyword → List (List ℕ) → Option Line
line_after (keyword.Head k) tokens = do
  l ← head_after k tokens
  Some (line.Head l)
line_after (keyword.Part k) tokens = do
  l ← part_after k tokens
  Some (line.Part l)
line_after (keyword.Data k) tokens = do
  o ← data_op_after k tokens
  Some (line.Op (op.Data o))
line_after (keyword.Task k) tokens = do
  o ← task_op_after k tokens
  Some (line.Op (op.Task o))
line_after (keyword.Set k) tokens = do
  o ← set_op_after k tokens
  Some (line.Op (op.Set o))
line_after (keyword.Call k) tokens = call_line_after k tokens
line_after (keyword.Thread k) tokens = do
  o ← thread_op_after k tokens
  Some (line.Op (op.Thread o))
line_after (keyword.Main k) tokens = do
  o ← main_op_after k tokens
  Some (line.MainOp o)
line_after (keyword.Frame k) tokens = frame_after k tokens

unfoldable pub line_at : List (List ℕ) → Option Line
line_at [] = None
line_at (token ∷ tokens) = do
  k ← keyword_at token
  line_after k tokens
