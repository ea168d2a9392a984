-- What an op leaves of the thread that does it: its place in its script, and its registers, before whoever has it done ends it.
use Rattle.std.specs.Prelude.{Bool, List, Option, Some, false, option_map, true, ℕ, ◌==◌, ◌≡◌, ◌≤◌}
use Rattle.machine_data.specs.Core.{Core}
use Rattle.machine_data.specs.Labels.{Choice}
use Rattle.machine_data.specs.Maps.{get}
use Rattle.machine_data.specs.Read.{caller_of, instance_of, position_of, subtask_at, task_of, was_started}
use Rattle.machine_data.specs.declared.component.Component.{Component}
use Rattle.machine_data.specs.declared.op.CallOp.{CallOp}
use Rattle.machine_data.specs.declared.op.CallOp.TheVariants as call_op
use Rattle.machine_data.specs.declared.op.Op.{Op}
use Rattle.machine_data.specs.declared.op.Op.TheVariants as op
use Rattle.machine_data.specs.declared.op.SetOp.{SetOp}
use Rattle.machine_data.specs.declared.op.SetOp.TheVariants as set_op
use Rattle.machine_data.specs.declared.op.TaskOp.{TaskOp}
use Rattle.machine_data.specs.declared.op.TaskOp.TheVariants as task_op
use Rattle.machine_data.specs.declared.op.ThreadOp.{ThreadOp}
use Rattle.machine_data.specs.declared.op.ThreadOp.TheVariants as thread_op
use Rattle.machine_data.specs.declared.records.Caller.TheVariants as caller
use Rattle.machine_data.specs.declared.records.Subtask.TheVariants as subtask
use Rattle.machine_data.specs.declared.statuses.HostPoll.{HostPoll}
use Rattle.ops_guests.specs.Shown.{shown}
use Rattle.ops_guests.specs.declared.op_result.OpResult.{OpResult}
use Rattle.ops_guests.specs.declared.op_result.OpResult.TheVariants as op_result
use Rattle.ops_guests.specs.declared.op_result.OpAnswer.{OpAnswer}
use Rattle.ops_guests.specs.declared.op_result.OpAnswer.TheVariants as op_answer
use Rattle.machine_rules.specs.Calls.{next_thread}
use Rattle.machine_rules.specs.Finish.{SomeHost}
use Rattle.machine_rules.specs.OpParts.{calls_host}
use Rattle.machine_rules.specs.Progress.{Asks, Continues, Ordered, Progress, Stops, OneOf}
use Rattle.machine_rules.specs.Step.{op_rule}

-- the thread's place in its script, and its registers; None: no thread
abbrev pub in_script : ℕ → Core → Option (ℕ × List ℕ)
in_script n s = option_map (λ t. (t.position, t.registers)) (get s.threads n)

-- where the thread goes on or stops, they are these
abbrev pub IsInPlace : ℕ → Option (ℕ × List ℕ) → Progress → Type 0
IsInPlace n x (Continues l t m) = in_script n t ≡ x
IsInPlace n x (Stops l t) = in_script n t ≡ x
IsInPlace n x (OneOf ns next) = (m : ℕ) → IsInPlace n x (next m)
IsInPlace n x (Ordered ns next) = (order : List ℕ) → IsInPlace n x (next order)
IsInPlace n x (Asks next) = (answer : HostPoll) → IsInPlace n x (next answer)
IsInPlace n x p = Unit {0}

-- A thread that is under way: it isn't the next one, and no start that its instance can withdraw is its own. So is each that runs.
pub record IsUnderWay (n : ℕ) (s : Core) : Type 0 where
  pub made : (n == next_thread s) ≡ false
  pub begun : (h k : ℕ) → subtask_at (instance_of n s) h s ≡ Some (subtask.Guest k) → was_started k s ≡ false → (n == k) ≡ false

abbrev pub is_return : Op → Bool
is_return (op.Task (task_op.Ret x)) = true
is_return _ = false

-- the thread has called its own task, so that its result goes to one of its registers
abbrev pub CallsItself : ℕ → Core → Type 0
CallsItself n s = caller_of (task_of n s) s ≡ caller.Thread n

-- ---- Which ops are ended

abbrev pub is_finished_task : TaskOp → Bool
is_finished_task task_op.Exit = false
is_finished_task task_op.CbYield = false
is_finished_task (task_op.CbWait x) = false
is_finished_task (task_op.Code x) = false
is_finished_task _ = true

-- an op that a host may have done: none on registers and memory cells, and none that ends its thread or its activation
abbrev pub is_finished : Op → Bool
is_finished (op.Data o) = false
is_finished (op.Task o) = is_finished_task o
is_finished _ = true

-- Says that a thread that a host has do an op keeps its position and its registers, but for a call of a host, whose value may go to
-- one.
unfoldable pub HostLeavesInPlace : Type 0
HostLeavesInPlace = (c : Component) (n : ℕ) (s : Core) (ch : Choice) (o : Op) → is_finished o ≡ true → calls_host o ≡ false →
    IsUnderWay n s → (is_return o ≡ true → CallsItself n s → ⊥) → IsInPlace n (in_script n s) (op_rule SomeHost c n s ch o)

-- ---- Each op

-- what an op may answer beside nothing: no number, one, or an event
pub data AnswerKind : Type 0 where
  NoNumber : AnswerKind
  ANumber : AnswerKind
  AnEvent : AnswerKind

-- it has a register for that
abbrev pub has_register : AnswerKind → Bool
has_register NoNumber = false
has_register _ = true

abbrev pub set_answers : SetOp → AnswerKind
set_answers (set_op.New r) = ANumber
set_answers (set_op.Wait r x) = AnEvent
set_answers (set_op.Poll r x) = AnEvent
set_answers _ = NoNumber

abbrev pub call_answers : CallOp → AnswerKind
call_answers (call_op.Drop x) = NoNumber
call_answers _ = ANumber

abbrev pub thread_answers : ThreadOp → AnswerKind
thread_answers (thread_op.New r x v) = ANumber
thread_answers (thread_op.Index r) = ANumber
thread_answers _ = NoNumber

abbrev pub answers_of : Op → AnswerKind
answers_of (op.Set o) = set_answers o
answers_of (op.Call o) = call_answers o
answers_of (op.Thread o) = thread_answers o
answers_of _ = NoNumber

abbrev pub may_answer : AnswerKind → OpAnswer → Bool
may_answer k op_answer.Nothing = true
may_answer k (op_answer.Entered m) = true
may_answer k op_answer.NoneDue = true
may_answer ANumber (op_answer.Number v) = true
may_answer k (op_answer.Number v) = false
may_answer ANumber (op_answer.Value v) = true
may_answer k (op_answer.Value v) = false
may_answer AnEvent (op_answer.Event g) = true
may_answer k (op_answer.Event g) = false

-- this of what the op resulted in
abbrev pub answers_so : AnswerKind → OpResult → Bool
answers_so k (op_result.Continues l m said) = may_answer k said
answers_so k _ = true

-- A thread that a host has do the op keeps its place and its registers: it is under way, the op calls no host, whose value may go to a
-- register, and doesn't return from a task that the thread has called itself.
pub record KeepsPlace (n : ℕ) (s : Core) (o : Op) : Type 0 where
  pub under_way : IsUnderWay n s
  pub apart : calls_host o ≡ false
  pub others : is_return o ≡ true → CallsItself n s → ⊥

-- the thread is no farther in its script than it was, and where it is so it is in its place, with its registers
pub record LeftAt (Still : Type 0) (n : ℕ) (s t : Core) : Type 0 where
  pub below : position_of n t ≤ position_of n s
  pub still : Still → in_script n t ≡ in_script n s

-- so is each core that the rule leads to, and it answers so
abbrev pub LeavesPlace : Type 0 → AnswerKind → ℕ → Core → Progress → Type 0
LeavesPlace A k n s (Continues l t m) = LeftAt A n s t × (may_answer k (shown l) ≡ true)
LeavesPlace A k n s (Stops l t) = LeftAt A n s t
LeavesPlace A k n s (OneOf ns next) = (m : ℕ) → LeavesPlace A k n s (next m)
LeavesPlace A k n s (Ordered ns next) = (order : List ℕ) → LeavesPlace A k n s (next order)
LeavesPlace A k n s (Asks next) = (answer : HostPoll) → LeavesPlace A k n s (next answer)
LeavesPlace A k n s p = Unit {0}

-- An op that is left for a host to end leaves its thread no farther in its script than it was, and answers what such an op may answer.
unfoldable pub OpsLeavePlaces : Type 0
OpsLeavePlaces = (c : Component) (n : ℕ) (s : Core) (ch : Choice) (o : Op) → is_finished o ≡ true →
    LeavesPlace (KeepsPlace n s o) (answers_of o) n s (op_rule SomeHost c n s ch o)
