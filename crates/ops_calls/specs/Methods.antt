-- What the calls by which a host has the running thread do a piece of a rule, or a rule in place of the one at its place, leave in
-- order.
use Rattle.ops_dispatch.specs.Continues.{running_of}
use Rattle.laws_order.specs.Given.{given, host_op, is_host_op}
use Rattle.laws_order.specs.Pieces.{IsPrepared}
use Rattle.ops_state.specs.declared.error.TaskError.{TaskError}
use Rattle.ops_state.specs.declared.name_calls.QualifiedThreadId.{QualifiedThreadId}
use Rattle.std.specs.Prelude.{Bool, Err, List, None, Ok, Option, Result, Some, false, is_some, true, ℕ, ◌≡◌}
use Rattle.ops_calls.specs.OpAnswers.{nothing_answered}
use Rattle.ops_calls.specs.HostOps.{Answers, Did, CoreInOrderAs, scripted_rule_of, turn_in}
use Rattle.ops_calls.specs.MainCalls.{Returns}
use Rattle.ops_calls.specs.Directs.{IsDirect, enters_rule, exits_rule, thread_entered}
use Rattle.ops_calls.specs.PolledCalls.{blocks_rule, polls_rule}
use Rattle.ops_calls.specs.Prepared.{Prepared, Prepares, goal_for, starts_in}
use Rattle.ops_calls.specs.Resumes.{Resumed, resumed_by}
use Rattle.ops_calls.specs.declared.answer_calls.Step.{Step}
use Rattle.ops_calls.specs.declared.intrinsics.ResumeThread.{ResumeThread}
use Rattle.machine_data.specs.Core.{Core}
use Rattle.machine_data.specs.Labels.{Choice}
use Rattle.machine_data.specs.Read.{op_progress_of, is_async_lifted}
use Rattle.machine_data.specs.declared.component.Callee.{Callee}
use Rattle.machine_data.specs.declared.component.Component.{Component}
use Rattle.machine_data.specs.declared.op.Op.{Op}
use Rattle.machine_data.specs.declared.records.OpProgress.TheVariants as op_progress
use Rattle.machine_data.specs.declared.records.Turn.TheVariants as turn
use Rattle.machine_data.specs.declared.records.Turn.{Turn}
use Rattle.ops_guests.specs.declared.op_result.OpResult.TheVariants as op_result
use Rattle.ops_guests.specs.declared.op_result.OpResult.{OpResult}
use Rattle.machine_rules.specs.Calls.{FirstPoll}
use Rattle.machine_rules.specs.OpParts.{callee_of_op, ends_activation, is_data_op, is_sync_call}
use Rattle.machine_rules.specs.Progress.{Progress}
use Rattle.machine_rules.specs.Scripts.{export_kind, ops_of}
use Rattle.ops_turns.specs.Turn.{CoreInOrder}
use Rattle.core_primitives.specs.StateView.{StateView, thread_of, with_core, with_current}

-- the rule of a call of a host whose first poll found this, with a register for the value, or that waits for it
abbrev pub hosts_rule : Option ℕ → FirstPoll → Core → ℕ → Choice → Progress
hosts_rule (Some q) found s = polls_rule q found s
hosts_rule None found s = blocks_rule found s

-- n runs, no op of it is under way, and the core is in order
pub record Rests (c : Component) (n : ℕ) (s : StateView) : Type 0 where
  pub runs : running_of s ≡ Some n
  pub fresh : op_progress_of n s.core ≡ op_progress.Fresh
  pub order : CoreInOrder c (turn.Run n) s.core

-- the core is in order at the turn of the thread that runs
abbrev pub InTurn : Component → StateView → Type 0
InTurn c s = CoreInOrder c (turn_in s) s.core

-- What an op that n had done leaves, by what it resulted in: order in which n has the op; a refusal leaves the state in order.
abbrev pub KeepsFor : Component → Op → ℕ → OpResult → StateView → Type 0
KeepsFor c o n (op_result.Continues l m said) t = CoreInOrderAs (given n o (ops_of c t.core)) c (turn.Run m) t.core
KeepsFor c o n (op_result.Stops l) t = CoreInOrderAs (given n o (ops_of c t.core)) c turn.Main t.core
KeepsFor c o n r t = InTurn c t

-- What it leaves where it is done whenever it goes on: then the state is in order, also.
abbrev pub KeepsDone : Component → Op → ℕ → OpResult → StateView → Type 0
KeepsDone c o n (op_result.Stops l) t = CoreInOrderAs (given n o (ops_of c t.core)) c turn.Main t.core
KeepsDone c o n r t = InTurn c t

-- ---- Another thread

-- where another thread is resumed, first or later, or its yield promoted, by its handle, or that is refused
unfoldable pub ResumesKeep : Type 0
ResumesKeep = (c : Component) (how : ResumeThread) (n h : ℕ) (s t : StateView) (r : Result Bool TaskError) →
    Rests c n s → Resumed (resumed_by how n h s.core) s r t → InTurn c t

-- ---- A return

-- where the task returns, or that is refused, wherever its thread is
unfoldable pub ReturnsKeep : Type 0
ReturnsKeep = (c : Component) (n v : ℕ) (own_type : Bool) (s t : StateView) (r : Result (Unit {0}) TaskError) → Rests c n s →
    Returns n v own_type s r t → InTurn c t

-- ---- Direct calls

-- where a direct call is exited, or that is refused, whatever the op at the place of its thread is
unfoldable pub ExitsKeep : Type 0
ExitsKeep = (c : Component) (n v : ℕ) (s t : StateView) (r : Result (Step (Unit {0})) TaskError) → Rests c n s → IsDirect n s.core →
    Answers false (exits_rule v s.core) nothing_answered s r t → InTurn c t

-- Once a direct call was entered the thread has the op; a refusal leaves the state in order.
abbrev pub KeepsEntered : Component → Op → ℕ → Result (Step ℕ) TaskError → StateView → Type 0
KeepsEntered c o n (Ok entered) t = CoreInOrderAs (given n o (ops_of c t.core)) c (turn_in t) t.core
KeepsEntered c o n (Err why) t = InTurn c t

-- where the export is called directly, with any words, or that is refused: order in which the thread has a sync call of that export, wherever it
-- is in its script
unfoldable pub EntersKeep : Type 0
EntersKeep =
    (c : Component) (o : Op) (n : ℕ) (e : Callee) (words : List ℕ) (s t : StateView) (r : Result (Step ℕ) TaskError) → Rests c n s →
    callee_of_op o ≡ Some e → is_sync_call o ≡ true → is_async_lifted (export_kind c e) ≡ false →
    Answers true (enters_rule c e words s.core) thread_entered s r t → KeepsEntered c o n r t

-- ---- A call in two halves

-- where a call is prepared, or that is refused, whosever turn it is
unfoldable pub PreparesKeep : Type 0
PreparesKeep = (c : Component) (p : Turn) (n q : ℕ) (async_caller room : Bool) (e : Callee) (words : List ℕ) (s t : StateView)
    (r : Result QualifiedThreadId TaskError) → CoreInOrder c p s.core → Prepares c n e words (goal_for async_caller q) s room r t →
    CoreInOrder c p t.core

-- nothing has become of a call as it is prepared
unfoldable pub PreparesMake : Type 0
PreparesMake = (c : Component) (n q : ℕ) (async_caller : Bool) (e : Callee) (words : List ℕ) (s t : StateView) (id : QualifiedThreadId) →
    Rests c n s → Prepared c n e words (goal_for async_caller q) s t id → IsPrepared n (thread_of t id.thread) t.core

-- where it is started, whatever was done in between: order in which the thread has an op that calls an export, wherever it is in its script
unfoldable pub StartsKeep : Type 0
StartsKeep = (c : Component) (o : Op) (n : ℕ) (s t : StateView) (id : QualifiedThreadId) → Rests c n s →
    IsPrepared n (thread_of s id.thread) s.core → is_some (callee_of_op o) ≡ true →
    t ≡ with_current None (with_core (starts_in n id s) s) → CoreInOrderAs (given n o (ops_of c t.core)) c turn.Main t.core

-- ---- An op

-- where n did any op as a host has it done, but one on registers and memory cells or one that ends an activation, wherever n is in
-- its script
unfoldable pub OpsKeep : Type 0
OpsKeep =
    (c : Component) (o : Op) (n : ℕ) (r : OpResult) (s t : StateView) → Rests c n s → ends_activation o ≡ false → is_data_op o ≡ false →
    Did (scripted_rule_of c o s.core) s r t → KeepsFor c o n r t

-- where it called a host so
unfoldable pub HostsKeep : Type 0
HostsKeep = (c : Component) (found : FirstPoll) (q : Option ℕ) (n : ℕ) (r : OpResult) (s t : StateView) → Rests c n s →
    Did (hosts_rule q found s.core) s r t → KeepsDone c (host_op q) n r t

-- where n did an op of is_host_op so, which is done whenever it goes on
unfoldable pub HostOpsKeep : Type 0
HostOpsKeep = (c : Component) (o : Op) (n : ℕ) (r : OpResult) (s t : StateView) → Rests c n s → is_host_op o ≡ true →
    Did (scripted_rule_of c o s.core) s r t → KeepsDone c o n r t
