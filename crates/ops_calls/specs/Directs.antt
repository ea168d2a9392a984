-- The two halves of a direct call.
use Rattle.std.specs.Prelude.{Err, List, Ok, Result, false, true, ℕ, ◌≡◌}
use Rattle.ops_state.specs.declared.error.TaskError.{TaskError}
use Rattle.ops_state.specs.declared.name_calls.QualifiedThreadId.{QualifiedThreadId}
use Rattle.machine_data.specs.Core.{Core}
use Rattle.machine_data.specs.Labels.{Choice}
use Rattle.machine_data.specs.Read.{goal_of, is_direct, is_explicit, task_of}
use Rattle.machine_data.specs.Write.{set_register}
use Rattle.machine_data.specs.declared.component.Callee.{Callee}
use Rattle.machine_data.specs.declared.component.Component.{Component}
use Rattle.ops_guests.specs.declared.op_result.OpAnswer.{OpAnswer}
use Rattle.ops_guests.specs.declared.op_result.OpAnswer.TheVariants as op_answer
use Rattle.machine_rules.specs.Calls.{enter_rule}
use Rattle.machine_rules.specs.Ends.{direct_exit_rule}
use Rattle.machine_rules.specs.Progress.{Progress}
use Rattle.machine_rules.specs.Scripts.{export_kind}
use Rattle.core_primitives.specs.StateView.{StateView, thread_of}
use Rattle.ops_calls.specs.HostOps.{Answers}
use Rattle.ops_calls.specs.OpAnswers.{at_once}

abbrev pub enters_rule : Component → Callee → List ℕ → Core → ℕ → Choice → Progress
enters_rule c e words s n ch = enter_rule n e (export_kind c e) words s

-- the thread that is entered; default: none
abbrev pub thread_entered : OpAnswer → ℕ
thread_entered (op_answer.Entered m) = m
thread_entered _ = 0

-- by its number
abbrev pub entered : StateView → Result QualifiedThreadId TaskError → Result ℕ TaskError
entered t (Ok id) = Ok (thread_of t id.thread)
entered t (Err why) = Err why

-- The running thread called the export directly, and the callee's thread is answered; only where it is out of memory it did nothing.
abbrev pub AnswersEntered : Component → Callee → (words : List ℕ) → StateView → Result QualifiedThreadId TaskError → StateView → Type 0
AnswersEntered c e words s r t = Answers true (enters_rule c e words s.core) thread_entered s (at_once (entered t r)) t

-- The thread is the first one of a direct call.
pub record IsDirect (n : ℕ) (s : Core) : Type 0 where
  pub implicit : is_explicit n s ≡ false
  pub direct : is_direct (goal_of (task_of n s) s) ≡ true

-- its exit, once its first register has the value
abbrev pub exits_rule : ℕ → Core → ℕ → Choice → Progress
exits_rule v s n ch = direct_exit_rule n (set_register n 0 v s)
