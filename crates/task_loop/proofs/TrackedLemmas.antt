-- A call tracks the groups that were tracked before it.
use Rattle.ops_state.specs.declared.error.TaskError.{TaskError}
use Rattle.ops_state.specs.declared.error.TaskError.TheVariants as task_error
use Rattle.ops_state.specs.declared.name_calls.QualifiedThreadId.{QualifiedThreadId}
use Rattle.std.proofs.Common.{ap, subst}
use Rattle.std.specs.Prelude.{Bool, Err, IfSome, IsSome, List, None, Ok, Option, Result, Some, false, true, ℕ, ◌≡◌}
use Rattle.ops_calls.specs.HostOps.{Answers, Does}
use Rattle.ops_calls.specs.MainCalls.{Returned, Returns}
use Rattle.ops_calls.specs.Prepared.{Prepares, starts_in}
use Rattle.ops_calls.specs.Resumes.{Resumed}
use Rattle.ops_guests.specs.Halting.{First, GoesFirst, Refused, StaysBehind}
use Rattle.ops_calls.specs.declared.answer_calls.Step.{Step}
use Rattle.machine_data.specs.Labels.{Choice}
use Rattle.machine_data.specs.declared.component.Callee.{Callee}
use Rattle.machine_data.specs.declared.component.Component.{Component}
use Rattle.machine_data.specs.declared.records.Goal.{Goal}
use Rattle.ops_guests.specs.declared.op_result.OpResult.{OpResult}
use Rattle.ops_guests.specs.declared.op_result.OpAnswer.{OpAnswer}
use Rattle.machine_rules.specs.Finish.{SomeHost}
use Rattle.machine_rules.specs.Progress.{Continues, Progress, Traps}
use Rattle.machine_rules.specs.Task.{ret_bad_rule, ret_rule}
use Rattle.ops_turns.specs.Later.{TracksSame}
use Rattle.ops_turns.specs.Turn.{running_of}
use Rattle.core_primitives.specs.StateView.{StateView, with_core, with_current}

pub same_known : {s t : StateView} → t ≡ s → TracksSame s t
same_known is = ap (λ (v : StateView). v.tags.tracked) is

module _ (s t : StateView) (n : ℕ) (runs : running_of s ≡ Some n) where
  done_known : (row : ℕ → Choice → Progress) (r : OpResult) → IfSome (running_of s) (λ k. Does (row k) k s r t) → TracksSame s t
  done_known row r did = (subst (λ (o : Option ℕ). IfSome o (λ k. Does (row k) k s r t)) runs did).works.1

  pub answers_known : {A : Type 0} (takes : Bool) (row : ℕ → Choice → Progress) (f : OpAnswer → A) (a : Result (Step A) TaskError) → Answers takes row f s a t → TracksSame s t
  answers_known takes row f (Err task_error.NoMemory) answers = same_known answers.1
  answers_known takes row f (Ok a) answers = done_known row answers.0 answers.1.0
  answers_known takes row f (Err (task_error.Trap w)) answers = done_known row answers.0 answers.1.0
  answers_known takes row f (Err (task_error.HostFailed i)) answers = done_known row answers.0 answers.1.0

module _ (s t : StateView) where
  returned_by : (p : Progress) (r : Result (Unit {0}) TaskError) → Returned p s r t → TracksSame s t
  returned_by (Continues l new m) r h = same_known h.1
  returned_by (Traps why) r h = same_known h.1
  returned_by p r h = absurd h

  pub returned_known : (n v : ℕ) (own : Bool) (r : Result (Unit {0}) TaskError) → Returns n v own s r t → TracksSame s t
  returned_known n v true r h = returned_by (ret_rule SomeHost n v h.0 s.core) r h.1
  returned_known n v false r h = returned_by (ret_bad_rule n s.core) r h

  pub resumed_known : (p : First) (r : Result Bool TaskError) → Resumed p s r t → TracksSame s t
  resumed_known (GoesFirst new) r h = same_known h.1
  resumed_known StaysBehind r h = same_known h.1
  resumed_known (Refused why) r h = same_known h.1

  pub prepared_known : (c : Component) (n : ℕ) (e : Callee) (words : List ℕ) (g : Goal) (room : Bool) (r : Result QualifiedThreadId TaskError) → Prepares c n e words g s room r t → TracksSame s t
  prepared_known c n e words g false r h = same_known h.1
  prepared_known c n e words g true (Ok id) h = h.becomes.tags.same
  prepared_known c n e words g true (Err why) h = same_known h.1

  pub started_known : (id : QualifiedThreadId) (o : Option ℕ) → IsSome o → IfSome o (λ n. t ≡ with_current None (with_core (starts_in n id s) s)) → TracksSame s t
  started_known id None some is = absurd (cc)
  started_known id (Some n) some is = ap (λ (v : StateView). v.tags.tracked) is
