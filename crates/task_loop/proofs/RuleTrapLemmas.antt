-- No rule of the machine traps with 22, so a call that answers it has it of the hook.
use Rattle.laws_labels.proofs.OwnLemmas.{IsDone, IsOwn, direct_exit_own, enter_own, host_own, op_own, ret_bad_own, ret_own, sync_host_polled_own}
use Rattle.laws_labels.proofs.ShowLemmas.{wider}
use Rattle.laws_labels.specs.Own.{Shows, is_data, is_own, is_rule_trap}
use Rattle.ops_state.specs.declared.error.TaskError.{TaskError}
use Rattle.ops_state.specs.declared.error.TaskError.TheVariants as task_error
use Rattle.ops_state.specs.declared.name_calls.QualifiedThreadId.{QualifiedThreadId}
use Rattle.std.proofs.Common.{ap, refl, subst}
use Rattle.std.specs.Prelude.{Bool, Err, IfSome, List, None, Ok, OnErr, Option, Result, Some, false, true, ℕ, ◌==◌, ◌≡◌, not}
use Rattle.ops_calls.specs.OpAnswers.{answered}
use Rattle.ops_dispatch.specs.Makes.{takes_memory}
use Rattle.ops_calls.specs.HostOps.{Answers, AnswersHere, AnswersOp, Does, IsRunningIn, op_rule_at, scripted_rule_of, takes_here}
use Rattle.ops_calls.specs.MainCalls.{Returned, Returns}
use Rattle.ops_calls.specs.Directs.{enters_rule, exits_rule}
use Rattle.ops_calls.specs.PolledCalls.{blocks_rule, polls_rule}
use Rattle.ops_calls.specs.Prepared.{Prepares}
use Rattle.ops_calls.specs.Tasks.{Begins}
use Rattle.ops_calls.specs.Resumes.{Resumed, first_in, resumed_by}
use Rattle.ops_calls.specs.declared.answer_calls.Step.{Step}
use Rattle.ops_calls.specs.declared.intrinsics.ResumeThread.{ResumeThread}
use Rattle.ops_calls.specs.declared.intrinsics.ResumeThread.TheVariants as resume
use Rattle.machine_data.specs.Core.{Core}
use Rattle.machine_data.specs.Labels.{Choice, choice_of}
use Rattle.machine_data.specs.Read.{instance_of, thread_at}
use Rattle.machine_data.specs.declared.component.Callee.{Callee}
use Rattle.machine_data.specs.declared.component.Component.{Component}
use Rattle.machine_data.specs.declared.component.ExportKind.{ExportKind}
use Rattle.machine_data.specs.declared.label.Label.TheVariants as label
use Rattle.machine_data.specs.declared.label.LoopLabel.TheVariants as loop_label
use Rattle.machine_data.specs.declared.op.Op.{Op}
use Rattle.machine_data.specs.declared.op.Op.TheVariants as op
use Rattle.machine_data.specs.declared.op.Operand.TheVariants as operand
use Rattle.machine_data.specs.declared.op.ThreadOp.TheVariants as thread_op
use Rattle.machine_data.specs.declared.records.Goal.{Goal}
use Rattle.machine_data.specs.declared.trap.Trap.{Trap}
use Rattle.machine_data.specs.declared.trap.Trap.TheVariants as trap
use Rattle.ops_guests.specs.OpResult.{Implements}
use Rattle.ops_guests.specs.Halting.{First, GoesFirst, Refused, StaysBehind, or_refused, promoted_found, promoted_if, refused_if, resumed_found}
use Rattle.ops_guests.specs.Steps.{label_of}
use Rattle.ops_guests.specs.declared.op_result.OpResult.{OpResult}
use Rattle.ops_guests.specs.declared.op_result.OpResult.TheVariants as op_result
use Rattle.machine_rules.proofs.Machine.{and_parts}
use Rattle.machine_rules.specs.Calls.{FirstPoll}
use Rattle.machine_rules.specs.Finish.{SomeHost}
use Rattle.machine_rules.specs.Progress.{Asks, Fails, Continues, Never, OneOf, Ordered, Progress, Stops, Traps}
use Rattle.machine_rules.specs.Scripts.{export_kind, op_of}
use Rattle.machine_rules.specs.Threads.{has_yielded, resume_later_rule, resume_why}
use Rattle.ops_turns.specs.Turn.{running_of}
use Rattle.core_primitives.specs.StateView.{StateView}
use Rattle.ops_guests.specs.declared.op_result.OpAnswer.{OpAnswer}

abbrev by_hook : Trap
by_hook = trap.HookFailed

-- refused by the hook
abbrev Failed : {A : Type 0} → Result A TaskError → Type 0
Failed r = r ≡ Err (task_error.Trap by_hook)

-- 22 isn't a rule's
not_of_rule : (w : Trap) → is_rule_trap w ≡ true → w ≡ by_hook → ⊥
not_of_rule w row is = let off : is_rule_trap w ≡ false = ap is_rule_trap is in absurd (cc)

other_trap : {A : Type 0} (w : Trap) (r : Result A TaskError) → is_rule_trap w ≡ true → r ≡ Err (task_error.Trap w) → Failed r → ⊥
other_trap w r row is failed = not_of_rule w row (cc)

-- what answers no error
pub never_failed : {A : Type 0} (r : Result A TaskError) → OnErr r ⊥ → Failed r → ⊥
never_failed (Ok x) never failed = absurd (cc)
never_failed (Err e) never failed = never

-- what shows the label of an op that was done shows one of the thread's own
own_by : (p : Progress) → Shows IsDone p → Shows IsOwn p
own_by p shows = wider IsDone IsOwn (λ l done. (and_parts (is_own l) (not (is_data l)) done).0) p shows

-- ---- An op that did its rule

met_trap : (p : Progress) → Shows IsOwn p → (s : Core) (r : OpResult) (t : Core) → Implements p s r t → (w : Trap) → r ≡ op_result.Traps w → is_rule_trap w ≡ true
met_trap (Continues l new m) h s r t is w e = let a = is.0 in absurd (cc)
met_trap (Stops l new) h s r t is w e = let a = is.0 in absurd (cc)
met_trap (Traps why) h s r t is w e = let a = is.0 in let same : why ≡ w = cc in subst (λ (k : Trap). is_rule_trap k ≡ true) same h
met_trap (Fails i) h s r t is w e = let a = is.0 in absurd (cc)
met_trap Never h s r t is w e = absurd is
met_trap (Ordered ns next) h s r t is w e = met_trap (next is.0) (h is.0) s r t is.1.1 w e
met_trap (OneOf ns next) h s r t is w e = met_trap (next is.0) (h is.0) s r t is.1.1 w e
met_trap (Asks next) h s r t is w e = met_trap (next is.0) (h is.0) s r t is.1 w e

trapped_as : {A : Type 0} (f : OpAnswer → A) (r : OpResult) (w : Trap) → Err (task_error.Trap w) ≡ answered f r → r ≡ op_result.Traps w
trapped_as f (op_result.Continues l m said) w e = absurd (cc)
trapped_as f (op_result.Stops l) w e = absurd (cc)
trapped_as f (op_result.Traps why) w e = cc
trapped_as f (op_result.Fails i) w e = absurd (cc)

module _ (s t : StateView) where
  -- what a rule's call answers
  pub answers_not : {A : Type 0} (takes : Bool) (row : ℕ → Choice → Progress) (f : OpAnswer → A) (a : Result (Step A) TaskError) (n : ℕ) → running_of s ≡ Some n → ((ch : Choice) → Shows IsOwn (row n ch)) →
      Answers takes row f s a t → Failed a → ⊥
  answers_not takes row f (Ok x) n runs shows answers failed = absurd (cc)
  answers_not takes row f (Err task_error.NoMemory) n runs shows answers failed = absurd (cc)
  answers_not takes row f (Err (task_error.HostFailed i)) n runs shows answers failed = absurd (cc)
  answers_not takes row f (Err (task_error.Trap w)) n runs shows answers failed =
      let r : OpResult = answers.0 in
      let did : Does (row n) n s r t = subst (λ (o : Option ℕ). IfSome o (λ k. Does (row k) k s r t)) runs answers.1.0 in
      not_of_rule w (met_trap (row n (choice_of (label_of n r))) (shows (choice_of (label_of n r))) s.core r t.core did.implements w (trapped_as f r w answers.1.1)) (cc)

  module _ (c : Component) (running : IsRunningIn c s) where
    -- an op's
    pub asked_not : {A : Type 0} (o : Op) (f : OpAnswer → A) (a : Result (Step A) TaskError) → AnswersOp c o f s a t → Failed a → ⊥
    asked_not o f a answers = answers_not (takes_memory o) (scripted_rule_of c o s.core) f a running.number running.runs (λ ch. op_own SomeHost c running.number s.core ch o) answers

    -- that of the op at the place, as a host has it done
    pub here_not : {A : Type 0} (f : OpAnswer → A) (a : Result (Step A) TaskError) → AnswersHere c f s a t → Failed a → ⊥
    here_not f a answers = answers_not (takes_here c s) (op_rule_at c s.core) f a running.number running.runs (λ ch. op_own SomeHost c running.number s.core ch (op_of c running.number s.core)) answers

    -- those of a direct call
    pub entered_not : {A : Type 0} (e : Callee) (words : List ℕ) (f : OpAnswer → A) (a : Result (Step A) TaskError) → Answers true (enters_rule c e words s.core) f s a t → Failed a → ⊥
    entered_not e words f a answers =
        answers_not true (enters_rule c e words s.core) f a running.number running.runs (λ ch. own_by (enters_rule c e words s.core running.number ch) (enter_own SomeHost running.number s.core e (export_kind c e) words)) answers

    pub exited_not : {A : Type 0} (v : ℕ) (f : OpAnswer → A) (a : Result (Step A) TaskError) → Answers false (exits_rule v s.core) f s a t → Failed a → ⊥
    exited_not v f a answers = answers_not false (exits_rule v s.core) f a running.number running.runs (λ ch. own_by (exits_rule v s.core running.number ch) (direct_exit_own SomeHost running.number _ _ _)) answers

    -- those of a host's call
    pub polled_not : {A : Type 0} (q : ℕ) (found : FirstPoll) (f : OpAnswer → A) (a : Result (Step A) TaskError) → Answers true (polls_rule q found s.core) f s a t → Failed a → ⊥
    polled_not q found f a answers =
        answers_not true (polls_rule q found s.core) f a running.number running.runs (λ ch. own_by (polls_rule q found s.core running.number ch) (host_own SomeHost running.number s.core q found)) answers

    pub blocked_not : {A : Type 0} (found : FirstPoll) (f : OpAnswer → A) (a : Result (Step A) TaskError) → Answers true (blocks_rule found s.core) f s a t → Failed a → ⊥
    blocked_not found f a answers =
        answers_not true (blocks_rule found s.core) f a running.number running.runs (λ ch. own_by (blocks_rule found s.core running.number ch) (sync_host_polled_own SomeHost running.number s.core found)) answers

  -- ---- Other calls

  returned_trap : (p : Progress) (r : Result (Unit {0}) TaskError) → Shows IsOwn p → Returned p s r t → Failed r → ⊥
  returned_trap (Continues l new m) r h is failed = let a = is.0 in absurd (cc)
  returned_trap (Traps why) r h is failed = other_trap why r h is.0 failed
  returned_trap (Stops l new) r h is failed = absurd is
  returned_trap (Fails i) r h is failed = absurd is
  returned_trap Never r h is failed = absurd is
  returned_trap (Ordered ns next) r h is failed = absurd is
  returned_trap (OneOf ns next) r h is failed = absurd is
  returned_trap (Asks next) r h is failed = absurd is

  pub returns_not : (n v : ℕ) (own : Bool) (r : Result (Unit {0}) TaskError) → Returns n v own s r t → Failed r → ⊥
  returns_not n v true r is = returned_trap _ r (own_by _ (ret_own SomeHost n s.core v is.0)) is.1
  returns_not n v false r is = returned_trap _ r (own_by _ (ret_bad_own SomeHost n s.core)) is

  pub prepares_not : (c : Component) (n : ℕ) (e : Callee) (words : List ℕ) (g : Goal) (room : Bool) (r : Result QualifiedThreadId TaskError) → Prepares c n e words g s room r t → Failed r → ⊥
  prepares_not c n e words g false r is failed = other_trap trap.TableFull r refl is.0 failed
  prepares_not c n e words g true (Ok id) is failed = absurd (cc)
  prepares_not c n e words g true (Err why) is failed = let a = is.0 in absurd (cc)

  pub begins_not : (x : ExportKind) (i : ℕ) (f : Option QualifiedThreadId) (room : Bool) (r : Result QualifiedThreadId TaskError) → Begins x i f s room r t → Failed r → ⊥
  begins_not x i f false r is failed = other_trap trap.TableFull r refl is.0 failed
  begins_not x i f true (Ok id) is failed = absurd (cc)
  begins_not x i f true (Err why) is failed = let a = is.0 in absurd (cc)

  -- ---- Another thread that is resumed

  abbrev Lawful : First → Type 0
  Lawful (Refused why) = is_rule_trap why ≡ true
  Lawful _ = Unit {0}

  lawful_if : (b : Bool) (w : Trap) (f : First) → is_rule_trap w ≡ true → Lawful f → Lawful (refused_if b w f)
  lawful_if true w f row h = row
  lawful_if false w f row h = h

  lawful_or : {X : Type 0} (o : Option X) (w : Trap) (next : X → First) → is_rule_trap w ≡ true → ((x : X) → Lawful (next x)) → Lawful (or_refused o w next)
  lawful_or None w next row h = row
  lawful_or (Some x) w next row h = h x

  lawful_later : (p : Progress) → Shows IsOwn p → Lawful (first_in p)
  lawful_later (Continues l new m) h = tt
  lawful_later (Traps why) h = h
  lawful_later (Stops l new) h = tt
  lawful_later (Fails i) h = tt
  lawful_later Never h = tt
  lawful_later (Ordered ns next) h = tt
  lawful_later (OneOf ns next) h = tt
  lawful_later (Asks next) h = tt

  lawful_promoted : (b : Bool) (m : ℕ) → Lawful (promoted_if b m s.core)
  lawful_promoted true m = tt
  lawful_promoted false m = tt

  lawful_resume : (c : Component) (how : ResumeThread) (n h : ℕ) → Lawful (resumed_by how n h s.core)
  lawful_resume c resume.Promote n h =
      lawful_or (thread_at (instance_of n s.core) h s.core) trap.BadHandle (promoted_found n s.core) refl (λ m.
      lawful_if (m == n) trap.CannotResumeThread _ refl (lawful_promoted (has_yielded m s.core) m))
  lawful_resume c resume.Resume n h =
      lawful_or (thread_at (instance_of n s.core) h s.core) trap.BadHandle (resumed_found n s.core) refl (λ m.
      lawful_if (m == n) trap.CannotResumeThread _ refl (lawful_or (resume_why m s.core) trap.CannotResumeThread _ refl (λ w. tt)))
  lawful_resume c resume.ResumeLater n h =
      lawful_later (resume_later_rule SomeHost n h s.core) (op_own SomeHost c n s.core (choice_of (label.Loop loop_label.Rest)) (op.Thread (thread_op.ResumeLater (operand.Number h))))

  by_first : (f : First) (r : Result Bool TaskError) → Lawful f → Resumed f s r t → Failed r → ⊥
  by_first (GoesFirst new) r h is failed = let a = is.0 in absurd (cc)
  by_first StaysBehind r h is failed = let a = is.0 in absurd (cc)
  by_first (Refused why) r h is failed = other_trap why r h is.0 failed

  pub resumes_not : (c : Component) (how : ResumeThread) (n h : ℕ) (r : Result Bool TaskError) → Resumed (resumed_by how n h s.core) s r t → Failed r → ⊥
  resumes_not c how n h r is = by_first (resumed_by how n h s.core) r (lawful_resume c how n h) is
