-- What a call between runs results in on a store, which is told of its groups, and what a method of an instance does: it has the running
-- thread do an op in place of the one at its place, or a part of one.
use Rattle.ops_state.specs.declared.error.TaskError.{TaskError}
use Rattle.ops_state.specs.declared.error.TaskError.TheVariants as task_error
use Rattle.ops_state.specs.Named.{IsLive}
use Rattle.ops_state.specs.declared.name_calls.QualifiedThreadId.{QualifiedThreadId}
use Rattle.std.specs.Prelude.{Bool, IfOk, IfSome, IsSome, List, None, Ok, Result, Some, cond, length, min, true, ℕ, ◌<◌, ◌==◌, ◌≡◌, ◌≢◌, ◌⊎◌}
use Rattle.ops_calls.specs.OpAnswers.{whole_answer, at_once, number_answered, value_answered}
use Rattle.ops_calls.specs.HostOps.{Answers, AnswersHere, AnswersOp, scripted_rule_of, turn_in}
use Rattle.ops_calls.specs.MainCalls.{Returns}
use Rattle.ops_calls.specs.Directs.{entered, enters_rule, exits_rule, thread_entered}
use Rattle.ops_calls.specs.PolledCalls.{blocks_rule, polls_rule}
use Rattle.ops_calls.specs.Prepared.{Prepared, Prepares, goal_for, starts_in}
use Rattle.ops_calls.specs.Resumes.{Resumed, resumed_by}
use Rattle.ops_calls.specs.declared.answer_calls.Answer.{Answer}
use Rattle.ops_calls.specs.declared.answer_calls.Step.{Step}
use Rattle.ops_calls.specs.declared.answer_calls.Step.TheVariants as step
use Rattle.ops_calls.specs.declared.intrinsics.ResumeThread.{ResumeThread}
use Rattle.ops_calls.specs.declared.intrinsics.ResumeThread.TheVariants as resume
use Rattle.task_store.specs.HeldBorrows.{Comes, UnlessBorrowed, cancel_holds_borrows, exit_holds_borrows, return_holds_borrows}
use Rattle.task_loop.specs.Lent.{RuleAnswers}
use Rattle.task_loop.specs.Told.{TellsCall, groups_before_call, refused_by_hook}
use Rattle.machine_data.specs.Core.{Core}
use Rattle.machine_data.specs.Labels.{Choice}
use Rattle.machine_data.specs.Read.{fits}
use Rattle.machine_data.specs.declared.component.Callee.{Callee}
use Rattle.machine_data.specs.declared.component.Component.{Component}
use Rattle.store_works.specs.Course.{MayTell}
use Rattle.ops_subtasks.specs.First.{first_heard}
use Rattle.machine_data.specs.declared.component.HostDef.{HostDef}
use Rattle.machine_data.specs.declared.statuses.HostPoll.{HostPoll}
use Rattle.machine_data.specs.declared.op.CallOp.TheVariants as call_op
use Rattle.machine_data.specs.declared.op.Op.{Op}
use Rattle.machine_data.specs.declared.op.Op.TheVariants as op
use Rattle.machine_data.specs.declared.op.Operand.TheVariants as operand
use Rattle.machine_data.specs.declared.op.SetOp.TheVariants as set_op
use Rattle.machine_data.specs.declared.op.TaskOp.TheVariants as task_op
use Rattle.machine_data.specs.declared.op.ThreadOp.TheVariants as thread_op
use Rattle.machine_data.specs.declared.records.Goal.{Goal}
use Rattle.machine_data.specs.declared.records.Turn.TheVariants as turn
use Rattle.machine_data.specs.declared.trap.Trap.TheVariants as trap
use Rattle.machine_rules.specs.Calls.{call_queues}
use Rattle.machine_rules.specs.Progress.{Progress}
use Rattle.machine_rules.specs.Scripts.{export_at, export_kind}
use Rattle.task_store.specs.Hosts.{HoldsHosts, held_by}
use Rattle.task_store.specs.declared.store.Store.{Store}
use Rattle.ops_turns.specs.Turn.{CoreInOrder, running_of}
use Rattle.core_primitives.specs.StateView.{StateView, with_core, with_current}
use Rattle.ops_guests.specs.declared.op_result.OpAnswer.{OpAnswer}

-- ---- What a call does

-- what is so of an answer and of the state that is left
abbrev pub ComesOf : Type 0 → Type 1
ComesOf A = Result A TaskError → StateView → Type 0

-- what is so of a store, of what a call on it answers, and of the store that it leaves
abbrev pub DoesOn : (A T H G : Type 0) → Type 1
DoesOn A T H G = Store T H G → Result A TaskError → Store T H G → Type 0

-- The call resulted in this answer, which is none of the hook's, and left this; and that was told.
pub record IsTold {A T H G : Type 0} (listens : Bool) (comes : ComesOf A) (s : Store T H G) (r : Result A TaskError) (t : Store T H G) :
    Type 0 where
  pub answer : Result A TaskError
  pub left : StateView
  pub op_result : comes answer left
  pub known : left.tags.tracked ≡ s.state.tags.tracked
  pub unfailed : answer ≢ refused_by_hook
  -- it is answered, unless the hook refuses it
  pub heard : TellsCall listens (groups_before_call s.state) answer r left t.state s.listeners t.listeners

-- A call that holds the works of hosts, and changes nothing but the state and the listeners.
pub record DoesCall {A T H G : Type 0} (listens : Bool) (comes : ComesOf A) (s : Store T H G) (r : Result A TaskError) (t : Store T H G) :
    Type 0 where
  pub told : IsTold listens comes s r t
  pub works : (course : H → HostDef) → HoldsHosts course s → HoldsHosts course t
  pub rest : t ≡ record s { state = t.state; listeners = t.listeners }

-- A call that leaves the state in order.
pub record DoesInOrder {A T H G : Type 0} (listens : Bool) (c : Component) (comes : ComesOf A) (s : Store T H G) (r : Result A TaskError)
    (t : Store T H G) : Type 0 where
  pub call : DoesCall listens comes s r t
  pub order : CoreInOrder c (turn_in t.state) t.state.core

-- ---- A method at its op

-- an answer that may be a pause
abbrev pub may_pause : {A : Type 0} → Result (Step A) TaskError → Result (Step A) TaskError
may_pause a = a

-- The running thread did the op in place of the one at its place, and what that resulted in is answered as its label is read: at
-- once, or maybe by a pause.
abbrev pub DoesHostOp : {A R T H G : Type 0} → Bool → Component → Op → (to : Result R TaskError → Result (Step A) TaskError) →
    (read : OpAnswer → A) → DoesOn R T H G
DoesHostOp listens c o to read s r t =
    DoesCall listens (λ answer u. AnswersOp c o read s.state (to answer) u) s r t

-- ---- The ops of methods

abbrev pub new_set_op : Op
new_set_op = op.Set (set_op.New 0)

abbrev pub drop_set_op : (set : ℕ) → Op
drop_set_op h = op.Set (set_op.Drop (operand.Number h))

abbrev pub poll_set_op : (set : ℕ) → Op
poll_set_op h = op.Set (set_op.Poll 0 (operand.Number h))

abbrev pub wait_set_op : (set : ℕ) → Op
wait_set_op h = op.Set (set_op.Wait 0 (operand.Number h))

abbrev pub join_op : (waitable set : ℕ) → Op
join_op w h = op.Set (set_op.Join (operand.Number w) (operand.Number h))

abbrev pub drop_subtask_op : (subtask : ℕ) → Op
drop_subtask_op h = op.Call (call_op.Drop (operand.Number h))

abbrev pub task_cancel_op : Op
task_cancel_op = op.Task task_op.TaskCancel

abbrev pub index_op : Op
index_op = op.Thread (thread_op.Index 0)

-- a slot above 255 is as 255
abbrev pub new_thread_op : (slot context : ℕ) → Op
new_thread_op x v = op.Thread (thread_op.New 0 (min x 255) (operand.Number v))

abbrev pub resume_later_op : (thread : ℕ) → Op
resume_later_op h = op.Thread (thread_op.ResumeLater (operand.Number h))

-- ---- Methods that end a task, unless it still holds borrows

abbrev pub UnlessHoldsBorrows : (ℕ → Core → Bool) → (ℕ → Comes) → StateView → ComesOf (Unit {0})
UnlessHoldsBorrows lends comes s a t = IfSome (running_of s) (λ n. UnlessBorrowed (lends n s.core) (comes n) s a t)

-- the running thread's task returned the value, of its own type or not
abbrev pub DoesReturn : {T H G : Type 0} → Bool → (own_type : Bool) → (value : ℕ) → DoesOn (Unit {0}) T H G
DoesReturn listens own v s r t =
    DoesCall listens (UnlessHoldsBorrows (λ n. return_holds_borrows n own) (λ n. Returns n v own) s.state) s r t

-- it answered a cancel
abbrev pub DoesCancel : {T H G : Type 0} → Bool → Component → DoesOn (Unit {0}) T H G
DoesCancel listens c s r t =
    DoesCall listens (UnlessHoldsBorrows cancel_holds_borrows (λ n. RuleAnswers (scripted_rule_of c task_cancel_op s.state.core)) s.state) s r t

-- the first thread of a direct call ended with this value
abbrev pub ExitsCall : {T H G : Type 0} → Bool → Component → (value : ℕ) → DoesOn (Unit {0}) T H G
ExitsCall listens c v s r t =
    DoesCall listens (UnlessHoldsBorrows exit_holds_borrows (λ n. RuleAnswers (exits_rule v s.state.core)) s.state) s r t

-- ---- Methods that call an export

-- The export is of an earlier instance than this one, and takes so many words.
pub record CanCall (c : Component) (i : ℕ) (e : Callee) (words : List ℕ) : Type 0 where
  pub earlier : e.instance < i
  pub there : IsSome (export_at c e)
  pub params : IfSome (export_at c e) (λ x. length words ≡ x.params)

-- a direct call of this export was entered; its thread, which is answered, runs
abbrev pub EntersCall : {T H G : Type 0} → Bool → Component → Callee → List ℕ → DoesOn QualifiedThreadId T H G
EntersCall listens c e words s r t =
    DoesCall listens
    (λ a u. Answers true (enters_rule c e words s.state.core) thread_entered s.state (at_once (entered u a)) u × IfOk a (λ id. IsLive u id)) s r t

-- a call of this export was made, whose result goes to the register, or to the answer of a sync caller
abbrev pub PreparesCall : {T H G : Type 0} → Bool → Component → Callee → List ℕ → (async_caller : Bool) → (register : ℕ) →
    DoesOn QualifiedThreadId T H G
PreparesCall listens c e words async q s r t =
    DoesCall listens
    (λ a u. IfSome (running_of s.state) (λ n. Prepares c n e words (goal_for async q) s.state (fits 3 s.state.core) a u)) s r t

-- the thread that a prepared call starts with is queued first, and none runs
abbrev pub StartsCall : {A T H G : Type 0} → Bool → QualifiedThreadId → DoesOn (Step A) T H G
StartsCall listens id s r t =
    DoesCall listens
    (λ a u.
    (a ≡ Ok step.Pause) × IfSome (running_of s.state) (λ n. u ≡ with_current None (with_core (starts_in n id s.state) s.state))) s r t

-- the call that was prepared is then as one whose start was queued at once
abbrev pub BeginsWhole : QualifiedThreadId → StateView → StateView → Type 0
BeginsWhole id s t =
    (c : Component) (n : ℕ) (e : Callee) (words : List ℕ) (g : Goal) (u : StateView) → running_of s ≡ Some n →
    Prepared c n e words g u s id → t.core ≡ call_queues n e (export_kind c e) g words u.core

-- ---- Methods on threads

-- the thread of this handle was resumed by the running one; later, this is an op
abbrev pub ResumesThread : {T H G : Type 0} → Bool → Component → ResumeThread → (thread : ℕ) → DoesOn Bool T H G
ResumesThread listens c how h s r t =
    DoesCall listens (λ a u. IfSome (running_of s.state) (λ n. Resumed (resumed_by how n h s.state.core) s.state a u)) s r t

-- the op at the running thread's place, which was under way, was taken further; order is always kept
abbrev pub GoesOn : {T H G : Type 0} → Bool → Component → DoesOn (Step Answer) T H G
GoesOn listens c s r t =
    DoesInOrder listens c (λ a u. AnswersHere c whole_answer s.state a u) s r t

-- ---- Methods that call a host

-- The running thread called a host whose work the store holds until it ends, by this rule, and what that resulted in is answered as
-- its label is read. Nothing but the host's value, the state, the listeners and the works is changed.
pub record CallsHost {A R T H G : Type 0} (listens : Bool) (course : H → HostDef) (c : Component) (row : ℕ → Choice → Progress)
    (to : Result R TaskError → Result (Step A) TaskError) (read : OpAnswer → A) (s : Store T H G) (r : Result R TaskError) (t : Store T H G) :
    Type 0 where
  pub told : IsTold listens (λ answer u. Answers true row read s.state (to answer) u) s r t
  pub works : HoldsHosts course t
  pub rest : t ≡ record s { value = t.value; state = t.state; listeners = t.listeners; works = t.works }

-- it polls this host once, which answers as it may, and the value goes to the register
abbrev pub PollsHost : {T H G : Type 0} → Bool → (H → HostDef) → Component → (register : ℕ) → HostDef → DoesOn ℕ T H G
PollsHost listens course c q host s r t =
    (answer : HostPoll) × (MayTell host answer × CallsHost listens course c (polls_rule q (first_heard host answer) s.state.core) at_once number_answered s r t)

-- it polls it once, and waits for its value
abbrev pub WaitsForHost : {T H G : Type 0} → Bool → (H → HostDef) → Component → HostDef → DoesOn (Step ℕ) T H G
WaitsForHost listens course c host s r t =
    (answer : HostPoll) × (MayTell host answer × CallsHost listens course c (blocks_rule (first_heard host answer) s.state.core) may_pause value_answered s r t)

-- the work of this number stays as it is if its call was made, and else isn't held any more
abbrev pub SettlesWork : {T H G : Type 0} → (H → HostDef) → ℕ → (made : Bool) → Store T H G → Store T H G → Type 0
SettlesWork course k made s t = (i : ℕ) → held_by course t i ≡ cond made (held_by course s i) (cond (k == i) None (held_by course s i))
