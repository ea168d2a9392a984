-- What comes of an op that a host has the running thread do in place of the one at its place.
use Rattle.std.specs.Prelude.{Bool, Err, IfOk, IfSome, None, Option, Result, Some, false, length, true, ℕ, ◌<◌, ◌≡◌, ◌≢◌}
use Rattle.std.specs.Option.{option_map_or}
use Rattle.ops_dispatch.specs.Continues.{running_of}
use Rattle.ops_dispatch.specs.Makes.{takes_memory}
use Rattle.ops_state.specs.declared.error.TaskError.{TaskError}
use Rattle.ops_state.specs.declared.error.TaskError.TheVariants as task_error
use Rattle.ops_calls.specs.OpAnswers.{answered}
use Rattle.ops_calls.specs.declared.answer_calls.Step.{Step}
use Rattle.ops_dispatch.specs.Fits.{HasHandles, HasInstances}
use Rattle.laws_states.specs.Order.{InOrderAs}
use Rattle.machine_data.specs.Core.{Core, Main}
use Rattle.machine_data.specs.Labels.{Choice, choice_of}
use Rattle.machine_data.specs.Read.{op_progress_of, instance_of}
use Rattle.machine_data.specs.declared.component.Component.{Component}
use Rattle.machine_data.specs.declared.op.CallOp.TheVariants as call_op
use Rattle.machine_data.specs.declared.op.Op.{Op}
use Rattle.machine_data.specs.declared.op.Op.TheVariants as op
use Rattle.machine_data.specs.declared.op.SetOp.TheVariants as set_op
use Rattle.machine_data.specs.declared.op.TaskOp.TheVariants as task_op
use Rattle.machine_data.specs.declared.op.ThreadOp.TheVariants as thread_op
use Rattle.machine_data.specs.declared.records.OpProgress.TheVariants as op_progress
use Rattle.machine_data.specs.declared.records.Turn.{Turn}
use Rattle.machine_data.specs.declared.records.Turn.TheVariants as turn
use Rattle.ops_guests.specs.OpResult.{Implements, PicksFirst}
use Rattle.ops_guests.specs.Ended.{ended}
use Rattle.ops_guests.specs.Stays.{StaysAfter}
use Rattle.ops_guests.specs.Steps.{label_of}
use Rattle.ops_guests.specs.Works.{NamesTold}
use Rattle.ops_guests.specs.declared.op_result.OpResult.{OpResult}
use Rattle.ops_guests.specs.declared.op_result.OpResult.TheVariants as op_result
use Rattle.ops_guests.specs.declared.op_result.OpAnswer.{OpAnswer}
use Rattle.machine_rules.specs.Progress.{Progress}
use Rattle.machine_rules.specs.Scripts.{op_of}
use Rattle.machine_rules.specs.Finish.{SomeHost}
use Rattle.machine_rules.specs.Step.{op_rule}
use Rattle.ops_turns.specs.Turn.{CoreInOrder, state_at}
use Rattle.ops_turns.specs.WellFormed.{IsWellFormed}
use Rattle.core_primitives.specs.Preferences.{preference}
use Rattle.core_primitives.specs.StateView.{StateView, on_core, with_current}
use Rattle.ops_dispatch.specs.Polls.{polled_host}
use Rattle.machine_data.specs.declared.component.HostDef.{HostDef}

-- A thread of a well formed component runs, in one of its instances, and the core is in order.
pub record IsRunningIn (c : Component) (s : StateView) : Type 0 where
  pub well_formed : IsWellFormed c
  pub number : ℕ
  pub runs : running_of s ≡ Some number
  pub order : CoreInOrder c (turn.Run number) s.core
  pub home : instance_of number s.core < length c.instances

-- The thread is of this instance, and no op of it is under way.
abbrev pub MayDoHostOp : ℕ → StateView → Type 0
MayDoHostOp i s = IfSome (running_of s) (λ n. (instance_of n s.core ≡ i) × (op_progress_of n s.core ≡ op_progress.Fresh))

-- The thread is of this instance, and an op of it is under way.
abbrev pub HasPaused : ℕ → StateView → Type 0
HasPaused i s = IfSome (running_of s) (λ n. (instance_of n s.core ≡ i) × (op_progress_of n s.core ≢ op_progress.Fresh))

-- ---- What comes of an op

-- who runs then
abbrev pub runs_after : ℕ → OpResult → Option ℕ
runs_after n (op_result.Continues l m said) = Some m
runs_after n (op_result.Stops l) = None
runs_after n _ = Some n

-- none runs where the strand has stopped
abbrev pub after : OpResult → StateView → StateView
after (op_result.Stops l) s = with_current None s
after _ s = s

-- the op that resulted in this is ended, as a host has the thread n do it; no thread runs where the strand has stopped
abbrev pub left_by : ℕ → OpResult → StateView → StateView
left_by n r s = after r (on_core (ended SomeHost n r) s)

-- The thread n did a rule: t is what the rule says, and the thread that goes on runs. Where it was refused, nothing is changed.
pub record Does (row : Choice → Progress) (n : ℕ) (s : StateView) (r : OpResult) (t : StateView) : Type 0 where
  pub implements : Implements (row (choice_of (label_of n r))) s.core r t.core
  pub picks : PicksFirst (preference s) (row (choice_of (label_of n r))) (label_of n r) s.core r t.core
  pub running : running_of t ≡ runs_after n r
  pub stays : StaysAfter r s t
  pub works : NamesTold s t

-- the rule of an op as a host has it done, and that of the op at the thread's place
abbrev pub scripted_rule_of : Component → Op → Core → ℕ → Choice → Progress
scripted_rule_of c o s n ch = op_rule SomeHost c n s ch o

abbrev pub op_rule_at : Component → Core → ℕ → Choice → Progress
op_rule_at c s n ch = scripted_rule_of c (op_of c n s) s n ch

-- the host that the op at the thread's place polls first; None: none
abbrev pub polled_here : Component → ℕ → Core → Option HostDef
polled_here c n s = polled_host c (op_progress_of n s) (op_of c n s)

-- the running thread did its rule
abbrev pub Did : (ℕ → Choice → Progress) → StateView → OpResult → StateView → Type 0
Did row s r t = IfSome (running_of s) (λ n. Does (row n) n s r t)

-- unless it is out of memory
abbrev pub MayDo : {E : Type 0} → (ℕ → Choice → Progress) → StateView → Result OpResult E → StateView → Type 0
MayDo row s r t = IfOk r (λ done. Did row s done t)

-- It did its rule, and what that resulted in is answered. Only one that takes memory answers that it is out of memory, and then nothing
-- is changed.
abbrev pub Answers : {A : Type 0} → (takes : Bool) → (ℕ → Choice → Progress) → (OpAnswer → A) → StateView → Result (Step A) TaskError →
    StateView → Type 0
Answers takes row f s (Err task_error.NoMemory) t = (takes ≡ true) × (t ≡ s)
Answers takes row f s a t = (r : OpResult) × (Did row s r t × (a ≡ answered f r))

-- so it is of a rule from the core on that it begins with, which takes memory
abbrev pub AnswersMade : {A : Type 0} → (Core → ℕ → Choice → Progress) → (OpAnswer → A) → StateView → Result (Step A) TaskError →
    StateView → Type 0
AnswersMade row f s a t = Answers true (row s.core) f s a t

-- the op was done in place of the one at the thread's place
abbrev pub AnswersOp : {A : Type 0} → Component → Op → (OpAnswer → A) → StateView → Result (Step A) TaskError → StateView → Type 0
AnswersOp c o f s a t = Answers (takes_memory o) (scripted_rule_of c o s.core) f s a t

-- the op at the running thread's place may take memory
abbrev pub takes_here : Component → StateView → Bool
takes_here c s = option_map_or (λ n. takes_memory (op_of c n s.core)) (running_of s) false

-- and that op was done
abbrev pub AnswersHere : {A : Type 0} → Component → (OpAnswer → A) → StateView → Result (Step A) TaskError → StateView → Type 0
AnswersHere c f s a t = Answers (takes_here c s) (op_rule_at c s.core) f s a t

-- ---- Order

-- the turn in which the thread runs, or that of main where none does
abbrev pub turn_for : Option ℕ → Turn
turn_for None = turn.Main
turn_for (Some n) = turn.Run n

abbrev pub turn_in : StateView → Turn
turn_in s = turn_for (running_of s)

-- order in which each thread has this op, whatever main's part is; and the component's instances are there, with their tables of handles
pub record CoreInOrderAs (ops : ℕ → Op) (c : Component) (p : Turn) (s : Core) : Type 0 where
  pub order : (m : Main) → InOrderAs ops c (state_at s m p)
  pub there : HasInstances c s
  pub handles : HasHandles c s

-- ---- Ops that don't pause

-- an op that is done at once, or refused
abbrev pub is_at_once : Op → Bool
is_at_once (op.Task task_op.TaskCancel) = true
is_at_once (op.Task task_op.BpInc) = true
is_at_once (op.Task task_op.BpDec) = true
is_at_once (op.Set (set_op.Wait r x)) = false
is_at_once (op.Set o) = true
is_at_once (op.Call (call_op.Drop x)) = true
is_at_once (op.Thread (thread_op.New r x v)) = true
is_at_once (op.Thread (thread_op.Index r)) = true
is_at_once (op.Thread (thread_op.ResumeLater x)) = true
is_at_once _ = false

-- an op that names neither an export nor a host
abbrev pub is_apart : Op → Bool
is_apart (op.Task o) = true
is_apart (op.Set o) = true
is_apart (op.Call (call_op.Cancel r x)) = true
is_apart (op.Call (call_op.CancelSync r x)) = true
is_apart (op.Call (call_op.Drop x)) = true
is_apart (op.Thread o) = true
is_apart _ = false
