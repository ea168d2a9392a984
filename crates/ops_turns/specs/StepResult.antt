-- A step whose label is in the trace.
use Rattle.run_trace.specs.Traced.{Traced}
use Rattle.std.specs.Prelude.{Bool, List, None, Option, Some, [], false, is_none, true, ℕ, ◌+◌, ◌++◌, ◌≡◌, ◌≤◌, ◌∷◌}
use Rattle.ops_dispatch.specs.Fits.{calls_host}
use Rattle.ops_dispatch.specs.Polls.{polled_host}
use Rattle.machine_data.specs.Read.{op_progress_of}
use Rattle.machine_data.specs.declared.component.Component.{Component}
use Rattle.machine_data.specs.declared.component.HostDef.{HostDef}
use Rattle.machine_data.specs.declared.label.Label.{Label}
use Rattle.machine_data.specs.declared.op.DataOp.{DataOp}
use Rattle.machine_data.specs.declared.op.Op.{Op}
use Rattle.machine_data.specs.declared.op.Op.TheVariants as op
use Rattle.machine_data.specs.declared.op.TaskOp.TheVariants as task_op
use Rattle.machine_data.specs.declared.records.Turn.{Turn}
use Rattle.machine_data.specs.declared.records.Turn.TheVariants as turn
use Rattle.machine_data.specs.declared.statuses.HostPoll.{HostPoll}
use Rattle.machine_data.specs.declared.statuses.Mark.{Mark}
use Rattle.ops_guests.specs.OpResult.{Implements, PicksFirst}
use Rattle.ops_guests.specs.Stays.{StaysAfter}
use Rattle.ops_guests.specs.Steps.{core_after, label_of, turn_after}
use Rattle.ops_guests.specs.declared.op_result.OpResult.{OpResult}
use Rattle.machine_rules.specs.Outcome.{outcome_of_label}
use Rattle.machine_rules.specs.Progress.{Progress}
use Rattle.machine_rules.specs.Scripts.{op_of}
use Rattle.task_table.specs.declared.id.TableId.{TableId}
use Rattle.ops_turns.specs.Ran.{WantsFor, WorkMade, host_polled, scripted_rule_of}
use Rattle.ops_turns.specs.Taken.{taking_rule}
use Rattle.ops_turns.specs.Turn.{MakesFree, Took, TurnedBeside, is_going, is_open, running_of, runs_in}
use Rattle.ops_turns.specs.declared.made.MadeStep.{MadeStep}
use Rattle.ops_turns.specs.declared.made.StepResult.{StepResult}
use Rattle.ops_turns.specs.declared.made.StepResult.TheVariants as stepped
use Rattle.task_wait.specs.declared.keys.HostTaskKey.{HostTaskKey}
use Rattle.task_wait.specs.declared.keys.ThreadKey.{ThreadKey}
use Rattle.core_primitives.specs.Preferences.{preference}
use Rattle.core_primitives.specs.StateView.{StateView, thread_of, with_current}

-- whose turn it is then
abbrev pub turn_of : StepResult → Turn
turn_of stepped.Main = turn.Main
turn_of (stepped.Polls n) = turn.Futures n
turn_of stepped.Takes = turn.Take false
turn_of stepped.TakesEnded = turn.Take true
turn_of (stepped.Runs n) = turn.Run n
turn_of (stepped.Computes n) = turn.Run n
turn_of _ = turn.Over

-- a step was made, and told
abbrev pub is_made : StepResult → Bool
is_made stepped.Nothing = false
is_made stepped.Full = false
is_made stepped.HookFailed = false
is_made _ = true

-- What is so by what a step results in: it was made, none was to be made, it is out of memory, or the hook failed.
pub record MatchStep (Made Nothing Full Failed : Type 0) (q : StepResult) : Type 0 where
  pub made : is_made q ≡ true → Made
  pub nothing : q ≡ stepped.Nothing → Nothing
  pub full : q ≡ stepped.Full → Full
  pub failed : q ≡ stepped.HookFailed → Failed

-- it is out of memory, and no label was added
abbrev pub IsFull : StepResult → (before after : List Label) → Type 0
IsFull q before after = (q ≡ stepped.Full) × (after ≡ before)

-- The label of the step was added, and it is told whose turn it is then.
abbrev pub IsInTrace : StepResult → List Label → MadeStep → List Label → Type 0
IsInTrace stepped before made after = (after ≡ before ++ made.label ∷ []) × (made.turn ≡ turn_of stepped)

-- Such a step was made as this says of it.
abbrev pub Added : (MadeStep → Type 0) → StepResult → List Label → List Label → Type 0
Added P stepped before after = (made : MadeStep) × (IsInTrace stepped before made after × P made)

-- A step was made and its label added; or none was to be made; or it is out of memory. Then no label was added.
abbrev pub AddedOrNone : (Option MadeStep → Type 0) → StepResult → List Label → List Label → Type 0
AddedOrNone P stepped before after =
    MatchStep (Added (λ made. P (Some made)) stepped before after) (P None × (after ≡ before)) (after ≡ before) ⊥ stepped

-- The trace has room for at most one label less than before; and it is as before, if no step was made.
pub record TakesRoom (q : StepResult) (before after : Traced) : Type 0 where
  pub most : before.spare ≤ after.spare + 1
  pub unmade : is_made q ≡ false → after ≡ before

-- what an op of the thread shows that resulted in this
abbrev pub made_by : ℕ → OpResult → MadeStep
made_by n r = record { label = label_of n r; turn = turn_after r }

-- What the op resulted in is in the trace, and the strand is gone where it trapped.
pub record Shown (id : TableId ThreadKey) (r : OpResult) (s : StateView) (before : List Label) (stepped : StepResult) (t : StateView)
    (after : List Label) : Type 0 where
  pub in_trace : IsInTrace stepped before (made_by (thread_of s id) r) after
  pub core : t.core ≡ core_after (thread_of s id) r s.core
  pub running : running_of t ≡ runs_in (turn_after r)
  pub tags : is_going r ≡ true → t.tags ≡ s.tags
  pub over : is_none (outcome_of_label (label_of (thread_of s id) r)) ≡ is_open (turn_after r)

-- The op of the thread resulted in what its rule says, and what it shows is in the trace.
pub record RuleShown (row : OpResult → Progress) (id : TableId ThreadKey) (s : StateView) (before : List Label) (stepped : StepResult)
    (t : StateView) (after : List Label) : Type 0 where
  pub op_result : OpResult
  pub left : StateView
  pub implements : Implements (row op_result) s.core op_result left.core
  pub picks : PicksFirst (preference s) (row op_result) (label_of (thread_of s id) op_result) s.core op_result left.core
  pub stays : StaysAfter op_result s left
  pub shown : Shown id op_result left before stepped t after

-- so it is of an op of the thread's script
abbrev pub OpShown : Component → Op → TableId ThreadKey → StateView → List Label → StepResult → StateView → List Label → Type 0
OpShown c o id s before stepped t after = RuleShown (scripted_rule_of c o id s) id s before stepped t after

-- of one on registers and memory cells
abbrev pub DataShown : Component → DataOp → TableId ThreadKey → StateView → List Label → StepResult → StateView → List Label → Type 0
DataShown c o id s before stepped t after = OpShown c (op.Data o) id s before stepped t after

-- and of its exit, whatever the component is
abbrev pub ExitShown : TableId ThreadKey → StateView → List Label → StepResult → StateView → List Label → Type 0
ExitShown id s before stepped t after = (c : Component) → OpShown c (op.Task task_op.Exit) id s before stepped t after

-- and of the taking of its entry from this mark
abbrev pub TakingShown : Mark → TableId ThreadKey → StateView → List Label → StepResult → StateView → List Label → Type 0
TakingShown mark id s before stepped t after =
    RuleShown (taking_rule mark (thread_of s id) s.core) id (with_current (Some id) s) before stepped t after

-- An entry was taken, and what that shows is in the trace; or nothing is there.
abbrev pub TookShown : Component → (ended : Bool) → StateView → List Label → StepResult → StateView → List Label → Type 0
TookShown c ended s before q t after = AddedOrNone (λ made. Took c ended s made t) q before after

-- The next entry was taken in this turn, or it was seen that nothing is there.
abbrev pub TakesBeside : Component → (trap_on_idle ended : Bool) → StateView → StepResult → StateView → (before after : List Label) →
    Type 0
TakesBeside c b ended s q t before after = AddedOrNone (λ made. TurnedBeside c b (turn.Take ended) s made t) q before after

-- A step whose label is still to be added.
pub record RuleRan (row : OpResult → Progress) (id : TableId ThreadKey) (s : StateView) (made : MadeStep) (t : StateView) : Type 0 where
  pub op_result : OpResult
  pub left : StateView
  pub implements : Implements (row op_result) s.core op_result left.core
  pub picks : PicksFirst (preference s) (row op_result) made.label s.core op_result left.core
  pub stays : StaysAfter op_result s left
  pub label : made.label ≡ label_of (thread_of left id) op_result
  pub turn : made.turn ≡ turn_after op_result
  pub core : t.core ≡ core_after (thread_of left id) op_result left.core
  pub running : running_of t ≡ runs_in made.turn
  pub over : is_none (outcome_of_label made.label) ≡ is_open made.turn

-- All is as before, and the op at the thread's place calls a host.
abbrev pub CallsHost : Component → ℕ → StateView → StateView → Type 0
CallsHost c n s t = (t ≡ s) × (calls_host (op_of c n s.core) ≡ true)

-- An op of the thread's script was done, and what it shows is in the trace. Or it calls a host, and nothing is changed; or it wants memory
-- that isn't there, and all is as before. Then no label was added.
abbrev pub OpStep : Component → Op → TableId ThreadKey → StateView → List Label → StepResult → StateView → List Label → Type 0
OpStep c o id s before stepped t after =
    MatchStep (OpShown c o id s before stepped t after) ((t ≡ s) × (after ≡ before)) (WantsFor o s t × (after ≡ before)) ⊥ stepped

-- An op polls this host first if it calls one, and isn't done; else it polls none.
abbrev pub StepPolls : Option HostDef → Op → StepResult → Type 0
StepPolls host o stepped = MatchStep (host ≡ None) (calls_host o ≡ true) (Unit {0}) ⊥ stepped

-- the host that the op polls which the thread is to do
abbrev pub OpPolls : Component → Op → TableId ThreadKey → StateView → StepResult → Type 0
OpPolls c o id s q = StepPolls (polled_host c (op_progress_of (thread_of s id) s.core) o) o q

-- The running thread made a step, and polled no host; or its op calls one, and nothing was made.
abbrev pub RunMade : Component → ℕ → StateView → Option MadeStep → StateView → Type 0
RunMade c n s None t = CallsHost c n s t
RunMade c n s (Some made) t = MakesFree c (turn.Run n) s made t × (host_polled c n s.core ≡ None)

abbrev pub RunStepped : Component → ℕ → StateView → StepResult → StateView → (before after : List Label) → Type 0
RunStepped c n s q t before after = AddedOrNone (λ made. RunMade c n s made t) q before after

-- Its op called a host, which has answered so: the step was made, whose label is still to be added, and this work.
abbrev pub CallStepped : HostPoll → Component → ℕ → StateView → MadeStep × Option (TableId HostTaskKey) → StateView → Type 0
CallStepped answer c n s q t = MakesFree c (turn.Run n) s q.0 t × WorkMade answer (host_polled c n s.core) q.1 s t
