-- What a call on a run asks, and what it gives.
use Rattle.store_notices.specs.Moves.{finishes}
use Rattle.run_trace.specs.YieldBudget.{is_unyielded, since_after, since_driven}
use Rattle.run_trace.specs.declared.yield_budget.YieldBudget.{YieldBudget}
use Rattle.ops_state.specs.declared.error.TaskError.{TaskError}
use Rattle.ops_state.specs.declared.error.TaskError.TheVariants as task_error
use Rattle.std.specs.Prelude.{Bool, Err, List, None, Ok, Result, Some, [], false, is_some, length, not, true, ℕ, ◌&&◌, ◌*◌, ◌++◌, ◌+◌, ◌<◌, ◌==◌, ◌∷◌, ◌≡◌, ◌≤◌, ◌^◌, ◌⊎◌}
use Rattle.task_group.specs.Listeners.{AnsweredErr, Listeners, ToldListeners, errors_of}
use Rattle.task_loop.specs.AnswersOk.{is_refused}
use Rattle.task_loop.specs.Hooked.{FailsMain, StopsTurn, TellsInPart}
use Rattle.task_loop.specs.Ran.{DoesStep, Ran}
use Rattle.task_loop.specs.RunPolls.{is_yielded, may_poll, poll_answer, rests_last, since_left, since_left_by, stop_answer}
use Rattle.task_loop.specs.Says.{Says}
use Rattle.task_loop.specs.Constants.{constants}
use Rattle.task_loop.specs.Told.{StartFails, TellsSome, TurnTold, group_running, main_notices, turn_of}
use Rattle.task_loop.specs.declared.poll_methods.RunPoll.{RunPoll}
use Rattle.task_loop.specs.declared.run.Halt.{Halt}
use Rattle.task_loop.specs.declared.run.Halt.TheVariants as halt
use Rattle.task_loop.specs.declared.run.RunConcurrent.{RunConcurrent}
use Rattle.task_loop.specs.declared.run.Stop.{Stop}
use Rattle.task_loop.specs.declared.run.Stop.TheVariants as stop
use Rattle.machine_data.specs.Core.{Core, State}
use Rattle.machine_rules.specs.Scripts.{op_of}
use Rattle.ops_dispatch.specs.Fits.{calls_host}
use Rattle.ops_dispatch.specs.Makes.{takes_memory}
use Rattle.ops_turns.specs.Taken.{StartsNext}
use Rattle.run_trace.specs.Traced.{Traced}
use Rattle.machine_data.specs.Write.{set_trapped}
use Rattle.machine_data.specs.declared.component.Component.{Component}
use Rattle.machine_data.specs.declared.component.HostDef.{HostDef}
use Rattle.machine_data.specs.declared.label.Label.{Label}
use Rattle.machine_data.specs.declared.memory.NoMemory.{NoMemory}
use Rattle.machine_data.specs.declared.outcome.Outcome.{Outcome}
use Rattle.machine_data.specs.declared.outcome.Outcome.TheVariants as outcome
use Rattle.machine_data.specs.declared.records.Turn.{Turn}
use Rattle.machine_data.specs.declared.records.Turn.TheVariants as turn
use Rattle.machine_data.specs.declared.trap.Trap.TheVariants as trap
use Rattle.machine_rules.specs.Outcome.{IsOutcome, last_outcome}
use Rattle.machine_rules.specs.Stalled.{Setting}
use Rattle.machine_rules.specs.Step.{Step}
use Rattle.task_store.specs.Hosts.{HoldsHosts}
use Rattle.task_store.specs.declared.store.Store.{Store}
use Rattle.ops_turns.specs.Does.{label_of_step, step_of, step_shown}
use Rattle.laws_labels.specs.Own.{is_main_turn}
use Rattle.ops_turns.specs.Later.{TracksSame}
use Rattle.ops_turns.specs.Main.{Steps}
use Rattle.ops_turns.specs.StepResult.{AddedOrNone, MatchStep, is_made}
use Rattle.ops_turns.specs.Turn.{IsSettled, PendsIn, CoreInOrder, given, goes_on, is_open, running_of, runs_in, setting_of, state_at}
use Rattle.ops_turns.specs.WellFormed.{IsWellFormed}
use Rattle.ops_turns.specs.declared.mains.MainStep.{MainStep}
use Rattle.ops_turns.specs.declared.made.StepResult.{StepResult}
use Rattle.core_primitives.specs.Groups.{IsAsked, asked}
use Rattle.core_primitives.specs.StateView.{StateView, on_core}

-- Where a run is before a call or after it: whose turn it is, what the idle line says, main, the store, and the labels so far.
pub record At (M T H G : Type 0) : Type 0 where
  pub turn : Turn
  pub idle : Bool
  pub main : M
  pub store : Store T H G
  pub trace : List Label

abbrev pub at : {M T H G : Type 0} → RunConcurrent → M → Store T H G → List Label → At M T H G
at run main store trace = record { turn = turn_of run.last; idle = run.trap_on_idle; main = main; store = store; trace = trace }

-- a run at main's turn, with this idle line
abbrev pub at_main : {M T H G : Type 0} → (idle : Bool) → M → Store T H G → List Label → At M T H G
at_main idle main store trace = record { turn = turn.Main; idle = idle; main = main; store = store; trace = trace }

-- The step of this turn may want memory: it is main's, a start's, or does an op that may take some.
abbrev pub MayWant : Component → Turn → Core → Type 0
MayWant c turn.Main s = Unit {0}
MayWant c (turn.Take ended) s = StartsNext s
MayWant c (turn.Run n) s = takes_memory (op_of c n s) ≡ true
MayWant c _ s = ⊥

-- one that isn't made may change the state all the same: it is main's, takes an entry, or calls a host
abbrev pub may_change : Component → Turn → Core → Bool
may_change c turn.Main s = true
may_change c (turn.Take ended) s = true
may_change c (turn.Run n) s = calls_host (op_of c n s)
may_change c _ s = false

-- What stays whatever a call results in.
pub record Keeps {M T H G : Type 0} (says : Says M) (a b : At M T H G) : Type 0 where
  pub script : says.script b.main ≡ says.script a.main
  pub idle : b.idle ≡ a.idle
  pub constants : constants b.store ≡ constants a.store

module _ {M T H G : Type 0} (says : Says M) (course : H → HostDef) (c : Component) where
  abbrev pub setting : At M T H G → Setting
  setting a = setting_of c (says.script a.main) a.idle

  -- the machine's state there
  abbrev pub state : At M T H G → State
  state a = state_at a.store.state.core (says.part a.main) a.turn

  -- how many numbers were given
  abbrev pub numbers : At M T H G → ℕ
  numbers a = given a.store.state.core

  -- Main and the store are such that the loop may take a turn.
  pub record MayTakeTurn (x : Setting) (a : At M T H G) : Type 0 where
    -- the core is in order at this turn
    pub order : CoreInOrder c a.turn a.store.state.core
    -- the moves that show no label are made
    pub settled : IsSettled a.store.state.core a.turn
    -- the thread of the turn runs, or none
    pub running : running_of a.store.state ≡ runs_in a.turn
    -- if main has pended, its op pends still
    pub pends : PendsIn x a.store.state.core (says.part a.main) a.turn
    -- the component suits main, and what main knows of the store is so
    pub suits : says.suits a.main c
    pub knows : says.knows a.main a.store.state
    -- the store holds the works of its hosts
    pub works : HoldsHosts course a.store
    -- each group that has ended was told of
    pub asked : IsAsked a.store.state

  -- What a call on a run asks.
  pub record MayRun (a : At M T H G) : Type 0 where
    pub covered : IsWellFormed c
    pub may_turn : MayTakeTurn (setting a) a
    -- the run isn't over
    pub unfinished : is_open a.turn ≡ true
    pub few : numbers a ≤ 2 ^ 60

  -- ---- A step of main

  -- What a step of main asks: main's op may be done in the store, in which no thread runs.
  pub record MayStep (m : M) (s : Store T H G) : Type 0 where
    pub covered : IsWellFormed c
    pub order : CoreInOrder c turn.Main s.state.core
    pub idle : running_of s.state ≡ None
    pub suits : says.suits m c
    pub knows : says.knows m s.state
    pub works : HoldsHosts course s
    pub asked : IsAsked s.state
    pub few : given s.state.core + 4 < 2 ^ 61

  -- Main did this step, and main and the store are such that the loop goes on.
  pub record HasStepResult (step : MainStep) (m : M) (s : Store T H G) (n : M) (t : Store T H G) : Type 0 where
    -- it is lawful, and main's part and the core are as it leaves them
    pub steps : Steps c (says.script m) (says.part m) s.state.core step (says.part n) t.state.core
    pub does : says.does m s.state.core step n t.state.core
    -- its notices were told, and the hook answered no error but to a refused start
    pub told : ToldListeners (main_notices step s.state.core t.state.core) s.listeners t.listeners
    pub hook_is_ok : is_refused (label_of_step step) ≡ false → errors_of t.listeners ≡ errors_of s.listeners
    pub idle : running_of t.state ≡ running_of s.state
    pub suits : says.suits n c
    pub knows : says.knows n t.state
    pub works : HoldsHosts course t
    pub asked : IsAsked t.state

  -- It is out of memory, or the hook failed, where it isn't done.
  abbrev pub StepsTo : Result MainStep TaskError → (m : M) (s : Store T H G) (n : M) (t : Store T H G) → Type 0
  StepsTo (Ok step) m s n t = HasStepResult step m s n t
  StepsTo (Err e) m s n t = FailsMain course e m n s t

  -- ---- A turn

  -- What a turn asks. The thread that runs is of this group, if one runs.
  pub record MayTurn (running : ℕ) (a : At M T H G) : Type 0 where
    pub covered : IsWellFormed c
    pub may_turn : MayTakeTurn (setting a) a
    pub unfinished : is_open a.turn ≡ true
    pub few : numbers a + 4 < 2 ^ 61
    pub group : running ≡ group_running a.store.state a.turn

  -- A step was made, or none if nothing can go on. The run is where it was, but for whose turn it is.
  pub record HasTurned (q : StepResult) (running : ℕ) (a b : At M T H G) : Type 0 where
    pub turn : b.turn ≡ a.turn
    -- it is a step of the machine, and its notices were told
    pub told :
        AddedOrNone
        (λ made.
        TurnTold (setting a) a.turn (says.part a.main) a.store.state a.store.listeners made (says.part b.main) b.store.state b.store.listeners)
        q a.trace b.trace
    -- main did what it shows
    pub did : AddedOrNone (λ made. DoesStep says.does a.main a.store.state.core (step_of made) b.main b.store.state.core) q a.trace b.trace
    -- the thread that runs then is of this group
    pub group : is_made q ≡ true → running ≡ group_running b.store.state (turn_of q)
    pub suits : says.suits b.main c
    pub knows : says.knows b.main b.store.state
    pub works : HoldsHosts course b.store
    pub asked : IsAsked b.store.state

  -- The hook answered an error in the turn, in which main did nothing.
  pub record FailsTurn (a b : At M T H G) : Type 0 where
    pub stops :
        StopsTurn (setting a) a.turn (says.part a.main) a.store.state a.trace b.trace a.store.listeners b.store.listeners (says.part b.main)
        b.store.state
    pub main : b.main ≡ a.main
    pub knows : says.knows b.main b.store.state
    pub works : HoldsHosts course b.store

  -- It is out of memory in the turn, whose step may want some: no label was added. Only main may have done something then, and told some
  -- notices.
  pub record LacksTurn (a b : At M T H G) : Type 0 where
    pub trace : b.trace ≡ a.trace
    pub wants : MayWant c a.turn a.store.state.core
    pub image : may_change c a.turn a.store.state.core ≡ false → b.store.state.core ≡ a.store.state.core
    pub main : is_main_turn a.turn ≡ false → b.main ≡ a.main
    pub untold : is_main_turn a.turn ≡ false → b.store.listeners ≡ a.store.listeners
    pub told : TellsSome a.store.listeners b.store.listeners
    -- the groups that are tracked
    pub groups : is_main_turn a.turn ≡ false → TracksSame a.store.state b.store.state

  -- The trace had no room for the label of the turn, and nothing was done.
  pub record HasNoRoom (room : ℕ) (a b : At M T H G) : Type 0 where
    pub none : room ≡ 0
    pub same : b ≡ a

  -- in each case
  abbrev pub TurnsTo : StepResult → (running : ℕ) → (a b : At M T H G) → Type 0
  TurnsTo q running a b = MatchStep (HasTurned q running a b) (HasTurned q running a b) (LacksTurn a b) (FailsTurn a b) q

  -- so it is of main's turn, whatever the idle line is
  abbrev pub MainTurned : StepResult → (m : M) (s : Store T H G) (before : Traced) (n : M) (t : Store T H G) (after : Traced) → Type 0
  MainTurned q m s before n t after = (idle : Bool) → TurnsTo q 0 (at_main idle m s before.labels) (at_main idle n t after.labels)

  -- ---- What a call gives

  -- the run of a call from a to b
  abbrev pub RanTo : (a b : At M T H G) → Type 0
  RanTo a b =
      Ran says.does (setting a) (state a) a.main a.trace a.store.listeners (state b) b.main b.trace b.store.listeners

  -- ---- It has resulted in an answer

  -- A run of at most so many labels was added, and the loop could go on.
  pub record HasRun (steps : ℕ) (a b : At M T H G) : Type 0 where
    pub ran : RanTo a b
    pub few : length ran.added ≤ steps
    pub may_turn : MayTakeTurn (setting a) b
    -- at most two numbers were given for each label
    pub numbers : numbers b ≤ numbers a + 2 * steps

  -- The turns were taken up to this outcome.
  pub record HasGone (steps : ℕ) (o : Outcome) (a b : At M T H G) : Type 0 where
    pub has : HasRun steps a b
    pub outcome : IsOutcome (setting a) (state b) has.ran.added steps o
    pub unfinished : is_open b.turn ≡ goes_on o

  -- The run was driven up to this outcome.
  pub record HasDriven (steps : ℕ) (o : Outcome) (yield_budget : YieldBudget) (a b : At M T H G) (yield_budget' : YieldBudget) : Type 0 where
    pub gone : HasGone steps o a b
    -- if it is idle, the entries count for the next poll that were taken since it last yielded
    pub since : yield_budget'.since ≡ since_left_by o (since_driven yield_budget.passes yield_budget.since gone.has.ran.added)
    pub passes_on : yield_budget'.passes ≡ false

  -- The run was polled up to the first place at which there is an answer, which is this.
  pub record HasPolled (steps : ℕ) (r : Result RunPoll TaskError) (yield_budget : YieldBudget) (a b : At M T H G) (yield_budget' : YieldBudget) : Type 0 where
    pub has : HasRun steps a b
    pub answers : poll_answer (setting a) (state b) yield_budget.passes yield_budget.since has.ran.added steps ≡ Some r
    pub unyielded : is_unyielded yield_budget.passes yield_budget.since has.ran.added ≡ true
    pub unrested : rests_last has.ran.added ≡ true
    pub unfinished : is_open b.turn ≡ may_poll r
    pub since : yield_budget'.since ≡ since_left r (since_after yield_budget.since has.ran.added)
    -- it passes on next if it has yielded before an entry
    pub passes_on : yield_budget'.passes ≡ (is_yielded r && not (length has.ran.added == steps))

  -- ---- It is out of memory

  -- A run of fewer labels was added, up to a turn that isn't made: the trace has no room for its label, which had so much, or its step
  -- may want memory. Main, the listeners and the groups that are tracked are as that run left them, unless the turn is main's: then main
  -- may have done something and told some notices. So is the state, unless that step may change it all the same.
  pub record IsLost (steps room : ℕ) (a : At M T H G) (n : M) (after : List Label) (listeners : Listeners) (left : StateView) : Type 0 where
    pub last : State
    pub main : M
    pub between : Listeners
    pub ran : Ran says.does (setting a) (state a) a.main a.trace a.store.listeners last main after between
    pub few : length ran.added < steps
    pub going_on : last_outcome ran.added ≡ None
    pub wants : (room ≤ length ran.added) ⊎ MayWant c last.turn last.core
    pub image : may_change c last.turn last.core ≡ false → left.core ≡ last.core
    pub same : is_main_turn last.turn ≡ false → n ≡ main
    pub untold : is_main_turn last.turn ≡ false → listeners ≡ between
    pub told : TellsSome between listeners
    pub groups : is_main_turn last.turn ≡ false → left.tags.tracked ≡ last.core.groups

  -- So it was. Then the store was trapped, and the groups that were tracked were told that they finish.
  pub record HasLost (steps : ℕ) (a b : At M T H G) : Type 0 where
    pub listeners : Listeners
    pub left : StateView
    -- for so many labels the trace had room
    pub room : ℕ
    pub lost : IsLost steps room a b.main b.trace listeners left
    pub finishes : ToldListeners (finishes left.tags.tracked) listeners b.store.listeners
    pub trapped : b.store.state ≡ asked (on_core set_trapped left)

  -- ---- The hook failed

  -- It answered an error to a start of main, which changed nothing but that the store is trapped.
  pub record StopsAtStart (a : At M T H G) (n : M) (after mid : List Label) (last : State) (between : Listeners) (left : StateView)
      (listeners : Listeners) : Type 0 where
    pub before : StateView
    pub main : last ≡ state_at before.core (says.part n) turn.Main
    pub trace : after ≡ mid
    pub same : left ≡ asked (on_core set_trapped before)
    pub fails : StartFails before.core between listeners

  -- It answered an error as it was told of one more step, which was made and is none of main.
  pub record StopsAtStep (a : At M T H G) (n : M) (after mid : List Label) (last : State) (between : Listeners) (left : StateView)
      (listeners : Listeners) : Type 0 where
    pub label : Label
    pub turn : Turn
    pub trace : after ≡ mid ++ label ∷ []
    pub step : Step (setting a) last label (state_at left.core (says.part n) turn)
    pub other : step_shown label ≡ None
    pub told : TellsInPart last.core last.turn left between listeners
    pub order : CoreInOrder c turn left.core
    pub running : running_of left ≡ runs_in turn

  -- A run was added without an error of the hook, and then it answered one, which left the state and the listeners so. Main is as the step
  -- left it, or as it was before the start.
  pub record HasStopped (steps : ℕ) (a : At M T H G) (n : M) (after : List Label) (left : StateView) (listeners : Listeners) : Type 0 where
    pub mid : List Label
    pub last : State
    pub between : Listeners
    pub ran : Ran says.does (setting a) (state a) a.main a.trace a.store.listeners last n mid between
    pub few : length after ≤ length a.trace + steps
    pub stops : StopsAtStart a n after mid last between left listeners ⊎ StopsAtStep a n after mid last between left listeners
    pub answered : AnsweredErr a.store.listeners listeners
    pub hook : is_some listeners.hook ≡ is_some a.store.listeners.hook
    pub suits : says.suits n c

  -- So it stopped. Then the store was trapped, the groups that were tracked were told that they finish, and the run is over.
  pub record HasFailed (steps : ℕ) (a b : At M T H G) : Type 0 where
    pub left : StateView
    pub listeners : Listeners
    pub stopped : HasStopped steps a b.main b.trace left listeners
    pub trapped : b.store.state ≡ asked (on_core set_trapped left)
    pub finishes : ToldListeners (finishes left.tags.tracked) listeners b.store.listeners
    pub knows : says.knows b.main b.store.state
    pub works : HoldsHosts course b.store
    pub over : b.turn ≡ turn.Over

  -- ---- Where the turns stop

  -- The turns were taken by a policy, which stops them before the run does or never does.
  abbrev pub GoesTo : (yields : Bool) → ℕ → Stop → (yield_budget : YieldBudget) → (a b : At M T H G) → (yield_budget' : YieldBudget) → Type 0
  GoesTo false steps (stop.Ends o) yield_budget a b yield_budget' = HasGone steps o a b
  GoesTo false steps _ yield_budget a b yield_budget' = ⊥
  GoesTo true steps stopped yield_budget a b yield_budget' = HasPolled steps (stop_answer stopped) yield_budget a b yield_budget'

  -- the hook failed in them
  abbrev pub IsStopped : ℕ → (a b : At M T H G) → Type 0
  IsStopped steps a b =
      HasStopped steps a b.main b.trace b.store.state b.store.listeners × (says.knows b.main b.store.state × HoldsHosts course b.store)

  -- ---- What the calls result in. The hook fails only if its type is one that listens.

  abbrev pub DrivesTo : (listens : Bool) → ℕ → Result Outcome NoMemory → (yield_budget : YieldBudget) → (a b : At M T H G) → (yield_budget' : YieldBudget) → Type 0
  DrivesTo false steps (Ok o) yield_budget a b yield_budget' = HasDriven steps o yield_budget a b yield_budget'
  DrivesTo true steps (Ok (outcome.Trap trap.HookFailed)) yield_budget a b yield_budget' = HasFailed steps a b
  DrivesTo true steps (Ok o) yield_budget a b yield_budget' = HasDriven steps o yield_budget a b yield_budget'
  DrivesTo listens steps (Err e) yield_budget a b yield_budget' = HasLost steps a b × (yield_budget' ≡ yield_budget)

  abbrev pub PollsTo : (listens : Bool) → ℕ → Result RunPoll TaskError → (yield_budget : YieldBudget) → (a b : At M T H G) → (yield_budget' : YieldBudget) → Type 0
  PollsTo listens steps (Err task_error.NoMemory) yield_budget a b yield_budget' = HasLost steps a b
  PollsTo true steps (Err (task_error.Trap trap.HookFailed)) yield_budget a b yield_budget' = HasFailed steps a b
  PollsTo listens steps r yield_budget a b yield_budget' = HasPolled steps r yield_budget a b yield_budget'

  -- ---- The same, from what a call has at hand: the run, main, the store and the trace, as they were and as they are

  abbrev pub DriveGives : (listens : Bool) → ℕ → Result Outcome NoMemory → RunConcurrent → M → Store T H G → List Label →
      RunConcurrent → M → Store T H G → List Label → Type 0
  DriveGives listens steps r run m s before run' n t after =
      DrivesTo listens steps r run.yield_budget (at run m s before) (at run' n t after) run'.yield_budget

  abbrev pub PollGives : (listens : Bool) → ℕ → Result RunPoll TaskError → RunConcurrent → M → Store T H G → List Label →
      RunConcurrent → M → Store T H G → List Label → Type 0
  PollGives listens steps r run m s before run' n t after =
      PollsTo listens steps r run.yield_budget (at run m s before) (at run' n t after) run'.yield_budget

  -- of one turn, in which the run is before and after it
  abbrev pub TurnGives : StepResult → (running : ℕ) → RunConcurrent → M → Store T H G → Traced → M → Store T H G → Traced → Type 0
  TurnGives r running run m s before n t after =
      let a = at run m s before.labels in
      let b = at run n t after.labels in
      MatchStep (HasTurned r running a b) (HasTurned r running a b) (LacksTurn a b ⊎ HasNoRoom before.spare a b) (FailsTurn a b) r

  -- of all that the policy lets be taken
  abbrev pub TurnsGive : (yields : Bool) → ℕ → Result Stop Halt → RunConcurrent → M → Store T H G → Traced →
      RunConcurrent → M → Store T H G → Traced → Type 0
  TurnsGive yields steps (Ok q) run m s before run' n t after =
      GoesTo yields steps q run.yield_budget (at run m s before.labels) (at run' n t after.labels) run'.yield_budget
  TurnsGive yields steps (Err halt.NoMemory) run m s before run' n t after =
      IsLost steps before.spare (at run m s before.labels) n after.labels t.listeners t.state
  TurnsGive yields steps (Err halt.HookFailed) run m s before run' n t after =
      IsStopped steps (at run m s before.labels) (at run' n t after.labels)
