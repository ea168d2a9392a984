-- Steps of a run beside other threads, which may abort the works that main has spawned.
use Rattle.laws_beside.specs.Wide.{AbortedAt, RequestedAt, is_running, is_running_spawn}
use Rattle.std.specs.Prelude.{Bool, List, None, Ok, Option, Result, Some, [], Err, cond, false, true, ℕ, ◌+◌, ◌++◌, ◌∷◌, ◌≡◌, ◌≤◌, ◌⊎◌}
use Rattle.run_trace.specs.declared.yield_budget.YieldBudget.{YieldBudget}
use Rattle.task_loop.specs.HasRun.{At, DrivesTo, HasLost, MayRun, MayTakeTurn, at, numbers, setting, state}
use Rattle.task_loop.specs.Says.{Says}
use Rattle.task_loop.specs.declared.run.RunConcurrent.{RunConcurrent}
use Rattle.machine_data.specs.Core.{Core, MainPlace, Scripted}
use Rattle.machine_data.specs.Read.{phase_of}
use Rattle.machine_data.specs.declared.component.Component.{Component}
use Rattle.machine_data.specs.declared.component.HostDef.{HostDef}
use Rattle.machine_data.specs.declared.label.Label.{Label}
use Rattle.machine_data.specs.declared.label.Label.TheVariants as label
use Rattle.machine_data.specs.declared.label.LoopLabel.TheVariants as loop_label
use Rattle.machine_data.specs.declared.label.MainLabel.TheVariants as main_label
use Rattle.machine_data.specs.declared.memory.NoMemory.{NoMemory}
use Rattle.machine_data.specs.declared.outcome.Outcome.{Outcome}
use Rattle.machine_data.specs.declared.outcome.Outcome.TheVariants as outcome
use Rattle.machine_data.specs.declared.records.Turn.{Turn}
use Rattle.machine_data.specs.declared.records.Turn.TheVariants as turn
use Rattle.machine_data.specs.declared.scenario.MainOpDef.TheVariants as main_op
use Rattle.machine_data.specs.declared.statuses.Phase.TheVariants as phase
use Rattle.machine_rules.specs.MainOps.{advanced_main, op_at, spawned_at}
use Rattle.machine_rules.specs.Turns.{settled_turn}
use Rattle.machine_rules.specs.Works.{next_polled, poll_ends}
use Rattle.task_store.specs.Hosts.{HoldsHosts}
use Rattle.task_store.specs.declared.store.Store.{Store}
use Rattle.task_store.specs.Spawned.{IsSpawnedIn}
use Rattle.task_store.specs.declared.spawn.SpawnHandle.{SpawnHandle}
use Rattle.ops_turns.specs.Later.{WorksLast}
use Rattle.ops_turns.specs.Turn.{IsAtTurn, IsFree, CoreInOrder, given, is_open, running_of, runs_in}
use Rattle.core_primitives.specs.Groups.{IsAsked}
use Rattle.core_primitives.specs.StateView.{StateView}

-- ---- What is asked of them

-- a handle that was found of the work that is polled next, a running one
abbrev pub IsFound : ℕ → Bool → SpawnHandle → StateView → Type 0
IsFound number running work s = IsSpawnedIn work s × ((work.number ≡ number) × (running ≡ true))

-- Main has passed its op, which was to abort its spawn k, a running one.
pub record HasPassed {M : Type 0} (says : Says M) (k : ℕ) (m n : M) (s : StateView) : Type 0 where
  pub place : MainPlace
  pub before : says.part m ≡ Scripted place
  pub op : op_at (says.script m) place ≡ Some (main_op.Abort k)
  pub after : says.part n ≡ Scripted (advanced_main (main_op.Abort k) (main_label.Abort phase.AbortRequested k) place)
  pub running : is_running (phase_of (spawned_at place k) s.core) ≡ true
  pub suits : (c : Component) → says.suits m c → says.suits n c
  pub knows : says.knows m s → says.knows n s

-- so it has where it found that; else it is as before
abbrev pub HasFound : {M : Type 0} → Says M → Option ℕ → (m n : M) → StateView → Type 0
HasFound says None m n s = n ≡ m
HasFound says (Some k) m n s = HasPassed says k m n s

-- What was done where this work is polled next, which runs or doesn't for all that the run itself has done, and whether it was found aborted;
-- nothing is where none is.
abbrev pub HasAskedNext : {M B : Type 0} → (ℕ → (running found : Bool) → M → B → B → Type 0) → Core → Option ℕ → M → (a b : B) →
    (found : Bool) → Type 0
HasAskedNext polled s None m a b found = b ≡ a
HasAskedNext polled s (Some i) m a b found = polled i (is_running (phase_of i s)) found m a b

-- what was done in a step at this turn: where the next work is polled, at main's turn, and nothing at another
abbrev pub HasAskedAt : {M B : Type 0} → (ℕ → (running found : Bool) → M → B → B → Type 0) → (M → B → B → Type 0) → Turn → Core → M →
    (a b : B) → (found : Bool) → Type 0
HasAskedAt polled turned turn.Main s m a b found = turned m a b
HasAskedAt polled turned (turn.Futures n) s m a b found = HasAskedNext polled s (next_polled n s) m a b found
HasAskedAt polled turned _ s m a b found = b ≡ a

-- ---- A work that another thread has aborted

-- the handle is that of the live work that is polled next, a running one
abbrev pub IsNextAborted : ℕ → SpawnHandle → StateView → Type 0
IsNextAborted polled work s =
    IsSpawnedIn work s × ((next_polled polled s.core ≡ Some work.number) × (is_running (phase_of work.number s.core) ≡ true))

-- What is asked where it may be found: no thread runs, and the store holds the works of its hosts.
pub record MayMeet {T H G : Type 0} (course : H → HostDef) (c : Component) (p : Turn) (store : Store T H G) : Type 0 where
  pub order : CoreInOrder c p store.state.core
  pub unfinished : is_open p ≡ true
  pub apart : runs_in p ≡ None
  pub idle : running_of store.state ≡ None
  pub hosts : HoldsHosts course store

-- It has ended without a value, and nothing else is changed: this turn is next, and the run may go on in it, whatever main's part is.
pub record HasEndedAborted {T H G : Type 0} (course : H → HostDef) (c : Component) (i : ℕ) (old new : Store T H G) (p : Turn) : Type 0 where
  pub core : new.state.core ≡ poll_ends i None old.state.core
  pub turn : p ≡ settled_turn new.state.core (turn.Take true)
  pub at : IsAtTurn c p new.state
  pub pends : IsFree p
  pub few : given new.state.core ≤ given old.state.core + 2
  pub last : WorksLast old.state new.state
  pub hosts : HoldsHosts course new
  pub asked : IsAsked old.state → IsAsked new.state
  pub listeners : new.listeners ≡ old.listeners

-- it was found, and so the work has ended; or nothing is changed
abbrev pub MetAbort : {T H G : Type 0} → (H → HostDef) → Component → (polled : ℕ) → (old : Store T H G) → (p : Turn) →
    (before : List Label) → (new : Store T H G) → (q : Turn) → (after : List Label) → (met : Bool) → Type 0
MetAbort course c polled old p before new q after true =
    (work : SpawnHandle) × (IsNextAborted polled work old.state × (HasEndedAborted course c work.number old new q
    × (after ≡ before ++ label.Loop (loop_label.FutureAborted work.number) ∷ [])))
MetAbort course c polled old p before new q after false = (new ≡ old) × ((q ≡ p) × (after ≡ before))

-- It is out of memory, and nothing is changed.
abbrev pub IsRunAsBefore : {T H G : Type 0} → RunConcurrent → Store T H G → List Label → RunConcurrent → Store T H G → List Label → Type 0
IsRunAsBefore run s before run' t after = (run' ≡ run) × ((t ≡ s) × (after ≡ before))

abbrev pub polled_label : Bool → ℕ → Label
polled_label found i = cond found (label.Loop (loop_label.FutureAborted i)) (label.Loop (loop_label.FuturePends i))

-- ---- What the calls give

module _ {M T H G : Type 0} (says : Says M) (course : H → HostDef) (c : Component) where
  -- A step that finds what other threads have done was made, and showed this label.
  pub record HasMet (l : Label) (a b : At M T H G) : Type 0 where
    pub step :
        AbortedAt (state says course c a) a.turn l (state says course c b)
        ⊎ RequestedAt (setting says course c a) (state says course c a) a.turn l (state says course c b)
    pub trace : b.trace ≡ a.trace ++ l ∷ []
    pub may_turn : MayTakeTurn says course c (setting says course c a) b
    pub unfinished : is_open b.turn ≡ true
    pub few : numbers says course c b ≤ numbers says course c a + 2
    pub listeners : b.store.listeners ≡ a.store.listeners

  -- whether a step was one that finds what other threads have done, or one of the machine's own
  abbrev pub StepsAs : (found listens : Bool) → Outcome → (yield_budget : YieldBudget) → (a b : At M T H G) → (yield_budget' : YieldBudget) → Type 0
  StepsAs true listens o yield_budget a b yield_budget' =
      (o ≡ outcome.OutOfSteps) × ((l : Label) × (HasMet l a b × (yield_budget' ≡ yield_budget)))
  StepsAs false listens o yield_budget a b yield_budget' = DrivesTo says course c listens 1 (Ok o) yield_budget a b yield_budget'

  -- A step was taken beside other threads, of which this was asked by whether it has found what they have done. If it is out of memory, all
  -- is as before, or the run is lost as that of a drive is.
  abbrev pub StepsBeside : (was_asked : Bool → Type 0) → (listens : Bool) → Result Outcome NoMemory → (yield_budget : YieldBudget) → (a b : At M T H G) →
      (yield_budget' : YieldBudget) → Type 0
  StepsBeside was_asked listens (Ok o) yield_budget a b yield_budget' =
      (found : Bool) × (was_asked found × StepsAs found listens o yield_budget a b yield_budget')
  StepsBeside was_asked listens (Err e) yield_budget a b yield_budget' = ((b ≡ a) × (yield_budget' ≡ yield_budget)) ⊎ HasLost says course c 1 a b

  -- What a poll of the last round asks: no thread runs, and a live work is next.
  pub record MayPollLast (polled : ℕ) (a : At M T H G) : Type 0 where
    pub may : MayRun says course c a
    pub apart : runs_in a.turn ≡ None
    pub number : ℕ
    pub next : next_polled polled a.store.state.core ≡ Some number

  -- It pends, or it was found aborted: then it has ended without a value, and main's turn comes next. This was asked of it, by whether it was.
  pub record HasPolledLast (was_asked : Bool → Type 0) (polled : ℕ) (a b : At M T H G) : Type 0 where
    pub number : ℕ
    pub next : next_polled polled a.store.state.core ≡ Some number
    pub found : Bool
    pub asked : was_asked found
    pub running : found ≡ true → is_running_spawn number a.store.state.core ≡ true
    pub trace : b.trace ≡ a.trace ++ polled_label found number ∷ []
    pub core : b.store.state.core ≡ cond found (poll_ends number None a.store.state.core) a.store.state.core
    pub turn : b.turn ≡ cond found turn.Main a.turn
    pub may_turn : MayTakeTurn says course c (setting says course c a) b
    pub few : numbers says course c b ≤ numbers says course c a + 2
    pub listeners : b.store.listeners ≡ a.store.listeners

  -- ---- The same, from what a call has at hand: the run, main, the store and the trace, as they were and as they are

  abbrev pub StepBesideGives : (was_asked : Bool → Type 0) → (listens : Bool) → Result Outcome NoMemory → RunConcurrent → M → Store T H G →
      List Label → RunConcurrent → M → Store T H G → List Label → Type 0
  StepBesideGives was_asked listens r run m s before run' n t after =
      StepsBeside was_asked listens r run.yield_budget (at run m s before) (at run' n t after) run'.yield_budget

  -- of a poll of the last round, in which main has no part
  abbrev pub LastPollGives : (was_asked : Bool → Type 0) → (polled : ℕ) → M → RunConcurrent → Store T H G → List Label →
      RunConcurrent → Store T H G → List Label → Type 0
  LastPollGives was_asked polled m run s before run' t after = HasPolledLast was_asked polled (at run m s before) (at run' m t after)
