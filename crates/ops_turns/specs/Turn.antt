-- What a turn of the loop makes.
use Rattle.std.specs.Prelude.{◌≡◌, ◌<◌, List, ℕ, Bool, true, false, Option, Some, None, is_none, is_some}
use Rattle.ops_dispatch.specs.Fits.{HasHandles, HasInstances}
use Rattle.laws_states.specs.Order.{InOrder}
pub use Rattle.laws_states.specs.Order.{is_open}
use Rattle.machine_data.specs.Core.{Core, Main, State}
use Rattle.machine_data.specs.Maps.{get}
use Rattle.machine_data.specs.Read.{next_entry}
use Rattle.machine_data.specs.declared.component.Component.{Component}
use Rattle.machine_data.specs.declared.records.Turn.{Turn}
use Rattle.machine_data.specs.declared.records.Turn.TheVariants as turn
use Rattle.ops_guests.specs.Running.{IsTopmost}
use Rattle.ops_guests.specs.declared.op_result.OpResult.{OpResult}
use Rattle.ops_guests.specs.declared.op_result.OpResult.TheVariants as op_result
use Rattle.machine_data.specs.declared.outcome.Outcome.{Outcome}
use Rattle.machine_data.specs.declared.outcome.Outcome.TheVariants as outcome
use Rattle.machine_data.specs.declared.scenario.IdleLine.{IdleLine}
use Rattle.machine_data.specs.declared.scenario.IdleLine.TheVariants as idle_line
use Rattle.machine_data.specs.declared.scenario.MainOpDef.{MainOpDef}
pub use Rattle.ops_dispatch.specs.Continues.{OpGoesOn, Shows, given, running_of}
use Rattle.machine_rules.specs.Outcome.{is_at_rest, outcome_of_label}
use Rattle.machine_rules.specs.Stalled.{Setting, main_pends}
use Rattle.machine_rules.specs.Step.{Step}
use Rattle.machine_rules.specs.Turns.{settled_turn}
use Rattle.ops_turns.specs.declared.made.MadeStep.{MadeStep}
use Rattle.machine_rules.specs.Picks.{Picks}
use Rattle.core_primitives.specs.Preferences.{preference}
use Rattle.core_primitives.specs.StateView.{StateView}

-- the state with this core and this part of main, at this turn
abbrev pub state_at : Core → Main → Turn → State
state_at s m p = record { core = s; main = m; turn = p }

-- The core is in order at this turn, whatever main's part is, and each instance of the component is there, with its table of handles.
pub record CoreInOrder (c : Component) (p : Turn) (s : Core) : Type 0 where
  pub order : (m : Main) → InOrder c (state_at s m p)
  pub there : HasInstances c s
  pub handles : HasHandles c s

-- the thread that runs in this turn
abbrev pub runs_in : Turn → Option ℕ
runs_in (turn.Run n) = Some n
runs_in _ = None

-- the thread that runs, if one does, is there
abbrev pub RunnerThere : StateView → Type 0
RunnerThere s = (n : ℕ) → running_of s ≡ Some n → is_some (get s.core.threads n) ≡ true

-- The step that was made is one of the machine, whatever main's part, its script and the idle line are, and picks what comes first. Its
-- label gives an outcome exactly where the run is over.
pub record MakesStep (c : Component) (p : Turn) (s : StateView) (made : MadeStep) (t : StateView) : Type 0 where
  pub step : (x : Setting) → x.component ≡ c → (m : Main) → Step x (state_at s.core m p) made.label (state_at t.core m made.turn)
  pub picks : (x : Setting) → x.component ≡ c → (m : Main) →
      Picks (preference s) x (state_at s.core m p) made.label (state_at t.core m made.turn)
  pub running : running_of t ≡ runs_in made.turn
  pub over : is_none (outcome_of_label made.label) ≡ is_open made.turn

-- where main has pended, its op pends still
abbrev pub PendsIn : Setting → Core → Main → Turn → Type 0
PendsIn x s m (turn.Futures n) = main_pends x s m ≡ true
PendsIn x s m (turn.Take false) = main_pends x s m ≡ true
PendsIn x s m _ = Unit {0}

-- main's op need not pend in the turn
abbrev pub IsFree : Turn → Type 0
IsFree p = (x : Setting) (s : Core) (m : Main) → PendsIn x s m p

-- the run can go on after this outcome
abbrev pub goes_on : Outcome → Bool
goes_on outcome.Idle = true
goes_on outcome.OutOfSteps = true
goes_on _ = false

-- the moves of the turn that show no label are made
abbrev pub IsSettled : Core → Turn → Type 0
IsSettled s p = settled_turn s p ≡ p

-- The run may go on with this turn: the core is in order, the turn's thread runs, and the turn is settled and not over.
pub record IsAtTurn (c : Component) (p : Turn) (s : StateView) : Type 0 where
  pub order : CoreInOrder c p s.core
  pub running : running_of s ≡ runs_in p
  pub settled : IsSettled s.core p
  pub unfinished : is_open p ≡ true

-- The step that was made is one of the machine and picks what comes first, and its label gives an outcome exactly where the run is over.
pub record Turns (x : Setting) (p : Turn) (m : Main) (s : StateView) (made : MadeStep) (m' : Main) (t : StateView) : Type 0 where
  pub step : Step x (state_at s.core m p) made.label (state_at t.core m' made.turn)
  pub picks : Picks (preference s) x (state_at s.core m p) made.label (state_at t.core m' made.turn)
  pub running : running_of t ≡ runs_in made.turn
  pub over : is_none (outcome_of_label made.label) ≡ is_open made.turn
  pub pends : PendsIn x t.core m' made.turn

-- so it is of a turn in which main has no part, whatever main is
abbrev pub TurnsBeside : Turn → StateView → MadeStep → StateView → Type 0
TurnsBeside p s made t = (x : Setting) → (m : Main) → PendsIn x s.core m p → Turns x p m s made m t

-- A step was made, or nothing can go on and that is no deadlock, and nothing is changed.
abbrev pub Turned : Setting → Turn → Main → StateView → Option MadeStep → Main → StateView → Type 0
Turned x p m s (Some made) m' t = Turns x p m s made m' t
Turned x p m s None m' t = (is_at_rest x (state_at s.core m p) ≡ true) × ((m' ≡ m) × (t ≡ s))

-- what happens where nothing can go on
abbrev pub idle_line_of : Bool → IdleLine
idle_line_of true = idle_line.Trap
idle_line_of false = idle_line.Wait

abbrev pub setting_of : Component → List MainOpDef → (trap_on_idle : Bool) → Setting
setting_of c ops b = record { component = c; script = ops; idle = idle_line_of b }

-- it goes on or stops, and hasn't trapped
abbrev pub is_going : OpResult → Bool
is_going (op_result.Continues l m said) = true
is_going (op_result.Stops l) = true
is_going _ = false

-- the strand of a thread that trapped is there
abbrev pub CanUnwind : OpResult → ℕ → Core → Type 0
CanUnwind (op_result.Traps why) n s = (0 < n) × IsTopmost n s
CanUnwind (op_result.Fails i) n s = (0 < n) × IsTopmost n s
CanUnwind _ n s = Unit {0}

-- what a turn leads to in which main has no part, whatever main is
abbrev pub TurnedBeside : Component → (trap_on_idle : Bool) → Turn → StateView → Option MadeStep → StateView → Type 0
TurnedBeside c b p s made t =
    (x : Setting) → x.component ≡ c → x.idle ≡ idle_line_of b → (m : Main) → PendsIn x s.core m p → Turned x p m s made m t

-- a step was made after which main's op need not pend
abbrev pub MakesFree : Component → Turn → StateView → MadeStep → StateView → Type 0
MakesFree c p s made t = MakesStep c p s made t × IsFree made.turn

-- nothing was there and nothing is changed, or a step was made
abbrev pub Took : Component → Bool → StateView → Option MadeStep → StateView → Type 0
Took c ended s None t = (next_entry s.core ≡ None) × (t ≡ s)
Took c ended s (Some made) t = MakesFree c (turn.Take ended) s made t

-- nothing is there, and no work ended in this turn
abbrev pub Rested : (trap_on_idle : Bool) → StateView → Option MadeStep → StateView → Type 0
Rested b s made t = (c : Component) → CoreInOrder c (turn.Take false) s.core → TurnedBeside c b (turn.Take false) s made t

-- the store was trapped in a deadlock, as main waits
abbrev pub Deadlocks : StateView → MadeStep → StateView → Type 0
Deadlocks s made t =
    (x : Setting) → CoreInOrder x.component (turn.Take false) s.core → x.idle ≡ idle_line.Trap → (m : Main) →
    main_pends x s.core m ≡ true → Turns x (turn.Take false) m s made m t

-- this says whether nothing can go on in this turn, and that is no deadlock
abbrev pub TellsRest : (trap_on_idle : Bool) → Turn → StateView → Bool → Type 0
TellsRest b p s rests =
    (x : Setting) → CoreInOrder x.component p s.core → x.idle ≡ idle_line_of b → (m : Main) → PendsIn x s.core m p →
    is_at_rest x (state_at s.core m p) ≡ rests
