-- What driving a run adds to a trace.
use Rattle.std.specs.List.{list_all}
use Rattle.std.specs.Prelude.{◌≡◌, ℕ, ◌+◌, ◌*◌, ◌<◌, ◌≤◌, List, ◌++◌, None, length, true}
use Rattle.laws_labels.specs.Own.{is_data}
use Rattle.machine_data.specs.declared.component.Component.{Component}
use Rattle.machine_data.specs.declared.label.Label.{Label}
use Rattle.machine_data.specs.declared.outcome.Outcome.{Outcome}
use Rattle.machine_data.specs.Core.{Main, State}
use Rattle.machine_rules.specs.Stalled.{Setting}
use Rattle.run_trace.specs.Traced.{Traced}
use Rattle.machine_rules.specs.Run.{Run}
use Rattle.machine_rules.specs.Outcome.{last_outcome, IsOutcome}
use Rattle.machine_data.specs.declared.records.Turn.{Turn}
use Rattle.ops_turns.specs.Turn.{IsAtTurn, IsSettled, PendsIn, CoreInOrder, given, goes_on, is_open, running_of, runs_in, state_at}
use Rattle.core_primitives.specs.StateView.{StateView}

-- A run of n labels was added, of which the last gives no outcome.
pub record Going (x : Setting) (s : State) (before : List Label) (t : State) (after : List Label) (n : ℕ) : Type 0 where
  pub added : List Label
  pub trace : after ≡ before ++ added
  pub run : Run x s added t
  pub count : length added ≡ n
  pub going_on : last_outcome added ≡ None

-- A run of at most so many labels was added, and this is what it has resulted in.
pub record Drives (x : Setting) (s : State) (before : List Label) (t : State) (after : List Label) (steps : ℕ)
    (outcome : Outcome) : Type 0 where
  pub added : List Label
  pub trace : after ≡ before ++ added
  pub run : Run x s added t
  pub few : length added ≤ steps
  pub ends : IsOutcome x t added steps outcome

-- What the turns resulted in: a run, and the state of the store then.
pub record Drove (x : Setting) (s : State) (before : List Label) (numbers : ℕ) (p : Turn) (m : Main) (t : StateView) (after : List Label)
    (steps : ℕ) (outcome : Outcome) : Type 0 where
  pub drives : Drives x s before (state_at t.core m p) after steps outcome
  pub unfinished : is_open p ≡ goes_on outcome
  pub order : CoreInOrder x.component p t.core
  pub settled : IsSettled t.core p
  pub few : given t.core ≤ numbers + 2 * steps
  pub running : running_of t ≡ runs_in p
  pub pends : PendsIn x t.core m p

-- The run has gone on for n labels, and the store is so that it can go on.
pub record IsOn (x : Setting) (s : State) (before : List Label) (numbers : ℕ) (p : Turn) (m : Main) (t : StateView) (after : List Label)
    (n : ℕ) : Type 0 where
  pub going : Going x s before (state_at t.core m p) after n
  pub at : IsAtTurn x.component p t
  pub few : given t.core ≤ numbers + 2 * n
  pub pends : PendsIn x t.core m p

-- Where a run has gone on for so many labels in this turn, it goes on to this state and trace in the same turn, main as it was.
abbrev pub KeepsOn : Component → Turn → StateView → List Label → ℕ → StateView → List Label → ℕ → Type 0
KeepsOn c p s before added t after k =
    (x : Setting) → x.component ≡ c → (o : State) (trace : List Label) (numbers : ℕ) (m : Main) →
    IsOn x o trace numbers p m s before added →
    IsOn x o trace numbers p m t after k

-- Such ops alone were done in this turn, from s to t: k labels had been added then, where `added` had been before.
pub record Computes (c : Component) (p : Turn) (s : StateView) (before : List Label) (added : ℕ) (t : StateView) (after : List Label)
    (k : ℕ) : Type 0 where
  pub labels : List Label
  pub computing : list_all is_data labels ≡ true
  pub trace : after ≡ before ++ labels
  pub count : k ≡ added + length labels
  pub run : (x : Setting) → x.component ≡ c → (m : Main) → Run x (state_at s.core m p) labels (state_at t.core m p)

-- So it was, and k labels had been added then, of at most `steps`. Where no thread runs in this turn, none was added.
pub record Computed (c : Component) (p : Turn) (s : StateView) (before : List Label) (added : ℕ) (t : StateView) (after : List Label)
    (steps k : ℕ) : Type 0 where
  pub more : added ≤ k
  pub few : k ≤ steps
  pub on : KeepsOn c p s before added t after k
  pub computes : Computes c p s before added t after k
  pub still : runs_in p ≡ None → k ≡ added

-- It is out of memory: the run has gone on in this turn, by such ops alone, and its labels are in the trace. At least one more was
-- to be added, and there was no room for it.
pub record StopsShort (c : Component) (p : Turn) (s : StateView) (before : Traced) (added : ℕ) (t : StateView) (after : Traced) (steps : ℕ) :
    Type 0 where
  pub labels : ℕ
  pub few : labels < steps
  pub room : before.spare + added ≤ labels
  pub on : KeepsOn c p s before.labels added t after.labels labels
  pub computes : Computes c p s before.labels added t after.labels labels
  pub still : runs_in p ≡ None → labels ≡ added
