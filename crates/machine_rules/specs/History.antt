-- A run as the list of its steps, each with the states before and after it.
use Rattle.std.specs.Prelude.{List, [], ◌∷◌}
use Rattle.machine_data.specs.declared.label.Label.{Label}
use Rattle.machine_data.specs.Core.{State}
use Rattle.machine_rules.specs.Run.{Run}
use Rattle.machine_rules.specs.Stalled.{Setting}

pub record Moment : Type 0 where
  pub before : State
  pub label : Label
  pub after : State

-- the steps of a run, in order
abbrev pub history : (x : Setting) (s : State) (ls : List Label) (t : State) → Run x s ls t → List Moment
history x s [] t run = []
history x s (l ∷ ls) t run = record { before = s; label = l; after = run.0 } ∷ history x run.0 ls t run.1.1
