-- Runs, and the states that they begin in.
use Rattle.std.specs.Prelude.{List, [], length, replicate, ℕ, ◌∷◌, ◌≡◌}
use Rattle.machine_data.specs.declared.label.Label.{Label}
use Rattle.machine_data.specs.declared.scenario.ScenarioDef.{ScenarioDef}
use Rattle.machine_data.specs.declared.records.Turn.TheVariants as turn
use Rattle.machine_data.specs.Core.{Main, MainPlace, Scripted, State, fresh}
use Rattle.machine_data.specs.declared.scenario.Version.{Version}
use Rattle.machine_rules.specs.Stalled.{Setting}
use Rattle.machine_rules.specs.Step.{Step}

-- From s the machine may show these labels, one step after another, and then is in t.
abbrev pub Run : Setting → State → List Label → State → Type 0
Run x s [] t = t ≡ s
Run x s (l ∷ ls) t = (mid : State) × (Step x s l mid × Run x mid ls t)

-- the first place in main's script
abbrev pub main_opening : MainPlace
main_opening = record { position = 0; registers = replicate 16 0; starts = []; spawns = [] }

-- the state in which nothing was made, by these rules, with this many instances and these limits, and main's turn
abbrev pub opening : Version → (instances handle_limit capacity : ℕ) → Main → State
opening v instances handle_limit capacity main = record {
  core = fresh v instances handle_limit capacity;
  main = main;
  turn = turn.Main;
}

-- the opening state of a scenario
unfoldable pub opens : ScenarioDef → State
opens x = opening x.version (length x.component.instances) x.handles x.table (Scripted main_opening)
