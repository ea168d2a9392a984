-- At most one holding entry of an instance runs at a time.
use Rattle.std.specs.Prelude.{List, ℕ, ◌<◌}
use Rattle.laws_states.specs.Settings.{CalleesAre}
use Rattle.machine_data.specs.declared.scenario.Version.{Version}
use Rattle.machine_data.specs.declared.label.Label.{Label}
use Rattle.machine_data.specs.Core.{MainPlace, Scripted, State}
use Rattle.machine_rules.specs.History.{history}
use Rattle.machine_rules.specs.Once.{OneHolder}
use Rattle.machine_rules.specs.Run.{Run, opening}
use Rattle.machine_rules.specs.Stalled.{Setting}

-- There are this many instances, one at least, and each export that is started or called is of one of them.
pub record CalleesExist (x : Setting) (instances : ℕ) : Type 0 where
  pub some : 0 < instances
  pub callees : CalleesAre x (λ f. f.instance < instances)

-- in each run of a main that is a script, from an opening state
abbrev pub RunsHoldOne : Type 0
RunsHoldOne =
    (x : Setting) (v : Version) (instances handle_limit capacity : ℕ) (p : MainPlace) (ls : List Label) (t : State) → CalleesExist x instances →
    (run : Run x (opening v instances handle_limit capacity (Scripted p)) ls t) →
    OneHolder (history x (opening v instances handle_limit capacity (Scripted p)) ls t run)
