-- What happens at most once in each run.
use Rattle.std.specs.Prelude.{List, ℕ, ◌<◌, ◌≡◌}
use Rattle.laws_states.specs.Settings.{CalleesAre, CodesInCallbacks}
use Rattle.machine_data.specs.Core.{Main, MainPlace, State, Scripted, Unscripted}
use Rattle.machine_data.specs.declared.scenario.Version.{Version}
use Rattle.machine_data.specs.declared.label.Label.{Label}
use Rattle.machine_rules.specs.History.{history}
use Rattle.machine_rules.specs.Once.{EndsOnce, OneHolder}
use Rattle.machine_rules.specs.Run.{Run, opening, main_opening}
use Rattle.machine_rules.specs.Stalled.{Setting}

-- main hasn't begun: it is a script at its first op, or no script
abbrev pub IsUnbegun : Main → Type 0
IsUnbegun (Scripted p) = p ≡ main_opening
IsUnbegun Unscripted = Unit {0}

-- each run from an opening state, of a component whose codes are in callbacks, writes and hands out each end once
unfoldable pub RunsAreOnce : Type 0
RunsAreOnce = (x : Setting) → CodesInCallbacks x.component →
    (v : Version) (instances handle_limit capacity : ℕ) (main : Main) → IsUnbegun main → (ls : List Label) (t : State) →
    (run : Run x (opening v instances handle_limit capacity main) ls t) →
    EndsOnce x.component (history x (opening v instances handle_limit capacity main) ls t run)

-- In each run of a main that is a script, from an opening state, one holding entry of an instance runs at a time: where each export that is
-- started or called is of one of the instances, of which there may be none.
unfoldable pub ScriptsHoldOne : Type 0
ScriptsHoldOne = (x : Setting) → CodesInCallbacks x.component →
    (v : Version) (instances handle_limit capacity : ℕ) (p : MainPlace) → CalleesAre x (λ f. f.instance < instances) → (ls : List Label) (t : State) →
    (run : Run x (opening v instances handle_limit capacity (Scripted p)) ls t) →
    OneHolder (history x (opening v instances handle_limit capacity (Scripted p)) ls t run)
