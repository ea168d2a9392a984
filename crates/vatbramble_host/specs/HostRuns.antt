-- What the run of a host is.
use Rattle.std.specs.Prelude.{List, Option, Some, [], codes, length, slice_get, slice_set, ℕ, ◌++◌, ◌∷◌, ◌≤◌}
use Rattle.text_lines.specs.Tokens.{◌>>=◌}
use Rattle.machine_data.specs.Core.{State, Unscripted, fresh}
use Rattle.machine_data.specs.declared.component.HostDef.TheVariants as host_def
use Rattle.machine_data.specs.declared.label.Label.{Label}
use Rattle.machine_data.specs.declared.outcome.Outcome.{Outcome}
use Rattle.machine_data.specs.declared.records.Turn.TheVariants as turn
use Rattle.machine_rules.specs.History.{history}
use Rattle.machine_rules.specs.Once.{EndsOnce}
use Rattle.machine_rules.specs.Outcome.{IsOutcome}
use Rattle.machine_rules.specs.Run.{Run}
use Rattle.machine_rules.specs.Stalled.{Setting}
use Rattle.task_run.specs.declared.scenario.Scenario.{Scenario}
use Rattle.ops_turns.specs.Turn.{state_at}
use Rattle.vatbramble_host.specs.Named.{name_place}

-- the scenario in which the host at this place is open; none if there is no such host
abbrev pub opened_at : ℕ → Scenario → Option Scenario
opened_at place x = slice_get x.component.hosts place >>= (λ was.
    Some (record x { component = record x.component { hosts = slice_set x.component.hosts place host_def.Open } }))

-- the scenario in which the host of this name is open; none if the text has no such host
unfoldable pub with_open_host : List ℕ → Scenario → Option Scenario
with_open_host name x = name_place x.host_names name >>= (λ place. opened_at place x)

-- the lines of a text whose main answers 0 at once, from `main` on
abbrev pub empty_main : List ℕ
empty_main = codes "main" ++ 10 ∷ codes "answer 0" ++ 10 ∷ codes "end" ++ 10 ∷ []

-- the scenario's component and idle line, beside a main that is no script
abbrev pub host_setting : Scenario → Setting
host_setting x = record { component = x.component; script = []; idle = x.idle }

-- the state of a new store for the scenario, before such a main's first step
abbrev pub host_opening : Scenario → State
host_opening x = state_at (fresh x.rules (length x.component.instances) x.handles x.table) Unscripted turn.Main

-- Some run of the machine with at most so many steps shows these labels and has ended in this outcome. It writes each end once, and
-- hands it out once.
pub record IsHostRunOf (x : Scenario) (steps : ℕ) (trace : List Label) (outcome : Outcome) : Type 0 where
  pub last : State
  pub run : Run (host_setting x) (host_opening x) trace last
  pub few : length trace ≤ steps
  pub ends : IsOutcome (host_setting x) last trace steps outcome
  pub once : EndsOnce x.component (history (host_setting x) (host_opening x) trace last run)
