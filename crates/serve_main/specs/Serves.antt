-- What came of requests that were served by a scenario's component.
use Rattle.serve_requests.specs.Served.{IsServed}
use Rattle.serve_requests.specs.Serving.{Serves}
use Rattle.serve_requests.specs.declared.request.Request.{Request}
use Rattle.serve_main.specs.Knows.{asked}
use Rattle.serve_main.specs.declared.serving.Served.{Served}
use Rattle.serve_main.specs.declared.server.ServerMain.{ServerMain}
use Rattle.std.specs.Prelude.{List, [], length, ℕ, ◌≡◌, ◌≤◌}
use Rattle.machine_data.specs.Core.{Core, State, Unscripted}
use Rattle.machine_rules.specs.History.{history}
use Rattle.machine_rules.specs.Outcome.{IsOutcome}
use Rattle.machine_rules.specs.Run.{Run, opening}
use Rattle.machine_rules.specs.Stalled.{Setting}
use Rattle.task_run.specs.Lower.{Reads}
use Rattle.task_run.specs.declared.scenario.Scenario.{Scenario}
use Rattle.ops_turns.specs.Does.{label_of_step}
use Rattle.ops_turns.specs.declared.mains.MainStep.{MainStep}

-- what a server says of a step, from this core to that one: it serves its requests
pub record Does (m : ServerMain) (s : Core) (x : MainStep) (n : ServerMain) (t : Core) : Type 0 where
  pub asked_is : asked n ≡ asked m
  pub serves : Serves (asked m) m.stages.items s (label_of_step x) n.stages.items t

-- a run of the scenario in which main is no script
abbrev pub server_setting : Scenario → Setting
server_setting x = record { component = x.component; script = []; idle = x.idle }

-- where such a run begins
abbrev pub server_opening : Scenario → State
server_opening x = opening x.rules (length x.component.instances) x.handles x.table Unscripted

-- Some run of the scenario's component with at most so many steps shows these labels and has ended in this outcome. In it the
-- requests are served.
pub record IsServedBy (x : Scenario) (rs : List Request) (limit steps : ℕ) (served : Served) : Type 0 where
  pub last : State
  pub run : Run (server_setting x) (server_opening x) served.trace last
  pub few : length served.trace ≤ steps
  pub ends : IsOutcome (server_setting x) last served.trace steps served.outcome
  pub served_is : IsServed (record { limit = limit; requests = rs }) served.replies.items (history (server_setting x) (server_opening x) served.trace last run)

-- this of the scenario of a text
pub record IsServedOf (text : List ℕ) (rs : List Request) (limit steps : ℕ) (served : Served) : Type 0 where
  pub scenario : Scenario
  pub reads : Reads text scenario
  pub served_by : IsServedBy scenario rs limit steps served
