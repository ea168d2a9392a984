-- What a report says of a scenario: the printed steps are a run of the component machine.
use Rattle.std.specs.Prelude.{◌≡◌, ℕ, ◌≤◌, List, false, length, map, true}
use Rattle.machine_data.specs.declared.label.Label.{Label}
use Rattle.machine_data.specs.declared.outcome.Outcome.{Outcome}
use Rattle.machine_data.specs.declared.records.Notice.{Notice}
use Rattle.machine_data.specs.declared.scenario.NamesDef.{NamesDef}
use Rattle.machine_data.specs.declared.scenario.ScenarioDef.{ScenarioDef}
use Rattle.machine_data.specs.Core.{Core, State}
use Rattle.machine_rules.specs.History.{history}
use Rattle.machine_rules.specs.Notices.{notices}
use Rattle.machine_rules.specs.Once.{EndsOnce, OneHolder}
use Rattle.machine_rules.specs.Outcome.{IsOutcome}
use Rattle.machine_rules.specs.Run.{Run, opens}
use Rattle.machine_rules.specs.Stalled.{setting_of}
use Rattle.task_run.specs.declared.report.Report.{Report}
use Rattle.task_run.specs.declared.scenario.InstanceNames.{InstanceNames}
use Rattle.task_run.specs.declared.scenario.Scenario.{Scenario}
use Rattle.task_run.specs.Lower.{Reads}
use Rattle.task_run.specs.Script.{machine_ops}

abbrev pub machine_names : InstanceNames → NamesDef
machine_names n = record { instance = n.instance; exports = n.exports }

-- the scenario as the machine has it
abbrev pub machine_scenario : Scenario → ScenarioDef
machine_scenario x = record {
  version = x.rules;
  handles = x.handles;
  table = x.table;
  idle = x.idle;
  component = x.component;
  names = map machine_names x.names;
  main = machine_ops x.main;
  aborters = x.aborters;
}

-- Some run of the scenario with at most so many steps shows these labels, has ended so, and its last state has this core. It hands
-- out each end once, and one holding entry of an instance runs at a time. The groups are its notices.
pub record IsRunOf (x : ScenarioDef) (steps : ℕ) (trace : List Label) (outcome : Outcome) (core : Core) (groups : List Notice) :
    Type 0 where
  pub last : State
  pub run : Run (setting_of x) (opens x) trace last
  pub few : length trace ≤ steps
  pub ends : IsOutcome (setting_of x) last trace steps outcome
  pub image : core ≡ last.core
  pub once : EndsOnce x.component (history (setting_of x) (opens x) trace last run)
  pub alone : OneHolder (history (setting_of x) (opens x) trace last run)
  pub told : groups ≡ notices (history (setting_of x) (opens x) trace last run)

-- The report is of a run of the scenario that the text represents. Its store is concurrent, and no run rests on it.
pub record IsReportOf (text : List ℕ) (steps : ℕ) (r : Report) : Type 0 where
  pub scenario : Scenario
  pub reads : Reads text scenario
  pub run : IsRunOf (machine_scenario scenario) steps r.trace r.outcome r.store.state.core r.groups
  pub free : r.store.running ≡ false
  pub concurrent : r.store.concurrent ≡ true
