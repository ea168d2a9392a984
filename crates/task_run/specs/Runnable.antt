-- What a run needs of a scenario.
use Rattle.std.specs.Prelude.{◌≤◌, length}
use Rattle.task_run.specs.declared.scenario.Scenario.{Scenario}
use Rattle.laws_states.specs.Settings.{CodesInCallbacks}
use Rattle.ops_turns.specs.WellFormed.{IsWellFormed}
use Rattle.task_run.specs.Script.{SuitsOps}

pub record IsRunnable (x : Scenario) : Type 0 where
  pub handles : x.handles ≤ 268435455
  pub few : length x.component.instances ≤ 64
  pub component : IsWellFormed x.component
  pub codes : CodesInCallbacks x.component
  pub main : SuitsOps x.main x.component
