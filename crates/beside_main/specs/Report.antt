-- A run beside aborters from its beginning to its report.
use Rattle.laws_beside.specs.Courses.{InRound, IsRun, Own}
use Rattle.laws_beside.specs.Wide.{IsWideOutcome, Made, Wide}
use Rattle.beside_main.specs.Calls.{Follows}
use Rattle.beside_main.specs.Cells.{AreLogsOf, KeepsCells}
use Rattle.beside_main.specs.Course.{Able, Took, course, gated_says, place}
use Rattle.beside_main.specs.Headline.{IsLogOf, IsWideRunOf, count_spawns}
use Rattle.beside_main.specs.declared.report.BesideReport.{BesideReport}
use Rattle.beside_main.specs.declared.run.BesideRun.{BesideRun}
use Rattle.beside_works.specs.declared.cells.SharedSpawn.{SharedSpawn}
use Rattle.std.specs.Prelude.{Bool, Err, List, Ok, Result, Some, [], false, length, map, slice_get, true, ℕ, ◌+◌, ◌≡◌, ◌≤◌}
use Rattle.task_abort.specs.declared.log.LogEntry.{LogEntry}
use Rattle.task_loop.specs.HasRun.{setting, state}
use Rattle.machine_data.specs.Core.{Core, Main}
use Rattle.machine_data.specs.declared.component.Component.{Component}
use Rattle.machine_data.specs.declared.label.Label.{Label}
use Rattle.machine_data.specs.declared.outcome.Outcome.{Outcome}
use Rattle.machine_data.specs.declared.outcome.Outcome.TheVariants as outcome
use Rattle.machine_rules.specs.Run.{opens}
use Rattle.machine_rules.specs.Stalled.{Setting}
use Rattle.machine_rules.specs.Stalled as rules
use Rattle.task_run.specs.Headline.{machine_scenario}
use Rattle.task_run.specs.Lower.{Reads}
use Rattle.task_run.specs.Script.{part_of}
use Rattle.task_run.specs.declared.scenario.Scenario.{Scenario}
use Rattle.ops_turns.specs.Turn.{idle_line_of}

-- the scenario's setting, with this idle line
abbrev pub heard_with : Bool → Setting → Setting
heard_with trap x = record x { idle = idle_line_of trap }

-- The run is at the opening of the scenario, with all its steps left, over these cells.
pub record Opens {E : Type 0} (x : Scenario) (steps : ℕ) (trap : Bool) (list : List SharedSpawn) (b : BesideRun E) : Type 0 where
  pub able : Able x.component b
  pub setting : setting gated_says course x.component (place b) ≡ heard_with trap (rules.setting_of (machine_scenario x))
  pub state : state gated_says course x.component (place b) ≡ opens (machine_scenario x)
  pub trace : b.trace ≡ []
  pub left : b.left ≡ steps
  pub cells : b.cells.list.items ≡ list
  pub concurrent : b.store.concurrent ≡ true

-- These labels are a run beside aborters from w, with these calls. It has ended in this outcome, and its last state has this core
-- and this main.
pub record HasEnded (x : Setting) (w : Wide) (steps : ℕ) (o : Outcome) (own : Own) (ls : List Label) (s : Core) (m : Main) : Type 0 where
  pub last : Wide
  pub run : IsRun x w ls last own
  pub ends : IsWideOutcome x last ls steps o
  pub few : length ls ≤ steps
  pub image : s ≡ last.state.core
  pub main : m ≡ last.state.main

-- The run has taken its steps, up to this outcome.
pub record HasTaken {E : Type 0} (c : Component) (a b : BesideRun E) (o : Outcome) : Type 0 where
  pub took : Took c o a b
  pub used : o ≡ outcome.OutOfSteps → b.left ≡ 0

-- what both halves gave, if the second one wasn't refused
abbrev pub PairsWith : {A B C : Type 0} → A → Result B C → Result (A × B) C → Type 0
PairsWith a (Ok b) r = r ≡ Ok (a, b)
PairsWith a (Err e) r = r ≡ Err e

-- The last round was made, or was cut, and the run has gone on to its end.
pub record GoesPast {E : Type 0} (c : Component) (trap : Bool) (o : Outcome) (a b : BesideRun E) : Type 0 where
  pub cells : KeepsCells a.cells.list.items b.cells.list.items
  pub concurrent : b.store.concurrent ≡ a.store.concurrent
  pub on : (x : Setting) (w : Wide) (steps : ℕ) (own : Own) → heard_with trap (setting gated_says course c (place a)) ≡ x →
      InRound x w 0 false steps a.left own a.trace (state gated_says course c (place a)) →
      (after : Own) × (HasEnded x w steps o after b.trace b.store.state.core (part_of b.main.script)
      × Follows Made own after a.cells.list.items b.cells.list.items)

-- a report of the run as it is, where so many calls on each spawn were early
pub record Reports {E : Type 0} (a : BesideRun E) (o : Outcome) (early : List ℕ) (r : BesideReport) : Type 0 where
  pub trace : r.report.trace ≡ a.trace
  pub outcome : r.report.outcome ≡ o
  pub core : r.report.store.state.core ≡ a.store.state.core
  pub free : r.report.store.running ≡ false
  pub concurrent : r.report.store.concurrent ≡ a.store.concurrent
  pub logs : AreLogsOf a.cells.list.items early (map (λ l. l.items) r.logs.items)
  pub each : length r.logs.items ≡ length a.main.script.spawns.items

-- The report is of a run of the scenario beside its aborters. It has a log for each work that main has spawned. Its store is concurrent,
-- and no run rests on it.
pub record IsReportOf (x : Scenario) (steps : ℕ) (r : BesideReport) : Type 0 where
  pub own : Own
  pub run : IsWideRunOf (machine_scenario x) steps own r.report.trace r.report.outcome r.report.store.state.core
  pub free : r.report.store.running ≡ false
  pub concurrent : r.report.store.concurrent ≡ true
  pub each : length r.logs.items ≡ count_spawns run.last.state.main
  pub logs : (k : ℕ) (log : List (LogEntry ℕ)) → slice_get (map (λ l. l.items) r.logs.items) k ≡ Some log →
      IsLogOf (machine_scenario x) own (k + 1) log

-- so it is of the scenario that a text represents
pub record IsReportOn (text : List ℕ) (steps : ℕ) (r : BesideReport) : Type 0 where
  pub scenario : Scenario
  pub reads : Reads text scenario
  pub report : IsReportOf scenario steps r
