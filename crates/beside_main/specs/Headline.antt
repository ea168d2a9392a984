-- What a report of a run beside aborters says: the printed steps are a run of the component machine beside them, and each log is that
-- of the calls on one spawned work, those of the run being what the steps show.
use Rattle.beside_works.specs.Aborters.{briefs}
use Rattle.laws_beside.specs.Courses.{IsRun, Own}
use Rattle.laws_beside.specs.Wide.{IsWideOutcome, Wide, opens_wide}
use Rattle.std.specs.Prelude.{List, drop, false, length, map, take, ℕ, ◌++◌, ◌≡◌, ◌≤◌}
use mathlib.Core.Option.{some}
use lib.ListN.{get_elem?}
use Rattle.task_abort.specs.PhaseLog.{IsLegal}
use Rattle.task_abort.specs.Staged.{Aborter, aborts_of, all_aborts, any_abort, by_number, by_stages, entered, staged}
use Rattle.task_abort.specs.declared.log.CallMade.{CallMade}
use Rattle.task_abort.specs.declared.log.LogEntry.{LogEntry}
use Rattle.machine_data.specs.Core.{Core, Main, Scripted, Unscripted}
use Rattle.machine_data.specs.declared.label.Label.{Label}
use Rattle.machine_data.specs.declared.outcome.Outcome.{Outcome}
use Rattle.machine_data.specs.declared.scenario.ScenarioDef.{ScenarioDef}
use Rattle.machine_rules.specs.Stalled.{setting_of}

-- Some run of the scenario beside its aborters, with at most so many steps, shows these labels, has ended so, and its last state
-- has this core. It makes these calls on its spawns.
pub record IsWideRunOf (x : ScenarioDef) (steps : ℕ) (own : Own) (trace : List Label) (outcome : Outcome) (core : Core) : Type 0 where
  pub last : Wide
  pub run : IsRun (setting_of x) (opens_wide x) trace last own
  pub few : length trace ≤ steps
  pub ends : IsWideOutcome (setting_of x) last trace steps outcome
  pub image : core ≡ last.state.core

-- how many works main has spawned
abbrev pub count_spawns : Main → ℕ
count_spawns (Scripted p) = length p.spawns
count_spawns Unscripted = 0

-- A log has the entries of each of its callers in their order: of the run these calls, and of each aborter the aborts that found these
-- phases. The run's calls after its first so many are behind every abort of an aborter.
pub record HasEntries (own : List CallMade) (aborters : List Aborter) (early : ℕ) (log : List (LogEntry ℕ)) : Type 0 where
  pub run : by_number 0 log ≡ entered early (any_abort aborters) false own
  pub each : (i : ℕ) (a : Aborter) → get_elem? aborters i ≡ some a → by_number a.0 log ≡ aborts_of a
  pub late : log ≡ by_stages (all_aborts aborters ++ take early (entered early (any_abort aborters) false own))
      ++ drop early (entered early (any_abort aborters) false own)

-- The log of spawn j, counted from 1, is legal. It is put together of the calls of the run on it, of which so many were made before its
-- last round, and of the aborts of each aborter, which are as many as its line names the spawn.
pub record IsLogOf (x : ScenarioDef) (run : Own) (j : ℕ) (log : List (LogEntry ℕ)) : Type 0 where
  pub own : List CallMade
  pub calls : map (λ (c : CallMade). c.call) own ≡ run.calls j
  pub aborters : List Aborter
  pub staged : log ≡ staged own aborters (run.early j)
  pub legal : IsLegal log
  pub each : map (λ a. (a.0, length a.1)) aborters ≡ briefs x.aborters 1 j
  pub entries : HasEntries own aborters (run.early j) log
