-- What holds of every run beside aborters.
use Rattle.std.specs.Prelude.{List, [], false, true, ℕ, ◌++◌, ◌∷◌, ◌≡◌}
use Rattle.machine_data.specs.declared.label.Label.{Label}
use Rattle.machine_data.specs.declared.outcome.Outcome.{Outcome}
use Rattle.machine_data.specs.declared.scenario.IdleLine.TheVariants as idle_line
use Rattle.machine_data.specs.Core.{State}
use Rattle.machine_rules.specs.Outcome.{IsOutcome}
use Rattle.machine_rules.specs.Run.{Run}
use Rattle.machine_rules.specs.Stalled.{Setting, is_stalled}
use Rattle.laws_beside.specs.Wide.{Due, IsWideOutcome, Round, Wide, WideRun, WideStep, is_past, settled, wide}

-- a run beside aborters goes on by one step
abbrev pub WideRunGoesOn : Type 0
WideRunGoesOn =
    (x : Setting) (w : Wide) (ls : List Label) (m : Wide) (l : Label) (v : Wide) →
    WideRun x w ls m → WideStep x m l v → WideRun x w (ls ++ l ∷ []) v

-- two of them make one
abbrev pub WideRunsJoin : Type 0
WideRunsJoin =
    (x : Setting) (w : Wide) (ls : List Label) (m : Wide) (ks : List Label) (v : Wide) →
    WideRun x w ls m → WideRun x m ks v → WideRun x w (ls ++ ks) v

-- each run of the machine is one where no round is to come, and results in the same
abbrev pub RunsAreWide : Type 0
RunsAreWide =
    (x : Setting) (r : Round) (s : State) (ls : List Label) (t : State) → is_past r ≡ true →
    Run x s ls t → WideRun x (wide s r) ls (wide t r)

abbrev pub OutcomesAreWide : Type 0
OutcomesAreWide =
    (x : Setting) (r : Round) (t : State) (ls : List Label) (steps : ℕ) (o : Outcome) → is_past r ≡ true →
    IsOutcome x t ls steps o → IsWideOutcome x (wide t r) ls steps o

-- this setting, where the run waits if nothing can go on, and is no deadlock
abbrev pub waiting : Setting → Setting
waiting x = record x { idle = idle_line.Wait }

-- A run in which nothing that can go on is a deadlock is one before the last round: this begins in its last state, if that is stalled
abbrev pub RunsAreDue : Type 0
RunsAreDue =
    (x : Setting) (s : State) (ls : List Label) (t : State) → is_stalled x s ≡ false →
    Run (waiting x) s ls t → WideRun x (wide s Due) ls (settled x t Due)
