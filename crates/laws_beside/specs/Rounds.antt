-- How a run beside aborters goes on, step by step, and which spawned work the last round polls next.
use Rattle.std.specs.Prelude.{Bool, List, None, Some, [], false, true, ℕ, ◌++◌, ◌∷◌, ◌≡◌}
use Rattle.laws_beside.specs.Wide.{Going, Round, StepBeside, Wide, WideRun, is_running_spawn, next_spawn, settled, wide}
use Rattle.machine_data.specs.Core.{Core, State}
use Rattle.machine_data.specs.declared.label.Label.{Label}
use Rattle.machine_data.specs.declared.label.Label.TheVariants as label
use Rattle.machine_data.specs.declared.label.LoopLabel.TheVariants as loop_label
use Rattle.machine_rules.specs.MainOps.{is_spawn}
use Rattle.machine_rules.specs.Stalled.{Setting}
use Rattle.machine_rules.specs.Works.{next_polled, poll_ends}

-- the round is under way
abbrev pub is_going : Round → Bool
is_going (Going n found) = true
is_going _ = false

-- outside the round the run goes on by a step beside aborters
abbrev pub StepsGoOn : Type 0
StepsGoOn =
    (x : Setting) (w : Wide) (ls : List Label) (s : State) (r : Round) (l : Label) (t : State) → is_going r ≡ false →
    WideRun x w ls (wide s r) → StepBeside x s l t → WideRun x w (ls ++ l ∷ []) (settled x t r)

-- in the round the next spawned work pends, or was aborted
unfoldable pub RoundsGoOn : Type 0
RoundsGoOn =
    (x : Setting) (w : Wide) (ls : List Label) (s : State) (n i : ℕ) (found : Bool) → next_spawn n s.core ≡ Some i →
    WideRun x w ls (wide s (Going n found)) →
    WideRun x w (ls ++ label.Loop (loop_label.FuturePends i) ∷ []) (settled x s (Going i found))
    × (is_running_spawn i s.core ≡ true →
    WideRun x w (ls ++ label.Loop (loop_label.FutureAborted i) ∷ []) (settled x (record s { core = poll_ends i None s.core }) (Going i true)))

-- which spawned work that is, by which live work is polled next
abbrev pub SpawnsAreNext : Type 0
SpawnsAreNext =
    (n : ℕ) (s : Core) →
    (next_polled n s ≡ None → next_spawn n s ≡ None)
    × ((i : ℕ) → next_polled n s ≡ Some i → (is_spawn i s ≡ true → next_spawn n s ≡ Some i) × (is_spawn i s ≡ false → next_spawn n s ≡ next_spawn i s))
