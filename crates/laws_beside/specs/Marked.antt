-- A spawned work that is aborted in the core alone, so that the next poll shows what another thread has asked for.
use Rattle.std.specs.Prelude.{None, Some, true, ℕ, ◌≡◌}
use Rattle.laws_beside.specs.Wide.{AbortedAt, is_running_spawn}
use Rattle.machine_data.specs.Core.{Core, Main, State}
use Rattle.machine_data.specs.declared.label.Label.{Label}
use Rattle.machine_data.specs.declared.label.Label.TheVariants as label
use Rattle.machine_data.specs.declared.label.LoopLabel.TheVariants as loop_label
use Rattle.machine_data.specs.declared.records.Turn.TheVariants as turn
use Rattle.machine_rules.specs.MainOps.{main_aborted}
use Rattle.machine_rules.specs.Stalled.{Setting, main_pends}
use Rattle.machine_rules.specs.Step.{Step}
use Rattle.machine_rules.specs.Works.{next_polled, poll_ends}

-- the state with the work aborted
abbrev pub marked : ℕ → State → State
marked i s = record s { core = main_aborted i s.core }

-- The poll that comes then is the one that finds another thread's abort, and leaves what that leaves
unfoldable pub MarkedPollsFindAborts : Type 0
MarkedPollsFindAborts =
    (x : Setting) (s : State) (n i : ℕ) (l : Label) (t : State) → s.turn ≡ turn.Futures n → next_polled n s.core ≡ Some i →
    is_running_spawn i s.core ≡ true → Step x (marked i s) l t →
    (l ≡ label.Loop (loop_label.FutureEnds i))
    × (AbortedAt s s.turn (label.Loop (loop_label.FutureAborted i)) t × (t.core ≡ poll_ends i None s.core))

-- which work is polled next stays, and whether main's op pends
unfoldable pub MarkedSpawnsStay : Type 0
MarkedSpawnsStay =
    (x : Setting) (s : Core) (m : Main) (n i j : ℕ) →
    (next_polled n s ≡ Some j → next_polled n (main_aborted i s) ≡ Some j)
    × (main_pends x (main_aborted i s) m ≡ main_pends x s m)
