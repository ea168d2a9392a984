-- What becomes of the works that main spawns.
use Rattle.std.specs.Prelude.{List, true, ℕ, ◌≡◌}
use Rattle.laws_states.specs.Order.{InOrder}
use Rattle.machine_data.specs.Core.{State}
use Rattle.machine_data.specs.declared.label.Label.{Label}
use Rattle.machine_rules.specs.MainOps.{is_spawn}
use Rattle.machine_rules.specs.Run.{Run}
use Rattle.machine_rules.specs.Stalled.{Setting}
use Rattle.machine_rules.specs.Step.{Step}

-- after a step from a state in order each spawned work is there still
unfoldable pub SpawnsStay : Type 0
SpawnsStay = (x : Setting) (s : State) (l : Label) (t : State) → InOrder x.component s → Step x s l t →
    (i : ℕ) → is_spawn i s.core ≡ true → is_spawn i t.core ≡ true

-- and after a run
unfoldable pub RunsKeepSpawns : Type 0
RunsKeepSpawns = (x : Setting) (s : State) (ls : List Label) (t : State) → InOrder x.component s → Run x s ls t →
    (i : ℕ) → is_spawn i s.core ≡ true → is_spawn i t.core ≡ true
