-- The callers of a foot, one after another, and what their moves ask.
use Rattle.std.specs.Prelude.{Some, [], false, ℕ, ◌+◌, ◌==◌, ◌≡◌, ◌≤◌}
use Rattle.machine_data.specs.Core.{Core}
use Rattle.machine_data.specs.Moves.{behind, resumed_all}
use Rattle.machine_data.specs.Read.{callers_of, foot_of}
use Rattle.machine_data.specs.Write.{set_callers}
use Rattle.machine_rules.specs.Places.{entries, times}

-- the callers of f are resumed, oldest first
unfoldable pub resumed_from : ℕ → Core → Core
resumed_from f s = resumed_all (callers_of f s) (set_callers f [] s)

-- the callers of f go behind g, oldest first
unfoldable pub behind_from : ℕ → ℕ → Core → Core
behind_from f g s = behind g (callers_of f s) (set_callers f [] s)

-- A thread is once among the callers of f, or has one entry at high or low, or neither.
abbrev pub AreCallersUnqueued : ℕ → Core → Type 0
AreCallersUnqueued f s = (k : ℕ) → times k (callers_of f s) + (entries k s.queues.high + entries k s.queues.low) ≤ 1

-- Who is behind f is behind nobody else.
abbrev pub AreCallersAlone : ℕ → Core → Type 0
AreCallersAlone f s = (k g : ℕ) → (g == f) ≡ false → times k (callers_of f s) + times k (callers_of g s) ≤ 1

-- The callers of f may go behind another thread g.
pub record MayPass (f g : ℕ) (s : Core) : Type 0 where
  pub apart : (g == f) ≡ false
  pub once : (k : ℕ) → times k (callers_of f s) ≤ 1
  pub alone : AreCallersAlone f s

-- A strand with foot f may stop: what is at switch is of another strand.
pub record MayStop (f : ℕ) (s : Core) : Type 0 where
  pub unqueued : AreCallersUnqueued f s
  pub alone : AreCallersAlone f s
  pub apart : (m : ℕ) → s.queues.switch ≡ Some m → (foot_of m s == f) ≡ false
