-- What handles of sets name.
use Rattle.std.specs.Prelude.{Some, ℕ, ◌≡◌}
use Rattle.laws_states.specs.Settings.{Reached}
use Rattle.machine_data.specs.Core.{State}
use Rattle.machine_data.specs.Read.{set_at, set_instance}
use Rattle.machine_rules.specs.Stalled.{Setting}

-- in a reached state a handle of a set names a set of the handle's instance
unfoldable pub SetsNamedAtHome : Type 0
SetsNamedAtHome = (x : Setting) (s : State) → Reached x s → (i h n : ℕ) → set_at i h s.core ≡ Some n → set_instance n s.core ≡ i

-- no two handles name one set
unfoldable pub SetsNamedOnce : Type 0
SetsNamedOnce = (x : Setting) (s : State) → Reached x s → (i j h g n : ℕ) → set_at i h s.core ≡ Some n → set_at j g s.core ≡ Some n →
    (i ≡ j) × (h ≡ g)
