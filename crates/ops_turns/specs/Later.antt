-- What steps keep of the ids that a host has.
use Rattle.std.specs.Prelude.{None, true, ℕ, ◌≡◌, ◌≤◌}
use Rattle.machine_data.specs.Maps.{get}
use Rattle.ops_guests.specs.Works.{NamesWorks}
use Rattle.machine_rules.specs.MainOps.{is_spawn}
use Rattle.core_primitives.specs.StateView.{StateView}

-- Each id of a work names it still, unless the work is gone. None that is gone comes back, and no number is given twice. A spawned work
-- is there still.
pub record WorksLast (s t : StateView) : Type 0 where
  pub names : NamesWorks s t
  pub made : s.core.made.works ≤ t.core.made.works
  pub gone : (i : ℕ) → i ≤ s.core.made.works → get s.core.works i ≡ None → get t.core.works i ≡ None
  pub spawns : (i : ℕ) → is_spawn i s.core ≡ true → is_spawn i t.core ≡ true

-- no work is changed
pub record SameWorks (s t : StateView) : Type 0 where
  pub works : t.core.works ≡ s.core.works
  pub made : t.core.made ≡ s.core.made
  pub tags : t.tags ≡ s.tags

-- the same groups are tracked
abbrev pub TracksSame : StateView → StateView → Type 0
TracksSame s t = t.tags.tracked ≡ s.tags.tracked
