-- Runs whose releases go in the order in which threads were held last.
use Rattle.std.specs.Prelude.{List, [], ℕ, ◌∷◌, ◌≡◌}
use Rattle.laws_choices.specs.Offer.{Chosen, FitsOffer}
use Rattle.laws_choices.specs.Offers.{offer}
use Rattle.laws_choices.specs.Steps.{StepBy}
use Rattle.laws_picks.specs.Arrival.{held_after, in_order}
use Rattle.laws_states.specs.Order.{InOrder}
use Rattle.machine_data.specs.Core.{State}
use Rattle.machine_data.specs.declared.label.Label.{Label}
use Rattle.machine_rules.specs.Run.{Run}
use Rattle.machine_rules.specs.Scripts.{HasOpen}
use Rattle.machine_rules.specs.Stalled.{Setting}

-- The choice fits what the state offers, and releases threads in the order in which they were held last.
pub record IsByRelease (x : Setting) (order : List ℕ) (s : State) (c : Chosen) : Type 0 where
  pub fits : FitsOffer c (offer x s)
  pub release : c.release ≡ in_order order (offer x s).held

-- From s, at which threads were held last in this order, the labels come, each release goes in that order, and the run is in t.
abbrev pub RunByRelease : Setting → List ℕ → State → List Label → State → Type 0
RunByRelease x order s [] t = t ≡ s
RunByRelease x order s (l ∷ ls) t =
    (c : Chosen) × ((m : State) × (IsByRelease x order s c × (StepBy x c s l m × RunByRelease x (held_after l order) m ls t)))

-- From a state in order such a run is one of the machine.
unfoldable pub ReleaseIsRun : Type 0
ReleaseIsRun = (x : Setting) (order : List ℕ) (s : State) → (HasOpen x.component → ⊥) → InOrder x.component s →
    (ls : List Label) (t : State) → RunByRelease x order s ls t → Run x s ls t
