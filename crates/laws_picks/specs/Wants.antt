-- A preference that wants what a choice says, and the step that it leads to.
use Rattle.laws_choices.specs.Offer.{Chosen, FitsOffer}
use Rattle.laws_choices.specs.Offers.{offer}
use Rattle.laws_choices.specs.Steps.{NothingOpen, StepBy}
use Rattle.laws_states.specs.Order.{InOrder}
use Rattle.machine_data.specs.Core.{Core, State}
use Rattle.machine_data.specs.Read.{instance_of, next_entry, subtask_at}
use Rattle.machine_data.specs.declared.label.Label.{Label}
use Rattle.machine_data.specs.declared.records.Turn.TheVariants as turn
use Rattle.machine_data.specs.declared.records.Turn.{Turn}
use Rattle.machine_rules.specs.Picks.{Picks, Preference}
use Rattle.machine_rules.specs.Stalled.{Setting}
use Rattle.machine_rules.specs.Step.{Step, entry_number}
use Rattle.std.specs.Option.{option_map_or}
use Rattle.std.specs.Prelude.{Some, ℕ, ◌≡◌}

-- the thread that runs in the turn, or whose entry is taken; 0 if there is none
abbrev pub chooser_at : Core → Turn → ℕ
chooser_at s (turn.Run n) = n
chooser_at s (turn.Take ended) = option_map_or (λ e. entry_number e.1) (next_entry s) 0
chooser_at s _ = 0

-- What the choice says is wanted: the waiter, the subtask that the instance of the thread names by the handle, and the order of release.
pub record Wants (p : Preference) (s : State) (c : Chosen) : Type 0 where
  pub waiter : (w : ℕ) → c.waiter ≡ Some w → p.waiter ≡ Some w
  pub member : (h : ℕ) → c.member ≡ Some h → p.member ≡ subtask_at (instance_of (chooser_at s.core s.turn) s.core) h s.core
  pub release : p.held ≡ c.release

-- a choice that fits and is wanted makes each step that picks what comes first
unfoldable pub WantedIsChosen : Type 0
WantedIsChosen = (p : Preference) (x : Setting) (s : State) → NothingOpen x s → InOrder x.component s →
    (c : Chosen) → FitsOffer c (offer x s) → Wants p s c → (l : Label) (t : State) → Step x s l t → Picks p x s l t → StepBy x c s l t
