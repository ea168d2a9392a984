-- A step that shows no choice, in a turn in which no thread runs, picks what comes first.
use Rattle.std.specs.Prelude.{ℕ, ◌≡◌}
use Rattle.machine_data.specs.Core.{State}
use Rattle.machine_data.specs.declared.label.Label.{Label}
use Rattle.machine_data.specs.declared.records.Turn.{Turn}
use Rattle.machine_rules.specs.Picks.{Picks, Preference, Silent, StepIn, TurnStepIn}
use Rattle.machine_rules.specs.Stalled.{Setting}
use Rattle.machine_rules.specs.Step.{Step, TurnStep}
use Rattle.ops_guests.proofs.CalmLemmas.{silent_shows}

-- no thread runs in the turn
abbrev pub IsNoRun : Turn → Type 0
IsNoRun (Turn.Run n) = ⊥
IsNoRun _ = Unit {0}

turn_in : (p : Preference) (x : Setting) (s : State) (q : Turn) (l : Label) (t : State) → IsNoRun q → TurnStep x s q l t → TurnStepIn p x s q l t
turn_in p x s Turn.Main l t none step = step
turn_in p x s (Turn.Futures k) l t none step = step
turn_in p x s (Turn.Take ended) l t none step = step
turn_in p x s (Turn.Run n) l t none step = absurd none
turn_in p x s Turn.Over l t none step = step

pub quiet_picks : (p : Preference) (x : Setting) (s : State) (l : Label) (t : State) → IsNoRun s.turn → Silent l → Step x s l t → Picks p x s l t
unfolding Step StepIn
quiet_picks p x s l t none silent step = record { shows = silent_shows p s.core l silent; step = turn_in p x s s.turn l t none step }
