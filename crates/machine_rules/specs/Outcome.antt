-- What a run has resulted in.
use Rattle.std.specs.Prelude.{Bool, List, None, Option, Some, [], false, length, not, true, ℕ, ◌&&◌, ◌==◌, ◌||◌, ◌∷◌, ◌≡◌}
use Rattle.machine_data.specs.declared.label.CallLabel.{CallLabel}
use Rattle.machine_data.specs.declared.label.Label.{Label}
use Rattle.machine_data.specs.declared.label.LoopLabel.{LoopLabel}
use Rattle.machine_data.specs.declared.label.MainLabel.{MainLabel}
use Rattle.machine_data.specs.declared.outcome.Outcome.{Outcome}
use Rattle.machine_data.specs.declared.label.CallLabel.TheVariants as call_label
use Rattle.machine_data.specs.declared.label.Label.TheVariants as label
use Rattle.machine_data.specs.declared.label.LoopLabel.TheVariants as loop_label
use Rattle.machine_data.specs.declared.label.MainLabel.TheVariants as main_label
use Rattle.machine_data.specs.declared.outcome.Outcome.TheVariants as outcome
use Rattle.machine_data.specs.Core.{State}
use Rattle.machine_rules.specs.Stalled.{Setting, is_idle_trap, is_stalled}
use Rattle.machine_rules.specs.Works.{has_live_work}

-- the outcome that the last label of a run gives
abbrev pub loop_outcome : LoopLabel → Option Outcome
loop_outcome (loop_label.Trap t n) = Some (outcome.Trap t)
loop_outcome (loop_label.FutureFails i) = Some (outcome.HostFailed i)
loop_outcome (loop_label.Deadlock t) = Some (outcome.Deadlock t)
loop_outcome _ = None

abbrev pub main_outcome : MainLabel → Option Outcome
main_outcome (main_label.Answer v) = Some (outcome.Done v)
main_outcome _ = None

abbrev pub call_outcome : CallLabel → Option Outcome
call_outcome (call_label.Fails n i) = Some (outcome.HostFailed i)
call_outcome _ = None

abbrev pub outcome_of_label : Label → Option Outcome
outcome_of_label (label.Main l) = main_outcome l
outcome_of_label (label.Loop l) = loop_outcome l
outcome_of_label (label.Call l) = call_outcome l
outcome_of_label _ = None

abbrev pub last_outcome : List Label → Option Outcome
last_outcome [] = None
last_outcome (l ∷ []) = outcome_of_label l
last_outcome (l ∷ m ∷ ls) = last_outcome (m ∷ ls)

-- nothing can go on, and this is no deadlock: it is not to trap, or some work is live
unfoldable pub is_at_rest : Setting → State → Bool
is_at_rest x s = is_stalled x s && (not (is_idle_trap x.idle) || has_live_work s.core)

abbrev pub open_outcome : Bool → Bool → Option Outcome
open_outcome true used_up = Some outcome.Idle
open_outcome false true = Some outcome.OutOfSteps
open_outcome false false = None

abbrev pub or_open : Option Outcome → Setting → State → List Label → ℕ → Option Outcome
or_open (Some o) x s labels steps = Some o
or_open None x s labels steps = open_outcome (is_at_rest x s) (length labels == steps)

-- what a run of these labels to s has resulted in: what the last label gives, else idle, else out of steps; nothing if it isn't
-- over
unfoldable pub outcome_of : Setting → State → List Label → ℕ → Option Outcome
outcome_of x s labels steps = or_open (last_outcome labels) x s labels steps

abbrev pub IsOutcome : Setting → State → List Label → ℕ → Outcome → Type 0
IsOutcome x s labels steps o = outcome_of x s labels steps ≡ Some o
