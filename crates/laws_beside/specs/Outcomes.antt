-- What a run has resulted in, and what one beside aborters has resulted in.
use Rattle.std.specs.Prelude.{List, None, Some, [], false, length, true, ℕ, ◌&&◌, ◌++◌, ◌≡◌}
use Rattle.laws_beside.specs.Laws.{waiting}
use Rattle.laws_beside.specs.Wide.{IsWideOutcome, Wide, is_past}
use Rattle.machine_data.specs.Core.{State}
use Rattle.machine_data.specs.declared.label.Label.{Label}
use Rattle.machine_data.specs.declared.outcome.Outcome.{Outcome}
use Rattle.machine_data.specs.declared.outcome.Outcome.TheVariants as outcome
use Rattle.machine_rules.specs.Outcome.{IsOutcome, is_at_rest, last_outcome}
use Rattle.machine_rules.specs.Stalled.{Setting, is_stalled}

-- What a run of these labels to t has resulted in: an end that its last label gives, a state at rest, or neither.
pub data CameTo (x : Setting) (t : State) (ls : List Label) (o : Outcome) : Type 0 where
  Ends : last_outcome ls ≡ Some o → CameTo x t ls o
  Rests : last_outcome ls ≡ None → o ≡ outcome.Idle → is_at_rest x t ≡ true → CameTo x t ls o
  GoesOn : last_outcome ls ≡ None → o ≡ outcome.OutOfSteps → is_at_rest x t ≡ false → CameTo x t ls o

abbrev pub RunsComeTo : Type 0
RunsComeTo = (x : Setting) (t : State) (ls : List Label) (steps : ℕ) (o : Outcome) → IsOutcome x t ls steps o → CameTo x t ls o

-- so it has behind labels that end no run
abbrev pub RunsComeToBehind : Type 0
RunsComeToBehind =
    (x : Setting) (t : State) (ks ls : List Label) (o : Outcome) → last_outcome ks ≡ None → CameTo x t ls o → CameTo x t (ks ++ ls) o

-- where no stalled state is a deadlock, each is at rest
abbrev pub WaitingRests : Type 0
WaitingRests = (x : Setting) (t : State) → is_at_rest (waiting x) t ≡ is_stalled x t

-- the outcome of a run beside aborters: what its last label gives; idle at rest, past the last round; else out of steps
abbrev pub WideOutcomes : Type 0
WideOutcomes =
    (x : Setting) (w : Wide) (ls : List Label) (steps : ℕ) →
    ((o : Outcome) → last_outcome ls ≡ Some o → IsWideOutcome x w ls steps o)
    × ((last_outcome ls ≡ None → is_past w.round ≡ true → is_at_rest x w.state ≡ true → IsWideOutcome x w ls steps outcome.Idle)
    × (last_outcome ls ≡ None → (is_past w.round && is_at_rest x w.state) ≡ false → length ls ≡ steps →
    IsWideOutcome x w ls steps outcome.OutOfSteps))

-- a run that has come to no end has used up its steps
abbrev pub OpenRunsUseUp : Type 0
OpenRunsUseUp = (x : Setting) (t : State) (ls : List Label) (steps : ℕ) → IsOutcome x t ls steps outcome.OutOfSteps → length ls ≡ steps

-- a run from a state that isn't at rest has a label, if it has a step
abbrev pub RunsShowALabel : Type 0
RunsShowALabel = (x : Setting) (t : State) (ls : List Label) (o : Outcome) → is_at_rest x t ≡ false → ls ≡ [] → IsOutcome x t ls 1 o → ⊥

-- no label gives that the steps are used up, nor that nothing can go on
abbrev pub NoLabelUsesUp : Type 0
NoLabelUsesUp = (ls : List Label) → last_outcome ls ≡ Some outcome.OutOfSteps → ⊥

abbrev pub NoLabelRests : Type 0
NoLabelRests = (ls : List Label) → last_outcome ls ≡ Some outcome.Idle → ⊥
