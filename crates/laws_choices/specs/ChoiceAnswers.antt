-- What running a scenario's state under a list of choices may result in.
use Rattle.laws_choices.specs.Offer.{Chosen, FitsOffer, is_open}
use Rattle.laws_choices.specs.Offers.{offer}
use Rattle.laws_choices.specs.Runs.{RunBy}
use Rattle.laws_choices.specs.Steps.{IsScripted}
use Rattle.std.specs.Prelude.{List, None, [], length, true, ℕ, ◌+◌, ◌≤◌, ◌∷◌, ◌≡◌}
use Rattle.laws_states.specs.Settled.{IsSettled, NoneOpen}
use Rattle.laws_states.specs.Order.{InOrder}
use Rattle.machine_data.specs.Core.{State}
use Rattle.machine_data.specs.declared.label.Label.{Label}
use Rattle.machine_data.specs.declared.outcome.Outcome.{Outcome}
use Rattle.machine_rules.specs.Outcome.{IsOutcome, outcome_of}
use Rattle.machine_rules.specs.Run.{Run}
use Rattle.machine_rules.specs.Scripts.{HasOpen}
use Rattle.machine_rules.specs.Stalled.{Setting}

-- What a run under choices results in.
pub data Answer : Type 0 where
  -- it has this outcome, and has used so many choices
  Reports : (trace : List Label) → (outcome : Outcome) → (used : ℕ) → Answer
  -- the k-th choice doesn't fit at its step
  Wrong : (k : ℕ) → Answer
  -- after n labels the next step is open, and no choice is left
  Short : (n : ℕ) → Answer

-- A run of these labels to t has no outcome yet, and its next step is open.
pub record IsOpenAt (x : Setting) (steps : ℕ) (ls : List Label) (t : State) : Type 0 where
  pub unended : outcome_of x t ls steps ≡ None
  pub offers : is_open (offer x t) ≡ true

-- the run that has these labels, is in t and has left these choices has ended so
abbrev pub HasCome : Setting → ℕ → List Chosen → List Label → State → List Chosen → Answer → Type 0
HasCome x steps cs ls t left (Reports trace o used) = (ls ≡ trace) × (IsOutcome x t ls steps o × (used + length left ≡ length cs))
HasCome x steps cs ls t left (Wrong k) =
    (c : Chosen) × ((rest : List Chosen) ×
    ((left ≡ c ∷ rest) × (IsOpenAt x steps ls t × ((k + length rest ≡ length cs) × (FitsOffer c (offer x t) → ⊥)))))
HasCome x steps cs ls t left (Short n) = (left ≡ []) × (IsOpenAt x steps ls t × (length ls ≡ n))

-- From s a run under the choices, of at most so many steps, results in this.
pub record ComesTo (x : Setting) (s : State) (steps : ℕ) (cs : List Chosen) (a : Answer) : Type 0 where
  pub labels : List Label
  pub last : State
  pub left : List Chosen
  pub run : RunBy x s cs labels last left
  pub within : length labels ≤ steps
  pub has_come : HasCome x steps cs labels last left a

-- where no host of the component is open, it results in one thing alone
unfoldable pub AnswersAreOne : Type 0
AnswersAreOne = (x : Setting) (s : State) → (HasOpen x.component → ⊥) → InOrder x.component s → IsScripted s.main → (steps : ℕ) (cs : List Chosen) (a b : Answer) →
    ComesTo x s steps cs a → ComesTo x s steps cs b → a ≡ b

-- each run of a text from a state in order that has an outcome is what the run under some choices results in
unfoldable pub RunIsReported : Type 0
RunIsReported = (x : Setting) (s : State) → IsSettled x.component s.main → NoneOpen s.core → InOrder x.component s → (steps : ℕ) (ls : List Label) (t : State) (o : Outcome) →
    Run x s ls t → length ls ≤ steps → IsOutcome x t ls steps o → (cs : List Chosen) × ComesTo x s steps cs (Reports ls o (length cs))
