-- What one step of a run under choices comes to.
use Rattle.choice_run.specs.declared.run.Stepped.TheVariants as stepped
use Rattle.choice_run.specs.declared.run.Stepped.{Stepped}
use Rattle.laws_choices.specs.Offer.{Chosen, FitsOffer, Offer, first_choice, is_open}
use Rattle.laws_choices.specs.Offers.{offer}
use Rattle.laws_choices.specs.Steps.{StepBy}
use Rattle.laws_states.specs.Order as order
use Rattle.machine_data.specs.declared.label.Label.{Label}
use Rattle.ops_turns.specs.Turn.{given}
use Rattle.std.specs.Prelude.{Bool, List, None, Option, Some, [], false, true, ℕ, ◌+◌, ◌++◌, ◌∷◌, ◌≡◌, ◌≤◌}
use Rattle.trace_machine.specs.Machines.{IsKept, outcome_at, setting_at, state_of, turn_at}
use Rattle.trace_machine.specs.declared.machine.Machine.{Machine}

-- the run has come to nothing before its steps are used up
abbrev pub IsUnended : Machine → Type 0
IsUnended m = outcome_at m false ≡ None

-- The choice made the step with this label.
pub record IsStepOf (m : Machine) (c : Chosen) (l : Label) (new : Machine) : Type 0 where
  pub fits : FitsOffer c (offer (setting_at m) (state_of m))
  pub step : StepBy (setting_at m) c (state_of m) l (state_of new)
  pub scenario : new.scenario ≡ m.scenario
  pub last : new.last ≡ Some l
  pub numbers : order.is_open (turn_at new) ≡ true → given new.store.state.core ≤ given m.store.state.core + 2
  pub opened : order.is_open (turn_at m) ≡ true
  pub kept : IsKept new

-- The choice made a step, whose label is the last one now.
pub record HasMade (m : Machine) (c : Chosen) (new : Machine) (before after : List Label) : Type 0 where
  pub label : Label
  pub step : IsStepOf m c label new
  pub more : after ≡ before ++ label ∷ []

-- whether the choice made a step: it makes none if it doesn't fit
abbrev pub Makes : Machine → Chosen → Bool → Machine → (before after : List Label) → Type 0
Makes m c true new before after = HasMade m c new before after
Makes m c false new before after = FitsOffer c (offer (setting_at m) (state_of m)) → ⊥

-- an open offer takes the next choice, another one the only one that fits
abbrev pub IsNext : Bool → Offer → Option Chosen → Chosen → Type 0
IsNext true o next c = next ≡ Some c
IsNext false o next c = c ≡ first_choice o

-- A step was made, which has taken the next choice or not.
pub record IsChosenStep (m : Machine) (next : Option Chosen) (took : Bool) (new : Machine) (before after : List Label) : Type 0 where
  pub choice : Chosen
  pub offers : is_open (offer (setting_at m) (state_of m)) ≡ took
  pub is : IsNext took (offer (setting_at m) (state_of m)) next choice
  pub made : HasMade m choice new before after

-- The next choice doesn't fit an open offer.
pub record IsUnfit (m : Machine) (next : Option Chosen) : Type 0 where
  pub choice : Chosen
  pub is : next ≡ Some choice
  pub offers : is_open (offer (setting_at m) (state_of m)) ≡ true
  pub unfit : FitsOffer choice (offer (setting_at m) (state_of m)) → ⊥

-- No choice is left for an open offer; the machine is as before.
pub record IsLeft (m : Machine) (next : Option Chosen) (new : Machine) : Type 0 where
  pub none : next ≡ None
  pub offers : is_open (offer (setting_at m) (state_of m)) ≡ true
  pub same : new ≡ m

-- what came of a step, and of the labels
abbrev pub StepsChosen : Machine → Option Chosen → Stepped → Machine → (before after : List Label) → Type 0
StepsChosen m next (stepped.Went took) new before after = IsChosenStep m next took new before after
StepsChosen m next stepped.Wrong new before after = IsUnfit m next
StepsChosen m next stepped.Short new before after = IsLeft m next new

-- how many choices were taken
abbrev pub with_one : Bool → ℕ → ℕ
with_one true used = used + 1
with_one false used = used
