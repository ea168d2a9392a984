-- The run that a list of choices makes.
use Rattle.laws_choices.specs.Offer.{Chosen, FitsOffer, Offer, first_choice, is_open}
use Rattle.laws_choices.specs.Offers.{offer}
use Rattle.laws_choices.specs.Steps.{IsScripted, StepBy}
use Rattle.std.specs.Prelude.{Bool, List, None, [], false, length, true, ℕ, ◌++◌, ◌<◌, ◌∷◌, ◌≡◌}
use Rattle.laws_states.specs.Settled.{IsSettled, NoneOpen}
use Rattle.laws_states.specs.Order.{InOrder}
use Rattle.machine_data.specs.Core.{State}
use Rattle.machine_data.specs.declared.label.Label.{Label}
use Rattle.machine_rules.specs.Outcome.{outcome_of}
use Rattle.machine_rules.specs.Run.{Run}
use Rattle.machine_rules.specs.Scripts.{HasOpen}
use Rattle.machine_rules.specs.Stalled.{Setting}
use Rattle.machine_rules.specs.Step.{Step}

-- of an open offer the next of the given choices is taken, of another one the only one that fits
abbrev pub NextIs : Bool → Offer → List Chosen → Chosen → List Chosen → Type 0
NextIs true o cs c rest = cs ≡ c ∷ rest
NextIs false o cs c rest = (c ≡ first_choice o) × (cs ≡ rest)

-- the choice that the next step from s takes fits the offer, and these are left of the given ones
abbrev pub TakesNext : Setting → State → List Chosen → Chosen → List Chosen → Type 0
TakesNext x s cs c rest = NextIs (is_open (offer x s)) (offer x s) cs c rest × FitsOffer c (offer x s)

-- From s the k-th step with an open offer takes the k-th of the choices, and each other step the only one: so the labels come, the run
-- is in t, and these choices are left.
abbrev pub RunBy : Setting → State → List Chosen → List Label → State → List Chosen → Type 0
RunBy x s cs [] t left = (t ≡ s) × (left ≡ cs)
RunBy x s cs (l ∷ ls) t left =
    (c : Chosen) × ((rest : List Chosen) × ((m : State) × (TakesNext x s cs c rest × (StepBy x c s l m × RunBy x m rest ls t left))))

-- ---- Its laws

-- it is a run, where no host of the component is open
unfoldable pub RunByIsRun : Type 0
RunByIsRun = (x : Setting) (s : State) → (HasOpen x.component → ⊥) → InOrder x.component s → (cs : List Chosen) (ls : List Label) (t : State)
    (left : List Chosen) → RunBy x s cs ls t left → Run x s ls t

-- each run of a text is made by some choices
unfoldable pub RunHasChoices : Type 0
RunHasChoices = (x : Setting) (s : State) → IsSettled x.component s.main → NoneOpen s.core → InOrder x.component s → (ls : List Label) (t : State) → Run x s ls t →
    (cs : List Chosen) × RunBy x s cs ls t []

-- of one list of choices there is one run of each length
unfoldable pub RunDetermined : Type 0
RunDetermined = (x : Setting) (s : State) → IsScripted s.main → (cs : List Chosen) (ls ks : List Label) (t u : State)
    (left over : List Chosen) → length ls ≡ length ks → RunBy x s cs ls t left → RunBy x s cs ks u over →
    (ls ≡ ks) × ((t ≡ u) × (left ≡ over))

-- what is left isn't looked at
unfoldable pub RestUnseen : Type 0
RestUnseen = (x : Setting) (s : State) (cs : List Chosen) (ls : List Label) (t : State) (left more : List Chosen) →
    RunBy x s cs ls t left → RunBy x s (cs ++ more) ls t (left ++ more)

-- where a step is lawful, a run with fewer labels than there are steps hasn't resulted in anything
unfoldable pub GoingHasNoOutcome : Type 0
GoingHasNoOutcome = (x : Setting) (r s : State) (ls : List Label) (l : Label) (t : State) (steps : ℕ) → length ls < steps →
    Run x r ls s → Step x s l t → outcome_of x s ls steps ≡ None
