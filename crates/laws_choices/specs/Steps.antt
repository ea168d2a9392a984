-- The step that a choice makes.
use Rattle.laws_choices.specs.Chooses.{TakesChosen, hides, no_choice}
use Rattle.laws_choices.specs.Offer.{Chosen, FitsOffer, is_open, shown}
use Rattle.laws_choices.specs.Offers.{offer}
use Rattle.std.specs.Prelude.{Bool, None, Option, Some, false, true, ℕ, ◌≡◌}
use Rattle.laws_states.specs.Settled.{NoneOpen}
use Rattle.laws_states.specs.Order.{WaitsAtHome}
use Rattle.machine_data.specs.Core.{Core, Main, Scripted, State, Unscripted}
use Rattle.machine_data.specs.Labels.{Choice, choice_of}
use Rattle.machine_data.specs.Read.{next_entry}
use Rattle.machine_data.specs.declared.label.Label.{Label}
use Rattle.machine_data.specs.declared.records.Entry.{Entry}
use Rattle.machine_data.specs.declared.records.Turn.TheVariants as turn
use Rattle.machine_data.specs.declared.records.Turn.{Turn}
use Rattle.machine_data.specs.declared.statuses.Mark.{Mark}
use Rattle.machine_rules.specs.Progress.{Asks, OneOf, Ordered, Progress}
use Rattle.machine_rules.specs.Scripts.{HasOpen}
use Rattle.machine_rules.specs.Stalled.{Setting}
use Rattle.machine_rules.specs.Step.{EmptyStep, Polled, Progresses, Step, TurnStep, did, entry_number}
use Rattle.machine_rules.specs.Takes.{popped, take_rule}
use Rattle.machine_rules.specs.Works.{Asked, Poll, next_polled, poll_of}

-- as `Progresses`, with the chosen release, and with the chosen thread where a cancel takes one; what an open work answers isn't chosen
abbrev pub ProgressesBy : Chosen → State → Core → ℕ → Progress → Label → State → Type 0
ProgressesBy c s base n (Asks next) l t = ⊥
ProgressesBy c s base n (Ordered ns next) l t = ProgressesBy c s base n (next c.release) l t
ProgressesBy c s base n (OneOf ns next) l t = (m : ℕ) × (TakesChosen c ns m × ProgressesBy c s base n (next m) l t)
ProgressesBy c s base n p l t = Progresses s base n p l t

abbrev pub TakenBy : Setting → Chosen → State → Option (Mark × Entry) → Label → State → Type 0
TakenBy x c s None l t = EmptyStep x s l t
TakenBy x c s (Some e) l t =
    let base = popped e.0 s.core in ProgressesBy c s base (entry_number e.1) (take_rule e.0 (shown c) base e.1) l t

abbrev pub PolledBy : State → ℕ → Poll → Label → State → Type 0
PolledBy s i (Asked next) l t = ⊥
PolledBy s i p l t = Polled s i p l t

abbrev pub FutureBy : State → Option ℕ → Label → State → Type 0
FutureBy s None l t = ⊥
FutureBy s (Some i) l t = PolledBy s i (poll_of i s.core) l t

abbrev pub TurnBy : Setting → Chosen → State → Turn → Label → State → Type 0
TurnBy x c s (turn.Run n) l t = ProgressesBy c s s.core n (did x.component n s.core (shown c)) l t
TurnBy x c s (turn.Take ended) l t = TakenBy x c s (next_entry s.core) l t
TurnBy x c s (turn.Futures n) l t = FutureBy s (next_polled n s.core) l t
TurnBy x c s p l t = TurnStep x s p l t

-- the step that this choice makes shows the label and leads to t
unfoldable pub StepBy : Setting → Chosen → State → Label → State → Type 0
StepBy x c s l t = TurnBy x c s s.turn l t

-- main is a script, whose ops leave no choice
abbrev pub IsScripted : Main → Type 0
IsScripted (Scripted p) = Unit {0}
IsScripted Unscripted = ⊥

-- ---- Its laws

-- an open offer is fitted by two choices at least
unfoldable pub OpenHasTwo : Type 0
OpenHasTwo = (x : Setting) (s : State) → is_open (offer x s) ≡ true →
    (c : Chosen) × ((d : Chosen) × (FitsOffer c (offer x s) × (FitsOffer d (offer x s) × (c ≡ d → ⊥))))

-- a choice makes one step: one label, and one next state
unfoldable pub StepDetermined : Type 0
StepDetermined = (x : Setting) (s : State) → IsScripted s.main → (c : Chosen) (l k : Label) (t u : State) →
    StepBy x c s l t → StepBy x c s k u → (l ≡ k) × (t ≡ u)

-- the step takes one of several threads, which its label doesn't show
abbrev pub hides_in : Setting → State → Turn → Bool
hides_in x s (turn.Run n) = hides (did x.component n s.core no_choice)
hides_in x s p = false

-- what the label shows of the choice: nothing where it hides what is taken
abbrev pub told : Bool → Chosen → Choice
told true c = no_choice
told false c = shown c

-- The choice fits what the state offers, the label shows it unless it hides what is taken, and it makes this step.
pub record IsChoiceOf (x : Setting) (s : State) (c : Chosen) (l : Label) (t : State) : Type 0 where
  pub fits : FitsOffer c (offer x s)
  pub shows : choice_of l ≡ told (hides_in x s s.turn) c
  pub makes : StepBy x c s l t

-- No host of the component is open and no work: what a step leaves open is this choice alone.
pub record NothingOpen (x : Setting) (s : State) : Type 0 where
  pub hosts : HasOpen x.component → ⊥
  pub works : NoneOpen s.core

-- then each step is made by such a choice
unfoldable pub StepChooses : Type 0
StepChooses = (x : Setting) (s : State) → NothingOpen x s → WaitsAtHome s.core → (l : Label) (t : State) → Step x s l t →
    (c : Chosen) × IsChoiceOf x s c l t

-- where some label is lawful, each choice that fits makes a step
unfoldable pub ChoiceSteps : Type 0
ChoiceSteps = (x : Setting) (s : State) → NothingOpen x s → WaitsAtHome s.core → (k : Label) (u : State) → Step x s k u →
    (c : Chosen) → FitsOffer c (offer x s) → (l : Label) × ((t : State) × StepBy x c s l t)

-- what a choice that fits makes is a step
unfoldable pub MadeIsStep : Type 0
MadeIsStep = (x : Setting) (s : State) → (HasOpen x.component → ⊥) → WaitsAtHome s.core → (c : Chosen) → FitsOffer c (offer x s) → (l : Label) (t : State) →
    StepBy x c s l t → Step x s l t × IsChoiceOf x s c l t
