-- What rules choose among, in both directions: what their labels can show, and what is offered.
use Rattle.laws_choices.specs.Offer.{Chosen, FitsOffer, Offer, shown}
use Rattle.laws_choices.specs.Offers.{op_offer, take_offer}
use Rattle.std.specs.Prelude.{Bool, IsPermutation, List, None, Some, [], false, true, ℕ, ◌≡◌}
use Rattle.laws_states.specs.Order.{WaitsAtHome}
use Rattle.machine_data.specs.Core.{Core}
use Rattle.machine_data.specs.Labels.{Choice, choice_of}
use Rattle.machine_data.specs.declared.component.Component.{Component}
use Rattle.machine_data.specs.declared.op.Op.{Op}
use Rattle.machine_data.specs.declared.records.Entry.{Entry}
use Rattle.machine_data.specs.declared.statuses.Mark.{Mark}
use Rattle.machine_rules.specs.Progress.{Asks, Fails, Continues, Never, OneOf, Ordered, Progress, Stops, Traps}
use Rattle.machine_rules.specs.Scripts.{HasOpen}
use Rattle.machine_rules.specs.Step.{is_among, scripted_op_rule}
use Rattle.machine_rules.specs.Takes.{take_rule}

-- nothing is woken, and no member's event is taken
abbrev pub no_choice : Choice
no_choice = record { woken = None; member = None }

-- the label shows the choice; that of a trap and of a failed host shows none
abbrev pub ShowsChoice : Choice → Progress → Type 0
ShowsChoice ch (Continues l new m) = choice_of l ≡ ch
ShowsChoice ch (Stops l new) = choice_of l ≡ ch
ShowsChoice ch (Traps t) = no_choice ≡ ch
ShowsChoice ch (Fails i) = no_choice ≡ ch
ShowsChoice ch Never = ⊥
ShowsChoice ch (Ordered ns next) = ⊥
ShowsChoice ch (OneOf ns next) = ⊥
ShowsChoice ch (Asks next) = ⊥

-- a cancel takes this thread, where it takes one of several
abbrev pub TakesChosen : Chosen → List ℕ → ℕ → Type 0
TakesChosen c ns m = (c.waiter ≡ Some m) × (is_among m ns ≡ true)

-- the step may come about so: its label shows what was chosen, but for a thread that a cancel takes, and threads are released in the chosen
-- order, where any are
abbrev pub MayCome : Chosen → Progress → Type 0
MayCome c (OneOf ns next) =
    (m : ℕ) × (TakesChosen c ns m × ((c.member ≡ None) × ((c.release ≡ []) × ShowsChoice no_choice (next m))))
MayCome c (Ordered ns next) = IsPermutation ns c.release × ShowsChoice (shown c) (next c.release)
MayCome c p = ShowsChoice (shown c) p × (c.release ≡ [])

-- some label of it is lawful
abbrev pub IsLawful : Progress → Type 0
IsLawful Never = ⊥
IsLawful _ = Unit {0}

-- no order is left to it, no thread that a cancel takes, and no answer of an open work
abbrev pub IsUnordered : Progress → Type 0
IsUnordered (Ordered ns next) = ⊥
IsUnordered (OneOf ns next) = ⊥
IsUnordered (Asks next) = ⊥
IsUnordered _ = Unit {0}

-- it takes one of several threads, which its label doesn't show
abbrev pub hides : Progress → Bool
hides (OneOf ns next) = true
hides _ = false

-- it releases threads once at most, or takes one of several and shows nothing, and asks no open work
abbrev pub ReleasesOnce : Progress → Type 0
ReleasesOnce (Ordered ns next) = (order : List ℕ) → IsUnordered (next order)
ReleasesOnce (OneOf ns next) = (m : ℕ) → ShowsChoice no_choice (next m)
ReleasesOnce (Asks next) = ⊥
ReleasesOnce _ = Unit {0}

-- The rule chooses among what is offered. What a lawful label shows fits the offer; where some label is lawful, each choice that fits is
-- shown by a lawful one. Where it takes one of several threads, that doesn't hang on what a label shows.
pub record Chooses (o : Offer) (row : Choice → Progress) : Type 0 where
  pub only : (c : Chosen) → MayCome c (row (shown c)) → FitsOffer c o
  pub each : (b : Choice) (c : Chosen) → IsLawful (row b) → FitsOffer c o → MayCome c (row (shown c))
  pub once : (b : Choice) → ReleasesOnce (row b)
  pub takes : (b d : Choice) → hides (row b) ≡ true → row d ≡ row b

-- the rules of all ops do, where threads wait on sets of their own instances and no host is open: what an open one answers is no choice that
-- a list could make
unfoldable pub RulesChoose : Type 0
RulesChoose = (c : Component) (n : ℕ) (s : Core) (o : Op) → (HasOpen c → ⊥) → WaitsAtHome s → Chooses (op_offer n s o) (λ ch. scripted_op_rule c n s ch o)

-- so do the rules of takings, in every core
unfoldable pub TakingsChoose : Type 0
TakingsChoose = (m : Mark) (e : Entry) (s : Core) → Chooses (take_offer s e) (λ ch. take_rule m ch s e)
