-- What contracts see of a machine, and what its calls say.
use Rattle.choice_offers.specs.Choices.{chosen_of}
use Rattle.choice_offers.specs.Listings.{HandlesKnown, IsListed}
use Rattle.choice_offers.specs.Spots.{Offers}
use Rattle.choice_offers.specs.Times.{AreTimed, AreTimesOf, IsLast}
use Rattle.choice_offers.specs.declared.choice.Choice.{Choice}
use Rattle.choice_offers.specs.declared.choice.Offer.{Offer}
use Rattle.choice_offers.specs.declared.held.HeldOrder.{HeldOrder}
use Rattle.choice_offers.specs.declared.offered.Offered.{Offered}
use Rattle.choice_offers.specs.declared.spots.Spot.{Spot}
use Rattle.core_primitives.specs.Preferences.{preference}
use Rattle.core_primitives.specs.StateView.{with_wanted}
use Rattle.laws_choices.specs.Offer as offers
use Rattle.laws_choices.specs.Offer.{FitsOffer, first_choice}
use Rattle.laws_choices.specs.Offers.{offer}
use Rattle.laws_choices.specs.Steps.{StepBy}
use Rattle.choice_offers.specs.Held.{IsOnce, KnowsHeld}
use Rattle.laws_picks.specs.Arrival.{held_after, in_order}
use Rattle.laws_picks.specs.Wants.{Wants, chooser_at}
use Rattle.laws_states.specs.Order.{is_open}
use Rattle.laws_states.specs.Settled.{NoneOpen}
use Rattle.machine_data.specs.Core.{State}
use Rattle.machine_data.specs.declared.component.HostDef.{HostDef}
use Rattle.machine_data.specs.declared.label.Label.TheVariants as label
use Rattle.machine_data.specs.declared.label.Label.{Label}
use Rattle.machine_data.specs.declared.label.TakeLabel.TheVariants as take_label
use Rattle.machine_data.specs.declared.label.TakeLabel.{TakeLabel}
use Rattle.machine_data.specs.declared.outcome.Outcome.{Outcome}
use Rattle.machine_data.specs.declared.records.Turn.{Turn}
use Rattle.machine_rules.specs.Outcome.{is_at_rest, open_outcome, outcome_of_label}
use Rattle.machine_rules.specs.Picks.{Picks}
use Rattle.machine_rules.specs.Scripts.{HasOpen}
use Rattle.machine_rules.specs.Stalled.{Setting, setting_of}
use Rattle.machine_rules.specs.Step.{Step}
use Rattle.ops_turns.specs.StepResult.{turn_of}
use Rattle.ops_turns.specs.Turn.{given, idle_line_of, state_at}
use Rattle.std.specs.Prelude.{Bool, IsPermutation, List, None, Option, Some, [], false, is_none, option_and_then, true, ℕ, ◌+◌, ◌≡◌, ◌≤◌}
use Rattle.store_works.specs.declared.scripted.ScriptedHost.{ScriptedHost}
use Rattle.task_loop.specs.HasRun.{MayTakeTurn, at}
use Rattle.task_run.specs.Headline.{machine_scenario}
use Rattle.task_run.specs.Runnable.{IsRunnable}
use Rattle.task_run.specs.Says.{script_says}
use Rattle.task_run.specs.Script.{machine_ops, part_of, script_of}
use Rattle.trace_machine.specs.declared.machine.Machine.{Machine}
use Rattle.trace_machine.specs.declared.machine.Only.TheVariants as only
use Rattle.trace_machine.specs.declared.machine.Only.{Only}
use Rattle.trace_machine.specs.declared.machine.Went.TheVariants as went
use Rattle.trace_machine.specs.declared.machine.Went.{Went}

-- ---- The state

-- whose turn it is
abbrev pub turn_at : Machine → Turn
turn_at m = turn_of m.run.last

-- the machine's state
abbrev pub state_of : Machine → State
state_of m = state_at m.store.state.core (part_of m.main) (turn_at m)

-- what its steps are seen beside
abbrev pub setting_at : Machine → Setting
setting_at m = setting_of (machine_scenario m.scenario.now)

-- the thread that chooses in its next step, 0 if none does
abbrev pub chooser_of : Machine → ℕ
chooser_of m = chooser_at m.store.state.core (turn_at m)

-- what a host goes through still
abbrev pub scripted_course : ScriptedHost → HostDef
scripted_course w = w.left

-- the loop may take a turn
abbrev pub MayGoOn : Machine → Type 0
MayGoOn m = MayTakeTurn script_says scripted_course m.scenario.now.component (setting_at m) (at m.run m.main m.store [])

-- What a machine keeps: its scenario can be run, without an open host, and its main and its run are of it; while the run isn't over the
-- loop may take a turn; no work is open; what handles name says so; its last label says whether the run is over; and each time is known.
pub record IsKept (m : Machine) : Type 0 where
  pub runnable : IsRunnable m.scenario.now
  pub hosts : HasOpen m.scenario.now.component → ⊥
  pub script : script_of m.main ≡ machine_ops m.scenario.now.main
  pub idle : idle_line_of m.run.trap_on_idle ≡ m.scenario.now.idle
  pub turn : m.turn ≡ turn_at m
  pub may_go_on : is_open (turn_at m) ≡ true → MayGoOn m
  pub works : NoneOpen m.store.state.core
  pub named : HandlesKnown m.store.state.core
  pub over : is_none (option_and_then outcome_of_label m.last) ≡ is_open (turn_at m)
  pub timed : AreTimed m.held

-- at most 2^60 numbers were given, as long as the run isn't over
abbrev pub HasNumbers : Machine → Type 0
HasNumbers m = is_open (turn_at m) ≡ true → given m.store.state.core ≤ 1152921504606846976

-- ---- Who was held last

-- the thread that is held by the taking
abbrev pub held_by : TakeLabel → Option ℕ
held_by (take_label.Held m n) = Some n
held_by (take_label.HeldWakes m n w) = Some n
held_by _ = None

-- the thread that the label says is held
abbrev pub held_in : Label → Option ℕ
held_in (label.Take l) = held_by l
held_in _ = None

-- by the thread that a label says is held, if it says so of one
abbrev pub HoldsLast : Option ℕ → HeldOrder → HeldOrder → Type 0
HoldsLast None old new = new ≡ old
HoldsLast (Some n) old new = IsLast n old new

-- The machine knows in which order threads were held last: each is in the list once, and has a later time than those before it; and each
-- thread that is held is in the list.
pub record KnowsOrder (m : Machine) (order : List ℕ) : Type 0 where
  pub once : IsOnce order
  pub listed : KnowsHeld order m.store.state.core
  pub times : AreTimesOf order m.held

-- ---- What its next step chooses

-- Among this the next step chooses, by ids, where it chooses at this spot.
pub record IsOffered (m : Machine) (o : Offered) : Type 0 where
  pub spot : Spot
  pub offers : Offers m.store.state (chooser_of m) spot (offer (setting_at m) (state_of m))
  pub listed : IsListed m.store.state (chooser_of m) spot m.held o

-- Among this the next step chooses; the held threads are listed in the order in which they were held last.
pub record IsOfferOf (m : Machine) (o : Offer) : Type 0 where
  pub waiters : o.waiters ≡ (offer (setting_at m) (state_of m)).waiters
  pub members : o.members ≡ (offer (setting_at m) (state_of m)).members
  pub permuted : IsPermutation (offer (setting_at m) (state_of m)).held o.held
  pub held : (order : List ℕ) → KnowsOrder m order → o.held ≡ in_order order (offer (setting_at m) (state_of m)).held

-- ---- Its steps

-- It is as before, but that its core wants what the choice says.
pub record HasWanted (m : Machine) (c : Choice) (new : Machine) : Type 0 where
  pub same : new ≡ record m { store = record m.store { state = with_wanted new.store.state.tags.wanted m.store.state } }
  pub wants : Wants (preference new.store.state) (state_of m) (chosen_of c)

-- A step with this label was made, which picks first what is wanted.
pub record GoesOn (m : Machine) (l : Label) (new : Machine) : Type 0 where
  pub step : Step (setting_at m) (state_of m) l (state_of new)
  pub picks : Picks (preference m.store.state) (setting_at m) (state_of m) l (state_of new)
  pub scenario : new.scenario ≡ m.scenario
  pub last : new.last ≡ Some l
  pub held : (order : List ℕ) → KnowsOrder m order → KnowsOrder new (held_after l order)
  pub numbers : is_open (turn_at new) ≡ true → given new.store.state.core ≤ given m.store.state.core + 2
  pub kept : IsKept new

-- some label is lawful
abbrev pub MayGo : Machine → Type 0
MayGo m = (l : Label) × ((t : State) × Step (setting_at m) (state_of m) l t)

-- The choice made the step with this label.
pub record Goes (m : Machine) (c : Choice) (l : Label) (new : Machine) : Type 0 where
  pub fits : FitsOffer (chosen_of c) (offer (setting_at m) (state_of m))
  pub step : StepBy (setting_at m) (chosen_of c) (state_of m) l (state_of new)
  pub scenario : new.scenario ≡ m.scenario
  pub last : new.last ≡ Some l
  pub held : (order : List ℕ) → KnowsOrder m order → KnowsOrder new (held_after l order)
  pub numbers : is_open (turn_at new) ≡ true → given new.store.state.core ≤ given m.store.state.core + 2
  pub kept : IsKept new

-- the run goes on, and the choice doesn't fit
pub record IsRefused (m : Machine) (c : Choice) : Type 0 where
  pub unfinished : is_open (turn_at m) ≡ true
  pub moves : is_at_rest (setting_at m) (state_of m) ≡ false
  pub unfit : FitsOffer (chosen_of c) (offer (setting_at m) (state_of m)) → ⊥

-- while the run isn't over, nothing can go on, and that is no deadlock
abbrev pub IsOver : Machine → Type 0
IsOver m = is_open (turn_at m) ≡ true → is_at_rest (setting_at m) (state_of m) ≡ true

-- what came of a choice
abbrev pub Comes : Machine → Choice → Went → Machine → Type 0
Comes m c (went.Did l) new = Goes m c l new
Comes m c went.Refused new = IsRefused m c × (new ≡ m)
Comes m c went.Over new = (MayGo m → ⊥) × ((new ≡ m) × IsOver m)

-- two choices or more fit
abbrev pub leaves_choice : Machine → Bool
leaves_choice m = offers.is_open (offer (setting_at m) (state_of m))

-- The only choice that fits made the step with this label.
pub record GoesOnly (m : Machine) (l : Label) (new : Machine) : Type 0 where
  pub closed : leaves_choice m ≡ false
  pub choice : Choice
  pub only : chosen_of choice ≡ first_choice (offer (setting_at m) (state_of m))
  pub goes : Goes m choice l new

-- The run goes on, and two choices or more fit what is offered.
pub record IsLeftOpen (m : Machine) (o : Offer) : Type 0 where
  pub unfinished : is_open (turn_at m) ≡ true
  pub moves : is_at_rest (setting_at m) (state_of m) ≡ false
  pub opened : leaves_choice m ≡ true
  pub offered : IsOfferOf m o

-- what came of a step that is made if it leaves no choice
abbrev pub ComesOnly : Machine → Only → Machine → Type 0
ComesOnly m (only.Did l) new = GoesOnly m l new
ComesOnly m (only.Open o) new = IsLeftOpen m o × (new ≡ m)
ComesOnly m only.Over new = (MayGo m → ⊥) × ((new ≡ m) × IsOver m)

-- ---- What it has come to

abbrev pub or_at_rest : Option Outcome → Machine → Bool → Option Outcome
or_at_rest (Some o) m used_up = Some o
or_at_rest None m used_up = open_outcome (is_at_rest (setting_at m) (state_of m)) used_up

-- What a run that ends in the machine's state, with its last label, has come to: what the label gives, else idle, else out of steps.
abbrev pub outcome_at : Machine → Bool → Option Outcome
outcome_at m used_up = or_at_rest (option_and_then outcome_of_label m.last) m used_up
