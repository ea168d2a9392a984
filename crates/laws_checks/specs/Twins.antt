-- States that differ in whom a cancel took, and what tells them apart.
use Rattle.std.specs.Prelude.{Bool, List, None, Option, Some, [], false, option_map, true, ℕ, ◌≡◌, ◌⊎◌}
use Rattle.laws_choices.specs.Offer.{Chosen}
use Rattle.laws_choices.specs.Offers.{offer, turn_offer}
use Rattle.laws_choices.specs.Steps.{IsScripted, StepBy, hides_in}
use Rattle.machine_data.specs.Core.{Core, State}
use Rattle.machine_data.specs.Maps.{Records, get, numbers}
use Rattle.machine_data.specs.Write.{with_switch}
use Rattle.machine_data.specs.declared.label.Label.TheVariants as label
use Rattle.machine_data.specs.declared.label.Label.{Label}
use Rattle.machine_data.specs.declared.label.LoopLabel.TheVariants as loop_label
use Rattle.machine_data.specs.declared.label.LoopLabel.{LoopLabel}
use Rattle.machine_data.specs.declared.label.TakeLabel.TheVariants as take
use Rattle.machine_data.specs.declared.label.TakeLabel.{TakeLabel}
use Rattle.machine_data.specs.declared.records.Place.TheVariants as place
use Rattle.machine_data.specs.declared.records.Place.{Place}
use Rattle.machine_data.specs.declared.records.Subtask.{Subtask}
use Rattle.machine_data.specs.declared.records.Thread.{Thread}
use Rattle.machine_data.specs.declared.records.Turn.TheVariants as turn
use Rattle.machine_data.specs.declared.records.Turn.{Turn}
use Rattle.machine_data.specs.declared.statuses.Mark.TheVariants as mark
use Rattle.machine_data.specs.declared.statuses.Mark.{Mark}
use Rattle.machine_rules.specs.Cancels.{pauses}
use Rattle.machine_rules.specs.Outcome.{is_at_rest}
use Rattle.machine_rules.specs.Scripts.{HasOpen}
use Rattle.machine_rules.specs.Stalled.{Setting}

-- ---- What a label names

abbrev pub at_switch : Mark → ℕ → Option ℕ
at_switch mark.Switch n = Some n
at_switch _ n = None

abbrev pub named_by_taking : TakeLabel → Option ℕ
named_by_taking (take.Thread m n) = at_switch m n
named_by_taking (take.ThreadWakes m n w) = at_switch m n
named_by_taking (take.Held m n) = at_switch m n
named_by_taking (take.HeldWakes m n w) = at_switch m n
named_by_taking (take.Again m n) = at_switch m n
named_by_taking (take.Event m g n) = at_switch m n
named_by_taking (take.EventWakes m e n w) = at_switch m n
named_by_taking _ = None

abbrev pub named_by_loop : LoopLabel → Option ℕ
named_by_loop (loop_label.Trap t n) = Some n
named_by_loop _ = None

-- the thread that is taken from switch, or that traps
abbrev pub named_in : Label → Option ℕ
named_in (label.Take l) = named_by_taking l
named_in (label.Loop l) = named_by_loop l
named_in _ = None

abbrev pub polls_or_pends : LoopLabel → Bool
polls_or_pends loop_label.MainPends = true
polls_or_pends (loop_label.FuturePends i) = true
polls_or_pends (loop_label.FutureEnds i) = true
polls_or_pends (loop_label.FutureFails i) = true
polls_or_pends _ = false

-- main acts, or a work is polled
abbrev pub is_between : Label → Bool
is_between (label.Main l) = true
is_between (label.Loop l) = polls_or_pends l
is_between _ = false

-- ---- States

abbrev pub runs_thread : Turn → Bool
runs_thread (turn.Run n) = true
runs_thread _ = false

-- The thread is at switch, and none runs: so it is the next one that is taken.
pub record IsNext (m : ℕ) (s : State) : Type 0 where
  pub at : s.core.queues.switch ≡ Some m
  pub waits : runs_thread s.turn ≡ false

-- the subtask on which a thread is blocked
abbrev pub blocked_in : Place → Option Subtask
blocked_in (place.Blocked sub) = Some sub
blocked_in _ = None

abbrev pub blocks : Thread → Option Subtask
blocks t = blocked_in t.place

-- The threads have the same numbers, and are blocked on the same.
pub record AreAlike (m k : Records Thread) : Type 0 where
  pub numbers : numbers m ≡ numbers k
  pub blocked : (q : ℕ) → option_map blocks (get m q) ≡ option_map blocks (get k q)

abbrev pub with_threads : Records Thread → Records (List ℕ) → Option ℕ → Core → Core
with_threads ts cs o s = record s { threads = ts; callers = cs; queues = with_switch o s.queues }

-- The cores differ in what is at switch, and in threads that are blocked on nothing.
pub record AreTwinCores (s t : Core) : Type 0 where
  pub rest : t ≡ with_threads t.threads t.callers t.queues.switch s
  pub threads : AreAlike s.threads t.threads

-- The states differ in which of the two threads is taken next.
pub record AreTwins (m n : ℕ) (s t : State) : Type 0 where
  pub first : IsNext m s
  pub second : IsNext n t
  pub main : s.main ≡ t.main
  pub turn : s.turn ≡ t.turn
  pub core : AreTwinCores s.core t.core

-- ---- The laws

-- What two choices make where the rule takes one of several threads; no member is offered.
pub record HidesAlike (x : Setting) (s : State) (q : Turn) (c d : Chosen) (l k : Label) (t u : State) : Type 0 where
  pub members : (turn_offer x s.core q).members ≡ []
  pub one : ℕ
  pub other : ℕ
  pub one_is : c.waiter ≡ Some one
  pub other_is : d.waiter ≡ Some other
  pub label : l ≡ k
  pub runner : ℕ
  pub says : l ≡ pauses runner
  pub twins : AreTwins one other t u

-- a cancel that may take one of several threads shows the same label whichever it takes, and leads to twins
unfoldable pub HiddenAreTwins : Type 0
HiddenAreTwins = (x : Setting) (s : State) → (HasOpen x.component → ⊥) → hides_in x s s.turn ≡ true →
    (c d : Chosen) (l k : Label) (t u : State) → StepBy x c s l t → StepBy x d s k u → HidesAlike x s s.turn c d l k t u

-- the step takes the thread, or goes on before that
abbrev pub NamesOrBetween : ℕ → Label → State → Type 0
NamesOrBetween m l t = (named_in l ≡ Some m) ⊎ ((is_between l ≡ true) × IsNext m t)

-- a thread that is next is named by the label that takes it, and before that only main acts and works are polled
unfoldable pub NextIsNamed : Type 0
NextIsNamed = (x : Setting) (m : ℕ) (s : State) → IsScripted s.main → IsNext m s → (c : Chosen) (l : Label) (t : State) → StepBy x c s l t →
    NamesOrBetween m l t

-- then the run isn't at rest
unfoldable pub NextIsBusy : Type 0
NextIsBusy = (x : Setting) (m : ℕ) (s : State) → IsNext m s → is_at_rest x s ≡ false

-- The second of two twins makes the step that the first one makes, of what is offered to both.
pub record GoesAlike (x : Setting) (m n : ℕ) (s t : State) (c : Chosen) (l : Label) (u : State) : Type 0 where
  pub to : State
  pub offered : offer x t ≡ offer x s
  pub step : StepBy x c t l to
  pub twins : AreTwins m n u to

-- before that twins show the same labels, and stay twins
unfoldable pub TwinsGoOn : Type 0
TwinsGoOn = (x : Setting) (m n : ℕ) (s t : State) → IsScripted s.main → AreTwins m n s t →
    (c : Chosen) (l : Label) (u : State) → StepBy x c s l u → is_between l ≡ true → GoesAlike x m n s t c l u
