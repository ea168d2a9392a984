-- The runs of the machine, computed. The rules are the machine's own; a label that a run is to show tells its choices.
use Rattle.std.specs.List.Sorted.{apply_swaps}
use Rattle.std.specs.Option.{option_and_then}
use Rattle.std.specs.Prelude.{Bool, List, None, Option, Some, [], false, if◌then◌else◌, length, nat_lt, true, ℕ, ◌&&◌, ◌+◌, ◌==◌, ◌∷◌}
use Rattle.machine_data.specs.declared.records.Entry.{Entry}
use Rattle.machine_data.specs.declared.label.Label.{Label}
use Rattle.machine_data.specs.declared.scenario.MainOpDef.{MainOpDef}
use Rattle.machine_data.specs.declared.statuses.Mark.{Mark}
use Rattle.machine_data.specs.declared.outcome.Outcome.{Outcome}
use Rattle.machine_data.specs.declared.scenario.ScenarioDef.{ScenarioDef}
use Rattle.machine_data.specs.declared.records.Turn.{Turn}
use Rattle.machine_data.specs.declared.label.CallLabel.TheVariants as call_label
use Rattle.machine_data.specs.declared.label.Label.TheVariants as label
use Rattle.machine_data.specs.declared.label.LoopLabel.TheVariants as loop_label
use Rattle.machine_data.specs.declared.label.MainLabel.TheVariants as main_label
use Rattle.machine_data.specs.declared.records.Turn.TheVariants as turn
use Rattle.machine_data.specs.Core.{Core, Main, MainPlace, Scripted, State, Unscripted}
use Rattle.machine_data.specs.Labels.{Choice, choice_of}
use Rattle.machine_data.specs.Moves.{ended}
use Rattle.machine_data.specs.Read.{next_entry}
use Rattle.machine_data.specs.Write.{set_trapped}
use Rattle.machine_rules.specs.MainOps.{Answers, Does, MainProgress, Pends, act_of, advanced_main, line_of, main_rule, op_at}
use Rattle.machine_rules.specs.Outcome.{IsOutcome}
use Rattle.machine_rules.specs.Progress.{Asks, Fails, Continues, Never, Ordered, Progress, Stops, Traps, OneOf}
use Rattle.machine_rules.specs.Run.{Run, opens}
use Rattle.machine_rules.specs.Stalled.{Setting, deadlock_trap, is_unended_take, may_deadlock, setting_of}
use Rattle.machine_rules.specs.Works.{first_number}
use Rattle.machine_rules.specs.Step.{did, entry_number, unwound, trap_label}
use Rattle.machine_rules.specs.Takes.{popped, take_rule}
use Rattle.machine_rules.specs.Turns.{at_turn, goes_to}
use Rattle.machine_rules.specs.Works.{Asked, Ends, FailsNow, Poll, StillPends, has_moving_work, next_polled, poll_pends, poll_of, poll_ends}

-- Exchanges of places, by which an order is made of a list.
abbrev pub Swaps : Type 0
Swaps = List (ℕ × ℕ)

abbrev pub in_range : ℕ → Swaps → Bool
in_range n [] = true
in_range n (p ∷ ps) = nat_lt p.0 n && (nat_lt p.1 n && in_range n ps)

abbrev pub Next : Type 0
Next = Option (Label × State)

abbrev pub if_fits : Bool → Next → Next
if_fits true x = x
if_fits false x = None

abbrev pub same_option : Option ℕ → Option ℕ → Bool
same_option None None = true
same_option (Some m) (Some n) = m == n
same_option _ _ = false

abbrev pub same_choice : Choice → Choice → Bool
same_choice a b = same_option a.woken b.woken && same_option a.member b.member

-- the step, if its label shows the choice that it was made with
abbrev pub if_shows : Choice → Next → Next
if_shows ch None = None
if_shows ch (Some x) = if_fits (same_choice (choice_of x.0) ch) (Some x)

abbrev pub ran : State → Core → ℕ → Swaps → Progress → Next
ran s base n ps (Continues l new m) = Some (l, goes_to s new (turn.Run m))
ran s base n ps (Stops l new) = Some (l, goes_to s new turn.Main)
ran s base n ps (Traps t) = Some (trap_label n t, goes_to s (unwound n base) turn.Over)
ran s base n ps (Fails i) = Some (label.Call (call_label.Fails n i), goes_to s (unwound n base) turn.Over)
ran s base n ps Never = None
ran s base n ps (Asks next) = None
ran s base n ps (OneOf ns next) = option_and_then (λ m. ran s base n ps (next m)) (first_number ns)
ran s base n ps (Ordered ns next) = if_fits (in_range (length ns) ps) (ran s base n ps (next (apply_swaps ns ps)))

abbrev pub main_did : State → MainPlace → MainOpDef → MainProgress → Next
main_did s p o (Does l new) = Some (label.Main l, at_turn s new (Scripted (advanced_main o l p)) turn.Main)
main_did s p o Pends = Some (label.Loop loop_label.MainPends, goes_to s s.core (turn.Futures 0))
main_did s p o (Answers v) = Some (label.Main (main_label.Answer v), goes_to s s.core turn.Over)

abbrev pub script_did : Setting → State → MainPlace → Option MainOpDef → Next
script_did x s p None = Some (label.Loop loop_label.MainPends, goes_to s s.core (turn.Futures 0))
script_did x s p (Some o) = main_did s p o (main_rule x.component (line_of p o) s.core (act_of p o))

abbrev pub moved : Setting → State → Main → Next
moved x s (Scripted p) = script_did x s p (op_at x.script p)
moved x s Unscripted = None

abbrev pub polled : State → ℕ → Poll → Next
polled s i (StillPends host) = Some (label.Loop (loop_label.FuturePends i), goes_to s (poll_pends i host s.core) (turn.Futures i))
polled s i (Ends v) = Some (label.Loop (loop_label.FutureEnds i), goes_to s (poll_ends i v s.core) (turn.Take true))
polled s i FailsNow = Some (label.Loop (loop_label.FutureFails i), goes_to s (set_trapped s.core) turn.Over)
polled s i (Asked next) = None

abbrev pub polled_next : State → Option ℕ → Next
polled_next s None = None
polled_next s (Some i) = polled s i (poll_of i s.core)

abbrev pub rested : State → Next
rested s = Some (label.Loop loop_label.Rest, goes_to s s.core turn.Main)

abbrev pub deadlocked : State → Next
deadlocked s = Some (label.Loop (loop_label.Deadlock (deadlock_trap s.core)), goes_to s (set_trapped s.core) turn.Over)

abbrev pub empty_did : Setting → State → Bool → Next
empty_did x s true = if_fits (is_unended_take s.turn) (rested s)
empty_did x s false = if_fits (may_deadlock x s) (deadlocked s)

abbrev pub took : Setting → State → Choice → Swaps → Option (Mark × Entry) → Next
took x s ch ps None = empty_did x s (has_moving_work s.core)
took x s ch ps (Some e) = let base = popped e.0 s.core in if_shows ch (ran s base (entry_number e.1) ps (take_rule e.0 ch base e.1))

abbrev pub turned : Setting → State → Choice → Swaps → Turn → Next
turned x s ch ps turn.Main = moved x s s.main
turned x s ch ps (turn.Futures n) = polled_next s (next_polled n s.core)
turned x s ch ps (turn.Take ended) = took x s ch ps (next_entry s.core)
turned x s ch ps (turn.Run n) = if_shows ch (ran s s.core n ps (did x.component n s.core ch))
turned x s ch ps turn.Over = None

-- A run and where it is.
pub record Played : Type 0 where
  pub labels : List Label
  pub last : State

abbrev pub shown : Label → Played → Played
shown l p = record { labels = l ∷ p.labels; last = p.last }

abbrev pub stays : State → Played
stays s = record { labels = []; last = s }

abbrev pub on : State → (State → Played) → Next → Played
on s go None = stays s
on s go (Some x) = shown x.0 (go x.1)

-- the exchanges for the k-th label, if there are any
abbrev pub swaps_at : ℕ → List (ℕ × Swaps) → Swaps
swaps_at k [] = []
swaps_at k (o ∷ os) = if o.0 == k then o.1 else swaps_at k os

-- the run of as many labels as these, which tell the choices, where the k-th and later labels release in these orders
unfoldable pub play : Setting → List (ℕ × Swaps) → ℕ → List Label → State → Played
play x os k [] s = stays s
play x os k (l ∷ ls) s = on s (λ t. play x os (k + 1) ls t) (turned x s (choice_of l) (swaps_at k os) s.turn)

-- From the opening state of the scenario the machine may show these labels, and this is then what the run has resulted in.
pub record Example (x : ScenarioDef) (steps : ℕ) (labels : List Label) (o : Outcome) : Type 0 where
  pub last : State
  pub run : Run (setting_of x) (opens x) labels last
  pub ends : IsOutcome (setting_of x) last labels steps o

-- the same of a scenario and its labels
abbrev pub Runs : ScenarioDef × List Label → (steps : ℕ) → Outcome → Type 0
Runs run steps o = Example run.0 steps run.1 o
