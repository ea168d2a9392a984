-- By which traps steps end.
use Rattle.laws_labels.proofs.OwnLemmas.{IsOwn}
use Rattle.laws_labels.proofs.TakingLemmas.{IsTaken, take_shows}
use Rattle.laws_labels.proofs.ShowLemmas.{wider}
use Rattle.laws_labels.proofs.TurnLemmas.{main_shows, run_shows, shown}
use Rattle.laws_labels.specs.Own.{EndsAreOfRules, is_deadlock_trap, is_of_main, is_of_rules}
use Rattle.std.proofs.Common.{refl, subst, sym}
use Rattle.std.specs.Prelude.{Bool, None, Option, Some, false, if◌then◌else◌, true, ℕ, ◌≡◌}
use Rattle.machine_data.specs.Core.{State}
use Rattle.machine_data.specs.Labels.{choice_of}
use Rattle.machine_data.specs.Read.{next_entry}
use Rattle.machine_data.specs.declared.label.CallLabel.TheVariants as call_label
use Rattle.machine_data.specs.declared.label.CallLabel.{CallLabel}
use Rattle.machine_data.specs.declared.label.Label.{Label}
use Rattle.machine_data.specs.declared.label.Label.TheVariants as label
use Rattle.machine_data.specs.declared.label.LoopLabel.TheVariants as loop_label
use Rattle.machine_data.specs.declared.label.MainLabel.{MainLabel}
use Rattle.machine_data.specs.declared.label.MainLabel.TheVariants as main_label
use Rattle.machine_data.specs.declared.outcome.Outcome.{Outcome}
use Rattle.machine_data.specs.declared.records.Entry.{Entry}
use Rattle.machine_data.specs.declared.records.Turn.{Turn}
use Rattle.machine_data.specs.declared.records.Turn.TheVariants as turn
use Rattle.machine_data.specs.declared.trap.Trap.TheVariants as trap
use Rattle.machine_data.specs.declared.statuses.Mark.{Mark}
use Rattle.machine_rules.specs.Outcome.{outcome_of_label}
use Rattle.machine_rules.specs.Stalled.{Setting, is_unended_take, may_deadlock, some_may_not_suspend}
use Rattle.machine_rules.specs.Step.{DeadlockStep, EmptyFor, FuturesStep, Polled, RestStep, Step, TakeStep, TurnStep, entry_number}
use Rattle.machine_rules.specs.Takes.{popped, take_rule}
use Rattle.machine_rules.specs.Works.{Asked, Ends, FailsNow, Poll, StillPends, has_moving_work, next_polled, poll_of}

abbrev MayEnd : Option Outcome → Type 0
MayEnd None = Unit {0}
MayEnd (Some o) = is_of_rules o ≡ true

-- the outcome that it gives, if it gives one
abbrev EndsSo : Label → Type 0
EndsSo l = MayEnd (outcome_of_label l)

-- ---- Labels

call_ends : (l : CallLabel) → EndsSo (label.Call l)
call_ends (call_label.Fails n i) = refl
call_ends _ = tt

own_ends : (l : Label) → IsOwn l → EndsSo l
own_ends (label.Main l) h = absurd (cc)
own_ends (label.Loop l) h = absurd (cc)
own_ends (label.Call l) h = call_ends l
own_ends _ h = tt

taken_ends : (m : Mark) (l : Label) → IsTaken m l → EndsSo l
taken_ends m (label.Take l) h = tt
taken_ends m (label.Main l) h = absurd (cc)
taken_ends m (label.Loop l) h = absurd (cc)
taken_ends m (label.Call l) h = absurd (cc)
taken_ends m _ h = tt

main_op_ends : (l : MainLabel) → EndsSo (label.Main l)
main_op_ends (main_label.Answer v) = refl
main_op_ends _ = tt

main_ends : (l : Label) → is_of_main l ≡ true → EndsSo l
main_ends (label.Main l) h = main_op_ends l
main_ends (label.Loop loop_label.MainPends) h = tt
main_ends _ h = absurd (cc)

-- ---- Each turn

poll_ends : (s : State) (i : ℕ) (p : Poll) (l : Label) (t : State) → Polled s i p l t → EndsSo l
poll_ends s i (StillPends host) l t is = subst EndsSo (sym is.0) tt
poll_ends s i (Ends v) l t is = subst EndsSo (sym is.0) tt
poll_ends s i FailsNow l t is = subst EndsSo (sym is.0) refl
poll_ends s i (Asked next) l t is = poll_ends s i (next is.0) l t is.1

futures_end : (s : State) (o : Option ℕ) (l : Label) (t : State) → FuturesStep s o l t → EndsSo l
futures_end s None l t is = absurd is
futures_end s (Some i) l t is = poll_ends s i (poll_of i s.core) l t is

rest_ends : (s : State) (b : Bool) (l : Label) (t : State) → RestStep s b l t → EndsSo l
rest_ends s true l t is = subst EndsSo (sym is.0) tt
rest_ends s false l t is = absurd is

by_deadlock : (b : Bool) → is_deadlock_trap (if b then trap.CannotBlockSyncTask else trap.AsyncDeadlock) ≡ true
by_deadlock true = refl
by_deadlock false = refl

deadlock_ends : (s : State) (b : Bool) (l : Label) (t : State) → DeadlockStep s b l t → EndsSo l
deadlock_ends s true l t is = subst EndsSo (sym is.0) (by_deadlock (some_may_not_suspend s.core))
deadlock_ends s false l t is = absurd is

empty_ends : (x : Setting) (s : State) (b : Bool) (l : Label) (t : State) → EmptyFor x s b l t → EndsSo l
empty_ends x s true l t is = rest_ends s (is_unended_take s.turn) l t is
empty_ends x s false l t is = deadlock_ends s (may_deadlock x s) l t is

take_ends : (x : Setting) (s : State) (o : Option (Mark × Entry)) (l : Label) (t : State) → TakeStep x s o l t → EndsSo l
take_ends x s None l t is = empty_ends x s (has_moving_work s.core) l t is
take_ends x s (Some e) l t is =
    let base = popped e.0 s.core in
    let p = take_rule e.0 (choice_of l) base e.1 in
    shown EndsSo s base (entry_number e.1) (λ x row. row) (λ i. refl) p
    (wider (IsTaken e.0) EndsSo (taken_ends e.0) p (take_shows e.0 (choice_of l) base e.1)) l t is

turn_ends : (x : Setting) (s : State) (u : Turn) (l : Label) (t : State) → TurnStep x s u l t → EndsSo l
turn_ends x s turn.Main l t is = main_ends l (main_shows x s s.main l t is)
turn_ends x s (turn.Futures n) l t is = futures_end s (next_polled n s.core) l t is
turn_ends x s (turn.Take ended) l t is = take_ends x s (next_entry s.core) l t is
turn_ends x s (turn.Run n) l t is = run_shows EndsSo own_ends (λ n t row. row) (λ n i. refl) x s n l t is
turn_ends x s turn.Over l t is = absurd is

pub ends_are_of_rules : EndsAreOfRules
unfolding Step
ends_are_of_rules x s l t is o gives = subst MayEnd gives (turn_ends x s s.turn l t is)
