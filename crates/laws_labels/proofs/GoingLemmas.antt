-- What a step shows after which the run goes on.
use Rattle.laws_labels.proofs.OwnLemmas.{IsOwn}
use Rattle.laws_labels.proofs.TakingLemmas.{IsTaken, take_shows}
use Rattle.laws_labels.proofs.ShowLemmas.{wider}
use Rattle.laws_labels.proofs.TurnLemmas.{main_shows, run_shows, shown}
use Rattle.laws_labels.specs.Own.{EndsTakeNone, GoingsShowNext, is_of_main, is_rest, mark_taken, next_mark, rests_by}
use Rattle.std.proofs.Common.{ap, refl, sym, ◌∙◌}
use Rattle.std.specs.Prelude.{Bool, None, Option, Some, false, option_map, true, ℕ, ◌≡◌}
use Rattle.machine_data.specs.Core.{State}
use Rattle.machine_data.specs.Labels.{choice_of}
use Rattle.machine_data.specs.Read.{next_entry}
use Rattle.machine_data.specs.declared.label.Label.{Label}
use Rattle.machine_data.specs.declared.label.Label.TheVariants as label
use Rattle.machine_data.specs.declared.label.LoopLabel.TheVariants as loop_label
use Rattle.machine_data.specs.declared.records.Entry.{Entry}
use Rattle.machine_data.specs.declared.records.Turn.{Turn}
use Rattle.machine_data.specs.declared.records.Turn.TheVariants as turn
use Rattle.machine_data.specs.declared.statuses.Mark.{Mark}
use Rattle.machine_rules.specs.Outcome.{outcome_of_label}
use Rattle.machine_rules.specs.Stalled.{Setting, is_unended_take, may_deadlock}
use Rattle.machine_rules.specs.Step.{DeadlockStep, EmptyFor, FuturesStep, Polled, RestStep, Step, TakeStep, TurnStep, entry_number}
use Rattle.machine_rules.specs.Takes.{popped, take_rule}
use Rattle.machine_rules.specs.Works.{Asked, Ends, FailsNow, Poll, StillPends, has_moving_work, next_polled, poll_of}

-- Its mark is this one, and it rests or doesn't.
abbrev ShowsNext : Option Mark → Bool → Label → Type 0
ShowsNext o rests l = (mark_taken l ≡ o) × (is_rest l ≡ rests)

abbrev Unshown : Label → Type 0
Unshown l = ShowsNext None false l

-- ---- Labels that show neither

main_unshown : (l : Label) → is_of_main l ≡ true → Unshown l
main_unshown (label.Main l) h = (refl, refl)
main_unshown (label.Loop loop_label.MainPends) h = (refl, refl)
main_unshown _ h = absurd (cc)

own_unshown : (l : Label) → IsOwn l → Unshown l
own_unshown (label.Main l) h = absurd (cc)
own_unshown (label.Loop l) h = absurd (cc)
own_unshown (label.Take l) h = absurd (cc)
own_unshown _ h = (refl, refl)

poll_unshown : (s : State) (i : ℕ) (p : Poll) (l : Label) (t : State) → Polled s i p l t → Unshown l
poll_unshown s i (StillPends host) l t is = (ap mark_taken is.0, ap is_rest is.0)
poll_unshown s i (Ends v) l t is = (ap mark_taken is.0, ap is_rest is.0)
poll_unshown s i FailsNow l t is = (ap mark_taken is.0, ap is_rest is.0)
poll_unshown s i (Asked next) l t is = poll_unshown s i (next is.0) l t is.1

futures_unshown : (s : State) (o : Option ℕ) (l : Label) (t : State) → FuturesStep s o l t → Unshown l
futures_unshown s None l t is = absurd is
futures_unshown s (Some i) l t is = poll_unshown s i (poll_of i s.core) l t is

-- ---- The takings

-- unless it gives an outcome, it shows the entry's mark
abbrev Goes : Mark → Label → Type 0
Goes m l = outcome_of_label l ≡ None → ShowsNext (Some m) false l

taken_goes : (m : Mark) (l : Label) → IsTaken m l → Goes m l
taken_goes m (label.Take l) is none = (is, refl)
taken_goes m (label.Main l) is none = absurd (cc)
taken_goes m (label.Loop l) is none = absurd (cc)
taken_goes m _ is none = absurd (cc)

entry_goes : (x : Setting) (s : State) (e : Mark × Entry) (l : Label) (t : State) → TakeStep x s (Some e) l t → Goes e.0 l
entry_goes x s e l t is =
    let base = popped e.0 s.core in
    let p = take_rule e.0 (choice_of l) base e.1 in
    shown (Goes e.0) s base (entry_number e.1) (λ x row none. absurd (cc)) (λ i none. absurd (cc)) p
    (wider (IsTaken e.0) (Goes e.0) (taken_goes e.0) p (take_shows e.0 (choice_of l) base e.1)) l t is

rest_goes : (s : State) (b : Bool) (l : Label) (t : State) → RestStep s b l t → ShowsNext None true l
rest_goes s true l t is = (ap mark_taken is.0, ap is_rest is.0)
rest_goes s false l t is = absurd is

deadlock_goes : (s : State) (b : Bool) (l : Label) (t : State) → DeadlockStep s b l t → outcome_of_label l ≡ None → ShowsNext None true l
deadlock_goes s true l t is none = let no = sym (ap outcome_of_label is.0) ∙ none in absurd (cc)
deadlock_goes s false l t is none = absurd is

empty_goes : (x : Setting) (s : State) (b : Bool) (l : Label) (t : State) → EmptyFor x s b l t → outcome_of_label l ≡ None → ShowsNext None true l
empty_goes x s true l t is none = rest_goes s (is_unended_take s.turn) l t is
empty_goes x s false l t is none = deadlock_goes s (may_deadlock x s) l t is none

take_goes : (x : Setting) (s : State) (ended : Bool) (o : Option (Mark × Entry)) (l : Label) (t : State) → TakeStep x s o l t → outcome_of_label l ≡ None
    → ShowsNext (option_map (λ e. e.0) o) (rests_by (turn.Take ended) (option_map (λ e. e.0) o)) l
take_goes x s ended None l t is none = empty_goes x s (has_moving_work s.core) l t is none
take_goes x s ended (Some e) l t is none = entry_goes x s e l t is none

-- ---- Each turn

turn_goes : (x : Setting) (s : State) (u : Turn) (l : Label) (t : State) → TurnStep x s u l t → outcome_of_label l ≡ None → ShowsNext (next_mark u s.core) (rests_by u (next_mark u s.core)) l
turn_goes x s turn.Main l t is none = main_unshown l (main_shows x s s.main l t is)
turn_goes x s (turn.Futures n) l t is none = futures_unshown s (next_polled n s.core) l t is
turn_goes x s (turn.Take ended) l t is none = take_goes x s ended (next_entry s.core) l t is none
turn_goes x s (turn.Run n) l t is none = run_shows Unshown own_unshown (λ n t row. (refl, refl)) (λ n i. (refl, refl)) x s n l t is
turn_goes x s turn.Over l t is none = absurd is

pub goings_show_next : GoingsShowNext
unfolding Step
goings_show_next x s l t is none = turn_goes x s s.turn l t is none

pub ends_take_none : EndsTakeNone
ends_take_none (label.Take l) o is = absurd (cc)
ends_take_none _ o is = refl
