-- The labels of each turn.
use Rattle.laws_labels.proofs.OwnLemmas.{IsOwn, did_own}
use Rattle.laws_labels.proofs.ShowLemmas.{wider}
use Rattle.laws_labels.proofs.TakingLemmas.{IsTaken, take_shows}
use Rattle.laws_labels.specs.Own.{MainAtItsTurns, Shows, TakesNext, TakingsShowMarks, is_main_turn, is_of_main, is_rule_trap, mark_taken}
use Rattle.std.proofs.Common.{ap, refl, subst, sym}
use Rattle.std.specs.Prelude.{Bool, None, Option, Some, false, true, ℕ, ◌≡◌}
use Rattle.machine_data.specs.Core.{Core, Main, MainPlace, Scripted, State, Unscripted}
use Rattle.machine_data.specs.Labels.{choice_of}
use Rattle.machine_data.specs.Read.{next_entry}
use Rattle.machine_data.specs.declared.label.CallLabel.TheVariants as call_label
use Rattle.machine_data.specs.declared.label.Label.{Label}
use Rattle.machine_data.specs.declared.label.Label.TheVariants as label
use Rattle.machine_data.specs.declared.label.LoopLabel.TheVariants as loop_label
use Rattle.machine_data.specs.declared.records.Entry.{Entry}
use Rattle.machine_data.specs.declared.records.Turn.{Turn}
use Rattle.machine_data.specs.declared.records.Turn.TheVariants as turn
use Rattle.machine_data.specs.declared.scenario.MainOpDef.{MainOpDef}
use Rattle.machine_data.specs.declared.trap.Trap.{Trap}
use Rattle.machine_data.specs.declared.statuses.Mark.{Mark}
use Rattle.machine_rules.specs.MainOps.{Answers, Does, MainProgress, Pends, act_of, line_of, main_rule, op_at}
use Rattle.machine_rules.specs.Progress.{Asks, Fails, Continues, Never, OneOf, Ordered, Progress, Stops, Traps}
use Rattle.machine_rules.specs.Stalled.{Setting, is_unended_take, may_deadlock}
use Rattle.machine_rules.specs.Step.{DeadlockStep, EmptyFor, FuturesStep, MainProgresses, MainStep, OpenProgresses, Polled, Progresses, RestStep, ScriptStep, Step, TakeStep, TurnStep, did, entry_number, trap_label}
use Rattle.machine_rules.specs.Takes.{popped, take_rule}
use Rattle.machine_rules.specs.Works.{Asked, Ends, FailsNow, Poll, StillPends, has_moving_work, next_polled, poll_of}

-- ---- The steps of threads

-- a label of another one than main
abbrev pub IsOthers : Label → Type 0
IsOthers l = is_of_main l ≡ false

-- no label of a taking
abbrev pub IsKept : Label → Type 0
IsKept l = mark_taken l ≡ None

own_others : (l : Label) → IsOwn l → IsOthers l
own_others (label.Main l) h = absurd (cc)
own_others (label.Loop l) h = absurd (cc)
own_others (label.Take l) h = refl
own_others _ h = refl

pub own_kept : (l : Label) → IsOwn l → IsKept l
own_kept (label.Take l) h = absurd (cc)
own_kept _ h = refl

taken_others : (m : Mark) (l : Label) → IsTaken m l → IsOthers l
taken_others m (label.Take l) h = refl
taken_others m (label.Main l) h = absurd (cc)
taken_others m (label.Loop l) h = absurd (cc)
taken_others m _ h = refl

module _ (P : Label → Type 0) (s : State) (base : Core) (n : ℕ) (traps : (t : Trap) → is_rule_trap t ≡ true → P (trap_label n t)) (fails : (i : ℕ) → P (label.Call (call_label.Fails n i))) where
  pub shown : (p : Progress) → Shows P p → (l : Label) (t : State) → Progresses s base n p l t → P l
  shown (Continues k new m) h l t is = subst P (sym is.0) h
  shown (Stops k new) h l t is = subst P (sym is.0) h
  shown (Ordered held next) h l t is = shown (next is.0) (h is.0) l t is.1.1
  shown (OneOf held next) h l t is = shown (next is.0) (h is.0) l t is.1.1
  shown (Asks next) h l t is = shown (next is.0) (h is.0) l t is.1
  shown (Traps x) h l t is = subst P (sym is.0) (traps x h)
  shown (Fails i) h l t is = subst P (sym is.0) (fails i)
  shown Never h l t is = absurd is

-- the label of a running thread is no label of main, nor of a taking
pub run_shows : (P : Label → Type 0) → ((l : Label) → IsOwn l → P l) → ((n : ℕ) (t : Trap) → is_rule_trap t ≡ true → P (trap_label n t)) → ((n i : ℕ) → P (label.Call (call_label.Fails n i)))
    → (x : Setting) (s : State) (n : ℕ) (l : Label) (t : State) → Progresses s s.core n (did x.component n s.core (choice_of l)) l t → P l
run_shows P leads traps fails x s n l t is =
    let p = did x.component n s.core (choice_of l) in
    shown P s s.core n (traps n) (fails n) p (wider IsOwn P leads p (did_own x.component n s.core (choice_of l))) l t is

-- ---- The takings

rest_others : (s : State) (b : Bool) (l : Label) (t : State) → RestStep s b l t → IsOthers l × IsKept l
rest_others s true l t is = (ap is_of_main is.0, ap mark_taken is.0)
rest_others s false l t is = absurd is

deadlock_others : (s : State) (b : Bool) (l : Label) (t : State) → DeadlockStep s b l t → IsOthers l × IsKept l
deadlock_others s true l t is = (ap is_of_main is.0, ap mark_taken is.0)
deadlock_others s false l t is = absurd is

empty_others : (x : Setting) (s : State) (b : Bool) (l : Label) (t : State) → EmptyFor x s b l t → IsOthers l × IsKept l
empty_others x s true l t is = rest_others s (is_unended_take s.turn) l t is
empty_others x s false l t is = deadlock_others s (may_deadlock x s) l t is

-- the mark of a taking, or none, that of a trap
abbrev IsAt : Mark → Label → Type 0
IsAt m l = (k : Mark) → mark_taken l ≡ Some k → k ≡ m

taken_at : (m : Mark) (l : Label) → IsTaken m l → IsAt m l
taken_at m l is k at = cc

entry_others : (x : Setting) (s : State) (e : Mark × Entry) (l : Label) (t : State) → TakeStep x s (Some e) l t → IsOthers l × IsAt e.0 l
entry_others x s e l t is =
    let base = popped e.0 s.core in
    let p = take_rule e.0 (choice_of l) base e.1 in
    let row : Shows (IsTaken e.0) p = take_shows e.0 (choice_of l) base e.1 in (
      shown IsOthers s base (entry_number e.1) (λ x row. refl) (λ i. refl) p (wider (IsTaken e.0) IsOthers (taken_others e.0) p row) l t is,
      shown (IsAt e.0) s base (entry_number e.1) (λ x row k at. absurd (cc)) (λ i k at. absurd (cc)) p (wider (IsTaken e.0) (IsAt e.0) (taken_at e.0) p row) l t is,
    )

take_others : (x : Setting) (s : State) (o : Option (Mark × Entry)) (l : Label) (t : State) → TakeStep x s o l t → IsOthers l
take_others x s None l t is = (empty_others x s (has_moving_work s.core) l t is).0
take_others x s (Some e) l t is = (entry_others x s e l t is).0

-- the entry that is taken was next
take_next : (x : Setting) (s : State) (o : Option (Mark × Entry)) (l : Label) (t : State) → TakeStep x s o l t → (m : Mark) → mark_taken l ≡ Some m → (e : Entry) × (o ≡ Some (m, e))
take_next x s None l t is m at = let kept = (empty_others x s (has_moving_work s.core) l t is).1 in absurd (cc)
take_next x s (Some e) l t is m at = (e.1, ap (λ (k : Mark). Some (k, e.1)) (sym ((entry_others x s e l t is).1 m at)))

-- ---- The polls

pub poll_others : (s : State) (i : ℕ) (p : Poll) (l : Label) (t : State) → Polled s i p l t → IsOthers l × IsKept l
poll_others s i (StillPends host) l t is = (ap is_of_main is.0, ap mark_taken is.0)
poll_others s i (Ends v) l t is = (ap is_of_main is.0, ap mark_taken is.0)
poll_others s i FailsNow l t is = (ap is_of_main is.0, ap mark_taken is.0)
poll_others s i (Asked next) l t is = poll_others s i (next is.0) l t is.1

pub futures_others : (s : State) (o : Option ℕ) (l : Label) (t : State) → FuturesStep s o l t → IsOthers l × IsKept l
futures_others s None l t is = absurd is
futures_others s (Some i) l t is = poll_others s i (poll_of i s.core) l t is

-- ---- Main

scripted_shows : (s : State) (p : MainPlace) (o : MainOpDef) (q : MainProgress) (l : Label) (t : State) → MainProgresses s p o q l t → is_of_main l ≡ true
scripted_shows s p o (Does k new) l t is = ap is_of_main is.0
scripted_shows s p o Pends l t is = ap is_of_main is.0
scripted_shows s p o (Answers v) l t is = ap is_of_main is.0

script_shows : (x : Setting) (s : State) (p : MainPlace) (o : Option MainOpDef) (l : Label) (t : State) → ScriptStep x s p o l t → is_of_main l ≡ true
script_shows x s p None l t is = ap is_of_main is.0
script_shows x s p (Some o) l t is = scripted_shows s p o (main_rule x.component (line_of p o) s.core (act_of p o)) l t is

open_shows : (s : State) (q : MainProgress) (l : Label) (t : State) → OpenProgresses s q l t → is_of_main l ≡ true
open_shows s (Does k new) l t is = ap is_of_main is.0
open_shows s Pends l t is = absurd is
open_shows s (Answers v) l t is = ap is_of_main is.0

pub main_shows : (x : Setting) (s : State) (m : Main) (l : Label) (t : State) → MainStep x s m l t → is_of_main l ≡ true
main_shows x s (Scripted p) l t is = script_shows x s p (op_at x.script p) l t is
main_shows x s Unscripted (label.Loop loop_label.MainPends) t is = refl
main_shows x s Unscripted l t is = open_shows s (main_rule x.component is.0 s.core is.1.0) l t is.1.1.1

-- ---- Each turn

turn_shows : (x : Setting) (s : State) (u : Turn) (l : Label) (t : State) → TurnStep x s u l t → is_of_main l ≡ is_main_turn u
turn_shows x s turn.Main l t is = main_shows x s s.main l t is
turn_shows x s (turn.Futures n) l t is = (futures_others s (next_polled n s.core) l t is).0
turn_shows x s (turn.Take ended) l t is = take_others x s (next_entry s.core) l t is
turn_shows x s (turn.Run n) l t is = run_shows IsOthers own_others (λ n t row. refl) (λ n i. refl) x s n l t is
turn_shows x s turn.Over l t is = absurd is

pub main_at_its_turns : MainAtItsTurns
unfolding Step
main_at_its_turns x s l t is = turn_shows x s s.turn l t is

pub main_kept : (l : Label) → is_of_main l ≡ true → IsKept l
main_kept (label.Take l) h = absurd (cc)
main_kept _ h = refl

-- at another turn no entry is taken
turn_takes : (x : Setting) (s : State) (u : Turn) (l : Label) (t : State) → TurnStep x s u l t → (m : Mark) → mark_taken l ≡ Some m → TakesNext u s.core m
turn_takes x s turn.Main l t is m at = let kept = main_kept l (main_shows x s s.main l t is) in absurd (cc)
turn_takes x s (turn.Futures n) l t is m at = let kept = (futures_others s (next_polled n s.core) l t is).1 in absurd (cc)
turn_takes x s (turn.Take ended) l t is m at = take_next x s (next_entry s.core) l t is m at
turn_takes x s (turn.Run n) l t is m at = let kept = run_shows IsKept own_kept (λ n t row. refl) (λ n i. refl) x s n l t is in absurd (cc)
turn_takes x s turn.Over l t is m at = absurd is

pub takings_show_marks : TakingsShowMarks
unfolding Step
takings_show_marks x s l t is = turn_takes x s s.turn l t is
