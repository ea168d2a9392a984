-- What the machine's own steps call on spawned works.
use Rattle.laws_beside.specs.Shown.{OthersCallNone, PollsCall, ScriptsCall, calls_of_op, finish_of, is_calling}
use Rattle.laws_beside.specs.Own.{awaits, calls_from, calls_of_label, if_same, number_of}
use Rattle.laws_labels.proofs.OwnLemmas.{IsOwn}
use Rattle.laws_labels.proofs.TakingLemmas.{IsTaken, take_shows}
use Rattle.laws_labels.proofs.ShowLemmas.{wider}
use Rattle.laws_labels.proofs.TurnLemmas.{run_shows, shown}
use Rattle.laws_labels.specs.Own.{Shows}
use Rattle.std.proofs.Common.{ap, refl, subst, sym, ◌∙◌}
use Rattle.std.specs.Prelude.{Bool, List, None, Option, Some, [], false, true, ℕ, ◌∷◌, ◌≡◌}
use Rattle.task_abort.specs.declared.log.PhaseCall.{PhaseCall}
use Rattle.task_abort.specs.declared.log.PhaseCall.TheVariants.{PollFuture}
use Rattle.machine_data.specs.Core.{Began, Core, Main, MainPlace, Refused, Scripted, Started, State}
use Rattle.machine_data.specs.Labels.{choice_of}
use Rattle.machine_data.specs.Maps.{get}
use Rattle.machine_data.specs.Read.{next_entry, phase_of}
use Rattle.machine_data.specs.declared.component.Callee.{Callee}
use Rattle.machine_data.specs.declared.label.Label.{Label}
use Rattle.machine_data.specs.declared.label.Label.TheVariants as label
use Rattle.machine_data.specs.declared.label.LoopLabel.TheVariants as loop_label
use Rattle.machine_data.specs.declared.label.MainLabel.{MainLabel}
use Rattle.machine_data.specs.declared.label.MainLabel.TheVariants as main_label
use Rattle.machine_data.specs.declared.records.Entry.{Entry}
use Rattle.machine_data.specs.declared.records.Turn.{Turn}
use Rattle.machine_data.specs.declared.records.Turn.TheVariants as turn
use Rattle.machine_data.specs.declared.scenario.MainOpDef.{MainOpDef}
use Rattle.machine_data.specs.declared.scenario.MainOpDef.TheVariants as main_op
use Rattle.machine_data.specs.declared.trap.Trap.{Trap}
use Rattle.machine_data.specs.declared.statuses.Mark.{Mark}
use Rattle.machine_rules.specs.MainOps.{act_of, finish_act, finish_result, is_complete, is_ready_for_call, line_of, main_rule, op_at, spawned_at, start_act, start_refusal, started_at, unless_pending}
use Rattle.machine_rules.specs.Scripts.{values_in}
use Rattle.machine_rules.specs.Stalled.{Setting, is_unended_take, may_deadlock}
use Rattle.machine_rules.specs.Step.{DeadlockStep, EmptyFor, FuturesStep, MainProgresses, MainStep, Polled, RestStep, ScriptStep, Step, TakeStep, TurnStep, entry_number}
use Rattle.machine_rules.specs.Takes.{popped, take_rule}
use Rattle.machine_rules.specs.Works.{Asked, Ends, FailsNow, Poll, StillPends, has_moving_work, next_polled, poll_of}

-- ---- Polls

polled_calls : (x : Setting) (s : State) (k i : ℕ) (p : Poll) (l : Label) (t : State) → Polled s i p l t → calls_from x k s l ≡ if_same i (number_of k s.main) (PollFuture ∷ finish_of l)
polled_calls x s k i (StillPends host) l t is = subst (λ (m : Label). calls_from x k s m ≡ if_same i (number_of k s.main) (PollFuture ∷ finish_of m)) (sym is.0) refl
polled_calls x s k i (Ends v) l t is = subst (λ (m : Label). calls_from x k s m ≡ if_same i (number_of k s.main) (PollFuture ∷ finish_of m)) (sym is.0) refl
polled_calls x s k i FailsNow l t is = subst (λ (m : Label). calls_from x k s m ≡ if_same i (number_of k s.main) (PollFuture ∷ finish_of m)) (sym is.0) refl
polled_calls x s k i (Asked next) l t is = polled_calls x s k i (next is.0) l t is.1

pub polls_call : PollsCall
unfolding Step
polls_call x s n i l t k at next step =
    let polls : FuturesStep s (next_polled n s.core) l t = subst (λ (p : Turn). TurnStep x s p l t) at step in
    polled_calls x s k i (poll_of i s.core) l t (subst (λ (o : Option ℕ). FuturesStep s o l t) next polls)

-- ---- Main

module _ (x : Setting) (s : State) (p : MainPlace) (k i : ℕ) (l : Label) (t : State) where
  abbrev calls : List PhaseCall
  calls = calls_of_label x k i (Scripted p) l

  pends : l ≡ label.Loop loop_label.MainPends → calls ≡ awaits k (op_at x.script p)
  pends is = ap (calls_of_label x k i (Scripted p)) is

  started : (o : MainOpDef) (j : ℕ) (e : Callee) (words : List ℕ) (r : Option Trap) → MainProgresses s p o (start_act x.component j e words s.core r) l t → calls ≡ []
  started o j e words None is = ap (calls_of_label x k i (Scripted p)) is.0
  started o j e words (Some why) is = ap (calls_of_label x k i (Scripted p)) is.0

  resulted : (o : MainOpDef) (j n : ℕ) (r : Option ℕ) → awaits k (op_at x.script p) ≡ [] → MainProgresses s p o (finish_result j n s.core r) l t → calls ≡ []
  resulted o j n None none is = pends is.0 ∙ none
  resulted o j n (Some v) none is = ap (calls_of_label x k i (Scripted p)) is.0

  finished : (o : MainOpDef) (j : ℕ) (b : Started) → awaits k (op_at x.script p) ≡ [] → MainProgresses s p o (finish_act j s.core b) l t → calls ≡ []
  finished o j (Began n) none is = resulted o j n (get s.core.results n) none is
  finished o j (Refused why) none is = ap (calls_of_label x k i (Scripted p)) is.0

  unless : (o : MainOpDef) (b : Bool) (m : MainLabel) (cs : List PhaseCall) → awaits k (op_at x.script p) ≡ cs → calls_of_label x k i (Scripted p) (label.Main m) ≡ cs →
      MainProgresses s p o (unless_pending b m s.core) l t → calls ≡ cs
  unless o true m cs waits does is = ap (calls_of_label x k i (Scripted p)) is.0 ∙ does
  unless o false m cs waits does is = pends is.0 ∙ waits

  op_calls : (o : MainOpDef) → op_at x.script p ≡ Some o → MainProgresses s p o (main_rule x.component (line_of p o) s.core (act_of p o)) l t → calls ≡ calls_of_op k (Some o)
  op_calls (main_op.Start e xs) at is = started (main_op.Start e xs) (line_of p (main_op.Start e xs)) e (values_in p.registers xs) (start_refusal s.core) is
  op_calls (main_op.Finish j r) at is = finished (main_op.Finish j r) j (started_at p j) (ap (awaits k) at) is
  op_calls (main_op.Spawn h) at is = ap (calls_of_label x k i (Scripted p)) is.0
  op_calls (main_op.Abort j) at is = ap (calls_of_label x k i (Scripted p)) is.0
  op_calls (main_op.Await j) at is = unless (main_op.Await j) (is_complete (phase_of (spawned_at p j) s.core)) (main_label.Await j) _ (ap (awaits k) at) refl is
  op_calls main_op.Quiet at is = unless main_op.Quiet _ main_label.Quiet [] (ap (awaits k) at) refl is
  op_calls (main_op.Ready e) at is = unless (main_op.Ready e) (is_ready_for_call e.instance s.core) main_label.Ready [] (ap (awaits k) at) refl is
  op_calls (main_op.Answer v) at is = ap (calls_of_label x k i (Scripted p)) is.0

  script_calls : (o : Option MainOpDef) → op_at x.script p ≡ o → ScriptStep x s p o l t → calls ≡ calls_of_op k o
  script_calls None at is = pends is.0 ∙ ap (awaits k) at
  script_calls (Some o) at is = op_calls o at is

pub scripts_call : ScriptsCall
unfolding Step
scripts_call x s p l t k at main step =
    let steps : MainStep x s s.main l t = subst (λ (q : Turn). TurnStep x s q l t) at step in
    let script : ScriptStep x s p (op_at x.script p) l t = subst (λ (m : Main). MainStep x s m l t) main steps in
    ap (λ (m : Main). calls_of_label x k (number_of k m) m l) main ∙ script_calls x s p k (number_of k (Scripted p)) l t (op_at x.script p) refl script

-- ---- The other turns

abbrev IsSilent : Label → Type 0
IsSilent l = (x : Setting) (k i : ℕ) (m : Main) → calls_of_label x k i m l ≡ []

own_silent : (l : Label) → IsOwn l → IsSilent l
own_silent (label.Main l) h = absurd (cc)
own_silent (label.Loop l) h = absurd (cc)
own_silent _ h = λ x k i m. refl

taken_silent : (m : Mark) (l : Label) → IsTaken m l → IsSilent l
taken_silent m (label.Main l) h = absurd (cc)
taken_silent m (label.Loop l) h = absurd (cc)
taken_silent m _ h = λ x k i n. refl

rest_silent : (s : State) (b : Bool) (l : Label) (t : State) → RestStep s b l t → IsSilent l
rest_silent s true l t is = subst IsSilent (sym is.0) (λ x k i m. refl)
rest_silent s false l t is = absurd is

deadlock_silent : (s : State) (b : Bool) (l : Label) (t : State) → DeadlockStep s b l t → IsSilent l
deadlock_silent s true l t is = subst IsSilent (sym is.0) (λ x k i m. refl)
deadlock_silent s false l t is = absurd is

empty_silent : (x : Setting) (s : State) (b : Bool) (l : Label) (t : State) → EmptyFor x s b l t → IsSilent l
empty_silent x s true l t is = rest_silent s (is_unended_take s.turn) l t is
empty_silent x s false l t is = deadlock_silent s (may_deadlock x s) l t is

take_silent : (x : Setting) (s : State) (o : Option (Mark × Entry)) (l : Label) (t : State) → TakeStep x s o l t → IsSilent l
take_silent x s None l t is = empty_silent x s (has_moving_work s.core) l t is
take_silent x s (Some e) l t is =
    let base = popped e.0 s.core in
    let p = take_rule e.0 (choice_of l) base e.1 in
    let row : Shows (IsTaken e.0) p = take_shows e.0 (choice_of l) base e.1 in
    shown IsSilent s base (entry_number e.1) (λ why row y k i m. refl) (λ j y k i m. refl) p (wider (IsTaken e.0) IsSilent (taken_silent e.0) p row) l t is

turn_silent : (x : Setting) (s : State) (u : Turn) (l : Label) (t : State) → is_calling u ≡ false → TurnStep x s u l t → IsSilent l
turn_silent x s turn.Main l t other is = absurd (cc)
turn_silent x s (turn.Futures n) l t other is = absurd (cc)
turn_silent x s (turn.Take ended) l t other is = take_silent x s (next_entry s.core) l t is
turn_silent x s (turn.Run n) l t other is = run_shows IsSilent own_silent (λ n why row y k i m. refl) (λ n j y k i m. refl) x s n l t is
turn_silent x s turn.Over l t other is = absurd is

pub others_call_none : OthersCallNone
unfolding Step
others_call_none x s l t k other step = turn_silent x s s.turn l t other step x k (number_of k s.main) s.main
