-- The works that main has spawned, from step to step: one more at most, whose number is above all others.
use Rattle.beside_main.proofs.RisingLemmas.{rising_last, rising_more}
use Rattle.beside_main.specs.Calls.{GrowsBy, IsRising}
use Rattle.laws_beside.specs.Wide.{AbortedAt, FindsAbort, FindsRequest, RequestedAt, RequestedBy, StepBeside, is_running_spawn}
use Rattle.machine_data.specs.Core.{Began, Core, Main, MainPlace, Refused, Scripted, Started, State, Unscripted}
use Rattle.machine_data.specs.Labels.{choice_of}
use Rattle.machine_data.specs.Maps.{get}
use Rattle.machine_data.specs.Read.{next_entry, phase_of, work_caller_of}
use Rattle.machine_data.specs.Write.{add_work, count_work, on_work, push_high, set_course, set_phase, set_stage}
use Rattle.machine_data.specs.declared.component.Callee.{Callee}
use Rattle.machine_data.specs.declared.label.Label.{Label}
use Rattle.machine_data.specs.declared.label.Label.TheVariants as label
use Rattle.machine_data.specs.declared.label.MainLabel.{MainLabel}
use Rattle.machine_data.specs.declared.label.MainLabel.TheVariants as main_label
use Rattle.machine_data.specs.declared.records.Course.TheVariants as course
use Rattle.machine_data.specs.declared.records.Entry.{Entry}
use Rattle.machine_data.specs.declared.records.Turn.{Turn}
use Rattle.machine_data.specs.declared.records.Turn.TheVariants as turn
use Rattle.machine_data.specs.declared.records.Work.{Work}
use Rattle.machine_data.specs.declared.records.WorkCaller.{WorkCaller}
use Rattle.machine_data.specs.declared.records.WorkCaller.TheVariants as callers
use Rattle.machine_data.specs.declared.scenario.MainOpDef.{MainOpDef}
use Rattle.machine_data.specs.declared.scenario.MainOpDef.TheVariants as main_op
use Rattle.machine_data.specs.declared.statuses.Mark.{Mark}
use Rattle.machine_data.specs.declared.statuses.Phase.TheVariants as phase
use Rattle.machine_data.specs.declared.trap.Trap.{Trap}
use Rattle.machine_rules.proofs.LawLemmas.{never_fewer}
use Rattle.machine_rules.specs.Calls.{next_work, work_queued}
use Rattle.machine_rules.specs.MainOps.{act_of, advanced_main, finish_act, finish_result, is_complete, is_ready_for_call, is_spawn, is_spawn_caller, line_of, main_rule, main_spawned, op_at, start_act, start_refusal, spawned_at, started_at, unless_pending}
use Rattle.machine_rules.specs.Progress.{Asks, Continues, Fails, Never, OneOf, Ordered, Progress, Stops, Traps}
use Rattle.machine_rules.specs.Scripts.{values_in}
use Rattle.machine_rules.specs.Stalled.{Setting, is_unended_take, may_deadlock}
use Rattle.machine_rules.specs.Step.{DeadlockStep, EmptyFor, FuturesStep, MainProgresses, MainStep, Polled, Progresses, RestStep, ScriptStep, Step, TakeStep, TurnStep, did, entry_number}
use Rattle.machine_rules.specs.Takes.{popped, take_rule}
use Rattle.machine_rules.specs.Turns.{at_turn, goes_to}
use Rattle.machine_rules.specs.Works.{Asked, Ends, FailsNow, Poll, StillPends, followed, has_moving_work, next_polled, poll_ends, poll_of}
use Rattle.machine_rules.specs.MainOps.{Does}
use Rattle.std.proofs.Common.{ap, arith, inl, inr, refl, subst, sym, ◌∙◌}
use Rattle.std.specs.Option.{option_map_or}
use Rattle.std.specs.Prelude.{Bool, List, None, Option, Some, [], false, true, ℕ, ◌&&◌, ◌++◌, ◌+◌, ◌∷◌, ◌≡◌, ◌≤◌, ◌⊎◌}

both_true : (a b : Bool) → (a && b) ≡ true → a ≡ true
both_true true b is = refl
both_true false b is = absurd (cc)

caller_is : (f : WorkCaller) → is_spawn_caller f ≡ true → f ≡ callers.Spawn
caller_is callers.Spawn is = refl
caller_is (callers.Async n q) is = absurd (cc)
caller_is (callers.Sync n) is = absurd (cc)

spawn_caller : (i : ℕ) (s : Core) → is_spawn i s ≡ true → work_caller_of i s ≡ callers.Spawn
spawn_caller i s is = by (get s.works i) refl
  where
    by : (o : Option Work) → get s.works i ≡ o → work_caller_of i s ≡ callers.Spawn
    by None at = absurd (grind (arith, at, is))
    by (Some w) at =
        let spawn : is_spawn_caller w.caller ≡ true = sym (ap (λ (o : Option Work). option_map_or (λ (v : Work). is_spawn_caller v.caller) o false) at) ∙ is in
        let which = caller_is w.caller spawn in
        grind (arith, at, which)

abbrev pub spawned_by : Main → List ℕ
spawned_by (Scripted p) = p.spawns
spawned_by Unscripted = []

-- the same, or the next work behind them, which was made
abbrev pub Spawns : Core → Main → Core → Main → Type 0
Spawns s m t n = (spawned_by n ≡ spawned_by m) ⊎ ((spawned_by n ≡ spawned_by m ++ next_work s ∷ []) × (next_work s ≤ t.made.works))

abbrev Stays : State → State → Type 0
Stays s t = t.main ≡ s.main

-- ---- Main stays at the other turns

went : (s : State) (k : Core) (p : Turn) (t : State) → t ≡ goes_to s k p → Stays s t
unfolding at_turn
went s k p t is = ap (λ (u : State). u.main) is

progress_stays : (s : State) (base : Core) (n : ℕ) (p : Progress) (l : Label) (t : State) → Progresses s base n p l t → Stays s t
progress_stays s base n (Continues label new m) l t is = went s new (turn.Run m) t is.1
progress_stays s base n (Stops label new) l t is = went s new turn.Main t is.1
progress_stays s base n (Traps why) l t is = went s _ turn.Over t is.1
progress_stays s base n (Fails i) l t is = went s _ turn.Over t is.1
progress_stays s base n Never l t is = absurd is
progress_stays s base n (Ordered ns next) l t is = progress_stays s base n (next is.0) l t is.1.1
progress_stays s base n (OneOf ns next) l t is = progress_stays s base n (next is.0) l t is.1.1
progress_stays s base n (Asks next) l t is = progress_stays s base n (next is.0) l t is.1

poll_stays : (s : State) (i : ℕ) (p : Poll) (l : Label) (t : State) → Polled s i p l t → Stays s t
poll_stays s i (StillPends host) l t is = went s _ (turn.Futures i) t is.1
poll_stays s i (Ends v) l t is = went s _ (turn.Take true) t is.1
poll_stays s i FailsNow l t is = went s _ turn.Over t is.1
poll_stays s i (Asked next) l t is = poll_stays s i (next is.0) l t is.1

futures_stay : (s : State) (o : Option ℕ) (l : Label) (t : State) → FuturesStep s o l t → Stays s t
futures_stay s None l t is = absurd is
futures_stay s (Some i) l t is = poll_stays s i (poll_of i s.core) l t is

rest_stays : (s : State) (b : Bool) (l : Label) (t : State) → RestStep s b l t → Stays s t
rest_stays s true l t is = went s s.core turn.Main t is.1
rest_stays s false l t is = absurd is

deadlock_stays : (s : State) (b : Bool) (l : Label) (t : State) → DeadlockStep s b l t → Stays s t
deadlock_stays s true l t is = went s _ turn.Over t is.1
deadlock_stays s false l t is = absurd is

empty_stays : (x : Setting) (s : State) (b : Bool) (l : Label) (t : State) → EmptyFor x s b l t → Stays s t
empty_stays x s true l t is = rest_stays s (is_unended_take s.turn) l t is
empty_stays x s false l t is = deadlock_stays s (may_deadlock x s) l t is

take_stays : (x : Setting) (s : State) (o : Option (Mark × Entry)) (l : Label) (t : State) → TakeStep x s o l t → Stays s t
take_stays x s None l t is = empty_stays x s (has_moving_work s.core) l t is
take_stays x s (Some e) l t is =
    let base = popped e.0 s.core in progress_stays s base (entry_number e.1) (take_rule e.0 (choice_of l) base e.1) l t is

-- ---- Main's turn

spawn_made : (x : Setting) (h : ℕ) (s : Core) → (main_spawned x.component h s).made.works ≡ s.made.works + 1
unfolding main_spawned work_queued push_high add_work count_work
spawn_made x h s = refl

same_main : (s : State) (t : State) → Stays s t → Spawns s.core s.main t.core t.main
same_main s t stays = inl (ap spawned_by stays)

module _ (s : State) (p : MainPlace) (l : Label) (t : State) where
  abbrev From : Type 0
  From = Spawns s.core (Scripted p) t.core t.main

  went_from : (k : Core) (q : Turn) → s.main ≡ Scripted p → t ≡ goes_to s k q → From
  went_from k q main is = inl (ap spawned_by (went s k q t is ∙ main))

  at_main : (k : Core) (m : Main) (q : Turn) → t ≡ at_turn s k m q → t.main ≡ m
  unfolding at_turn
  at_main k m q is = ap (λ (u : State). u.main) is

  at_core : (k : Core) (m : Main) (q : Turn) → t ≡ at_turn s k m q → t.core ≡ k
  unfolding at_turn
  at_core k m q is = ap (λ (u : State). u.core) is

  -- its part notes no spawn
  quietly : (k : Core) (m : MainPlace) → t ≡ at_turn s k (Scripted m) turn.Main → m.spawns ≡ p.spawns → From
  quietly k m is same = inl (ap spawned_by (at_main k (Scripted m) turn.Main is) ∙ same)

  module _ (main : s.main ≡ Scripted p) where
    started : (x : Setting) (o : MainOpDef) (j : ℕ) (e : Callee) (words : List ℕ) (r : Option Trap) → MainProgresses s p o (start_act x.component j e words s.core r) l t → From
    started x o j e words None is = quietly _ _ is.1 refl
    started x o j e words (Some why) is = quietly _ _ is.1 refl

    resulted : (j n r : ℕ) (v : Option ℕ) → MainProgresses s p (main_op.Finish j r) (finish_result j n s.core v) l t → From
    resulted j n r None is = went_from s.core (turn.Futures 0) main is.1
    resulted j n r (Some v) is = quietly _ _ is.1 refl

    finished : (j r : ℕ) (b : Started) → MainProgresses s p (main_op.Finish j r) (finish_act j s.core b) l t → From
    finished j r (Began n) is = resulted j n r (get s.core.results n) is
    finished j r (Refused why) is = quietly _ _ is.1 refl

    unless : (o : MainOpDef) (b : Bool) (m : MainLabel) → (advanced_main o m p).spawns ≡ p.spawns → MainProgresses s p o (unless_pending b m s.core) l t → From
    unless o true m same is = quietly _ _ is.1 same
    unless o false m same is = went_from s.core (turn.Futures 0) main is.1

    spawned : (x : Setting) (h j : ℕ) → MainProgresses s p (main_op.Spawn h) (Does (main_label.Spawn j (next_work s.core)) (main_spawned x.component h s.core)) l t → From
    spawned x h j is =
        let made : t.core.made.works ≡ s.core.made.works + 1 = ap (λ (k : Core). k.made.works) (at_core (main_spawned x.component h s.core) _ turn.Main is.1) ∙ spawn_made x h s.core in
        inr (ap spawned_by (at_main _ _ turn.Main is.1), omega (arith, made))

    op_spawns : (x : Setting) (o : MainOpDef) → MainProgresses s p o (main_rule x.component (line_of p o) s.core (act_of p o)) l t → From
    op_spawns x (main_op.Start e xs) is = started x (main_op.Start e xs) (line_of p (main_op.Start e xs)) e (values_in p.registers xs) (start_refusal s.core) is
    op_spawns x (main_op.Finish j r) is = finished j r (started_at p j) is
    op_spawns x (main_op.Spawn h) is = spawned x h (line_of p (main_op.Spawn h)) is
    op_spawns x (main_op.Abort j) is = quietly _ _ is.1 refl
    op_spawns x (main_op.Await j) is = unless (main_op.Await j) (is_complete (phase_of (spawned_at p j) s.core)) (main_label.Await j) refl is
    op_spawns x main_op.Quiet is = unless main_op.Quiet _ main_label.Quiet refl is
    op_spawns x (main_op.Ready e) is = unless (main_op.Ready e) (is_ready_for_call e.instance s.core) main_label.Ready refl is
    op_spawns x (main_op.Answer v) is = went_from s.core turn.Over main is.1

    script_spawns : (x : Setting) (o : Option MainOpDef) → ScriptStep x s p o l t → From
    script_spawns x None is = went_from s.core (turn.Futures 0) main is.1
    script_spawns x (Some o) is = op_spawns x o is

-- ---- A step

-- by main at its place
main_spawns : (x : Setting) (s : State) (p : MainPlace) (l : Label) (t : State) → s.main ≡ Scripted p → MainStep x s s.main l t → Spawns s.core s.main t.core t.main
main_spawns x s p l t main step =
    let script : ScriptStep x s p (op_at x.script p) l t = subst (λ (m : Main). MainStep x s m l t) main step in
    subst (λ (m : Main). Spawns s.core m t.core t.main) (sym main) (script_spawns s p l t main x (op_at x.script p) script)

turn_spawns : (x : Setting) (s : State) (p : MainPlace) (u : Turn) (l : Label) (t : State) → s.main ≡ Scripted p → TurnStep x s u l t → Spawns s.core s.main t.core t.main
turn_spawns x s p turn.Main l t main is = main_spawns x s p l t main is
turn_spawns x s p (turn.Futures n) l t main is = same_main s t (futures_stay s (next_polled n s.core) l t is)
turn_spawns x s p (turn.Take ended) l t main is = same_main s t (take_stays x s (next_entry s.core) l t is)
turn_spawns x s p (turn.Run n) l t main is = same_main s t (progress_stays s s.core n (did x.component n s.core (choice_of l)) l t is)
turn_spawns x s p turn.Over l t main is = absurd is

-- one that finds another thread's abort
abort_stays : (s : State) (o : Option ℕ) (l : Label) (t : State) → FindsAbort s o l t → Stays s t
abort_stays s None l t found = absurd found
abort_stays s (Some i) l t found = went s _ (turn.Take true) t found.1.1

aborted_stays : (s : State) (u : Turn) (l : Label) (t : State) → AbortedAt s u l t → Stays s t
aborted_stays s (turn.Futures n) l t found = abort_stays s (next_polled n s.core) l t found
aborted_stays s turn.Main l t found = absurd found
aborted_stays s (turn.Take b) l t found = absurd found
aborted_stays s (turn.Run n) l t found = absurd found
aborted_stays s turn.Over l t found = absurd found

request_spawns : (x : Setting) (s : State) (p : MainPlace) (o : Option MainOpDef) (l : Label) (t : State) → FindsRequest s p o l t → Spawns s.core (Scripted p) t.core t.main
request_spawns x s p (Some (main_op.Abort k)) l t found = quietly s p l t _ _ found.1.1 refl
request_spawns x s p o l t found = absurd found

requested_spawns : (x : Setting) (s : State) (p : MainPlace) (u : Turn) (l : Label) (t : State) → s.main ≡ Scripted p → RequestedAt x s u l t → Spawns s.core s.main t.core t.main
requested_spawns x s p turn.Main l t main found =
    subst (λ (m : Main). Spawns s.core m t.core t.main) (sym main) (request_spawns x s p (op_at x.script p) l t (subst (λ (m : Main). RequestedBy x s m l t) main found))
requested_spawns x s p (turn.Futures n) l t main found = absurd found
requested_spawns x s p (turn.Take b) l t main found = absurd found
requested_spawns x s p (turn.Run n) l t main found = absurd found
requested_spawns x s p turn.Over l t main found = absurd found

pub beside_spawns : (x : Setting) (s : State) (p : MainPlace) (l : Label) (t : State) → s.main ≡ Scripted p → StepBeside x s l t → Spawns s.core s.main t.core t.main
unfolding StepBeside Step
beside_spawns x s p l t main (inl step) = turn_spawns x s p s.turn l t main step
beside_spawns x s p l t main (inr (inl found)) = same_main s t (aborted_stays s s.turn l t found)
beside_spawns x s p l t main (inr (inr found)) = requested_spawns x s p s.turn l t main found

-- no step gives a number back
pub ended_made : (i : ℕ) (s : Core) → is_running_spawn i s ≡ true → (poll_ends i None s).made ≡ s.made
unfolding poll_ends set_stage set_phase set_course on_work
ended_made i s running = ap (λ (f : WorkCaller). (followed f i (set_phase i phase.Complete (set_course i course.NoValue s))).made) (spawn_caller i s (both_true (is_spawn i s) _ running))

abort_made : (s : State) (o : Option ℕ) (l : Label) (t : State) → FindsAbort s o l t → s.core.made.works ≤ t.core.made.works
unfolding at_turn
abort_made s None l t found = absurd found
abort_made s (Some i) l t found =
    let same : t.core.made.works ≡ s.core.made.works = ap (λ (u : State). u.core.made.works) found.1.1 ∙ ap (λ m. m.works) (ended_made i s.core found.0) in omega (arith, same)

aborted_made : (s : State) (u : Turn) (l : Label) (t : State) → AbortedAt s u l t → s.core.made.works ≤ t.core.made.works
aborted_made s (turn.Futures n) l t found = abort_made s (next_polled n s.core) l t found
aborted_made s turn.Main l t found = absurd found
aborted_made s (turn.Take b) l t found = absurd found
aborted_made s (turn.Run n) l t found = absurd found
aborted_made s turn.Over l t found = absurd found

request_made : (s : State) (p : MainPlace) (o : Option MainOpDef) (l : Label) (t : State) → FindsRequest s p o l t → s.core.made.works ≤ t.core.made.works
unfolding at_turn
request_made s p (Some (main_op.Abort k)) l t found = let same : t.core.made.works ≡ s.core.made.works = ap (λ (u : State). u.core.made.works) found.1.1 in omega (arith, same)
request_made s p o l t found = absurd found

by_made : (x : Setting) (s : State) (m : Main) (l : Label) (t : State) → RequestedBy x s m l t → s.core.made.works ≤ t.core.made.works
by_made x s (Scripted p) l t found = request_made s p (op_at x.script p) l t found
by_made x s Unscripted l t found = absurd found

requested_made : (x : Setting) (s : State) (u : Turn) (l : Label) (t : State) → RequestedAt x s u l t → s.core.made.works ≤ t.core.made.works
requested_made x s turn.Main l t found = by_made x s s.main l t found
requested_made x s (turn.Futures n) l t found = absurd found
requested_made x s (turn.Take b) l t found = absurd found
requested_made x s (turn.Run n) l t found = absurd found
requested_made x s turn.Over l t found = absurd found

pub beside_made : (x : Setting) (s : State) (l : Label) (t : State) → StepBeside x s l t → s.core.made.works ≤ t.core.made.works
unfolding StepBeside
beside_made x s l t (inl step) = (never_fewer x s l t step).works
beside_made x s l t (inr (inl found)) = aborted_made s s.turn l t found
beside_made x s l t (inr (inr found)) = requested_made x s s.turn l t found

-- ---- So they rise

pub grows : (s : Core) (m : Main) (t : Core) (n : Main) → Spawns s m t n → GrowsBy (spawned_by m) (spawned_by n)
grows s m t n (inl same) = inl same
grows s m t n (inr more) = inr (next_work s, more.0)

pub rises : (s : Core) (m : Main) (t : Core) (n : Main) → Spawns s m t n → s.made.works ≤ t.made.works → IsRising 0 (spawned_by m) s.made.works → IsRising 0 (spawned_by n) t.made.works
rises s m t n (inl same) le rising = subst (λ (ms : List ℕ). IsRising 0 ms t.made.works) (sym same) (rising_last 0 (spawned_by m) s.made.works t.made.works le rising)
rises s m t n (inr more) le rising =
    subst (λ (ms : List ℕ). IsRising 0 ms t.made.works) (sym more.0) (rising_more 0 (spawned_by m) s.made.works (next_work s) t.made.works (omega arith) more.1 rising)
