-- However many instances there are, one holding entry of an instance runs at a time: without an instance there is no call, so no entry begins.
use Rattle.machine_data.specs.declared.scenario.Version.{Version}
use Rattle.laws_places.proofs.Laws.{[], act_of, after_primitive, Allowed, along, ap, arith, Asked, begun_holder, Bool, Call, call_came, CallAfter, Callee, callee_of_op, CalleesAre, Caller, CallsThere, Choice, choice_of, component_of, Core, DeadlockStep, Does, EmptyFor, Ends, Entry, entry_number, FailsNow, false, fresh, FuturesStep, get, get-empty, Grown, has_moving_work, history, holds_one, host_label, InOrder, is_unended_take, Label, less_holder, line_of, List, Main, main_rule, MainOpDef, MainPlace, MainProgress, MainProgresses, MainStep, Mark, may, may_deadlock, NewCall, next_entry, next_polled, NoCall, None, Op, op_at, op_callee, op_in, op_of, opening, OpeningInOrder, ops_plain, Option, option_map, Pends, Place, place_of, plain, plain_scene, Poll, poll_of, Polled, popped, popped_threads, Progresses, refl, RestStep, returned_holder, Run, runs_hold_one, SameMain, Scene, Scripted, ScriptStep, Setting, Some, some_none, State, Step, step_walks, StillPends, Stops, subst, sym, take_rule, TakeStep, Thread, thread_taken, true, Turn, TurnStep, Unscripted, Walk, Walked, Primitive, ℕ, ◌<◌, ◌∙◌, ◌∷◌, ◌≡◌}
use Rattle.laws_places.proofs.OrderLemmas.{opening_in_order, step_in_order}
use Rattle.laws_places.specs.Once.{ScriptsHoldOne}
use Rattle.machine_rules.specs.MainOps.{Answers}
use Rattle.machine_rules.specs.Allowed as may

-- ---- No calls

abbrev NoCalls : Core → Type 0
NoCalls s = (k : ℕ) → get s.calls k ≡ None

abbrev IsScripted : Main → Type 0
IsScripted (Scripted p) = Unit {0}
IsScripted Unscripted = ⊥

-- no export is started or called, as none could be
abbrev NoCallees : Setting → Type 0
NoCallees x = CalleesAre x (λ f. f.instance < 0)

-- each thread has the op at its place
abbrev OpsHere : Scene → Type 0
OpsHere a = (n : ℕ) → op_in a n ≡ op_of (component_of a) n a.base

none_below : {n : ℕ} → n < 0 → ⊥
none_below h = omega (arith, h)

none_called : (a : Scene) → NoCallees a.setting → IsScripted a.main → OpsHere a → (f : Caller) (e : Callee) (group : ℕ) (s : Core) →
    may.MayCall a f e group s → ⊥
none_called a none main here f e group s (may.ByScript p o m at callee is same) = none_below (none.starts p.position o e at callee)
none_called a none main here f e group s (may.ByProgram words m takes is same) = absurd (rw m at main)
none_called a none main here f e group s (may.ByThread n r callee is same) =
    none_below (op_callee (component_of a) (λ e. e.instance < 0) none.calls n a.base e (subst (λ (o : Op). callee_of_op o ≡ Some e) (here n) callee))

none_primitive : (a : Scene) → NoCallees a.setting → IsScripted a.main → OpsHere a → (w : Primitive) (s : Core) → Allowed a w s → NoCalls s →
    NoCalls (after_primitive w s)
none_primitive a none main here w s ok q k = by (call_came w s ok k)
  where
    by : CallAfter a w s k → get (after_primitive w s).calls k ≡ None
    by (Grown c d is to goes) = some_none (sym is ∙ q k)
    by (NoCall gone why) = gone
    by (NewCall f e x g group is few m new) = absurd (none_called a none main here f e group s m.0)

-- ---- No entry begins

-- What is so of each state that a run reach.
record IsEmpty (x : Setting) (s : State) : Type 0 where
  order : InOrder x.component s
  calls : NoCalls s.core
  main : IsScripted s.main

-- no thread is there, as its call would be
unplaced_in : (s : Core) → NoCalls s → CallsThere s → (n : ℕ) → place_of n s ≡ None
unplaced_in s none there n = by (get s.threads n) refl
  where
    by : (o : Option Thread) → get s.threads n ≡ o → option_map (λ (t : Thread). t.place) o ≡ None
    by None at = refl
    by (Some t) at = absurd (let here = there n t.call (ap (option_map (λ (t : Thread). t.call)) at) in let gone = none t.call in grind arith)

-- the label is of no entry that holds an instance
abbrev IsQuiet : Core → Label → Type 0
IsQuiet s l = begun_holder s l ≡ None

shows : (s : Core) {l k : Label} → l ≡ k → IsQuiet s k → IsQuiet s l
shows s is quiet = ap (begun_holder s) is ∙ quiet

module _ (x : Setting) (s : State) (l : Label) (t : State) where
  main_quiet : (p : MainPlace) (o : MainOpDef) (r : MainProgress) → MainProgresses s p o r l t → IsQuiet s.core l
  main_quiet p o (Does k new) h = shows s.core h.0 refl
  main_quiet p o Pends h = shows s.core h.0 refl
  main_quiet p o (Answers v) h = shows s.core h.0 refl

  script_quiet : (p : MainPlace) (o : Option MainOpDef) → ScriptStep x s p o l t → IsQuiet s.core l
  script_quiet p None h = shows s.core h.0 refl
  script_quiet p (Some o) h = main_quiet p o (main_rule x.component (line_of p o) s.core (act_of p o)) h

  main_step : (m : Main) → IsScripted m → MainStep x s m l t → IsQuiet s.core l
  main_step (Scripted p) scripted h = script_quiet p (op_at x.script p) h
  main_step Unscripted scripted h = absurd scripted

  polled_quiet : (i : ℕ) (r : Poll) → Polled s i r l t → IsQuiet s.core l
  polled_quiet i (StillPends host) h = shows s.core h.0 refl
  polled_quiet i (Ends v) h = shows s.core h.0 refl
  polled_quiet i FailsNow h = shows s.core h.0 refl
  polled_quiet i (Asked next) h = polled_quiet i (next h.0) h.1

  futures_quiet : (o : Option ℕ) → FuturesStep s o l t → IsQuiet s.core l
  futures_quiet None h = absurd h
  futures_quiet (Some i) h = polled_quiet i (poll_of i s.core) h

  rest_quiet : (b : Bool) → RestStep s b l t → IsQuiet s.core l
  rest_quiet true h = shows s.core h.0 refl
  rest_quiet false h = absurd h

  deadlock_quiet : (b : Bool) → DeadlockStep s b l t → IsQuiet s.core l
  deadlock_quiet true h = shows s.core h.0 refl
  deadlock_quiet false h = absurd h

  empty_quiet : (b : Bool) → EmptyFor x s b l t → IsQuiet s.core l
  empty_quiet true h = rest_quiet (is_unended_take s.turn) h
  empty_quiet false h = deadlock_quiet (may_deadlock x s) h

  host_named : (m : Mark) (i : ℕ) (w : Option ℕ) → IsQuiet s.core (host_label m i w)
  host_named m i None = refl
  host_named m i (Some n) = refl

  host_quiet : (base : Core) (m : Mark) (i : ℕ) (w : Option ℕ) (new : Core) (b : Bool) →
      Progresses s base i (may b (Stops (host_label m i w) new)) l t → IsQuiet s.core l
  host_quiet base m i w new true h = shows s.core h.0 (host_named m i w)
  host_quiet base m i w new false h = absurd h

  thread_quiet : (base : Core) (m : Mark) (n : ℕ) (ch : Choice) (o : Option Place) → o ≡ None →
      Progresses s base n (thread_taken m n ch base o) l t → IsQuiet s.core l
  thread_quiet base m n ch None none h = absurd h
  thread_quiet base m n ch (Some p) none h = some_none none

  entry_quiet : (base : Core) (m : Mark) (e : Entry) → ((n : ℕ) → place_of n base ≡ None) →
      Progresses s base (entry_number e) (take_rule m (choice_of l) base e) l t → IsQuiet s.core l
  entry_quiet base m (Entry.Thread n) none h = thread_quiet base m n (choice_of l) (place_of n base) (none n) h
  entry_quiet base m (Entry.Push i) none h = shows s.core h.0 refl
  entry_quiet base m (Entry.Host i) none h = host_quiet base m i (choice_of l).woken _ _ h

  take_quiet : ((n : ℕ) → place_of n s.core ≡ None) → (o : Option (Mark × Entry)) → TakeStep x s o l t → IsQuiet s.core l
  take_quiet none None h = empty_quiet (has_moving_work s.core) h
  take_quiet none (Some e) h = entry_quiet (popped e.0 s.core) e.0 e.1
      (λ n. ap (λ ts. option_map (λ (t : Thread). t.place) (get ts n)) (popped_threads e.0 s.core) ∙ none n) h

  step_quiet : IsEmpty x s → Step x s l t → IsQuiet s.core l
  unfolding Step
  step_quiet empty step = by s.turn refl step
    where
      none : (n : ℕ) → place_of n s.core ≡ None
      none = unplaced_in s.core empty.calls empty.order.calls_there

      by : (p : Turn) → s.turn ≡ p → TurnStep x s p l t → IsQuiet s.core l
      by Turn.Main at h = main_step s.main empty.main h
      by (Turn.Futures n) at h = futures_quiet (next_polled n s.core) h
      by (Turn.Take ended) at h = take_quiet none (next_entry s.core) h
      by (Turn.Run n) at h = some_none (sym (empty.order.in_place.runs n at) ∙ none n)
      by Turn.Over at h = absurd h

-- ---- Runs

-- a script stays one
script_stays : (m : Main) (t : Core) (n : Main) → SameMain m t n → IsScripted m → IsScripted n
script_stays m t n same h = grind arith

empty_after : (x : Setting) → NoCallees x → (s : State) (l : Label) (t : State) → IsEmpty x s → Step x s l t → IsEmpty x t
empty_after x none s l t empty step =
    let w : Walked x s l t = step_walks x s l t step in
    let a : Scene = plain_scene x s l w.next in
    let here = ops_plain x.component s.core a.base.queues in
    record {
      order = step_in_order x s l t empty.order step;
      calls = along NoCalls (none_primitive a none empty.main here) empty.calls (plain x s l w.next (λ c. Walk c s.core t.core) w.walk);
      main = script_stays s.main t.core t.main w.main empty.main;
    }

less_none : (o : Option ℕ) → less_holder [] o ≡ []
less_none None = refl
less_none (Some i) = refl

run_quiet : (x : Setting) → NoCallees x → (s : State) → IsEmpty x s → (ls : List Label) (t : State) (run : Run x s ls t) →
    holds_one [] (history x s ls t run) ≡ true
run_quiet x none s empty [] t run = refl
run_quiet x none s empty (l ∷ ls) t run =
    rw (step_quiet x s l run.0 empty run.1.0, less_none (returned_holder s.core l))
    (run_quiet x none run.0 (empty_after x none s l run.0 empty run.1.0) ls t run.1.1)

none_made : (rules : Version) (handle_limit capacity : ℕ) → NoCalls (fresh rules 0 handle_limit capacity)
unfolding fresh
none_made rules handle_limit capacity k = get-empty {X = Call} k

pub scripts_hold_one : ScriptsHoldOne
unfolding ScriptsHoldOne OpeningInOrder
scripts_hold_one x codes rules ℕ.zero handle_limit capacity p callees ls t run =
    run_quiet x callees (opening rules 0 handle_limit capacity (Scripted p)) (record {
      order = opening_in_order x.component codes rules 0 handle_limit capacity (Scripted p);
      calls = none_made rules handle_limit capacity;
      main = tt;
    }) ls t run
scripts_hold_one x codes rules (ℕ.suc n) handle_limit capacity p callees ls t run =
    runs_hold_one x rules (ℕ.suc n) handle_limit capacity p ls t (record { some = omega arith; callees = callees }) run
