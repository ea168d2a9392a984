-- The step at which a run finds that another thread has aborted a work: the poll of the work, aborted in the core just before.
use Rattle.laws_beside.proofs.MarkedLemmas.{marked_next, marked_polls_find_aborts}
use Rattle.laws_beside.specs.Marked.{MarkedPollsFindAborts}
use Rattle.laws_beside.specs.Wide.{AbortedAt, FindsAbort, FindsRequest, RequestedAt, RequestedBy, is_running, is_running_spawn, requested}
use Rattle.std.proofs.Common.{ap, ap₂, arith, inl, inr, refl, subst, sym, ◌∙◌}
use Rattle.std.proofs.lemmas.Bool.Decides.{nat_tests}
use Rattle.std.specs.Option.{option_map_or}
use Rattle.std.specs.Prelude.{Bool, Err, IfSome, List, None, Ok, Option, Result, Some, [], false, is_some, true, ℕ, ◌&&◌, ◌+◌, ◌++◌, ◌∷◌, ◌≡◌, ◌≤◌}
use Rattle.laws_states.specs.Order.{InOrder}
use Rattle.run_trace.specs.declared.yield_budget.YieldBudget.{YieldBudget}
use Rattle.task_loop.specs.Beside.{HasAskedAt, HasEndedAborted, HasMet, HasPassed, HasPolledLast, IsFound, IsNextAborted, IsRunAsBefore, MayMeet, StepsBeside}
use Rattle.task_loop.specs.HasRun.{At, DrivesTo, HasLost, MayRun, MayTakeTurn, at, setting, state}
use Rattle.task_loop.specs.declared.run.RunConcurrent.{RunConcurrent}
use Rattle.task_loop.specs.Says.{Says}
use Rattle.machine_data.proofs.CommuteLemmas.{get-change}
use Rattle.machine_data.specs.Core.{Core, Main, MainPlace, Scripted, State, Unscripted}
use Rattle.machine_data.specs.Maps.{get}
use Rattle.machine_data.specs.Read.{phase_of, work_caller_of}
use Rattle.machine_data.specs.Write.{on_work, set_course, set_phase, set_stage}
use Rattle.machine_data.specs.declared.component.Component.{Component}
use Rattle.machine_data.specs.declared.label.Label.{Label}
use Rattle.machine_data.specs.declared.label.Label.TheVariants as label
use Rattle.machine_data.specs.declared.label.LoopLabel.TheVariants as loop_label
use Rattle.machine_data.specs.declared.label.MainLabel.TheVariants as main_label
use Rattle.machine_data.specs.declared.memory.NoMemory.{NoMemory}
use Rattle.machine_data.specs.declared.outcome.Outcome.{Outcome}
use Rattle.machine_data.specs.declared.outcome.Outcome.TheVariants as outcome
use Rattle.machine_data.specs.declared.records.Turn.{Turn}
use Rattle.machine_data.specs.declared.records.Turn.TheVariants as turn
use Rattle.machine_data.specs.declared.records.Work.{Work}
use Rattle.machine_data.specs.declared.records.WorkCaller.{WorkCaller}
use Rattle.machine_data.specs.declared.records.WorkCaller.TheVariants as callers
use Rattle.machine_data.specs.declared.component.HostDef.{HostDef}
use Rattle.machine_data.specs.declared.records.Course.TheVariants as courses
use Rattle.machine_data.specs.declared.scenario.MainOpDef.{MainOpDef}
use Rattle.machine_data.specs.declared.scenario.MainOpDef.TheVariants as main_op
use Rattle.machine_data.specs.declared.statuses.Phase.{Phase}
use Rattle.machine_data.specs.declared.statuses.Phase.TheVariants as phase
use Rattle.ops_guests.specs.Works.{KeepsTold, KeepsWorks}
use Rattle.machine_rules.specs.MainOps.{advanced_main, is_spawn, is_spawn_caller, main_aborted}
use Rattle.machine_rules.specs.Outcome.{outcome_of_label}
use Rattle.machine_rules.specs.Stalled.{Setting}
use Rattle.machine_rules.specs.Step.{Step}
use Rattle.machine_rules.specs.Turns.{at_turn, queues_are_empty, settled_futures, settled_take, settled_turn}
use Rattle.machine_rules.specs.Works.{followed, next_polled, poll_ends}
use Rattle.task_store.specs.Hosts.{HoldsHosts}
use Rattle.task_store.specs.declared.spawn.SpawnHandle.{SpawnHandle}
use Rattle.task_store.specs.declared.store.Store.{Store}
use Rattle.ops_turns.proofs.DriveLemmas.{on_begins, on_more}
use Rattle.ops_turns.proofs.LaterLemmas.{last_by_step}
use Rattle.ops_turns.specs.Drive.{IsOn}
use Rattle.ops_turns.specs.Later.{WorksLast}
use Rattle.ops_turns.specs.Turn.{IsAtTurn, IsFree, IsSettled, PendsIn, CoreInOrder, Turns, given, is_open, running_of, runs_in, setting_of, state_at}
use Rattle.ops_turns.specs.declared.made.MadeStep.{MadeStep}
use Rattle.core_primitives.specs.Groups.{IsAsked}
use Rattle.core_primitives.specs.StateView.{StateView, on_core}

-- ---- A turn in which no thread runs

not_run : (p : Turn) (n : ℕ) → runs_in p ≡ None → p ≡ turn.Run n → ⊥
not_run p n none is = let some : runs_in p ≡ Some n = ap runs_in is in absurd (cc)

-- is as good as another one, for a core in order
order_beside : (c : Component) (p q : Turn) (s : Core) (m : Main) → runs_in p ≡ None → runs_in q ≡ None → is_open p ≡ true → InOrder c (state_at s m p) → InOrder c (state_at s m q)
order_beside c p q s m none gone unended o = record {
  codes = o.codes;
  in_place = record { placed = o.in_place.placed; runs = λ n is. absurd (not_run q n gone is) };
  strands = o.strands;
  directs = o.directs;
  works = o.works;
  awaited = o.awaited;
  numbered = o.numbered;
  calls_there = o.calls_there;
  calls_named = o.calls_named;
  works_named = o.works_named;
  names = o.names;
  calls = o.calls;
  works_known = o.works_known;
  sets_named = o.sets_named;
  joins_named = o.joins_named;
  waits = o.waits;
  waits_placed = o.waits_placed;
  kinds = o.kinds;
  deliveries = o.deliveries;
  fits = o.fits;
  starts = o.starts;
  unbegun = o.unbegun;
  watched = o.watched;
  cancelled = o.cancelled;
  inside = o.inside;
  held = o.held;
  works_told = o.works_told;
  calls_told = o.calls_told;
  awake = λ goes. let a = o.awake unended in record {
    alone = λ n runs. absurd (not_run p n none (a.alone n runs));
    starts_there = a.starts_there;
    blocked = a.blocked;
    callers = a.callers;
    feet = a.feet;
    free = record { under = a.free.under; behind = λ n f at fresh. ((a.free.behind n f at fresh).0, λ k is. not_run q k gone is) };
    counted = a.counted;
  };
}

pub sits_beside : (c : Component) (p q : Turn) (s : Core) → runs_in p ≡ None → runs_in q ≡ None → is_open p ≡ true → CoreInOrder c p s → CoreInOrder c q s
sits_beside c p q s none gone unended sits = record {
  order = λ m. order_beside c p q s m none gone unended (sits.order m);
  there = sits.there;
  handles = sits.handles;
}

-- ---- The abort in the core

running_spawn : (i : ℕ) (s : Core) → is_spawn i s ≡ true → is_running (phase_of i s) ≡ true → is_running_spawn i s ≡ true
running_spawn i s there running = ap₂ (λ (a b : Bool). a && b) there running

spawn_caller : (i : ℕ) (s : Core) → is_spawn i s ≡ true → work_caller_of i s ≡ callers.Spawn
spawn_caller i s is = by (get s.works i) is
  where
    of : (f : WorkCaller) → is_spawn_caller f ≡ true → f ≡ callers.Spawn
    of callers.Spawn is = refl
    of (callers.Async n q) is = absurd (cc)
    of (callers.Sync n) is = absurd (cc)

    by : (o : Option Work) → option_map_or (λ (w : Work). is_spawn_caller w.caller) o false ≡ true → option_map_or (λ (w : Work). w.caller) o callers.Spawn ≡ callers.Spawn
    by None is = refl
    by (Some w) is = of w.caller is

spawn_still : (i j : ℕ) (s : Core) → is_spawn j (main_aborted i s) ≡ is_spawn j s
unfolding main_aborted set_phase on_work
spawn_still i j s = grind (arith, nat_tests, get-change)

gone_still : (i j : ℕ) (s : Core) → get s.works j ≡ None → get (main_aborted i s).works j ≡ None
unfolding main_aborted set_phase on_work
gone_still i j s none = grind (arith, nat_tests, get-change, none)

same_given : (i : ℕ) (s : Core) → given (main_aborted i s) ≡ given s
unfolding main_aborted set_phase on_work
same_given i s = refl

-- the works of the state are there still behind a step that comes after the abort
pub last_behind : (i : ℕ) (s u : StateView) → WorksLast (on_core (main_aborted i) s) u → WorksLast s u
unfolding main_aborted set_phase on_work
last_behind i s u last = record {
  names = λ id live. last.names id live;
  made = last.made;
  gone = λ q made none. last.gone q made (gone_still i q s.core none);
  spawns = λ q is. last.spawns q (spawn_still i q s.core ∙ is);
}

-- no group is finished by the end of a spawned work
ended_groups_stay : (f : WorkCaller) (i : ℕ) (s : Core) → f ≡ callers.Spawn → (followed f i s).groups ≡ s.groups
unfolding set_stage on_work
ended_groups_stay f i s is = ap (λ (g : WorkCaller). (followed g i s).groups) is

spawn_groups_stay : (i : ℕ) (s : Core) → work_caller_of i s ≡ callers.Spawn → (poll_ends i None s).groups ≡ s.groups
unfolding poll_ends set_phase set_course on_work
spawn_groups_stay i s is = ended_groups_stay (work_caller_of i s) i (set_phase i phase.Complete (set_course i courses.NoValue s)) is

-- ---- The poll

take_free : (b : Bool) → IsFree (settled_take true b)
take_free true x s m = tt
take_free false x s m = tt

-- the aborted work is polled next still
pub settled_still : (polled : ℕ) (h : SpawnHandle) (s t : StateView) → t ≡ on_core (main_aborted h.number) s → IsNextAborted polled h s → IsSettled t.core (turn.Futures polled)
settled_still polled h s t same next = ap (settled_futures polled t.core)
    (subst (λ (k : Core). next_polled polled k ≡ Some h.number) (sym (ap (λ (v : StateView). v.core) same)) (marked_next h.number s.core polled h.number next.1.0))

module _ (c : Component) (p : Turn) (polled : ℕ) (h : SpawnHandle) (s t u : StateView) (made : MadeStep) (same : t ≡ on_core (main_aborted h.number) s)
    (order : CoreInOrder c p t.core) (unfinished : is_open p ≡ true) (apart : runs_in p ≡ None) (idle : running_of s ≡ None) (next : IsNextAborted polled h s)
    (turns : (x : Setting) (m : Main) → PendsIn x t.core m (turn.Futures polled) → Turns x (turn.Futures polled) m t made m u) where
  abbrev i : ℕ
  i = h.number

  abbrev x : Setting
  x = setting_of c [] true

  t_core : t.core ≡ main_aborted i s.core
  t_core = ap (λ (v : StateView). v.core) same

  running : is_running_spawn i s.core ≡ true
  running = running_spawn i s.core next.0.there next.1.1

  pub at_poll : IsAtTurn c (turn.Futures polled) t
  at_poll = record {
    order = sits_beside c p (turn.Futures polled) t.core apart refl unfinished order;
    running = ap running_of same ∙ idle;
    settled = settled_still polled h s t same next;
    unfinished = refl;
  }

  turned : Turns x (turn.Futures polled) Unscripted t made Unscripted u
  turned = turns x Unscripted refl

  found : (made.label ≡ label.Loop (loop_label.FutureEnds i))
      × (AbortedAt (state_at s.core Unscripted (turn.Futures polled)) (turn.Futures polled) (label.Loop (loop_label.FutureAborted i)) (state_at u.core Unscripted made.turn)
      × (u.core ≡ poll_ends i None s.core))
  unfolding MarkedPollsFindAborts
  found = marked_polls_find_aborts x (state_at s.core Unscripted (turn.Futures polled)) polled i made.label (state_at u.core Unscripted made.turn) refl next.1.0 running
      (subst (λ (k : Core). Step x (state_at k Unscripted (turn.Futures polled)) made.label (state_at u.core Unscripted made.turn)) t_core turned.step)

  pub core_after : u.core ≡ poll_ends i None s.core
  core_after = found.1.1

  pub turn_after : made.turn ≡ settled_turn u.core (turn.Take true)
  unfolding at_turn
  turn_after =
      let there = subst (λ (o : Option ℕ). FindsAbort (state_at s.core Unscripted (turn.Futures polled)) o (label.Loop (loop_label.FutureAborted i)) (state_at u.core Unscripted made.turn)) next.1.0 found.1.0 in
      ap (λ (v : State). v.turn) there.1.1 ∙ ap (λ (k : Core). settled_turn k (turn.Take true)) (sym core_after)

  on : IsOn x (state_at t.core Unscripted (turn.Futures polled)) [] (given t.core) made.turn Unscripted u (made.label ∷ []) 1
  on = on_more x (state_at t.core Unscripted (turn.Futures polled)) [] (given t.core) (turn.Futures polled) Unscripted t [] 0
      (on_begins x [] (turn.Futures polled) Unscripted t at_poll refl) made Unscripted u turned (made.label ∷ []) refl (ap outcome_of_label found.0)

  pub at_after : IsAtTurn c made.turn u
  at_after = on.at

  pub few_after : given u.core ≤ given s.core + 2
  few_after =
      let few = on.few in
      let first : given t.core ≡ given s.core = ap given t_core ∙ same_given i s.core in
      omega (arith, few, first)

  pub free_after : IsFree made.turn
  free_after = subst IsFree (sym turn_after) (take_free (queues_are_empty u.core))

  pub last_after : KeepsWorks t u → WorksLast t u
  last_after names = last_by_step x (turn.Futures polled) made.turn Unscripted Unscripted made.label t u at_poll.order turned.step names

-- ---- So it ends

module _ {T H G : Type 0} (course : H → HostDef) (c : Component) (p : Turn) (polled : ℕ) (h : SpawnHandle) (old left new : Store T H G) (made : MadeStep)
    (may : MayMeet course c p old) (next : IsNextAborted polled h old.state)
    (same : left ≡ record old { works = left.works; state = on_core (main_aborted h.number) old.state })
    (order : (q : Turn) → CoreInOrder c q old.state.core → CoreInOrder c q left.state.core)
    (turns : (x : Setting) (m : Main) → PendsIn x left.state.core m (turn.Futures polled) → Turns x (turn.Futures polled) m left.state made m new.state)
    (kept : KeepsTold left.state new.state) (hosts : HoldsHosts course new) (rest : new.listeners ≡ left.listeners) where
  state_same : left.state ≡ on_core (main_aborted h.number) old.state
  state_same = ap (λ (v : Store T H G). v.state) same

  after : new.state.core ≡ poll_ends h.number None old.state.core
  after = core_after c p polled h old.state left.state new.state made state_same (order p may.order) may.unfinished may.apart may.idle next turns

  pub ended_aborted : HasEndedAborted course c h.number old new made.turn
  ended_aborted = record {
    core = after;
    turn = turn_after c p polled h old.state left.state new.state made state_same (order p may.order) may.unfinished may.apart may.idle next turns;
    at = at_after c p polled h old.state left.state new.state made state_same (order p may.order) may.unfinished may.apart may.idle next turns;
    pends = free_after c p polled h old.state left.state new.state made state_same (order p may.order) may.unfinished may.apart may.idle next turns;
    few = few_after c p polled h old.state left.state new.state made state_same (order p may.order) may.unfinished may.apart may.idle next turns;
    last = last_behind h.number old.state new.state
        (subst (λ (v : StateView). WorksLast v new.state) state_same
        (last_after c p polled h old.state left.state new.state made state_same (order p may.order) may.unfinished may.apart may.idle next turns kept.0));
    hosts = hosts;
    asked = λ is. kept.1 ∙ (ap (λ (v : StateView). v.tags.tracked) state_same ∙ (is ∙ (sym (spawn_groups_stay h.number old.state.core (spawn_caller h.number old.state.core next.0.there)) ∙ ap (λ (k : Core). k.groups) (sym after))));
    listeners = rest ∙ ap (λ (v : Store T H G). v.listeners) same;
  }

-- ---- What the calls give

module _ {M T H G : Type 0} (says : Says M) (course : H → HostDef) (c : Component) where
  -- main's part stays, and the run may go on
  module _ (stays : (m : M) (s t : StateView) → WorksLast s t → says.knows m s → says.knows m t) (a b : At M T H G) (may : MayRun says course c a) (main : b.main ≡ a.main)
      (polled : ℕ) (h : SpawnHandle) (next : IsNextAborted polled h a.store.state) where
    stands_behind : (q : Turn) → b.turn ≡ q → IsAtTurn c q b.store.state → IsFree q → WorksLast a.store.state b.store.state → HoldsHosts course b.store →
        (IsAsked a.store.state → IsAsked b.store.state) → MayTakeTurn says course c (setting says course c a) b
    stands_behind q is at free last hosts asked = record {
      order = subst (λ (r : Turn). CoreInOrder c r b.store.state.core) (sym is) at.order;
      settled = subst (λ (r : Turn). IsSettled b.store.state.core r) (sym is) at.settled;
      running = at.running ∙ ap runs_in (sym is);
      pends = subst (λ (r : Turn). PendsIn (setting says course c a) b.store.state.core (says.part b.main) r) (sym is) (free (setting says course c a) b.store.state.core (says.part b.main));
      suits = subst (λ (m : M). says.suits m c) (sym main) may.may_turn.suits;
      knows = subst (λ (m : M). says.knows m b.store.state) (sym main) (stays a.main a.store.state b.store.state last may.may_turn.knows);
      works = hosts;
      asked = asked may.may_turn.asked;
    }

    -- in the turn in which works are polled
    pub abort_met : a.turn ≡ turn.Futures polled → HasEndedAborted course c h.number a.store b.store b.turn → b.trace ≡ a.trace ++ label.Loop (loop_label.FutureAborted h.number) ∷ [] →
        HasMet says course c (label.Loop (loop_label.FutureAborted h.number)) a b
    unfolding at_turn
    abort_met here ended trace = record {
      step = inl (subst (λ (r : Turn). AbortedAt (state says course c a) r (label.Loop (loop_label.FutureAborted h.number)) (state says course c b)) (sym here)
          (subst (λ (o : Option ℕ). FindsAbort (state says course c a) o (label.Loop (loop_label.FutureAborted h.number)) (state says course c b)) (sym next.1.0)
          (running_spawn h.number a.store.state.core next.0.there next.1.1, (refl, state_is))));
      trace = trace;
      may_turn = stands_behind b.turn refl ended.at ended.pends ended.last ended.hosts ended.asked;
      unfinished = ended.at.unfinished;
      few = ended.few;
      listeners = ended.listeners;
    }
      where
        core : Core
        core = poll_ends h.number None a.store.state.core

        state_is : state says course c b ≡ state_at core (says.part a.main) (settled_turn core (turn.Take true))
        state_is = ap (λ (k : Core). state_at k (says.part b.main) b.turn) ended.core
            ∙ (ap (λ (m : M). state_at core (says.part m) b.turn) main
            ∙ ap (λ (r : Turn). state_at core (says.part a.main) r) (ended.turn ∙ ap (λ (k : Core). settled_turn k (turn.Take true)) ended.core))

  -- main has passed its op, and nothing else is changed
  module _ (a b : At M T H G) (may : MayRun says course c a) (k : ℕ) (here : a.turn ≡ turn.Main) (passed : HasPassed says k a.main b.main a.store.state)
      (store : b.store ≡ a.store) (stays_main : b.turn ≡ a.turn) (trace : b.trace ≡ a.trace ++ requested k ∷ []) where
    abbrev next_place : MainPlace
    next_place = advanced_main (main_op.Abort k) (main_label.Abort phase.AbortRequested k) passed.place

    part_is : says.part b.main ≡ Scripted next_place
    part_is = passed.after

    at_main_state : state says course c b ≡ at_turn (state says course c a) a.store.state.core (Scripted next_place) turn.Main
    unfolding at_turn
    at_main_state = ap (λ (t : Store T H G). state_at t.state.core (says.part b.main) b.turn) store
        ∙ (ap (λ (m : Main). state_at a.store.state.core m b.turn) part_is ∙ ap (λ (r : Turn). state_at a.store.state.core (Scripted next_place) r) (stays_main ∙ here))

    requests : RequestedAt (setting says course c a) (state says course c a) a.turn (requested k) (state says course c b)
    requests = subst (λ (r : Turn). RequestedAt (setting says course c a) (state says course c a) r (requested k) (state says course c b)) (sym here)
        (subst (λ (m : Main). RequestedBy (setting says course c a) (state_at a.store.state.core m a.turn) m (requested k) (state says course c b)) (sym passed.before)
        (subst (λ (o : Option MainOpDef). FindsRequest (state_at a.store.state.core (Scripted passed.place) a.turn) passed.place o (requested k) (state says course c b)) (sym passed.op)
        (passed.running, (refl, subst (λ (m : Main). state says course c b ≡ at_turn (state_at a.store.state.core m a.turn) a.store.state.core (Scripted next_place) turn.Main) passed.before at_main_state))))

    pub request_met : HasMet says course c (requested k) a b
    request_met = record {
      step = inr requests;
      trace = trace;
      may_turn = record {
        order = subst (λ (t : Store T H G). CoreInOrder c b.turn t.state.core) (sym store) (subst (λ (r : Turn). CoreInOrder c r a.store.state.core) (sym stays_main) may.may_turn.order);
        settled = subst (λ (t : Store T H G). IsSettled t.state.core b.turn) (sym store) (subst (λ (r : Turn). IsSettled a.store.state.core r) (sym stays_main) may.may_turn.settled);
        running = ap (λ (t : Store T H G). running_of t.state) store ∙ (may.may_turn.running ∙ ap runs_in (sym stays_main));
        pends = subst (λ (r : Turn). PendsIn (setting says course c a) b.store.state.core (says.part b.main) r) (sym (stays_main ∙ here)) tt;
        suits = passed.suits c may.may_turn.suits;
        knows = subst (λ (t : Store T H G). says.knows b.main t.state) (sym store) (passed.knows may.may_turn.knows);
        works = subst (λ (t : Store T H G). HoldsHosts course t) (sym store) may.may_turn.works;
        asked = subst (λ (t : Store T H G). IsAsked t.state) (sym store) may.may_turn.asked;
      };
      unfinished = ap is_open stays_main ∙ may.unfinished;
      few = let same = ap (λ (t : Store T H G). given t.state.core) store in omega (arith, same);
      listeners = ap (λ (t : Store T H G). t.listeners) store;
    }

  -- ---- A poll of the last round

  module _ (stays : (m : M) (s t : StateView) → WorksLast s t → says.knows m s → says.knows m t) (a b : At M T H G) (may : MayRun says course c a) (main : b.main ≡ a.main) (polled : ℕ) where
    -- the work pends, and nothing else is changed
    pub pends_last : (was_asked : Bool → Type 0) → was_asked false → (i : ℕ) → next_polled polled a.store.state.core ≡ Some i → b.store ≡ a.store → b.turn ≡ a.turn →
        b.trace ≡ a.trace ++ label.Loop (loop_label.FuturePends i) ∷ [] → HasPolledLast says course c was_asked polled a b
    pends_last was_asked asks i next store same trace = record {
      number = i;
      next = next;
      found = false;
      asked = asks;
      running = λ is. absurd (cc);
      trace = trace;
      core = ap (λ (t : Store T H G). t.state.core) store;
      turn = same;
      may_turn = subst (λ (t : Store T H G). MayTakeTurn says course c (setting says course c a) (record b { store = t })) (sym store)
          (subst (λ (r : Turn). MayTakeTurn says course c (setting says course c a) (record b { store = a.store; turn = r })) (sym same)
          (subst (λ (m : M). MayTakeTurn says course c (setting says course c a) (record b { store = a.store; turn = a.turn; main = m })) (sym main) here));
      few = let is = ap (λ (t : Store T H G). given t.state.core) store in omega (arith, is);
      listeners = ap (λ (t : Store T H G). t.listeners) store;
    }
      where
        q : MayTakeTurn says course c (setting says course c a) a
        q = may.may_turn

        here : MayTakeTurn says course c (setting says course c a) (record b { store = a.store; turn = a.turn; main = a.main })
        here = record {
          order = q.order;
          settled = q.settled;
          running = q.running;
          pends = q.pends;
          suits = q.suits;
          knows = q.knows;
          works = q.works;
          asked = q.asked;
        }

    settles_none : (e : Bool) → runs_in (settled_take true e) ≡ None
    settles_none true = refl
    settles_none false = refl

    -- it has ended, and main's turn comes
    pub ends_last : (was_asked : Bool → Type 0) → was_asked true → (h : SpawnHandle) → IsNextAborted polled h a.store.state → (p : Turn) → HasEndedAborted course c h.number a.store b.store p →
        b.turn ≡ turn.Main → b.trace ≡ a.trace ++ label.Loop (loop_label.FutureAborted h.number) ∷ [] → HasPolledLast says course c was_asked polled a b
    ends_last was_asked asks h next p ended comes trace =
        let none : runs_in p ≡ None = ap runs_in ended.turn ∙ settles_none (queues_are_empty b.store.state.core) in
        record {
          number = h.number;
          next = next.1.0;
          found = true;
          asked = asks;
          running = λ is. running_spawn h.number a.store.state.core next.0.there next.1.1;
          trace = trace;
          core = ended.core;
          turn = comes;
          may_turn = stands_behind stays a b may main polled h next turn.Main comes
              (record {
                order = sits_beside c p turn.Main b.store.state.core none refl ended.at.unfinished ended.at.order;
                running = ended.at.running ∙ none;
                settled = refl;
                unfinished = refl;
              })
              (λ x s m. tt) ended.last ended.hosts ended.asked;
          few = ended.few;
          listeners = ended.listeners;
        }

  -- ---- A step of the machine's own

  pub drives_beside : (was_asked : Bool → Type 0) → was_asked false → (listens : Bool) (r : Result Outcome NoMemory) (yield_budget : YieldBudget) (a b : At M T H G) (yield_budget' : YieldBudget) →
      DrivesTo says course c listens 1 r yield_budget a b yield_budget' → StepsBeside says course c was_asked listens r yield_budget a b yield_budget'
  drives_beside was_asked asks listens (Ok o) yield_budget a b yield_budget' drives = (false, (asks, drives))
  drives_beside was_asked asks listens (Err e) yield_budget a b yield_budget' drives = inr (lost listens drives)
    where
      lost : (hears : Bool) → DrivesTo says course c hears 1 (Err e) yield_budget a b yield_budget' → HasLost says course c 1 a b
      lost true q = q.0
      lost false q = q.0

-- ---- Nothing was found

pub main_stays : {M T H G : Type 0} (a : At M T H G) (m : M) → m ≡ a.main → record a { main = m } ≡ a
main_stays a m same = ap (λ n. record a { main = n }) same

pub all_stays : {M T H G : Type 0} (a : At M T H G) (s : Store T H G) (p : Turn) (ls : List Label) → s ≡ a.store → p ≡ a.turn → ls ≡ a.trace →
    record a { store = s; turn = p; trace = ls } ≡ a
all_stays a s p ls store turn trace =
    ap (λ t. record a { store = t; turn = p; trace = ls }) store
    ∙ (ap (λ q. record a { turn = q; trace = ls }) turn ∙ ap (λ ks. record a { trace = ks }) trace)

pub as_before : {M T H G : Type 0} (run run' : RunConcurrent) (m : M) (s t : Store T H G) (before after : List Label) → IsRunAsBefore run s before run' t after →
    (at run' m t after ≡ at run m s before) × (run'.yield_budget ≡ run.yield_budget)
as_before run run' m s t before after same = (
  ap (λ (r : RunConcurrent). at r m t after) same.0 ∙ (ap (λ q. at run m q after) same.1.0 ∙ ap (λ (ls : List Label). at run m s ls) same.1.1),
  ap (λ (r : RunConcurrent). r.yield_budget) same.0,
)

-- ---- What was asked

-- at another turn nothing is
pub asked_else : {M B : Type 0} (polled : ℕ → (running found : Bool) → M → B → B → Type 0) (turns : M → B → B → Type 0) (q : Turn) (s : Core) (m : M) (b : B) → (q ≡ turn.Main → ⊥) →
    ((n : ℕ) → q ≡ turn.Futures n → ⊥) → (found : Bool) → HasAskedAt polled turns q s m b b found
asked_else polled turns turn.Main s m b main polls found = absurd (main refl)
asked_else polled turns (turn.Futures n) s m b main polls found = absurd (polls n refl)
asked_else polled turns (turn.Take ended) s m b main polls found = refl
asked_else polled turns (turn.Run n) s m b main polls found = refl
asked_else polled turns turn.Over s m b main polls found = refl

-- at main's turn this is
pub asked_main : {M B : Type 0} (polled : ℕ → (running found : Bool) → M → B → B → Type 0) (turns : M → B → B → Type 0) (q : Turn) (s : Core) (m : M) (a b : B) → q ≡ turn.Main → turns m a b →
    (found : Bool) → HasAskedAt polled turns q s m a b found
asked_main polled turns q s m a b at asks found = subst (λ (u : Turn). HasAskedAt polled turns u s m a b found) (sym at) asks

-- a handle is found of a running work alone
pub none_found : (number : ℕ) (running : Bool) (o : Option SpawnHandle) (s : StateView) → running ≡ false → IfSome o (λ work. IsFound number running work s) → is_some o ≡ false
none_found number running None s still found = refl
none_found number running (Some work) s still found = absurd (let is = found.1.1 in cc)

pub not_running : (p : Phase) → (p ≡ phase.Running → ⊥) → is_running p ≡ false
not_running phase.Running never = absurd (never refl)
not_running phase.AbortRequested never = refl
not_running phase.Complete never = refl
