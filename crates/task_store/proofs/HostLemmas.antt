-- The host works that a store holds, over the steps of the machine.
use Rattle.machine_data.specs.declared.scenario.Version.{Version}
use Rattle.std.proofs.Common.{ap, arith, inl, inr, refl, subst, sym, ⊎_elim, ◌∙◌}
use Rattle.std.proofs.lemmas.Bool.Decides.{nat_tests}
use Rattle.std.specs.Option.{option_map, option_map_or}
use Rattle.std.specs.Prelude.{Bool, None, Option, Some, cond, false, is_some, suc, true, zero, ℕ, ◌+◌, ◌-◌, ◌==◌, ◌||◌, ◌≡◌, ◌⊎◌}
use Rattle.laws_order.proofs.StayLemmasCells.{works_stay_running, works_stay_taken, works_stay_walked}
use Rattle.laws_order.specs.Cells.{IsInside, Runs, RunsWorks, SpawnedNothing, StaysWork, Takes, WorksStayRunning, WorksStayTaken, WorksStayWalked, is_spawned, phase_told}
use Rattle.store_works.specs.Course.{MayTell}
use Rattle.store_works.specs.KeptWorks.{Found, HeldWork, HoldsNone, MayAnswer, after_abort, after_poll, found_phase, held}
use Rattle.store_works.specs.declared.kept.HostWorks.{HostWorks}
use Rattle.machine_data.specs.declared.statuses.HostPoll.{HostPoll}
use Rattle.machine_data.specs.declared.statuses.HostPoll.TheVariants as host_poll
use Rattle.laws_states.proofs.CourseLemmas.{courses_stay, works_are_called}
use Rattle.laws_states.specs.Courses.{CoursesStay, MakesWork, SameCourse, WorksAreCalled}
use Rattle.laws_states.specs.Order.{InOrder}
use Rattle.machine_data.proofs.CommuteLemmas.{get-change}
use Rattle.machine_rules.proofs.StandLemmas.{is_eq_of}
use Rattle.machine_data.specs.Core.{Core, State, Unscripted, fresh}
use Rattle.machine_data.specs.Maps.{Records, get, get-empty, get-insert}
use Rattle.machine_data.specs.Moves.{put_high, unblocked}
use Rattle.machine_data.specs.Read.{blocked_on, course_of, is_aborted, phase_of, work_caller_of}
use Rattle.machine_data.specs.Write.{add_work, count_work, on_thread, on_work, push_high, set_course, set_phase, set_place, set_stage, set_trapped}
use Rattle.machine_data.specs.declared.component.Component.{Component}
use Rattle.machine_data.specs.declared.component.HostDef.{HostDef}
use Rattle.machine_data.specs.declared.component.HostDef.TheVariants as host_def
use Rattle.machine_data.specs.declared.label.Label.{Label}
use Rattle.machine_data.specs.declared.op.Op.{Op}
use Rattle.machine_data.specs.declared.records.Course.{Course}
use Rattle.machine_data.specs.declared.records.Course.TheVariants as courses
use Rattle.machine_data.specs.declared.records.Stage.TheVariants as stages
use Rattle.machine_data.specs.declared.records.Subtask.TheVariants as subtasks
use Rattle.machine_data.specs.declared.records.Turn.{Turn}
use Rattle.machine_data.specs.declared.records.Turn.TheVariants as turn
use Rattle.machine_data.specs.declared.records.Work.{Work}
use Rattle.machine_data.specs.declared.records.WorkCaller.{WorkCaller}
use Rattle.machine_data.specs.declared.records.WorkCaller.TheVariants as callers
use Rattle.machine_data.specs.declared.statuses.Phase.{Phase}
use Rattle.machine_data.specs.declared.statuses.Phase.TheVariants as phases
use Rattle.ops_guests.specs.PolledWorks.{PolledTo, TellsPoll}
use Rattle.ops_guests.specs.declared.work_ops.PollNews.{PollNews}
use Rattle.machine_rules.specs.Calls.{new_work, work_queued}
use Rattle.machine_rules.specs.Cancels.{aborted_phase}
use Rattle.machine_rules.specs.Chains.{WalkedAs}
use Rattle.machine_rules.specs.Laws.{LaterBy}
use Rattle.machine_rules.specs.MainOps.{is_complete, main_aborted}
use Rattle.machine_rules.specs.Stalled.{Setting}
use Rattle.machine_rules.specs.Step.{Step}
use Rattle.machine_rules.specs.Works.{Asked, heard, Ends, FailsNow, Poll, StillPends, course_for, followed, has_end, poll_ends, poll_of, poll_pends, polled_again, polled_course, polled_in}
use Rattle.task_store.specs.Hosts.{HoldsAt, HoldsHosts, HoldsWork, HoldsWorks, WorksNumbered, held_by, held_of, running}
use Rattle.task_store.specs.PolledStore.{HoldsPolled, is_over, polled_core, told_of}
use Rattle.task_store.specs.declared.store.Store.{Store}
use Rattle.ops_turns.specs.Turn.{state_at}

-- ---- What of a record says what is held

abbrev pub Says : Type 0
Says = WorkCaller × (Phase × Course)

abbrev pub says : Work → Says
says w = (w.caller, (w.phase, w.course))

abbrev pub HoldsSaid : Option HeldWork → Option Says → Type 0
HoldsSaid o None = o ≡ None
HoldsSaid o (Some t) = HoldsWork o t.0 t.1.0 t.1.1

to_said : (o : Option HeldWork) (m : Option Work) → HoldsAt o m → HoldsSaid o (option_map says m)
to_said o None h = h
to_said o (Some w) h = h

from_said : (o : Option HeldWork) (m : Option Work) → HoldsSaid o (option_map says m) → HoldsAt o m
from_said o None h = h
from_said o (Some w) h = h

-- a record that says the same
alike : (o : Option HeldWork) (m n : Option Work) → option_map says n ≡ option_map says m → HoldsAt o m → HoldsAt o n
alike o m n same h = from_said o n (subst (λ (t : Option Says). HoldsSaid o t) (sym same) (to_said o m h))

none_said : (m n : Option Work) → option_map says n ≡ option_map says m → m ≡ None → n ≡ None
none_said None None same is = refl
none_said None (Some w) same is = absurd (cc)
none_said (Some v) n same is = absurd (cc)

-- each record says the same
pub holds_told : (s t : Core) (left : ℕ → Option HeldWork) → ((j : ℕ) → option_map says (get t.works j) ≡ option_map says (get s.works j)) → HoldsWorks left s → HoldsWorks left t
holds_told s t left same h = record {
  each = λ j. alike (left j) (get s.works j) (get t.works j) (same j) (h.each j);
  first = none_said (get s.works 0) (get t.works 0) (same 0) h.first;
}

-- what is held is the same, and so are the works
pub holds_as : (s : Core) (left right : ℕ → Option HeldWork) → ((i : ℕ) → right i ≡ left i) → HoldsWorks left s → HoldsWorks right s
holds_as s left right is h = record {
  each = λ i. subst (λ (o : Option HeldWork). HoldsAt o (get s.works i)) (sym (is i)) (h.each i);
  first = h.first;
}

pub holds_same : (s t : Core) (left : ℕ → Option HeldWork) → t.works ≡ s.works → HoldsWorks left s → HoldsWorks left t
holds_same s t left e h = holds_told s t left (λ j. ap (λ (m : Records Work). option_map says (get m j)) e) h

-- ---- Steps that poll no work

-- a work that a step leaves, as the law of steps says
stays_held : (o : Option HeldWork) (p q : Option Work) → (p ≡ None → q ≡ None) → StaysWork p q → HoldsAt o p → HoldsAt o q
stays_held o None None none stays h = h
stays_held o None (Some w) none stays h = absurd (let e = none refl in cc)
stays_held o (Some v) None none stays h = h.held ∙ gone v.course (phase_told v.caller v.phase) stays
  where
    gone : (c : Course) (p : Phase) → has_end c ≡ true → held_of c p ≡ None
    gone (courses.Continues d) p is = absurd (cc)
    gone (courses.Value v) p is = refl
    gone courses.NoValue p is = refl
stays_held o (Some v) (Some w) none stays h = record {
  held = h.held ∙ (ap (λ (c : Course). held_of c (phase_told v.caller v.phase)) (sym stays.course) ∙ ap (λ (p : Phase). held_of w.course p) (sym stays.cell));
  spawned = λ is. completes stays.caller stays.cell stays.course is;
}
  where
    by_cell : (f : WorkCaller) (p q : Phase) → is_spawned f ≡ true → phase_told f p ≡ phase_told f q → p ≡ q
    by_cell callers.Spawn p q is e = e
    by_cell (callers.Async n r) p q is e = absurd (cc)
    by_cell (callers.Sync n) p q is e = absurd (cc)

    completes : w.caller ≡ v.caller → phase_told w.caller w.phase ≡ phase_told v.caller v.phase → w.course ≡ v.course → is_spawned w.caller ≡ true → is_complete w.phase ≡ has_end w.course
    completes caller cell course is =
        let spawn : is_spawned v.caller ≡ true = sym (ap is_spawned caller) ∙ is in
        let same : w.phase ≡ v.phase = by_cell v.caller w.phase v.phase spawn (sym (ap (λ (f : WorkCaller). phase_told f w.phase) caller) ∙ cell) in
        ap is_complete same ∙ (h.spawned spawn ∙ sym (ap has_end course))

new_held : (d : HostDef) (w : Work) → w.course ≡ courses.Continues d → is_spawned w.caller ≡ false → HoldsWork (running d) w.caller w.phase w.course
new_held d w goes call = record {
  held = sym (ap (λ (c : Course). held_of c (phase_told w.caller w.phase)) goes ∙ ap (λ (p : Phase). Some (Found d p)) (told_call w.caller w.phase call));
  spawned = λ is. absurd (let e = sym is ∙ call in cc);
}
  where
    told_call : (f : WorkCaller) (p : Phase) → is_spawned f ≡ false → phase_told f p ≡ phases.Running
    told_call callers.Spawn p is = absurd (cc)
    told_call (callers.Async n q) p is = refl
    told_call (callers.Sync n) p is = refl

-- no work has the next number
next_free : (s : Core) → WorksNumbered s → get s.works (s.made.works + 1) ≡ None
next_free s numbered = by (get s.works (s.made.works + 1)) refl
  where
    by : (o : Option Work) → get s.works (s.made.works + 1) ≡ o → get s.works (s.made.works + 1) ≡ None
    by None at = at
    by (Some w) at = absurd (let below = numbered (s.made.works + 1) (ap (λ (o : Option Work). is_some o) at) in omega (arith, below))

-- where a thread runs
pub runs_works : (c : Component) (n : ℕ) (s : Core) → InOrder c (state_at s Unscripted (turn.Run n)) → RunsWorks n s
runs_works c n s order = record {
  runs = order.in_place.runs n refl;
  made = order.works.made;
  known = order.works_known;
  told = order.works_told;
  awaited = order.awaited;
}

pub running_stays : (x : Setting) (s : State) (l : Label) (t : State) (n : ℕ) → RunsWorks n s.core → Step x s l t → s.turn ≡ turn.Run n → (left : ℕ → Option HeldWork) → HoldsWorks left s.core →
    (i : ℕ) → StaysWork (get s.core.works i) (get t.core.works i)
unfolding WorksStayRunning
running_stays x s l t n works step is left h i = works_stay_running x s l t n works step is h.first i

-- where an entry is taken
pub taken_stays : (x : Setting) (s : State) (l : Label) (t : State) (ended : Bool) → InOrder x.component s → Step x s l t → s.turn ≡ turn.Take ended → (left : ℕ → Option HeldWork) → HoldsWorks left s.core →
    (i : ℕ) → StaysWork (get s.core.works i) (get t.core.works i)
unfolding WorksStayTaken
taken_stays x s l t ended order step is left h i = works_stay_taken x s l t ended order step is h.first i

-- where an op that a host has the thread do is seen as a chain of words, and main has spawned nothing
pub walked_stays : (ops : ℕ → Op) (x : Setting) (s : State) (l : Label) (t : State) (n : ℕ) → RunsWorks n s.core → WalkedAs ops x s l t → s.turn ≡ turn.Run n → SpawnedNothing s →
    (left : ℕ → Option HeldWork) → HoldsWorks left s.core → (i : ℕ) → StaysWork (get s.core.works i) (get t.core.works i)
unfolding WorksStayWalked
walked_stays ops x s l t n works w is nothing left h i = works_stay_walked ops x s l t n works w is nothing h.first i

module _ (ops : ℕ → Op) (x : Setting) (s : State) (l : Label) (t : State) (walked : WalkedAs ops x s l t) (inside : IsInside s.turn) (numbered : WorksNumbered s.core)
    (stays : (i : ℕ) → StaysWork (get s.core.works i) (get t.core.works i)) (left : ℕ → Option HeldWork) (h : HoldsWorks left s.core) where
  quiet : (p : Turn) → IsInside p → (n : ℕ) → p ≡ turn.Futures n → ⊥
  quiet _ (Runs n) k e = cc
  quiet _ (Takes ended) k e = cc

  -- what is new has the next number
  next_only : (i : ℕ) → get s.core.works i ≡ None → (get t.core.works i ≡ None) ⊎ ((i ≡ s.core.made.works + 1) × MakesWork ops s)
  unfolding WorksAreCalled CoursesStay
  next_only i none = by (get t.core.works i) refl
    where
      by : (o : Option Work) → get t.core.works i ≡ o → (get t.core.works i ≡ None) ⊎ ((i ≡ s.core.made.works + 1) × MakesWork ops s)
      by None at = inl at
      by (Some w) at = ⊎_elim (λ below. absurd (comes (subst (λ (o : Option Work). LaterBy SameCourse o (get t.core.works i)) none (courses_stay ops x s l t walked (quiet s.turn inside) i below)))) (λ made. inr made)
          (works_are_called ops x s l t walked numbered i (ap (λ (o : Option Work). is_some o) at))
        where
          comes : LaterBy SameCourse None (get t.core.works i) → ⊥
          comes q = subst (λ (o : Option Work). LaterBy SameCourse None o) at q

  first_still : get t.core.works 0 ≡ None
  first_still = ⊎_elim (λ none. none) (λ made. absurd (let e = made.0 in omega (arith, e))) (next_only 0 h.first)

  stay_at : (i : ℕ) → (get s.core.works i ≡ None → get t.core.works i ≡ None) → HoldsAt (left i) (get t.core.works i)
  stay_at i none = stays_held (left i) (get s.core.works i) (get t.core.works i) none (stays i) (h.each i)

  pub holds_quiet : (MakesWork ops s → ⊥) → HoldsWorks left t.core
  holds_quiet none = record {
    each = λ i. stay_at i (λ e. ⊎_elim (λ gone. gone) (λ made. absurd (none made.1)) (next_only i e));
    first = first_still;
  }

  -- the work with the next number isn't there
  pub holds_unmade : get t.core.works (s.core.made.works + 1) ≡ None → HoldsWorks left t.core
  holds_unmade none = record {
    each = λ i. stay_at i (λ e. ⊎_elim (λ gone. gone) (λ made. ap (λ (k : ℕ). get t.core.works k) made.0 ∙ none) (next_only i e));
    first = first_still;
  }

  next_none : get s.core.works (s.core.made.works + 1) ≡ None
  next_none = next_free s.core numbered

  -- it is there, and held
  pub holds_made : (d : HostDef) (right : ℕ → Option HeldWork) → course_of (s.core.made.works + 1) t.core ≡ courses.Continues d →
      ((i : ℕ) → right i ≡ cond (s.core.made.works + 1 == i) (running d) (left i)) → HoldsWorks right t.core
  holds_made d right goes is = record { each = λ i. each_at i (i == s.core.made.works + 1) refl; first = first_still }
    where
      own : right (s.core.made.works + 1) ≡ running d
      own = is (s.core.made.works + 1) ∙ grind (arith, nat_tests)

      at_next : (o : Option Work) → get t.core.works (s.core.made.works + 1) ≡ o → StaysWork None o → option_map_or (λ (w : Work). w.course) o courses.NoValue ≡ courses.Continues d → HoldsAt (running d) o
      at_next None at call goes = absurd (cc)
      at_next (Some w) at call goes = new_held d w goes call

      next : HoldsAt (right (s.core.made.works + 1)) (get t.core.works (s.core.made.works + 1))
      next = subst (λ (o : Option HeldWork). HoldsAt o (get t.core.works (s.core.made.works + 1))) (sym own)
          (at_next (get t.core.works (s.core.made.works + 1)) refl (subst (λ (o : Option Work). StaysWork o (get t.core.works (s.core.made.works + 1))) next_none (stays (s.core.made.works + 1))) goes)

      other : (i : ℕ) → (i == s.core.made.works + 1) ≡ false → HoldsAt (right i) (get t.core.works i)
      other i apart =
          let same : right i ≡ left i = let e = is i in grind (arith, nat_tests, apart) in
          subst (λ (o : Option HeldWork). HoldsAt o (get t.core.works i)) (sym same)
          (stay_at i (λ e. ⊎_elim (λ gone. gone) (λ made. absurd (let n = made.0 in grind (arith, nat_tests, apart))) (next_only i e)))

      each_at : (i : ℕ) (b : Bool) → (i == s.core.made.works + 1) ≡ b → HoldsAt (right i) (get t.core.works i)
      each_at i true same = let e = is_eq_of i (s.core.made.works + 1) same in subst (λ (k : ℕ). HoldsAt (right k) (get t.core.works k)) (sym e) next
      each_at i false apart = other i apart

-- ---- Aborts

abort_told : (w : Work) → is_spawned w.caller ≡ true → after_abort (held_of w.course (phase_told w.caller w.phase)) ≡ held_of w.course (phase_told w.caller (aborted_phase w.phase))
abort_told w spawn = by w.caller w.course w.phase spawn
  where
    by : (f : WorkCaller) (c : Course) (p : Phase) → is_spawned f ≡ true → after_abort (held_of c (phase_told f p)) ≡ held_of c (phase_told f (aborted_phase p))
    by callers.Spawn (courses.Continues d) phases.Running is = refl
    by callers.Spawn (courses.Continues d) phases.AbortRequested is = refl
    by callers.Spawn (courses.Continues d) phases.Complete is = refl
    by callers.Spawn (courses.Value v) p is = refl
    by callers.Spawn courses.NoValue p is = refl
    by (callers.Async n q) c p is = absurd (cc)
    by (callers.Sync n) c p is = absurd (cc)

still_complete : (p : Phase) → is_complete (aborted_phase p) ≡ is_complete p
still_complete phases.Running = refl
still_complete phases.AbortRequested = refl
still_complete phases.Complete = refl

abbrev aborted_at : Option Work → Option Work
aborted_at o = option_map (λ (w : Work). record w { phase = aborted_phase w.phase }) o

aborted_works : (i j : ℕ) (s : Core) → get (main_aborted i s).works j ≡ cond (j == i) (aborted_at (get s.works i)) (get s.works j)
unfolding main_aborted set_phase on_work
aborted_works i j s = grind (arith, nat_tests, get-change)

-- main aborts a spawned work, and its cell is told
pub holds_aborted : (i : ℕ) (s : Core) (left right : ℕ → Option HeldWork) → work_caller_of i s ≡ callers.Spawn → ((j : ℕ) → right j ≡ cond (i == j) (after_abort (left i)) (left j)) →
    HoldsWorks left s → HoldsWorks right (main_aborted i s)
holds_aborted i s left right caller is h = record {
  each = λ j. at j (j == i) refl;
  first = zero (0 == i) refl;
}
  where
    own : (o : Option Work) → option_map_or (λ (w : Work). w.caller) o callers.Spawn ≡ callers.Spawn → HoldsAt (left i) o → HoldsAt (after_abort (left i)) (aborted_at o)
    own None spawn q = ap after_abort q
    own (Some w) spawn q = let told : is_spawned w.caller ≡ true = ap is_spawned spawn in record {
      held = ap after_abort q.held ∙ abort_told w told;
      spawned = λ is. still_complete w.phase ∙ q.spawned told;
    }

    at : (j : ℕ) (b : Bool) → (j == i) ≡ b → HoldsAt (right j) (get (main_aborted i s).works j)
    at j false apart =
        let there : get (main_aborted i s).works j ≡ get s.works j = aborted_works i j s ∙ rw apart refl in
        let same : right j ≡ left j = let e = is j in grind (arith, nat_tests, apart) in
        subst (λ (o : Option Work). HoldsAt (right j) o) (sym there) (subst (λ (o : Option HeldWork). HoldsAt o (get s.works j)) (sym same) (h.each j))
    at j true one =
        let k : j ≡ i = is_eq_of j i one in
        let there : get (main_aborted i s).works j ≡ aborted_at (get s.works i) = aborted_works i j s ∙ rw one refl in
        let same : right j ≡ after_abort (left i) = let e = is j in grind (arith, nat_tests, one) in
        subst (λ (o : Option Work). HoldsAt (right j) o) (sym there) (subst (λ (o : Option HeldWork). HoldsAt o (aborted_at (get s.works i))) (sym same) (own (get s.works i) caller (h.each i)))

    zero : (b : Bool) → (0 == i) ≡ b → get (main_aborted i s).works 0 ≡ None
    zero false apart = aborted_works i 0 s ∙ rw apart h.first
    zero true one = aborted_works i 0 s ∙ rw one (ap aborted_at (ap (λ (k : ℕ). get s.works k) (sym (is_eq_of 0 i one)) ∙ h.first))

-- the cell of a spawned work is in the phase that its record says; where none is held, that is complete
pub found_is : (i : ℕ) (s : Core) (left : ℕ → Option HeldWork) → work_caller_of i s ≡ callers.Spawn → HoldsWorks left s → found_phase (left i) ≡ phase_of i s
found_is i s left caller h = by (get s.works i) caller (h.each i)
  where
    over : (p : Phase) → is_complete p ≡ true → phases.Complete ≡ p
    over phases.Running is = absurd (cc)
    over phases.AbortRequested is = absurd (cc)
    over phases.Complete is = refl

    told : (c : Course) (p : Phase) → is_complete p ≡ has_end c → found_phase (held_of c p) ≡ p
    told (courses.Continues d) p is = refl
    told (courses.Value v) p is = over p is
    told courses.NoValue p is = over p is

    spawn : (w : Work) → w.caller ≡ callers.Spawn → phase_told w.caller w.phase ≡ w.phase
    spawn w is = ap (λ (f : WorkCaller). phase_told f w.phase) is

    by : (o : Option Work) → option_map_or (λ (w : Work). w.caller) o callers.Spawn ≡ callers.Spawn → HoldsAt (left i) o → found_phase (left i) ≡ option_map_or (λ (w : Work). w.phase) o phases.Complete
    by None is q = ap found_phase q
    by (Some w) is q = ap found_phase (q.held ∙ ap (λ (p : Phase). held_of w.course p) (spawn w is)) ∙ told w.course w.phase (q.spawned (ap is_spawned is))

-- ---- Polls

-- what the record of a polled work says then
abbrev pub said_after : Poll → Option Says → Option Says
said_after (StillPends host) o = option_map (λ (t : Says). (t.0, (t.1.0, courses.Continues host))) o
said_after (Ends v) o = option_map (λ (t : Says). (t.0, (phases.Complete, course_for v))) o
said_after FailsNow o = o
said_after (Asked next) o = o

-- what follows a work's end changes nothing of that
still_said : (f : WorkCaller) (i j : ℕ) (s : Core) → option_map says (get (followed f i s).works j) ≡ option_map says (get s.works j)
unfolding set_stage on_work push_high put_high set_place on_thread
still_said callers.Spawn i j s = grind (arith, nat_tests, get-change)
still_said (callers.Async n q) i j s = grind (arith, nat_tests, get-change)
still_said (callers.Sync n) i j s = by (blocked_on (subtasks.Host i) s)
  where
    by : (o : Option ℕ) → option_map says (get (unblocked o (set_stage i stages.Ended s)).works j) ≡ option_map says (get s.works j)
    by None = grind (arith, nat_tests, get-change)
    by (Some n) = grind (arith, nat_tests, get-change)

same_said : (b : Bool) (o : Option Says) → cond b o o ≡ o
same_said true o = refl
same_said false o = refl

pub said_polled : (i j : ℕ) (p : Poll) (s : Core) → option_map says (get (polled_core i p s).works j) ≡ cond (j == i) (said_after p (option_map says (get s.works j))) (option_map says (get s.works j))
unfolding poll_pends poll_ends set_course set_phase on_work set_trapped
said_polled i j (StillPends host) s = grind (arith, nat_tests, get-change)
said_polled i j (Ends v) s = still_said (work_caller_of i s) i j (set_phase i phases.Complete (set_course i (course_for v) s)) ∙ grind (arith, nat_tests, get-change)
said_polled i j FailsNow s = sym (same_said (j == i) (option_map says (get s.works j)))
said_polled i j (Asked next) s = sym (same_said (j == i) (option_map says (get s.works j)))

apart : (i j : ℕ) → (j == i) ≡ false → (i == j) ≡ false
apart i j e = grind (arith, nat_tests, e)

-- what is held of the others stays, and what is held of the work is what its record says then
module _ (i : ℕ) (s : Core) (p : Poll) (left right : ℕ → Option HeldWork) (o : Option HeldWork) (is : (j : ℕ) → right j ≡ cond (i == j) o (left j)) (h : HoldsWorks left s) where
  polled_at : HoldsSaid o (said_after p (option_map says (get s.works i))) → (j : ℕ) (b : Bool) → (j == i) ≡ b → HoldsAt (right j) (get (polled_core i p s).works j)
  polled_at own j false other = from_said (right j) (get (polled_core i p s).works j)
      (subst (λ (t : Option Says). HoldsSaid (right j) t) (sym (said_polled i j p s ∙ rw other refl))
      (subst (λ (k : Option HeldWork). HoldsSaid k (option_map says (get s.works j))) (sym (is j ∙ rw (apart i j other) refl)) (to_said (left j) (get s.works j) (h.each j))))
  polled_at own j true one =
      let k : j ≡ i = is_eq_of j i one in
      let mine : right j ≡ o = let e = is j in grind (arith, nat_tests, one) in
      from_said (right j) (get (polled_core i p s).works j)
      (subst (λ (t : Option Says). HoldsSaid (right j) t) (sym (said_polled i j p s ∙ rw one refl))
      (subst (λ (k : Option HeldWork). HoldsSaid k (said_after p (option_map says (get s.works j)))) (sym mine)
      (subst (λ (n : ℕ). HoldsSaid o (said_after p (option_map says (get s.works n)))) (sym k) own)))

  none_after : (q : Poll) (m : Option Says) → m ≡ None → said_after q m ≡ None
  none_after (StillPends host) m e = ap (λ (k : Option Says). option_map (λ (t : Says). (t.0, (t.1.0, courses.Continues host))) k) e
  none_after (Ends v) m e = ap (λ (k : Option Says). option_map (λ (t : Says). (t.0, (phases.Complete, course_for v))) k) e
  none_after FailsNow m e = e
  none_after (Asked next) m e = e

  none_cond : (b : Bool) (k m : Option Says) → k ≡ None → m ≡ None → cond b k m ≡ None
  none_cond true k m e f = e
  none_cond false k m e f = f

  said_none : (m : Option Work) → option_map says m ≡ None → m ≡ None
  said_none None e = refl
  said_none (Some w) e = absurd (cc)

  pub holds_polled : HoldsSaid o (said_after p (option_map says (get s.works i))) → HoldsWorks right (polled_core i p s)
  holds_polled own =
      let none : option_map says (get s.works 0) ≡ None = ap (λ (m : Option Work). option_map says m) h.first in
      record {
        each = λ j. polled_at own j (j == i) refl;
        first = said_none (get (polled_core i p s).works 0) (said_polled i 0 p s ∙ none_cond (0 == i) (said_after p (option_map says (get s.works 0))) (option_map says (get s.works 0)) (none_after p (option_map says (get s.works 0)) none) none);
      }

-- ---- What a work tells

ends_complete : (v : Option ℕ) → true ≡ has_end (course_for v)
ends_complete None = refl
ends_complete (Some v) = refl

ends_unheld : (v : Option ℕ) (p : Phase) → None ≡ held_of (course_for v) p
ends_unheld None p = refl
ends_unheld (Some v) p = refl

or_end : (b : Bool) → (b || true) ≡ false → ⊥
or_end true h = cc
or_end false h = cc

module _ (i : ℕ) (s : Core) (left right : ℕ → Option HeldWork) (h : HoldsWorks left s) where
  -- one that was aborted, or has ended, ends now
  over_ends : is_over i s ≡ true → (v : Option ℕ) × (poll_of i s ≡ Ends v)
  unfolding poll_of
  over_ends over = by (phase_of i s) (course_of i s) over
    where
      by : (p : Phase) (c : Course) → (is_aborted p || has_end c) ≡ true → (v : Option ℕ) × (polled_in p c ≡ Ends v)
      by phases.AbortRequested c h = (None, refl)
      by phases.Running (courses.Continues d) h = absurd (cc)
      by phases.Running (courses.Value v) h = (Some v, refl)
      by phases.Running courses.NoValue h = (None, refl)
      by phases.Complete (courses.Continues d) h = absurd (cc)
      by phases.Complete (courses.Value v) h = (Some v, refl)
      by phases.Complete courses.NoValue h = (None, refl)

  ended_said : (v : Option ℕ) (m : Option Says) → HoldsSaid None (said_after (Ends v) m)
  ended_said v None = refl
  ended_said v (Some t) = record { held = ends_unheld v (phase_told t.0 phases.Complete); spawned = λ is. ends_complete v }

  -- and is let go
  pub over_held : (r : PollNews) → is_over i s ≡ true → ((j : ℕ) → right j ≡ cond (i == j) None (left j)) → HoldsPolled r i right s
  over_held r over is t to =
      let e = over_ends over in
      let core : t ≡ polled_core i (Ends e.0) s = subst (λ (p : Poll). PolledTo r i p s t) e.1 to in
      subst (λ (u : Core). HoldsWorks right u) (sym core) (holds_polled i s (Ends e.0) left right None is h (ended_said e.0 (option_map says (get s.works i))))

  -- one that isn't is to do something, and is held, in its cell, as running
  record Going : Type 0 where
    work : Work
    host : HostDef
    at : get s.works i ≡ Some work
    goes : work.course ≡ courses.Continues host
    unasked : is_aborted work.phase ≡ false
    spawned : is_spawned work.caller ≡ true → is_complete work.phase ≡ false
    held : left i ≡ running host

  cell_runs : (f : WorkCaller) (p : Phase) → is_aborted p ≡ false → (is_spawned f ≡ true → is_complete p ≡ false) → phase_told f p ≡ phases.Running
  cell_runs callers.Spawn phases.Running a c = refl
  cell_runs callers.Spawn phases.AbortRequested a c = absurd (cc)
  cell_runs callers.Spawn phases.Complete a c = absurd (let e = c refl in cc)
  cell_runs (callers.Async n q) p a c = refl
  cell_runs (callers.Sync n) p a c = refl

  going_of : (w : Work) (d : HostDef) → get s.works i ≡ Some w → w.course ≡ courses.Continues d → is_aborted w.phase ≡ false → Going
  going_of w d at goes unasked =
      let q : HoldsWork (left i) w.caller w.phase w.course = subst (λ (o : Option Work). HoldsAt (left i) o) at (h.each i) in
      let spawned : is_spawned w.caller ≡ true → is_complete w.phase ≡ false = λ is. q.spawned is ∙ ap has_end goes in
      record {
        work = w;
        host = d;
        at = at;
        goes = goes;
        unasked = unasked;
        spawned = spawned;
        held = q.held ∙ (ap (λ (c : Course). held_of c (phase_told w.caller w.phase)) goes ∙ ap (λ (p : Phase). Some (Found d p)) (cell_runs w.caller w.phase unasked spawned));
      }

  going : is_over i s ≡ false → Going
  going h = by (get s.works i) refl h
    where
      both : (w : Work) (p : Phase) (c : Course) → w.phase ≡ p → w.course ≡ c → get s.works i ≡ Some w → (is_aborted p || has_end c) ≡ false → Going
      both w p (courses.Continues d) phase course at e = going_of w d at course (ap is_aborted phase ∙ first p e)
        where
          first : (p : Phase) → (is_aborted p || false) ≡ false → is_aborted p ≡ false
          first phases.Running e = refl
          first phases.AbortRequested e = absurd (cc)
          first phases.Complete e = refl
      both w p (courses.Value v) phase course at e = absurd (or_end (is_aborted p) e)
      both w p courses.NoValue phase course at e = absurd (or_end (is_aborted p) e)

      by : (o : Option Work) → get s.works i ≡ o → (is_aborted (option_map_or (λ (w : Work). w.phase) o phases.Complete) || has_end (option_map_or (λ (w : Work). w.course) o courses.NoValue)) ≡ false → Going
      by None at e = absurd (cc)
      by (Some w) at e = both w w.phase w.course refl refl at e

  polled_of : (g : Going) → poll_of i s ≡ polled_again g.host
  unfolding poll_of
  polled_of g = ap (λ (o : Option Work). polled_in (option_map_or (λ (w : Work). w.phase) o phases.Complete) (option_map_or (λ (w : Work). w.course) o courses.NoValue)) g.at
      ∙ (ap (λ (c : Course). polled_in g.work.phase c) g.goes ∙ by g.work.phase g.unasked)
    where
      by : (p : Phase) → is_aborted p ≡ false → polled_in p (courses.Continues g.host) ≡ polled_again g.host
      by phases.Running is = refl
      by phases.AbortRequested is = absurd (cc)
      by phases.Complete is = refl

  -- the poll of a work that has answered so
  abbrev found : HostDef → HostPoll → Poll
  found (host_def.Settled polls value) answer = polled_again (host_def.Settled polls value)
  found host_def.Open answer = heard answer

  -- what is held after it
  after_said : (d : HostDef) (answer : HostPoll) → MayTell d answer → (f : WorkCaller) (p : Phase) → phase_told f p ≡ phases.Running → (is_spawned f ≡ true → is_complete p ≡ false) →
      HoldsSaid (after_poll (Some answer) (running d)) (said_after (found d answer) (Some (f, (p, courses.Continues d))))
  after_said (host_def.Settled None v) answer tells f p cell c = rw tells (record { held = ap (λ (q : Phase). Some (Found (host_def.Settled None v) q)) (sym cell); spawned = c })
  after_said (host_def.Settled (Some zero) None) answer tells f p cell c = rw tells (record { held = ap (λ (q : Phase). Some (Found (host_def.Settled (Some 0) None) q)) (sym cell); spawned = c })
  after_said (host_def.Settled (Some zero) (Some v)) answer tells f p cell c = rw tells (record { held = refl; spawned = λ is. refl })
  after_said (host_def.Settled (Some (suc n)) v) answer tells f p cell c = rw tells (record { held = ap (λ (q : Phase). Some (Found (host_def.Settled (Some n) v) q)) (sym cell); spawned = c })
  after_said host_def.Open host_poll.Pending tells f p cell c = record { held = ap (λ (q : Phase). Some (Found host_def.Open q)) (sym cell); spawned = c }
  after_said host_def.Open (host_poll.Value v) tells f p cell c = record { held = refl; spawned = λ is. refl }
  after_said host_def.Open host_poll.Failed tells f p cell c = record { held = ap (λ (q : Phase). Some (Found host_def.Open q)) (sym cell); spawned = c }

  -- and what the core is then
  found_core : (d : HostDef) (answer : HostPoll) (t : Core) → PolledTo (told_of answer) i (polled_again d) s t → t ≡ polled_core i (found d answer) s
  found_core (host_def.Settled None v) answer t to = to
  found_core (host_def.Settled (Some zero) None) answer t to = to
  found_core (host_def.Settled (Some zero) (Some v)) answer t to = to
  found_core (host_def.Settled (Some (suc n)) v) answer t to = to
  found_core host_def.Open host_poll.Pending t to = to
  found_core host_def.Open (host_poll.Value v) t to = to
  found_core host_def.Open host_poll.Failed t to = to

  going_answers : (g : Going) (answer : HostPoll) → MayAnswer (left i) (Some answer) → MayTell g.host answer
  going_answers g answer may = subst (λ (o : Option HeldWork). MayAnswer o (Some answer)) g.held may

  pub going_held : (answer : HostPoll) → is_over i s ≡ false → MayAnswer (left i) (Some answer) → ((j : ℕ) → right j ≡ cond (i == j) (after_poll (Some answer) (left i)) (left j)) →
      HoldsPolled (told_of answer) i right s
  going_held answer over may is t to =
      let g = going over in
      let p = found g.host answer in
      let own : HoldsSaid (after_poll (Some answer) (running g.host)) (said_after p (Some (g.work.caller, (g.work.phase, courses.Continues g.host)))) =
      after_said g.host answer (going_answers g answer may) g.work.caller g.work.phase (cell_runs g.work.caller g.work.phase g.unasked g.spawned) g.spawned in
      let said : option_map says (get s.works i) ≡ Some (g.work.caller, (g.work.phase, courses.Continues g.host)) =
      ap (λ (o : Option Work). option_map says o) g.at ∙ ap (λ (c : Course). Some (g.work.caller, (g.work.phase, c))) g.goes in
      let core = found_core g.host answer t (subst (λ (q : Poll). PolledTo (told_of answer) i q s t) (polled_of g) to) in
      subst (λ (u : Core). HoldsWorks right u) (sym core)
      (holds_polled i s p left right (after_poll (Some answer) (left i)) is h
      (subst (λ (t : Option Says). HoldsSaid (after_poll (Some answer) (left i)) (said_after p t)) (sym said)
      (subst (λ (o : Option HeldWork). HoldsSaid (after_poll (Some answer) o) (said_after p (Some (g.work.caller, (g.work.phase, courses.Continues g.host))))) (sym g.held) own)))

  -- a work that is polled tells what the machine finds
  told_again : (d : HostDef) (answer : HostPoll) → MayTell d answer → TellsPoll (told_of answer) (polled_again d)
  told_again (host_def.Settled None v) answer tells = ap told_of tells
  told_again (host_def.Settled (Some zero) None) answer tells = ap told_of tells
  told_again (host_def.Settled (Some zero) (Some v)) answer tells = ap told_of tells
  told_again (host_def.Settled (Some (suc n)) v) answer tells = ap told_of tells
  told_again host_def.Open host_poll.Pending tells = refl
  told_again host_def.Open (host_poll.Value v) tells = refl
  told_again host_def.Open host_poll.Failed tells = refl

  pub going_tells : (answer : HostPoll) → is_over i s ≡ false → MayAnswer (left i) (Some answer) → TellsPoll (told_of answer) (poll_of i s)
  going_tells answer over may =
      let g = going over in
      subst (λ (p : Poll). TellsPoll (told_of answer) p) (sym (polled_of g)) (told_again g.host answer (going_answers g answer may))

  -- one that wasn't aborted is polled just where it hasn't ended
  pub unpolled_over : is_aborted (phase_of i s) ≡ false → MayAnswer (left i) None → has_end (course_of i s) ≡ true
  unpolled_over unasked none = by (has_end (course_of i s)) refl
    where
      over : (b : Bool) → has_end (course_of i s) ≡ b → is_over i s ≡ b
      over b e = ap (λ (c : Bool). c || has_end (course_of i s)) unasked ∙ e

      by : (b : Bool) → has_end (course_of i s) ≡ b → has_end (course_of i s) ≡ true
      by true e = e
      by false e = let g = going (over false e) in absurd (subst (λ (o : Option HeldWork). MayAnswer o None) g.held none)

  pub polled_goes : is_aborted (phase_of i s) ≡ false → (answer : HostPoll) → MayAnswer (left i) (Some answer) → is_over i s ≡ false
  polled_goes unasked answer is = by (get s.works i) (h.each i)
    where
      -- one that isn't held answers nothing
      nobody : left i ≡ None → ⊥
      nobody e = let n : Some answer ≡ None = subst (λ (o : Option HeldWork). MayAnswer o (Some answer)) e is in cc

      goes : (c : Course) (p : Phase) → left i ≡ held_of c p → has_end c ≡ false
      goes (courses.Continues d) p e = refl
      goes (courses.Value v) p e = absurd (nobody e)
      goes courses.NoValue p e = absurd (nobody e)

      by : (o : Option Work) → HoldsAt (left i) o → (is_aborted (phase_of i s) || has_end (option_map_or (λ (w : Work). w.course) o courses.NoValue)) ≡ false
      by None e = absurd (nobody e)
      by (Some w) e = ap (λ (b : Bool). b || has_end w.course) unasked ∙ goes w.course (phase_told w.caller w.phase) e.held

  -- what the poll of a work results in, by its phase
  pub aborted_ends : is_aborted (phase_of i s) ≡ true → poll_of i s ≡ Ends None
  unfolding poll_of
  aborted_ends is = by (phase_of i s) is
    where
      by : (p : Phase) → is_aborted p ≡ true → polled_in p (course_of i s) ≡ Ends None
      by phases.Running is = absurd (cc)
      by phases.AbortRequested is = refl
      by phases.Complete is = absurd (cc)

  pub unaborted_polls : is_aborted (phase_of i s) ≡ false → poll_of i s ≡ polled_course (course_of i s)
  unfolding poll_of
  unaborted_polls is = by (phase_of i s) is
    where
      by : (p : Phase) → is_aborted p ≡ false → polled_in p (course_of i s) ≡ polled_course (course_of i s)
      by phases.Running is = refl
      by phases.AbortRequested is = absurd (cc)
      by phases.Complete is = refl

  -- one that isn't held stays so
  pub unheld_over : (r : PollNews) → is_aborted (phase_of i s) ≡ false → MayAnswer (left i) None → ((j : ℕ) → right j ≡ cond (i == j) (after_poll None (left i)) (left j)) → HoldsPolled r i right s
  unheld_over r unasked none is =
      let ended = unpolled_over unasked none in
      over_held r (ap (λ (b : Bool). b || has_end (course_of i s)) unasked ∙ ended) (λ j. is j ∙ ap (λ (o : Option HeldWork). cond (i == j) (after_poll None o) (left j)) (unheld ended))
    where
      unheld : has_end (course_of i s) ≡ true → left i ≡ None
      unheld ended = by (get s.works i) ended (h.each i)
        where
          gone : (c : Course) (p : Phase) → has_end c ≡ true → held_of c p ≡ None
          gone (courses.Continues d) p is = absurd (cc)
          gone (courses.Value v) p is = refl
          gone courses.NoValue p is = refl

          by : (o : Option Work) → has_end (option_map_or (λ (w : Work). w.course) o courses.NoValue) ≡ true → HoldsAt (left i) o → left i ≡ None
          by None e q = q
          by (Some w) e q = q.held ∙ gone w.course (phase_told w.caller w.phase) e

-- ---- Spawns

-- a work is made, and held
pub holds_queued : (f : WorkCaller) (d : HostDef) (group : Option ℕ) (s : Core) (left right : ℕ → Option HeldWork) →
    ((i : ℕ) → right i ≡ cond (s.made.works + 1 == i) (running d) (left i)) → HoldsWorks left s → HoldsWorks right (work_queued f d group s)
unfolding work_queued push_high add_work count_work
holds_queued f d group s left right is h = record {
  each = λ i. at i (i == s.made.works + 1) refl;
  first = get-insert s.works (s.made.works + 1) (new_work f d group) 0 ∙ (let e = h.first in grind (arith, nat_tests));
}
  where
    told_new : (f : WorkCaller) → phase_told f phases.Running ≡ phases.Running
    told_new callers.Spawn = refl
    told_new (callers.Async n q) = refl
    told_new (callers.Sync n) = refl

    at : (i : ℕ) (b : Bool) → (i == s.made.works + 1) ≡ b → HoldsAt (right i) (get (work_queued f d group s).works i)
    at i true one =
        let there : get (work_queued f d group s).works i ≡ Some (new_work f d group) = get-insert s.works (s.made.works + 1) (new_work f d group) i ∙ rw one refl in
        let same : right i ≡ running d = let e = is i in grind (arith, nat_tests, one) in
        subst (λ (o : Option Work). HoldsAt (right i) o) (sym there) (record {
          held = same ∙ ap (λ (p : Phase). Some (Found d p)) (sym (told_new f));
          spawned = λ is. refl;
        })
    at i false other =
        let there : get (work_queued f d group s).works i ≡ get s.works i = get-insert s.works (s.made.works + 1) (new_work f d group) i ∙ rw other refl in
        let same : right i ≡ left i = let e = is i in grind (arith, nat_tests, other) in
        subst (λ (o : Option Work). HoldsAt (right i) o) (sym there) (subst (λ (o : Option HeldWork). HoldsAt o (get s.works i)) (sym same) (h.each i))

-- none is made, and what was held for it is let go
pub holds_below : (s : Core) (left right : ℕ → Option HeldWork) → WorksNumbered s → ((i : ℕ) → right i ≡ cond (s.made.works + 1 == i) None (left i)) → HoldsWorks left s → HoldsWorks right s
holds_below s left right numbered is h = record { each = λ i. at i (i == s.made.works + 1) refl; first = h.first }
  where
    at : (i : ℕ) (b : Bool) → (i == s.made.works + 1) ≡ b → HoldsAt (right i) (get s.works i)
    at i true one =
        let none : get s.works i ≡ None = ap (λ (k : ℕ). get s.works k) (is_eq_of i (s.made.works + 1) one) ∙ next_free s numbered in
        subst (λ (o : Option Work). HoldsAt (right i) o) (sym none) (let e = is i in grind (arith, nat_tests, one))
    at i false other =
        let same : right i ≡ left i = let e = is i in grind (arith, nat_tests, other) in
        subst (λ (o : Option HeldWork). HoldsAt o (get s.works i)) (sym same) (h.each i)

-- ---- A new store

none_held : {H : Type 0} (course : H → HostDef) (kept : HostWorks H) (i : ℕ) → HoldsNone kept → held course kept i ≡ None
none_held course kept i none = rw none refl

-- it holds no host works, and its core has none
pub new_holds : {T H G : Type 0} (course : H → HostDef) (store : Store T H G) (v : Version) (instances handles capacity : ℕ) → HoldsNone store.works → store.state.core ≡ fresh v instances handles capacity → HoldsHosts course store
unfolding fresh
new_holds course store v instances handles capacity none core = subst (λ (s : Core). HoldsWorks (held_by course store) s) (sym core) (record {
  each = λ i. subst (λ (o : Option Work). HoldsAt (held_by course store i) o) (sym (get-empty {X = Work} i)) (none_held course store.works i none);
  first = get-empty {X = Work} 0;
})
