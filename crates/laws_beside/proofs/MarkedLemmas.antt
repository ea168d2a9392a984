-- A work that is aborted in the core, and polled then.
use Rattle.std.proofs.Common.{ap, arith, eqb-true, refl, subst, sym, ◌∙◌}
use Rattle.std.proofs.lemmas.Option.{same_Some}
use Rattle.std.specs.Option.{option_map, option_map_or}
use Rattle.std.specs.Prelude.{Bool, List, None, Option, Some, cond, false, not, true, ℕ, ◌&&◌, ◌==◌, ◌≡◌, ◌≤◌}
use Rattle.laws_beside.specs.Marked.{MarkedPollsFindAborts, MarkedSpawnsStay, marked}
use Rattle.laws_beside.specs.Wide.{AbortedAt, FindsAbort, is_running}
use Rattle.laws_order.proofs.LiveLemmas.{next_above, next_least}
use Rattle.laws_states.proofs.PolledWorks.{polled_is_live}
use Rattle.machine_data.proofs.CommuteLemmas.{change-change_same, get-change}
use Rattle.machine_data.proofs.MapLemmas.{change-field, get-change_same}
use Rattle.machine_data.specs.Core.{Began, Core, Main, Refused, Scripted, Started, State, Unscripted}
use Rattle.machine_data.specs.Maps.{Records, change, get}
use Rattle.machine_data.specs.Read.{course_of, is_live, phase_of, work_caller_of}
use Rattle.machine_data.specs.Write.{on_work, set_course, set_phase}
use Rattle.machine_data.specs.declared.component.Callee.{Callee}
use Rattle.machine_data.specs.declared.label.MainLabel.{MainLabel}
use Rattle.machine_data.specs.declared.trap.Trap.{Trap}
use Rattle.machine_data.specs.declared.label.Label.TheVariants as label
use Rattle.machine_data.specs.declared.label.LoopLabel.TheVariants as loop_label
use Rattle.machine_data.specs.declared.records.Course.TheVariants as course
use Rattle.machine_data.specs.declared.records.Turn.{Turn}
use Rattle.machine_data.specs.declared.records.Turn.TheVariants as turn
use Rattle.machine_data.specs.declared.records.Work.{Work}
use Rattle.machine_data.specs.declared.records.WorkCaller.{WorkCaller}
use Rattle.machine_data.specs.declared.scenario.MainOpDef.{MainOpDef}
use Rattle.machine_data.specs.declared.statuses.Phase.{Phase}
use Rattle.machine_data.specs.declared.statuses.Phase.TheVariants as phase
use Rattle.machine_rules.specs.Cancels.{aborted_phase}
use Rattle.machine_rules.specs.MainOps.{Abort, Answer, Await, Finish, MainAct, Quiet, Ready, Spawn, SpawnOpen, Start, act_of, finish_act, finish_result, has_interesting, is_complete, is_ready_for_call, is_spawn, line_of, main_aborted, main_rule, op_at, start_act, unless_pending}
use Rattle.machine_rules.specs.Stalled.{Setting, is_pending, main_pends, pends_at}
use Rattle.machine_rules.specs.Step.{FuturesStep, Polled, Step, TurnStep}
use Rattle.machine_rules.specs.Turns.{at_turn, goes_to}
use Rattle.machine_rules.specs.Works.{Ends, Poll, followed, next_polled, poll_ends, poll_of, polled_in}

-- ---- Which work is next

module _ (s t : Core) (same : (q : ℕ) → option_map is_live (get s.works q) ≡ option_map is_live (get t.works q)) where
  -- a live work is live there, too
  moved : (q : ℕ) → option_map_or is_live (get s.works q) false ≡ true → (w : Work) × ((get t.works q ≡ Some w) × (is_live w ≡ true))
  moved q live = by (get s.works q) (get t.works q) refl (same q) live
    where
      by : (a b : Option Work) → get t.works q ≡ b → option_map is_live a ≡ option_map is_live b → option_map_or is_live a false ≡ true →
          (w : Work) × ((get t.works q ≡ Some w) × (is_live w ≡ true))
      by None b at e alive = absurd (cc)
      by (Some v) None at e alive = absurd (cc)
      by (Some v) (Some w) at e alive = (w, (at, sym (same_Some _ _ e) ∙ alive))

-- where the same works are live, the same one is next
next_same : (s t : Core) → ((q : ℕ) → option_map is_live (get s.works q) ≡ option_map is_live (get t.works q)) → (n i : ℕ) →
    next_polled n s ≡ Some i → next_polled n t ≡ Some i
next_same s t same n i next =
    let there = moved s t same i (polled_is_live n s i next) in
    let found = next_least n i t there.0 there.1.0 there.1.1 (next_above n i s next) in
    let back = moved t s (λ q. sym (same q)) found.0 (polled_is_live n t found.0 found.1.0) in
    let least = next_least n found.0 s back.0 back.1.0 back.1.1 (next_above n found.0 t found.1.0) in
    let one : least.0 ≡ i = same_Some _ _ (sym least.1.0 ∙ next) in
    let above : found.0 ≤ i = found.1.1 in
    let below : least.0 ≤ found.0 = least.1.1 in
    let both : found.0 ≡ i = omega (arith, one, above, below) in
    found.1.0 ∙ ap (λ (j : ℕ). Some j) both

live_kept : (i : ℕ) (s : Core) (q : ℕ) → option_map is_live (get s.works q) ≡ option_map is_live (get (main_aborted i s).works q)
unfolding main_aborted set_phase on_work
live_kept i s q = sym (change-field is_live i (λ (w : Work). record w { phase = aborted_phase (phase_of i s) }) (λ w. refl) s.works q)

pub marked_next : (i : ℕ) (s : Core) (n j : ℕ) → next_polled n s ≡ Some j → next_polled n (main_aborted i s) ≡ Some j
marked_next i s n j next = next_same s (main_aborted i s) (live_kept i s) n j next

-- ---- What the poll finds

read_kept : {A : Type 0} (g : Work → A) (d : A) (a b : Option Work) → option_map g a ≡ option_map g b → option_map_or g a d ≡ option_map_or g b d
read_kept g d None None e = refl
read_kept g d None (Some w) e = absurd (cc)
read_kept g d (Some v) None e = absurd (cc)
read_kept g d (Some v) (Some w) e = same_Some _ _ e

pub marked_caller : (i q : ℕ) (s : Core) → work_caller_of q (main_aborted i s) ≡ work_caller_of q s
unfolding main_aborted set_phase on_work
marked_caller i q s =
    read_kept (λ (w : Work). w.caller) _ _ _ (change-field (λ (w : Work). w.caller) i (λ (w : Work). record w { phase = aborted_phase (phase_of i s) }) (λ w. refl) s.works q)

both_true : (a b : Bool) → (a && b) ≡ true → (a ≡ true) × (b ≡ true)
both_true true b e = (refl, e)
both_true false b e = absurd (cc)

-- one that is there, and running, is aborted then
marked_phase : (i : ℕ) (s : Core) → is_running (phase_of i s) ≡ true → phase_of i (main_aborted i s) ≡ phase.AbortRequested
unfolding main_aborted set_phase on_work
marked_phase i s running = ap (λ o. option_map_or (λ (w : Work). w.phase) o phase.Complete) (get-change_same s.works i f) ∙ by (get s.works i) refl
  where
    f : Work → Work
    f w = record w { phase = aborted_phase (phase_of i s) }

    aborted : (p : Phase) → is_running p ≡ true → aborted_phase p ≡ phase.AbortRequested
    aborted phase.Running e = refl
    aborted phase.AbortRequested e = absurd (cc)
    aborted phase.Complete e = absurd (cc)

    by : (o : Option Work) → get s.works i ≡ o → option_map_or (λ (w : Work). w.phase) (option_map f o) phase.Complete ≡ phase.AbortRequested
    by None at = absurd (subst (λ (o : Option Work). is_running (option_map_or (λ (w : Work). w.phase) o phase.Complete) ≡ true → ⊥) (sym at) (λ e. cc) running)
    by (Some w) at = aborted (phase_of i s) running

-- ---- What it leaves

module _ (i : ℕ) (p : Phase) (s : Core) where
  one : (m : Records Work) → change i (λ (w : Work). record w { phase = phase.Complete }) (change i (λ (w : Work). record w { course = course.NoValue }) (change i (λ (w : Work). record w { phase = p }) m))
      ≡ change i (λ (w : Work). record w { phase = phase.Complete }) (change i (λ (w : Work). record w { course = course.NoValue }) m)
  one m =
      ap (λ (k : Records Work). change i (λ (w : Work). record w { phase = phase.Complete }) k) (change-change_same m i (λ (w : Work). record w { course = course.NoValue }) (λ (w : Work). record w { phase = p }))
      ∙ (change-change_same m i (λ (w : Work). record w { phase = phase.Complete }) (λ (w : Work). record w { phase = p; course = course.NoValue })
      ∙ sym (change-change_same m i (λ (w : Work). record w { phase = phase.Complete }) (λ (w : Work). record w { course = course.NoValue })))

  ended_same : set_phase i phase.Complete (set_course i course.NoValue (set_phase i p s)) ≡ set_phase i phase.Complete (set_course i course.NoValue s)
  unfolding set_phase set_course on_work
  ended_same = ap (λ (m : Records Work). record s { works = m }) (one s.works)

marked_core : (i : ℕ) (s : Core) → set_phase i phase.Complete (set_course i course.NoValue (main_aborted i s)) ≡ set_phase i phase.Complete (set_course i course.NoValue s)
unfolding main_aborted
marked_core i s = ended_same i (aborted_phase (phase_of i s)) s

marked_ends : (i : ℕ) (s : Core) → poll_ends i None (main_aborted i s) ≡ poll_ends i None s
unfolding poll_ends
marked_ends i s =
    ap (λ (f : WorkCaller). followed f i (set_phase i phase.Complete (set_course i course.NoValue (main_aborted i s)))) (marked_caller i i s)
    ∙ ap (λ (k : Core). followed (work_caller_of i s) i k) (marked_core i s)

marked_poll : (i : ℕ) (s : Core) → is_running (phase_of i s) ≡ true → poll_of i (main_aborted i s) ≡ Ends None
unfolding poll_of
marked_poll i s running = ap (λ (p : Phase). polled_in p (course_of i (main_aborted i s))) (marked_phase i s running)

-- ---- The step

left_there : (s : State) (i : ℕ) (t : State) → t ≡ goes_to (marked i s) (poll_ends i None (main_aborted i s.core)) (turn.Take true) →
    (t ≡ goes_to s (poll_ends i None s.core) (turn.Take true)) × (t.core ≡ poll_ends i None s.core)
unfolding at_turn
left_there s i t is =
    let same = marked_ends i s.core in
    let there : t ≡ goes_to s (poll_ends i None s.core) (turn.Take true) = is ∙ ap (λ (k : Core). goes_to s k (turn.Take true)) same in
    (there, ap (λ (y : State). y.core) there)

pub marked_polls_find_aborts : MarkedPollsFindAborts
unfolding MarkedPollsFindAborts Step
marked_polls_find_aborts x s n i l t at next running step =
    let parts = both_true (is_spawn i s.core) (is_running (phase_of i s.core)) running in
    let polls : TurnStep x (marked i s) (turn.Futures n) l t = subst (λ (p : Turn). TurnStep x (marked i s) p l t) at step in
    let polled : FuturesStep (marked i s) (Some i) l t = subst (λ (o : Option ℕ). FuturesStep (marked i s) o l t) (marked_next i s.core n i next) polls in
    let ends : Polled (marked i s) i (Ends None) l t = subst (λ (p : Poll). Polled (marked i s) i p l t) (marked_poll i s.core parts.1) polled in
    let left = left_there s i t ends.1 in
    let found : FindsAbort s (Some i) (label.Loop (loop_label.FutureAborted i)) t = (running, (refl, left.0)) in
    let here : FindsAbort s (next_polled n s.core) (label.Loop (loop_label.FutureAborted i)) t =
    subst (λ (o : Option ℕ). FindsAbort s o (label.Loop (loop_label.FutureAborted i)) t) (sym next) found in
    (ends.0, (subst (λ (p : Turn). AbortedAt s p (label.Loop (loop_label.FutureAborted i)) t) (sym at) here, left.1))

-- ---- Main

completes : (p : Phase) → is_complete (aborted_phase p) ≡ is_complete p
completes phase.Running = refl
completes phase.AbortRequested = refl
completes phase.Complete = refl

marked_complete : (i q : ℕ) (s : Core) → is_complete (phase_of q (main_aborted i s)) ≡ is_complete (phase_of q s)
unfolding main_aborted set_phase on_work
marked_complete i q s = ap complete (get-change i f s.works q) ∙ at_number (q == i) refl
  where
    f : Work → Work
    f w = record w { phase = aborted_phase (phase_of i s) }

    complete : Option Work → Bool
    complete o = is_complete (option_map_or (λ (w : Work). w.phase) o phase.Complete)

    here : q ≡ i → (o : Option Work) → get s.works q ≡ o → complete (option_map f o) ≡ complete o
    here same None at = refl
    here same (Some w) at =
        completes (phase_of i s) ∙ (ap (λ (k : ℕ). is_complete (phase_of k s)) (sym same) ∙ ap complete at)

    at_number : (b : Bool) → (q == i) ≡ b → complete (cond b (option_map f (get s.works q)) (get s.works q)) ≡ complete (get s.works q)
    at_number true e = here (eqb-true q i e) (get s.works q) refl
    at_number false e = refl

never_pends : (x : Setting) (k : ℕ) (e : Callee) (ws : List ℕ) (s : Core) (o : Option Trap) → is_pending (start_act x.component k e ws s o) ≡ false
never_pends x k e ws s None = refl
never_pends x k e ws s (Some t) = refl

unless_same : (b c : Bool) (l : MainLabel) (s t : Core) → b ≡ c → is_pending (unless_pending b l s) ≡ is_pending (unless_pending c l t)
unless_same true true l s t e = refl
unless_same true false l s t e = absurd (cc)
unless_same false true l s t e = absurd (cc)
unless_same false false l s t e = refl

result_pends : (k n : ℕ) (s t : Core) (o : Option ℕ) → is_pending (finish_result k n s o) ≡ is_pending (finish_result k n t o)
result_pends k n s t None = refl
result_pends k n s t (Some v) = refl

finish_pends : (k i : ℕ) (s : Core) (a : Started) → is_pending (finish_act k (main_aborted i s) a) ≡ is_pending (finish_act k s a)
unfolding main_aborted set_phase on_work
finish_pends k i s (Began n) = result_pends k n (main_aborted i s) s (get s.results n)
finish_pends k i s (Refused t) = refl

same_interest : (i : ℕ) (s : Core) → has_interesting (main_aborted i s) ≡ has_interesting s
unfolding main_aborted set_phase on_work has_interesting
same_interest i s = refl

same_ready : (i j : ℕ) (s : Core) → is_ready_for_call j (main_aborted i s) ≡ is_ready_for_call j s
unfolding main_aborted set_phase on_work is_ready_for_call
same_ready i j s = refl

act_pends : (x : Setting) (k i : ℕ) (s : Core) (a : MainAct) → is_pending (main_rule x.component k (main_aborted i s) a) ≡ is_pending (main_rule x.component k s a)
act_pends x k i s (Start e ws) = never_pends x k e ws (main_aborted i s) _ ∙ sym (never_pends x k e ws s _)
act_pends x k i s (Finish a) = finish_pends k i s a
act_pends x k i s (Spawn h) = refl
act_pends x k i s SpawnOpen = refl
act_pends x k i s (Abort j) = refl
act_pends x k i s (Await j) = unless_same _ _ _ _ _ (marked_complete i j s)
act_pends x k i s Quiet = unless_same _ _ _ _ _ (ap not (same_interest i s))
act_pends x k i s (Ready j) = unless_same _ _ _ _ _ (same_ready i j s)
act_pends x k i s (Answer v) = refl

marked_pends : (x : Setting) (s : Core) (m : Main) (i : ℕ) → main_pends x (main_aborted i s) m ≡ main_pends x s m
marked_pends x s (Scripted p) i = by (op_at x.script p)
  where
    by : (o : Option MainOpDef) → pends_at x (main_aborted i s) p o ≡ pends_at x s p o
    by None = refl
    by (Some o) = act_pends x (line_of p o) i s (act_of p o)
marked_pends x s Unscripted i = refl

pub marked_spawns_stay : MarkedSpawnsStay
unfolding MarkedSpawnsStay
marked_spawns_stay x s m n i j = (marked_next i s n j, marked_pends x s m i)
