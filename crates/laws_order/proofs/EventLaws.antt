-- What calls tell, along the primitives of a step.
use Rattle.machine_data.specs.declared.scenario.Version.{Version}
use Rattle.laws_states.proofs.Primitives.{add_call, add_group, add_set, add_thread, add_work, count_work, free_handle, free_thread_handle, give_handle, give_result, give_thread_handle, on_call, on_instance, on_thread, on_work, push_high, remove_call, remove_group, remove_set, remove_thread, remove_work, set_backpressure, set_cancel_delivered, set_cancelled, set_course, set_do_not_enter, set_do_not_suspend, set_end, set_event, set_exited, set_op_progress, set_join, set_task_event, set_phase, set_position, set_register, set_result, set_saved_callee, set_saved_own, set_script, set_stage, set_started, set_starting_published, set_subtask_handle, set_thread_handle, set_trapped, set_uninteresting, set_memory_cell, take_result, call_made, with_handle, with_thread_handle, work_queued, poll_pends, after_primitive, Allowed, along, ap, arith, Core, get, get-change, get-empty, get-insert, get-remove, nat_tests, Scene, Setting, State, Label, Some, None, Option, Status, Step, step_walks, Subtask, Thread, true, false, Walk, Primitive, ℕ, ◌≡◌, ◌⊎◌, ◌∙◌, is_explicit, place_of, task_of, is_some, by_number, ⊎_elim, fresh, Reached}
use Rattle.laws_order.specs.Events.{EventsReached, level, level_of, RunsTellHigher, StepsTellHigher, TellsHigher}
use Rattle.laws_order.proofs.WaitLemmasBetween.{unstarted}
use Rattle.std.proofs.Common.{refl, le_refl, le_trans, subst, inl, inr, sym}
use Rattle.std.specs.Prelude.{[], ◌∷◌, ◌<◌, ◌≤◌}
use Rattle.laws_states.proofs.CallEnds.{told_as_recorded}
use Rattle.laws_states.proofs.CallsLaw.{later_after, later_same}
use Rattle.laws_states.proofs.CallsSteps.{plain, plain_scene, steps_rise}
use Rattle.laws_states.proofs.ReachLemmas.{reached_kept, reached_step}
use Rattle.laws_states.proofs.WrittenLaws.{new_ends_are_said, written_ends_are_new}
use Rattle.laws_states.specs.Order.{Numbered}
use Rattle.laws_states.specs.Rises.{Rises, StepsRise}
use Rattle.laws_states.specs.Written.{EndsToldAsRecorded, NewEndsAreSaid}
use Rattle.machine_data.specs.Read.{event_of, was_started}
use Rattle.machine_data.specs.declared.records.Call.{Call}
use Rattle.machine_data.specs.declared.records.Place.{Place}
use Rattle.machine_data.specs.declared.records.Why.{Why}
use Rattle.machine_data.specs.declared.statuses.Mark.{Mark}
use Rattle.laws_places.proofs.Laws.{first_waits}
use Rattle.laws_places.proofs.OrderLemmas.{reached_in_order}
use Rattle.laws_places.specs.KeptPlaces.{ReachedInOrder}
use Rattle.machine_rules.proofs.LawLemmas.{steady}
use Rattle.machine_rules.specs.Chains.{Walked}
use Rattle.machine_rules.specs.Laws.{LaterBy, LaterCall}
use Rattle.machine_rules.specs.Takes.{starting_is_published}
use Rattle.machine_rules.specs.Primitives.{SetCallEvent}
use Rattle.machine_rules.specs.Scripts.{ops_of}
unfoldable use Rattle.machine_data.specs.Write.{arrive, set_cancel_asked}

-- ---- What a call has to hand out it has resulted in

abbrev Published : Core → Type 0
Published s = (k : ℕ) → event_of (Subtask.Guest k) s ≡ Some Status.Starting → starting_is_published k s ≡ true

abbrev Started : Core → Type 0
Started s = (k : ℕ) → event_of (Subtask.Guest k) s ≡ Some Status.Started → was_started k s ≡ true

published_primitive : (a : Scene) (w : Primitive) (s : Core) → Allowed a w s → Published s → Published (after_primitive w s)
unfolding arrive set_cancel_asked add_call add_group add_set add_thread add_work count_work free_handle free_thread_handle give_handle give_result give_thread_handle on_call on_instance on_thread on_work push_high remove_call remove_group remove_set remove_thread remove_work set_backpressure set_cancel_delivered set_cancelled set_course set_do_not_enter set_do_not_suspend set_end set_event set_exited set_op_progress set_join set_task_event set_phase set_position set_register set_result set_saved_callee set_saved_own set_script set_stage set_started set_starting_published set_subtask_handle set_thread_handle set_trapped set_uninteresting set_memory_cell take_result call_made with_handle with_thread_handle work_queued poll_pends
published_primitive a (SetCallEvent j None) s ok q k h = grind (arith, nat_tests, get-change, q k)
published_primitive a (SetCallEvent j (Some Status.Starting)) s ok q k h = let now = ok.1.0.1 in grind (arith, nat_tests, get-change, q k)
published_primitive a (SetCallEvent j (Some Status.Started)) s ok q k h = grind (arith, nat_tests, get-change, q k)
published_primitive a (SetCallEvent j (Some _)) s ok q k h = absurd ok.1.0
published_primitive a w s ok q k h = grind (arith, nat_tests, get-change, get-insert, get-remove, q k)

started_primitive : (a : Scene) (w : Primitive) (s : Core) → Allowed a w s → Started s → Started (after_primitive w s)
unfolding arrive set_cancel_asked add_call add_group add_set add_thread add_work count_work free_handle free_thread_handle give_handle give_result give_thread_handle on_call on_instance on_thread on_work push_high remove_call remove_group remove_set remove_thread remove_work set_backpressure set_cancel_delivered set_cancelled set_course set_do_not_enter set_do_not_suspend set_end set_event set_exited set_op_progress set_join set_task_event set_phase set_position set_register set_result set_saved_callee set_saved_own set_script set_stage set_started set_starting_published set_subtask_handle set_thread_handle set_trapped set_uninteresting set_memory_cell take_result call_made with_handle with_thread_handle work_queued poll_pends
started_primitive a (SetCallEvent j None) s ok q k h = grind (arith, nat_tests, get-change, q k)
started_primitive a (SetCallEvent j (Some Status.Starting)) s ok q k h = grind (arith, nat_tests, get-change, q k)
started_primitive a (SetCallEvent j (Some Status.Started)) s ok q k h = let now = ok.1.0 in grind (arith, nat_tests, get-change, q k)
started_primitive a (SetCallEvent j (Some _)) s ok q k h = absurd ok.1.0
started_primitive a w s ok q k h = grind (arith, nat_tests, get-change, get-insert, get-remove, q k)

none_tells : (rules : Version) (instances handle_limit capacity k : ℕ) (e : Status) →
    event_of (Subtask.Guest k) (fresh rules instances handle_limit capacity) ≡ Some e → {A : Type 0} → A
unfolding fresh
none_tells rules instances handle_limit capacity k e is = let none = get-empty {X = Call} k in absurd (cc)

pub events_reached : EventsReached
unfolding EventsReached EndsToldAsRecorded
events_reached x s r k c at e is = by e is
  where
    published : Published s.core
    published = reached_kept Published (λ v i h t k is. none_tells v i h t k Status.Starting is) published_primitive r

    started : Started s.core
    started = reached_kept Started (λ v i h t k is. none_tells v i h t k Status.Started is) started_primitive r

    by : (e : Status) → c.event ≡ Some e → level_of e ≤ level c
    by Status.Starting is = let p = published k in grind arith
    by Status.Started is = let p = started k in grind arith
    by Status.Returned is = let p = told_as_recorded x s r k Status.Returned (grind arith) in let q = p.1.0 in grind arith
    by Status.StartCancelled is = let p = told_as_recorded x s r k Status.StartCancelled (grind arith) in let q = p.1.0 in grind arith
    by Status.ReturnCancelled is = let p = told_as_recorded x s r k Status.ReturnCancelled (grind arith) in let q = p.1.0 in grind arith

-- ---- What is told in a step

-- Starting was so before the step, or the call waits for its start and it was not told
abbrev NewStarting : Scene → Core → Type 0
NewStarting a s = (k : ℕ) → event_of (Subtask.Guest k) s ≡ Some Status.Starting →
    (event_of (Subtask.Guest k) a.base ≡ Some Status.Starting) ⊎ ((first_waits k a.base ≡ true) × (starting_is_published k a.base ≡ false))

-- Started was so before the step, or the call waits for its start
abbrev NewStarted : Scene → Core → Type 0
NewStarted a s = (k : ℕ) → event_of (Subtask.Guest k) s ≡ Some Status.Started →
    (event_of (Subtask.Guest k) a.base ≡ Some Status.Started) ⊎ (first_waits k a.base ≡ true)

waits_here : (a : Scene) → Numbered a.base → (n k : ℕ) (m : Mark) → place_of n a.base ≡ Some (Place.Ready m Why.Start) → is_explicit n a.base ≡ false →
    k ≡ task_of n a.base → first_waits k a.base ≡ true
waits_here a numbered n k m at implicit same = let own = numbered.threads n in grind (arith, own)

starting_new : (a : Scene) → Numbered a.base → (w : Primitive) (s : Core) → Allowed a w s → NewStarting a s → NewStarting a (after_primitive w s)
unfolding arrive set_cancel_asked add_call add_group add_set add_thread add_work count_work free_handle free_thread_handle give_handle give_result give_thread_handle on_call on_instance on_thread on_work push_high remove_call remove_group remove_set remove_thread remove_work set_backpressure set_cancel_delivered set_cancelled set_course set_do_not_enter set_do_not_suspend set_end set_event set_exited set_op_progress set_join set_task_event set_phase set_position set_register set_result set_saved_callee set_saved_own set_script set_stage set_started set_starting_published set_subtask_handle set_thread_handle set_trapped set_uninteresting set_memory_cell take_result call_made with_handle with_thread_handle work_queued poll_pends
starting_new a numbered (SetCallEvent j None) s ok q k h = q k (grind (arith, nat_tests, get-change))
starting_new a numbered (SetCallEvent j (Some Status.Starting)) s ok q k h = by_number k j _
    (λ is. let r = ok.1.1 in inr (waits_here a numbered r.0 k r.1.1.0.0 r.1.1.0.1 r.1.1.1.0 (is ∙ r.1.1.1.1.0), ap (λ (n : ℕ). starting_is_published n a.base) is ∙ ok.1.0.0))
    (λ other. q k (grind (arith, nat_tests, get-change, other)))
starting_new a numbered (SetCallEvent j (Some Status.Started)) s ok q k h = q k (grind (arith, nat_tests, get-change))
starting_new a numbered (SetCallEvent j (Some _)) s ok q k h = absurd ok.1.0
starting_new a numbered w s ok q k h = q k (grind (arith, nat_tests, get-change, get-insert, get-remove))

started_new : (a : Scene) → Numbered a.base → (w : Primitive) (s : Core) → Allowed a w s → NewStarted a s → NewStarted a (after_primitive w s)
unfolding arrive set_cancel_asked add_call add_group add_set add_thread add_work count_work free_handle free_thread_handle give_handle give_result give_thread_handle on_call on_instance on_thread on_work push_high remove_call remove_group remove_set remove_thread remove_work set_backpressure set_cancel_delivered set_cancelled set_course set_do_not_enter set_do_not_suspend set_end set_event set_exited set_op_progress set_join set_task_event set_phase set_position set_register set_result set_saved_callee set_saved_own set_script set_stage set_started set_starting_published set_subtask_handle set_thread_handle set_trapped set_uninteresting set_memory_cell take_result call_made with_handle with_thread_handle work_queued poll_pends
started_new a numbered (SetCallEvent j None) s ok q k h = q k (grind (arith, nat_tests, get-change))
started_new a numbered (SetCallEvent j (Some Status.Starting)) s ok q k h = q k (grind (arith, nat_tests, get-change))
started_new a numbered (SetCallEvent j (Some Status.Started)) s ok q k h = by_number k j _
    (λ is. let r = ok.1.1 in inr (waits_here a numbered r.0 k r.1.1.0.0 r.1.1.0.1 r.1.1.1.0 (is ∙ r.1.1.1.1.0)))
    (λ other. q k (grind (arith, nat_tests, get-change, other)))
started_new a numbered (SetCallEvent j (Some _)) s ok q k h = absurd ok.1.0
started_new a numbered w s ok q k h = q k (grind (arith, nat_tests, get-change, get-insert, get-remove))

-- ---- The laws

level_rises : (c d : Call) → LaterCall c d → Rises c d → level c ≤ level d
level_rises c d later rise = let ends = rise.end_stays in let starts = rise.start_stays in let told = later.starting_published in grind (arith, ends)

module _ (x : Setting) (s : State) (l : Label) (t : State) (r : Reached x s) (step : Step x s l t) where
  abbrev w : Walked x s l t
  w = step_walks x s l t step

  abbrev a : Scene
  a = plain_scene x s l w.next

  walk : Walk a s.core t.core
  walk = plain {ops = ops_of x.component s.core} x s l w.next (λ (c : Scene). Walk c s.core t.core) w.walk

  numbered : Numbered a.base
  unfolding ReachedInOrder
  numbered = let h = (reached_in_order x s r).numbered in record {
    threads = λ n r at. let o = h.threads n r at in record { number = o.number; call = o.call; own = o.own; nameless = o.nameless };
    calls = h.calls;
  }

  -- a call whose first thread waits for its start has come to nothing yet
  unbegun : (k : ℕ) (c : Call) → get s.core.calls k ≡ Some c → first_waits k s.core ≡ true → (c.started ≡ false) × (is_some c.«end» ≡ false)
  unfolding ReachedInOrder
  unbegun k c at waits = by (get s.core.threads k) refl
    where
      by : (o : Option Thread) → get s.core.threads k ≡ o → (c.started ≡ false) × (is_some c.«end» ≡ false)
      by None is = absurd (grind arith)
      by (Some u) is = let n = (reached_in_order x s r).unbegun k u is (grind arith) (grind arith) in let e = n.unended in let o = unstarted x s r k waits in (grind arith, grind arith)

  told_by : (k : ℕ) (c d : Call) → get s.core.calls k ≡ Some c → get t.core.calls k ≡ Some d → (e : Status) → d.event ≡ Some e →
      (c.event ≡ Some e) ⊎ (level c < level_of e)
  unfolding NewEndsAreSaid
  told_by k c d was now Status.Starting is =
      ⊎_elim (λ before. inl (grind arith)) (λ new. let n = unbegun k c was new.0 in let p = new.1 in inr (grind arith))
      (along (NewStarting a) (starting_new a numbered) (λ j h. inl h) walk k (grind arith))
  told_by k c d was now Status.Started is =
      ⊎_elim (λ before. inl (grind arith)) (λ new. let n = unbegun k c was new in inr (grind arith))
      (along (NewStarted a) (started_new a numbered) (λ j h. inl h) walk k (grind arith))
  told_by k c d was now e is =
      ⊎_elim (λ before. inl (grind arith)) (λ said. let n = written_ends_are_new x s l t r step k e said in inr (grind arith))
      (new_ends_are_said x s l t r step k e (grind arith))

pub steps_tell_higher : StepsTellHigher
unfolding StepsTellHigher StepsRise
steps_tell_higher x s l t r step k below = by (get s.core.calls k) (get t.core.calls k) refl refl
    ((steady x s l t step).calls k below) (steps_rise x s l t r step k below)
  where
    by : (o p : Option Call) → get s.core.calls k ≡ o → get t.core.calls k ≡ p → LaterBy LaterCall o p → LaterBy Rises o p → LaterBy TellsHigher o p
    by None None e f later rise = tt
    by None (Some d) e f later rise = later
    by (Some c) None e f later rise = tt
    by (Some c) (Some d) e f later rise = record { rises = level_rises c d later rise; told = told_by x s l t r step k c d e f }

higher_same : (c : Call) → TellsHigher c c
higher_same c = record { rises = le_refl _; told = λ e is. inl is }

higher_after : (b c d : Call) → TellsHigher b c → TellsHigher c d → TellsHigher b d
higher_after b c d p q = record {
  rises = le_trans p.rises q.rises;
  told = λ e is. ⊎_elim (λ before. p.told e before) (λ new. let r = p.rises in inr (grind arith)) (q.told e is);
}

pub runs_tell_higher : RunsTellHigher
unfolding RunsTellHigher StepsTellHigher
runs_tell_higher x s [] t r run k below = subst (λ (u : State). LaterBy TellsHigher (get s.core.calls k) (get u.core.calls k)) (sym run)
    (later_same TellsHigher higher_same (get s.core.calls k))
runs_tell_higher x s (l ∷ ls) t r (m, rest) k below =
    let first = steps_tell_higher x s l m r rest.0 k below in
    let more = runs_tell_higher x m ls t (reached_step s l m r rest.0) rest.1 k (le_trans below (steady x s l m rest.0).threads_made) in
    later_after TellsHigher higher_after (get s.core.calls k) (get m.core.calls k) (get t.core.calls k) first more
