-- The ends of host works, along the primitives of a step.
use Rattle.laws_order.specs.Works.{Answered, has_recorded, IsRecorded, IsUnended, NoWorkEndIsCovered, recorded_end, WorkEndsAreSaid, WorkEndsHandedAsTold, WorkEndsToldAsRecorded, WrittenWorkEndsAreNew}
use Rattle.std.specs.Option.{option_map_or}
use Rattle.std.specs.Prelude.{is_some, option_map}
use Rattle.std.proofs.Common.{ap, inl, inr, refl, subst, sym}
use Rattle.laws_states.proofs.CallsSteps.{codes_at, plain, plain_scene}
use Rattle.machine_rules.specs.Scripts.{ops_of}
use Rattle.laws_states.proofs.EventLemmas.{host_event_primitive, works_hold}
use Rattle.laws_states.proofs.OnceLemmas.{covers_none}
use Rattle.laws_states.proofs.PolledWorks.{polled_is_live}
use Rattle.laws_states.proofs.ReachLemmas.{reached_step}
use Rattle.laws_states.proofs.SaidEnds.{hands_at, said_at, written_at}
use Rattle.laws_states.proofs.Primitives.{add_call, add_group, add_set, add_thread, add_work, AddGroup, count_work, free_handle, free_thread_handle, give_handle, give_result, give_thread_handle, on_call, on_instance, on_thread, on_work, push_high, remove_call, remove_group, remove_set, remove_thread, remove_work, set_backpressure, set_cancel_delivered, set_cancelled, set_course, set_do_not_enter, set_do_not_suspend, set_end, set_event, set_exited, set_op_progress, set_join, set_task_event, set_phase, set_position, set_register, set_result, set_saved_callee, set_saved_own, set_script, set_stage, set_started, set_starting_published, set_subtask_handle, set_thread_handle, set_trapped, set_uninteresting, set_memory_cell, take_result, call_made, with_handle, with_thread_handle, work_queued, poll_pends}
use Rattle.laws_states.proofs.Works.{Lasts, works_go, WorksGo}
use Rattle.laws_states.proofs.WorksCame.{doing}
use Rattle.laws_states.specs.Order.{InOrder}
use Rattle.laws_states.specs.Settings.{Reached}
use Rattle.machine_data.specs.Read.{event_of, op_progress_of, is_live, is_stage_ended, stage_of, undelivered_end}
use Rattle.machine_data.specs.declared.records.Work.{Work}
use Rattle.laws_places.proofs.Laws.{after_primitive, Allowed, along, arith, Bool, by_number, Core, false, get, get-change, get-insert, get-remove, OpProgress, IsRunner, Label, nat_tests, None, Option, Scene, scene_of, Setting, Some, State, Status, Step, step_walks, Subtask, true, Walked, Primitive, ⊎_elim, ℕ, ◌∙◌, ◌≡◌, ◌⊎◌}
use Rattle.laws_places.proofs.OrderLemmas.{asked, reached_in_order}
use Rattle.laws_places.proofs.WorksQueued.{stands_of}
use Rattle.laws_places.specs.KeptPlaces.{ReachedInOrder}
use Rattle.machine_rules.specs.Chains.{Answers, EndPrimitives, HandsAtOnce, HandsOut, host_taken, TakesEvent, TakesResult, Writes, WritesAtOnce, WritesCall, WritesNever, WritesPolled, WritesToo}
use Rattle.machine_rules.specs.Laws.{LaterBy}
use Rattle.machine_rules.specs.Once.{covers_end}
use Rattle.machine_rules.specs.SubtaskEnds.{end_for, written_as, written_by}
use Rattle.machine_rules.specs.Primitives.{EndWork, FinishWork}
use Rattle.machine_rules.specs.Works.{has_end}
use Rattle.machine_data.specs.declared.label.LoopLabel.{LoopLabel}
unfoldable use Rattle.machine_data.specs.Write.{arrive, set_cancel_asked}

-- ---- In a state

pub told_as_recorded : WorkEndsToldAsRecorded
unfolding WorkEndsToldAsRecorded ReachedInOrder
told_as_recorded x s r i e is = by (get s.core.works i) refl
  where
    by : (o : Option Work) → get s.core.works i ≡ o → IsRecorded i e s.core
    by None at = absurd (grind (arith, is, at))
    by (Some w) at =
        let q = (reached_in_order x s r).works_told i w at in
        let told = q.told e (grind (arith, is, at)) in
        let late = q.late in
        record { async = grind (arith, at, told); over = grind (arith, at, told); has = grind (arith, at, told, late); same = grind (arith, at, told) }

-- ---- Along primitives

-- the step ends the work
abbrev EndsNow : Scene → ℕ → Type 0
EndsNow a i = a.label ≡ Label.Loop (LoopLabel.FutureEnds i)

recorded_primitive : (a : Scene) (w : Primitive) (s : Core) → Allowed a w s → (i : ℕ) → has_recorded i (after_primitive w s) ≡ true → (has_recorded i s ≡ true) ⊎ EndsNow a i
unfolding arrive set_cancel_asked add_call add_group add_set add_thread add_work count_work free_handle free_thread_handle give_handle give_result give_thread_handle on_call on_instance on_thread on_work push_high remove_call remove_group remove_set remove_thread remove_work set_backpressure set_cancel_delivered set_cancelled set_course set_do_not_enter set_do_not_suspend set_end set_event set_exited set_op_progress set_join set_task_event set_phase set_position set_register set_result set_saved_callee set_saved_own set_script set_stage set_started set_starting_published set_subtask_handle set_thread_handle set_trapped set_uninteresting set_memory_cell take_result call_made with_handle with_thread_handle work_queued poll_pends
recorded_primitive a AddGroup s ok i h = inl h
recorded_primitive a (EndWork j c) s ok i h = by_number i j _ (λ is. inr (rw is ok.0.1.0)) (λ other. inl (grind (arith, nat_tests, get-change, other, h)))
recorded_primitive a (FinishWork j c) s ok i h = by_number i j _ (λ is. inr (rw is ok.0.1.0)) (λ other. inl (grind (arith, nat_tests, get-change, other, h)))
recorded_primitive a w s ok i h = inl (first_of (assumption, grind (arith, nat_tests, get-change, get-insert, get-remove)))

pub ends_are_said : WorkEndsAreSaid
unfolding WorkEndsAreSaid
ends_are_said x s l t step i =
    let w = step_walks x s l t step in
    let a = scene_of x s l w.next in
    record {
      written = λ now. ⊎_elim inl (λ is. inr (ap (λ (k : Label). written_as (ops_of x.component s.core) s.core k t.core) is))
          (along (λ (u : Core). has_recorded i u ≡ true → (has_recorded i s.core ≡ true) ⊎ EndsNow a i)
          (λ v u ok q h. ⊎_elim q inr (recorded_primitive a v u ok i h)) inl w.walk now);
      told = λ e now. along (λ (u : Core). undelivered_end (event_of (Subtask.Host i) u) ≡ Some e →
          (undelivered_end (event_of (Subtask.Host i) s.core) ≡ Some e) ⊎ (host_taken l ≡ Some i))
          (λ v u ok q h. ⊎_elim q inr (host_event_primitive a v u ok i e h)) inl w.walk now;
    }

-- ---- Of a step

false_of : (b : Bool) → (b ≡ true → ⊥) → b ≡ false
false_of b not = grind arith

module _ (x : Setting) (s : State) (l : Label) (t : State) (r : Reached x s) (step : Step x s l t) where
  w : Walked x s l t
  w = step_walks x s l t step

  abbrev a : Scene
  a = plain_scene x s l w.next

  h : InOrder x.component s
  unfolding ReachedInOrder
  h = reached_in_order x s r

  primitives : EndPrimitives a t.core
  primitives = plain {ops = ops_of x.component s.core} x s l w.next (λ b. EndPrimitives b t.core) w.ends.says

  go : WorksGo ⊥ a t.core
  go = plain {ops = ops_of x.component s.core} x s l w.next (λ b. WorksGo ⊥ b t.core)
      (works_go {S = ⊥} x s l t w (λ no. absurd no) (works_hold s.core (stands_of h.works) h.works_told))

  -- who goes on after its sync call of a host finds the work ended
  abbrev Finds : Scene → Type 0
  Finds c = (n i : ℕ) → IsRunner c n → op_progress_of n c.base ≡ OpProgress.Calls (Subtask.Host i) → is_stage_ended (stage_of i c.base) ≡ true

  finds : Finds a
  finds = plain {ops = ops_of x.component s.core} x s l w.next Finds (λ n i runner far. (asked x s l t h w (codes_at x s h.codes) n i runner far).1)

  out : (i : ℕ) (sub : Subtask) (e : Status) → sub ≡ Subtask.Host i → HandsOut a t.core sub e →
      ((undelivered_end (event_of (Subtask.Host i) s.core) ≡ Some e) × (undelivered_end (event_of (Subtask.Host i) t.core) ≡ None)) ⊎
      (Answered i e s.core t.core ⊎ (written_by x.component s.core l t.core ≡ Some (end_for e (Subtask.Host i))))
  out i _ _ same (TakesEvent sub f had gone) = inl (rw same at had, rw same at gone)
  out i _ _ same (TakesResult j there gone) = absurd (cc)
  out i _ _ same (WritesToo j f says why) = absurd (cc)
  out i _ _ same (HandsAtOnce j ready is) =
      let one : j ≡ i = cc in
      inr (inr (subst (λ (k : ℕ). written_by x.component s.core l t.core ≡ Some (end_for Status.Returned (Subtask.Host k))) one (said_at (ops_of x.component s.core) s.core a.base.queues t.core l _ is)))
  out i _ _ same (Answers n j runner far gone) =
      let one : j ≡ i = cc in
      let called = (h.works_known.called n j far).1 in
      let over = finds n j runner far in
      inr (inl (rw (← one) (record { caller = n; called = called; inside = far; over = over; status = refl; gone = gone })))

  unended : (i : ℕ) (sub : Subtask) → sub ≡ Subtask.Host i → Writes a t.core sub → IsUnended i s.core
  unfolding WorkEndsToldAsRecorded
  unended i _ same (WritesCall k u end over walk) = absurd (cc)
  unended i _ same (WritesPolled j shows polled ended frees) =
      let one : j ≡ i = cc in rw (← one) (by (get s.core.works j) refl (polled_is_live polled.0 a.base j polled.1.1))
    where
      by : (o : Option Work) → get s.core.works j ≡ o → option_map_or is_live (get s.core.works j) false ≡ true → IsUnended j s.core
      by None at live = absurd (grind (arith, at, live))
      by (Some v) at live = let late = (h.works_told j v at).late in
          record { unended = grind (arith, at, live, late); known = inl (ap (λ o. is_some o) at) }
  unended i _ same (WritesAtOnce j ready) =
      let one : j ≡ i = cc in
      let none = h.works.made j in
      rw (← one) (record { unended = grind (arith, none, ready.0); known = inr ready.0 })
  unended i _ same (WritesNever sub e) = by sub same e
    where
      by : (sub : Subtask) → sub ≡ Subtask.Host i → undelivered_end (event_of sub a.base) ≡ Some Status.StartCancelled → IsUnended i s.core
      by (Subtask.Guest k) same e = absurd (cc)
      by (Subtask.Host j) same e = let q = (told_as_recorded x s r j Status.StartCancelled e).same in absurd (grind arith)

  covers : (i : ℕ) → covers_end (Subtask.Host i) (record { before = s; label = l; after = t }) ≡ true → ⊥
  unfolding WorkEndsToldAsRecorded
  covers i = covers_none _ _ (λ e f had has.
      let p = told_as_recorded x s r i e had in
      let q = told_as_recorded x t (reached_step s l t r step) i f has in
      let stays : recorded_end i t.core ≡ recorded_end i s.core = lasts i p q in p.same ∙ (sym stays ∙ sym q.same))
    where
      lasts : (i : ℕ) {e f : Status} → IsRecorded i e s.core → IsRecorded i f t.core → recorded_end i t.core ≡ recorded_end i s.core
      lasts i p q = by (get s.core.works i) (get t.core.works i) refl refl (go.was i (h.works.made i (there (get s.core.works i) p.has)))
        where
          there : (o : Option Work) → option_map_or (λ w. has_end w.course) o false ≡ true → is_some o ≡ true
          there o has = grind arith

          by : (o n : Option Work) → get s.core.works i ≡ o → get t.core.works i ≡ n → LaterBy Lasts (option_map doing o) (option_map doing n) →
              recorded_end i t.core ≡ recorded_end i s.core
          by (Some v) (Some u) at now later = let same = later.stays (let has = p.has in grind (arith, at, has)) in grind (arith, at, now, same)
          by None n at now later = absurd (let has = p.has in grind (arith, at, has))
          by (Some v) None at now later = absurd (let has = q.has in grind (arith, now, has))

pub handed_as_told : WorkEndsHandedAsTold
unfolding WorkEndsHandedAsTold
handed_as_told x s l t r step i e is =
    let w = step_walks x s l t step in
    out x s l t r step i _ e refl ((primitives x s l t r step).hands _ e (hands_at (ops_of x.component s.core) s.main s.core (plain_scene x s l w.next).base.queues t.core l _ is))

pub written_are_new : WrittenWorkEndsAreNew
unfolding WrittenWorkEndsAreNew
written_are_new x s l t r step i e is =
    let w = step_walks x s l t step in
    unended x s l t r step i _ refl ((primitives x s l t r step).writes _ e (written_at (ops_of x.component s.core) s.core (plain_scene x s l w.next).base.queues t.core l _ is))

pub no_end_is_covered : NoWorkEndIsCovered
unfolding NoWorkEndIsCovered
no_end_is_covered x s l t r step i = false_of _ (covers x s l t r step i)
