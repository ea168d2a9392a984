-- The moves of each primitive, and so of a step.
use Rattle.std.proofs.Common.{ap, inl, inr, subst, sym, ◌∙◌}
use Rattle.std.specs.Option.{option_map_or}
use Rattle.std.specs.Prelude.{Bool, List, None, Option, Some, [], false, if◌then◌else◌, refl, true, ℕ, ◌+◌, ◌++◌, ◌∷◌, ◌≡◌, ◌⊎◌}
use Rattle.machine_data.specs.Core.{Core, Queues, State}
use Rattle.machine_data.specs.Labels.{choice_of, host_label}
use Rattle.machine_data.specs.Moves.{behind, behind_one, displaced, has_entry, is_callback_waiter, less, less_switch, may_publish, newest, older, passed_on, promoted, published, put_high, put_low, put_switch, resumed_all, stand, stopped, unblocked, unqueued, wake, wake_joined, waken_by}
use Rattle.machine_data.specs.Read.{blocked_on, callers_of, course_of, course_value, foot_of, join_of, next_entry, work_caller_of}
use Rattle.machine_data.specs.Write.{add_call, add_group, add_set, add_thread, add_work, count_work, free_handle, free_thread_handle, give_handle, give_result, give_thread_handle, on_call, on_instance, on_thread, on_work, push_high, push_high_first, push_low, remove_call, remove_group, remove_set, remove_thread, remove_work, set_backpressure, set_callers, set_cancel_delivered, set_cancelled, set_course, set_do_not_enter, set_do_not_suspend, set_end, set_event, set_exited, set_high, set_op_progress, set_join, set_low, set_task_event, set_phase, set_place, set_position, set_register, set_result, set_saved_callee, set_saved_own, set_script, set_stage, set_started, set_starting_published, set_subtask_handle, set_switch, set_thread_handle, set_trapped, set_uninteresting, set_memory_cell, take_result, with_high, with_low, with_switch}
use Rattle.machine_data.specs.declared.label.Label.{Label}
use Rattle.machine_data.specs.declared.records.Entry.{Entry}
use Rattle.machine_data.specs.declared.records.Entry.TheVariants as entry
use Rattle.machine_data.specs.declared.records.Join.{Join}
use Rattle.machine_data.specs.declared.records.Join.TheVariants as join
use Rattle.machine_data.specs.declared.records.Delivery.TheVariants as delivery
use Rattle.machine_data.specs.declared.records.Stage.TheVariants as stage
use Rattle.machine_data.specs.declared.records.Subtask.{Subtask}
use Rattle.machine_data.specs.declared.records.Subtask.TheVariants as subtask
use Rattle.machine_data.specs.declared.records.WorkCaller.{WorkCaller}
use Rattle.machine_data.specs.declared.records.WorkCaller.TheVariants as caller
use Rattle.machine_data.specs.declared.statuses.Status.{Status}
use Rattle.machine_data.specs.declared.records.Turn.{Turn}
use Rattle.machine_data.specs.declared.records.Turn.TheVariants as turn
use Rattle.machine_data.specs.declared.records.Why.{Why}
use Rattle.machine_data.specs.declared.records.Why.TheVariants as why
use Rattle.machine_data.specs.declared.statuses.Mark.{Mark}
use Rattle.machine_data.specs.declared.statuses.Mark.TheVariants as mark
use Rattle.machine_rules.proofs.ChainLemmas.{along}
use Rattle.machine_rules.proofs.WalkSteps.{step_walks}
use Rattle.machine_rules.specs.Calls.{call_made, with_handle, with_thread_handle, work_queued}
use Rattle.machine_rules.specs.Chains.{Chain, Collapses, GoesBack, Lands, LandsAt, Quits, Remains, Settles, Stay, Trip, start_of}
use Rattle.machine_rules.specs.Scenes.{Scene, base_at, base_without, runner_at, scene_of, thread_of_entry}
use Rattle.machine_rules.specs.Progress.{Stops, may}
use Rattle.machine_rules.specs.Stalled.{Setting, is_unended_take, may_deadlock}
use Rattle.laws_states.proofs.CallsSteps.{of_base}
use Rattle.machine_rules.specs.Scripts.{op_of, ops_of, script_of}
use Rattle.machine_rules.specs.SubtaskEnds.{SubtaskEnd, written_as, written_by}
use Rattle.machine_rules.specs.Takes.{host_done, host_result, scripted_host_rule, host_status, popped, pushed}
use Rattle.machine_rules.specs.Turns.{at_turn, goes_to}
use Rattle.machine_rules.specs.Primitives.{AddGroup, FinishWork, RemoveCall, RemoveGroup, SetTrapped, SetUninteresting, Places, Placing, Pop, Promote, Put, QueueWork, RemoveThread, Stop, TakeHost, TakePush, Withdraw, Primitive, after_placing, after_primitive}
use Rattle.machine_rules.specs.Works.{has_moving_work, poll_pends}
use Rattle.laws_order.proofs.LineLemmas.{after_more, lawful_more}
use Rattle.laws_order.specs.Moves.{AllOther, Comes, IsOther, Lawful, May, Move, MovesBy, Promotes, StepsMoveEntries, Takes, Withdraws, after, moved, one_at, taking, taking_by, taking_next, unlined}
use Rattle.machine_rules.specs.Allowed.{IsUnwind, IsSettling, MayHasten, MayLand, MayShift, Stays, TakesWork}
use Rattle.machine_rules.specs.Step.{DeadlockStep, EmptyFor, Progresses, RestStep, Step, TakeStep, TurnStep}
unfoldable use Rattle.machine_data.specs.Write.{arrive, set_cancel_asked}

settling_same : (w : Primitive) (s : Core) → IsSettling w s → (after_primitive w s).queues ≡ s.queues
unfolding set_uninteresting remove_call remove_group on_call
settling_same (SetUninteresting k) s ok = refl
settling_same (RemoveCall k) s ok = refl
settling_same (RemoveGroup g) s ok = refl
settling_same _ s ok = absurd ok

unwinding_same : (a : Scene) (w : Primitive) (s : Core) → IsUnwind a w s → (after_primitive w s).queues ≡ s.queues
unfolding remove_thread set_trapped
unwinding_same a (RemoveThread n) s ok = refl
unwinding_same a SetTrapped s ok = refl
unwinding_same a _ s ok = absurd ok

module _ (x : Setting) (first : State) (l : Label) where
  -- from the one to the other by other moves than takings
  record Others (q r : Queues) : Type 0 where
    moves : List Move
    other : AllOther x first l moves
    lawful : Lawful moves q
    leads : r ≡ after moves q

  -- ---- One after another

  other_more : (vs ws : List Move) → AllOther x first l vs → AllOther x first l ws → AllOther x first l (vs ++ ws)
  other_more [] ws p q = q
  other_more (v ∷ vs) ws p q = (p.0, other_more vs ws p.1 q)

  none : (q : Queues) → Others q q
  none q = record { moves = []; other = tt; lawful = tt; leads = refl }

  same : {q r : Queues} → r ≡ q → Others q r
  same {q = q} e = record { moves = []; other = tt; lawful = tt; leads = e }

  once : (v : Move) {q r : Queues} → IsOther x first l v → May v q → r ≡ moved v q → Others q r
  once v ok may e = record { moves = v ∷ []; other = (ok, tt); lawful = (may, tt); leads = e }

  more : {q r t : Queues} → Others q r → Others r t → Others q t
  more {q = q} c d = record {
    moves = c.moves ++ d.moves;
    other = other_more c.moves d.moves c.other d.other;
    lawful = lawful_more c.moves d.moves q c.lawful (subst (λ (u : Queues). Lawful d.moves u) c.leads d.lawful);
    leads = d.leads ∙ (ap (after d.moves) c.leads ∙ sym (after_more c.moves d.moves q));
  }

  -- ---- Primitives that move threads

  put_high_moves : (n : ℕ) (w : Why) (s : Core) → Others s.queues (put_high n w s).queues
  unfolding put_high push_high set_place on_thread
  put_high_moves n w s = once (Comes mark.High (entry.Thread n)) tt tt refl

  put_low_moves : (n : ℕ) (w : Why) (s : Core) → Others s.queues (put_low n w s).queues
  unfolding put_low push_low set_place on_thread
  put_low_moves n w s = once (Comes mark.Low (entry.Thread n)) tt tt refl

  put_switch_moves : (n : ℕ) (w : Why) (s : Core) → Others s.queues (put_switch n w s).queues
  unfolding put_switch set_switch push_high_first set_place on_thread
  put_switch_moves n w s = once (Comes mark.Switch (entry.Thread n)) tt refl (by s.queues.switch)
    where
      by : (o : Option ℕ) → (set_switch (Some n) (stand n mark.Switch w (displaced o s))).queues ≡
          with_switch (Some n) (with_high (one_at o ++ s.queues.high) s.queues)
      by None = refl
      by (Some m) = refl

  resumed_moves : (ns : List ℕ) (s : Core) → Others s.queues (resumed_all ns s).queues
  resumed_moves [] s = none s.queues
  resumed_moves (n ∷ ns) s = more (put_high_moves n why.Resumption s) (resumed_moves ns (put_high n why.Resumption s))

  behind_same : (f : ℕ) (ns : List ℕ) (s : Core) → (behind f ns s).queues ≡ s.queues
  unfolding behind_one set_callers set_place on_thread
  behind_same f [] s = refl
  behind_same f (n ∷ ns) s = behind_same f ns (behind_one f n s)

  passed_on_moves : (o : Option ℕ) (ns : List ℕ) (s : Core) → Others s.queues (passed_on o ns s).queues
  passed_on_moves (Some m) ns s = same (behind_same (foot_of m s) ns s)
  passed_on_moves None [] s = none s.queues
  passed_on_moves None (n ∷ ns) s =
      more (put_switch_moves (newest n ns) why.Resumption s) (resumed_moves (older n ns) (put_switch (newest n ns) why.Resumption s))

  stopped_moves : (f : ℕ) (s : Core) → Others s.queues (stopped f s).queues
  unfolding stopped set_callers
  stopped_moves f s = passed_on_moves s.queues.switch (callers_of f s) (set_callers f [] s)

  unqueued_is : (n : ℕ) (s : Core) → (unqueued n s).queues ≡ unlined n s.queues
  unfolding unqueued set_high set_low
  unqueued_is n s = by (has_entry n s.queues.high)
    where
      by : (b : Bool) → (if b then set_high (less n s.queues.high) s else set_low (less n s.queues.low) s).queues ≡
          (if b then with_high (less n s.queues.high) s.queues else with_low (less n s.queues.low) s.queues)
      by true = refl
      by false = refl

  promoted_moves : (n : ℕ) (s : Core) → s.queues.switch ≡ None → Others s.queues (promoted n s).queues
  unfolding promoted set_switch set_place on_thread
  promoted_moves n s free = once (Promotes n) tt free (ap (with_switch (Some n)) (unqueued_is n s))

  -- ---- A status is published

  wake_moves : (j : Join) (w : Option ℕ) (s : Core) → Others s.queues (wake_joined j w s).queues
  unfolding wake
  wake_moves (join.Set y) None s = none s.queues
  wake_moves (join.Set y) (Some n) s = by (is_callback_waiter n s)
    where
      by : (b : Bool) → Others s.queues (waken_by b y n s).queues
      by true = put_high_moves n (why.Delivery (delivery.Set y)) s
      by false = put_high_moves n why.Resumption s
  wake_moves j w s = none s.queues

  unblocked_moves : (o : Option ℕ) (s : Core) → Others s.queues (unblocked o s).queues
  unblocked_moves None s = none s.queues
  unblocked_moves (Some n) s = put_high_moves n why.Resumption s

  published_moves : (sub : Subtask) (e : Status) (w : Option ℕ) (s : Core) → Others s.queues (published sub e w s).queues
  unfolding published set_event on_call on_work
  published_moves sub e w s =
      let u = set_event sub (Some e) s in
      more (same (event_same sub)) (more (unblocked_moves (blocked_on sub s) u) (wake_moves (join_of sub s) w (unblocked (blocked_on sub s) u)))
    where
      event_same : (d : Subtask) → (set_event d (Some e) s).queues ≡ s.queues
      event_same (subtask.Guest k) = refl
      event_same (subtask.Host i) = refl

  host_done_moves : (i : ℕ) (w : Option ℕ) (s : Core) → Others s.queues (host_done i w s).queues
  unfolding host_done set_stage set_register on_work on_thread
  host_done_moves i w s =
      let v = course_value (course_of i s) in
      more (published_moves (subtask.Host i) (host_status v) w (set_stage i stage.Ended s)) (same (result_same (work_caller_of i s) v (published (subtask.Host i) (host_status v) w (set_stage i stage.Ended s))))
    where
      result_same : (c : WorkCaller) (v : Option ℕ) (u : Core) → (host_result c v u).queues ≡ u.queues
      result_same (caller.Async n q) (Some v) u = refl
      result_same c v u = refl

-- ---- Primitives, where the turn takes no entry of a work

-- what the label says of ends is the same, wherever the taken entry is
says_there : (x : Setting) (first : State) (l : Label) (o : Option SubtaskEnd) → written_as (ops_of x.component first.core) (base_at first.turn first.core) l (base_at first.turn first.core) ≡ o →
    written_by x.component (base_at first.turn first.core) l (base_at first.turn first.core) ≡ o
unfolding op_of script_of
says_there x first l o = of_base (λ (b : Core). written_as (ops_of x.component first.core) b l b ≡ o → written_by x.component b l b ≡ o) first.turn first.core (λ h. h)

module _ (x : Setting) (first : State) (l : Label) (next : Turn) (apart : TakesWork (scene_of x first l next) → ⊥) where
  abbrev a : Scene
  a = scene_of x first l next

  abbrev Moving : Queues → Queues → Type 0
  Moving q r = Others x first l q r

  placing_moves : (p : Placing) (s : Core) → MayShift p s ⊎ (MayHasten a p s ⊎ MayLand a p s) → Moving s.queues (after_placing p s).queues
  unfolding set_place on_thread behind_one set_callers
  placing_moves (Pop m) s (inl ok) = absurd ok
  placing_moves (Pop m) s (inr (inl ok)) = absurd ok
  placing_moves (Pop m) s (inr (inr ok)) = absurd ok
  placing_moves (Put mark.Switch n w) s ok = put_switch_moves x first l n w s
  placing_moves (Put mark.High n w) s ok = put_high_moves x first l n w s
  placing_moves (Put mark.Low n w) s ok = put_low_moves x first l n w s
  placing_moves (Promote n) s (inl ok) = promoted_moves x first l n s ok.0
  placing_moves (Promote n) s (inr (inl ok)) = promoted_moves x first l n s ok.0
  placing_moves (Promote n) s (inr (inr ok)) = absurd ok
  placing_moves (Stop f) s ok = stopped_moves x first l f s
  placing_moves p s ok = none x first l s.queues

  primitive_moves : (w : Primitive) (s : Core) → Stays a w s → Moving s.queues (after_primitive w s).queues
  unfolding arrive set_cancel_asked add_call add_group add_set add_thread add_work count_work free_handle free_thread_handle give_handle give_result give_thread_handle on_call on_instance on_thread on_work push_high remove_call remove_group remove_set remove_thread remove_work set_backpressure set_cancel_delivered set_cancelled set_course set_do_not_enter set_do_not_suspend set_end set_event set_exited set_op_progress set_join set_task_event set_phase set_position set_register set_result set_saved_callee set_saved_own set_script set_stage set_started set_starting_published set_subtask_handle set_thread_handle set_trapped set_uninteresting set_memory_cell take_result call_made with_handle with_thread_handle work_queued poll_pends set_switch
  primitive_moves (Places p) s (inl ok) = placing_moves p s (inl ok)
  primitive_moves (Places p) s (inr ok) = placing_moves p s (inr (inl ok))
  primitive_moves (Withdraw k) s ok = once x first l (Withdraws k) (says_there x first l _ ok.1.0) tt (ap (with_switch (less_switch k s.queues.switch)) (unqueued_is x first l k s))
  primitive_moves (QueueWork f host group) s ok = once x first l (Comes mark.High (entry.Push (s.made.works + 1))) tt tt refl
  primitive_moves (FinishWork i c) s ok = once x first l (Comes mark.High (entry.Host i)) tt tt refl
  primitive_moves (TakePush m i) s ok = absurd (apart ok.1)
  primitive_moves (TakeHost m i) s ok = absurd (apart ok.1.1.1)
  primitive_moves AddGroup s ok = none x first l s.queues
  primitive_moves w s ok = none x first l s.queues

  stay_moves : {b t : Core} → Stay a b t → Moving b.queues t.queues
  stay_moves {b = b} c = along (λ (u : Core). Moving b.queues u.queues) (λ w u ok q. more x first l q (primitive_moves w u ok)) (none x first l b.queues) c

  settle_same : {b t : Core} → Settles b t → t.queues ≡ b.queues
  settle_same {b = b} c = along (λ (u : Core). u.queues ≡ b.queues) (λ w u ok q. settling_same w u ok ∙ q) refl c

  unwind_same : {b t : Core} → Chain (IsUnwind a) b t → t.queues ≡ b.queues
  unwind_same {b = b} c = along (λ (u : Core). u.queues ≡ b.queues) (λ w u ok q. unwinding_same a w u ok ∙ q) refl c

  trip_moves : {b t : Core} → Trip a b t → Moving b.queues t.queues
  unfolding set_op_progress remove_thread on_thread set_place
  trip_moves (Remains t c still on) = stay_moves c
  trip_moves (Lands s p c ok fit halts) = more x first l (stay_moves c) (placing_moves p s (inr (inr ok)))
  trip_moves (LandsAt s p n h c ok fit comes halts) = more x first l (stay_moves c) (placing_moves p s (inr (inr ok)))
  trip_moves (Quits s t n c leave d halts) = more x first l (stay_moves c) (same x first l (settle_same d))
  trip_moves (GoesBack s t n m v c is runs to under back d ok) = more x first l (stay_moves c) (same x first l (settle_same d))
  trip_moves (Collapses t over c) = same x first l (unwind_same c)

-- ---- The entry that is taken leaves its mark

left_is : (m : Mark) (e : Entry) (s : Core) → (popped m s).queues ≡ moved (Takes m e) s.queues
unfolding popped set_switch set_high set_low
left_is mark.Switch e s = refl
left_is mark.High e s = refl
left_is mark.Low e s = refl

next_may : (m : Mark) (e : Entry) (s : Core) → next_entry s ≡ Some (m, e) → May (Takes m e) s.queues
unfolding next_entry
next_may m e s is = is

core_of : (s : State) (u : Core) (p : Turn) (t : State) → t ≡ goes_to s u p → t.core ≡ u
unfolding at_turn
core_of s u p t is = ap (λ (y : State). y.core) is

pushed_same : (i : ℕ) (s : Core) → (pushed i s).queues ≡ s.queues
unfolding pushed set_stage on_work
pushed_same i s = refl

trapped_same : (s : Core) → (set_trapped s).queues ≡ s.queues
unfolding set_trapped
trapped_same s = refl

some_none : {A : Type 0} {n : ℕ} → Some n ≡ None → A
some_none e = absurd (cc)

turn_step : (x : Setting) (s : State) (l : Label) (t : State) → Step x s l t → (p : Turn) → s.turn ≡ p → TurnStep x s p l t
unfolding Step
turn_step x s l t step p is = subst (λ (u : Turn). TurnStep x s u l t) is step

-- ---- Steps

module _ (x : Setting) (s : State) (l : Label) (t : State) where
  Result : Type 0
  Result = (others : List Move) × MovesBy x s l t others

  -- after what the turn takes
  behind_taking : (vs : List Move) → taking s ≡ vs → Lawful vs s.core.queues → Others x s l (after vs s.core.queues) t.core.queues → Result
  unfolding Result
  behind_taking vs is lawful c = (
    c.moves,
    record {
      other = c.other;
      lawful = subst (λ (us : List Move). Lawful (us ++ c.moves) s.core.queues) (sym is) (lawful_more vs c.moves s.core.queues lawful c.lawful);
      leads = subst (λ (us : List Move). t.core.queues ≡ after (us ++ c.moves) s.core.queues) (sym is) (c.leads ∙ sym (after_more vs c.moves s.core.queues));
    },
  )

  empty_same : (b : Bool) → EmptyFor x s b l t → t.core.queues ≡ s.core.queues
  empty_same true is = rests (is_unended_take s.turn) is
    where
      rests : (b : Bool) → RestStep s b l t → t.core.queues ≡ s.core.queues
      rests true is = ap (λ (c : Core). c.queues) (core_of s s.core turn.Main t is.1)
      rests false is = absurd is
  empty_same false is = dies (may_deadlock x s) is
    where
      dies : (b : Bool) → DeadlockStep s b l t → t.core.queues ≡ s.core.queues
      dies true is = ap (λ (c : Core). c.queues) (core_of s (set_trapped s.core) turn.Over t is.1) ∙ trapped_same s.core
      dies false is = absurd is

  host_rule_moves : (m : Mark) (i : ℕ) (w : Option ℕ) (u : Core) → Progresses s u i (scripted_host_rule m i w u) l t → Others x s l u.queues t.core.queues
  host_rule_moves m i w u is = by (may_publish (subtask.Host i) w u) is
    where
      by : (b : Bool) → Progresses s u i (may b (Stops (host_label m i w) (host_done i w u))) l t → Others x s l u.queues t.core.queues
      by true is = subst (λ (c : Core). Others x s l u.queues c.queues) (sym (core_of s (host_done i w u) turn.Main t is.1)) (host_done_moves x s l i w u)
      by false is = absurd is

  walks : Step x s l t → ((next : Turn) → TakesWork (scene_of x s l next) → ⊥) → (u : Core) → ((next : Turn) → start_of (scene_of x s l next) s.core ≡ u) →
      Others x s l u.queues t.core.queues
  walks step apart u is =
      let w = step_walks x s l t step in
      subst (λ (v : Core). Others x s l v.queues t.core.queues) (is w.next) (trip_moves x s l w.next (apart w.next) w.trip)

  takes : Step x s l t → (o : Option (Mark × Entry)) → next_entry s.core ≡ o → taking s ≡ taking_next o → runner_at s.turn s.core ≡ thread_of_entry o →
      base_at s.turn s.core ≡ base_without o s.core → TakeStep x s o l t → Result
  takes step None none first runner base is = behind_taking [] first tt (same x s l (empty_same (has_moving_work s.core) is))
  takes step (Some (m, entry.Thread n)) next first runner base is =
      behind_taking (Takes m (entry.Thread n) ∷ []) first (next_may m (entry.Thread n) s.core next, tt)
      (subst (λ (q : Queues). Others x s l q t.core.queues) (left_is m (entry.Thread n) s.core)
      (walks step (λ to works. some_none (sym runner ∙ works.1)) (popped m s.core) (λ to. ap (λ (o : Option ℕ). option_map_or (λ k. base_at s.turn s.core) o s.core) runner ∙ base)))
  takes step (Some (m, entry.Push i)) next first runner base is =
      behind_taking (Takes m (entry.Push i) ∷ []) first (next_may m (entry.Push i) s.core next, tt)
      (same x s l (ap (λ (c : Core). c.queues) (core_of s (pushed i (popped m s.core)) turn.Main t is.1) ∙ (pushed_same i (popped m s.core) ∙ left_is m (entry.Push i) s.core)))
  takes step (Some (m, entry.Host i)) next first runner base is =
      behind_taking (Takes m (entry.Host i) ∷ []) first (next_may m (entry.Host i) s.core next, tt)
      (subst (λ (q : Queues). Others x s l q t.core.queues) (left_is m (entry.Host i) s.core) (host_rule_moves m i (choice_of l).woken (popped m s.core) is))

pub steps_move_entries : StepsMoveEntries
unfolding StepsMoveEntries Result
steps_move_entries x s l t step = by s.turn refl
  where
    others : (p : Turn) → s.turn ≡ p → taking_by p s.core ≡ [] → ((ended : Bool) → p ≡ turn.Take ended → ⊥) → ((next : Turn) → start_of (scene_of x s l next) s.core ≡ s.core) → Result x s l t
    others p is none apart start = behind_taking x s l t [] (ap (λ (u : Turn). taking_by u s.core) is ∙ none) tt
        (walks x s l t step (λ next works. apart works.0.0 (sym is ∙ works.0.1)) s.core start)

    start_at : (p : Turn) → s.turn ≡ p → ((n : ℕ) → option_map_or (λ (k : ℕ). base_at p s.core) (runner_at p s.core) s.core ≡ s.core) → (next : Turn) → start_of (scene_of x s l next) s.core ≡ s.core
    start_at p is plain next = ap (λ (u : Turn). option_map_or (λ (k : ℕ). base_at u s.core) (runner_at u s.core) s.core) is ∙ plain 0

    by : (p : Turn) → s.turn ≡ p → (others : List Move) × MovesBy x s l t others
    by (turn.Take ended) is =
        takes x s l t step (next_entry s.core) refl (ap (λ (u : Turn). taking_by u s.core) is) (ap (λ (u : Turn). runner_at u s.core) is)
        (ap (λ (u : Turn). base_at u s.core) is) (turn_step x s l t step (turn.Take ended) is)
    by turn.Main is = others turn.Main is refl (λ ended e. absurd (cc)) (start_at turn.Main is (λ n. refl))
    by (turn.Futures n) is = others (turn.Futures n) is refl (λ ended e. absurd (cc)) (start_at (turn.Futures n) is (λ n. refl))
    by (turn.Run n) is = others (turn.Run n) is refl (λ ended e. absurd (cc)) (start_at (turn.Run n) is (λ n. refl))
    by turn.Over is = others turn.Over is refl (λ ended e. absurd (cc)) (start_at turn.Over is (λ n. refl))
