-- Where the end of a subtask is its event: along the primitives of a step.
use Rattle.laws_states.proofs.Primitives.{add_call, add_group, add_set, add_thread, add_work, after_primitive, Allowed, ap, arith, by_number, call_came, call_made, CallAfter, CallEnd, CallsTold, Core, count_work, Doing, doing, EndCall, event_of, free_handle, free_thread_handle, get, get-change, get-insert, get-remove, give_handle, give_result, give_thread_handle, host_label, host_taken, inl, inr, is_told, le_trans, made_threads_primitive, Mark, nat_tests, None, on_call, on_instance, on_thread, on_work, Option, option_map, poll_pends, push_high, refl, remove_call, remove_group, remove_set, remove_thread, remove_work, SaysEnd, Scene, set_backpressure, set_cancel_delivered, set_cancelled, set_course, set_do_not_enter, set_do_not_suspend, set_end, set_event, set_exited, set_op_progress, set_join, set_task_event, set_phase, set_position, set_register, set_result, set_saved_callee, set_saved_own, set_script, set_stage, set_started, set_starting_published, set_subtask_handle, set_thread_handle, set_trapped, set_uninteresting, set_memory_cell, SetCallEvent, Some, Status, status_of_end, subst, Subtask, take_result, TakeHost, true, undelivered_end, with_handle, with_thread_handle, Primitive, Work, work_queued, WorksStand, WorksTold, ℕ, ⊎_elim, ◌≡◌, ◌≤◌, ◌⊎◌}
use Rattle.laws_states.proofs.Works.{WorkHolds, WorksHold}
unfoldable use Rattle.machine_data.specs.Write.{arrive, set_cancel_asked}

pub calls_told_primitive : (a : Scene) (w : Primitive) (s : Core) → Allowed a w s → CallsTold s → CallsTold (after_primitive w s)
unfolding arrive set_cancel_asked add_call add_group add_set add_thread add_work count_work free_handle free_thread_handle give_handle give_result give_thread_handle on_call on_instance on_thread on_work push_high remove_call remove_group remove_set remove_thread remove_work set_backpressure set_cancel_delivered set_cancelled set_course set_do_not_enter set_do_not_suspend set_end set_event set_exited set_op_progress set_join set_task_event set_phase set_position set_register set_result set_saved_callee set_saved_own set_script set_stage set_started set_starting_published set_subtask_handle set_thread_handle set_trapped set_uninteresting set_memory_cell take_result call_made with_handle with_thread_handle work_queued poll_pends
calls_told_primitive a (SetCallEvent j None) s ok q k e h = grind (arith, nat_tests, get-change, q k e)
calls_told_primitive a (SetCallEvent j (Some Status.Starting)) s ok q k e h = grind (arith, nat_tests, get-change, q k e)
calls_told_primitive a (SetCallEvent j (Some Status.Started)) s ok q k e h = grind (arith, nat_tests, get-change, q k e)
calls_told_primitive a (SetCallEvent j (Some _)) s ok q k e h = absurd ok.1.0
calls_told_primitive a w s ok q k e h = grind (arith, nat_tests, get-change, get-insert, get-remove, q k e)

-- this step ends the call, and tells it
abbrev pub TellsEnd : Scene → ℕ → Core → Type 0
TellsEnd a k s = (y : CallEnd) × (SaysEnd a k (status_of_end y) × ((is_told k s ≡ true) × (y ≡ CallEnd.StartCancelled → ⊥)))

pub ends_told_primitive : (a : Scene) (w : Primitive) (s : Core) → Allowed a w s → (k : ℕ) (e : Status) → undelivered_end (event_of (Subtask.Guest k) (after_primitive w s)) ≡ Some e →
    (undelivered_end (event_of (Subtask.Guest k) s) ≡ Some e) ⊎ TellsEnd a k s
unfolding arrive set_cancel_asked add_call add_group add_set add_thread add_work count_work free_handle free_thread_handle give_handle give_result give_thread_handle on_call on_instance on_thread on_work push_high remove_call remove_group remove_set remove_thread remove_work set_backpressure set_cancel_delivered set_cancelled set_course set_do_not_enter set_do_not_suspend set_end set_event set_exited set_op_progress set_join set_task_event set_phase set_position set_register set_result set_saved_callee set_saved_own set_script set_stage set_started set_starting_published set_subtask_handle set_thread_handle set_trapped set_uninteresting set_memory_cell take_result call_made with_handle with_thread_handle work_queued poll_pends
ends_told_primitive a (SetCallEvent j None) s ok k e h = inl (grind (arith, nat_tests, get-change))
ends_told_primitive a (SetCallEvent j (Some Status.Starting)) s ok k e h = inl (grind (arith, nat_tests, get-change))
ends_told_primitive a (SetCallEvent j (Some Status.Started)) s ok k e h = inl (grind (arith, nat_tests, get-change))
ends_told_primitive a (SetCallEvent j (Some _)) s ok k e h = absurd ok.1.0
ends_told_primitive a (EndCall j y) s ok k e h = grind (arith, nat_tests, get-change)
ends_told_primitive a w s ok k e h = inl (grind (arith, nat_tests, get-change, get-insert, get-remove))

-- On the way of a step: whose end is told was told before, and an end that is an event was so before the step, or the step ends the call.
pub record TellingGoes (a : Scene) (s : Core) : Type 0 where
  pub made : a.base.made.threads ≤ s.made.threads
  pub told : (k : ℕ) → k ≤ a.base.made.threads → is_told k s ≡ true → is_told k a.base ≡ true
  pub ends : (k : ℕ) (e : Status) → k ≤ a.base.made.threads → undelivered_end (event_of (Subtask.Guest k) s) ≡ Some e →
      (undelivered_end (event_of (Subtask.Guest k) a.base) ≡ Some e) ⊎ TellsEnd a k a.base

told_primitive : (a : Scene) (w : Primitive) (s : Core) → Allowed a w s → (k : ℕ) → k ≤ s.made.threads → is_told k (after_primitive w s) ≡ true → is_told k s ≡ true
told_primitive a w s ok k below told = let i : CallAfter a w s k = call_came w s ok k in grind arith

pub telling_primitive : (a : Scene) (w : Primitive) (s : Core) → Allowed a w s → TellingGoes a s → TellingGoes a (after_primitive w s)
telling_primitive a w s ok q = record {
  made = le_trans q.made (made_threads_primitive a w s);
  told = λ k below told. q.told k below (told_primitive a w s ok k (le_trans below q.made) told);
  ends = λ k e below h. ⊎_elim (q.ends k e below) (λ now. inr (now.0, (now.1.0, (q.told k below now.1.1.0, now.1.1.1)))) (ends_told_primitive a w s ok k e h);
}

pub taken_label : (a : Scene) (m : Mark) (j : ℕ) (w : Option ℕ) → a.label ≡ host_label m j w → host_taken a.label ≡ Some j
taken_label a m j None is = ap host_taken is
taken_label a m j (Some n) is = ap host_taken is

pub host_event_primitive : (a : Scene) (w : Primitive) (s : Core) → Allowed a w s → (i : ℕ) (e : Status) →
    undelivered_end (event_of (Subtask.Host i) (after_primitive w s)) ≡ Some e →
    (undelivered_end (event_of (Subtask.Host i) s) ≡ Some e) ⊎ (host_taken a.label ≡ Some i)
unfolding arrive set_cancel_asked add_call add_group add_set add_thread add_work count_work free_handle free_thread_handle give_handle give_result give_thread_handle on_call on_instance on_thread on_work push_high remove_call remove_group remove_set remove_thread remove_work set_backpressure set_cancel_delivered set_cancelled set_course set_do_not_enter set_do_not_suspend set_end set_event set_exited set_op_progress set_join set_task_event set_phase set_position set_register set_result set_saved_callee set_saved_own set_script set_stage set_started set_starting_published set_subtask_handle set_thread_handle set_trapped set_uninteresting set_memory_cell take_result call_made with_handle with_thread_handle work_queued poll_pends
host_event_primitive a (TakeHost m j) s ok i e h = by_number i j _ (λ is. inr (rw is (taken_label a m j ok.1.0 ok.1.1.0))) (λ other. inl (grind (arith, nat_tests, get-change, other)))
host_event_primitive a w s ok i e h = inl (grind (arith, nat_tests, get-change, get-insert, get-remove))

-- what is so of works, in the primitives of the laws on them
pub works_hold : (s : Core) → WorksStand (Unit {0}) s → WorksTold s → WorksHold ⊥ s
works_hold s stand told = record {
  stand = record { low = stand.low; number = stand.number; high = λ i why. stand.high i (inr (inl tt)) };
  works = λ i v at. of i v (get s.works i) refl at;
}
  where
    of : (i : ℕ) (v : Doing) (o : Option Work) → get s.works i ≡ o → option_map doing o ≡ Some v → WorkHolds ⊥ v
    of i v None is at = absurd (cc)
    of i v (Some w) is at =
        let t = told i w is in
        let h : WorkHolds ⊥ (doing w) = record { late = t.late; told = t.told; finishing = t.finishing; sync = λ no. absurd no } in
        subst (λ (d : Doing). WorkHolds ⊥ d) (grind arith) h

pub works_told : (s : Core) → WorksHold ⊥ s → WorksTold s
works_told s h i w is = let t = h.works i (doing w) (ap (option_map doing) is) in record { late = t.late; told = t.told; finishing = t.finishing }
