-- Which host works have ended on the way of a step: those that had ended before, those whose entry is taken, and those that are polled to
-- their end and are of no async call.
use Rattle.laws_states.proofs.Primitives.{add_call, add_group, add_set, add_thread, add_work, after_primitive, Allowed, ap, arith, by_number, call_made, Core, count_work, EndWork, false, free_handle, free_thread_handle, get, get-change, get-insert, get-remove, give_handle, give_result, give_thread_handle, host_label, host_taken, op_progress_of, OpProgress, inl, inr, is_async_work, is_stage_ended, IsRunner, Label, le_trans, LoopLabel, made_works_primitive, Mark, MayRemoveWork, nat_tests, None, on_call, on_instance, on_thread, on_work, Option, poll_pends, push_high, QueueWork, refl, remove_call, remove_group, remove_set, remove_thread, remove_work, RemoveWork, Scene, set_backpressure, set_cancel_delivered, set_cancelled, set_course, set_do_not_enter, set_do_not_suspend, set_end, set_event, set_exited, set_op_progress, set_join, set_task_event, set_phase, set_position, set_register, set_result, set_saved_callee, set_saved_own, set_script, set_stage, set_started, set_starting_published, set_subtask_handle, set_thread_handle, set_trapped, set_uninteresting, set_memory_cell, Some, stage_of, Subtask, take_result, TakeHost, true, with_handle, with_thread_handle, Primitive, Work, work_caller_of, work_queued, ℕ, ⊎_elim, ◌∙◌, ◌≡◌, ◌≤◌, ◌⊎◌}
use Rattle.laws_states.proofs.KnownWorks.{caller_stays, none_stays}
unfoldable use Rattle.machine_data.specs.Write.{arrive, set_cancel_asked}

shown_taken : (m : Mark) (i : ℕ) (w : Option ℕ) → host_taken (host_label m i w) ≡ Some i
shown_taken m i None = refl
shown_taken m i (Some n) = refl

module _ (a : Scene)
    (asked : (m i : ℕ) → IsRunner a m → op_progress_of m a.base ≡ OpProgress.Calls (Subtask.Host i) → is_stage_ended (stage_of i a.base) ≡ true) (i : ℕ) where
  -- the work had ended as the step began, or its entry is taken, or it is polled to its end and isn't of an async call
  abbrev pub HasCome : Type 0
  HasCome = (is_stage_ended (stage_of i a.base) ≡ true) ⊎ ((host_taken a.label ≡ Some i) ⊎
      ((a.label ≡ Label.Loop (LoopLabel.FutureEnds i)) × (is_async_work (work_caller_of i a.base) ≡ false)))

  -- On the way of a step.
  pub record Coming (s : Core) : Type 0 where
    pub made : i ≤ s.made.works
    pub caller : (get s.works i ≡ None) ⊎ (work_caller_of i s ≡ work_caller_of i a.base)
    pub ended : is_stage_ended (stage_of i s) ≡ true → HasCome

  removed_come : (s : Core) → MayRemoveWork a i s → (is_stage_ended (stage_of i s) ≡ true → HasCome) → HasCome
  removed_come s ok q = ⊎_elim (λ far. inl (asked ok.0 i ok.1.0 far.0)) (λ e. q e.1.1.0) ok.1.1.1

  come_primitive : (w : Primitive) (s : Core) → Allowed a w s → Coming s → is_stage_ended (stage_of i (after_primitive w s)) ≡ true → HasCome
  unfolding arrive set_cancel_asked add_call add_group add_set add_thread add_work count_work free_handle free_thread_handle give_handle give_result give_thread_handle on_call on_instance on_thread on_work push_high remove_call remove_group remove_set remove_thread remove_work set_backpressure set_cancel_delivered set_cancelled set_course set_do_not_enter set_do_not_suspend set_end set_event set_exited set_op_progress set_join set_task_event set_phase set_position set_register set_result set_saved_callee set_saved_own set_script set_stage set_started set_starting_published set_subtask_handle set_thread_handle set_trapped set_uninteresting set_memory_cell take_result call_made with_handle with_thread_handle work_queued poll_pends
  come_primitive (TakeHost m j) s ok q e = by_number i j _ (λ same. inr (inl (rw same (ap host_taken ok.1.1.0 ∙ shown_taken m j ok.1.0))))
      (λ other. q.ended (grind (arith, nat_tests, get-change, other, e)))
  come_primitive (EndWork j c) s ok q e = by_number i j _ (λ same. by (get s.works i) refl same)
      (λ other. q.ended (grind (arith, nat_tests, get-change, other, e)))
    where
      by : (o : Option Work) → get s.works i ≡ o → i ≡ j → HasCome
      by None none same = q.ended (grind (arith, none))
      by (Some v) at same = inr (inr (rw same ok.0.1.0, let own = q.caller in let alone = ok.1 in grind (arith, own, at, same, alone)))
  come_primitive (RemoveWork j) s ok q e = by_number i j _ (λ same. removed_come s (rw same ok) q.ended)
      (λ other. q.ended (grind (arith, nat_tests, get-remove, other, e)))
  come_primitive (QueueWork f host group) s ok q e = let below = q.made in q.ended (grind (arith, nat_tests, get-insert, below, e))
  come_primitive w s ok q e = q.ended (grind (arith, nat_tests, get-change, e))

  caller_primitive : (w : Primitive) (s : Core) → Allowed a w s → Coming s → (get (after_primitive w s).works i ≡ None) ⊎ (work_caller_of i (after_primitive w s) ≡ work_caller_of i a.base)
  caller_primitive w s ok q = ⊎_elim (λ none. gone_or none) (λ own. ⊎_elim (λ same. inr (same ∙ own)) (λ gone. inl gone.1) (caller_stays a w s ok i q.made)) q.caller
    where
      gone_or : get s.works i ≡ None → (get (after_primitive w s).works i ≡ None) ⊎ (work_caller_of i (after_primitive w s) ≡ work_caller_of i a.base)
      gone_or none = inl (none_stays a w s ok i q.made none)

  pub coming_primitive : (w : Primitive) (s : Core) → Allowed a w s → Coming s → Coming (after_primitive w s)
  coming_primitive w s ok q = record {
    made = le_trans q.made (made_works_primitive a w s);
    caller = caller_primitive w s ok q;
    ended = come_primitive w s ok q;
  }
