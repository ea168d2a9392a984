-- The first thread of a call that waits for its start is there, along the primitives of a step that doesn't end the turns.
use Rattle.laws_states.proofs.Primitives.{add_call, add_group, add_set, add_thread, add_work, after_primitive, Allowed, along, arith, by_number, Call, call_came, call_made, CallAfter, CallsTold, Core, count_work, Departs, EndsOver, Unwinds, free_handle, free_thread_handle, get, get-change, get-insert, get-remove, give_handle, give_result, give_thread_handle, inl, inr, is_over, is_some, is_there, is_unbegun, IsNamed, MakeCall, MayGo, nat_tests, next_thread, None, on_call, on_instance, on_thread, on_work, Option, Place, place_of, Places, placing_shifted, poll_pends, popped_threads, push_high, refl, remove_call, remove_group, remove_set, remove_thread, remove_work, RemoveThread, SaysEnd, Scene, set_backpressure, set_cancel_delivered, set_cancelled, set_course, set_do_not_enter, set_do_not_suspend, set_end, set_event, set_exited, set_op_progress, set_join, set_task_event, set_phase, set_position, set_register, set_result, set_saved_callee, set_saved_own, set_script, set_stage, set_started, set_starting_published, set_subtask_handle, set_thread_handle, set_trapped, set_uninteresting, set_memory_cell, Some, StartsAwaited, Status, Subtask, take_result, TakeHost, TakePush, too_high, true, Turn, with_handle, with_thread_handle, Withdraw, Primitive, work_queued, Writes, WritesAtOnce, WritesCall, WritesNever, WritesPolled, ℕ, ⊎_elim, ◌≡◌, ◌≤◌, ◌⊎◌}
use Rattle.laws_states.proofs.StepEnds.{over_primitive}
unfoldable use Rattle.machine_data.specs.Write.{arrive, set_cancel_asked}

-- who is there stays, is gone, or is withdrawn
there_primitive : (a : Scene) (w : Primitive) (s : Core) → Allowed a w s → (k : ℕ) → is_there k s ≡ true →
    (is_there k (after_primitive w s) ≡ true) ⊎ ((w ≡ RemoveThread k) ⊎ (w ≡ Withdraw k))
unfolding arrive set_cancel_asked add_call add_group add_set add_thread add_work call_made count_work free_handle free_thread_handle give_handle give_result give_thread_handle on_call on_instance on_thread on_work poll_pends push_high remove_call remove_group remove_set remove_thread remove_work set_backpressure set_cancel_delivered set_cancelled set_course set_do_not_enter set_do_not_suspend set_end set_event set_exited set_op_progress set_join set_task_event set_phase set_position set_register set_result set_saved_callee set_saved_own set_script set_stage set_started set_starting_published set_subtask_handle set_thread_handle set_trapped set_uninteresting set_memory_cell take_result with_handle with_thread_handle work_queued
there_primitive a (Places p) s ok k h = inl (grind (arith, (placing_shifted p s).threads k))
there_primitive a (TakePush m i) s ok k h = inl (rw (popped_threads m s) h)
there_primitive a (TakeHost m i) s ok k h = inl (rw (popped_threads m s) h)
there_primitive a (RemoveThread j) s ok k h =
    by_number k j _ (λ e. inr (inl (rw e refl))) (λ other. inl (grind (arith, nat_tests, get-remove)))
there_primitive a (Withdraw j) s ok k h =
    by_number k j _ (λ e. inr (inr (rw e refl))) (λ other. inl (grind (arith, nat_tests, get-remove)))
there_primitive a w s ok k h = inl (grind (arith, nat_tests, get-change, get-insert))

-- the call is new, or was before the primitive what it is after it
unbegun_came : (a : Scene) (w : Primitive) (s : Core) → Allowed a w s → (k : ℕ) → is_unbegun k (after_primitive w s) ≡ true →
    (is_unbegun k s ≡ true) ⊎ ((k ≡ next_thread s) × (k ≡ next_thread a.base))
unbegun_came a w s ok k now = let i : CallAfter a w s k = call_came w s ok k in grind arith

-- and a new one has its thread
new_there : (a : Scene) (w : Primitive) (s : Core) → Allowed a w s → (k : ℕ) → k ≡ next_thread s → get s.calls k ≡ None →
    is_some (get (after_primitive w s).calls k) ≡ true → is_there k (after_primitive w s) ≡ true
unfolding arrive set_cancel_asked add_call add_group add_set add_thread add_work call_made count_work free_handle free_thread_handle give_handle give_result give_thread_handle on_call on_instance on_thread on_work poll_pends push_high remove_call remove_group remove_set remove_thread remove_work set_backpressure set_cancel_delivered set_cancelled set_course set_do_not_enter set_do_not_suspend set_end set_event set_exited set_op_progress set_join set_task_event set_phase set_position set_register set_result set_saved_callee set_saved_own set_script set_stage set_started set_starting_published set_subtask_handle set_thread_handle set_trapped set_uninteresting set_memory_cell take_result with_handle with_thread_handle work_queued
new_there a (MakeCall f e x g group words) s ok k is none there = grind (arith, nat_tests, get-insert)
new_there a w s ok k is none there = absurd (grind (arith, nat_tests, get-change, get-remove))

-- the call was made before the step, whose label says that its start is withdrawn
abbrev IsWithdrawing : Scene → ℕ → Type 0
IsWithdrawing a k = (k ≤ a.base.made.threads) × SaysEnd a k Status.StartCancelled

-- On the way of a step: a call whose start hasn't run was so before it, or is new; and its first thread is there, or its start is withdrawn,
-- or the turns end.
pub record StartsGo (a : Scene) (s : Core) : Type 0 where
  pub was : (k : ℕ) → is_unbegun k s ≡ true → (is_unbegun k a.base ≡ true) ⊎ (k ≡ next_thread a.base)
  pub there : (k : ℕ) → is_unbegun k s ≡ true → (is_there k s ≡ true) ⊎ ((a.next ≡ Turn.Over) ⊎ IsWithdrawing a k)

module _ (a : Scene) (runs : (n : ℕ) → a.turn ≡ Turn.Run n → place_of n a.base ≡ Some Place.Running)
    (given : (n : ℕ) → is_there n a.base ≡ true → n ≤ a.base.made.threads) (starts : StartsAwaited a.base)
    (named : (k : ℕ) → IsNamed a (Subtask.Guest k) → k ≤ a.base.made.threads) where
  -- no running thread waits for its start
  never : (k : ℕ) → a.turn ≡ Turn.Run k → (is_unbegun k a.base ≡ true) ⊎ (k ≡ next_thread a.base) → ⊥
  never k to (inl was) = go (get a.base.calls k) refl was
    where
      go : (o : Option Call) → get a.base.calls k ≡ o → is_unbegun k a.base ≡ true → ⊥
      go None at was = absurd (grind arith)
      go (Some c) at was = let fresh = starts k c at in let r = runs k to in absurd (grind arith)
  never k to (inr new) = let r = runs k to in let low = given k in absurd (grind arith)

  gone : (k : ℕ) (s : Core) → MayGo a k s → (is_unbegun k a.base ≡ true) ⊎ (k ≡ next_thread a.base) → a.next ≡ Turn.Over
  gone k s (Departs leave) was = absurd (never k leave.1.1 was)
  gone k s (EndsOver m is runs to under) was = absurd (never k runs was)
  gone k s (Unwinds over who) was = over

  pub starts_primitive : (w : Primitive) (s : Core) → Allowed a w s → ((k : ℕ) → is_some (get s.calls k) ≡ true → k ≤ s.made.threads) → StartsGo a s →
      StartsGo a (after_primitive w s)
  starts_primitive w s ok low q = record {
    was = λ k now. ⊎_elim (q.was k) (λ new. inr new.1) (unbegun_came a w s ok k now);
    there = λ k now. ⊎_elim (λ before. ⊎_elim (stays k before) inr (q.there k before))
        (λ new. inl (new_there a w s ok k new.0 (let l = low k in grind arith) (grind arith))) (unbegun_came a w s ok k now);
  }
    where
      stays : (k : ℕ) → is_unbegun k s ≡ true → is_there k s ≡ true →
          (is_there k (after_primitive w s) ≡ true) ⊎ ((a.next ≡ Turn.Over) ⊎ IsWithdrawing a k)
      stays k before there = ⊎_elim inl (⊎_elim (λ e. inr (inl (gone k s (rw e at ok) (q.was k before)))) (λ e. inr (inr (withdrawn (rw e at ok)))))
          (there_primitive a w s ok k there)
        where
          withdrawn : Allowed a (Withdraw k) s → IsWithdrawing a k
          withdrawn (may, says) = (named k may.1.1.0, says.0)

-- whose end the step writes has begun, or ended
module _ (a : Scene) (t : Core) (told : CallsTold a.base) where
  pub writes_over : (k : ℕ) → k ≤ a.base.made.threads → (is_unbegun k a.base ≡ true) ⊎ (k ≡ next_thread a.base) → (sub : Subtask) →
      sub ≡ Subtask.Guest k → Writes a t sub → is_unbegun k t ≡ true → ⊥
  writes_over k below was _ is (WritesCall j u end over walk) now =
      let same : j ≡ k = cc in
      let last = along (λ c. is_over k c ≡ true) (over_primitive a k below) (rw same at over) walk in absurd (grind arith)
  writes_over k below was _ is (WritesNever sub e) now =
      let ended = told k Status.StartCancelled (rw is at e) in
      ⊎_elim (λ unbegun. absurd (grind arith)) (λ new. too_high new below) was
  writes_over k below was _ is (WritesPolled i label polled ends frees) now = absurd (cc)
  writes_over k below was _ is (WritesAtOnce i ready) now = absurd (cc)
