-- A subtask that an op cancels is in the thread's own set, along the primitives of a step.
use Rattle.laws_states.proofs.Primitives.{add_call, add_group, add_set, add_thread, add_work, AddGroup, after_primitive, Allowed, arith, Bool, by_number, call_made, CallsNamed, cancelled_by, CancelsWatched, Core, count_work, false, free_handle, free_thread_handle, get-change, get-insert, get-remove, give_handle, give_result, give_thread_handle, op_progress_of, OpProgress, inl, inr, Join, join_of, MakeCall, MayCome, MayJoin, nat_tests, on_call, on_instance, on_thread, on_work, op_came, poll_pends, push_high, Queues, QueueWork, refl, remove_call, remove_group, remove_set, remove_thread, remove_work, Scene, set_backpressure, set_cancel_delivered, set_cancelled, set_course, set_do_not_enter, set_do_not_suspend, set_end, set_event, set_exited, set_op_progress, set_join, set_task_event, set_phase, set_position, set_register, set_result, set_saved_callee, set_saved_own, set_script, set_stage, set_started, set_starting_published, set_subtask_handle, set_thread_handle, set_trapped, set_uninteresting, set_memory_cell, SetCallJoin, SetWorkJoin, Some, Subtask, subtask_under_way, take_result, true, watches, with_handle, with_thread_handle, Primitive, work_queued, WorksNamed, ℕ, ⊎_elim, ◌≡◌, ◌⊎◌}
unfoldable use Rattle.machine_data.specs.Write.{arrive, set_cancel_asked}

-- who watches the subtask: it is gone, or in the thread's own set
watches_is : (n : ℕ) (sub : Subtask) (s : Core) → watches n sub s ≡ true → (join_of sub s ≡ Join.Watched n) ⊎ ((m : ℕ) → watches m sub s ≡ true × (join_of sub s ≡ Join.Nowhere))
watches_is n sub s h = grind (arith, nat_tests)

-- the primitive makes or joins a subtask
abbrev is_joining : Primitive → Bool
is_joining (SetCallJoin k j) = true
is_joining (SetWorkJoin i j) = true
is_joining (MakeCall f e x g group words) = true
is_joining (QueueWork f host group) = true
is_joining _ = false

watches_kept : (w : Primitive) (s : Core) (n : ℕ) (sub : Subtask) → is_joining w ≡ false → watches n sub s ≡ true → watches n sub (after_primitive w s) ≡ true
unfolding arrive set_cancel_asked add_call add_group add_set add_thread add_work count_work free_handle free_thread_handle give_handle give_result give_thread_handle on_call on_instance on_thread on_work push_high remove_call remove_group remove_set remove_thread remove_work set_backpressure set_cancel_delivered set_cancelled set_course set_do_not_enter set_do_not_suspend set_end set_event set_exited set_op_progress set_join set_task_event set_phase set_position set_register set_result set_saved_callee set_saved_own set_script set_stage set_started set_starting_published set_subtask_handle set_thread_handle set_trapped set_uninteresting set_memory_cell take_result call_made with_handle with_thread_handle work_queued poll_pends
watches_kept AddGroup s n (Subtask.Guest k) other h = h
watches_kept AddGroup s n (Subtask.Host i) other h = h
watches_kept w s n (Subtask.Guest k) other h = first_of (assumption, grind (arith, nat_tests, get-change, get-remove))
watches_kept w s n (Subtask.Host i) other h = first_of (assumption, grind (arith, nat_tests, get-change, get-remove))

module _ (a : Scene) (known : CancelsWatched a.base) where
  -- where the join of a subtask is changed that an op cancels, it is that op's
  joined_same : (s : Core) (sub : Subtask) (j : Join) → MayJoin a sub j s → (m : ℕ) → cancelled_by (op_progress_of m s) ≡ Some sub →
      join_of sub s ≡ Join.Watched m → j ≡ Join.Watched m
  joined_same s sub Join.Nowhere (n, (is, (has, inl apart))) m far at = absurd (grind arith)
  joined_same s sub Join.Nowhere (n, (is, (has, inr (cancels, (fresh, same))))) m far at =
      let was : cancelled_by (op_progress_of n a.base) ≡ Some sub = grind arith in
      ⊎_elim (λ e. let one : n ≡ m = grind arith in absurd (let gone = rw one at fresh in grind arith)) (λ gone. let none = (gone n).1 in absurd (grind arith))
      (watches_is n sub a.base (known n sub was))
  joined_same s sub (Join.Set y) ok m far at = let apart = ok.1.1.1.1.1.1.0 in absurd (grind arith)
  joined_same s sub (Join.Watched n) (is, (has, (inl free, same))) m far at = absurd (grind arith)
  joined_same s sub (Join.Watched n) (is, (has, (inr cancels, same))) m far at =
      let was : cancelled_by (op_progress_of n a.base) ≡ Some sub = grind arith in
      ⊎_elim (λ e. grind arith) (λ gone. let none = (gone n).1 in absurd (grind arith)) (watches_is n sub a.base (known n sub was))

  join_watched : (s : Core) (sub : Subtask) (j : Join) → MayJoin a sub j s → (m : ℕ) (d : Subtask) → cancelled_by (op_progress_of m s) ≡ Some d →
      watches m d s ≡ true → watches m d (set_join sub j s) ≡ true
  unfolding set_join on_call on_work
  join_watched s (Subtask.Guest k) j ok m (Subtask.Guest q) far h = by_number q k _ (λ e.
      ⊎_elim (λ at. let is = joined_same s (Subtask.Guest k) j ok m (rw e at far) (rw e at at) in grind (arith, nat_tests, get-change)) (λ gone. let w = gone m in grind (arith, nat_tests, get-change))
      (watches_is m (Subtask.Guest q) s h)) (λ other. grind (arith, nat_tests, get-change))
  join_watched s (Subtask.Host i) j ok m (Subtask.Host q) far h = by_number q i _ (λ e.
      ⊎_elim (λ at. let is = joined_same s (Subtask.Host i) j ok m (rw e at far) (rw e at at) in grind (arith, nat_tests, get-change)) (λ gone. let w = gone m in grind (arith, nat_tests, get-change))
      (watches_is m (Subtask.Host q) s h)) (λ other. grind (arith, nat_tests, get-change))
  join_watched s (Subtask.Guest k) j ok m (Subtask.Host q) far h = h
  join_watched s (Subtask.Host i) j ok m (Subtask.Guest q) far h = h

  come_watched : (s : Core) (m : ℕ) (g : OpProgress) (sub : Subtask) → MayCome a m g s → cancelled_by g ≡ Some sub → watches m sub s ≡ true
  come_watched s m (OpProgress.Cancels d) sub ok is = grind arith
  come_watched s m (OpProgress.AwaitsEnd d) sub ok is = grind arith
  come_watched s m g sub ok is = absurd (grind arith)

  pub watched_primitive : (w : Primitive) (s : Core) → Allowed a w s → CallsNamed s → WorksNamed s → CancelsWatched s → CancelsWatched (after_primitive w s)
  unfolding call_made add_call add_thread work_queued push_high add_work count_work set_join on_call on_work
  watched_primitive (SetCallJoin k j) s ok calls works q m sub far = join_watched s (Subtask.Guest k) j ok m sub far (q m sub far)
  watched_primitive (SetWorkJoin i j) s ok calls works q m sub far = join_watched s (Subtask.Host i) j ok m sub far (q m sub far)
  watched_primitive (MakeCall f e x g group words) s ok calls works q m sub far =
      let was : cancelled_by (op_progress_of m s) ≡ Some sub = grind (arith, nat_tests, get-insert) in
      let h = q m sub was in let low = λ (k : ℕ) (e : subtask_under_way (op_progress_of m s) ≡ Some (Subtask.Guest k)). (calls.by_op m k e).number in grind (arith, nat_tests, get-insert)
  watched_primitive (QueueWork f host group) s ok calls works q m sub far =
      let h = q m sub far in let low = works.by_op m in grind (arith, nat_tests, get-insert)
  watched_primitive w s ok calls works q m sub far =
      watches_kept w s m sub refl (⊎_elim (q m sub) (λ g. come_watched s m g.0 sub g.1.0 g.1.1) (op_came cancelled_by sub w s ok m refl far))

-- entries say nothing of it
pub queued_watched : (q : Queues) (s : Core) → CancelsWatched s → CancelsWatched (record s { queues = q })
queued_watched q s h n (Subtask.Guest k) far = h n (Subtask.Guest k) far
queued_watched q s h n (Subtask.Host i) far = h n (Subtask.Host i) far
