-- Which host works handles name, and that none names the work of a sync call, along the primitives of a step.
use Rattle.machine_data.specs.declared.scenario.Version.{Version}
use Rattle.laws_states.proofs.Primitives.{add_call, add_group, add_set, add_thread, add_work, after_primitive, Allowed, ap, arith, as_subtask, by_number, call_made, change, Core, count_work, free_handle, free_thread_handle, fresh, get, get-change, get-empty, get-insert, get-remove, give_handle, give_result, give_thread_handle, given_names, giving, handle_of_table, op_progress_of, OpProgress, inl, inr, is_async_work, is_some, le_trans, made_works_primitive, MayBeAborted, MayCome, MayRemoveWork, Named, NameWork, nat_tests, next_work, None, none_named, on_call, on_instance, on_thread, on_work, op_came, Option, poll_pends, push_high, QueueWork, refl, remove_call, remove_group, remove_set, remove_thread, remove_work, RemoveWork, Scene, set_backpressure, set_cancel_delivered, set_cancelled, set_course, set_do_not_enter, set_do_not_suspend, set_end, set_event, set_exited, set_op_progress, set_join, set_task_event, set_phase, set_position, set_register, set_result, set_saved_callee, set_saved_own, set_script, set_stage, set_started, set_starting_published, set_subtask_handle, set_thread_handle, set_trapped, set_uninteresting, set_memory_cell, Some, Subtask, subtask_at, subtask_handle, subtask_in, take_result, taking, Thread, too_high, true, UnnameWork, with_handle, with_thread_handle, Primitive, work_caller_of, work_queued, WorkCaller, WorksKnown, ℕ, ⊎_elim, ◌∙◌, ◌≡◌, ◌≤◌, ◌⊎◌}
use Rattle.laws_states.proofs.NamedCalls.{next_given}
unfoldable use Rattle.machine_data.specs.Write.{arrive, set_cancel_asked}

-- ---- Who calls a work

-- who calls a work stays until it is removed
pub caller_stays : (a : Scene) (w : Primitive) (s : Core) → Allowed a w s → (i : ℕ) → i ≤ s.made.works →
    (work_caller_of i (after_primitive w s) ≡ work_caller_of i s) ⊎ (MayRemoveWork a i s × (get (after_primitive w s).works i ≡ None))
unfolding arrive set_cancel_asked add_call add_group add_set add_thread add_work count_work free_handle free_thread_handle give_handle give_result give_thread_handle on_call on_instance on_thread on_work push_high remove_call remove_group remove_set remove_thread remove_work set_backpressure set_cancel_delivered set_cancelled set_course set_do_not_enter set_do_not_suspend set_end set_event set_exited set_op_progress set_join set_task_event set_phase set_position set_register set_result set_saved_callee set_saved_own set_script set_stage set_started set_starting_published set_subtask_handle set_thread_handle set_trapped set_uninteresting set_memory_cell take_result call_made with_handle with_thread_handle work_queued poll_pends
caller_stays a (RemoveWork j) s ok i below = by_number j i _ (λ e. inr (rw e at ok, grind (arith, nat_tests, get-remove)))
    (λ e. inl (grind (arith, nat_tests, get-remove, e)))
caller_stays a w s ok i below = inl (grind (arith, nat_tests, get-change, get-insert))

-- a work that is gone doesn't come back
pub none_stays : (a : Scene) (w : Primitive) (s : Core) → Allowed a w s → (i : ℕ) → i ≤ s.made.works → get s.works i ≡ None →
    get (after_primitive w s).works i ≡ None
unfolding arrive set_cancel_asked add_call add_group add_set add_thread add_work count_work free_handle free_thread_handle give_handle give_result give_thread_handle on_call on_instance on_thread on_work push_high remove_call remove_group remove_set remove_thread remove_work set_backpressure set_cancel_delivered set_cancelled set_course set_do_not_enter set_do_not_suspend set_end set_event set_exited set_op_progress set_join set_task_event set_phase set_position set_register set_result set_saved_callee set_saved_own set_script set_stage set_started set_starting_published set_subtask_handle set_thread_handle set_trapped set_uninteresting set_memory_cell take_result call_made with_handle with_thread_handle work_queued poll_pends
none_stays a w s ok i below none = grind (arith, nat_tests, get-change, get-insert, get-remove, none)

pub abort_kept : (a : Scene) (w : Primitive) (s : Core) → Allowed a w s → (i : ℕ) → MayBeAborted s i → MayBeAborted (after_primitive w s) i
abort_kept a w s ok i q = record {
  made = le_trans q.made (made_works_primitive a w s);
  other = ⊎_elim (λ same. rw same q.other) (λ gone. let none = gone.1 in grind arith) (caller_stays a w s ok i q.made);
}

abbrev called_work : OpProgress → Option ℕ
called_work (OpProgress.Calls (Subtask.Host i)) = Some i
called_work f = None

calls_work : (f : OpProgress) (i : ℕ) → called_work f ≡ Some i → f ≡ OpProgress.Calls (Subtask.Host i)
calls_work f i h = grind arith

-- On the way of a step: what is known of works, whose numbers were given.
pub record WorksSaid (s : Core) : Type 0 where
  pub known : WorksKnown s
  pub number : (j : ℕ) → is_some (get s.works j) ≡ true → j ≤ s.made.works

-- a work that a handle names is no sync call's
pub named_other : (s : Core) → WorksSaid s → (i h j : ℕ) → subtask_at i h s ≡ Some (Subtask.Host j) → MayBeAborted s j
named_other s q i h j e = let async = q.known.async h j (q.known.there i h j e) in let low = q.number j in
    record { made = grind arith; other = grind arith }

module _ (a : Scene) (base : WorksKnown a.base) (w : Primitive) (s : Core) (ok : Allowed a w s) (q : WorksSaid s) where
  -- the work of a thread inside the call isn't removed, nor is a new one
  removed : (n i : ℕ) → work_caller_of i s ≡ WorkCaller.Sync n →
      (op_progress_of n s ≡ OpProgress.Calls (Subtask.Host i)) ⊎ (i ≡ next_work a.base) → MayRemoveWork a i s → ⊥
  removed n i caller (inl far) (m, (is, (same, inl (was, done)))) =
      let mine = (base.called m i was).1 in let one : m ≡ n = grind arith in absurd (let fresh = rw one at done in cc)
  removed n i caller (inr new) (m, (is, (same, inl (was, done)))) = too_high new (base.called m i was).0
  removed n i caller or (m, (is, (same, inr (ended, (free, (over, (h, named))))))) =
      let async = base.async h i (base.there _ h i named) in absurd (grind arith)

  called_after : (n i : ℕ) → op_progress_of n (after_primitive w s) ≡ OpProgress.Calls (Subtask.Host i) →
      (i ≤ (after_primitive w s).made.works) × (work_caller_of i (after_primitive w s) ≡ WorkCaller.Sync n)
  called_after n i far = go (op_came called_work i w s ok n refl (ap called_work far))
    where
      on : (i ≤ s.made.works) × (work_caller_of i s ≡ WorkCaller.Sync n) → (MayRemoveWork a i s → ⊥) →
          (i ≤ (after_primitive w s).made.works) × (work_caller_of i (after_primitive w s) ≡ WorkCaller.Sync n)
      on c not = (le_trans c.0 (made_works_primitive a w s), ⊎_elim (λ e. e ∙ c.1) (λ gone. absurd (not gone.0)) (caller_stays a w s ok i c.0))

      go : (called_work (op_progress_of n s) ≡ Some i) ⊎ ((g : OpProgress) × (MayCome a n g s × (called_work g ≡ Some i))) →
          (i ≤ (after_primitive w s).made.works) × (work_caller_of i (after_primitive w s) ≡ WorkCaller.Sync n)
      go (inl was) = let f = calls_work (op_progress_of n s) i was in let c = q.known.called n i f in on c (removed n i c.1 (inl f))
      go (inr (g, (come, is))) =
          let m = rw (calls_work g i is) at come in on (grind arith, m.1.1.0) (removed n i m.1.1.0 (inr m.1.0.0))

-- a work that is removed has no handle
pub unnamed_removed : (a : Scene) → WorksKnown a.base → (j : ℕ) (s : Core) → WorksKnown s → MayRemoveWork a j s →
    subtask_handle (Subtask.Host j) s ≡ None
unnamed_removed a base j s q (m, (is, (same, inl (far, done)))) =
    let sync = (base.called m j far).1 in let async = λ (h : ℕ). q.async h j in grind (arith, async)
unnamed_removed a base j s q (m, (is, (same, inr ended))) = ended.1.0

pub works_said_primitive : (a : Scene) → WorksKnown a.base → (w : Primitive) (s : Core) → Allowed a w s → WorksSaid s → WorksSaid (after_primitive w s)
unfolding arrive set_cancel_asked add_call add_group add_set add_thread add_work call_made count_work free_handle free_thread_handle give_handle give_result give_thread_handle on_call on_instance on_thread on_work poll_pends push_high remove_call remove_group remove_set remove_thread remove_work set_backpressure set_cancel_delivered set_cancelled set_course set_do_not_enter set_do_not_suspend set_end set_event set_exited set_op_progress set_join set_task_event set_phase set_position set_register set_result set_saved_callee set_saved_own set_script set_stage set_started set_starting_published set_subtask_handle set_thread_handle set_trapped set_uninteresting set_memory_cell take_result with_handle with_thread_handle work_queued
works_said_primitive a base (NameWork i k) s ok q = record {
  known = record {
    there = λ l g j e. ⊎_elim (λ f. old l g j f) (λ f. grind (arith, nat_tests, get-change, f.0, f.1.1, next_given i s)) (new l g j e);
    once = λ l m g f j e h. grind (arith, q.known.once l m g f j, q.known.there l g j, q.known.there m f j, new l g j e, new m f j h);
    async = λ h j e. grind (arith, nat_tests, get-change, q.known.async h j);
    called = called_after a base (NameWork i k) s ok q;
  };
  number = λ j e. grind (arith, nat_tests, get-change, q.number j);
}
  where
    free : subtask_handle (Subtask.Host k) s ≡ None
    free = ok.1.1

    async : is_async_work (work_caller_of k s) ≡ true
    async = ok.1.0

    new : (l g j : ℕ) → subtask_in (change i (giving (Named.Subtask (Subtask.Host k))) s.handles) l g ≡ Some (Subtask.Host j) →
        (subtask_at l g s ≡ Some (Subtask.Host j)) ⊎ ((Some (Subtask.Host k) ≡ Some (Subtask.Host j)) × ((l ≡ i) × (g ≡ handle_of_table s.handles i)))
    new l g j e = given_names as_subtask s.handles i (Named.Subtask (Subtask.Host k)) l g (Subtask.Host j) e

    old : (l g j : ℕ) → subtask_at l g s ≡ Some (Subtask.Host j) → subtask_handle (Subtask.Host j) (after_primitive (NameWork i k) s) ≡ Some g
    old l g j e = let h = q.known.there l g j e in grind (arith, nat_tests, get-change, free)
works_said_primitive a base (UnnameWork i h k) s ok q = record {
  known = record {
    there = λ l g j e. let o = other l g j e in
        grind (arith, nat_tests, get-change, q.known.there l g j o.0, q.known.there i h j, q.known.once l i g h j o.0);
    once = λ l m g f j e d. q.known.once l m g f j (other l g j e).0 (other m f j d).0;
    async = λ g j e. grind (arith, nat_tests, get-change, q.known.async g j);
    called = called_after a base (UnnameWork i h k) s ok q;
  };
  number = λ j e. grind (arith, nat_tests, get-change, q.number j);
}
  where
    other : (l g j : ℕ) → subtask_in (change i (taking h) s.handles) l g ≡ Some (Subtask.Host j) →
        (subtask_at l g s ≡ Some (Subtask.Host j)) × (l ≡ i → g ≡ h → ⊥)
    other l g j e = grind (arith, nat_tests, get-change, get-remove)
works_said_primitive a base (RemoveWork k) s ok q = let free = unnamed_removed a base k s q.known ok in record {
  known = record {
    there = λ l g j e. grind (arith, nat_tests, get-remove, q.known.there l g j);
    once = q.known.once;
    async = λ g j e. grind (arith, nat_tests, get-remove, q.known.async g j);
    called = called_after a base (RemoveWork k) s ok q;
  };
  number = λ j e. grind (arith, nat_tests, get-remove, q.number j);
}
works_said_primitive a base (QueueWork f host group) s ok q = record {
  known = record {
    there = λ l g j e. let low = q.number j in grind (arith, nat_tests, get-insert, q.known.there l g j);
    once = q.known.once;
    async = λ g j e. grind (arith, nat_tests, get-insert, q.known.async g j);
    called = called_after a base (QueueWork f host group) s ok q;
  };
  number = λ j e. grind (arith, nat_tests, get-insert, q.number j);
}
works_said_primitive a base w s ok q = record {
  known = record {
    there = λ l g j e. grind (arith, nat_tests, get-change, get-insert, get-remove, q.known.there l g j);
    once = λ l m g f j e d. grind (arith, nat_tests, get-change, get-insert, get-remove, q.known.once l m g f j);
    async = λ g j e. grind (arith, nat_tests, get-change, q.known.async g j);
    called = called_after a base w s ok q;
  };
  number = λ j e. grind (arith, nat_tests, get-change, q.number j);
}

pub opening_works_known : (rules : Version) (instances handle_limit capacity : ℕ) → WorksKnown (fresh rules instances handle_limit capacity)
unfolding fresh
opening_works_known rules instances handle_limit capacity = record {
  there = λ i h j e. let n = none_named instances i h in absurd (cc);
  once = λ i l h g j e f. let n = none_named instances i h in absurd (cc);
  async = λ h j e. absurd (grind (arith, get-empty));
  called = λ n j far. let o = get-empty {X = Thread} n in absurd (grind arith);
}
