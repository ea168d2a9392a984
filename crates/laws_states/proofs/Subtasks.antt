-- Each call that a handle names, or that an op under way is about, was made as a call: along the primitives of a step.
use Rattle.machine_data.specs.declared.scenario.Version.{Version}
use Rattle.laws_states.proofs.Primitives.{add_call, add_group, add_set, add_thread, add_work, after_primitive, Allowed, ap, arith, as_subtask, ByHandle, ByOp, call_made, CallsNamed, cancels_own, change, CloseSet, Core, count_work, free_handle, free_thread_handle, fresh, get-change, get-empty, get-remove, give_handle, give_result, give_thread_handle, given_names, giving, HasSubtask, OpProgress, IfSome, inl, inr, IsNew, le_trans, made_threads_primitive, made_works_primitive, MayCome, NameCall, Named, named_by, NameWork, nat_tests, none_named, on_call, on_instance, on_thread, on_work, op_came, OpenSet, option_and_then, poll_pends, push_high, refl, remove_call, remove_group, remove_set, remove_thread, remove_work, Scene, set_backpressure, set_cancel_delivered, set_cancelled, set_course, set_do_not_enter, set_do_not_suspend, set_end, set_event, set_exited, set_op_progress, set_join, set_task_event, set_phase, set_position, set_register, set_result, set_saved_callee, set_saved_own, set_script, set_stage, set_started, set_starting_published, set_subtask_handle, set_thread_handle, set_trapped, set_uninteresting, set_memory_cell, Some, Subtask, subtask_at, subtask_under_way, take_result, Thread, thread_came, ThreadAfter, UnnameCall, UnnameWork, WasCall, with_handle, with_thread_handle, Primitive, work_queued, WorksNamed, ℕ, ⊎_elim, ◌+◌, ◌≡◌, ◌≤◌, ◌⊎◌}
unfoldable use Rattle.machine_data.specs.Write.{arrive, set_cancel_asked}

-- a subtask of the thread, or a new one
abbrev Known : Scene → Core → Subtask → Type 0
Known a s sub = (n : ℕ) × (HasSubtask a n sub ⊎ IsNew a sub s)

-- this primitive names it
abbrev pub NamedNow : Scene → Core → Subtask → Type 0
NamedNow a s (Subtask.Guest k) = (j : ℕ) × Allowed a (NameCall j k) s
NamedNow a s (Subtask.Host i) = (j : ℕ) × Allowed a (NameWork j i) s

module _ (a : Scene) (s : Core) where
  given_named : (j : ℕ) (nm : Named) (i h : ℕ) (sub : Subtask) → IfSome (as_subtask nm) (NamedNow a s) →
      option_and_then as_subtask (named_by (change j (giving nm) s.handles) i h) ≡ Some sub → (subtask_at i h s ≡ Some sub) ⊎ NamedNow a s sub
  given_named j nm i h sub ok e = ⊎_elim (λ e. inl e) (λ e. inr (rw e.0 at ok)) (given_names as_subtask s.handles j nm i h sub e)

  pub handle_named : (w : Primitive) → Allowed a w s → (i h : ℕ) (sub : Subtask) → subtask_at i h (after_primitive w s) ≡ Some sub → (subtask_at i h s ≡ Some sub) ⊎ NamedNow a s sub
  unfolding arrive set_cancel_asked on_thread add_group add_set add_work count_work free_handle free_thread_handle give_handle give_result give_thread_handle on_call on_instance on_work push_high remove_call remove_group remove_set remove_work remove_thread set_backpressure set_cancel_delivered set_cancelled set_course set_do_not_enter set_do_not_suspend set_end set_event set_exited set_op_progress set_join set_task_event set_phase set_position set_register set_result set_saved_callee set_saved_own set_script set_stage set_started set_starting_published set_subtask_handle set_thread_handle set_trapped set_uninteresting set_memory_cell take_result call_made add_call add_thread with_handle with_thread_handle work_queued poll_pends
  handle_named (NameCall j k) ok i h sub e = given_named j (Named.Subtask (Subtask.Guest k)) i h sub (j, ok) e
  handle_named (NameWork j k) ok i h sub e = given_named j (Named.Subtask (Subtask.Host k)) i h sub (j, ok) e
  handle_named (OpenSet j) ok i h sub e = given_named j (Named.Set (s.made.sets + 1)) i h sub tt e
  handle_named (UnnameCall j g k) ok i h sub e = inl (grind (arith, nat_tests, get-change, get-remove))
  handle_named (UnnameWork j g k) ok i h sub e = inl (grind (arith, nat_tests, get-change, get-remove))
  handle_named (CloseSet j g x) ok i h sub e = inl (grind (arith, nat_tests, get-change, get-remove))
  handle_named w ok i h sub e = inl e

  named_known : (sub : Subtask) → NamedNow a s sub → Known a s sub
  named_known (Subtask.Guest k) now = (now.1.0, inl (ByOp (ap (λ f. subtask_under_way f) now.1.1.1.1.0)))
  named_known (Subtask.Host i) now = (now.1.0.0, now.1.0.1.1.1)

  come_known : (n : ℕ) (f : OpProgress) → MayCome a n f s → IfSome (subtask_under_way f) (Known a s)
  come_known n (OpProgress.Calls (Subtask.Guest k)) (is, inl was) = (n, inl (ByOp (ap (λ f. subtask_under_way f) was.0)))
  come_known n (OpProgress.Calls (Subtask.Guest k)) (is, inr new) = (n, inr new.0)
  come_known n (OpProgress.Calls (Subtask.Host i)) ok = (n, inr ok.1.0)
  come_known n (OpProgress.Cancels sub) ok = (n, inl (cancels_own a n sub ok.1.0))
  come_known n (OpProgress.AwaitsEnd sub) ok = (n, inl (cancels_own a n sub ok.1.0))
  come_known n f ok = tt

was_primitive : (a : Scene) (w : Primitive) (s : Core) → Allowed a w s → (k : ℕ) → WasCall s k → WasCall (after_primitive w s) k
was_primitive a w s ok k h =
    let i : ThreadAfter a w s k = thread_came w s ok k in
    let m = made_threads_primitive a w s in
    grind arith

-- On the way of a step: what was made as a call before it was so still.
pub record Traced (a : Scene) (s : Core) : Type 0 where
  pub was : (k : ℕ) → WasCall a.base k → WasCall s k
  pub named : CallsNamed s

module _ (a : Scene) (known : CallsNamed a.base) (s : Core) (q : Traced a s) where
  known_made : (k : ℕ) → Known a s (Subtask.Guest k) → WasCall s k
  known_made k (n, inl (ByHandle h e)) = q.was k (known.by_handle _ h k e)
  known_made k (n, inl (ByOp e)) = q.was k (known.by_op n k e)
  known_made k (n, inr new) = record { number = grind arith; first = new.1.1 }

  pub traced_primitive : (w : Primitive) → Allowed a w s → Traced a (after_primitive w s)
  traced_primitive w ok = record {
    was = λ k h. was_primitive a w s ok k (q.was k h);
    named = record {
      by_handle = λ i h k e. was_primitive a w s ok k (⊎_elim (q.named.by_handle i h k) (λ now. known_made k (named_known a s (Subtask.Guest k) now)) (handle_named a s w ok i h (Subtask.Guest k) e));
      by_op = λ n k e. was_primitive a w s ok k (⊎_elim (q.named.by_op n k) (λ g. known_made k (rw g.1.1 at (come_known a s n g.0 g.1.0))) (op_came (λ f. subtask_under_way f) (Subtask.Guest k) w s ok n refl e));
    };
  }

-- a work of the thread's was made
work_known : (a : Scene) (s : Core) → WorksNamed a.base → a.base.made.works ≤ s.made.works → (j : ℕ) → Known a s (Subtask.Host j) → j ≤ s.made.works
work_known a s known more j (n, inl (ByHandle h e)) = le_trans (known.by_handle _ h j e) more
work_known a s known more j (n, inl (ByOp e)) = le_trans (known.by_op n j e) more
work_known a s known more j (n, inr new) = grind arith

pub works_named_primitive : (a : Scene) → WorksNamed a.base → (w : Primitive) (s : Core) → Allowed a w s → a.base.made.works ≤ s.made.works → WorksNamed s →
    WorksNamed (after_primitive w s)
works_named_primitive a known w s ok more q = record {
  by_handle = λ i h j e. le_trans (⊎_elim (q.by_handle i h j) (λ now. work_known a s known more j (named_known a s (Subtask.Host j) now)) (handle_named a s w ok i h (Subtask.Host j) e)) (made_works_primitive a w s);
  by_op = λ n j e. le_trans (⊎_elim (q.by_op n j) (λ g. work_known a s known more j (rw g.1.1 at (come_known a s n g.0 g.1.0))) (op_came (λ f. subtask_under_way f) (Subtask.Host j) w s ok n refl e)) (made_works_primitive a w s);
}

pub opening_named : (rules : Version) (instances handle_limit capacity : ℕ) → CallsNamed (fresh rules instances handle_limit capacity)
unfolding fresh
opening_named rules instances handle_limit capacity = record {
  by_handle = λ i h k e. let n = none_named instances i h in absurd (cc);
  by_op = λ n k e. let o = get-empty {X = Thread} n in absurd (cc);
}

pub opening_works_named : (rules : Version) (instances handle_limit capacity : ℕ) → WorksNamed (fresh rules instances handle_limit capacity)
unfolding fresh
opening_works_named rules instances handle_limit capacity = record {
  by_handle = λ i h j e. let n = none_named instances i h in absurd (cc);
  by_op = λ n j e. let o = get-empty {X = Thread} n in absurd (cc);
}
