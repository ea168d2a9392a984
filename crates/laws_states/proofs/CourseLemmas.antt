-- Which steps make host works, and which change what a work is still to do.
use Rattle.laws_states.proofs.Primitives.{add_call, add_group, add_set, add_thread, add_work, AddGroup, after_primitive, Allowed, along, ap, arith, base_at, call_made, CallOp, calls_host, CallsHost, Core, count_work, CoursesStay, EndWork, FinishWork, free_handle, free_thread_handle, get, get-change, get-insert, get-remove, give_handle, give_result, give_thread_handle, op_progress_of, OpProgress, inl, inr, insert, is_some, Label, LaterBy, le_refl, le_trans, MadeCounts, made_works_primitive, MakesWork, MayQueue, nat_tests, of_base, on_call, on_instance, on_thread, on_work, Op, op_in, Option, Pend, poll_pends, push_high, queues_work, QueueWork, Records, refl, remove_call, remove_group, remove_set, remove_thread, remove_work, SameCourse, Scene, scene_as, set_backpressure, set_cancel_delivered, set_cancelled, set_course, set_do_not_enter, set_do_not_suspend, set_end, set_event, set_exited, set_op_progress, set_join, set_task_event, set_phase, set_position, set_register, set_result, set_saved_callee, set_saved_own, set_script, set_stage, set_started, set_starting_published, set_subtask_handle, set_thread_handle, set_trapped, set_uninteresting, set_memory_cell, Setting, Spawns, State, subst, Subtask, take_result, true, Turn, with_handle, with_thread_handle, Primitive, Work, work_queued, WorkCaller, WorksAreCalled, ℕ, ⊎_elim, ◌+◌, ◌∙◌, ◌≡◌, ◌≤◌, ◌⊎◌}
unfoldable use Rattle.machine_data.specs.Write.{arrive, set_cancel_asked}

-- ---- What a work is still to do

-- each work that b has is gone, or is to do the same
record Stays (b s : Core) : Type 0 where
  more : b.made.works ≤ s.made.works
  same : (i : ℕ) → i ≤ b.made.works → LaterBy SameCourse (get b.works i) (get s.works i)

stays_same : (b : Core) → Stays b b
stays_same b = record { more = le_refl _; same = λ i below. grind arith }

module _ (a : Scene) (quiet : (n : ℕ) → a.turn ≡ Turn.Futures n → ⊥) (b : Core) where
  course_primitive : (w : Primitive) (s : Core) → Allowed a w s → (i : ℕ) → i ≤ s.made.works → LaterBy SameCourse (get b.works i) (get s.works i) →
      LaterBy SameCourse (get b.works i) (get (after_primitive w s).works i)
  unfolding arrive set_cancel_asked add_call add_group add_set add_thread add_work call_made count_work free_handle free_thread_handle give_handle give_result give_thread_handle on_call on_instance on_thread on_work poll_pends push_high remove_call remove_group remove_set remove_thread remove_work set_backpressure set_cancel_delivered set_cancelled set_course set_do_not_enter set_do_not_suspend set_end set_event set_exited set_op_progress set_join set_task_event set_phase set_position set_register set_result set_saved_callee set_saved_own set_script set_stage set_started set_starting_published set_subtask_handle set_thread_handle set_trapped set_uninteresting set_memory_cell take_result with_handle with_thread_handle work_queued
  course_primitive AddGroup s ok i below q = q
  course_primitive (Pend j host) s ok i below q = absurd (quiet ok.0.0 ok.0.1.0)
  course_primitive (EndWork j c) s ok i below q = absurd (quiet ok.0.0.0 ok.0.0.1.0)
  course_primitive (FinishWork j c) s ok i below q = absurd (quiet ok.0.0.0 ok.0.0.1.0)
  course_primitive w s ok i below q = first_of (assumption, grind (arith, nat_tests, get-change, get-insert, get-remove))

  stays_primitive : (w : Primitive) (s : Core) → Allowed a w s → Stays b s → Stays b (after_primitive w s)
  stays_primitive w s ok q = record {
    more = le_trans q.more (made_works_primitive a w s);
    same = λ i below. course_primitive w s ok i (le_trans below q.more) (q.same i below);
  }

pub courses_stay : CoursesStay
unfolding CoursesStay
courses_stay ops x s l t w quiet i below =
    (along (Stays s.core) (λ v u ok q. stays_primitive (scene_as ops x s l w.next) quiet s.core v u ok q) (stays_same s.core) w.walk).same i below

-- ---- Who makes works

-- why a work is made in the step
abbrev Makes : Scene → Type 0
Makes a = (a.turn ≡ Turn.Main) ⊎ ((n : ℕ) × ((a.turn ≡ Turn.Run n) × (queues_work (op_progress_of n a.base) (op_in a n) ≡ true)))

call_queues : (f : OpProgress) (r q h : ℕ) → queues_work f (Op.Call (CallOp.CallHost r q h)) ≡ true
call_queues (OpProgress.Calls (Subtask.Host i)) r q h = refl
call_queues f r q h = refl

called_queues : (o : Op) → calls_host o ≡ true → (f : OpProgress) → queues_work f o ≡ true
called_queues (Op.Call (CallOp.CallHost r q h)) is f = call_queues f r q h
called_queues o is f = absurd (cc)

makes_of : (a : Scene) (f : WorkCaller) (group : Option ℕ) → MayQueue a f group → Makes a
makes_of a WorkCaller.Spawn group may = inl may.1
makes_of a (WorkCaller.Async n q) group may = inr (n, (may.1.1.0, called_queues (op_in a n) may.1.1.1 (op_progress_of n a.base)))
makes_of a (WorkCaller.Sync n) group may = inr (n, may.1.1)

-- each work that is there is one that b has, or the next one
record Called (a : Scene) (b s : Core) : Type 0 where
  more : b.made.works ≤ s.made.works
  each : (i : ℕ) → is_some (get s.works i) ≡ true → (i ≤ b.made.works) ⊎ ((i ≡ b.made.works + 1) × Makes a)

module _ (a : Scene) (b : Core) (base : a.base.made ≡ b.made) where
  next_there : (m : Records Work) (k i : ℕ) (w : Work) → is_some (get (insert m k w) i) ≡ true → (i ≡ k) ⊎ (is_some (get m i) ≡ true)
  next_there m k i w there = grind (arith, nat_tests, get-insert)

  each_primitive : (w : Primitive) (s : Core) → Allowed a w s → ((i : ℕ) → is_some (get s.works i) ≡ true → (i ≤ b.made.works) ⊎ ((i ≡ b.made.works + 1) × Makes a)) →
      (i : ℕ) → is_some (get (after_primitive w s).works i) ≡ true → (i ≤ b.made.works) ⊎ ((i ≡ b.made.works + 1) × Makes a)
  unfolding arrive set_cancel_asked add_call add_group add_set add_thread add_work call_made count_work free_handle free_thread_handle give_handle give_result give_thread_handle on_call on_instance on_thread on_work poll_pends push_high remove_call remove_group remove_set remove_thread remove_work set_backpressure set_cancel_delivered set_cancelled set_course set_do_not_enter set_do_not_suspend set_end set_event set_exited set_op_progress set_join set_task_event set_phase set_position set_register set_result set_saved_callee set_saved_own set_script set_stage set_started set_starting_published set_subtask_handle set_thread_handle set_trapped set_uninteresting set_memory_cell take_result with_handle with_thread_handle work_queued
  each_primitive AddGroup s ok q i there = q i there
  each_primitive (QueueWork f host group) s ok q i there =
      let made : s.made.works ≡ b.made.works = ap (λ (m : MadeCounts). m.works) (ok.0 ∙ base) in
      ⊎_elim (λ is. inr (is ∙ ap (λ (k : ℕ). k + 1) made, makes_of a f group ok.1.0)) (λ old. q i old) (next_there s.works (s.made.works + 1) i _ there)
  each_primitive w s ok q i there = q i (first_of (assumption, grind (arith, nat_tests, get-change, get-insert, get-remove)))

  called_primitive : (w : Primitive) (s : Core) → Allowed a w s → Called a b s → Called a b (after_primitive w s)
  called_primitive w s ok q = record { more = le_trans q.more (made_works_primitive a w s); each = each_primitive w s ok q.each }

-- read of the state before the step
module _ (ops : ℕ → Op) (x : Setting) (s : State) (l : Label) (next : Turn) where
  said : Makes (scene_as ops x s l next) → MakesWork ops s
  said (inl main) = Spawns main
  said (inr by) = CallsHost by.0 by.1.0 (subst (λ (u : Turn). queues_work (op_progress_of by.0 (base_at u s.core)) (ops by.0) ≡ true) by.1.0 by.1.1)

pub works_are_called : WorksAreCalled
unfolding WorksAreCalled
works_are_called ops x s l t w numbered i there =
    let a = scene_as ops x s l w.next in
    let base : a.base.made ≡ s.core.made = of_base (λ (c : Core). c.made ≡ s.core.made) s.turn s.core refl in
    let first : Called a s.core s.core = record { more = le_refl _; each = λ j old. inl (numbered j old) } in
    ⊎_elim (λ old. inl old) (λ new. inr (new.0, said ops x s l w.next new.1))
    ((along (Called a s.core) (λ v u ok q. called_primitive a s.core base v u ok q) first w.walk).each i there)
