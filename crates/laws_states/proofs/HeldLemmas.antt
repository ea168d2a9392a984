-- No held thread is admitted, along the primitives of a step.
use Rattle.laws_states.proofs.Primitives.{add_call, add_group, add_set, add_thread, add_work, admits, after_primitive, Allowed, arith, at_test, backpressure_of, call_came, call_instance, call_made, CallAfter, CallsThere, Came, came_primitive, Comes, Core, count_work, false, free_handle, free_thread_handle, get-change, give_handle, give_result, give_thread_handle, inl, inr, instance_of, is_explicit, kind_of, may_not_enter, MayMove, MayStand, Moved, nat_tests, no_thread_left, NoneAdmitted, NoneHeldIn, Numbered, on_call, on_instance, on_thread, on_work, Option, Place, place_of, poll_pends, push_high, refl, remove_call, remove_group, remove_set, remove_thread, remove_work, Scene, set_backpressure, set_cancel_delivered, set_cancelled, set_course, set_do_not_enter, set_do_not_suspend, set_end, set_event, set_exited, set_op_progress, set_join, set_task_event, set_phase, set_position, set_register, set_result, set_saved_callee, set_saved_own, set_script, set_stage, set_started, set_starting_published, set_subtask_handle, set_thread_handle, set_trapped, set_uninteresting, set_memory_cell, SetBackpressure, SetDoNotEnter, SetDoNotSuspend, SetMemoryCell, Shifts, Some, suc, take_result, task_of, thread_came, ThreadAfter, true, Turned, Turns, Why, with_handle, with_thread_handle, Primitive, work_queued, zero, ℕ, ◌≡◌, ◌⊎◌}
unfoldable use Rattle.machine_data.specs.Write.{arrive, set_cancel_asked}

-- the flags of the instance let no more in than before, or no thread of it is held that is admitted
abbrev KeepsOut : Core → Core → ℕ → Type 0
KeepsOut s t i = ((may_not_enter i s ≡ true → may_not_enter i t ≡ true) × (backpressure_of i t ≡ 0 → backpressure_of i s ≡ 0)) ⊎ NoneHeldIn i t

flags_primitive : (a : Scene) (w : Primitive) (s : Core) → Allowed a w s → (i : ℕ) → KeepsOut s (after_primitive w s) i
unfolding arrive set_cancel_asked add_call add_group add_set add_thread add_work count_work free_handle free_thread_handle give_handle give_result give_thread_handle on_call on_instance on_thread on_work push_high remove_call remove_group remove_set remove_thread remove_work set_backpressure set_cancel_delivered set_cancelled set_course set_do_not_enter set_do_not_suspend set_end set_event set_exited set_op_progress set_join set_task_event set_phase set_position set_register set_result set_saved_callee set_saved_own set_script set_stage set_started set_starting_published set_subtask_handle set_thread_handle set_trapped set_uninteresting set_memory_cell take_result call_made with_handle with_thread_handle work_queued poll_pends
flags_primitive a (SetDoNotEnter j true) s ok i = inl (grind (arith, nat_tests, get-change))
flags_primitive a (SetDoNotEnter j false) s ok i =
    at_test i j (λ b. KeepsOut s (after_primitive (SetDoNotEnter j false) s) i) (λ e. inr (rw e ok.1)) (λ other. inl (grind (arith, nat_tests, get-change)))
flags_primitive a (SetBackpressure j zero) s ok i =
    at_test i j (λ b. KeepsOut s (after_primitive (SetBackpressure j 0) s) i) (λ e. inr (rw e (ok refl))) (λ other. inl (grind (arith, nat_tests, get-change)))
flags_primitive a (SetBackpressure j (suc c)) s ok i = inl (grind (arith, nat_tests, get-change))
flags_primitive a (SetDoNotSuspend j b) s ok i = inl (grind (arith, nat_tests, get-change))
flags_primitive a (SetMemoryCell j x y) s ok i = inl (grind (arith, nat_tests, get-change))
flags_primitive a w s ok i = inl (λ e. e, λ e. e)

move_held : (a : Scene) (n : ℕ) (p : Place) (s : Core) (v : Why) → MayMove a n p s → p ≡ Place.Held v → admits n s v ≡ false
move_held a n p s v ok is = grind arith

moved_held : (may : Why → Type 0) (o p : Option Place) (v : Why) → Moved may o p → p ≡ Some (Place.Held v) → o ≡ Some (Place.Held v)
moved_held may o p v came is = grind arith

turned_held : (a : Scene) (s t : Core) (n : ℕ) (o p : Option Place) (v : Why) → Turned a s t n o p → p ≡ Some (Place.Held v) → ⊥
turned_held a s t n o p v came is = grind arith

-- who is held after a primitive wasn't admitted before it
held_came : (a : Scene) (s t : Core) (n : ℕ) (v : Why) (p : Option Place) → NoneAdmitted s → Came a s t n (place_of n s) p → p ≡ Some (Place.Held v) →
    admits n s v ≡ false
held_came a s t n v p q (Shifts c) is = q n v (moved_held (MayStand a s n) (place_of n s) p v c is)
held_came a s t n v p q (Comes r ok e there) is = let same : r ≡ Place.Held v = cc in move_held a n r s v ok same
held_came a s t n v p q (Turns c) is = absurd (turned_held a s t n (place_of n s) p v c is)

-- the thread and its call are of the same kind in the same instance
record SameHome (n : ℕ) (s t : Core) : Type 0 where
  explicit : is_explicit n t ≡ is_explicit n s
  task : task_of n t ≡ task_of n s
  kind : kind_of (task_of n s) t ≡ kind_of (task_of n s) s
  home : call_instance (task_of n s) t ≡ call_instance (task_of n s) s

home_primitive : (a : Scene) (w : Primitive) (s : Core) → Allowed a w s → CallsThere s → Numbered s → (n : ℕ) (v : Why) →
    place_of n (after_primitive w s) ≡ Some (Place.Held v) → SameHome n s (after_primitive w s)
home_primitive a w s ok there numbered n v at =
    let i : ThreadAfter a w s n = thread_came w s ok n in
    let j : CallAfter a w s (task_of n s) = call_came w s ok (task_of n s) in
    let left = no_thread_left (task_of n s) n s in
    let here = there n (task_of n s) in
    let low = numbered.threads n in
    grind (arith, nat_tests)

pub held_primitive : (a : Scene) (w : Primitive) (s : Core) → Allowed a w s → CallsThere s → Numbered s → NoneAdmitted s → NoneAdmitted (after_primitive w s)
held_primitive a w s ok there numbered q n v at =
    let was = held_came a s (after_primitive w s) n v _ q (came_primitive w s ok n) at in
    let same = home_primitive a w s ok there numbered n v at in
    by same was (flags_primitive a w s ok (instance_of n s))
  where
    t : Core
    t = after_primitive w s

    by : SameHome n s t → admits n s v ≡ false → KeepsOut s t (instance_of n s) → admits n t v ≡ false
    by same was (inl flags) = grind (arith, nat_tests)
    by same was (inr none) = none n v at (grind arith)
