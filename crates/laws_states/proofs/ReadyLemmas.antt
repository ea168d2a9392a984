-- Which members of sets have an event: along the primitives of a step.
use Rattle.laws_states.proofs.Primitives.{add_call, add_group, add_set, add_thread, add_work, after_primitive, Allowed, and_parts, arith, by_number, call_made, CallEnd, Core, count_work, EndCall, event_of, Exits, false, free_handle, free_thread_handle, get-change, get-insert, get-remove, give_handle, give_result, give_thread_handle, GivesUp, host_taken, inl, inr, is_explicit, is_in_set, is_join, is_ready_member, is_some, is_told, IsRunner, IsStarting, IsWithdrawn, Join, join_of, MayEnd, nat_tests, None, on_call, on_instance, on_thread, on_work, op_in, poll_pends, push_high, remove_call, remove_group, remove_set, remove_thread, remove_work, ReturnsNow, SaysEnd, Scene, set_backpressure, set_cancel_delivered, set_cancelled, set_course, set_do_not_enter, set_do_not_suspend, set_end, set_event, set_exited, set_op_progress, set_join, set_task_event, set_phase, set_position, set_register, set_result, set_saved_callee, set_saved_own, set_script, set_stage, set_started, set_starting_published, set_subtask_handle, set_thread_handle, set_trapped, set_uninteresting, set_memory_cell, SetCallEvent, Some, status_of_end, subst, Subtask, sym, take_result, TakeHost, task_of, true, Turn, WasReady, Why, with_handle, with_thread_handle, Primitive, work_queued, ℕ, ⊎_elim, ◌≡◌, ◌≤◌, ◌⊎◌}
use Rattle.laws_states.proofs.{EventLemmas.TellingGoes, EventLemmas.taken_label, EventLemmas.telling_primitive, Joins.now_joined}
unfoldable use Rattle.machine_data.specs.Write.{arrive, set_cancel_asked}

-- ---- Events

-- Why a call gets an event: how far its start has come is told, or its end is.
GuestTold : Scene → ℕ → Core → Type 0
GuestTold a k s = IsStarting a k s ⊎ ((y : CallEnd) × (SaysEnd a k (status_of_end y) × (MayEnd a k y s × ((is_told k s ≡ true) × (y ≡ CallEnd.StartCancelled → ⊥)))))

ended_event : (k : ℕ) (y : CallEnd) (s : Core) → is_some (event_of (Subtask.Guest k) (after_primitive (EndCall k y) s)) ≡ true →
    (is_some (event_of (Subtask.Guest k) s) ≡ true) ⊎ ((is_told k s ≡ true) × (y ≡ CallEnd.StartCancelled → ⊥))
unfolding on_call
ended_event k y s h = grind (arith, nat_tests, get-change)

guest_primitive : (a : Scene) (w : Primitive) (s : Core) → Allowed a w s → (k : ℕ) → is_some (event_of (Subtask.Guest k) (after_primitive w s)) ≡ true →
    (is_some (event_of (Subtask.Guest k) s) ≡ true) ⊎ GuestTold a k s
unfolding arrive set_cancel_asked add_call add_group add_set add_thread add_work count_work free_handle free_thread_handle give_handle give_result give_thread_handle on_call on_instance on_thread on_work push_high remove_call remove_group remove_set remove_thread remove_work set_backpressure set_cancel_delivered set_cancelled set_course set_do_not_enter set_do_not_suspend set_end set_event set_exited set_op_progress set_join set_task_event set_phase set_position set_register set_result set_saved_callee set_saved_own set_script set_stage set_started set_starting_published set_subtask_handle set_thread_handle set_trapped set_uninteresting set_memory_cell take_result call_made with_handle with_thread_handle work_queued poll_pends GuestTold
guest_primitive a (SetCallEvent j None) s ok k h = inl (grind (arith, nat_tests, get-change))
guest_primitive a (SetCallEvent j (Some e)) s ok k h = by_number k j _
    (λ same. inr (inl (subst (λ (i : ℕ). IsStarting a i s) (sym same) ok.1.1))) (λ other. inl (grind (arith, nat_tests, get-change, other)))
guest_primitive a (EndCall j y) s ok k h = by_number k j _
    (λ same. ⊎_elim inl (λ r. inr (inr (y, (subst (λ (i : ℕ). SaysEnd a i (status_of_end y)) (sym same) ok.1, (subst (λ (i : ℕ). MayEnd a i y s) (sym same) ok.0, r)))))
    (ended_event k y s (subst (λ (i : ℕ). is_some (event_of (Subtask.Guest k) (after_primitive (EndCall i y) s)) ≡ true) (sym same) h)))
    (λ other. inl (grind (arith, nat_tests, get-change, other)))
guest_primitive a w s ok k h = inl (grind (arith, nat_tests, get-change, get-insert, get-remove))

host_primitive : (a : Scene) (w : Primitive) (s : Core) → Allowed a w s → (i : ℕ) → is_some (event_of (Subtask.Host i) (after_primitive w s)) ≡ true →
    (is_some (event_of (Subtask.Host i) s) ≡ true) ⊎ (host_taken a.label ≡ Some i)
unfolding arrive set_cancel_asked add_call add_group add_set add_thread add_work count_work free_handle free_thread_handle give_handle give_result give_thread_handle on_call on_instance on_thread on_work push_high remove_call remove_group remove_set remove_thread remove_work set_backpressure set_cancel_delivered set_cancelled set_course set_do_not_enter set_do_not_suspend set_end set_event set_exited set_op_progress set_join set_task_event set_phase set_position set_register set_result set_saved_callee set_saved_own set_script set_stage set_started set_starting_published set_subtask_handle set_thread_handle set_trapped set_uninteresting set_memory_cell take_result call_made with_handle with_thread_handle work_queued poll_pends
host_primitive a (TakeHost m j) s ok i h = by_number i j _ (λ is. inr (rw is (taken_label a m j ok.1.0 ok.1.1.0))) (λ other. inl (grind (arith, nat_tests, get-change, other)))
host_primitive a w s ok i h = inl (grind (arith, nat_tests, get-change, get-insert, get-remove))

-- ---- Members

-- Why a subtask becomes a member that has an event: so much is known before the step.
pub data Gains (a : Scene) : Subtask → Type 0 where
  StartTold : (k n : ℕ) → IsRunner a n → WasReady a n Why.Start → is_explicit n a.base ≡ false → k ≡ task_of n a.base → Gains a (Subtask.Guest k)
  EndTold : (k : ℕ) (y : CallEnd) → SaysEnd a k (status_of_end y) → is_told k a.base ≡ true → (y ≡ CallEnd.StartCancelled → ⊥) → Gains a (Subtask.Guest k)
  HostTold : (i : ℕ) → host_taken a.label ≡ Some i → Gains a (Subtask.Host i)
  -- by the op `join`
  JoinsSet : (sub : Subtask) (n : ℕ) → IsRunner a n → a.turn ≡ Turn.Run n → is_join (op_in a n) ≡ true → Gains a sub

pub in_set_is : (x : ℕ) (j : Join) → is_in_set x j ≡ true → j ≡ Join.Set x
in_set_is x j h = grind (arith, nat_tests)

module _ (a : Scene) (low : (n : ℕ) → IsRunner a n → task_of n a.base ≤ a.base.made.threads) where
  ends_low : (k : ℕ) (y : CallEnd) (s : Core) → MayEnd a k y s → (y ≡ CallEnd.StartCancelled → ⊥) → k ≤ a.base.made.threads
  ends_low k y s (ReturnsNow n is runs same u l e) ran = subst (λ (i : ℕ). i ≤ a.base.made.threads) (sym same) (low n is)
  ends_low k y s (GivesUp n is runs same u l e) ran = subst (λ (i : ℕ). i ≤ a.base.made.threads) (sym same) (low n is)
  ends_low k y s (Exits n is runs shows same i kind stays e) ran = subst (λ (i : ℕ). i ≤ a.base.made.threads) (sym same) (low n is)
  ends_low k y s (IsWithdrawn may gone e) ran = absurd (ran e)

  event_gains : (w : Primitive) (s : Core) → Allowed a w s → TellingGoes a s → (sub : Subtask) → is_some (event_of sub (after_primitive w s)) ≡ true →
      (is_some (event_of sub s) ≡ true) ⊎ Gains a sub
  unfolding GuestTold
  event_gains w s ok q (Subtask.Guest k) h = ⊎_elim inl (λ g. inr (⊎_elim
      (λ g. StartTold k g.0 g.1.0 g.1.1.0 g.1.1.1.0 g.1.1.1.1.0)
      (λ g. EndTold k g.0 g.1.0 (q.told k (ends_low k g.0 s g.1.1.0 g.1.1.1.1) g.1.1.1.0) g.1.1.1.1) g)) (guest_primitive a w s ok k h)
  event_gains w s ok q (Subtask.Host i) h = ⊎_elim inl (λ e. inr (HostTold i e)) (host_primitive a w s ok i h)

  ready_primitive : (w : Primitive) (s : Core) → Allowed a w s → TellingGoes a s → (x : ℕ) (sub : Subtask) → is_ready_member x sub (after_primitive w s) ≡ true →
      (is_ready_member x sub s ≡ true) ⊎ Gains a sub
  ready_primitive w s ok q x sub h =
      let p = and_parts (is_in_set x (join_of sub (after_primitive w s))) (is_some (event_of sub (after_primitive w s))) h in
      ⊎_elim (λ stays. ⊎_elim (λ event. inl (joined_ready stays event)) inr (event_gains w s ok q sub p.1))
      (λ j. inr (JoinsSet sub j.0.0 j.0.1.1.1.0 j.0.1.1.1.1.1.1.1.0 j.0.1.1.1.1.1.1.1.1)) (now_joined a w s ok sub x (in_set_is x (join_of sub (after_primitive w s)) p.0))
    where
      joined_ready : join_of sub s ≡ Join.Set x → is_some (event_of sub s) ≡ true → is_ready_member x sub s ≡ true
      joined_ready is event = grind (arith, nat_tests)

  -- who is such a member after the primitives was so before, or gains
  abbrev pub ReadyGoes : Core → Type 0
  ReadyGoes s = TellingGoes a s × ((x : ℕ) (sub : Subtask) → is_ready_member x sub s ≡ true → (is_ready_member x sub a.base ≡ true) ⊎ Gains a sub)

  pub ready_goes_primitive : (w : Primitive) (s : Core) → Allowed a w s → ReadyGoes s → ReadyGoes (after_primitive w s)
  ready_goes_primitive w s ok q = (telling_primitive a w s ok q.0, λ x sub h. ⊎_elim (q.1 x sub) inr (ready_primitive w s ok q.0 x sub h))
