-- What changes a core leaves the place of a thread in its script, and its registers.
use Rattle.std.proofs.Common.{ap, ap₂, arith, refl, sym, ◌∙◌}
use Rattle.std.proofs.lemmas.Bool.Decides.{nat_tests}
use Rattle.std.specs.Option.{option_map_or}
use Rattle.std.specs.Prelude.{Bool, List, None, Option, Some, [], false, if◌then◌else◌, option_map, true, ℕ, ◌==◌, ◌∷◌, ◌≡◌, ◌≤◌}
use Rattle.ops_dispatch.specs.InPlace.{LeftAt, in_script}
use Rattle.machine_data.proofs.CommuteLemmas.{get-change}
use Rattle.machine_data.proofs.MapLemmas.{change-field}
use Rattle.machine_data.specs.Core.{Core}
use Rattle.machine_data.specs.Maps.{get, get-insert, get-remove}
use Rattle.machine_data.specs.Moves.{PickedEvent, PickedMember, NothingPicked, PickedTaskEvent, behind, behind_one, call_settled, checked, displaced, first_entry, group_settled, handed_on, held_why_of, hands_on, is_callback_waiter, is_deletable, is_group_done, less_switch, newest, older, passed_on, promoted, promoted_first, promoted_unless, published, put_high, put_low, put_switch, released, released_one, resumed_all, resumed_callers, stopped, stopped_at, stopped_last, taken, unblocked, unqueued, wake, wake_joined, waken_by, why_of, withdrawn}
use Rattle.machine_data.specs.Read.{blocked_on, call_group, caller_of, callers_of, foot_of, goal_of, join_of, position_of}
use Rattle.machine_data.specs.Write.{add_call, add_thread, arrival, arrive, count_work, give_result, on_call, on_thread, on_work, push_high, push_high_first, push_low, remove_call, remove_group, remove_thread, remove_work, set_callers, set_cancel_delivered, set_end, set_event, set_exited, set_high, set_op_progress, set_join, set_low, set_task_event, set_place, set_register, set_result, set_saved_callee, set_saved_own, set_subtask_handle, set_switch, set_thread_handle, set_uninteresting}
use Rattle.machine_data.specs.declared.component.Callee.{Callee}
use Rattle.machine_data.specs.declared.component.ExportKind.{ExportKind}
use Rattle.machine_data.specs.declared.records.CallEnd.{CallEnd}
use Rattle.machine_data.specs.declared.records.CallEnd.TheVariants as call_end
use Rattle.machine_data.specs.declared.records.Caller.{Caller}
use Rattle.machine_data.specs.declared.records.Caller.TheVariants as caller
use Rattle.machine_data.specs.declared.records.Goal.{Goal}
use Rattle.machine_data.specs.declared.records.Goal.TheVariants as goal
use Rattle.machine_data.specs.declared.records.OpProgress.{OpProgress}
use Rattle.machine_data.specs.declared.records.OpProgress.TheVariants as op_progress
use Rattle.machine_data.specs.declared.records.Join.{Join}
use Rattle.machine_data.specs.declared.records.Join.TheVariants as join
use Rattle.machine_data.specs.declared.records.Place.{Place}
use Rattle.machine_data.specs.declared.records.Place.TheVariants as place
use Rattle.machine_data.specs.declared.records.Subtask.{Subtask}
use Rattle.machine_data.specs.declared.records.Subtask.TheVariants as subtask
use Rattle.machine_data.specs.declared.records.Thread.{Thread}
use Rattle.machine_data.specs.declared.records.Why.{Why}
use Rattle.machine_data.specs.declared.records.Why.TheVariants as why
use Rattle.machine_data.specs.declared.statuses.Given.{Given}
use Rattle.machine_data.specs.declared.statuses.Mark.TheVariants as mark
use Rattle.machine_data.specs.declared.statuses.TaskEvent.TheVariants as own
use Rattle.machine_data.specs.declared.statuses.Status.{Status}
use Rattle.machine_data.specs.declared.statuses.Status.TheVariants as status
use Rattle.ops_guests.proofs.PositionLemmas.{position_register}
use Rattle.machine_rules.specs.Calls.{call_made, next_thread, settle_group_of, host_valued, work_deleted, work_group}
use Rattle.machine_rules.specs.Ends.{cancelled, is_told, result_given, returned, told}
use Rattle.machine_rules.specs.Finish.{set_given}

abbrev is_register : Goal → Bool
is_register (goal.Register r) = true
is_register _ = false

module _ (n : ℕ) where
  if_at : (b : Bool) (t u s : Core) → in_script n t ≡ in_script n s → in_script n u ≡ in_script n s → in_script n (if b then t else u) ≡ in_script n s
  if_at true t u s h k = h
  if_at false t u s h k = k

  -- ---- The records of threads

  on : (m : ℕ) (f : Thread → Thread) (s : Core) → ((t : Thread) → (f t).position ≡ t.position) → ((t : Thread) → (f t).registers ≡ t.registers) → in_script n (on_thread m f s) ≡ in_script n s
  unfolding on_thread
  on m f s place registers = change-field (λ (t : Thread). (t.position, t.registers)) m f (λ t. ap₂ (λ (p : ℕ) (r : List ℕ). (p, r)) (place t) (registers t)) s.threads n

  pub at_place : (m : ℕ) (p : Place) (s : Core) → in_script n (set_place m p s) ≡ in_script n s
  unfolding set_place
  at_place m p s = on m (λ t. record t { place = p }) s (λ t. refl) (λ t. refl)

  pub at_arrive : (m : ℕ) (s : Core) → in_script n (arrive m s) ≡ in_script n s
  unfolding arrive
  at_arrive m s = on m (λ t. record t { came = arrival s.version s.arrivals t.came }) s (λ t. refl) (λ t. refl)

  pub at_far : (m : ℕ) (h : OpProgress) (s : Core) → in_script n (set_op_progress m h s) ≡ in_script n s
  unfolding set_op_progress
  at_far m h s = on m (λ t. record t { op_progress = h }) s (λ t. refl) (λ t. refl)

  pub at_saved_own : (m : ℕ) (o : Option Bool) (s : Core) → in_script n (set_saved_own m o s) ≡ in_script n s
  unfolding set_saved_own
  at_saved_own m o s = on m (λ t. record t { saved_own = o }) s (λ t. refl) (λ t. refl)

  pub at_saved_callee : (m : ℕ) (o : Option Bool) (s : Core) → in_script n (set_saved_callee m o s) ≡ in_script n s
  unfolding set_saved_callee
  at_saved_callee m o s = on m (λ t. record t { saved_callee = o }) s (λ t. refl) (λ t. refl)

  pub at_thread_handle : (m : ℕ) (o : Option ℕ) (s : Core) → in_script n (set_thread_handle m o s) ≡ in_script n s
  unfolding set_thread_handle
  at_thread_handle m o s = on m (λ t. record t { handle = o }) s (λ t. refl) (λ t. refl)

  -- of another thread
  at_register : (m r v : ℕ) (s : Core) → (n == m) ≡ false → in_script n (set_register m r v s) ≡ in_script n s
  unfolding set_register on_thread
  at_register m r v s other = grind (arith, nat_tests, get-change, other)

  pub at_new : (t : Thread) (s : Core) → (n == next_thread s) ≡ false → in_script n (add_thread t s) ≡ in_script n s
  unfolding add_thread
  at_new t s other = grind (arith, nat_tests, get-insert, other)

  at_gone : (m : ℕ) (s : Core) → (n == m) ≡ false → in_script n (remove_thread m s) ≡ in_script n s
  unfolding remove_thread
  at_gone m s other = grind (arith, nat_tests, get-remove, other)

  pub at_done : (s : Core) → in_script n (set_op_progress n op_progress.Fresh s) ≡ in_script n s
  at_done s = at_far n op_progress.Fresh s

  -- ---- Entries

  pub at_high : (m : ℕ) (w : Why) (s : Core) → in_script n (put_high m w s) ≡ in_script n s
  unfolding put_high push_high
  at_high m w s = at_place m (place.Ready mark.High w) s

  pub at_low : (m : ℕ) (w : Why) (s : Core) → in_script n (put_low m w s) ≡ in_script n s
  unfolding put_low push_low
  at_low m w s = at_place m (place.Ready mark.Low w) s

  at_displaced : (o : Option ℕ) (s : Core) → in_script n (displaced o s) ≡ in_script n s
  unfolding push_high_first
  at_displaced None s = refl
  at_displaced (Some m) s = at_place m (place.Ready mark.High (why_of m s)) s

  pub at_switch : (m : ℕ) (w : Why) (s : Core) → in_script n (put_switch m w s) ≡ in_script n s
  unfolding put_switch set_switch
  at_switch m w s = at_place m (place.Ready mark.Switch w) (displaced s.queues.switch s) ∙ at_displaced s.queues.switch s

  pub at_unqueued : (m : ℕ) (s : Core) → in_script n (unqueued m s) ≡ in_script n s
  unfolding unqueued set_high set_low
  at_unqueued m s = if_at _ _ _ s refl refl

  at_promoted : (m : ℕ) (s : Core) → in_script n (promoted m s) ≡ in_script n s
  unfolding promoted set_switch
  at_promoted m s = at_place m (place.Ready mark.Switch (why_of m s)) (unqueued m s) ∙ at_unqueued m s

  pub at_unless : (m : ℕ) (s : Core) → in_script n (promoted_unless m s) ≡ in_script n s
  unfolding promoted_unless
  at_unless m s = if_at _ s (promoted m s) s refl (at_promoted m s)

  at_first : (o : Option ℕ) (s : Core) → in_script n (promoted_first o s) ≡ in_script n s
  at_first None s = refl
  at_first (Some m) s = at_promoted m s

  pub at_checked : (i : ℕ) (s : Core) → in_script n (checked i s) ≡ in_script n s
  unfolding checked
  at_checked i s = if_at _ s (promoted_first (first_entry i s) s) s refl (at_first (first_entry i s) s)

  -- ---- Stops

  at_all : (ms : List ℕ) (s : Core) → in_script n (resumed_all ms s) ≡ in_script n s
  at_all [] s = refl
  at_all (m ∷ ms) s = at_all ms (put_high m why.Resumption s) ∙ at_high m why.Resumption s

  at_behind_one : (f m : ℕ) (s : Core) → in_script n (behind_one f m s) ≡ in_script n s
  unfolding behind_one set_callers
  at_behind_one f m s = at_place m (place.Behind f) s

  pub at_behind : (f : ℕ) (ms : List ℕ) (s : Core) → in_script n (behind f ms s) ≡ in_script n s
  at_behind f [] s = refl
  at_behind f (m ∷ ms) s = at_behind f ms (behind_one f m s) ∙ at_behind_one f m s

  at_resumed : (ms : List ℕ) (s : Core) → in_script n (resumed_callers ms s) ≡ in_script n s
  at_resumed [] s = refl
  at_resumed (m ∷ ms) s = at_all (older m ms) (put_switch (newest m ms) why.Resumption s) ∙ at_switch (newest m ms) why.Resumption s

  at_passed : (o : Option ℕ) (ms : List ℕ) (s : Core) → in_script n (passed_on o ms s) ≡ in_script n s
  at_passed (Some m) ms s = at_behind (foot_of m s) ms s
  at_passed None ms s = at_resumed ms s

  pub at_stopped : (f : ℕ) (s : Core) → in_script n (stopped f s) ≡ in_script n s
  unfolding stopped set_callers
  at_stopped f s = at_passed s.queues.switch (callers_of f s) (set_callers f [] s)

  pub at_stopped_at : (m : ℕ) (p : Place) (s : Core) → in_script n (stopped_at m p s) ≡ in_script n s
  at_stopped_at m p s = at_place m p (stopped (foot_of m s) s) ∙ at_stopped (foot_of m s) s

  pub at_stopped_last : (m : ℕ) (p : Place) (s : Core) → in_script n (stopped_last m p s) ≡ in_script n s
  at_stopped_last m p s = at_place m p _ ∙ (at_arrive m (stopped (foot_of m s) s) ∙ at_stopped (foot_of m s) s)

  -- ---- Wakes and tellings

  at_waken : (b : Bool) (x m : ℕ) (s : Core) → in_script n (waken_by b x m s) ≡ in_script n s
  at_waken true x m s = at_high m _ s
  at_waken false x m s = at_high m why.Resumption s

  pub at_wake : (x : ℕ) (w : Option ℕ) (s : Core) → in_script n (wake x w s) ≡ in_script n s
  unfolding wake
  at_wake x None s = refl
  at_wake x (Some m) s = at_waken (is_callback_waiter m s) x m s

  at_joined : (j : Join) (w : Option ℕ) (s : Core) → in_script n (wake_joined j w s) ≡ in_script n s
  at_joined (join.Set x) w s = at_wake x w s
  at_joined join.Nowhere w s = refl
  at_joined (join.Watched m) w s = refl

  at_unblocked : (o : Option ℕ) (s : Core) → in_script n (unblocked o s) ≡ in_script n s
  at_unblocked None s = refl
  at_unblocked (Some m) s = at_high m why.Resumption s

  pub at_event : (sub : Subtask) (e : Option Status) (s : Core) → in_script n (set_event sub e s) ≡ in_script n s
  unfolding set_event on_call on_work
  at_event (subtask.Guest k) e s = refl
  at_event (subtask.Host i) e s = refl

  pub at_join : (sub : Subtask) (j : Join) (s : Core) → in_script n (set_join sub j s) ≡ in_script n s
  unfolding set_join on_call on_work
  at_join (subtask.Guest k) j s = refl
  at_join (subtask.Host i) j s = refl

  pub at_handle : (sub : Subtask) (h : Option ℕ) (s : Core) → in_script n (set_subtask_handle sub h s) ≡ in_script n s
  unfolding set_subtask_handle on_call on_work
  at_handle (subtask.Guest k) h s = refl
  at_handle (subtask.Host i) h s = refl

  at_published : (sub : Subtask) (e : Status) (w : Option ℕ) (s : Core) → in_script n (published sub e w s) ≡ in_script n s
  unfolding published
  at_published sub e w s = at_joined (join_of sub s) w _ ∙ (at_unblocked (blocked_on sub s) (set_event sub (Some e) s) ∙ at_event sub (Some e) s)

  at_told : (k : ℕ) (e : Status) (w : Option ℕ) (s : Core) → in_script n (told k e w s) ≡ in_script n s
  unfolding told
  at_told k e w s = if_at (is_told k s) _ s s (at_published (subtask.Guest k) e w s) refl

  at_ended : (k : ℕ) (e : CallEnd) (s : Core) → in_script n (set_end k e s) ≡ in_script n s
  unfolding set_end on_call
  at_ended k e s = refl

  -- a result goes to a register of the caller
  at_result : (g : Goal) (f : Caller) (k v : ℕ) (s : Core) → (f ≡ caller.Thread n → ⊥) → in_script n (result_given g f k v s) ≡ in_script n s
  unfolding give_result set_result on_call
  at_result (goal.Register r) (caller.Thread m) k v s other = at_register m r v s (differs m other)
    where
      differs : (m : ℕ) → (caller.Thread m ≡ caller.Thread n → ⊥) → (n == m) ≡ false
      differs m other = grind (arith, nat_tests, other)
  at_result (goal.Register r) caller.Main k v s other = refl
  at_result goal.Main f k v s other = refl
  at_result goal.Answer f k v s other = refl
  at_result goal.Nowhere f k v s other = refl
  at_result goal.Direct f k v s other = refl

  -- it goes to none
  elsewhere : (g : Goal) (f : Caller) (k v : ℕ) (s : Core) → is_register g ≡ false → in_script n (result_given g f k v s) ≡ in_script n s
  unfolding give_result set_result on_call
  elsewhere (goal.Register r) f k v s none = absurd (cc)
  elsewhere goal.Main f k v s none = refl
  elsewhere goal.Answer f k v s none = refl
  elsewhere goal.Nowhere f k v s none = refl
  elsewhere goal.Direct f k v s none = refl

  pub at_returned : (k v : ℕ) (w : Option ℕ) (s : Core) → (caller_of k s ≡ caller.Thread n → ⊥) → in_script n (returned k v w s) ≡ in_script n s
  unfolding returned
  at_returned k v w s other =
      at_told k status.Returned w _ ∙ (at_result (goal_of k s) (caller_of k s) k v (set_end k call_end.Returned s) other ∙ at_ended k call_end.Returned s)

  pub at_cancelled : (k : ℕ) (w : Option ℕ) (s : Core) → in_script n (cancelled k w s) ≡ in_script n s
  unfolding cancelled
  at_cancelled k w s = at_told k status.ReturnCancelled w _ ∙ at_ended k call_end.ReturnCancelled s

  pub at_taken : (g : PickedEvent) (k : ℕ) (s : Core) → in_script n (taken g k s) ≡ in_script n s
  unfolding taken set_task_event set_cancel_delivered on_call
  at_taken (PickedTaskEvent own.None) k s = refl
  at_taken (PickedTaskEvent own.Cancelled) k s = refl
  at_taken (PickedMember sub) k s = at_event sub None s
  at_taken NothingPicked k s = refl

  pub at_handed : (x : ℕ) (g : PickedEvent) (w : Option ℕ) (s : Core) → in_script n (handed_on x g w s) ≡ in_script n s
  unfolding handed_on
  at_handed x g w s = if_at (hands_on x g s) (wake x w s) s s (at_wake x w s) refl

  at_one : (m : ℕ) (o : Option Why) (s : Core) → in_script n (released_one m o s) ≡ in_script n s
  at_one m None s = refl
  at_one m (Some w) s = at_high m w s

  pub at_released : (order : List ℕ) (s : Core) → in_script n (released order s) ≡ in_script n s
  unfolding released
  at_released [] s = refl
  at_released (m ∷ ms) s = at_released ms (released_one m (held_why_of m s) s) ∙ at_one m (held_why_of m s) s

  -- ---- Calls and works that go

  at_group : (g : ℕ) (s : Core) → in_script n (group_settled g s) ≡ in_script n s
  unfolding group_settled remove_group
  at_group g s = if_at (is_group_done g s) _ s s refl refl

  pub at_settled : (k : ℕ) (s : Core) → in_script n (call_settled k s) ≡ in_script n s
  unfolding call_settled remove_call
  at_settled k s = if_at (is_deletable k s) _ s s (at_group (call_group k s) (remove_call k s)) refl

  at_group_of : (o : Option ℕ) (s : Core) → in_script n (settle_group_of o s) ≡ in_script n s
  at_group_of None s = refl
  at_group_of (Some g) s = at_group g s

  pub at_deleted : (i : ℕ) (s : Core) → in_script n (work_deleted i s) ≡ in_script n s
  unfolding work_deleted remove_work
  at_deleted i s = at_group_of (work_group i s) (remove_work i s)

  pub at_withdrawn : (k : ℕ) (s : Core) → (n == k) ≡ false → in_script n (withdrawn k s) ≡ in_script n s
  unfolding withdrawn set_uninteresting set_exited set_end on_call set_switch
  at_withdrawn k s other = at_gone k _ other ∙ at_unqueued k s

-- ---- The place alone

module _ (n : ℕ) where
  place_is : (s : Core) → position_of n s ≡ option_map_or (λ (x : ℕ × List ℕ). x.0) (in_script n s) 0
  place_is s = go (get s.threads n)
    where
      go : (o : Option Thread) → option_map_or (λ (t : Thread). t.position) o 0 ≡ option_map_or (λ (x : ℕ × List ℕ). x.0) (option_map (λ (t : Thread). (t.position, t.registers)) o) 0
      go None = refl
      go (Some t) = refl

  pub same_place : (s t : Core) → in_script n t ≡ in_script n s → position_of n t ≡ position_of n s
  same_place s t e = place_is t ∙ (ap (λ (o : Option (ℕ × List ℕ)). option_map_or (λ (x : ℕ × List ℕ). x.0) o 0) e ∙ sym (place_is s))

  placed : (t : Thread) (s : Core) → (n == next_thread s) ≡ true → position_of n (add_thread t s) ≡ t.position
  unfolding add_thread
  placed t s same = grind (arith, nat_tests, get-insert, same)

  new_below : (t : Thread) (s : Core) → t.position ≡ 0 → position_of n (add_thread t s) ≤ position_of n s
  new_below t s nought = by (n == next_thread s) refl
    where
      by : (b : Bool) → (n == next_thread s) ≡ b → position_of n (add_thread t s) ≤ position_of n s
      by true same = let p = placed t s same in grind (arith, p, nought)
      by false other = let p = same_place s (add_thread t s) (at_new n t s other) in grind (arith, p)

  nowhere : (m : ℕ) (s : Core) → (n == m) ≡ true → position_of n (remove_thread m s) ≡ 0
  unfolding remove_thread
  nowhere m s same = grind (arith, nat_tests, get-remove, same)

  gone_below : (m : ℕ) (s : Core) → position_of n (remove_thread m s) ≤ position_of n s
  gone_below m s = by (n == m) refl
    where
      by : (b : Bool) → (n == m) ≡ b → position_of n (remove_thread m s) ≤ position_of n s
      by true same = let p = nowhere m s same in grind (arith, p)
      by false other = let p = same_place s (remove_thread m s) (at_gone n m s other) in grind (arith, p)

  withdrawn_below : (k : ℕ) (s : Core) → position_of n (withdrawn k s) ≤ position_of n s
  unfolding withdrawn set_uninteresting set_exited set_end on_call set_switch
  withdrawn_below k s =
      let p = gone_below k (set_switch (less_switch k s.queues.switch) (unqueued k s)) in
      let q = same_place s (unqueued k s) (at_unqueued n k s) in
      grind (arith, p, q)

  result_below : (r m k v : ℕ) (s : Core) → position_of n (result_given (goal.Register r) (caller.Thread m) k v s) ≤ position_of n s
  result_below r m k v s = let p = position_register n m r v s in grind (arith, p)

  valued_below : (m q v : ℕ) (s : Core) → position_of n (host_valued m q v s) ≤ position_of n s
  unfolding host_valued count_work
  valued_below m q v s = let p = position_register n m q v (count_work s) in grind (arith, p)

  pub place_given : (m r : ℕ) (v : Given) (s : Core) → position_of n (set_given m r v s) ≡ position_of n s
  unfolding set_given
  place_given m r v s = position_register n m _ _ _ ∙ (position_register n m _ _ _ ∙ position_register n m _ _ s)

module _ (A : Type 0) (n : ℕ) where
  pub kept : (s t : Core) → in_script n t ≡ in_script n s → LeftAt A n s t
  kept s t e = let p = same_place n s t e in record { below = grind (arith, p); still = λ a. e }

  -- what follows changes no place
  pub then_same : (s t u : Core) → in_script n u ≡ in_script n t → LeftAt A n s t → LeftAt A n s u
  then_same s t u e l = let p = same_place n t u e in let q = l.below in record { below = grind (arith, p, q); still = λ a. e ∙ l.still a }

  pub left_new : (t : Thread) (s : Core) → t.position ≡ 0 → (A → (n == next_thread s) ≡ false) → LeftAt A n s (add_thread t s)
  left_new t s nought other = record { below = new_below n t s nought; still = λ a. at_new n t s (other a) }

  pub left_made : (f : Caller) (e : Callee) (x : ExportKind) (g : Goal) (group : ℕ) (words : List ℕ) (s : Core) → (A → (n == next_thread s) ≡ false) → LeftAt A n s (call_made f e x g group words s)
  unfolding call_made add_call
  left_made f e x g group words s other = record { below = new_below n _ _ refl; still = λ a. at_new n _ _ (other a) }

  pub left_withdrawn : (k : ℕ) (s : Core) → (A → (n == k) ≡ false) → LeftAt A n s (withdrawn k s)
  left_withdrawn k s other = record { below = withdrawn_below n k s; still = λ a. at_withdrawn n k s (other a) }

  left_result : (g : Goal) (f : Caller) (k v : ℕ) (s : Core) → (A → f ≡ caller.Thread n → ⊥) → LeftAt A n s (result_given g f k v s)
  left_result (goal.Register r) (caller.Thread m) k v s other = record { below = result_below n r m k v s; still = λ a. at_result n (goal.Register r) (caller.Thread m) k v s (other a) }
  left_result (goal.Register r) caller.Main k v s other = kept s _ (at_result n (goal.Register r) caller.Main k v s (λ e. absurd (cc)))
  left_result goal.Main f k v s other = kept s _ (elsewhere n goal.Main f k v s refl)
  left_result goal.Answer f k v s other = kept s _ (elsewhere n goal.Answer f k v s refl)
  left_result goal.Nowhere f k v s other = kept s _ (elsewhere n goal.Nowhere f k v s refl)
  left_result goal.Direct f k v s other = kept s _ (elsewhere n goal.Direct f k v s refl)

  pub left_returned : (k v : ℕ) (w : Option ℕ) (s : Core) → (A → caller_of k s ≡ caller.Thread n → ⊥) → LeftAt A n s (returned k v w s)
  unfolding returned
  left_returned k v w s other =
      let e = set_end k call_end.Returned s in
      let l = left_result (goal_of k s) (caller_of k s) k v e other in
      let p = same_place n s e (at_ended n k call_end.Returned s) in
      let q = l.below in
      then_same s (result_given (goal_of k s) (caller_of k s) k v e) _ (at_told n k status.Returned w _)
      (record { below = grind (arith, p, q); still = λ a. l.still a ∙ at_ended n k call_end.Returned s })

  -- a host's value goes to a register
  pub left_valued : (m q v : ℕ) (s : Core) → (A → ⊥) → LeftAt A n s (host_valued m q v s)
  left_valued m q v s none = record { below = valued_below n m q v s; still = λ a. absurd (none a) }
