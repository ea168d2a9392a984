-- What the rules of the ops are made of, as chains of primitives: what is read, picked events, moves, and a new call.
use Rattle.machine_rules.specs.Primitives.{Arrive}
unfoldable use Rattle.machine_data.specs.Write.{arrive}
use Rattle.machine_rules.proofs.Walks.{add_call, add_thread, advanced, after_placing, after_primitive, answered, answered_by, ap, ap₂, arith, assigned, AtOp, behind_one, behind_switch, Blocks, Bool, ByHandle, ByOp, call_clears_flag, call_ends, call_instance, call_made, call_queues, call_resumes, call_settled, call_stops, Callee, callee_of_op, CallEnd, Caller, can_come, cancel_goes_behind, cancel_stops, Cancelling, change-change_same, checked, checked_shifts, Choice, chosen, Core, Doer, EndCall, Enter, enter_runs, event_of, ExportKind, false, finish, foot_of, get, get-change, get-insert, get-remove_same, PickedEvent, picked_event, give_thread_handle, Given, Goal, goal_of, GoBehind, Going, group_settled, group_settles, halted_at, has_ready_member, has_same, HasCalled, HasSet, HasSubtask, op_progress_of, OpProgress, inl, inr, instance_of, is_at_wait, is_begun, is_blocked_on, is_cancel, is_deletable, is_deletable_call, is_direct, is_ended_work, is_explicit, is_group_done, is_joined, is_none, is_running, is_some, is_sync_call, is_sync_cancel, is_wait, IsNew, IsRunner, IsWithdrawn, Join, join_of, Keep, keep_still, lands_at, Leaves, less_switch, List, MadeCounts, MakeCall, Mark, may_not_suspend, MayCancel, MayCome, MayDeliver, MayJoin, MayMakeCall, MayRemoveWork, MayTake, MayWithdraw, PickedMember, Move, moved_to, NameThread, nat_tests, next_thread, NoAnswer, NothingPicked, None, NoneCame, not, NoPrimitive, on_call, on_instance, on_thread, on_work, OneEvent, OneNumber, op_in, OpAnswer, Option, option_map_or, task_event_of, TaskEvent, PickedTaskEvent, OwnScript, Place, place_of, placed, placing_shifted, Put, put_back, put_switch, received, received_by, refl, remove_call, remove_group, remove_thread, remove_work, RemoveWork, saved_callee_of, says, SaysEnd, Scene, set_do_not_suspend, set_end, set_event, set_exited, set_given, set_high, set_op_progress, set_join, set_low, set_place, set_position, set_register, set_saved_callee, set_saved_own, set_started, set_switch, set_thread_handle, set_uninteresting, SetCallEvent, SetCallJoin, SetDoNotSuspend, SetExited, SetSavedCallee, SetSavedOwn, SetStarted, settle_group_of, settled, SetUninteresting, SetWorkJoin, Shifted, shifted, shifted_after, shifted_calls, shifted_explicit, shifted_made, shifted_ready, shifts_shifted, Some, SomeHost, Starts, Status, Stop, stopped, stopped_on, subst, Subtask, subtask_ended, subtask_under_way, sym, sync_sets_flag, taken_walks, TakesCalled, TakesCancelled, TakesNamed, TakeWorkEvent, task_of, Then, Thread, thread_group, Trip, true, Turn, undelivered_end, unqueued, unwrap_or, wait_stops, Waits, watches, Why, with_thread_handle, Withdraw, withdrawn, primitive, work_deleted, work_group, ℕ, ◌&&◌, ◌==◌, ◌∙◌, ◌≡◌, ◌⊎◌, halted_on}
use Rattle.machine_rules.proofs.WalkTask.{arrived_ready, answered_walks, CanFinish, finished_walks, moved_passes}

-- ---- What is read

-- the answer may come before the work is gone
pub answered_first : (d : Doer) (n v i : ℕ) (s : Core) → work_deleted i (finish d n (OneNumber v) s) ≡ finish d n (OneNumber v) (work_deleted i s)
unfolding work_deleted assigned advanced moved_to set_op_progress set_position on_thread set_register remove_work group_settled remove_group is_group_done
answered_first (OwnScript r) n v i s = grind arith
answered_first SomeHost n v i s = grind arith

answered_deletable : (d : Doer) (n v k : ℕ) (s : Core) → is_deletable k (answered_by d n v s) ≡ is_deletable k s
unfolding is_deletable assigned advanced moved_to set_op_progress set_position on_thread set_register set_saved_callee
answered_deletable (OwnScript r) n v k s =
    ap (λ b. option_map_or is_deletable_call (get s.calls k) false && not b) (has_same k s (answered_by (OwnScript r) n v s) (λ m. grind (arith, nat_tests, get-change)))
answered_deletable SomeHost n v k s =
    ap (λ b. option_map_or is_deletable_call (get s.calls k) false && not b) (has_same k s (answered_by SomeHost n v s) (λ m. grind (arith, nat_tests, get-change)))

-- before the call is gone
pub answered_settled : (d : Doer) (n v k : ℕ) (s : Core) → call_settled k (answered_by d n v s) ≡ answered_by d n v (call_settled k s)
unfolding call_settled assigned advanced moved_to set_op_progress set_position on_thread set_register set_saved_callee remove_call group_settled remove_group is_group_done
answered_settled (OwnScript r) n v k s = let same = answered_deletable (OwnScript r) n v k s in grind (arith, same)
answered_settled SomeHost n v k s = let same = answered_deletable SomeHost n v k s in grind (arith, same)

-- whoever has the op done, calls and works are as before
pub finished_calls : (d : Doer) (n : ℕ) (answer : OpAnswer) (s : Core) → (finish d n answer s).calls ≡ s.calls
unfolding assigned advanced moved_to set_op_progress set_position on_thread set_register set_given
finished_calls (OwnScript r) n NoAnswer s = refl
finished_calls (OwnScript r) n (OneNumber v) s = refl
finished_calls (OwnScript r) n (OneEvent v) s = refl
finished_calls SomeHost n k s = refl

pub finished_works : (d : Doer) (n : ℕ) (answer : OpAnswer) (s : Core) → (finish d n answer s).works ≡ s.works
unfolding assigned advanced moved_to set_op_progress set_position on_thread set_register set_given
finished_works (OwnScript r) n NoAnswer s = refl
finished_works (OwnScript r) n (OneNumber v) s = refl
finished_works (OwnScript r) n (OneEvent v) s = refl
finished_works SomeHost n k s = refl

-- nothing is saved any more
saved_calls : (n : ℕ) (b : Option Bool) (s : Core) → (set_saved_callee n b s).calls ≡ s.calls
unfolding set_saved_callee on_thread
saved_calls n b s = refl

saved_works : (n : ℕ) (b : Option Bool) (s : Core) → (set_saved_callee n b s).works ≡ s.works
unfolding set_saved_callee on_thread
saved_works n b s = refl

pub answered_calls : (d : Doer) (n v : ℕ) (s : Core) → (answered_by d n v s).calls ≡ s.calls
answered_calls d n v s = finished_calls d n (OneNumber v) (set_saved_callee n None s) ∙ saved_calls n None s

pub answered_works : (d : Doer) (n v : ℕ) (s : Core) → (answered_by d n v s).works ≡ s.works
answered_works d n v s = finished_works d n (OneNumber v) (set_saved_callee n None s) ∙ saved_works n None s

-- what a picked event may be: a task takes Cancelled only by callback, and a member is the chosen one
pub picked_event_is : (a : Scene) (n : ℕ) (by : Bool) (y : ℕ) (ch : Choice) (g : PickedEvent) → IsRunner a n → (by ≡ true → task_event_of (task_of n a.base) a.base ≡ Some TaskEvent.Cancelled → MayDeliver a (task_of n a.base)) → picked_event by (task_of n a.base) y (chosen n ch a.base) a.base ≡ Some g → MayTake a (task_of n a.base) g
unfolding picked_event
picked_event_is a n by y ch (PickedTaskEvent v) is delivers e = ((n, (is, refl)), λ c. delivers (grind arith) (grind arith))
picked_event_is a n by y ch (PickedMember sub) is delivers e = let c : chosen n ch a.base ≡ Some sub = grind arith in (n, (unwrap_or ch.member 0, (is, grind (arith, c))))
picked_event_is a n by y ch NothingPicked is delivers e = tt

-- where nothing is given no member of the set has an event
pub picked_event_none : (by : Bool) (k y : ℕ) (o : Option Subtask) (s : Core) → picked_event by k y o s ≡ Some NothingPicked → has_ready_member y s ≡ false
unfolding picked_event
picked_event_none by k y o s h = grind arith

pub withdraws : (k : ℕ) (t : Core) → after_primitive (Withdraw k) t ≡ remove_thread k (set_switch (less_switch k t.queues.switch) (unqueued k t))
unfolding unqueued remove_thread set_switch set_high set_low
withdraws k t = grind arith

-- ---- What an op takes

pub cancels_own : (a : Scene) (n : ℕ) (sub : Subtask) → MayCancel a n sub → HasSubtask a n sub
cancels_own a n sub (inl named) = ByHandle named.0 named.1
cancels_own a n sub (inr (inl far)) = ByOp (ap (λ h. subtask_under_way h) far)
cancels_own a n sub (inr (inr far)) = ByOp (ap (λ h. subtask_under_way h) far)

-- a host's work that hasn't ended is none that has
work_open : (sub : Subtask) (s : Core) → subtask_ended sub s ≡ false → is_ended_work sub s ≡ false
work_open (Subtask.Guest k) s h = refl
work_open (Subtask.Host i) s h = h

-- who watches what hangs on no places
shifted_watches : (n : ℕ) (sub : Subtask) {s t : Core} → Shifted s t → watches n sub t ≡ watches n sub s
shifted_watches n sub h = let calls = shifted_calls h in let works = ap (λ (c : Core). c.works) h.only in grind arith

joined_watches : (n : ℕ) (sub : Subtask) (s : Core) → watches n sub (set_join sub (Join.Watched n) s) ≡ true
unfolding set_join on_call on_work
joined_watches n sub s = grind (arith, nat_tests, get-change)

-- it leaves the set in which it is to be again
pub rejoined : (n : ℕ) (sub : Subtask) (s : Core) → cancel_stops n sub (set_join sub Join.Nowhere s) ≡ cancel_stops n sub s
unfolding cancel_stops set_join on_call on_work set_saved_callee on_thread
rejoined n sub s = ap₂ (λ (i : ℕ) (u : Core). set_op_progress n (OpProgress.AwaitsEnd sub) (set_place n (Place.Blocked sub) (stopped (foot_of n (checked i u)) (checked i u)))) (home sub) (again sub)
  where
    home : (d : Subtask) → instance_of n (set_join d Join.Nowhere s) ≡ instance_of n s
    home d = grind (arith, nat_tests, get-change)

    again : (d : Subtask) → set_join d (Join.Watched n) (set_saved_callee n None (set_join d Join.Nowhere s)) ≡ set_join d (Join.Watched n) (set_saved_callee n None s)
    again (Subtask.Guest k) = rw change-change_same refl
    again (Subtask.Host i) = rw change-change_same refl

pub finished_fresh : (d : Doer) (n : ℕ) (answer : OpAnswer) (s : Core) → op_progress_of n (finish d n answer s) ≡ OpProgress.Fresh
unfolding assigned advanced moved_to set_op_progress set_position on_thread set_register
finished_fresh (OwnScript r) n NoAnswer s = grind (arith, nat_tests, get-change)
finished_fresh (OwnScript r) n (OneNumber v) s = grind (arith, nat_tests, get-change)
finished_fresh (OwnScript r) n (OneEvent v) s = grind (arith, nat_tests, get-change)
finished_fresh SomeHost n k s = grind (arith, nat_tests, get-change)

pub answered_fresh : (d : Doer) (n v : ℕ) (s : Core) → op_progress_of n (answered_by d n v s) ≡ OpProgress.Fresh
answered_fresh d n v s = finished_fresh d n (OneNumber v) (set_saved_callee n None s)

-- ---- The moves

-- while its op isn't done the thread is at it
abbrev pub AtOps : Scene → Core → ℕ → Type 0
AtOps a b n = (t : Core) → Keep a b t → AtOp a n t

-- ---- Whether a subtask has ended

shifted_ended : (sub : Subtask) {s t : Core} → Shifted s t → subtask_ended sub t ≡ subtask_ended sub s
shifted_ended (Subtask.Guest k) d = ap (λ (c : Core). subtask_ended (Subtask.Guest k) c) (sym d.only)
shifted_ended (Subtask.Host i) d = ap (λ (c : Core). subtask_ended (Subtask.Host i) c) (sym d.only)

pub joined_ended : (sub : Subtask) (j : Join) (s : Core) → subtask_ended sub (set_join sub j s) ≡ subtask_ended sub s
unfolding set_join on_call on_work
joined_ended (Subtask.Guest k) j s = grind (arith, nat_tests, get-change)
joined_ended (Subtask.Host i) j s = grind (arith, nat_tests, get-change)

saved_ended : (sub : Subtask) (n : ℕ) (b : Option Bool) (s : Core) → subtask_ended sub (set_saved_callee n b s) ≡ subtask_ended sub s
unfolding set_saved_callee on_thread
saved_ended (Subtask.Guest k) n b s = refl
saved_ended (Subtask.Host i) n b s = refl

module _ {a : Scene} {b : Core} (n : ℕ) (is : IsRunner a n) where
  pub received_walks : (d : Doer) → CanFinish d a b n → (g : PickedEvent) (v : Given) {t : Core} → MayTake a (task_of n t) g → Keep a b t → Going a b n (received_by d n g v t)
  received_walks d on g v {t = t} ok c = finished_walks n is d on (OneEvent v) (taken_walks g (task_of n t) ok c)

  pub stopped_walks : (t : Core) → Leaves a n → Keep a b t → Keep a b (stopped (foot_of n t) t)
  stopped_walks t leave c = stopped_on (foot_of n t) leave.1.0 c

  -- it comes after all that wait or are held
  pub stopped_last_walks : (t : Core) → Leaves a n → Keep a b t → Keep a b (arrive n (stopped (foot_of n t) t))
  stopped_last_walks t leave c = primitive (Arrive n) is (stopped_walks t leave c)

  pub checked_walks : (i : ℕ) {t : Core} → Keep a b t → Keep a b (checked i t)
  checked_walks i {t = t} c = shifted (checked_shifts i t) c

  pub wait_stops_walks : AtOps a b n → (y : ℕ) {t : Core} → is_wait (op_in a n) ≡ true → Leaves a n → HasSet a n y → has_ready_member y t ≡ false → Keep a b t → Trip a b (wait_stops n y t)
  unfolding wait_stops arrive on_thread
  wait_stops_walks at y {t = t} can leave has none c = lands_at (Move n (Place.Waiting y false)) n (OpProgress.Waits y) (grind (arith, nat_tests)) (Waits y leave has (arrived_ready y n (stopped (foot_of n t) t) ∙ (shifted_ready (placing_shifted (Stop (foot_of n t)) t) y ∙ none)) refl) (leave, (has, (can, moved_passes (is_at_wait y) (Place.Waiting y false) (grind (arith, nat_tests)) n (arrive n (stopped (foot_of n t) t))))) (at _ (stopped_last_walks t leave c)) can (halted_on (halted_at n c) (primitive (Arrive n) is NoPrimitive)) (stopped_last_walks t leave c)

  pub join_walks : (sub : Subtask) (j : Join) {t : Core} → MayJoin a sub j t → Keep a b t → Keep a b (set_join sub j t)
  join_walks (Subtask.Guest k) j ok c = primitive (SetCallJoin k j) ok c
  join_walks (Subtask.Host i) j ok c = primitive (SetWorkJoin i j) ok c

  -- an op that cancels the subtask, or will
  pub event_taken_walks : (sub : Subtask) {t : Core} → MayCancel a n sub → Keep a b t → Keep a b (set_event sub None t)
  event_taken_walks (Subtask.Guest k) (inl named) c = primitive (SetCallEvent k None) (TakesNamed (n, (named.0, (is, named.1)))) c
  event_taken_walks (Subtask.Guest k) (inr far) c = primitive (SetCallEvent k None) (TakesCancelled n is far) c
  event_taken_walks (Subtask.Host i) may c = primitive (TakeWorkEvent i) (n, (is, cancels_own a n (Subtask.Host i) may)) c

  pub put_back_walks : (o : Option Bool) (j : ℕ) {t : Core} → Keep a b t → Keep a b (put_back o j t)
  put_back_walks None j c = c
  put_back_walks (Some f) j c = primitive (SetDoNotSuspend j f) tt c

  -- the call hasn't returned
  pub call_resumes_walks : (k : ℕ) {t : Core} → op_progress_of n a.base ≡ OpProgress.Calls (Subtask.Guest k) → (event_of (Subtask.Guest k) t ≡ Some Status.Returned → ⊥) → Keep a b t → Keep a b (call_resumes n k t)
  unfolding call_resumes set_do_not_suspend on_instance
  call_resumes_walks k {t = t} far other c =
      primitive (SetCallEvent k None) (TakesCalled n is far (inr (λ e. other (grind (arith, e))))) (put_back_walks (saved_callee_of n t) (call_instance k t) c)

  -- it has, and the op is done before its event is taken
  pub call_answers_walks : (d : Doer) → CanFinish d a b n → (v k : ℕ) {t : Core} → op_progress_of n a.base ≡ OpProgress.Calls (Subtask.Guest k) → Keep a b t → Going a b n (answered_by d n v (call_resumes n k t))
  unfolding call_resumes assigned advanced moved_to set_op_progress set_position on_thread set_register set_saved_callee set_event on_call
  call_answers_walks (OwnScript r) on v k {t = t} far c to =
      let u = put_back (saved_callee_of n t) (call_instance k t) t in
      Then _ (SetCallEvent k None) (answered_walks n is (OwnScript r) on v (put_back_walks (saved_callee_of n t) (call_instance k t) c) to) (TakesCalled n is far (inl (answered_fresh (OwnScript r) n v u)))
  call_answers_walks SomeHost on v k {t = t} far c to =
      let u = put_back (saved_callee_of n t) (call_instance k t) t in
      Then _ (SetCallEvent k None) (answered_walks n is SomeHost on v (put_back_walks (saved_callee_of n t) (call_instance k t) c) to) (TakesCalled n is far (inl (answered_fresh SomeHost n v u)))

  pub call_stops_walks : AtOps a b n → (sub : Subtask) (t : Core) → can_come (op_in a n) (OpProgress.Calls sub) ≡ true → Leaves a n → ((u : Core) → Shifted t u → HasSubtask a n sub ⊎ IsNew a sub u) → ((u : Core) → Shifted t u → option_map_or (is_blocked_on sub) (place_of n u) true ≡ true → MayCome a n (OpProgress.Calls sub) u) → ((u : Core) → Shifted t u → (undelivered_end (event_of sub u) ≡ None) × (is_ended_work sub u ≡ false)) → Keep a b t → Trip a b (call_stops n sub t)
  unfolding call_stops
  call_stops_walks at sub t can leave own come open_end c =
      let u = stopped (foot_of n t) t in
      let h : Shifted t u = placing_shifted (Stop (foot_of n t)) t in
      lands_at (Move n (Place.Blocked sub)) n (OpProgress.Calls sub) (grind (arith, nat_tests)) (Blocks sub leave (own u h) (inl (open_end u h).0) (open_end u h).1 refl) (come (set_place n (Place.Blocked sub) u) (shifted_after h (placing_shifted (Move n (Place.Blocked sub)) u)) (moved_passes (is_blocked_on sub) (Place.Blocked sub) (grind (arith, nat_tests)) n u)) (at u (stopped_walks t leave c)) can (halted_at n c) (stopped_walks t leave c)

  pub sync_sets_flag_walks : (m j : ℕ) (k : ExportKind) {t : Core} → Keep a b t → Keep a b (sync_sets_flag m j k t)
  sync_sets_flag_walks m j ExportKind.Sync {t = t} c = primitive (SetDoNotSuspend j true) tt (primitive (SetSavedOwn m (Some (may_not_suspend j t))) tt c)
  sync_sets_flag_walks m j _ c = c

  call_clears_flag_walks : (j : ℕ) (k : ExportKind) {t : Core} → Keep a b t → Keep a b (call_clears_flag n j k t)
  call_clears_flag_walks j ExportKind.Sync c = c
  call_clears_flag_walks j _ {t = t} c = primitive (SetDoNotSuspend j false) tt (primitive (SetSavedCallee n (Some (may_not_suspend j t))) tt c)

  settle_group_of_walks : (o : Option ℕ) {t : Core} → Keep a b t → Keep a b (settle_group_of o t)
  settle_group_of_walks None c = c
  settle_group_of_walks (Some g) {t = t} c = settled (group_settles g t) c

  pub work_deleted_walks : (i : ℕ) {t : Core} → MayRemoveWork a i t → Keep a b t → Keep a b (work_deleted i t)
  unfolding work_deleted
  work_deleted_walks i {t = t} ok c = settle_group_of_walks (work_group i t) (primitive (RemoveWork i) ok c)

  pub cancel_stops_walks : AtOps a b n → (sub : Subtask) {t : Core} → join_of sub t ≡ join_of sub a.base → is_sync_cancel (op_in a n) ≡ true → Leaves a n → MayCancel a n sub → (is_joined (join_of sub a.base) ≡ false) ⊎ (op_progress_of n a.base ≡ OpProgress.Cancels sub) → subtask_ended sub t ≡ false → Keep a b t → Trip a b (cancel_stops n sub t)
  unfolding cancel_stops set_saved_callee on_thread
  cancel_stops_walks at sub {t = t} same can leave has free unended c =
      let u = set_join sub (Join.Watched n) (set_saved_callee n None t) in
      let e = checked_walks (instance_of n t) (join_walks sub (Join.Watched n) (is, (cancels_own a n sub has, (free, grind (arith, same)))) (primitive (SetSavedCallee n None) tt c)) in
      let d = stopped_walks (checked (instance_of n t) u) leave e in
      let i = instance_of n t in
      let v = stopped (foot_of n (checked i u)) (checked i u) in
      let moved = shifted_after (shifts_shifted (checked_shifts i u)) (shifted_after (placing_shifted (Stop (foot_of n (checked i u))) (checked i u)) (placing_shifted (Move n (Place.Blocked sub)) v)) in
      let still_open : subtask_ended sub v ≡ false = shifted_ended sub (shifted_after (shifts_shifted (checked_shifts i u)) (placing_shifted (Stop (foot_of n (checked i u))) (checked i u))) ∙ (joined_ended sub (Join.Watched n) (set_saved_callee n None t) ∙ (saved_ended sub n None t ∙ unended)) in
      lands_at (Move n (Place.Blocked sub)) n (OpProgress.AwaitsEnd sub) (grind (arith, nat_tests)) (Blocks sub leave (inl (cancels_own a n sub has)) (inr still_open) (work_open sub v still_open) refl) (leave, (has, shifted_watches n sub moved ∙ joined_watches n sub (set_saved_callee n None t))) (at _ d) can (halted_at n e) d

  -- the op that cancels is done before the subtask leaves the thread's own set
  pub parted_answers_walks : (d : Doer) → CanFinish d a b n → (v : ℕ) (sub : Subtask) {t : Core} → Cancelling a n sub → join_of sub t ≡ join_of sub a.base → Keep a b t → Going a b n (answered_by d n v (set_join sub Join.Nowhere t))
  unfolding assigned advanced moved_to set_op_progress set_position on_thread set_register set_saved_callee set_join on_call on_work
  parted_answers_walks (OwnScript r) on v (Subtask.Guest k) {t = t} far same c to =
      Then _ (SetCallJoin k Join.Nowhere) (answered_walks n is (OwnScript r) on v c to) (n, (is, (cancels_own a n (Subtask.Guest k) (inr far), inr (far, (answered_fresh (OwnScript r) n v t, same)))))
  parted_answers_walks (OwnScript r) on v (Subtask.Host i) {t = t} far same c to =
      Then _ (SetWorkJoin i Join.Nowhere) (answered_walks n is (OwnScript r) on v c to) (n, (is, (cancels_own a n (Subtask.Host i) (inr far), inr (far, (answered_fresh (OwnScript r) n v t, same)))))
  parted_answers_walks SomeHost on v (Subtask.Guest k) {t = t} far same c to =
      Then _ (SetCallJoin k Join.Nowhere) (answered_walks n is SomeHost on v c to) (n, (is, (cancels_own a n (Subtask.Guest k) (inr far), inr (far, (answered_fresh SomeHost n v t, same)))))
  parted_answers_walks SomeHost on v (Subtask.Host i) {t = t} far same c to =
      Then _ (SetWorkJoin i Join.Nowhere) (answered_walks n is SomeHost on v c to) (n, (is, (cancels_own a n (Subtask.Host i) (inr far), inr (far, (answered_fresh SomeHost n v t, same)))))

  pub parted_takes_walks : (d : Doer) → CanFinish d a b n → (v : ℕ) (sub : Subtask) {t : Core} → Cancelling a n sub → join_of sub t ≡ join_of sub a.base → Keep a b t → Going a b n (answered_by d n v (set_event sub None (set_join sub Join.Nowhere t)))
  unfolding assigned advanced moved_to set_op_progress set_position on_thread set_register set_saved_callee set_join set_event on_call on_work
  parted_takes_walks (OwnScript r) on v (Subtask.Guest k) far same c to =
      Then _ (SetCallEvent k None) (parted_answers_walks (OwnScript r) on v (Subtask.Guest k) far same c to) (TakesCancelled n is far)
  parted_takes_walks (OwnScript r) on v (Subtask.Host i) far same c to =
      Then _ (TakeWorkEvent i) (parted_answers_walks (OwnScript r) on v (Subtask.Host i) far same c to) (n, (is, cancels_own a n (Subtask.Host i) (inr far)))
  parted_takes_walks SomeHost on v (Subtask.Guest k) far same c to =
      Then _ (SetCallEvent k None) (parted_answers_walks SomeHost on v (Subtask.Guest k) far same c to) (TakesCancelled n is far)
  parted_takes_walks SomeHost on v (Subtask.Host i) far same c to =
      Then _ (TakeWorkEvent i) (parted_answers_walks SomeHost on v (Subtask.Host i) far same c to) (n, (is, cancels_own a n (Subtask.Host i) (inr far)))

  behind_switch_walks : (o : Option ℕ) (h : OpProgress) {t : Core} → is_some o ≡ true → t.queues.switch ≡ o → Leaves a n → ((u : Core) → Shifted t u → MayCome a n h u) → AtOp a n t → can_come (op_in a n) h ≡ true → Keep a b t → Trip a b (set_op_progress n h (behind_switch n o t))
  behind_switch_walks None h stands is leave comes at can c = absurd (grind arith)
  behind_switch_walks (Some m) h {t = t} stands is leave comes at can c = lands_at (GoBehind (foot_of m t) n) n h refl (leave, inr (m, (is, refl))) (comes (after_placing (GoBehind (foot_of m t) n) t) (placing_shifted (GoBehind (foot_of m t) n) t)) at can tt c

  pub cancel_goes_behind_walks : AtOps a b n → (k : ℕ) {t : Core} → is_some t.queues.switch ≡ true → join_of (Subtask.Guest k) t ≡ join_of (Subtask.Guest k) a.base → is_cancel (op_in a n) ≡ true → Leaves a n → MayCancel a n (Subtask.Guest k) → is_joined (join_of (Subtask.Guest k) a.base) ≡ false → Keep a b t → Trip a b (cancel_goes_behind n k t)
  unfolding cancel_goes_behind set_join on_call set_do_not_suspend on_instance set_saved_callee on_thread
  cancel_goes_behind_walks at k {t = t} stands same can leave has free c =
      let j = call_instance k t in
      let v = set_do_not_suspend j false (set_saved_callee n (Some (may_not_suspend j t)) t) in
      let d = join_walks (Subtask.Guest k) (Join.Watched n) (is, (cancels_own a n (Subtask.Guest k) has, (inl free, grind (arith, same)))) (primitive (SetDoNotSuspend j false) tt (primitive (SetSavedCallee n (Some (may_not_suspend j t))) tt c)) in
      behind_switch_walks t.queues.switch (OpProgress.Cancels (Subtask.Guest k)) stands refl leave (λ u moved. (leave, (has, shifted_watches n (Subtask.Guest k) moved ∙ joined_watches n (Subtask.Guest k) v))) (at _ d) can d

  pub withdrawn_walks : (k : ℕ) {t : Core} → MayWithdraw a k t → NoneCame a t → SaysEnd a k Status.StartCancelled → Keep a b t → Keep a b (withdrawn k t)
  unfolding withdrawn remove_thread set_end
  withdrawn_walks k {t = t} ok none says c =
      subst (λ (v : Core). Keep a b (set_uninteresting k (set_exited k (call_ends k CallEnd.StartCancelled v)))) (withdraws k t)
      (primitive (SetUninteresting k) tt (primitive (SetExited k) tt (primitive (EndCall k CallEnd.StartCancelled) (IsWithdrawn ok (ap (λ (o : Option Thread). is_none o) (get-remove_same t.threads k)) refl, says) (primitive (Withdraw k) (ok, (says, none)) c))))

-- ---- A new call

-- The call was just made with this goal, with its thread.
pub record Born (m : ℕ) (g : Goal) (t : Core) : Type 0 where
  pub place : place_of m t ≡ Some Place.New
  pub explicit : is_explicit m t ≡ false
  pub goal : goal_of (task_of m t) t ≡ g
  pub made : t.made.threads ≡ m

pub call_born : (f : Caller) (e : Callee) (x : ExportKind) (g : Goal) (group : ℕ) (words : List ℕ) (s : Core) → Born (next_thread s) g (call_made f e x g group words s)
unfolding call_made add_thread add_call
call_born f e x g group words s = grind (arith, nat_tests, get-insert)

-- where the thread is put or goes no more is said than whose it is
shifted_new : (a : Scene) (m : ℕ) (s t : Core) → m ≡ next_thread a.base → Shifted s t → (s.made.threads ≡ m) × (is_explicit m s ≡ false) → IsNew a (Subtask.Guest m) t
shifted_new a m s t is h e = (is, (ap (λ (d : MadeCounts). d.threads) (shifted_made h) ∙ e.0, shifted_explicit h m ∙ e.1))

cleared : (n j : ℕ) (k : ExportKind) (m : ℕ) (t : Core) → let v = call_clears_flag n j k t in
    (v.made.threads ≡ t.made.threads) × ((is_explicit m v ≡ is_explicit m t) × ((is_some (place_of m v) ≡ is_some (place_of m t)) × (v.calls ≡ t.calls)))
unfolding set_do_not_suspend on_instance set_saved_callee on_thread
cleared n j k m t = (grind arith, (grind (arith, nat_tests, get-change), (grind (arith, nat_tests, get-change), grind arith)))

-- what is at switch stays there
cleared_switch : (n j : ℕ) (k : ExportKind) (t : Core) → (call_clears_flag n j k t).queues.switch ≡ t.queues.switch
unfolding set_do_not_suspend on_instance set_saved_callee on_thread
cleared_switch n j k t = grind arith

put_stands : (m : ℕ) (w : Why) (t : Core) → (put_switch m w t).queues.switch ≡ Some m
unfolding put_switch set_switch
put_stands m w t = refl

-- a call that is made brings no thread behind another one
made_behind : (f : Caller) (e : Callee) (x : ExportKind) (g : Goal) (group : ℕ) (words : List ℕ) (s : Core) (n h : ℕ) →
    place_of n (call_made f e x g group words s) ≡ Some (Place.Behind h) → place_of n s ≡ Some (Place.Behind h)
unfolding call_made add_thread add_call
made_behind f e x g group words s n h at = grind (arith, nat_tests, get-insert)

-- ---- Whose the new call is

made_called : (n : ℕ) (e : Callee) (x : ExportKind) (g : Goal) (group : ℕ) (words : List ℕ) (s : Core) → HasCalled n (next_thread s) (call_made (Caller.Thread n) e x g group words s)
unfolding call_made add_thread add_call
made_called n e x g group words s =
    ((grind (arith, nat_tests, get-insert), grind (arith, nat_tests, get-insert)), (grind (arith, nat_tests, get-insert), (grind (arith, nat_tests, get-insert), grind (arith, nat_tests, get-insert))))

called_as : (n k : ℕ) (s t : Core) → t.calls ≡ s.calls → HasCalled n k s → HasCalled n k t
called_as n k s t same is =
    ((grind (arith, is.0.0), grind (arith, is.0.1)), (grind (arith, is.1.0), (grind (arith, is.1.1.0), grind (arith, is.1.1.1))))

-- a direct call that has begun
entered : (n : ℕ) (e : Callee) (k : ExportKind) (words : List ℕ) (group : ℕ) (s : Core) →
    let m = next_thread s in
    let t = with_thread_handle e.instance m (call_made (Caller.Thread n) e k Goal.Direct group words s) in
    let u = sync_sets_flag m e.instance k (set_started m t) in
    ((t.made.threads ≡ m) × (is_explicit m t ≡ false)) × (Born m Goal.Direct u × ((is_begun m u ≡ true) × HasCalled n m u))
unfolding call_made add_thread add_call with_thread_handle set_thread_handle give_thread_handle on_thread set_started on_call set_do_not_suspend on_instance set_saved_own
entered n e k words group s = (
  (refl, grind (arith, nat_tests, get-insert, get-change)),
  (
    grind (arith, nat_tests, get-insert, get-change),
    (
      grind (arith, nat_tests, get-insert, get-change),
      (
        (grind (arith, nat_tests, get-insert, get-change), grind (arith, nat_tests, get-insert, get-change)),
        (grind (arith, nat_tests, get-insert, get-change), (grind (arith, nat_tests, get-insert, get-change), grind (arith, nat_tests, get-insert, get-change))),
      ),
    ),
  ),
)

module _ {a : Scene} (n : ℕ) (is : IsRunner a n) where
  pub call_queues_walks : a.turn ≡ Turn.Run n → is_some (callee_of_op (op_in a n)) ≡ true → (e : Callee) (k : ExportKind) (g : Goal) (words : List ℕ) → Leaves a n → MayMakeCall a (Caller.Thread n) e k g (thread_group n a.base) a.base → is_direct g ≡ false → Trip a a.base (call_queues n e k g words a.base)
  unfolding call_queues
  call_queues_walks runs can e k g words leave ok plain =
      let s = a.base in
      let m = next_thread s in
      let t = call_made (Caller.Thread n) e k g (thread_group n s) words s in
      let h : Born m g t = call_born (Caller.Thread n) e k g (thread_group n s) words s in
      let p = Put Mark.Switch m Why.Start in
      let u = put_switch m Why.Start t in
      let d : Shifted t u = placing_shifted p t in
      let v = call_clears_flag n e.instance k u in
      let same = cleared n e.instance k m u in
      let new : (v.made.threads ≡ m) × (is_explicit m v ≡ false) = (same.0 ∙ (ap (λ (r : MadeCounts). r.threads) (shifted_made d) ∙ h.made), same.1.0 ∙ (shifted_explicit d m ∙ h.explicit)) in
      let w = behind_one m n v in
      let c : Keep a s v = call_clears_flag_walks n is e.instance k (placed p (inr (Starts h.place h.explicit (ap (λ (y : Goal). is_direct y) h.goal ∙ plain) refl, ((n, runs), made_behind (Caller.Thread n) e k g (thread_group n s) words s))) (primitive (MakeCall (Caller.Thread n) e k g (thread_group n s) words) ok NoPrimitive)) in
      let called : HasCalled n m w = called_as n m t w (shifted_calls (placing_shifted (GoBehind m n) v) ∙ (same.1.1.1 ∙ shifted_calls d)) (made_called n e k g (thread_group n s) words s) in
      lands_at (GoBehind m n) n (OpProgress.Calls (Subtask.Guest m)) refl (leave, inl (cleared_switch n e.instance k u ∙ put_stands m Why.Start t, refl)) (is, inr (shifted_new a m v w refl (placing_shifted (GoBehind m n) v) new, called)) (keep_still n runs c) can tt c

  pub enter_runs_walks : is_sync_call (op_in a n) ≡ true → is_some (callee_of_op (op_in a n)) ≡ true → (e : Callee) (k : ExportKind) (words : List ℕ) → a.turn ≡ Turn.Run n → a.next ≡ Turn.Run (next_thread a.base) → MayMakeCall a (Caller.Thread n) e k Goal.Direct (thread_group n a.base) a.base → Trip a a.base (enter_runs n e k words a.base)
  unfolding enter_runs
  enter_runs_walks sync can e k words runs to ok =
      let s = a.base in
      let m = next_thread s in
      let t = call_made (Caller.Thread n) e k Goal.Direct (thread_group n s) words s in
      let u = sync_sets_flag m e.instance k (set_started m (with_thread_handle e.instance m t)) in
      let new = entered n e k words (thread_group n s) s in
      let h : Born m Goal.Direct u = new.1.0 in
      let c : Keep a s u = sync_sets_flag_walks n is m e.instance k (primitive (SetStarted m) (inr ((refl, new.0), to)) (primitive (NameThread e.instance m) tt (primitive (MakeCall (Caller.Thread n) e k Goal.Direct (thread_group n s) words) ok NoPrimitive))) in
      lands_at (Enter n m) n (OpProgress.Calls (Subtask.Guest m)) refl (is, (to, (refl, (h.place, (ap (λ (y : Goal). is_direct y) h.goal, (runs, (new.1.1.0, (keep_still n runs c, sync)))))))) (is, inr (shifted_new a m u _ refl (placing_shifted (Enter n m) u) (h.made, h.explicit), called_as n m u (after_placing (Enter n m) u) (shifted_calls (placing_shifted (Enter n m) u)) new.1.1.1)) (keep_still n runs c) can tt c

pub enter_gives : (n : ℕ) (e : Callee) (k : ExportKind) (words : List ℕ) (s : Core) → (next_thread s == n) ≡ false → option_map_or is_running (place_of (next_thread s) (enter_runs n e k words s)) true ≡ true
unfolding enter_runs set_op_progress set_place on_thread
enter_gives n e k words s other = grind (arith, nat_tests, get-change, other)
