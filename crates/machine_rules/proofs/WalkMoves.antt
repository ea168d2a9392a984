-- The moves of the machine as chains of primitives.
use Rattle.machine_rules.proofs.Machine.{[], add_call, add_group, add_set, add_thread, add_work, Advance, after_placing, after_primitive, ap, arith, AtOp, blocked_on, Bool, ByHandle, call_group, call_made, call_settled, can_come, CanCome, checked, chosen, Core, count_work, Delivery, departed, Departs, end_of, ended, exited_if, false, first_entry, foot_of, free_handle, free_thread_handle, freed_thread_handle, FreeThreadHandle, get, get-change, get-insert, get-remove, get-remove_same, PickedEvent, give_handle, give_result, give_thread_handle, group_settled, Halted, Halts, handed_on, hands_on, has_ended, has_waiter, held_why_of, OpProgress, if◌then◌else◌, InOp, inr, instance_of, interest_settled, is_at, is_blocked_on, is_callback_waiter, is_deletable, is_done_host, is_explicit, is_finished, is_group_done, is_some, is_told, is_waiter, is_waiting_on, IsNamed, IsRunner, IsSettling, IsStarting, Join, join_of, Lands, lands_alone, lands_inside, LandsAt, le_refl, le_trans, Leaves, leaving, List, MakeThread, Mark, may_hand_on, may_not_suspend, may_publish, may_tell, may_wake, may_wake_joined, MayCome, MayDeliver, MayLand, MayPut, MayRemoveCall, PickedMember, nat_tests, NothingPicked, None, not, NoPrimitive, numbers, on_call, on_instance, on_thread, on_work, op_in, Option, option_map, option_map_or, TaskEvent, PickedTaskEvent, Place, place_of, Places, Placing, poll_pends, position_of, Promote, promoted, promoted_first, promoted_unless, published, push_high, Put, put_high, Quits, Records, refl, released, released_one, Releases, remove, remove_call, remove_group, remove_set, remove_thread, remove_work, RemoveCall, RemoveGroup, RemoveThread, Restart, Scene, set_backpressure, set_cancel_delivered, set_cancelled, set_course, set_do_not_enter, set_do_not_suspend, set_end, set_event, set_exited, set_op_progress, set_join, set_task_event, set_phase, set_position, set_register, set_result, set_saved_callee, set_saved_own, set_script, set_stage, set_started, set_starting_published, set_subtask_handle, set_thread_handle, set_trapped, set_uninteresting, set_memory_cell, SetCallEvent, SetCancelDelivered, SetExited, SetTaskEvent, Settles, SetUninteresting, Shifts, Some, Status, Stay, Stop, stopped, subst, Subtask, sym, take_result, TakeHost, taken, TakePush, TakesNamed, TakeWorkEvent, task_of, Tells, Then, Thread, thread_handle_of, told, Trip, true, Turn, unblocked, Unblocks, wake, wake_joined, wake_why, waken_by, Wakes, Walk, Why, with_handle, with_thread_handle, Primitive, work_queued, ℕ, ◌||◌, ◌∙◌, ◌∷◌, ◌≡◌, ◌≤◌}
use Rattle.machine_rules.proofs.{CallThreads.LastEnds, CallThreads.SameTasks, CallThreads.any_found, ChainLemmas.Keep, ChainLemmas.Keeps, ChainLemmas.along, ChainLemmas.chain_if, ChainLemmas.gone_walk, ChainLemmas.join, ChainLemmas.keep_stay, ChainLemmas.settle_keeps, ChainLemmas.settle_stays, ChainLemmas.shift_keeps, ChainLemmas.weaken, PlacingLemmas.Shifted, PlacingLemmas.placed, PlacingLemmas.placing_shifted, PlacingLemmas.popped_shifted, PlacingLemmas.unplaced, PromotionLemmas.first_has_entry, StandLemmas.set_place_is, StopLemmas.find_passes}
unfoldable use Rattle.machine_data.specs.Write.{arrive, set_cancel_asked}

-- ---- What other threads result in

put_shifts : (n : ℕ) (w : Why) (s : Core) → MayPut n w s → Shifts s (put_high n w s)
put_shifts n w s ok = placed (Put Mark.High n w) ok NoPrimitive

first_shifts : (i : ℕ) (s : Core) (o : Option ℕ) → first_entry i s ≡ o → s.queues.switch ≡ None → Shifts s (promoted_first o s)
first_shifts i s None e none = NoPrimitive
first_shifts i s (Some n) e none = placed (Promote n) (none, first_has_entry i s n e) NoPrimitive

pub checked_shifts : (i : ℕ) (s : Core) → Shifts s (checked i s)
unfolding checked
checked_shifts i s =
    chain_if (not (may_not_suspend i s) || is_some s.queues.switch) s (promoted_first (first_entry i s) s) (λ e. NoPrimitive)
    (λ e. first_shifts i s (first_entry i s) refl (grind (arith, e)))

released_one_shifts : (n : ℕ) (o : Option Why) (s : Core) → held_why_of n s ≡ o → Shifts s (released_one n o s)
released_one_shifts n None s e = NoPrimitive
released_one_shifts n (Some w) s e = put_shifts n w s (Releases (grind (arith, e)))

pub released_shifts : (ns : List ℕ) (s : Core) → Shifts s (released ns s)
unfolding released
released_shifts [] s = NoPrimitive
released_shifts (n ∷ ns) s = join (released_one_shifts n (held_why_of n s) s refl) (released_shifts ns (released_one n (held_why_of n s) s))

waken_shifts : (x n : ℕ) (s : Core) (b : Bool) → is_callback_waiter n s ≡ b → is_waiter x n s ≡ true → Shifts s (waken_by b x n s)
waken_shifts x n s true e h = put_shifts n (Why.Delivery (Delivery.Set x)) s (Wakes x h (ap (λ b. wake_why x b) (sym e)))
waken_shifts x n s false e h = put_shifts n Why.Resumption s (Wakes x h (ap (λ b. wake_why x b) (sym e)))

-- the chosen thread, if there is one, waits on the set
abbrev pub Chosen : ℕ → Option ℕ → Core → Type 0
Chosen x w s = (n : ℕ) → w ≡ Some n → is_waiter x n s ≡ true

pub wake_shifts : (x : ℕ) (w : Option ℕ) (s : Core) → Chosen x w s → Shifts s (wake x w s)
unfolding wake
wake_shifts x None s h = NoPrimitive
wake_shifts x (Some n) s h = waken_shifts x n s (is_callback_waiter n s) refl (h n refl)

pub chosen_of : (x : ℕ) (w : Option ℕ) (s : Core) → may_wake x w s ≡ true → Chosen x w s
unfolding may_wake
chosen_of x w s h n is = grind arith

-- the chosen thread waits on the set that the subtask is in
abbrev pub ChosenIn : Join → Option ℕ → Core → Type 0
ChosenIn j w s = (x : ℕ) → j ≡ Join.Set x → Chosen x w s

pub chosen_in_of : (j : Join) (w : Option ℕ) (s : Core) → may_wake_joined j w s ≡ true → ChosenIn j w s
chosen_in_of j w s h x is n at = grind (arith, chosen_of x w s)

pub none_waits : (x n : ℕ) (s : Core) → has_waiter x s ≡ false → is_waiter x n s ≡ false
unfolding has_waiter get
none_waits x n s h = let found = any_found (λ (t : Thread). is_waiting_on x t.place) n s.threads.list in grind arith

-- where none is chosen, nobody waits on that set
abbrev pub Spares : Join → Option ℕ → Core → Type 0
Spares j w s = (x : ℕ) → j ≡ Join.Set x → w ≡ None → (n : ℕ) → is_waiter x n s ≡ false

pub spares_of : (j : Join) (w : Option ℕ) (s : Core) → may_wake_joined j w s ≡ true → Spares j w s
unfolding may_wake
spares_of j w s h x is none n = none_waits x n s (grind arith)

wake_joined_shifts : (j : Join) (w : Option ℕ) (s : Core) → ChosenIn j w s → Shifts s (wake_joined j w s)
wake_joined_shifts (Join.Set x) w s h = wake_shifts x w s (h x refl)
wake_joined_shifts _ w s h = NoPrimitive

-- a thread elsewhere gets an entry: who waits on x still does
waiter_put : (x n m : ℕ) (w : Why) (p : Place) (s : Core) → place_of m s ≡ Some p → is_waiting_on x p ≡ false → is_waiter x n s ≡ true →
    is_waiter x n (put_high m w s) ≡ true
unfolding put_high push_high
waiter_put x n m w p s at other h = grind (arith, nat_tests, set_place_is n m (Place.Ready Mark.High w) s)

-- ---- A blocked thread

pub blocked_place : (sub : Subtask) (o : Option Place) → option_map_or (is_blocked_on sub) o false ≡ true → o ≡ Some (Place.Blocked sub)
blocked_place sub o h = grind (arith, nat_tests)

pub blocked_at : (sub : Subtask) (s : Core) (m : ℕ) → blocked_on sub s ≡ Some m → place_of m s ≡ Some (Place.Blocked sub)
unfolding blocked_on
blocked_at sub s m h = blocked_place sub (place_of m s) (find_passes (λ k. is_at k s (is_blocked_on sub)) (numbers s.threads) m h)

-- the thread is blocked on the subtask
abbrev pub IsBlocked : Subtask → Option ℕ → Core → Type 0
IsBlocked sub o s = (m : ℕ) → o ≡ Some m → place_of m s ≡ Some (Place.Blocked sub)

pub unblocked_shifts : (sub : Subtask) (o : Option ℕ) (s : Core) → is_done_host sub s ≡ true → IsBlocked sub o s → Shifts s (unblocked o s)
unblocked_shifts sub None s done h = NoPrimitive
unblocked_shifts sub (Some m) s done h = put_shifts m Why.Resumption s (Unblocks sub (h m refl) done refl)

chosen_unblocked : (sub : Subtask) (o : Option ℕ) (x : ℕ) (w : Option ℕ) (s : Core) → IsBlocked sub o s → Chosen x w s → Chosen x w (unblocked o s)
chosen_unblocked sub None x w s h c = c
chosen_unblocked sub (Some m) x w s h c = λ n is. waiter_put x n m Why.Resumption (Place.Blocked sub) s (h m refl) refl (c n is)

chosen_released_one : (n : ℕ) (o : Option Why) (x : ℕ) (w : Option ℕ) (s : Core) → held_why_of n s ≡ o → Chosen x w s → Chosen x w (released_one n o s)
chosen_released_one n None x w s e c = c
chosen_released_one n (Some v) x w s e c = λ k is. waiter_put x k n v (Place.Held v) s (grind (arith, e)) refl (c k is)

pub chosen_released : (ns : List ℕ) (x : ℕ) (w : Option ℕ) (s : Core) → Chosen x w s → Chosen x w (released ns s)
unfolding released
chosen_released [] x w s c = c
chosen_released (n ∷ ns) x w s c = chosen_released ns x w (released_one n (held_why_of n s) s) (chosen_released_one n (held_why_of n s) x w s refl c)

-- who is released waits on no set
spared_one : (m : ℕ) (o : Option Why) (x n : ℕ) (s : Core) → is_waiter x n s ≡ false → is_waiter x n (released_one m o s) ≡ false
unfolding put_high push_high
spared_one m None x n s h = h
spared_one m (Some v) x n s h = grind (arith, nat_tests, set_place_is n m (Place.Ready Mark.High v) s)

pub spared_released : (ns : List ℕ) (x n : ℕ) (s : Core) → is_waiter x n s ≡ false → is_waiter x n (released ns s) ≡ false
unfolding released
spared_released [] x n s h = h
spared_released (m ∷ ns) x n s h = spared_released ns x n (released_one m (held_why_of m s) s) (spared_one m (held_why_of m s) x n s h)

-- ---- How far a thread comes in its script

-- no primitive but that of an op that is done brings a thread further
kept_primitive : (a : Scene) (n : ℕ) (w : Primitive) (s : Core) → Keeps a w s → position_of n (after_primitive w s) ≤ position_of n s
unfolding arrive set_cancel_asked add_call add_group add_set add_thread add_work call_made count_work free_handle free_thread_handle give_handle give_result give_thread_handle on_call on_instance on_thread on_work poll_pends push_high remove_call remove_group remove_set remove_thread remove_work set_backpressure set_cancel_delivered set_cancelled set_course set_do_not_enter set_do_not_suspend set_end set_event set_exited set_op_progress set_join set_task_event set_phase set_position set_register set_result set_saved_callee set_saved_own set_script set_stage set_started set_starting_published set_subtask_handle set_thread_handle set_trapped set_uninteresting set_memory_cell take_result with_handle with_thread_handle work_queued
kept_primitive a n (Places p) s ok = let same = (placing_shifted p s).threads n in grind (arith, same)
kept_primitive a n (Advance m p) s ok = absurd ok
kept_primitive a n (TakePush m i) s ok = let same = (popped_shifted m s).threads n in grind (arith, same)
kept_primitive a n (TakeHost m i) s ok = let same = (popped_shifted m s).threads n in grind (arith, same)
kept_primitive a n (MakeThread t) s ok = grind (arith, nat_tests, get-insert, ok.1.1.1.1.1.0)
kept_primitive a n w s ok = grind (arith, nat_tests, get-change, get-insert, get-remove)

pub keep_position : {a : Scene} {b t : Core} (n : ℕ) → Keep a b t → position_of n t ≤ position_of n b
keep_position {a = a} {b = b} n c = along (λ u. position_of n u ≤ position_of n b) (λ w s ok low. le_trans (kept_primitive a n w s ok) low) (le_refl _) c

-- ---- The op at which the running thread is

-- As many threads were made, at least, and the thread, if it is there, is where it was in its script.
pub record StillAt (n : ℕ) (b s : Core) : Type 0 where
  pub made : b.made.threads ≤ s.made.threads
  pub position : is_some (get s.threads n) ≡ true → position_of n s ≡ position_of n b

same_at : (n : ℕ) (b s t : Core) → t.made ≡ s.made → option_map unplaced (get t.threads n) ≡ option_map unplaced (get s.threads n) → StillAt n b s → StillAt n b t
same_at n b s t made same q = record { made = rw made q.made; position = grind (arith, q.position) }

module _ (a : Scene) (n : ℕ) (runs : place_of n a.base ≡ Some Place.Running) (below : n ≤ a.base.made.threads) where
  still_primitive : (w : Primitive) (s : Core) → Keeps a w s → StillAt n a.base s → StillAt n a.base (after_primitive w s)
  unfolding arrive set_cancel_asked add_call add_group add_set add_thread add_work call_made count_work free_handle free_thread_handle give_handle give_result give_thread_handle on_call on_instance on_thread on_work poll_pends push_high remove_call remove_group remove_set remove_thread remove_work set_backpressure set_cancel_delivered set_cancelled set_course set_do_not_enter set_do_not_suspend set_end set_event set_exited set_op_progress set_join set_task_event set_phase set_position set_register set_result set_saved_callee set_saved_own set_script set_stage set_started set_starting_published set_subtask_handle set_thread_handle set_trapped set_uninteresting set_memory_cell take_result with_handle with_thread_handle work_queued
  still_primitive (Places p) s ok q = same_at n a.base s _ refl ((placing_shifted p s).threads n) q
  still_primitive (Advance m p) s ok q = absurd ok
  still_primitive (Restart m) s ok q = record { made = q.made; position = grind (arith, nat_tests, get-change, q.position, ok, runs) }
  still_primitive (TakePush m i) s ok q = same_at n a.base s _ refl ((popped_shifted m s).threads n) q
  still_primitive (TakeHost m i) s ok q = same_at n a.base s _ refl ((popped_shifted m s).threads n) q
  still_primitive w s ok q = record {
    made = let m = q.made in omega (arith, m);
    position = let m = q.made in grind (arith, nat_tests, get-change, get-insert, get-remove, q.position, m, below);
  }

-- no primitive before those of an op that is done brings the running thread further
pub keep_at : {a : Scene} {b t : Core} (n : ℕ) → a.turn ≡ Turn.Run n → StillAt n a.base b → Keep a b t → AtOp a n t
keep_at {a = a} n to first c = (to, λ runs below there. (along (StillAt n a.base) (still_primitive a n runs below) first c).position (grind arith))

pub still_first : (n : ℕ) (s : Core) → StillAt n s s
still_first n s = record { made = le_refl _; position = λ e. refl }

pub keep_still : {a : Scene} {t : Core} (n : ℕ) → a.turn ≡ Turn.Run n → Keep a a.base t → AtOp a n t
keep_still {a = a} n to c = keep_at n to (still_first n a.base) c

placed_at_op : (a : Scene) (n : ℕ) (s t : Core) → Shifted s t → AtOp a n s → AtOp a n t
placed_at_op a n s t d at = let h = d.threads n in (at.0, λ runs below there. grind (arith, at.1 runs below))

-- ---- Chains of all primitives

module _ {a : Scene} {b : Core} where
  pub primitive : (w : Primitive) {s : Core} → Keeps a w s → Keep a b s → Keep a b (after_primitive w s)
  primitive w {s = s} ok c = Then s w c ok

  pub shifted : {s t : Core} → Shifts s t → Keep a b s → Keep a b t
  shifted d c = join c (weaken (shift_keeps a) d)

  pub settled : {s t : Core} → Settles s t → Keep a b s → Keep a b t
  settled d c = join c (weaken (settle_keeps a) d)

  -- the strand stops
  pub stopped_on : (f : ℕ) {s : Core} → a.next ≡ Turn.Main → Keep a b s → Keep a b (stopped f s)
  stopped_on f to c = placed (Stop f) (inr to) c

  pub halted_from : (n : ℕ) {s t : Core} → Keep a b s → Keep a s t → Halted a b n (stopped (foot_of n s) t)
  halted_from n {s = s} {t = t} c d = record {
    at = s;
    first = keep_stay c;
    before = t;
    stays = keep_stay d;
    rest = subst (λ (u : Core). Stay a (after_primitive (Places (Stop (foot_of n s))) t) u) (placing_shifted (Stop (foot_of n s)) t).only NoPrimitive;
  }

  pub halted_at : (n : ℕ) {s : Core} → Keep a b s → Halted a b n (stopped (foot_of n s) s)
  halted_at n c = halted_from n c NoPrimitive

  pub halted_on : {n : ℕ} {s t : Core} → Halted a b n s → Keep a s t → Halted a b n t
  halted_on h c = record { at = h.at; first = h.first; before = h.before; stays = h.stays; rest = join h.rest (keep_stay c) }

  -- where the running thread comes to
  pub lands : (p : Placing) {s : Core} → lands_alone p ≡ true → MayLand a p s → Halts a b (leaving p) s → Keep a b s → Trip a b (after_placing p s)
  lands p {s = s} fit ok halts c = subst (λ (t : Core). Trip a b t) (placing_shifted p s).only (Lands s p (keep_stay c) ok fit halts)

  pub lands_at : (p : Placing) (n : ℕ) (h : OpProgress) {s : Core} → lands_inside p h ≡ true → MayLand a p s → MayCome a n h (after_placing p s) → AtOp a n s → can_come (op_in a n) h ≡ true → Halts a b (leaving p) s → Keep a b s → Trip a b (set_op_progress n h (after_placing p s))
  lands_at p n h {s = s} fit ok comes at can halts c =
      let is = (placing_shifted p s).only in
      subst (λ (t : Core). Trip a b (set_op_progress n h t)) is (LandsAt s p n h (keep_stay c) ok fit (subst (λ (t : Core). MayCome a n h t × CanCome a n h t) (sym is) (comes, InOp (placed_at_op a n s _ (placing_shifted p s) at) can)) halts)

-- an entry whose place says that it is there is promoted beside a running thread
pub promoted_walks : {a : Scene} {b : Core} (m n : ℕ) {s : Core} → a.turn ≡ Turn.Run m → (x : Mark) × ((w : Why) × (place_of n s ≡ Some (Place.Ready x w))) → Keep a b s → Keep a b (promoted_unless n s)
unfolding promoted_unless
promoted_walks m n {s = s} runs ready c = chain_if (is_some s.queues.switch) s (promoted n s) (λ e. c) (λ e. placed (Promote n) (inr (grind (arith, e), (m, (runs, ready)))) c)

-- ---- Published

pub evented : (sub : Subtask) (e : Option Status) (s : Core) → ((m : ℕ) → place_of m (set_event sub e s) ≡ place_of m s) × (is_done_host sub (set_event sub e s) ≡ is_done_host sub s)
unfolding set_event on_call on_work
evented sub e s = (λ m. grind arith, grind (arith, nat_tests, get-change))

pub published_shifts : (sub : Subtask) (e : Status) (w : Option ℕ) (s : Core) → is_done_host sub s ≡ true → ChosenIn (join_of sub s) w s → Shifts (set_event sub (Some e) s) (published sub e w s)
unfolding published
published_shifts sub e w s done chosen =
    let t = set_event sub (Some e) s in
    let o = blocked_on sub s in
    let q = evented sub (Some e) s in
    let at : IsBlocked sub o t = λ m is. q.0 m ∙ blocked_at sub s m is in
    join (unblocked_shifts sub o t (q.1 ∙ done) at)
    (wake_joined_shifts (join_of sub s) w (unblocked o t) (λ x is. chosen_unblocked sub o x w t at (λ n by. ap (λ p. option_map_or (is_waiting_on x) p false) (q.0 n) ∙ chosen x is n by)))

-- the thread chosen where the call's status is told
abbrev pub ToldTo : ℕ → Option ℕ → Core → Type 0
ToldTo k w s = is_told k s ≡ true → ChosenIn (join_of (Subtask.Guest k) s) w s

pub told_to : (k : ℕ) (w : Option ℕ) (s : Core) → may_tell k w s ≡ true → ToldTo k w s
unfolding may_tell may_publish
told_to k w s h told = chosen_in_of (join_of (Subtask.Guest k) s) w s (grind arith)

abbrev pub ToldSpares : ℕ → Option ℕ → Core → Type 0
ToldSpares k w s = is_told k s ≡ true → Spares (join_of (Subtask.Guest k) s) w s

pub told_spares : (k : ℕ) (w : Option ℕ) (s : Core) → may_tell k w s ≡ true → ToldSpares k w s
unfolding may_tell may_publish
told_spares k w s h told = spares_of (join_of (Subtask.Guest k) s) w s (grind arith)

-- where the call's status is told, it is its event
abbrev pub told_at : ℕ → Status → Core → Core
told_at k e s = if is_told k s then set_event (Subtask.Guest k) (Some e) s else s

pub told_shifts : (k : ℕ) (e : Status) (w : Option ℕ) (s : Core) → ToldTo k w s → Shifts (told_at k e s) (told k e w s)
unfolding told
told_shifts k e w s to = by (is_told k s) refl
  where
    by : (b : Bool) → is_told k s ≡ b → Shifts (if b then set_event (Subtask.Guest k) (Some e) s else s) (if b then published (Subtask.Guest k) e w s else s)
    by true is = published_shifts (Subtask.Guest k) e w s refl (to is)
    by false is = NoPrimitive

module _ {a : Scene} {b : Core} where
  pub told_walks : (k : ℕ) (e : Status) (w : Option ℕ) {s : Core} → (is_told k s ≡ true → Tells e k a.base s) → IsStarting a k s → ToldTo k w s → Keep a b s → Keep a b (told k e w s)
  told_walks k e w {s = s} tells starts to c =
      shifted (told_shifts k e w s to) (chain_if (is_told k s) (set_event (Subtask.Guest k) (Some e) s) s (λ is. primitive (SetCallEvent k (Some e)) (is, (tells is, starts)) c) (λ is. c))

-- ---- Given and handed on

pub handed_on_shifts : (x : ℕ) (g : PickedEvent) (w : Option ℕ) (s : Core) → may_hand_on x g w s ≡ true → Shifts s (handed_on x g w s)
unfolding handed_on may_hand_on
handed_on_shifts x g w s h = chain_if (hands_on x g s) (wake x w s) s (λ e. wake_shifts x w s (chosen_of x w s (grind arith))) (λ e. NoPrimitive)

-- what the running thread's task may take
abbrev pub MayTake : Scene → ℕ → PickedEvent → Type 0
MayTake a k (PickedTaskEvent e) = ((n : ℕ) × (IsRunner a n × (k ≡ task_of n a.base))) × (e ≡ TaskEvent.Cancelled → MayDeliver a k)
MayTake a k (PickedMember sub) = IsNamed a sub
MayTake a k NothingPicked = Unit {0}

module _ {a : Scene} {b : Core} where
  pub taken_walks : (g : PickedEvent) (k : ℕ) {s : Core} → MayTake a k g → Keep a b s → Keep a b (taken g k s)
  unfolding taken
  taken_walks (PickedTaskEvent TaskEvent.None) k ok c = primitive (SetTaskEvent k None) ok.0 c
  taken_walks (PickedTaskEvent TaskEvent.Cancelled) k ok c = primitive (SetCancelDelivered k) (ok.1 refl) (primitive (SetTaskEvent k None) ok.0 c)
  taken_walks (PickedMember (Subtask.Guest q)) k ok c = primitive (SetCallEvent q None) (TakesNamed ok) c
  taken_walks (PickedMember (Subtask.Host i)) k ok c = primitive (TakeWorkEvent i) (ok.0, (ok.1.1.0, ByHandle ok.1.0 ok.1.1.1)) c
  taken_walks NothingPicked k ok c = c

-- ---- Settled

pub group_settles : (g : ℕ) (s : Core) → Settles s (group_settled g s)
unfolding group_settled
group_settles g s = chain_if (is_group_done g s) (remove_group g s) s (λ e. Then s (RemoveGroup g) NoPrimitive e) (λ e. NoPrimitive)

pub call_settles : (k : ℕ) (s : Core) → (is_deletable k s ≡ true → has_ended k s ≡ true) → Settles s (call_settled k s)
unfolding call_settled
call_settles k s over = chain_if (is_deletable k s) (group_settled (call_group k s) (remove_call k s)) s (λ e. join (Then s (RemoveCall k) NoPrimitive (e, over e)) (group_settles (call_group k s) (remove_call k s))) (λ e. NoPrimitive)

-- what is left of the call once the thread is gone
left_call : (n k : ℕ) (s : Core) → (is_some (get (interest_settled k (departed n s)).calls k) ≡ is_some (get s.calls k)) ×
    ((end_of k (interest_settled k (departed n s)) ≡ end_of k s) × ((interest_settled k (departed n s)).threads ≡ remove s.threads n))
unfolding interest_settled set_uninteresting on_call set_exited free_thread_handle remove_thread
left_call n k s = (grind (arith, nat_tests, get-change), (grind (arith, nat_tests, get-change), grind arith))

departed_over : (n : ℕ) (s : Core) → LastEnds n s → is_deletable (task_of n s) (interest_settled (task_of n s) (departed n s)) ≡ true → has_ended (task_of n s) (interest_settled (task_of n s) (departed n s)) ≡ true
unfolding is_deletable
departed_over n s last gone =
    let k = task_of n s in
    let call = left_call n k s in
    let others : SameTasks n s (interest_settled k (departed n s)) = λ m other. ap (λ (r : Records Thread). option_map (λ (u : Thread). u.call) (get r m)) call.1.1 ∙ grind (arith, nat_tests, get-remove) in
    let over = last (interest_settled k (departed n s)) others gone in grind (arith, call.0, call.1.0, over, gone)

-- the thread is gone, and what becomes of its call
pub record Left (a : Scene) (b : Core) (n : ℕ) (t : Core) : Type 0 where
  pub before : Core
  pub stays : Keep a b before
  pub settles : Settles (after_primitive (RemoveThread n) before) t

-- with its strand stopped before
abbrev pub Gone : Scene → Core → ℕ → Core → Type 0
Gone a b n t = (e : Left a b n t) × Halted a b n e.before

module _ {a : Scene} {b : Core} where
  -- the op that was inside of the call is done
  pub call_done_walks : (k : ℕ) {s : Core} → (is_deletable k s ≡ true → MayRemoveCall a k s) → Stay a b s → Stay a b (call_settled k s)
  unfolding call_settled
  call_done_walks k {s = s} may c =
      chain_if (is_deletable k s) (group_settled (call_group k s) (remove_call k s)) s
      (λ is. join (Then s (RemoveCall k) c (may is)) (weaken (settle_stays a) (group_settles (call_group k s) (remove_call k s)))) (λ is. c)

  freed_thread_handle_walks : (i : ℕ) (o : Option ℕ) {s : Core} → Keep a b s → Keep a b (freed_thread_handle i o s)
  freed_thread_handle_walks i None c = c
  freed_thread_handle_walks i (Some h) c = primitive (FreeThreadHandle i h) tt c

  exited_if_walks : (explicit : Bool) (k : ℕ) {s : Core} → Keep a b s → Keep a b (exited_if explicit k s)
  exited_if_walks true k c = c
  exited_if_walks false k c = primitive (SetExited k) tt c

  departs_walks : (n : ℕ) {s : Core} → Keep a b s → Keep a b (freed_thread_handle (instance_of n s) (thread_handle_of n s) (exited_if (is_explicit n s) (task_of n s) s))
  departs_walks n {s = s} c = freed_thread_handle_walks (instance_of n s) (thread_handle_of n s) (exited_if_walks (is_explicit n s) (task_of n s) c)

  pub ended_walks : (n : ℕ) {s : Core} → LastEnds n s → Keep a b s → Left a b n (ended n s)
  unfolding ended interest_settled
  ended_walks n {s = s} last c =
      let f = freed_thread_handle (instance_of n s) (thread_handle_of n s) (exited_if (is_explicit n s) (task_of n s) s) in
      let r = remove_thread n f in
      record {
        before = f;
        stays = departs_walks n c;
        settles = join (chain_if (option_map_or is_finished (get r.calls (task_of n s)) false) (set_uninteresting (task_of n s) r) r (λ e. Then r (SetUninteresting (task_of n s)) NoPrimitive tt) (λ e. NoPrimitive)) (call_settles (task_of n s) (interest_settled (task_of n s) r) (λ gone. departed_over n s last gone));
      }

-- and its strand has stopped
pub ended_halts : {a : Scene} {b : Core} (n : ℕ) {s : Core} (last : LastEnds n s) (c : Keep a b s) → Halted a b n s → Gone a b n (ended n s)
unfolding ended_walks
ended_halts n {s = s} last c h = (ended_walks n last c, halted_on h (departs_walks {b = s} n NoPrimitive))

pub exits_trip : {a : Scene} {b : Core} (n : ℕ) {t : Core} → Leaves a n → Gone a b n t → Trip a b t
exits_trip n {t = t} leave e = Quits e.0.before t n (keep_stay e.0.stays) leave e.0.settles e.1

pub left_walk : {a : Scene} {b : Core} (n : ℕ) {t : Core} → Leaves a n → Left a b n t → Walk a b t
left_walk n leave e = gone_walk n (keep_stay e.stays) (Departs leave) e.settles

pub settle_threads : (w : Primitive) (s : Core) → IsSettling w s → (after_primitive w s).threads ≡ s.threads
unfolding set_uninteresting on_call remove_call remove_group
settle_threads (SetUninteresting k) s ok = refl
settle_threads (RemoveCall k) s ok = refl
settle_threads (RemoveGroup g) s ok = refl
settle_threads _ s ok = absurd ok

-- who ends is gone
pub left_gone : {a : Scene} {b : Core} (n : ℕ) {t : Core} → Left a b n t → get t.threads n ≡ None
unfolding remove_thread
left_gone n e =
    along (λ u. get u.threads n ≡ None) (λ w s ok gone. ap (λ (m : Records Thread). get m n) (settle_threads w s ok) ∙ gone) (get-remove_same e.before.threads n) e.settles
