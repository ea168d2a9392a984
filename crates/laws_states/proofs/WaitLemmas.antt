-- Of which instance the sets are that threads wait on, along the primitives of a step.
use Rattle.laws_states.proofs.Primitives.{add_call, add_group, add_set, add_thread, add_work, after_primitive, Allowed, any_found, ap, arith, AwaitsEvent, Blocks, by_number, ByDelivery, BySetHandle, ByWait, call_made, Came, came_primitive, CloseSet, Comes, ComesAgain, Core, count_work, false, FindsEvent, free_handle, free_thread_handle, get, get-insert, get-remove, give_handle, give_result, give_thread_handle, has_waiters, HasSet, Holds, op_progress_of, OpProgress, IfSome, inl, inr, instance_of, is_at_wait, is_some, is_there, is_wait, IsLaid, IsOf, IsRunner, JoinsNamed, keeps_set, Mark, MayClose, MayCome, MayMove, MayPut, MayStand, MayYield, Moved, nat_tests, None, on_call, on_instance, on_thread, on_work, op_came, op_in, OpenSet, Option, option_and_then, option_map, option_map_or, Place, place_of, poll_pends, push_high, refl, remove_call, remove_group, remove_set, remove_thread, remove_work, Runs, Scene, set_backpressure, set_cancel_delivered, set_cancelled, set_course, set_do_not_enter, set_do_not_suspend, set_end, set_event, set_exited, set_op_progress, set_join, set_of_op, set_of_place, set_of_why, set_task_event, set_phase, set_position, set_register, set_result, set_saved_callee, set_saved_own, set_script, set_stage, set_started, set_starting_published, set_subtask_handle, set_thread_handle, set_trapped, set_uninteresting, set_memory_cell, SetsNamed, Shifts, Some, Suspends, take_result, Thread, true, Turn, Turned, Turns, Uncovers, Waits, WaitsAgain, WaitsAtHome, WaitsPlaced, Why, with_handle, with_thread_handle, Primitive, work_queued, Yields, ℕ, ⊎_elim, ◌≡◌, ◌≤◌, ◌⊎◌}
unfoldable use Rattle.machine_data.specs.Write.{arrive, set_cancel_asked}

abbrev pub set_at_place : Option Place → Option ℕ
set_at_place o = option_and_then (λ p. set_of_place p) o

-- ---- Sets

-- nobody waits on the set, or has an entry for it
unkept : (x n : ℕ) (s : Core) → has_waiters x s ≡ false → (t : Thread) → get s.threads n ≡ Some t → keeps_set x t t.place ≡ false
unfolding has_waiters get
unkept x n s none t at = let found = any_found (λ (t : Thread). keeps_set x t t.place) n s.threads.list in grind arith

place_keeps : (x : ℕ) (t : Thread) (p : Place) → set_of_place p ≡ Some x → keeps_set x t p ≡ true
place_keeps x t p e = grind (arith, nat_tests)

unkept_runs : (x : ℕ) (t : Thread) (p : Place) → t.op_progress ≡ OpProgress.Waits x → is_at_wait x p ≡ true → keeps_set x t p ≡ false →
    p ≡ Place.Running
unkept_runs x t p far at free = grind (arith, nat_tests)

unwaited : (x n : ℕ) (s : Core) → has_waiters x s ≡ false → set_at_place (place_of n s) ≡ Some x → ⊥
unwaited x n s none at = go (get s.threads n) refl at
  where
    go : (o : Option Thread) → get s.threads n ≡ o → set_at_place (option_map (λ (t : Thread). t.place) o) ≡ Some x → ⊥
    go None is at = absurd (cc)
    go (Some t) is at = let free = unkept x n s none t is in let kept = place_keeps x t t.place at in absurd (grind arith)

unwaited_runs : (x n : ℕ) (s : Core) → has_waiters x s ≡ false → op_progress_of n s ≡ OpProgress.Waits x →
    option_map_or (is_at_wait x) (place_of n s) false ≡ true → place_of n s ≡ Some Place.Running
unwaited_runs x n s none far at = go (get s.threads n) refl far at
  where
    go : (o : Option Thread) → get s.threads n ≡ o → option_map_or (λ (t : Thread). t.op_progress) o OpProgress.Fresh ≡ OpProgress.Waits x →
        option_map_or (is_at_wait x) (option_map (λ (t : Thread). t.place) o) false ≡ true → option_map (λ (t : Thread). t.place) o ≡ Some Place.Running
    go None is far at = absurd (cc)
    go (Some t) is far at = ap (λ (p : Place). Some p) (unkept_runs x t t.place far at (unkept x n s none t is))

of_primitive : (i x : ℕ) (w : Primitive) (s : Core) → ((j h : ℕ) → w ≡ CloseSet j h x → ⊥) → (is_some (get s.sets x) ≡ true → x ≤ s.made.sets) →
    IsOf i x s → IsOf i x (after_primitive w s)
unfolding arrive set_cancel_asked on_thread add_group add_set add_work count_work free_handle free_thread_handle give_handle give_result give_thread_handle on_call on_instance on_work push_high remove_call remove_group remove_set remove_work remove_thread set_backpressure set_cancel_delivered set_cancelled set_course set_do_not_enter set_do_not_suspend set_end set_event set_exited set_op_progress set_join set_task_event set_phase set_position set_register set_result set_saved_callee set_saved_own set_script set_stage set_started set_starting_published set_subtask_handle set_thread_handle set_trapped set_uninteresting set_memory_cell take_result call_made add_call add_thread with_handle with_thread_handle work_queued poll_pends
of_primitive i x (OpenSet j) s other low h = grind (arith, nat_tests, get-insert)
of_primitive i x (CloseSet j g y) s other low h =
    by_number x y _ (λ e. absurd (other j g (rw e refl))) (λ apart. grind (arith, nat_tests, get-remove))
of_primitive i x w s other low h = h

-- ---- Threads

-- the thread runs or was taken, and has the set, or has a delivery for it; it doesn't run on
abbrev pub Brings : Scene → ℕ → ℕ → Type 0
Brings a n x = IsLaid a n × (HasSet a n x ⊎ (set_at_place (place_of n a.base) ≡ Some x))

put_set : (s : Core) (n : ℕ) (w : Why) → MayPut n w s → IfSome (set_of_why w) (λ x. set_at_place (place_of n s) ≡ Some x)
put_set s n w ok = grind arith

ready_set : (w : Why) (o : Option Place) → (m : Mark) × (o ≡ Some (Place.Ready m w)) → IfSome (set_of_why w) (λ x. set_at_place o ≡ Some x)
ready_set w o was = grind arith

yield_set : (a : Scene) (n : ℕ) (w : Why) → MayYield a n w → IfSome (set_of_why w) (Brings a n)
yield_set a n w (Yields l e) = rw e tt
yield_set a n w (ComesAgain l c e) = rw e tt
yield_set a n w (FindsEvent x l c g e) = rw e ((l.0, l.1.0), inl g)

stand_set : (a : Scene) (s : Core) (n x : ℕ) (w : Why) → MayStand a s n w → set_of_why w ≡ Some x →
    (set_at_place (place_of n s) ≡ Some x) ⊎ Brings a n x
stand_set a s n x w (inl e) h = absurd (cc)
stand_set a s n x w (inr (inl ok)) h = inl (rw h at (put_set s n w ok))
stand_set a s n x w (inr (inr ok)) h = inr (rw h at (yield_set a n w ok))

move_set : (a : Scene) (s : Core) (n : ℕ) (p : Place) → MayMove a n p s → IfSome (set_of_place p) (Brings a n)
move_set a s n p (Holds w l r out e) = rw e (held (set_of_why w) (ready_set w (place_of n a.base) r))
  where
    held : (o : Option ℕ) → IfSome o (λ x. set_at_place (place_of n a.base) ≡ Some x) → IfSome o (Brings a n)
    held None h = tt
    held (Some x) h = (l, inr h)
move_set a s n p (WaitsAgain x l r none e) = rw e (l, inl (ByDelivery r))
move_set a s n p (AwaitsEvent x l c r none e) = rw e ((l.0, l.1.0), inl r)
move_set a s n p (Waits x l r none e) = rw e ((l.0, l.1.0), inl r)
move_set a s n p (Runs r l b e) = rw e tt
move_set a s n p (Blocks sub l r o live e) = rw e tt
move_set a s n p (Suspends l e) = rw e tt
move_set a s n p (Uncovers m r l at gone e) = rw e tt

come_set : (a : Scene) (s : Core) (n : ℕ) (g : OpProgress) → MayCome a n g s → IfSome (set_of_op g) (Brings a n)
come_set a s n (OpProgress.Waits x) ok = ((ok.0.0, ok.0.1.0), inl ok.1.0)
come_set a s n g ok = tt

shifted_set : (may : Why → Type 0) (x : ℕ) (o p : Option Place) → Moved may o p → set_at_place p ≡ Some x →
    (set_at_place o ≡ Some x) ⊎ ((w : Why) × (may w × (set_of_why w ≡ Some x)))
shifted_set may x o p c h = grind arith

turned_set : (a : Scene) (s t : Core) (n x : ℕ) (o p : Option Place) → Turned a s t n o p → set_at_place p ≡ Some x → ⊥
turned_set a s t n x o p c h = grind arith

pub place_set : (a : Scene) (s t : Core) (n x : ℕ) (p : Option Place) → Came a s t n (place_of n s) p → set_at_place p ≡ Some x →
    (set_at_place (place_of n s) ≡ Some x) ⊎ Brings a n x
place_set a s t n x p (Shifts c) h =
    ⊎_elim (λ e. inl e) (λ e. stand_set a s n x e.0 e.1.0 e.1.1) (shifted_set (MayStand a s n) x (place_of n s) p c h)
place_set a s t n x p (Comes r ok e there) h = let is : set_of_place r ≡ Some x = cc in inr (rw is at (move_set a s n r ok))
place_set a s t n x p (Turns c) h = absurd (turned_set a s t n x (place_of n s) p c h)

pub op_set : (a : Scene) (w : Primitive) (s : Core) → Allowed a w s → (n x : ℕ) → set_of_op (op_progress_of n (after_primitive w s)) ≡ Some x →
    (set_of_op (op_progress_of n s) ≡ Some x) ⊎ Brings a n x
op_set a w s ok n x h =
    ⊎_elim (λ e. inl e) (λ g. inr (rw g.1.1 at (come_set a s n g.0 g.1.0))) (op_came (λ g. set_of_op g) x w s ok n refl h)

-- On the way of a step: the sets that threads wait on are there, and of the instances that they had before it. No set is gone where the
-- running thread doesn't run on, and else no op comes to be inside a wait.
pub record Homed (a : Scene) (s : Core) : Type 0 where
  pub homes : a.next ≡ Turn.Main → (i x : ℕ) → IsOf i x a.base → IsOf i x s
  pub by_place : (n x : ℕ) → set_at_place (place_of n s) ≡ Some x → IsOf (instance_of n a.base) x s × (is_there n a.base ≡ true)
  pub by_op : (n x : ℕ) → set_of_op (op_progress_of n s) ≡ Some x → IsOf (instance_of n a.base) x s × (is_there n a.base ≡ true)
  pub far : (n x : ℕ) → set_of_op (op_progress_of n s) ≡ Some x → (a.next ≡ Turn.Main) ⊎ (op_progress_of n a.base ≡ OpProgress.Waits x)

-- What is known before it.
pub record KnownHome (a : Scene) : Type 0 where
  pub there : (n : ℕ) → IsRunner a n → is_there n a.base ≡ true
  pub sets : SetsNamed a.base
  pub waits : WaitsAtHome a.base
  pub placed : WaitsPlaced a.base
  -- a thread that runs inside a wait is the one whose turn it is
  pub runs : (n x m : ℕ) → op_progress_of n a.base ≡ OpProgress.Waits x → place_of n a.base ≡ Some Place.Running → a.turn ≡ Turn.Run m →
      is_wait (op_in a m) ≡ true

module _ (a : Scene) (known : KnownHome a) where
  set_home : (n x : ℕ) → HasSet a n x → IsOf (instance_of n a.base) x a.base
  set_home n x (BySetHandle h e) = known.sets.home _ h x e
  set_home n x (ByWait e) = known.waits.by_op n x (ap set_of_op e)
  set_home n x (ByDelivery r) = known.waits.by_place n x (ap (λ o. option_and_then set_of_place o) r.1)

  module _ (s : Core) (joins : JoinsNamed s) (q : Homed a s) (w : Primitive) (ok : Allowed a w s) where
    abbrev Home : ℕ → ℕ → Type 0
    Home n x = IsOf (instance_of n a.base) x (after_primitive w s) × (is_there n a.base ≡ true)

    closes : (j h x : ℕ) → w ≡ CloseSet j h x → MayClose a j h x s
    closes j h x is = rw is at ok

    laid_open : a.next ≡ Turn.Main → (x j h : ℕ) → w ≡ CloseSet j h x → ⊥
    laid_open to x j h is = let on = (closes j h x is).1.1.1.1.1.1.1.1.0 in absurd (grind arith)

    place_open : (n x : ℕ) → set_at_place (place_of n s) ≡ Some x → (j h : ℕ) → w ≡ CloseSet j h x → ⊥
    place_open n x at j h is = unwaited x n s (closes j h x is).1.0 at

    op_open : (n x : ℕ) → set_of_op (op_progress_of n s) ≡ Some x → (j h : ℕ) → w ≡ CloseSet j h x → ⊥
    op_open n x far j h is = ⊎_elim (λ to. laid_open to x j h is) (λ was. let c = (closes j h x is).1.1.1.1.1.1 in
        let runs = unwaited_runs x n a.base c.0 was (known.placed n x was) in
        let wait = known.runs n x _ was runs c.1.0 in let not = c.1.1.1 in absurd (grind arith)) (q.far n x far)

    home : (i x : ℕ) → ((j h : ℕ) → w ≡ CloseSet j h x → ⊥) → IsOf i x s → IsOf i x (after_primitive w s)
    home i x other h = of_primitive i x w s other (joins.sets x) h

    brings_home : (n x : ℕ) → Brings a n x → Home n x
    brings_home n x b =
        (home _ x (laid_open b.0.1 x) (q.homes b.0.1 _ x (⊎_elim (set_home n x) (known.waits.by_place n x) b.1)), known.there n b.0.0)

    pub homed_primitive : Homed a (after_primitive w s)
    homed_primitive = record {
      homes = λ to i x h. home i x (laid_open to x) (q.homes to i x h);
      by_place = λ n x h. ⊎_elim (λ e. let b = q.by_place n x e in (home _ x (place_open n x e) b.0, b.1)) (brings_home n x)
          (place_set a s _ n x _ (came_primitive w s ok n) h);
      by_op = λ n x h. ⊎_elim (λ e. let b = q.by_op n x e in (home _ x (op_open n x e) b.0, b.1)) (brings_home n x) (op_set a w s ok n x h);
      far = λ n x h. ⊎_elim (q.far n x) (λ b. inl b.0.1) (op_set a w s ok n x h);
    }
