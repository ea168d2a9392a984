-- Where each thread is along the primitives of a step: each has its place, and one that waits for its start still does, or its call
-- has begun.
use Rattle.laws_places.proofs.Laws.{[], add_call, add_group, add_set, add_work, Adds, adds_all, after_placing, after_primitive, all_of, along, ap, arith, at_place, Awaits, AwaitsEvent, behind_adds, blocked_place, Blocks, Bool, by_number, ByHandle, call_made, Collapses, Core, count_work, Covered, Departs, EndsOver, Enter, entries, entries-append, Entry, Unwinds, false, foot_there, free_handle, free_thread_handle, get, get-change, give_handle, give_result, give_thread_handle, given_unchecked, GoBehind, GoesBack, gone_place, has_entry, HasPlace, HasSubtask, Holds, OpProgress, idle_loose, if◌then◌else◌, inl, inr, is_at_high, is_at_low, is_at_switch, is_begun, is_busy, is_done_host, is_explicit, is_for_start, is_free, is_fresh, is_idle, is_none, is_parked, is_so, is_some, is_there, is_under, is_watched, IsUnwind, IsFoot, IsRunner, IsSettling, Lands, LandsAt, LastPrimitives, Leaves, Loose, loose_idle, MakeCall, MakeThread, Mark, MayGo, MayLand, MayMove, MayPut, MayWithdraw, MayYield, Move, nat_tests, new_thread, next_thread, no_time, nobody, None, not_main, Nothing, on_call, on_instance, on_thread, on_work, one_runner, one_time, Option, option_map_or, Place, place_kept, place_of, place_written, Placed, Places, Placing, placing_shifted, poll_pends, Promote, push_high, Put, put_high_adds, put_low_adds, put_stand, quiet_placed, quiet_stand, Quits, refl, registers_for, Remains, remove_call, remove_group, remove_set, remove_thread, remove_work, removed_all, removed_gone, removed_is, removed_loose, removed_placed, RemoveThread, Runs, says, Scene, Script, set_backpressure, set_cancel_delivered, set_cancelled, set_course, set_do_not_enter, set_do_not_suspend, set_end, set_event, set_exited, set_op_progress, set_join, set_task_event, set_phase, set_place, set_place_adds, set_place_is, set_position, set_register, set_result, set_saved_callee, set_saved_own, set_script, set_stage, set_started, set_starting_published, set_subtask_handle, set_thread_handle, set_trapped, set_uninteresting, set_memory_cell, Settles, SetTrapped, SetUninteresting, Some, Stand, stand_of, Stay, Stays, stays_put, Stop, stopped_stand, Stuck, subst, Subtask, Suspends, switch_entries, switch_there, sym, T, take_result, TakeHost, TakePush, task_of, Thread, Trip, true, Turn, Uncovers, Untouched, Waits, WaitsAgain, was_started, Watch, watching, Why, with_handle, with_thread_handle, Withdraw, withdraws, Primitive, work_queued, ℕ, ⊎_elim, ◌+◌, ◌==◌, ◌||◌, ◌∙◌, ◌≡◌, ◌≤◌, ◌⊎◌}
use Rattle.laws_places.proofs.Entries.{added_stand, flipped, has_stands, next_first, popped_quiet, promoted_stand, removed_fresh, withdrawn_stand}
use Rattle.machine_rules.proofs.StandLemmas.{Given}
unfoldable use Rattle.machine_data.specs.Write.{arrive, set_cancel_asked}

pub no_way : {A : Type 0} → false ≡ true → A
no_way h = absurd (subst T (sym h) tt)

-- ---- Who is put, and who has an entry

-- who is put was parked; one that waited for its start still does
pub parked_at : (m : ℕ) (w : Why) (s : Core) → MayPut m w s →
    (option_map_or is_parked (place_of m s) false ≡ true) × (is_fresh (place_of m s) ≡ true → is_for_start w ≡ true)
parked_at m w s ok = (grind arith, λ h. grind arith)

abbrev pub ReadyAt : Option Place → Type 0
ReadyAt o = (x : Mark) × ((w : Why) × (o ≡ Some (Place.Ready x w)))

ready_of : (o : Option Place) → 1 ≤ says is_at_switch o + says is_at_high o + says is_at_low o → ReadyAt o
ready_of (Some (Place.Ready x w)) h = (x, (w, refl))
ready_of o h = absurd (grind arith)

-- a thread that has its place and an entry
pub entry_ready : (m : ℕ) (s : Core) → HasPlace m s →
    1 ≤ switch_entries m s.queues.switch + entries m s.queues.high + entries m s.queues.low → ReadyAt (place_of m s)
entry_ready m s h one = ready_of (place_of m s) (let a = h.switch in let b = h.high in let c = h.low in omega (arith, a, b, c, one))

pub listed : (m : ℕ) (s : Core) → (has_entry m s.queues.high || has_entry m s.queues.low) ≡ true →
    1 ≤ switch_entries m s.queues.switch + entries m s.queues.high + entries m s.queues.low
listed m s h = grind (arith, has_stands m s.queues.high, has_stands m s.queues.low)

-- ---- Beside a thread that stays

-- who waits for its start, or is gone, as the step begins
abbrev pub waits : Scene → ℕ → Bool
waits a k = is_fresh (place_of k a.base)

-- beside it, who is under another
abbrev watch_of : Option Place → Watch
watch_of None = Awaits
watch_of (Some (Place.Under m)) = Covered m
watch_of (Some p) = if is_fresh (Some p) then Awaits else Nothing

abbrev pub watch : Scene → ℕ → Watch
watch a k = watch_of (place_of k a.base)

fresh_watch : (o : Option Place) → is_fresh o ≡ true → watch_of o ≡ Awaits
fresh_watch o h = grind arith

pub so_self : (o : Option Place) → is_so (watch_of o) o ≡ true
so_self o = grind (arith, nat_tests)

under_is : (m : ℕ) (o : Option Place) → option_map_or (is_under m) o false ≡ true → o ≡ Some (Place.Under m)
under_is m o h = grind (arith, nat_tests)

module _ (a : Scene) {n : ℕ} {q : Option Place} {s : Core} (st : Stand (watch a) n q [] s) where
  pub fresh_still : (k : ℕ) → waits a k ≡ true → is_fresh (place_of k s) ≡ true
  fresh_still k h = let e = fresh_watch (place_of k a.base) h in ap (λ v. is_so v (place_of k s)) (sym e) ∙ (st.kept k (ap is_watched e)).1

  pub covered_still : (k m : ℕ) → place_of k a.base ≡ Some (Place.Under m) → place_of k s ≡ Some (Place.Under m)
  covered_still k m at =
      let e = ap watch_of at in under_is m (place_of k s) (ap (λ v. is_so v (place_of k s)) (sym e) ∙ (st.kept k (ap is_watched e)).1)

-- a parked thread that is put
so_put : (o : Option Place) (p : Place) (x : Mark) (w : Why) → is_parked p ≡ true → (is_fresh (Some p) ≡ true → is_for_start w ≡ true) →
    is_so (watch_of o) (Some p) ≡ true → is_so (watch_of o) (Some (Place.Ready x w)) ≡ true
so_put o p x w parked starts h = grind arith

-- From b on the thread n stays at q, so nobody puts it; nor is it a call's that is withdrawn, or made.
pub record Follows (a : Scene) (b : Core) (n : ℕ) (q : Option Place) : Type 0 where
  pub busy : is_busy q ≡ true
  pub runs : (m : ℕ) → a.turn ≡ Turn.Run m → (is_idle q ≡ true) × (is_fresh q ≡ false)
  pub apart : (n == a.base.made.threads + 1) ≡ false
  pub withdraws : (m k : ℕ) → IsRunner a m → HasSubtask a m (Subtask.Guest k) → was_started k a.base ≡ false → waits a k ≡ true
  pub start : Stand (watch a) n q [] b

-- a blocked thread is put once its host's work is done
put_blocked : (m : ℕ) (sub : Subtask) (w : Why) (s : Core) → MayPut m w s → place_of m s ≡ Some (Place.Blocked sub) →
    is_done_host sub s ≡ true
put_blocked m sub w s ok at = grind arith

module _ {a : Scene} {b : Core} {n : ℕ} {q : Option Place} (f : Follows a b n q) where
  not_here : {P : ℕ → Watch} (m : ℕ) (s : Core) → Stand P n q [] s → (place_of m s ≡ q → ⊥) → (m == n) ≡ false
  not_here m s st differs = by_number m n _ (λ e. absurd (differs (ap (λ (j : ℕ). place_of j s) e ∙ st.here))) (λ e. e)

  -- what is watched of a thread stays so where it is put
  abbrev Puts : (ℕ → Watch) → Primitive → Core → Type 0
  Puts P w s = (x : Mark) (m : ℕ) (v : Why) → w ≡ Places (Put x m v) → is_watched (P m) ≡ true → is_so (P m) (place_of m s) ≡ true →
      is_so (P m) (Some (Place.Ready x v)) ≡ true

  keeps_placing : {P : ℕ → Watch} (p : Placing) (s : Core) → Stays a (Places p) s → Puts P (Places p) s → Stand P n q [] s →
      Stand P n q [] (after_placing p s)
  keeps_placing (Put x m w) s ok puts st =
      let p = at_place is_parked (place_of m s) (parked_at m w s (stays_put a x m w s ok)).0 in
      put_stand n q f.busy x m w p.0 s p.1.0 p.1.1 (λ h. puts x m w refl h (st.kept m h).1) st
  keeps_placing (Promote m) s (inl ok) puts st =
      let one = listed m s ok.1 in
      let apart : (m == n) ≡ false = let l = st.loose n (one_time n) in grind (arith, nat_tests) in
      let r = entry_ready m s (st.placed m (no_time m n apart)) one in
      promoted_stand n q m r.0 r.1.0 s apart r.1.1 ok.0 st
  keeps_placing (Promote m) s (inr ok) puts st =
      let r = ok.1.1.1 in
      promoted_stand n q m r.0 r.1.0 s (not_here m s st (λ e. let idle = f.runs ok.1.0 ok.1.1.0 in absurd (grind arith))) r.1.1 ok.0 st
  keeps_placing (Stop g) s (inr ok) puts st = stopped_stand n q g s st
  keeps_placing p s (inl ok) puts st = absurd ok
  keeps_placing p s (inr ok) puts st = absurd ok

  keeps_primitive : {P : ℕ → Watch} (w : Primitive) (s : Core) → Stays a w s → Puts P w s →
      ((k : ℕ) → w ≡ Withdraw k → is_fresh (place_of k s) ≡ true) →
      Stand P n q [] s → Stand P n q [] (after_primitive w s)
  unfolding arrive set_cancel_asked add_call add_group add_set add_work count_work free_handle free_thread_handle give_handle give_result give_thread_handle on_call on_instance on_work push_high remove_call remove_group remove_set remove_work set_backpressure set_cancel_delivered set_cancelled set_course set_do_not_enter set_do_not_suspend set_end set_event set_exited set_op_progress set_join set_task_event set_phase set_position set_register set_result set_saved_callee set_saved_own set_script set_stage set_started set_starting_published set_subtask_handle set_thread_handle set_trapped set_uninteresting set_memory_cell take_result call_made with_handle with_thread_handle work_queued poll_pends on_thread
  keeps_primitive {P = P} (Places p) s ok puts fresh st =
      subst (λ (t : Core). Stand P n q [] t) (sym (placing_shifted p s).only) (keeps_placing p s ok puts st)
  keeps_primitive (MakeThread t) s ok puts fresh st =
      added_stand n q t s (grind (arith, f.apart)) (ap (λ (r : Thread). r.place) ok.1.1.1.1.1.0) st
  keeps_primitive (MakeCall g e x goal group words) s ok puts fresh st =
      added_stand n q (new_thread (next_thread s) false Script.Start (registers_for words) None) _ (grind (arith, f.apart)) refl
      (quiet_stand n q [] s _ (grind arith) st)
  keeps_primitive {P = P} (Withdraw k) s ok puts fresh st =
      let gone = fresh k refl in
      subst (λ (t : Core). Stand P n q [] t) (sym (withdraws k s))
      (withdrawn_stand n q k s (not_here k s st (λ e. let runs = f.runs ok.0.0 ok.0.1.1.1.1.1.0 in absurd (grind arith))) gone st)
  keeps_primitive (RemoveThread m) s ok puts fresh st = absurd ok
  keeps_primitive (TakePush x i) s ok puts fresh st =
      let u = popped_quiet x (Entry.Push i) s (next_first s x (Entry.Push i) ok.0) (λ k. refl) in quiet_stand n q [] s _ (grind arith) st
  keeps_primitive (TakeHost x i) s ok puts fresh st =
      let u = popped_quiet x (Entry.Host i) s (next_first s x (Entry.Host i) ok.0) (λ k. refl) in quiet_stand n q [] s _ (grind arith) st
  keeps_primitive w s ok puts fresh st = quiet_stand n q [] s _ (grind (arith, nat_tests, get-change, entries-append)) st

  pub withdraws_waits : (k : ℕ) (s : Core) → MayWithdraw a k s → waits a k ≡ true
  withdraws_waits k s may = let g = may.1.1.0 in f.withdraws g.0 k g.1.1.0 (ByHandle g.1.0 g.1.1.1) may.1.1.1.1.1.1

  pub stay_primitive : (w : Primitive) (s : Core) → Stays a w s → Stand (watch a) n q [] s → Stand (watch a) n q [] (after_primitive w s)
  stay_primitive w s ok st = keeps_primitive w s ok (λ x m v e g so. puts x m v (subst (λ (y : Primitive). Stays a y s) e ok) so)
      (λ k e. waiting k (subst (λ (y : Primitive). Stays a y s) e ok)) st
    where
      puts : (x : Mark) (m : ℕ) (v : Why) → Stays a (Places (Put x m v)) s → is_so (watch a m) (place_of m s) ≡ true →
          is_so (watch a m) (Some (Place.Ready x v)) ≡ true
      puts x m v may so =
          let r = parked_at m v s (stays_put a x m v s may) in
          let p = at_place is_parked (place_of m s) r.0 in
          so_put (place_of m a.base) p.0 x v p.1.1 (λ g. r.1 (ap is_fresh p.1.0 ∙ g)) (ap (is_so (watch a m)) (sym p.1.0) ∙ so)

      waiting : (k : ℕ) → Stays a (Withdraw k) s → is_fresh (place_of k s) ≡ true
      waiting k may = fresh_still a st k (withdraws_waits k s may.0)

  -- what is so of a thread's place stays so by a primitive that, where it puts the thread, puts it so
  pub watched_primitive : (v : Watch) (m : ℕ) (w : Primitive) (s : Core) → Stays a w s → Stand (watch a) n q [] s →
      ((x : Mark) (u : Why) → MayPut m u s → is_so v (Some (Place.Ready x u)) ≡ true) → is_watched v ≡ true →
      is_so v (place_of m s) ≡ true → is_so v (place_of m (after_primitive w s)) ≡ true
  watched_primitive v m w s ok st puts is at =
      let kept = (keeps_primitive w s ok (λ x k u e g so. put x k u (subst (λ (y : Primitive). Stays a y s) e ok) g)
      (λ k e. fresh_still a st k (withdraws_waits k s (subst (λ (y : Primitive). Stays a y s) e ok).0)) before).kept m in
      grind (arith, nat_tests)
    where
      only : ℕ → Watch
      only k = if k == m then v else Nothing

      before : Stand only n q [] s
      before = watching n q [] s (λ k h. (refl, grind (arith, nat_tests))) st

      put : (x : Mark) (k : ℕ) (u : Why) → Stays a (Places (Put x k u)) s → is_watched (only k) ≡ true →
          is_so (only k) (Some (Place.Ready x u)) ≡ true
      put x k u may g = by_number k m _ (λ e. let so = puts x u (rw (← e) (stays_put a x k u s may)) in grind (arith, nat_tests)) (λ e. absurd (grind arith))

  -- a thread that is blocked stays so, but where its host's work is done
  pub stuck_primitive : (m : ℕ) (sub : Subtask) (w : Primitive) (s : Core) → Stays a w s → Stand (watch a) n q [] s →
      place_of m s ≡ Some (Place.Blocked sub) → (place_of m (after_primitive w s) ≡ Some (Place.Blocked sub)) ⊎ (is_done_host sub s ≡ true)
  stuck_primitive m sub w s ok st at = by_done (is_done_host sub s) refl
    where
      by_done : (b : Bool) → is_done_host sub s ≡ b → (place_of m (after_primitive w s) ≡ Some (Place.Blocked sub)) ⊎ (is_done_host sub s ≡ true)
      by_done true done = inr done
      by_done false undone =
          let still = watched_primitive (Stuck sub) m w s ok st (λ x u may. no_way (sym undone ∙ put_blocked m sub u s may at)) refl
          (grind (arith, nat_tests)) in
          inl (blocked_place sub (place_of m (after_primitive w s)) still)

  pub stay_stand : {t : Core} → Stay a b t → Stand (watch a) n q [] t
  stay_stand c = along (λ (t : Core). Stand (watch a) n q [] t) stay_primitive f.start c

-- ---- Where a step comes to

-- the thread's call has begun, if it is the first of one
abbrev pub Begun : Scene → ℕ → Core → Type 0
Begun a k t = ((is_there k a.base ≡ true) × (is_explicit k a.base ≡ false → is_begun (task_of k a.base) t ≡ true)) ⊎ (is_begun k t ≡ true)

-- Each thread has its place, and the one whose turn comes runs; who waited for its start still does, or its call has begun; who was under
-- another still is, or that one is gone and its turn comes, or it's gone too; and one that was made and runs has the runner under it.
pub record Arrives (a : Scene) (t : Core) : Type 0 where
  pub placed : Placed t
  pub runs : (m : ℕ) → a.next ≡ Turn.Run m → place_of m t ≡ Some Place.Running
  pub fresh : (k : ℕ) → waits a k ≡ true → (is_fresh (place_of k t) ≡ true) ⊎ Begun a k t
  pub covered : (k m : ℕ) → place_of k a.base ≡ Some (Place.Under m) → (place_of k t ≡ Some (Place.Under m)) ⊎
      ((place_of m t ≡ None) × ((a.next ≡ Turn.Run k) ⊎ (place_of k t ≡ None)))
  pub entered : (m : ℕ) → place_of m a.base ≡ None → a.next ≡ Turn.Run m → (n : ℕ) × (IsRunner a n × (place_of n t ≡ Some (Place.Under m)))

far_arrives : (a : Scene) (n : ℕ) (h : OpProgress) (s : Core) → Arrives a s → Arrives a (set_op_progress n h s)
unfolding set_op_progress on_thread
far_arrives a n h s r =
    let u : Untouched s (set_op_progress n h s) = grind (arith, nat_tests, get-change) in
    record {
      placed = λ k. quiet_placed k s _ u (r.placed k);
      runs = λ m to. u.places m ∙ r.runs m to;
      fresh = λ k w. let e = u.places k in let h = r.fresh k w in grind arith;
      covered = λ k m at. let e = u.places k in let g = u.places m in let h = r.covered k m at in grind arith;
      entered = λ m none to. let e = r.entered m none to in (e.0, (e.1.0, u.places e.0 ∙ e.1.1));
    }

-- ---- The thread itself comes to a place

-- who is taken and waits for its start is taken for it
fresh_ready : (p : Place) → is_busy (Some p) ≡ true → is_fresh (Some p) ≡ true → (x : Mark) × (p ≡ Place.Ready x Why.Start)
fresh_ready (Place.Ready x Why.Start) b h = (x, refl)
fresh_ready p b h = absurd (grind arith)

abbrev pub is_run : Turn → Bool
is_run (Turn.Run n) = true
is_run _ = false

pub yield_leaves : {a : Scene} (k : ℕ) (w : Why) → MayYield a k w → Leaves a k
yield_leaves k w ok = grind arith

-- where the runner is there, it is who moves
pub move_runner : {a : Scene} (k : ℕ) (r : Place) (s : Core) → MayMove a k r s →
    ((m : ℕ) → IsRunner a m → is_none (get s.threads m) ≡ false) → IsRunner a k
move_runner k r s ok there = grind (arith, there)

abbrev pub is_under_place : Option Place → Bool
is_under_place (Some (Place.Under m)) = true
is_under_place _ = false

-- How the primitives begin beside the thread n, which runs or was taken at the place p.
pub record Beside (a : Scene) (b : Core) (n : ℕ) (p : Place) : Type 0 where
  pub follows : Follows a b n (Some p)
  pub runner : IsRunner a n
  pub home : place_of n a.base ≡ Some p
  pub top : is_under_place (Some p) ≡ false

module _ {a : Scene} {b : Core} {n : ℕ} {p : Place} (h : Beside a b n p) {s : Core} (c : Stay a b s) where
  pub stands : Stand (watch a) n (Some p) [] s
  stands = stay_stand h.follows c

  comes : (r : Place) (t : Core) → Adds n r s t → ((m : ℕ) → a.next ≡ Turn.Run m → (m ≡ n) × (r ≡ Place.Running)) →
      (waits a n ≡ true → (is_fresh (Some r) ≡ true) ⊎ Begun a n t) → Arrives a t
  comes r t adds runs fresh = record {
    placed = adds_all n (Some p) r s t adds stands;
    runs = λ m to. let e = runs m to in grind (arith, adds.own);
    fresh = λ k w. by_number k n _ (λ e. rw e (⊎_elim (λ i. inl (ap is_fresh adds.own ∙ i)) (λ i. inr i) (fresh (rw e at w))))
        (λ e. inl (grind (arith, adds.other k e, fresh_still a stands k w)));
    covered = λ k m at. inl (by_number k n _
        (λ e. no_way (sym h.top ∙ ap is_under_place (sym h.home ∙ (ap (λ (j : ℕ). place_of j a.base) (sym e) ∙ at))))
        (λ e. adds.other k e ∙ covered_still a stands k m at));
    entered = λ m none to. let e = runs m to in let home = h.home in absurd (grind arith);
  }

  -- a running thread waits for no start
  begun : {A : Type 0} → a.turn ≡ Turn.Run n → waits a n ≡ true → A
  begun runs w = let home = h.home in absurd (grind (arith, h.follows.runs n runs))

  left : (r : Place) (t : Core) → Leaves a n → (place_of n s ≡ Some p → Adds n r s t) → Arrives a t
  left r t leave adds = comes r t (adds stands.here) (λ m to. not_main m (sym leave.1.0 ∙ to)) (λ w. begun leave.1.1 w)

  -- by a direct call it is under the new thread
  enters : (m : ℕ) → MayLand a (Enter n m) s → Arrives a (set_place n (Place.Under m) (set_place m Place.Running s))
  unfolding set_place on_thread
  enters m ok =
      let idle = (h.follows.runs n ok.1.1.1.1.1.0).0 in
      let new = ok.1.1.1.0 in
      let u = set_place m Place.Running s in
      let all : Placed u = adds_all m (Some Place.New) Place.Running s u (set_place_adds m Place.Running Place.New s refl new)
      (stand_of {P = nobody} m (Some Place.New) s new refl (λ k w. absurd (grind arith)) (all_of n (Some p) s idle stands)) in
      let at : place_of n u ≡ Some p = place_kept n m Place.Running s (flipped n m apart) ∙ stands.here in
      let t = set_place n (Place.Under m) u in
      record {
        placed = adds_all n (Some p) (Place.Under m) u t (set_place_adds n (Place.Under m) p u refl at)
            (stand_of {P = nobody} n (Some p) u at idle (λ k w. absurd (grind arith)) all);
        runs = λ k to. let e = one_runner k m (sym to ∙ ok.1.0) in
            grind (arith, nat_tests, apart, set_place_is m n (Place.Under m) u, set_place_is m m Place.Running s);
        fresh = λ k w. by_number k m _ (λ e. inr (inr (rw e ok.1.1.1.1.1.1.0)))
            (λ e. let own = λ (g : waits a n ≡ true). begun {A = ⊥} ok.1.1.1.1.1.0 g in let still = fresh_still a stands k w in
            inl (grind (arith, nat_tests, set_place_is k n (Place.Under m) u, set_place_is k m Place.Running s, own)));
        covered = λ k j under. let still = covered_still a stands k j under in
            inl (grind (arith, nat_tests, set_place_is k n (Place.Under m) u, set_place_is k m Place.Running s, h.home, h.top));
        entered =
            λ k none to. (n, (h.runner, let e = one_runner k m (sym to ∙ ok.1.0) in grind (arith, place_written n (Place.Under m) p u at)));
      }
    where
      apart : (m == n) ≡ false
      apart = let new = ok.1.1.1.0 in let here = stands.here in let busy = h.follows.busy in grind (arith, nat_tests)

  foot_given : (g : ℕ) → IsFoot a g s → Given g s
  foot_given g (inl switch) = given_unchecked n (Some p) [] s stands g (switch_there n (Some p) [] s stands g switch.0)
  foot_given g (inr m) =
      let there = switch_there n (Some p) [] s stands m.0 m.1.0 in
      given_unchecked n (Some p) [] s stands g (ap (λ (j : ℕ). is_there j s) m.1.1 ∙ foot_there m.0 s there)

-- ---- The thread is gone

settles_quiet : {s t : Core} → Settles s t → Untouched s t
unfolding set_uninteresting on_call remove_call remove_group
settles_quiet {s = s} c = along (Untouched s) settle_quiet (grind arith) c
  where
    settle_quiet : (w : Primitive) (u : Core) → IsSettling w u → Untouched s u → Untouched s (after_primitive w u)
    settle_quiet (SetUninteresting k) u ok q = grind arith
    settle_quiet w u ok q = first_of (assumption, grind arith)

-- What is so while a strand falls.
record Unwinding (a : Scene) (n : ℕ) (s : Core) : Type 0 where
  pub others : (k : ℕ) → (k == n) ≡ false → HasPlace k s
  pub own : Loose n s
  pub idle : (k : ℕ) → is_idle (place_of k a.base) ≡ true → is_idle (place_of k s) ≡ true
  pub fresh : (k : ℕ) → waits a k ≡ true → is_fresh (place_of k s) ≡ true
  pub covered : (k m : ℕ) → place_of k a.base ≡ Some (Place.Under m) →
      (place_of k s ≡ Some (Place.Under m)) ⊎ ((place_of m s ≡ None) × (place_of k s ≡ None))

-- How the primitives begin and end beside the thread n, which runs or was taken; or there is no such thread.
pub record Frame (a : Scene) (b : Core) (n : ℕ) (q : Option Place) : Type 0 where
  pub follows : Follows a b n q
  pub home : (k : ℕ) → place_of k b ≡ place_of k a.base
  pub one : (m : ℕ) → IsRunner a m → m ≡ n
  pub there : (m : ℕ) → IsRunner a m → (p : Place) × ((q ≡ Some p) × (is_under_place (Some p) ≡ false))
  pub own : (p : Place) → q ≡ Some p → IsRunner a n
  pub running : (m : ℕ) → a.turn ≡ Turn.Run m → (m ≡ n) × (q ≡ Some Place.Running)
  pub rests : (t : Core) → LastPrimitives a t → (is_idle (place_of n a.base) ≡ true → is_idle (place_of n t) ≡ true) →
      is_idle (place_of n t) ≡ true

module _ {a : Scene} {b : Core} {n : ℕ} {q : Option Place} (f : Frame a b n q) where
  pub beside : (k : ℕ) → IsRunner a k → (p : Place) × Beside a b k p
  beside k is =
      let p = f.there k is in
      let g : Follows a b k (Some p.0) =
      subst (λ o. Follows a b k o) p.1.0 (subst (λ (j : ℕ). Follows a b j q) (sym (f.one k is)) f.follows) in
      (p.0, record { follows = g; runner = is; home = sym (f.home k) ∙ g.start.here; top = p.1.1 })

  -- the runner is there, and under none
  pub runner_there : (k : ℕ) (s : Core) → IsRunner a k → Stay a b s → is_none (get s.threads k) ≡ false
  runner_there k s is c = let here = (stands (beside k is).1 c).here in grind arith

  pub no_cover : (k m : ℕ) → IsRunner a k → place_of k a.base ≡ Some (Place.Under m) → {A : Type 0} → A
  no_cover k m is at = let h = (beside k is).1 in let home = h.home in let top = h.top in absurd (grind arith)

  moves : (k : ℕ) (r : Place) (s : Core) → MayMove a k r s → Stay a b s → Arrives a (set_place k r s)
  unfolding set_place on_thread
  moves k r s (Runs is to starts at) c =
      let h = beside k is in
      comes h.1 c r _ (set_place_adds k r h.0 s (ap is_free at) (stands h.1 c).here) (λ m next. (one_runner m k (sym next ∙ to), at))
      (λ w. inr (inl (
        ap (λ (o : Option Place). is_some o) h.1.home,
        λ implicit. let x = fresh_ready h.0 h.1.follows.busy (ap is_fresh (sym h.1.home) ∙ w) in
            starts implicit (x.0, h.1.home ∙ ap (λ (y : Place). Some y) x.1),
      )))
  moves k r s (Holds w l was out at) c =
      let h = beside k l.0 in
      comes h.1 c r _ (set_place_adds k r h.0 s (ap is_free at) (stands h.1 c).here) (λ m next. not_main m (sym l.1 ∙ next))
      (λ g. inl (let e = was.1 in grind arith))
  moves k r s (WaitsAgain x l was none at) c =
      let h = beside k l.0 in
      comes h.1 c r _ (set_place_adds k r h.0 s (ap is_free at) (stands h.1 c).here) (λ m next. not_main m (sym l.1 ∙ next))
      (λ g. let e = was.1 in absurd (grind arith))
  moves k r s (Uncovers m is to under none at) c = no_way (sym (runner_there m s is c) ∙ none)
  moves k r s (AwaitsEvent x l d g none at) c = let h = beside k l.0 in left h.1 c r _ l (set_place_adds k r h.0 s (ap is_free at))
  moves k r s (Waits x l g none at) c = let h = beside k l.0 in left h.1 c r _ l (set_place_adds k r h.0 s (ap is_free at))
  moves k r s (Blocks sub l g o live at) c = let h = beside k l.0 in left h.1 c r _ l (set_place_adds k r h.0 s (ap is_free at))
  moves k r s (Suspends l at) c = let h = beside k l.0 in left h.1 c r _ l (set_place_adds k r h.0 s (ap is_free at))

  lands : (x : Placing) (s : Core) → MayLand a x s → Stay a b s → Arrives a (after_placing x s)
  lands (Put Mark.High k w) s ok c =
      let l = yield_leaves k w ok in let h = beside k l.0 in left h.1 c (Place.Ready Mark.High w) _ l (put_high_adds k w h.0 s)
  lands (Put Mark.Low k w) s ok c =
      let l = yield_leaves k w ok in let h = beside k l.0 in left h.1 c (Place.Ready Mark.Low w) _ l (put_low_adds k w h.0 s)
  lands (GoBehind g k) s ok c =
      let h = beside k ok.0.0 in left h.1 c (Place.Behind g) _ ok.0 (behind_adds g k h.0 s (foot_given h.1 c g ok.1))
  lands (Move k r) s ok c = moves k r s ok c
  lands (Enter k m) s ok c = enters (beside k ok.0).1 c m ok
  lands x s ok c = absurd ok

  unwind_primitive : (w : Primitive) (s : Core) → IsUnwind a w s → Unwinding a n s → Unwinding a n (after_primitive w s)
  unfolding set_trapped
  unwind_primitive (RemoveThread j) s ok h = record {
    others = λ k e. by_number k j _ (λ g. subst (λ (i : ℕ). HasPlace i (remove_thread j s)) (sym g) (removed_gone j s (loose ok)))
        (λ g. removed_placed k j s g (h.others k e));
    own = removed_loose n j s h.own;
    idle = λ k i. grind (arith, nat_tests, removed_is k j s, h.idle k);
    fresh = λ k w. removed_fresh k j s (h.fresh k w);
    covered = λ k m at. let up = λ (e : place_of j a.base ≡ Some (Place.Under m)). above m e ok in
        grind (arith, nat_tests, removed_is k j s, removed_is m j s, h.covered k m, up);
  }
    where
      -- who goes is the runner, or was under one that is gone
      above : (m : ℕ) → place_of j a.base ≡ Some (Place.Under m) → MayGo a j s → place_of m (remove_thread j s) ≡ None
      above m at (Departs l) = no_cover j m l.0 at
      above m at (EndsOver i is runs to under) = no_cover j m is at
      above m at (Unwinds over (inl i)) = no_cover j m i at
      above m at (Unwinds over (inr u)) = grind (arith, nat_tests, removed_is m j s)

      loose_runner : IsRunner a j → Loose j s
      loose_runner is = subst (λ (m : ℕ). Loose m s) (sym (f.one j is)) h.own

      loose : MayGo a j s → Loose j s
      loose (Departs l) = loose_runner l.0
      loose (EndsOver m is runs to under) = loose_runner is
      loose (Unwinds over (inl is)) = loose_runner is
      loose (Unwinds over (inr u)) = by_number j n _ (λ e. subst (λ (m : ℕ). Loose m s) (sym e) h.own)
          (λ e. idle_loose j (place_of j s) s refl (h.idle j (ap is_idle u.1.0)) (h.others j e))
  unwind_primitive SetTrapped s ok h =
      record { others = λ k e. let p = h.others k e in assumption; own = assumption; idle = h.idle; fresh = h.fresh; covered = h.covered }
  unwind_primitive _ s ok h = absurd ok

  falling : Unwinding a n b
  falling =
      let st = f.follows.start in
      record {
        others = λ k e. st.placed k (no_time k n e);
        own = st.loose n (one_time n);
        idle = λ k i. ap is_idle (f.home k) ∙ i;
        fresh = λ k w. fresh_still a st k w;
        covered = λ k m at. inl (covered_still a st k m at);
      }

  -- the thread exits
  pub exits : (k : ℕ) (s t : Core) → IsRunner a k → Stay a b s → Settles (after_primitive (RemoveThread k) s) t →
      Placed t × (((j : ℕ) → waits a j ≡ true → is_fresh (place_of j t) ≡ true) ×
      ((j m : ℕ) → place_of j a.base ≡ Some (Place.Under m) → place_of j t ≡ Some (Place.Under m)))
  exits k s t is c d =
      let u = settles_quiet d in
      let h = beside k is in
      let st = stands h.1 c in (
        λ j. quiet_placed j (remove_thread k s) t u (removed_all k (Some h.0) s st j),
        (
          λ j w. ap is_fresh (u.places j) ∙ removed_fresh j k s (fresh_still a st j w),
          λ j m at. let own = λ (e : place_of k a.base ≡ Some (Place.Under m)). no_cover k m is e {A = ⊥} in
              grind (arith, nat_tests, u.places j, removed_is j k s, covered_still a st j m at, own),
        ),
      )

  -- and the one under it goes on
  goes_back : (s t : Core) (k m : ℕ) → Stay a b s → IsRunner a k → a.turn ≡ Turn.Run k → a.next ≡ Turn.Run m →
      place_of m a.base ≡ Some (Place.Under k) → Settles (after_primitive (RemoveThread k) s) t → Arrives a (set_place m Place.Running t)
  goes_back s t k m c is runs to under d =
      let e = exits k s t is c d in
      let at : place_of m t ≡ Some (Place.Under k) = e.1.1 m k under in
      let low : place_of k t ≡ None = (settles_quiet d).places k ∙ gone_place k s in
      let u = set_place m Place.Running t in
      record {
        placed = adds_all m (Some (Place.Under k)) Place.Running t u (set_place_adds m Place.Running (Place.Under k) t refl at)
            (stand_of {P = nobody} m (Some (Place.Under k)) t at refl (λ j w. absurd (grind arith)) e.0);
        runs = λ j next. let one = one_runner j m (sym next ∙ to) in let own = place_written m Place.Running (Place.Under k) t at in cc;
        fresh = λ j w. let still = e.1.0 j w in inl (grind (arith, nat_tests, set_place_is j m Place.Running t));
        covered = λ i j over. let still = e.1.1 i j over in
            grind (arith, nat_tests, set_place_is i m Place.Running t, set_place_is j m Place.Running t);
        entered = λ j none next. let one = one_runner j m (sym next ∙ to) in absurd (cc);
      }

  pub trip_arrives : {t : Core} → Trip a b t → LastPrimitives a t → Arrives a t
  trip_arrives (Remains t c still on) w =
      let st = stay_stand f.follows c in
      let here = st.here in
      let home = f.home n in
      let first = f.follows.start.here in
      record {
        placed = all_of n q t (grind (arith, f.rests t w)) st;
        runs = λ m to. let r = f.running m (still m to) in cc;
        fresh = λ k h. inl (fresh_still a st k h);
        covered = λ k m at. inl (covered_still a st k m at);
        entered = λ m none to. let r = f.running m (still m to) in absurd (cc);
      }
  trip_arrives (Lands s p c ok fit halts) w = subst (λ (t : Core). Arrives a t) (sym (placing_shifted p s).only) (lands p s ok c)
  trip_arrives (LandsAt s p m h c ok fit comes halts) w =
      far_arrives a m h _ (subst (λ (t : Core). Arrives a t) (sym (placing_shifted p s).only) (lands p s ok c))
  trip_arrives (Quits s t k c leave d halts) w =
      let e = exits k s t leave.0 c d in
      record {
        placed = e.0;
        runs = λ m to. not_main m (sym leave.1.0 ∙ to);
        fresh = λ k h. inl (e.1.0 k h);
        covered = λ k m at. inl (e.1.1 k m at);
        entered = λ m none to. not_main m (sym leave.1.0 ∙ to);
      }
  trip_arrives (GoesBack s t k m v c is runs to under back d ok) w =
      far_arrives a m (OpProgress.Answered v) _
      (subst (λ (u : Core). Arrives a u) (sym (placing_shifted (Move m Place.Running) t).only) (goes_back s t k m c is runs to under d))
  trip_arrives (Collapses t over c) w =
      let h = along (Unwinding a n) unwind_primitive falling c in
      record {
        placed = λ k. by_number k n _
            (λ e. subst (λ (j : ℕ). HasPlace j t) (sym e) (loose_idle n (place_of n t) t refl (f.rests t w (h.idle n)) h.own))
            (λ e. h.others k e);
        runs = λ m to. absurd (cc);
        fresh = λ k g. inl (h.fresh k g);
        covered = λ k m at. ⊎_elim inl (λ g. inr (g.0, inr g.1)) (h.covered k m at);
        entered = λ m none to. absurd (cc);
      }
