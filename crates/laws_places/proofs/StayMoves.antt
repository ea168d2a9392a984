-- Where the primitives of a step bring threads while the running thread stays.
use Rattle.laws_places.proofs.Laws.{[], add_call, add_group, add_set, add_thread, add_work, after_placing, after_primitive, ap, arith, at_place, behind, behind_one, by_number, call_made, callers_of, callers_say, Core, count_work, displaced, false, foot_of, free_handle, free_thread_handle, get, get-change, get-insert, get-remove, give_handle, give_result, give_thread_handle, given_unchecked, inl, inr, insert, is_for_start, is_fresh, is_parked, is_some, is_there, List, MakeCall, MakeThread, Mark, MayPut, moved_there, nat_tests, newest, no_time, None, NoneCame, older, on_call, on_instance, on_thread, on_work, one_time, Option, option_map, passed_on, Place, place_kept, place_of, place_written, Places, Placing, placing_shifted, poll_pends, popped_threads, Promote, promoted, push_high, push_high_first, push_low, Put, put_at, put_high, put_low, put_switch, refl, remove_call, remove_group, remove_set, remove_thread, remove_work, RemoveThread, resumed_all, resumed_callers, Scene, set_backpressure, set_callers, set_cancel_delivered, set_cancelled, set_course, set_do_not_enter, set_do_not_suspend, set_end, set_event, set_exited, set_high, set_op_progress, set_join, set_low, set_task_event, set_phase, set_place, set_place_is, set_place_there, set_position, set_register, set_result, set_saved_callee, set_saved_own, set_script, set_stage, set_started, set_starting_published, set_subtask_handle, set_switch, set_thread_handle, set_trapped, set_uninteresting, set_memory_cell, Some, Stand, stand, Stays, stays_put, Stop, stopped, stopped_shifted, subst, sym, take_result, TakeHost, TakePush, Thread, times, times-newest, true, Turn, unqueued, Why, why_of, with_handle, with_thread_handle, Withdraw, Primitive, work_queued, ℕ, ⊎_elim, ◌+◌, ◌==◌, ◌∙◌, ◌∷◌, ◌≡◌, ◌≤◌, ◌⊎◌}
use Rattle.laws_places.proofs.PlaceLaw.{entry_ready, Follows, fresh_still, listed, parked_at, ReadyAt, watch, withdraws_waits}
unfoldable use Rattle.machine_data.specs.Write.{arrive, set_cancel_asked}

-- before any thread has come behind another one in the turn of a thread
abbrev pub Early : Scene → Core → Type 0
Early a s = ((m : ℕ) × (a.turn ≡ Turn.Run m)) × NoneCame a s

-- Where the thread j comes from s to t.
pub data Moves (a : Scene) (s t : Core) (j : ℕ) : Type 0 where
  Kept : place_of j t ≡ place_of j s → Moves a s t j
  -- its entry moves
  Marked : (x y : Mark) (w : Why) → place_of j s ≡ Some (Place.Ready x w) → place_of j t ≡ Some (Place.Ready y w) →
      (y ≡ Mark.Switch) ⊎ Early a s → Moves a s t j
  Woken : (p : Place) (y : Mark) (w : Why) → place_of j s ≡ Some p → is_parked p ≡ true → place_of j t ≡ Some (Place.Ready y w) →
      is_fresh (Some p) ≡ is_for_start w → MayPut j w s → Moves a s t j
  -- the strand with the foot that it is behind stops
  Resumed : (f : ℕ) (y : Mark) → place_of j s ≡ Some (Place.Behind f) → place_of j t ≡ Some (Place.Ready y Why.Resumption) → Moves a s t j
  Passed : (f m : ℕ) (u : Core) → place_of j s ≡ Some (Place.Behind f) → s.queues.switch ≡ Some m → u.threads ≡ s.threads →
      place_of j t ≡ Some (Place.Behind (foot_of m u)) → place_of m t ≡ Some (Place.Ready Mark.Switch (why_of m s)) → a.next ≡ Turn.Main → Moves a s t j
  Born : j ≡ s.made.threads + 1 → place_of j s ≡ None → place_of j t ≡ Some Place.New → Moves a s t j
  -- its start is withdrawn
  Gone : is_fresh (place_of j s) ≡ true → place_of j t ≡ None → Early a s → Moves a s t j

-- ---- Lists of callers

pub behind_place : (g : ℕ) (ns : List ℕ) (s : Core) (j : ℕ) → is_there j s ≡ true →
    ((place_of j (behind g ns s) ≡ place_of j s) × (times j ns ≡ 0)) ⊎ ((place_of j (behind g ns s) ≡ Some (Place.Behind g)) × (1 ≤ times j ns))
unfolding behind_one set_callers
behind_place g [] s j there = inl (refl, refl)
behind_place g (n ∷ ns) s j there =
    let rest = behind_place g ns (behind_one g n s) j in let is = set_place_is j n (Place.Behind g) s in grind (arith, nat_tests)

pub resumed_place : (ns : List ℕ) (s : Core) (j : ℕ) → is_there j s ≡ true →
    ((place_of j (resumed_all ns s) ≡ place_of j s) × (times j ns ≡ 0)) ⊎ ((y : Mark) × ((place_of j (resumed_all ns s) ≡ Some (Place.Ready y Why.Resumption)) × (1 ≤ times j ns)))
unfolding put_high push_high
resumed_place [] s j there = inl (refl, refl)
resumed_place (n ∷ ns) s j there =
    let rest = resumed_place ns (put_high n Why.Resumption s) j in let is = set_place_is j n (Place.Ready Mark.High Why.Resumption) s in grind (arith, nat_tests)

resumed_callers_place : (ns : List ℕ) (s : Core) (j : ℕ) → s.queues.switch ≡ None → is_there j s ≡ true →
    ((place_of j (resumed_callers ns s) ≡ place_of j s) × (times j ns ≡ 0)) ⊎
    ((y : Mark) × ((place_of j (resumed_callers ns s) ≡ Some (Place.Ready y Why.Resumption)) × (1 ≤ times j ns)))
unfolding put_switch set_switch
resumed_callers_place [] s j none there = inl (refl, refl)
resumed_callers_place (n ∷ ns) s j none there =
    let rest = resumed_place (older n ns) (put_switch (newest n ns) Why.Resumption s) j in
    let is = set_place_is j (newest n ns) (Place.Ready Mark.Switch Why.Resumption) s in
    let all = times-newest j n ns in grind (arith, nat_tests)

-- a thread that isn't there doesn't come
none_stays : (f j : ℕ) (s : Core) → place_of j s ≡ None → place_of j (stopped f s) ≡ None
none_stays f j s none =
    let there = moved_there (λ k w. Unit {0}) j (place_of j s) (place_of j (stopped f s)) (stopped_shifted (λ k w. Unit {0}) (λ k. tt) f s j) in grind arith

displaced_there : (o : Option ℕ) (k : ℕ) (s : Core) → is_there k (displaced o s) ≡ is_there k s
unfolding push_high_first
displaced_there None k s = refl
displaced_there (Some d) k s = set_place_there k d (Place.Ready Mark.High (why_of d s)) s

unqueued_place : (k : ℕ) (s : Core) (j : ℕ) → place_of j (unqueued k s) ≡ place_of j s
unfolding unqueued set_high set_low
unqueued_place k s j = grind arith

-- ---- Primitives

module _ (a : Scene) {n : ℕ} {q : Option Place} {s : Core} (st : Stand (watch a) n q [] s) where
  -- what is at switch is ready
  pub switch_ready : (m : ℕ) → s.queues.switch ≡ Some m → (place_of m s ≡ Some (Place.Ready Mark.Switch (why_of m s))) × ((m == n) ≡ false)
  switch_ready m is = by_number m n _ (λ e. absurd (let l = st.loose n (one_time n) in grind (arith, nat_tests)))
      (λ other. (let h = st.placed m (no_time m n other) in grind (arith, nat_tests), other))

  -- who is among the callers of f is behind it
  pub called_behind : (f j : ℕ) → 1 ≤ times j (callers_of f s) → place_of j s ≡ Some (Place.Behind f)
  called_behind f j one = by_number j n _ (λ e. absurd (let l = st.loose n (one_time n) in let c = l.callers f in grind arith))
      (λ other. let h = st.placed j (no_time j n other) in let say = callers_say j f s h in grind (arith, nat_tests))

  -- and who is behind one that is there is among its callers
  pub behind_called : (f j : ℕ) → is_there f s ≡ true → place_of j s ≡ Some (Place.Behind f) → (j == n) ≡ false → 1 ≤ times j (callers_of f s)
  behind_called f j there at other = let h = st.placed j (no_time j n other) in let c = h.callers f in grind (arith, nat_tests)

  abbrev Stops : ℕ → ℕ → Type 0
  Stops f j = ((place_of j (stopped f s) ≡ place_of j s) × (times j (callers_of f s) ≡ 0)) ⊎ ((1 ≤ times j (callers_of f s)) ×
      (((y : Mark) × (place_of j (stopped f s) ≡ Some (Place.Ready y Why.Resumption))) ⊎ ((m : ℕ) × ((u : Core) ×
      ((s.queues.switch ≡ Some m) × ((u.threads ≡ s.threads) × (place_of j (stopped f s) ≡ Some (Place.Behind (foot_of m u)))))))))

  pub stops : (f j : ℕ) → is_there j s ≡ true → Stops f j
  unfolding stopped set_callers
  stops f j there = by s.queues.switch refl
    where
      u : Core
      u = record s { callers = insert s.callers f [] }

      by : (o : Option ℕ) → s.queues.switch ≡ o → Stops f j
      by None is = ⊎_elim (λ e. inl (ap (λ (o : Option ℕ). place_of j (passed_on o (callers_of f s) u)) is ∙ e.0, e.1))
          (λ r. inr (r.1.1, inl (r.0, ap (λ (o : Option ℕ). place_of j (passed_on o (callers_of f s) u)) is ∙ r.1.0))) (resumed_callers_place (callers_of f s) u j is there)
      by (Some m) is = ⊎_elim (λ e. inl (ap (λ (o : Option ℕ). place_of j (passed_on o (callers_of f s) u)) is ∙ e.0, e.1))
          (λ r. inr (r.1, inr (m, (u, (is, (refl, ap (λ (o : Option ℕ). place_of j (passed_on o (callers_of f s) u)) is ∙ r.0)))))) (behind_place (foot_of m u) (callers_of f s) u j there)

put_fresh : (k : ℕ) (w : Why) (s : Core) → MayPut k w s → is_fresh (place_of k s) ≡ is_for_start w
put_fresh k w s ok = grind arith

module _ {a : Scene} {b : Core} {n : ℕ} {q : Option Place} (f : Follows a b n q) (s : Core) (st : Stand (watch a) n q [] s) where
  -- a thread that is put, and one that was at switch
  put_moves : (m : Mark) (k : ℕ) (w : Why) → MayPut k w s → (m ≡ Mark.Switch → Early a s) → (j : ℕ) → Moves a s (put_at m k w s) j
  unfolding put_switch set_switch put_high push_high put_low push_low push_high_first
  put_moves m k w ok early j = by m early
    where
      r : (p : Place) × ((place_of k s ≡ Some p) × (is_parked p ≡ true))
      r = at_place is_parked (place_of k s) (parked_at k w s ok).0

      here : (y : Mark) (t : Core) → j ≡ k → place_of j t ≡ Some (Place.Ready y w) → Moves a s t j
      here y t e at = Woken r.0 y w (ap (λ (i : ℕ). place_of i s) e ∙ r.1.0) r.1.1 at (ap is_fresh (sym r.1.0) ∙ put_fresh k w s ok) (subst (λ (i : ℕ). MayPut i w s) (sym e) ok)

      displaces : Early a s → (o : Option ℕ) → s.queues.switch ≡ o → (j == k) ≡ false → Moves a s (set_switch (Some k) (stand k Mark.Switch w (displaced o s))) j
      displaces early None is other = Kept (place_kept j k (Place.Ready Mark.Switch w) s other)
      displaces early (Some d) is other =
          let ready = switch_ready a st d is in
          let u = displaced (Some d) s in
          by_number j d _
          (λ e. Marked Mark.Switch Mark.High (why_of d s) (ap (λ (i : ℕ). place_of i s) e ∙ ready.0)
          (place_kept j k (Place.Ready Mark.Switch w) u other ∙ (ap (λ (i : ℕ). place_of i u) e ∙ place_written d (Place.Ready Mark.High (why_of d s)) _ s ready.0)) (inr early))
          (λ apart. Kept (place_kept j k (Place.Ready Mark.Switch w) u other ∙ place_kept j d (Place.Ready Mark.High (why_of d s)) s apart))

      there : (y : Mark) (u : Core) → is_there k u ≡ true → place_of k (set_place k (Place.Ready y w) u) ≡ Some (Place.Ready y w)
      there y u at = grind (arith, nat_tests, set_place_is k k (Place.Ready y w) u)

      by : (m : Mark) → (m ≡ Mark.Switch → Early a s) → Moves a s (put_at m k w s) j
      by Mark.High early = by_number j k _ (λ e. here Mark.High _ e (ap (λ (i : ℕ). place_of i (put_high k w s)) e ∙ place_written k (Place.Ready Mark.High w) r.0 s r.1.0))
          (λ other. Kept (place_kept j k (Place.Ready Mark.High w) s other))
      by Mark.Low early = by_number j k _ (λ e. here Mark.Low _ e (ap (λ (i : ℕ). place_of i (put_low k w s)) e ∙ place_written k (Place.Ready Mark.Low w) r.0 s r.1.0))
          (λ other. Kept (place_kept j k (Place.Ready Mark.Low w) s other))
      by Mark.Switch early =
          let u = displaced s.queues.switch s in
          by_number j k _ (λ e. here Mark.Switch _ e (ap (λ (i : ℕ). place_of i (put_switch k w s)) e ∙ there Mark.Switch u (displaced_there s.queues.switch k s ∙ ap (λ (o : Option Place). is_some o) r.1.0)))
          (displaces (early refl) s.queues.switch refl)

  promote_moves : (k : ℕ) → Stays a (Places (Promote k)) s → (j : ℕ) → Moves a s (promoted k s) j
  unfolding promoted set_switch
  promote_moves k ok j =
      let u = unqueued k s in
      by_number j k _ (λ e. Marked r.0 Mark.Switch r.1.0 (ap (λ (i : ℕ). place_of i s) e ∙ r.1.1)
      (ap (λ (i : ℕ). place_of i (promoted k s)) e ∙ (place_written k (Place.Ready Mark.Switch (why_of k s)) (Place.Ready r.0 r.1.0) u (unqueued_place k s k ∙ r.1.1) ∙ ap (λ (v : Why). Some (Place.Ready Mark.Switch v)) (grind (arith, r.1.1)))) (inl refl))
      (λ other. Kept (place_kept j k (Place.Ready Mark.Switch (why_of k s)) u other ∙ unqueued_place k s j))
    where
      ready : Stays a (Places (Promote k)) s → ReadyAt (place_of k s)
      ready (inl ok) = entry_ready k s (st.placed k (no_time k n (let l = st.loose n (one_time n) in let one = listed k s ok.1 in grind (arith, nat_tests)))) (listed k s ok.1)
      ready (inr ok) = ok.1.1.1

      r : ReadyAt (place_of k s)
      r = ready ok

  stop_moves : (g : ℕ) → a.next ≡ Turn.Main → (j : ℕ) → Moves a s (stopped g s) j
  stop_moves g to j = by (place_of j s) refl
    where
      at_switch : (m : ℕ) → s.queues.switch ≡ Some m → place_of m (stopped g s) ≡ Some (Place.Ready Mark.Switch (why_of m s))
      at_switch m is =
          let ready = switch_ready a st m is in
          ⊎_elim (λ e. e.0 ∙ ready.0) (λ r. absurd (let at = called_behind a st g m r.0 in let e = ready.0 in grind arith)) (stops a st g m (ap is_some ready.0))

      by : (o : Option Place) → place_of j s ≡ o → Moves a s (stopped g s) j
      by None is = Kept (none_stays g j s is ∙ sym is)
      by (Some p) is = ⊎_elim (λ e. Kept e.0) (λ r. let at = called_behind a st g j r.0 in
          ⊎_elim (λ y. Resumed g y.0 at y.1) (λ m. Passed g m.0 m.1.0 at m.1.1.0 m.1.1.1.0 m.1.1.1.1 (at_switch m.0 m.1.1.0) to) r.1) (stops a st g j (ap is_some is))

  place_moves : (x : Placing) → Stays a (Places x) s → (j : ℕ) → Moves a s (after_placing x s) j
  place_moves (Put m k w) ok j = put_moves m k w (stays_put a m k w s ok) (λ e. early m e ok) j
    where
      early : (m : Mark) → m ≡ Mark.Switch → Stays a (Places (Put m k w)) s → Early a s
      early Mark.Switch e (inr ok) = ok.1
      early Mark.Switch e (inl ok) = absurd ok
      early m e ok = absurd (cc)
  place_moves (Promote k) ok j = promote_moves k ok j
  place_moves (Stop g) (inr to) j = stop_moves g to j
  place_moves x (inl ok) j = absurd ok
  place_moves x (inr ok) j = absurd ok

  as_moves : (t u : Core) (j : ℕ) → ((i : ℕ) → place_of i u ≡ place_of i t) → place_of j u ≡ place_of j t → Moves a s t j → Moves a s u j
  as_moves t u j all e (Kept k) = Kept (e ∙ k)
  as_moves t u j all e (Marked x y w at to why) = Marked x y w at (e ∙ to) why
  as_moves t u j all e (Woken p y w at parked to fresh put) = Woken p y w at parked (e ∙ to) fresh put
  as_moves t u j all e (Resumed g y at to) = Resumed g y at (e ∙ to)
  as_moves t u j all e (Passed g m v at switch same to ready next) = Passed g m v at switch same (e ∙ to) (all m ∙ ready) next
  as_moves t u j all e (Born new none to) = Born new none (e ∙ to)
  as_moves t u j all e (Gone fresh to early) = Gone fresh (e ∙ to) early

  new_moves : (r : Thread) (t : Core) (j : ℕ) → r.place ≡ Place.New → t.threads ≡ insert s.threads (s.made.threads + 1) r → Moves a s t j
  new_moves r t j new threads = by_number j (s.made.threads + 1) _
      (λ e. Born e (gone (place_of j s) refl e) (grind (arith, nat_tests, get-insert, threads)))
      (λ other. Kept (grind (arith, nat_tests, get-insert, threads)))
    where
      gone : (o : Option Place) → place_of j s ≡ o → j ≡ s.made.threads + 1 → place_of j s ≡ None
      gone None is e = is
      gone (Some p) is e = absurd (let below = (given_unchecked n q [] s st j (ap is_some is)).1 in omega (arith, below, e))

  pub stay_moves : (w : Primitive) → Stays a w s → (j : ℕ) → Moves a s (after_primitive w s) j
  unfolding arrive set_cancel_asked add_call add_group add_set add_thread add_work count_work free_handle free_thread_handle give_handle give_result give_thread_handle on_call on_instance on_thread on_work push_high remove_call remove_group remove_set remove_thread remove_work set_backpressure set_cancel_delivered set_cancelled set_course set_do_not_enter set_do_not_suspend set_end set_event set_exited set_op_progress set_join set_task_event set_phase set_position set_register set_result set_saved_callee set_saved_own set_script set_stage set_started set_starting_published set_subtask_handle set_thread_handle set_trapped set_uninteresting set_memory_cell take_result call_made with_handle with_thread_handle work_queued poll_pends
  stay_moves (Places x) ok j = as_moves (after_placing x s) (after_primitive (Places x) s) j (λ i. ap (λ (t : Core). place_of i t) (placing_shifted x s).only) (ap (λ (t : Core). place_of j t) (placing_shifted x s).only) (place_moves x ok j)
  stay_moves (Withdraw k) ok j =
      let early : Early a s = ((_, ok.0.1.1.1.1.1.0), ok.1.1) in
      by_number j k _ (λ e. Gone (ap (λ (i : ℕ). is_fresh (place_of i s)) e ∙ fresh_still a st k (withdraws_waits f k s ok.0)) (grind (arith, nat_tests, get-remove)) early)
      (λ other. Kept (grind (arith, nat_tests, get-remove)))
  stay_moves (MakeThread r) ok j = new_moves r _ j (ap (λ (r : Thread). r.place) ok.1.1.1.1.1.0) refl
  stay_moves (MakeCall g e x goal group words) ok j = new_moves _ _ j refl refl
  stay_moves (RemoveThread m) ok j = absurd ok
  stay_moves (TakePush m i) ok j = Kept (ap (λ r. option_map (λ (t : Thread). t.place) (get r j)) (popped_threads m s))
  stay_moves (TakeHost m i) ok j = Kept (ap (λ r. option_map (λ (t : Thread). t.place) (get r j)) (popped_threads m s))
  stay_moves w ok j = Kept (grind (arith, nat_tests, get-change))
