-- Wakes are counted: each step keeps it.
use Rattle.machine_data.specs.Moves.{waits_cancellable}
use Rattle.laws_places.proofs.Laws.{admits, along, and_parts, any_at, any_found, ap, arith, at_turn, AwaitsEvent, base_at, Blocks, Bool, by_number, Call, Came, came_primitive, Choice, choice_of, chosen, Comes, Component, Core, Delivery, delivery_rule, Doer, EndTells, EndTold, EndPrimitives, Entry, event_of, false, Frees, Gains, get, get-change, picked_event, goes_to, has_ready_member, has_waiter, Holds, host_taken, HostTold, op_progress_of, OpProgress, in_set_is, inl, InOrderFor, inr, is_callback_waiter, is_delivery_for, is_for_start, is_in_set, is_inside_wait, is_join, is_open, is_ready_member, is_some, is_wait, is_waiter, is_waiting_on, is_woken_at, is_woken_for, IsRunner, Join, join_of, join_rule, JoinsSet, keep_stay, Label, Mark, MayMove, MayPut, MayStand, member_same, nat_tests, next_entry, None, none_ready, now_joined, on_thread, Op, op_in, op_of, op_rule, Operand, Option, option_and_then, option_map, option_map_or, or_never, Place, place_of, plain, plain_as, popped, popped_is, popped_threads, Progress, Progresses, Queues, ready_same, Records, refl, runner_at, running, Runs, RunsAlone, said_plain, same_subtask, Scene, scene_as, script_of, set_place, SetOp, Setting, shift_keeps, shifted_calls, shifted_works, Shifts, shifts_shifted, Some, start_rule, StartTold, State, Status, status_of_end, StepAs, subst, Subtask, SubtaskEnd, Suspends, sym, take_label, TakeStep, task_of, TellsLater, TellsNever, TellsNone, TellsNow, Thread, thread_of_entry, thread_taken, thread_taken_for, true, Turn, Turned, Turns, TurnStepAs, Uncovers, unwrap_or, value_of, wait_goes_on, wait_goes_on_by, wait_rule, waiting_of, Waits, WaitsAgain, wake_why, WakesCounted, WakesOne, Walk, WalkedAs, WasReady, weaken, Why, woken_at, woken_place, written_as, written_at, ℕ, ⊎_elim, ◌==◌, ◌∙◌, ◌≡◌, ◌⊎◌}
use Rattle.laws_places.proofs.{Balance.Balance, Balance.Bare, Balance.Gained, Balance.Passed, Balance.Quiet, Balance.Took, Balance.balanced, Balance.bare_le, Balance.ready_le, Balance.same_is, Balance.same_self, Balance.woken_le, Entries.next_first, Entries.popped_cleared, PlaceLaw.ReadyAt, PlaceLaw.entry_ready, PlaceLaw.yield_leaves, PlaceSteps.Withdrawable, PlaceSteps.step_by, RestLemmas.ComesTo, RestLemmas.Rests, RestLemmas.is_rest, RestLemmas.rests_stay, RestLemmas.rests_walk, RestLemmas.runs_free, RestLemmas.trip_rests, WaitsKept.wait_op, WakeRules.HandedOn, WakeRules.IsSilent, WakeRules.NobodyWaits, WakeRules.NoneReady, WakeRules.Spends, WakeRules.StartTells, WakeRules.StaysWoken, WakeRules.TookMember, WakeRules.WokeOne, WakeRules.WokeThis, WakeRules.delivery_spends, WakeRules.is_past, WakeRules.join_rule_tells, WakeRules.moved_past, WakeRules.start_tells, WakeRules.wait_spends, WakeRules.woken_is_past, WokenTrips.ReadyFor, WokenTrips.Wends, WokenTrips.is_wending, WokenTrips.trip_on}

-- ---- Walks

put_past : (n : ℕ) (s : Core) → MayPut n (Why.Delivery Delivery.Cancel) s → is_past (place_of n s) ≡ true → ⊥
put_past n s ok h = grind arith

move_past : (a : Scene) (n : ℕ) (p : Place) (s : Core) → MayMove a n p s → (IsRunner a n → ⊥) → is_past (Some p) ≡ true
move_past a n p s (Runs is to starts e) other = absurd (other is)
move_past a n p s (Holds w l was out e) other = absurd (other l.0)
move_past a n p s (WaitsAgain x l was none e) other = absurd (other l.0)
move_past a n p s (AwaitsEvent x l d g none e) other = absurd (other l.0)
move_past a n p s (Waits x l g none e) other = absurd (other l.0)
move_past a n p s (Blocks sub l g opens live e) other = absurd (other l.0)
move_past a n p s (Suspends l e) other = absurd (other l.0)
move_past a n p s (Uncovers m is to under gone e) other = grind arith

turned_past : (a : Scene) (s t : Core) (n : ℕ) (o p : Option Place) → Turned a s t n o p → is_past p ≡ true
turned_past a s t n o p c = grind arith

stand_past : (a : Scene) (s : Core) (m : ℕ) → (IsRunner a m → ⊥) → is_past (place_of m s) ≡ true → MayStand a s m (Why.Delivery Delivery.Cancel) → ⊥
stand_past a s m other h (inl e) = absurd (cc)
stand_past a s m other h (inr (inl put)) = put_past m s put h
stand_past a s m other h (inr (inr y)) = other (yield_leaves m _ y).0

past_came : (a : Scene) (s t : Core) (m : ℕ) (p : Option Place) → (IsRunner a m → ⊥) → is_past (place_of m s) ≡ true → Came a s t m (place_of m s) p → is_past p ≡ true
past_came a s t m p other h (Shifts c) = moved_past (MayStand a s m) (place_of m s) p (stand_past a s m other h) c h
past_came a s t m p other h (Comes r ok e there) = ap is_past e ∙ move_past a m r s ok other
past_came a s t m p other h (Turns c) = turned_past a s t m (place_of m s) p c

past_walk : {a : Scene} {b t : Core} → Walk a b t → (m : ℕ) → (IsRunner a m → ⊥) → is_past (place_of m b) ≡ true → is_past (place_of m t) ≡ true
past_walk {a = a} c m other h = along (λ (u : Core). is_past (place_of m u) ≡ true) (λ w s ok q. past_came a s _ m _ other q (came_primitive w s ok m)) h c

-- where no op joins, who is in a set was so before
joins_walk : {a : Scene} {b t : Core} → ((n : ℕ) → IsRunner a n → a.turn ≡ Turn.Run n → is_join (op_in a n) ≡ true → ⊥) → Walk a b t → (sub : Subtask) (x : ℕ) →
    join_of sub t ≡ Join.Set x → join_of sub b ≡ Join.Set x
joins_walk {a = a} {b = b} none c sub x at = along (λ (u : Core). join_of sub u ≡ Join.Set x → join_of sub b ≡ Join.Set x)
    (λ w s ok q now. ⊎_elim q (λ j. absurd (none j.0.0 j.0.1.1.1.0 j.0.1.1.1.1.1.1.1.0 j.0.1.1.1.1.1.1.1.1)) (now_joined a w s ok sub x now)) (λ e. e) c at

join_same : (sub : Subtask) (s t : Core) → t.calls ≡ s.calls → t.works ≡ s.works → join_of sub t ≡ join_of sub s
join_same (Subtask.Guest k) s t calls works = grind (arith, calls)
join_same (Subtask.Host i) s t calls works = grind (arith, works)

-- ---- Places of waiters and woken threads

waits_at : (y : ℕ) (c : Bool) (o : Option Place) → o ≡ Some (Place.Waiting y c) → option_map_or (is_waiting_on y) o false ≡ true
waits_at y c o at = grind (arith, nat_tests)

inside_is : (y : ℕ) (far : OpProgress) → is_inside_wait y far ≡ true → far ≡ OpProgress.Waits y
inside_is y far h = grind (arith, nat_tests)

wending_ready : (y : ℕ) (m : Mark) (w : Why) (far : OpProgress) → woken_place y (Some (Place.Ready m w)) far ≡ true → is_wending (Place.Ready m w) ≡ true
wending_ready y m w far h = grind arith

wending_held : (y : ℕ) (w : Why) (far : OpProgress) → woken_place y (Some (Place.Held w)) far ≡ true → is_wending (Place.Held w) ≡ true
wending_held y w far h = grind arith

ready_on : (y : ℕ) (w : Why) (p : Option Place) (f g : OpProgress) → ReadyFor w p → g ≡ f → woken_place y (Some (Place.Ready Mark.High w)) f ≡ true → woken_place y p g ≡ true
ready_on y w p f g r far on = let at = r.1 in grind (arith, at, far, on)

held_on : (y : ℕ) (w : Why) (p : Option Place) (f g : OpProgress) → (p ≡ Some (Place.Held w)) ⊎ ReadyFor w p → is_delivery_for y w ≡ true → woken_place y p g ≡ true
held_on y w p f g (inl at) on = grind (arith, at, on)
held_on y w p f g (inr r) on = let at = r.1 in grind (arith, at, on)

woke_on : (y : ℕ) (c : Bool) (p : Option Place) (f g : OpProgress) → ReadyFor (wake_why y c) p → g ≡ f → (c ≡ false → is_inside_wait y f ≡ true) → woken_place y p g ≡ true
woke_on y true p f g r far inside = let at = r.1 in grind (arith, nat_tests, at)
woke_on y false p f g r far inside = let at = r.1 in let in_wait = inside refl in grind (arith, nat_tests, at, far, in_wait)

-- ---- A step

op_plain : (c : Component) (n : ℕ) (s : Core) (q : Queues) → op_of c n (record s { queues = q }) ≡ op_of c n s
unfolding op_of script_of
op_plain c n s q = refl

wait_is : (o : Op) → is_wait o ≡ true → (r : ℕ) × ((v : Operand) × (o ≡ Op.Set (SetOp.Wait r v)))
wait_is (Op.Set (SetOp.Wait r v)) h = (r, (v, refl))
wait_is o h = absurd (grind arith)

join_is : (o : Op) → is_join o ≡ true → (v : Operand) × ((u : Operand) × (o ≡ Op.Set (SetOp.Join v u)))
join_is (Op.Set (SetOp.Join v u)) h = (v, (u, refl))
join_is o h = absurd (grind arith)

taken_writes : (l : Label) (i : ℕ) (c : ℕ → Op) (s t : Core) → host_taken l ≡ Some i → written_as c s l t ≡ None
taken_writes l i c s t h = grind arith

woke_base : (z : Mark) (y : ℕ) (s t : Core) → WokeOne y (popped z s) t → WokeOne y s t
woke_base z y s t (NobodyWaits none) = NobodyWaits (λ m. let same = popped_threads z s in let free = none m in grind (arith, same, free))
woke_base z y s t (WokeThis m waits past) = WokeThis m (let same = popped_threads z s in grind (arith, same, waits)) past

-- in terms of the state whose entry is taken
spends_base : (z : Mark) (y n : ℕ) (s t : Core) → Spends y n (popped z s) t → Spends y n s t
spends_base z y n s t (StaysWoken on) = StaysWoken on
spends_base z y n s t (TookMember sub on gone) =
    TookMember sub (sym (member_same y s (popped z s) (ap (λ (c : Core). c.calls) (popped_is z s)) (ap (λ (c : Core). c.works) (popped_is z s)) sub) ∙ on) gone
spends_base z y n s t (HandedOn woke) = HandedOn (woke_base z y s t woke)
spends_base z y n s t (NoneReady none) = NoneReady (sym (ready_same y s (popped z s) (ap (λ (c : Core). c.calls) (popped_is z s)) (ap (λ (c : Core). c.works) (popped_is z s))) ∙ none)

did_wait : (d : Doer) (o : Op) (c : Component) (n : ℕ) (s : Core) (ch : Choice) (r : ℕ) (v : Operand) (y : ℕ) → o ≡ Op.Set (SetOp.Wait r v) → op_progress_of n s ≡ OpProgress.Waits y →
    op_rule d c n s ch o ≡ or_never (picked_event (waits_cancellable (task_of n s) s) (task_of n s) y (chosen n ch s) s) (wait_goes_on_by d n y ch s)
did_wait d o c n s ch r v y op far = ap (λ (o : Op). op_rule d c n s ch o) op ∙ ap (λ (f : OpProgress). wait_rule d n (value_of n s v) ch s f) far

did_join : (d : Doer) (o : Op) (c : Component) (n : ℕ) (s : Core) (ch : Choice) (v u : Operand) → o ≡ Op.Set (SetOp.Join v u) →
    op_rule d c n s ch o ≡ join_rule d n (value_of n s v) (value_of n s u) ch.woken s
did_join d o c n s ch v u op = ap (λ (o : Op). op_rule d c n s ch o) op

run_woken : (y n : ℕ) (b : Core) → is_some (place_of n b) ≡ true → is_woken_at y n (running n b) ≡ is_inside_wait y (op_progress_of n b)
unfolding running set_place on_thread
run_woken y n b there = grind (arith, nat_tests, get-change, there)

resumed_woken : (y : ℕ) (m : Mark) (far : OpProgress) → woken_place y (Some (Place.Ready m Why.Resumption)) far ≡ true → is_inside_wait y far ≡ true
resumed_woken y m far h = grind (arith, h)

pub move_none : (a : Scene) (n y : ℕ) (c : Bool) (u : Core) → MayMove a n (Place.Waiting y c) u → has_ready_member y u ≡ false
move_none a n y c u ok = grind (arith, ok)

pub waiter_any : (y j : ℕ) (s : Core) → is_waiter y j s ≡ true → has_waiter y s ≡ true
unfolding has_waiter get
waiter_any y j s on = any_found (λ (u : Thread). is_waiting_on y u.place) j s.threads.list (grind (arith, on))

-- what is kept of the places of those that don't run, and who comes to wait
abbrev Goes : Scene → Core → Type 0
Goes c u = ((n : ℕ) (q : Place) → is_rest q ≡ true → Rests q n u → Rests q n c.base ⊎ ComesTo c n q u) ×
    (((j : ℕ) (q : Place) → is_wending q ≡ true → place_of j c.base ≡ Some q → (IsRunner c j → ⊥) → Wends q (place_of j u) × (op_progress_of j u ≡ op_progress_of j c.base)) ×
    ((m : ℕ) (q : Place) → is_rest q ≡ true → IsRunner c m → Rests q m c.base → ⊥))

module _ (by_whom : Op → Doer) {ops : ℕ → Op} (x : Setting) (s : State) (l : Label) (t : State) (step : StepAs by_whom ops x s l t) (w : WalkedAs ops x s l t) {g : Bool} (h : InOrderFor g ops x.component s)
    (may : Withdrawable (scene_as ops x s l w.next)) (on : is_open t.turn ≡ true)
    (came : (y : ℕ) (sub : Subtask) → is_ready_member y sub t.core ≡ true → (is_ready_member y sub s.core ≡ true) ⊎ Gains (plain_as ops x s l w.next) sub)
    (alone : RunsAlone s.turn s.core) (counted : WakesCounted s.core) where
  abbrev a : Scene
  a = plain_as ops x s l w.next

  live : w.next ≡ Turn.Over → ⊥
  live over = let e = w.turn in absurd (grind arith)

  over : t.turn ≡ Turn.Over → ⊥
  over e = absurd (grind arith)

  abbrev GoesOn : Scene → Core → Type 0
  GoesOn c u = (c.next ≡ Turn.Over → ⊥) → Goes c u

  goes : Goes a t.core
  goes = plain x s l w.next (λ c. GoesOn c t.core) (step_by x s l t w h.in_place may GoesOn (λ c b n q u base first same f d ends live. (
    λ m p kind at. ⊎_elim (λ e. inl (sym (f.home m) ∙ e)) inr (trip_rests f d live m p kind at),
    (
      λ j p kind at other. let r = trip_on f j p kind (f.home j ∙ at) other d live in
          (r.0, r.1 ∙ ap (λ (m : Records Thread). option_map_or (λ (r : Thread). r.op_progress) (get m j) OpProgress.Fresh) (first.0 ∙ sym base.0)),
      λ m p kind is at. runs_free f m p kind is (f.home m ∙ at),
    ),
  ))) live

  walk : Walk a s.core t.core
  walk = plain x s l w.next (λ c. Walk c s.core t.core) w.walk

  primitives : EndPrimitives a t.core
  primitives = plain x s l w.next (λ c. EndPrimitives c t.core) w.ends.says

  -- the runner is one
  one_runner : (m n : ℕ) → IsRunner a m → IsRunner a n → m ≡ n
  one_runner m n is at = ap (λ (o : Option ℕ). unwrap_or o 0) (sym is ∙ at)

  -- and waits on no set
  idle : (m y : ℕ) → is_waiter y m s.core ≡ true → IsRunner a m → ⊥
  idle m y waits is = let c = waiting_of y (place_of m s.core) waits in goes.1.1 m (Place.Waiting y c.0) refl is c.1

  unwaiting : (m y : ℕ) → IsRunner a m → is_waiter y m s.core ≡ false
  unwaiting m y is = by (is_waiter y m s.core) refl
    where
      by : (b : Bool) → is_waiter y m s.core ≡ b → is_waiter y m s.core ≡ false
      by true e = absurd (idle m y e is)
      by false e = e

  stays_woken : (y j : ℕ) → (IsRunner a j → ⊥) → is_woken_at y j s.core ≡ true → is_woken_at y j t.core ≡ true
  stays_woken y j other on = by (place_of j s.core) refl (sym (woken_at y j s.core) ∙ on)
    where
      by : (o : Option Place) → place_of j s.core ≡ o → woken_place y (place_of j s.core) (op_progress_of j s.core) ≡ true → is_woken_at y j t.core ≡ true
      by (Some (Place.Ready m v)) at was =
          let here : woken_place y (Some (Place.Ready m v)) (op_progress_of j s.core) ≡ true = sym (ap (λ (o : Option Place). woken_place y o (op_progress_of j s.core)) at) ∙ was in
          let r = goes.1.0 j (Place.Ready m v) (wending_ready y m v (op_progress_of j s.core) here) at other in
          woken_at y j t.core ∙ ready_on y v (place_of j t.core) (op_progress_of j s.core) (op_progress_of j t.core) r.0 r.1 here
      by (Some (Place.Held v)) at was =
          let here : woken_place y (Some (Place.Held v)) (op_progress_of j s.core) ≡ true = sym (ap (λ (o : Option Place). woken_place y o (op_progress_of j s.core)) at) ∙ was in
          let r = goes.1.0 j (Place.Held v) (wending_held y v (op_progress_of j s.core) here) at other in
          woken_at y j t.core ∙ held_on y v (place_of j t.core) (op_progress_of j s.core) (op_progress_of j t.core) r.0 here
      by (Some Place.Running) at was = absurd (other (ap (λ u. runner_at u s.core) (alone j at)))
      by o at was = absurd (grind arith)

  -- a waiter that doesn't wait any more, and isn't cancelled, is woken
  woke_now : (y m : ℕ) → is_waiter y m s.core ≡ true → is_past (place_of m t.core) ≡ true → (is_woken_at y m s.core ≡ false) × (is_woken_at y m t.core ≡ true)
  woke_now y m waits past =
      let c = waiting_of y (place_of m s.core) waits in
      let r = goes.1.0 m (Place.Waiting y c.0) refl c.1 (idle m y waits) in
      (woken_at y m s.core ∙ ap (λ (o : Option Place). woken_place y o (op_progress_of m s.core)) c.1, by c.0 c.1 r.0 r.1)
    where
      by : (c : Bool) → place_of m s.core ≡ Some (Place.Waiting y c) → Wends (Place.Waiting y c) (place_of m t.core) → op_progress_of m t.core ≡ op_progress_of m s.core → is_woken_at y m t.core ≡ true
      by c at (inl still) far = absurd (grind arith)
      by c at (inr (inl r)) far = woken_at y m t.core ∙ woke_on y c (place_of m t.core) (op_progress_of m s.core) (op_progress_of m t.core) r far
          (λ is. h.inside m (Place.Waiting y false) (at ∙ ap (λ (b : Bool). Some (Place.Waiting y b)) is))
      by c at (inr (inr r)) far = absurd (let now = r.1 in grind arith)

  -- ---- Who gains

  abbrev Evidence : ℕ → Type 0
  Evidence y = (m : ℕ) × ((is_waiter y m s.core ≡ true) × (is_past (place_of m t.core) ≡ true))

  module _ (y j : ℕ) (c : Bool) (now : place_of j t.core ≡ Some (Place.Waiting y c)) (was : place_of j s.core ≡ Some (Place.Waiting y c)) where
    waiter : is_waiter y j s.core ≡ true
    waiter = waits_at y c (place_of j s.core) was

    woke_evidence : WokeOne y s.core t.core → Evidence y
    woke_evidence (NobodyWaits none) = absurd (let none_is = none j in let one_is = waiter in grind arith)
    woke_evidence (WokeThis m waits past) = (m, (waits, past))

    gain_or_quiet : (d : Subtask) → ((sub : Subtask) → same_subtask sub d ≡ false → is_ready_member y sub t.core ≡ true → is_ready_member y sub s.core ≡ true) →
        ((n : ℕ) → is_woken_at y n s.core ≡ true → is_woken_at y n t.core ≡ true) →
        (is_ready_member y d t.core ≡ true → is_ready_member y d s.core ≡ false → Evidence y) → Balance y s.core t.core
    gain_or_quiet d others kept wakes = by (is_ready_member y d t.core) refl (is_ready_member y d s.core) refl
      where
        all : (is_ready_member y d t.core ≡ true → is_ready_member y d s.core ≡ true) → (sub : Subtask) → is_ready_member y sub t.core ≡ true → is_ready_member y sub s.core ≡ true
        all own sub h = by_same (same_subtask sub d) refl
          where
            by_same : (b : Bool) → same_subtask sub d ≡ b → is_ready_member y sub s.core ≡ true
            by_same false apart = others sub apart h
            by_same true same = let is = same_is sub d same in ap (λ (e : Subtask). is_ready_member y e s.core) is ∙ own (ap (λ (e : Subtask). is_ready_member y e t.core) (sym is) ∙ h)

        by : (b : Bool) → is_ready_member y d t.core ≡ b → (q : Bool) → is_ready_member y d s.core ≡ q → Balance y s.core t.core
        by true on false off = let e = wakes on off in let r = woke_now y e.0 e.1.0 e.1.1 in Gained d e.0 others kept r.0 r.1
        by true on true at = Quiet (all (λ h. at)) kept
        by false off q at = Quiet (all (λ h. absurd (grind arith))) kept

    quiet_step : ((sub : Subtask) → Gains a sub → ⊥) → ((n : ℕ) → is_woken_at y n s.core ≡ true → is_woken_at y n t.core ≡ true) → Balance y s.core t.core
    quiet_step none kept = Quiet (λ sub on. ⊎_elim (λ e. e) (λ g. absurd (none sub g)) (came y sub on)) kept

    kept_if : ((n : ℕ) → IsRunner a n → is_woken_at y n s.core ≡ true → is_woken_at y n t.core ≡ true) → (m : ℕ) → is_woken_at y m s.core ≡ true → is_woken_at y m t.core ≡ true
    kept_if own m on = by a.runner refl
      where
        by : (o : Option ℕ) → a.runner ≡ o → is_woken_at y m t.core ≡ true
        by None is = stays_woken y m (λ at. absurd (grind (arith, at, is))) on
        by (Some n) is = by_number m n _ (λ e. own m (is ∙ ap (λ (i : ℕ). Some i) (sym e)) on) (λ apart. stays_woken y m (λ at. absurd (let same = one_runner m n at is in grind (arith, nat_tests))) on)

    abbrev NoStart : Type 0
    NoStart = (n : ℕ) → IsRunner a n → WasReady a n Why.Start → ⊥

    abbrev NoJoin : Type 0
    NoJoin = (n : ℕ) → IsRunner a n → a.turn ≡ Turn.Run n → is_join (op_in a n) ≡ true → ⊥

    silent_gains : IsSilent l → NoStart → NoJoin → (sub : Subtask) → Gains a sub → ⊥
    silent_gains silent start join sub (StartTold k n is was explicit same) = start n is was
    silent_gains silent start join sub (EndTold k z says told ran) = absurd (let none = silent.1 x.component a.base a.base in grind (arith, none, says))
    silent_gains silent start join sub (HostTold i taken) = absurd (let none = silent.0 in grind (arith, none, taken))
    silent_gains silent start join sub (JoinsSet d n is runs op) = join n is runs op

    -- the event is set, and a waiter is woken
    frees_evidence : NoJoin → (sub : Subtask) → Frees a t.core sub → is_ready_member y sub t.core ≡ true → Evidence y
    frees_evidence join sub f on =
        let p = and_parts (is_in_set y (join_of sub t.core)) (is_some (event_of sub t.core)) on in
        let d = shifts_shifted f.unblocks.shifts in
        let at : join_of sub f.unblocks.before ≡ Join.Set y = sym (join_same sub f.unblocks.before f.unblocks.after (shifted_calls d) (shifted_works d)) ∙ joins_walk join f.unblocks.rest sub y (in_set_is y (join_of sub t.core) p.0) in
        by (f.woken y at)
      where
        by : WakesOne y f.unblocks.before f.unblocks.after → Evidence y
        by (inl none) =
            let after = rests_walk f.unblocks.rest j (Place.Waiting y c) refl (idle j y waiter) now in
            let before = rests_stay (keep_stay (weaken (shift_keeps a) f.unblocks.shifts)) j (Place.Waiting y c) refl after in
            absurd (let none_is = none j in let one_is = waits_at y c (place_of j f.unblocks.before) before in grind arith)
        by (inr m) =
            let e = waiting_of y (place_of m.0 f.unblocks.before) m.1.0 in
            let first : place_of m.0 s.core ≡ Some (Place.Waiting y e.0) = ap (λ (r : Records Thread). option_map (λ (u : Thread). u.place) (get r m.0)) (sym f.unblocks.home) ∙ rests_stay f.unblocks.stays m.0 (Place.Waiting y e.0) refl e.1 in
            let waits = waits_at y e.0 (place_of m.0 s.core) first in
            (m.0, (waits, past_walk f.unblocks.rest m.0 (idle m.0 y waits) (ap is_past m.1.1 ∙ woken_is_past y (is_callback_waiter m.0 f.unblocks.before))))

    end_evidence : NoStart → NoJoin → (sub : Subtask) → Gains a sub → is_ready_member y sub t.core ≡ true → Evidence y
    end_evidence start join sub (StartTold k n is was explicit same) on = absurd (start n is was)
    end_evidence start join sub (JoinsSet d n is runs op) on = absurd (join n is runs op)
    end_evidence start join sub (HostTold i taken) on = frees_evidence join (Subtask.Host i) (primitives.takes i taken) on
    end_evidence start join sub (EndTold k z says told ran) on =
        by (Subtask.Guest k) (status_of_end z) refl refl (primitives.tells (Subtask.Guest k) (status_of_end z)
        (written_at ops s.core (base_at s.turn s.core).queues t.core l _ (said_plain ops x s l w.next t.core k (status_of_end z) says)))
      where
        by : (d : Subtask) (e : Status) → d ≡ Subtask.Guest k → e ≡ status_of_end z → EndTells a t.core d e → Evidence y
        by d e same is (TellsNow _ _ f) = frees_evidence join d f (ap (λ (i : Subtask). is_ready_member y i t.core) same ∙ on)
        by d e same is (TellsNever q _ untold) = absurd (grind arith)
        by d e same is (TellsNone _) = absurd (grind arith)
        by d e same is (TellsLater i _) = absurd (cc)

    -- only the end that the label says is told, or that of the work whose entry is taken
    fallback : NoStart → NoJoin → ((n : ℕ) → is_woken_at y n s.core ≡ true → is_woken_at y n t.core ≡ true) → Balance y s.core t.core
    fallback start join kept = by (host_taken l) refl
      where
        quiet_or : (d : Subtask) → ((sub : Subtask) → Gains a sub → same_subtask sub d ≡ true) → Balance y s.core t.core
        quiet_or d only = gain_or_quiet d (λ sub apart on. ⊎_elim (λ e. e) (λ g. absurd (let same = only sub g in grind arith)) (came y sub on)) kept
            (λ on off. end_evidence start join d (⊎_elim (λ e. absurd (grind arith)) (λ g. g) (came y d on)) on)

        said : (o : Option SubtaskEnd) → written_as ops a.base l a.base ≡ o → host_taken l ≡ None → Balance y s.core t.core
        said None is none = quiet_step gains kept
          where
            gains : (sub : Subtask) → Gains a sub → ⊥
            gains sub (StartTold k n at was explicit same) = start n at was
            gains sub (EndTold k z says told ran) = absurd (grind (arith, is, says))
            gains sub (HostTold i taken) = absurd (grind (arith, none, taken))
            gains sub (JoinsSet d n at runs op) = join n at runs op
        said (Some e) is none = quiet_or e.subtask gains
          where
            gains : (sub : Subtask) → Gains a sub → same_subtask sub e.subtask ≡ true
            gains sub (StartTold k n at was explicit same) = absurd (start n at was)
            gains sub (EndTold k z says told ran) = let same : e.subtask ≡ Subtask.Guest k = ap (λ (o : Option SubtaskEnd). option_map_or (λ (q : SubtaskEnd). q.subtask) o (Subtask.Guest 0)) (sym is ∙ says) in
                ap (λ (d : Subtask). same_subtask (Subtask.Guest k) d) same ∙ same_self (Subtask.Guest k)
            gains sub (HostTold i taken) = absurd (grind (arith, none, taken))
            gains sub (JoinsSet d n at runs op) = absurd (join n at runs op)

        by : (o : Option ℕ) → host_taken l ≡ o → Balance y s.core t.core
        by None is = said (written_as ops a.base l a.base) refl is
        by (Some i) is = quiet_or (Subtask.Host i) gains
          where
            gains : (sub : Subtask) → Gains a sub → same_subtask sub (Subtask.Host i) ≡ true
            gains sub (StartTold k n at was explicit same) = absurd (start n at was)
            gains sub (EndTold k z says told ran) = absurd (let none = taken_writes l i ops a.base a.base is in grind (arith, none, says))
            gains sub (HostTold q taken) = let same : q ≡ i = ap (λ (o : Option ℕ). unwrap_or o 0) (sym taken ∙ is) in
                ap (λ (d : ℕ). same_subtask (Subtask.Host d) (Subtask.Host i)) same ∙ same_self (Subtask.Host i)
            gains sub (JoinsSet d n at runs op) = absurd (join n at runs op)

    -- a woken thread is resumed
    spent : (n : ℕ) → IsRunner a n → ((sub : Subtask) → Gains a sub → ⊥) → Spends y n s.core t.core → Balance y s.core t.core
    spent n is none spends = by spends
      where
        same : (sub : Subtask) → is_ready_member y sub t.core ≡ true → is_ready_member y sub s.core ≡ true
        same sub on = ⊎_elim (λ e. e) (λ g. absurd (none sub g)) (came y sub on)

        but : (m : ℕ) → (m == n) ≡ false → is_woken_at y m s.core ≡ true → is_woken_at y m t.core ≡ true
        but m apart on = stays_woken y m (λ at. absurd (let e = one_runner m n at is in grind (arith, nat_tests))) on

        by : Spends y n s.core t.core → Balance y s.core t.core
        by (StaysWoken on) = quiet_step none (kept_if (λ m at was. ap (λ (i : ℕ). is_woken_at y i t.core) (one_runner m n at is) ∙ on))
        by (TookMember d on gone) = Took n d same on (grind (arith, gone)) but
        by (HandedOn woke) = let e = woke_evidence woke in let r = woke_now y e.0 e.1.0 e.1.1 in Passed n e.0 same but r.0 r.1
        by (NoneReady off) = Bare (λ sub. bare sub (is_ready_member y sub t.core) refl)
          where
            bare : (sub : Subtask) (b : Bool) → is_ready_member y sub t.core ≡ b → is_ready_member y sub t.core ≡ false
            bare sub false e = e
            bare sub true e = absurd (let was = same sub e in let none_is = none_ready y s.core off sub in grind arith)

    -- ---- By the turn

    row : (u : Turn) → s.turn ≡ u → TurnStepAs by_whom ops x s u l t
    unfolding StepAs
    row u e = subst (λ (v : Turn). TurnStepAs by_whom ops x s v l t) e step

    by_run : (n : ℕ) → s.turn ≡ Turn.Run n → Balance y s.core t.core
    by_run n e = by (is_woken_at y n s.core) refl
      where
        is : IsRunner a n
        is = ap (λ (u : Turn). runner_at u s.core) e

        runs : place_of n s.core ≡ Some Place.Running
        runs = h.in_place.runs n e

        start : NoStart
        start m at was = let same = one_runner m n at is in let ready = was.1 in let here = runs in absurd (grind arith)

        op_same : op_in a n ≡ ops n
        op_same = refl

        join : is_join (ops n) ≡ false → NoJoin
        join off m at turn op = absurd (let same = one_runner m n at is in let e = ap is_join op_same in grind arith)

        progress : Progresses s s.core n (op_rule (by_whom (ops n)) x.component n s.core (choice_of l) (ops n)) l t
        progress = row (Turn.Run n) e

        waits : is_woken_at y n s.core ≡ true → Balance y s.core t.core
        waits on =
            let far : op_progress_of n s.core ≡ OpProgress.Waits y = inside_is y (op_progress_of n s.core) (sym (ap (λ (o : Option Place). woken_place y o (op_progress_of n s.core)) runs) ∙ (sym (woken_at y n s.core) ∙ on)) in
            let o = wait_is (ops n) (wait_op ops x.component s.core h.fits n y far) in
            let r = wait_spends s t l n y (waits_cancellable (task_of n s.core) s.core) (by_whom (ops n)) (choice_of l) (unwaiting n y is) (picked_event (waits_cancellable (task_of n s.core) s.core) (task_of n s.core) y (chosen n (choice_of l) s.core) s.core) refl
            (subst (λ (p : Progress). Progresses s s.core n p l t) (did_wait (by_whom (ops n)) (ops n) x.component n s.core (choice_of l) o.0 o.1.0 y o.1.1 far) progress) in
            spent n is (silent_gains r.0 start (join (ap is_join o.1.1))) r.1

        others : is_woken_at y n s.core ≡ false → (b : Bool) → is_join (ops n) ≡ b → Balance y s.core t.core
        others off b at = by_op (kept_if (λ m who was. absurd (let same = one_runner m n who is in grind arith))) b at
          where
            by_op : ((m : ℕ) → is_woken_at y m s.core ≡ true → is_woken_at y m t.core ≡ true) → (b : Bool) → is_join (ops n) ≡ b → Balance y s.core t.core
            by_op kept true at =
                let o = join_is (ops n) at in
                let r = join_rule_tells s t l n over (by_whom (ops n)) (value_of n s.core o.0) (value_of n s.core o.1.0) (choice_of l).woken
                (subst (λ (p : Progress). Progresses s s.core n p l t) (did_join (by_whom (ops n)) (ops n) x.component n s.core (choice_of l) o.0 o.1.0 o.1.1) progress) in
                gain_or_quiet r.1.0 (r.1.1.0 y) kept (λ now off. woke_evidence (r.1.1.1 y now))
            by_op kept false at = fallback start (join at) kept

        by : (b : Bool) → is_woken_at y n s.core ≡ b → Balance y s.core t.core
        by true on = waits on
        by false off = others off (is_join (ops n)) refl

    -- no thread runs or is taken
    nobody : a.runner ≡ None → Balance y s.core t.core
    nobody none = fallback (λ n is was. absurd (grind (arith, none, is))) (λ n is runs op. absurd (grind (arith, none, is))) (kept_if (λ n is was. absurd (grind (arith, none, is))))

    taken : (e : Bool) (z : Mark) (n : ℕ) → s.turn ≡ Turn.Take e → next_entry s.core ≡ Some (z, Entry.Thread n) → Balance y s.core t.core
    unfolding at_turn
    taken e z n turn at =
        by ready.1.0 ready.1.1 (subst (λ (o : Option Place). Progresses s base n (thread_taken z n (choice_of l) base o) l t) (place_same ∙ ready.1.1) progress)
      where
        base : Core
        base = popped z s.core

        is : IsRunner a n
        is = ap (λ (u : Turn). runner_at u s.core) turn ∙ ap (λ (o : Option (Mark × Entry)). thread_of_entry o) at

        ready : ReadyAt (place_of n s.core)
        ready = let took = popped_cleared z n s.core (next_first s.core z (Entry.Thread n) at) (h.in_place.placed n) in entry_ready n s.core (h.in_place.placed n) took.1

        place_same : place_of n base ≡ place_of n s.core
        place_same = ap (λ (r : Records Thread). option_map (λ (u : Thread). u.place) (get r n)) (popped_threads z s.core)

        far_same : op_progress_of n base ≡ op_progress_of n s.core
        far_same = ap (λ (r : Records Thread). option_map_or (λ (u : Thread). u.op_progress) (get r n) OpProgress.Fresh) (popped_threads z s.core)

        progress : Progresses s base n (thread_taken z n (choice_of l) base (place_of n base)) l t
        progress = subst (λ (o : Option (Mark × Entry)). TakeStep x s o l t) at (row (Turn.Take e) turn)

        join : NoJoin
        join m who runs op = absurd (grind (arith, turn, runs))

        free : (v : ℕ) → is_waiter v n base ≡ false
        free v = ap (λ (o : Option Place). option_map_or (is_waiting_on v) o false) place_same ∙ unwaiting n v is

        there : is_some (place_of n base) ≡ true
        there = ap (λ (o : Option Place). is_some o) (place_same ∙ ready.1.1)

        calls_same : base.calls ≡ s.core.calls
        calls_same = ap (λ (c : Core). c.calls) (popped_is z s.core)

        works_same : base.works ≡ s.core.works
        works_same = ap (λ (c : Core). c.works) (popped_is z s.core)

        -- it was taken for something else
        other : (w : Why) → place_of n s.core ≡ Some (Place.Ready ready.0 w) → is_for_start w ≡ false → NoStart
        other w here kind m who was = absurd (let same = one_runner m n who is in let start = was.1 in grind arith)

        asleep : (w : Why) → place_of n s.core ≡ Some (Place.Ready ready.0 w) → woken_place y (Some (Place.Ready Mark.High w)) (op_progress_of n s.core) ≡ false →
            (m : ℕ) → is_woken_at y m s.core ≡ true → is_woken_at y m t.core ≡ true
        asleep w here off = kept_if (λ m who was. absurd (let same = one_runner m n who is in let woken = woken_at y n s.core in grind arith))

        starts : place_of n s.core ≡ Some (Place.Ready ready.0 Why.Start) → Progresses s base n (start_rule z n (choice_of l).woken base (admits n base Why.Start)) l t → Balance y s.core t.core
        starts here row =
            let r = start_tells s t l base z n over (choice_of l).woken free (admits n base Why.Start) row in
            gain_or_quiet (Subtask.Guest (task_of n base)) (others r.0) (asleep Why.Start here refl) (λ now off. tells now off r.1)
          where
            task_same : task_of n base ≡ task_of n s.core
            task_same = ap (λ (r : Records Thread). option_map_or (λ (u : Thread). u.call) (get r n) 0) (popped_threads z s.core)

            others : IsSilent l → (sub : Subtask) → same_subtask sub (Subtask.Guest (task_of n base)) ≡ false → is_ready_member y sub t.core ≡ true → is_ready_member y sub s.core ≡ true
            others silent sub apart now = ⊎_elim (λ e. e) (λ g. absurd (gains sub apart g)) (came y sub now)
              where
                gains : (sub : Subtask) → same_subtask sub (Subtask.Guest (task_of n base)) ≡ false → Gains a sub → ⊥
                gains sub apart (StartTold k m who was explicit same) = absurd (let one = one_runner m n who is in let e = task_same in let self = same_self (Subtask.Guest k) in
                    let is : k ≡ task_of n base = same ∙ (ap (λ (i : ℕ). task_of i s.core) one ∙ sym e) in let on = ap (λ (i : ℕ). same_subtask (Subtask.Guest k) (Subtask.Guest i)) is in grind arith)
                gains sub apart (EndTold k q says told ran) = absurd (let none = silent.1 x.component a.base a.base in grind (arith, none, says))
                gains sub apart (HostTold i taken) = absurd (let none = silent.0 in grind (arith, none, taken))
                gains sub apart (JoinsSet d m who runs op) = join m who runs op

            tells : is_ready_member y (Subtask.Guest (task_of n base)) t.core ≡ true → is_ready_member y (Subtask.Guest (task_of n base)) s.core ≡ false → StartTells (task_of n base) base t.core → Evidence y
            tells now off told =
                let sub = Subtask.Guest (task_of n base) in
                let p = and_parts (is_in_set y (join_of sub t.core)) (is_some (event_of sub t.core)) now in
                let was = joins_walk join walk sub y (in_set_is y (join_of sub t.core) p.0) in
                ⊎_elim (λ woke. woke_evidence (woke_base z y s.core t.core woke))
                (λ same. absurd (let event = ap (λ (r : Records Call). option_and_then (λ (c : Call). c.event) (get r (task_of n base))) calls_same in grind (arith, nat_tests, was, same, event, p.1, off)))
                (told y (join_same sub s.core base calls_same works_same ∙ was))

        delivers : (v : ℕ) → place_of n s.core ≡ Some (Place.Ready ready.0 (Why.Delivery (Delivery.Set v))) →
            Progresses s base n (delivery_rule z n (choice_of l) base (Delivery.Set v) (admits n base (Why.Delivery (Delivery.Set v)))) l t → Balance y s.core t.core
        delivers v here row =
            let r = delivery_spends s t l base z n v (choice_of l) (free v) there (admits n base (Why.Delivery (Delivery.Set v))) row in
            let none = silent_gains r.0 (other (Why.Delivery (Delivery.Set v)) here refl) join in
            by_number y v _ (λ e. spent n is none (subst (λ (i : ℕ). Spends i n s.core t.core) (sym e) (spends_base z v n s.core t.core r.1)))
            (λ apart. quiet_step none (asleep (Why.Delivery (Delivery.Set v)) here (grind (arith, apart))))

        resumes : place_of n s.core ≡ Some (Place.Ready ready.0 Why.Resumption) → (l ≡ take_label z n None) × (t ≡ goes_to s (running n base) (Turn.Run n)) → Balance y s.core t.core
        resumes here row =
            fallback (other Why.Resumption here refl) join (kept_if (λ m who was.
            let same = one_runner m n who is in
            ap (λ (i : ℕ). is_woken_at y i t.core) same ∙ (ap (λ (v : State). is_woken_at y n v.core) row.1 ∙ (run_woken y n base there ∙ (ap (λ (f : OpProgress). is_inside_wait y f) far_same ∙
            resumed_woken y ready.0 (op_progress_of n s.core) (sym (ap (λ (o : Option Place). woken_place y o (op_progress_of n s.core)) here) ∙ (sym (woken_at y n s.core) ∙ (ap (λ (i : ℕ). is_woken_at y i s.core) (sym same) ∙ was))))))))

        by : (w : Why) → place_of n s.core ≡ Some (Place.Ready ready.0 w) → Progresses s base n (thread_taken_for z n (choice_of l) base w) l t → Balance y s.core t.core
        by Why.Start here row = starts here row
        by (Why.Delivery (Delivery.Set v)) here row = delivers v here row
        by (Why.Delivery Delivery.Yield) here row = fallback (other _ here refl) join (asleep _ here refl)
        by (Why.Delivery Delivery.Cancel) here row = fallback (other _ here refl) join (asleep _ here refl)
        by Why.Resumption here row = resumes here row

    balance : Balance y s.core t.core
    balance = by s.turn refl
      where
        by_entry : (e : Bool) → s.turn ≡ Turn.Take e → (o : Option (Mark × Entry)) → next_entry s.core ≡ o → Balance y s.core t.core
        by_entry e turn (Some (z, Entry.Thread n)) at = taken e z n turn at
        by_entry e turn (Some (z, Entry.Push i)) at = nobody (ap (λ (u : Turn). runner_at u s.core) turn ∙ ap (λ (o : Option (Mark × Entry)). thread_of_entry o) at)
        by_entry e turn (Some (z, Entry.Host i)) at = nobody (ap (λ (u : Turn). runner_at u s.core) turn ∙ ap (λ (o : Option (Mark × Entry)). thread_of_entry o) at)
        by_entry e turn None at = nobody (ap (λ (u : Turn). runner_at u s.core) turn ∙ ap (λ (o : Option (Mark × Entry)). thread_of_entry o) at)

        by : (u : Turn) → s.turn ≡ u → Balance y s.core t.core
        by (Turn.Run n) e = by_run n e
        by (Turn.Take b) e = by_entry b e (next_entry s.core) refl
        by u e = nobody (ap (λ (u : Turn). runner_at u s.core) e)

  pub step_counted : WakesCounted t.core
  unfolding has_waiter
  step_counted y has =
      let r = any_at (λ (u : Thread). is_waiting_on y u.place) t.core.threads has in
      let c = waiting_of y (place_of r.0 t.core) (waits r.0 r.1) in
      ⊎_elim (λ was. balanced y s.core t.core (balance y r.0 c.0 c.1 was) (counted y (waiter_any y r.0 s.core (waits_at y c.0 (place_of r.0 s.core) was))))
      (λ comes. bare_le y s.core t.core (none_ready y t.core (ready_same y comes.0 t.core comes.1.1.0 comes.1.1.1 ∙ move_none a r.0 y c.0 comes.0 comes.1.0)))
      (goes.0 r.0 (Place.Waiting y c.0) refl c.1)
    where
      waits : (n : ℕ) → option_map_or (λ (u : Thread). is_waiting_on y u.place) (get t.core.threads n) false ≡ true → is_waiter y n t.core ≡ true
      waits n on = grind arith

-- ---- Where threads that wait or are woken stay

module _ {s t : Core} where
  pub counted_stay : ((y j : ℕ) → is_waiter y j t ≡ true → is_waiter y j s ≡ true) →
      ((y : ℕ) (sub : Subtask) → is_ready_member y sub t ≡ true → is_ready_member y sub s ≡ true) →
      ((y j : ℕ) → is_woken_at y j s ≡ true → is_woken_at y j t ≡ true) → WakesCounted s → WakesCounted t
  unfolding has_waiter
  counted_stay waits ready stays h y has =
      let r = any_at (λ (u : Thread). is_waiting_on y u.place) t.threads has in
      let a = ready_le y s t (ready y) in let b = woken_le y s t (stays y) in
      let c = h y (waiter_any y r.0 s (waits y r.0 (waits_now y r.0 r.1))) in omega (arith, a, b, c)
    where
      waits_now : (y n : ℕ) → option_map_or (λ (u : Thread). is_waiting_on y u.place) (get t.threads n) false ≡ true → is_waiter y n t ≡ true
      waits_now y n on = grind arith

pub counted_as : (s t : Core) → t.threads ≡ s.threads → t.calls ≡ s.calls → t.works ≡ s.works → WakesCounted s → WakesCounted t
counted_as s t threads calls works h = counted_stay (λ y j on. ap (λ (r : Records Thread). option_map_or (is_waiting_on y) (option_map (λ (u : Thread). u.place) (get r j)) false) (sym threads) ∙ on)
    (λ y sub on. sym (member_same y s t calls works sub) ∙ on)
    (λ y j on. ap (λ (r : Records Thread). option_map_or (λ (u : Thread). is_woken_for y u u.place) (get r j) false) threads ∙ on) h
