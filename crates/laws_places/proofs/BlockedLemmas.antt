-- No thread is blocked on a subtask that has an end as its event: along the primitives of a step.
use Rattle.laws_places.proofs.Laws.{along, ap, arith, at_place, AwaitsEvent, base_at, Blocks, Bool, Call, CallsTold, cancelled_by, cancelled_call, Coming, coming_primitive, Component, Core, course_of, course_value, EndTells, EndPrimitives, event_of, false, get, HasCome, Holds, host_status, host_taken, op_progress_of, OpProgress, inl, InOrderFor, inr, is_async_work, is_ended_work, is_inside, is_stage_ended, is_told, IsRunner, Label, LoopLabel, MayMove, nat_tests, no_way, None, NoneBlockedOnEnd, Op, Option, option_map, option_map_or, Place, plain, plain_as, refl, Runs, said_plain, Scene, scene_as, Setting, Some, Stage, stage_of, State, Status, status_of_end, Steady, subst, Subtask, subtask_ended, subtask_handle, subtask_under_way, Suspends, sym, TellingGoes, TellsEnd, TellsLater, TellsNever, TellsNone, TellsNow, Thread, true, Turn, Unblocking, Uncovers, undelivered_end, Waits, WaitsAgain, Walk, WalkedAs, Work, work_caller_of, WorksTold, Writes, WritesAtOnce, WritesCall, WritesNever, WritesPolled, written_as, written_at, ℕ, ⊎_elim, ◌∙◌, ◌≡◌, ◌≤◌, ◌⊎◌}
use Rattle.laws_places.proofs.{HostsAwaited.Asked, PlaceSteps.Withdrawable, PlaceSteps.step_by, RestLemmas.Rests, RestLemmas.rests_stay, RestLemmas.rests_walk, RestLemmas.runs_free, RestLemmas.trip_rests}

-- the thread is blocked on the subtask
abbrev pub IsStuck : Subtask → ℕ → Core → Type 0
IsStuck sub n s = Rests (Place.Blocked sub) n s

-- the subtask has no end to tell, and is no host's work that has ended
abbrev pub IsOpen : Subtask → Core → Type 0
IsOpen sub s = ((undelivered_end (event_of sub s) ≡ None) ⊎ (subtask_ended sub s ≡ false)) × (is_ended_work sub s ≡ false)

move_opens : (a : Scene) (n : ℕ) (sub : Subtask) (s : Core) → MayMove a n (Place.Blocked sub) s → IsOpen sub s
move_opens a n sub s (Blocks on leave own open_end live is) = let same : on ≡ sub = cc in subst (λ (d : Subtask). IsOpen d s) same (open_end, live)
move_opens a n sub s (Runs is to begun e) = absurd (cc)
move_opens a n sub s (Holds w laid ready off e) = absurd (cc)
move_opens a n sub s (WaitsAgain x laid ready none e) = absurd (cc)
move_opens a n sub s (AwaitsEvent x leave ends has none e) = absurd (cc)
move_opens a n sub s (Waits x leave has none e) = absurd (cc)
move_opens a n sub s (Suspends leave e) = absurd (cc)
move_opens a n sub s (Uncovers m is to under gone e) = absurd (cc)

same_open : (sub : Subtask) (s t : Core) → t.calls ≡ s.calls → t.works ≡ s.works → IsOpen sub s → IsOpen sub t
same_open (Subtask.Guest k) s t calls works h = (let open_end = h.0 in grind (arith, calls, open_end), refl)
same_open (Subtask.Host i) s t calls works h = (let open_end = h.0 in grind (arith, works, open_end), let live = h.1 in grind (arith, works, live))

-- ---- Who is blocked

-- which works have ended is read of works alone
pub ended_as : (sub : Subtask) (s t : Core) → t.works ≡ s.works → is_ended_work sub t ≡ is_ended_work sub s
ended_as (Subtask.Guest k) s t same = refl
ended_as (Subtask.Host i) s t same = ap (λ m. is_stage_ended (option_map_or (λ (w : Work). w.stage) (get m i) Stage.Ended)) same

-- where who is blocked was so, and what has no end to tell, or hasn't ended, stays so
pub blocked_stay : {s t : Core} → ((n : ℕ) (sub : Subtask) → IsStuck sub n t → IsStuck sub n s) →
    ((sub : Subtask) → undelivered_end (event_of sub s) ≡ None → undelivered_end (event_of sub t) ≡ None) →
    ((sub : Subtask) → is_ended_work sub s ≡ false → is_ended_work sub t ≡ false) → NoneBlockedOnEnd s → NoneBlockedOnEnd t
blocked_stay was untold live h = record {
  events = λ n sub at. untold sub (h.events n sub (was n sub at));
  works = λ n sub at. live sub (h.works n sub (was n sub at));
}

-- ---- At most one thread is blocked on a subtask

-- it is a call whose end is told, or a host's work that is there
abbrev IsTold : Subtask → Core → Type 0
IsTold (Subtask.Guest k) s = is_told k s ≡ true
IsTold (Subtask.Host i) s = (w : Work) × (get s.works i ≡ Some w)

pub inside_of : (sub : Subtask) (f : OpProgress) → is_inside (Place.Blocked sub) f ≡ true → (f ≡ OpProgress.Calls sub) ⊎ (f ≡ OpProgress.AwaitsEnd sub)
inside_of sub f h = grind (arith, nat_tests)

call_of_told : (k : ℕ) (s : Core) → is_told k s ≡ true → (c : Call) × (get s.calls k ≡ Some c)
call_of_told k s told = by (get s.calls k) refl
  where
    by : (o : Option Call) → get s.calls k ≡ o → (c : Call) × (get s.calls k ≡ Some c)
    by None is = absurd (grind arith)
    by (Some c) is = (c, is)

module _ {g : Bool} {ops : ℕ → Op} {c : Component} {s : State} (h : InOrderFor g ops c s) where
  called_once : (n m k : ℕ) → is_told k s.core ≡ true → op_progress_of n s.core ≡ OpProgress.Calls (Subtask.Guest k) →
      op_progress_of m s.core ≡ OpProgress.Calls (Subtask.Guest k) → n ≡ m
  called_once n m k told at too =
      let r = call_of_told k s.core told in
      let mine = (h.names.called n k at r.0 r.1).0 in let other = (h.names.called m k too r.0 r.1).0 in grind arith

  awaited_once : (n m : ℕ) (sub : Subtask) → IsTold sub s.core → op_progress_of n s.core ≡ OpProgress.AwaitsEnd sub →
      op_progress_of m s.core ≡ OpProgress.AwaitsEnd sub → n ≡ m
  awaited_once n m (Subtask.Guest k) told at too =
      let r = call_of_told k s.core told in let there = r.1 in
      let mine = h.watched n (Subtask.Guest k) (ap cancelled_by at) in let other = h.watched m (Subtask.Guest k) (ap cancelled_by too) in
      grind (arith, nat_tests)
  awaited_once n m (Subtask.Host i) told at too =
      let there = told.1 in
      let mine = h.watched n (Subtask.Host i) (ap cancelled_by at) in let other = h.watched m (Subtask.Host i) (ap cancelled_by too) in
      grind (arith, nat_tests)

  -- what a thread cancels isn't the work of a sync call
  cancels_async : (n i : ℕ) → op_progress_of n s.core ≡ OpProgress.AwaitsEnd (Subtask.Host i) → is_async_work (work_caller_of i s.core) ≡ true
  cancels_async n i at =
      let named = h.cancelled n (Subtask.Host i) (ap cancelled_by at) in
      let r = at_place (λ (g : ℕ). true) (subtask_handle (Subtask.Host i) s.core) (grind (arith, named)) in
      h.works_known.async r.0 i r.1.0

  no_sync : {A : Type 0} (n m i : ℕ) → op_progress_of n s.core ≡ OpProgress.Calls (Subtask.Host i) → op_progress_of m s.core ≡ OpProgress.AwaitsEnd (Subtask.Host i) → A
  no_sync n m i at too = let async = cancels_async m i too in let own = (h.works_known.called n i at).1 in absurd (grind arith)

  both_inside : (n m : ℕ) (sub : Subtask) → IsTold sub s.core → (op_progress_of n s.core ≡ OpProgress.Calls sub) ⊎ (op_progress_of n s.core ≡ OpProgress.AwaitsEnd sub) →
      (op_progress_of m s.core ≡ OpProgress.Calls sub) ⊎ (op_progress_of m s.core ≡ OpProgress.AwaitsEnd sub) → n ≡ m
  both_inside n m sub told (inr at) (inr too) = awaited_once n m sub told at too
  both_inside n m (Subtask.Guest k) told (inl at) (inl too) = called_once n m k told at too
  both_inside n m (Subtask.Guest k) told (inl at) (inr too) = absurd (h.calls.apart n m k at (ap cancelled_call too))
  both_inside n m (Subtask.Guest k) told (inr at) (inl too) = absurd (h.calls.apart m n k too (ap cancelled_call at))
  both_inside n m (Subtask.Host i) told (inl at) (inl too) = let mine = (h.works_known.called n i at).1 in let other = (h.works_known.called m i too).1 in grind arith
  both_inside n m (Subtask.Host i) told (inl at) (inr too) = no_sync n m i at too
  both_inside n m (Subtask.Host i) told (inr at) (inl too) = no_sync m n i too at

  stuck_once : (n m : ℕ) (sub : Subtask) → IsTold sub s.core → IsStuck sub n s.core → IsStuck sub m s.core → n ≡ m
  stuck_once n m sub told at too =
      both_inside n m sub told (inside_of sub (op_progress_of n s.core) (h.inside n (Place.Blocked sub) at))
      (inside_of sub (op_progress_of m s.core) (h.inside m (Place.Blocked sub) too))

-- ---- A step

-- the running thread isn't blocked, and who is blocked after the step was so before it, or the subtask has no end to tell
abbrev StuckGoes : Scene → Core → Type 0
StuckGoes a t = ((m : ℕ) (sub : Subtask) → IsRunner a m → IsStuck sub m a.base → ⊥) ×
    ((a.next ≡ Turn.Over → ⊥) → (n : ℕ) (sub : Subtask) → IsStuck sub n t → IsStuck sub n a.base ⊎ IsOpen sub t)

module _ {ops : ℕ → Op} (x : Setting) (s : State) (l : Label) (t : State) (w : WalkedAs ops x s l t) {g : Bool} (h : InOrderFor g ops x.component s)
    (may : Withdrawable (scene_as ops x s l w.next)) (steady : Steady s.core t.core) (live : w.next ≡ Turn.Over → ⊥)
    (told : TellingGoes (plain_as ops x s l w.next) t.core)
    (hosts : (i : ℕ) (e : Status) → undelivered_end (event_of (Subtask.Host i) t.core) ≡ Some e →
    (undelivered_end (event_of (Subtask.Host i) s.core) ≡ Some e) ⊎ (host_taken l ≡ Some i))
    (calls_told : CallsTold t.core) (works_told : WorksTold t.core) (asked : Asked (plain_as ops x s l w.next)) (blocked : NoneBlockedOnEnd s.core) where
  abbrev a : Scene
  a = plain_as ops x s l w.next

  goes : StuckGoes a t.core
  goes = plain {ops = ops} x s l w.next (λ c. StuckGoes c t.core) (step_by x s l t w h.in_place may StuckGoes (λ c b n q u base first same f d ends. (
    λ m sub is at. runs_free f m (Place.Blocked sub) refl is (f.home m ∙ at),
    λ on m sub at. ⊎_elim (λ e. inl (sym (f.home m) ∙ e)) (λ r. inr (same_open sub r.0 u r.1.1.0 r.1.1.1 (move_opens c m sub r.0 r.1.0))) (trip_rests f d on m (Place.Blocked sub) refl at),
  )))

  primitives : EndPrimitives a t.core
  primitives = plain {ops = ops} x s l w.next (λ b. EndPrimitives b t.core) w.ends.says

  -- who is blocked and was so before isn't the one that is freed
  freed : (n : ℕ) (sub : Subtask) → IsTold sub s.core → IsStuck sub n s.core → IsStuck sub n t.core → Unblocking a t.core sub → ⊥
  freed n sub known at still f =
      let mid = rests_walk f.rest n (Place.Blocked sub) refl (λ is. goes.0 n sub is at) still in
      let r = f.freed n mid in
      let was : IsStuck sub r.0 f.first = rests_stay f.stays r.0 (Place.Blocked sub) refl r.1.0 in
      let one = stuck_once h n r.0 sub known at (ap (λ m. option_map (λ (u : Thread). u.place) (get m r.0)) (sym f.home) ∙ was) in
      let other = r.1.1 in absurd (grind (arith, nat_tests))

  guest_stuck : (n k : ℕ) (e : Status) → IsStuck (Subtask.Guest k) n s.core → IsStuck (Subtask.Guest k) n t.core → TellsEnd a k s.core → ⊥
  guest_stuck n k e at still (y, (says, (known, ran))) = by (primitives.tells (Subtask.Guest k) (status_of_end y)
      (written_at ops s.core (base_at s.turn s.core).queues t.core l _ (said_plain ops x s l w.next t.core k (status_of_end y) says)))
    where
      by : EndTells a t.core (Subtask.Guest k) (status_of_end y) → ⊥
      by tells = by_told (Subtask.Guest k) (status_of_end y) refl refl tells
        where
          by_told : (sub : Subtask) (z : Status) → sub ≡ Subtask.Guest k → z ≡ status_of_end y → EndTells a t.core sub z → ⊥
          by_told sub z e is (TellsNow _ _ f) = freed n (Subtask.Guest k) known at still (subst (λ (d : Subtask). Unblocking a t.core d) e f.unblocks)
          by_told sub z e is (TellsNever j _ untold) = absurd (grind arith)
          by_told sub z e is (TellsNone _) = absurd (grind arith)
          by_told sub z e is (TellsLater i _) = absurd (cc)

  open_told : (sub : Subtask) (e : Status) → IsOpen sub t.core → undelivered_end (event_of sub t.core) ≡ Some e → ⊥
  open_told (Subtask.Guest k) e opens is = let open_end = opens.0 in let over = calls_told k e is in absurd (grind arith)
  open_told (Subtask.Host i) e opens is = by (get t.core.works i) refl
    where
      by : (o : Option Work) → get t.core.works i ≡ o → ⊥
      by None at = absurd (grind arith)
      by (Some r) at = let open_end = opens.0 in let over = (works_told i r at).told e (grind arith) in absurd (grind arith)

  -- the work on which a thread is blocked is there
  live_work : (n i : ℕ) → IsStuck (Subtask.Host i) n s.core → IsTold (Subtask.Host i) s.core
  live_work n i at = let live = blocked.works n (Subtask.Host i) at in
      let r = at_place (λ (r : Work). true) (get s.core.works i) (grind (arith, live)) in (r.0, r.1.0)

  was_stuck : (n : ℕ) (sub : Subtask) (e : Status) → IsStuck sub n s.core → IsStuck sub n t.core → undelivered_end (event_of sub t.core) ≡ Some e → ⊥
  was_stuck n (Subtask.Guest k) e at still is =
      let none = blocked.events n (Subtask.Guest k) at in
      let far = inside_of (Subtask.Guest k) (op_progress_of n s.core) (h.inside n (Place.Blocked (Subtask.Guest k)) at) in
      let below = (h.calls_named.by_op n k (⊎_elim (λ f. ap subtask_under_way f) (λ f. ap subtask_under_way f) far)).number in
      ⊎_elim (λ same. absurd (grind arith)) (λ now. guest_stuck n k e at still now) (told.ends k e below is)
  was_stuck n (Subtask.Host i) e at still is =
      let none = blocked.events n (Subtask.Host i) at in
      let far = inside_of (Subtask.Host i) (op_progress_of n s.core) (h.inside n (Place.Blocked (Subtask.Host i)) at) in
      let below = h.works_named.by_op n i (⊎_elim (λ f. ap subtask_under_way f) (λ f. ap subtask_under_way f) far) in
      ⊎_elim (λ same. absurd (grind arith)) (λ taken. freed n (Subtask.Host i) (live_work n i at) at still (primitives.takes i taken).unblocks) (hosts i e is)

  -- the work of the runner's own sync call has ended
  ended_asked : (m i : ℕ) → IsRunner a m → op_progress_of m a.base ≡ OpProgress.Calls (Subtask.Host i) → is_stage_ended (stage_of i a.base) ≡ true
  ended_asked m i is far = (asked m i is far).1

  ended_here : (i : ℕ) → i ≤ s.core.made.works → is_stage_ended (stage_of i t.core) ≡ true → HasCome a ended_asked i
  ended_here i below = (along (Coming a ended_asked i) (coming_primitive a ended_asked i) (record { made = below; caller = inr refl; ended = λ e. inl e })
      (plain {ops = ops} x s l w.next (λ c. Walk c s.core t.core) w.walk)).ended

  -- who is blocked on a work that is polled to its end, and isn't of an async call, goes on
  polled_stuck : (n i : ℕ) → i ≤ s.core.made.works → IsStuck (Subtask.Host i) n s.core → IsStuck (Subtask.Host i) n t.core →
      l ≡ Label.Loop (LoopLabel.FutureEnds i) → is_async_work (work_caller_of i s.core) ≡ false → ⊥
  polled_stuck n i below at still shows alone =
      ⊎_elim (λ calls. by (Subtask.Host i) refl calls (primitives.writes (Subtask.Host i) (host_status (course_value (course_of i t.core)))
      (ap (λ y. written_as ops a.base y t.core) shows)))
      (λ awaits. let async = cancels_async h n i awaits in absurd (grind arith))
      (inside_of (Subtask.Host i) (op_progress_of n s.core) (h.inside n (Place.Blocked (Subtask.Host i)) at))
    where
      by : (sub : Subtask) → sub ≡ Subtask.Host i → op_progress_of n s.core ≡ OpProgress.Calls (Subtask.Host i) → Writes a t.core sub → ⊥
      by _ same calls (WritesPolled j label polled ends frees) =
          let one : j ≡ i = cc in
          freed n (Subtask.Host i) (live_work n i at) at still
          (subst (λ (g : ℕ). Unblocking a t.core (Subtask.Host g)) one (frees n (ap (λ (g : ℕ). work_caller_of g s.core) one ∙ (h.works_known.called n i calls).1)))
      by _ same calls (WritesAtOnce j ready) = let one : j ≡ i = cc in let next = ready.0 in absurd (omega (arith, next, one, below))
      by _ same calls (WritesNever sub e) = let none = blocked.events n (Subtask.Host i) at in absurd (grind (arith, same, e, none))
      by _ same calls (WritesCall k u ends over walk) = absurd (cc)

  was_unended : (n i : ℕ) → IsStuck (Subtask.Host i) n s.core → IsStuck (Subtask.Host i) n t.core → is_stage_ended (stage_of i t.core) ≡ true → ⊥
  was_unended n i at still is =
      let far = inside_of (Subtask.Host i) (op_progress_of n s.core) (h.inside n (Place.Blocked (Subtask.Host i)) at) in
      let below = h.works_named.by_op n i (⊎_elim (λ f. ap subtask_under_way f) (λ f. ap subtask_under_way f) far) in
      let live = blocked.works n (Subtask.Host i) at in
      ⊎_elim (λ was. absurd (grind (arith, live, was)))
      (⊎_elim (λ taken. freed n (Subtask.Host i) (live_work n i at) at still (primitives.takes i taken).unblocks)
      (λ polled. polled_stuck n i below at still polled.0 polled.1)) (ended_here i below is)

  pub step_blocked : NoneBlockedOnEnd t.core
  step_blocked = record { events = step_untold; works = step_unended }
    where
      step_untold : (n : ℕ) (sub : Subtask) → IsStuck sub n t.core → undelivered_end (event_of sub t.core) ≡ None
      step_untold n sub at = by (undelivered_end (event_of sub t.core)) refl
        where
          by : (o : Option Status) → undelivered_end (event_of sub t.core) ≡ o → o ≡ None
          by None is = refl
          by (Some e) is = absurd (⊎_elim (λ was. was_stuck n sub e was at is) (λ o. open_told sub e o is) (goes.1 live n sub at))

      step_unended : (n : ℕ) (sub : Subtask) → IsStuck sub n t.core → is_ended_work sub t.core ≡ false
      step_unended n (Subtask.Guest k) at = refl
      step_unended n (Subtask.Host i) at = by (is_stage_ended (stage_of i t.core)) refl
        where
          by : (b : Bool) → is_stage_ended (stage_of i t.core) ≡ b → b ≡ false
          by false is = refl
          by true is = absurd (⊎_elim (λ was. was_unended n i was at is) (λ o. no_way (sym o.1 ∙ is)) (goes.1 live n (Subtask.Host i) at))
