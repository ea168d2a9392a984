-- The moves that wake, take and join keep that no wake is lost.
use Rattle.machine_data.specs.declared.records.Call.{Call}
use Rattle.machine_data.specs.declared.records.Work.{Work}
use Rattle.machine_data.specs.Maps.{change}
use Rattle.laws_states.proofs.{ReadyLemmas.in_set_is, WakeCounts.woken_at, WakeCounts.woken_place, WakeTableLemmas.event_threads, WakeTableLemmas.join_others, WakeTableLemmas.join_threads, WakeTableLemmas.waiting_of}
use Rattle.laws_places.proofs.{Balance.Balance, Balance.Gained, Balance.Quiet, Balance.same_is}
use Rattle.laws_places.proofs.CountedSteps.{waiter_any}
use Rattle.machine_rules.proofs.FreeLemmas.{evented_join}
use Rattle.machine_data.specs.Moves.{may_publish, may_wake_joined, unblocked, wake_joined}
use Rattle.laws_places.proofs.Laws.{admits, ap, arith, Bool, by_number, Core, event_of, false, found_none, get, get-change, op_progress_of, inl, inr, is_callback_waiter, is_in_set, is_ready_member, is_some, is_woken_at, Join, join_of, joins, Mark, may_wake, PickedMember, nat_tests, NothingPicked, None, numbers, on_call, on_thread, on_work, Option, option_map, option_map_or, TaskEvent, PickedTaskEvent, Place, place_of, published, push_high, put_high, Records, refl, same_subtask, set_cancel_delivered, set_event, set_join, set_task_event, set_place, Some, Status, subst, Subtask, sym, taken, Thread, true, undelivered_end, wake, wake_why, waken_by, wakes_joined, wakes_one, Why, ℕ, ⊎_elim, ◌==◌, ◌∙◌, ◌≡◌, ◌⊎◌}
use Rattle.machine_data.specs.Read.{blocked_on, is_at, is_blocked_on, is_waiter, is_waiting_on}
use Rattle.machine_rules.proofs.WalkMoves.{blocked_at}
use Rattle.machine_rules.specs.Sets.{may_wake_new}
use Rattle.machine_rules.specs.Works.{is_ended_work}
use Rattle.laws_places.proofs.BlockedLemmas.{ended_as}
use Rattle.laws_order.proofs.EaseLemmas.{Eases, Moves, eased_moves, eased_woken, eases_after, eases_put, eases_same, moves_keep}
use Rattle.laws_order.specs.WakesKept.{GiveKeeps, JoinKeeps, NoWakeLost, PublishKeeps, TakeKeeps, WakeKeeps}

eases_refl : (s : Core) → Eases s s
eases_refl s = eases_same s s refl refl refl (λ n w. refl)

by_subtask : {A : Type 0} (d sub : Subtask) → (d ≡ sub → A) → (same_subtask d sub ≡ false → A) → A
by_subtask {A = A} d sub own other = by (same_subtask d sub) refl
  where
    by : (b : Bool) → same_subtask d sub ≡ b → A
    by true is = own (same_is d sub is)
    by false is = other is

-- ---- Events and joins

-- where a call's kind and export stay
on_call_eases : (k : ℕ) (f : Call → Call) (s : Core) → ((c : Call) → ((f c).kind ≡ c.kind) × ((f c).callee ≡ c.callee)) → Eases s (on_call k f s)
unfolding on_call
on_call_eases k f s same = eases_same s _ refl refl refl admitted
  where
    admitted : (n : ℕ) (w : Why) → admits n (record s { calls = change k f s.calls }) w ≡ admits n s w
    admitted n Why.Start = grind (arith, nat_tests, get-change, same)
    admitted n (Why.Delivery d) = grind (arith, nat_tests, get-change, same)
    admitted n Why.Resumption = refl

on_work_eases : (i : ℕ) (f : Work → Work) (s : Core) → Eases s (on_work i f s)
unfolding on_work
on_work_eases i f s = eases_same s _ refl refl refl admitted
  where
    admitted : (n : ℕ) (w : Why) → admits n (record s { works = change i f s.works }) w ≡ admits n s w
    admitted n Why.Start = refl
    admitted n (Why.Delivery d) = refl
    admitted n Why.Resumption = refl

event_eases : (sub : Subtask) (e : Option Status) (s : Core) → Eases s (set_event sub e s)
unfolding set_event
event_eases (Subtask.Guest k) e s = on_call_eases k (λ c. record c { event = e }) s (λ c. (refl, refl))
event_eases (Subtask.Host i) e s = on_work_eases i (λ w. record w { event = e }) s

join_eases : (sub : Subtask) (j : Join) (s : Core) → Eases s (set_join sub j s)
unfolding set_join
join_eases (Subtask.Guest k) j s = on_call_eases k (λ c. record c { join = j }) s (λ c. (refl, refl))
join_eases (Subtask.Host i) j s = on_work_eases i (λ w. record w { join = j }) s

other_event : (d sub : Subtask) (e : Option Status) (s : Core) → same_subtask d sub ≡ false → (event_of d (set_event sub e s) ≡ event_of d s) × (join_of d (set_event sub e s) ≡ join_of d s)
unfolding set_event on_call on_work
other_event (Subtask.Guest k) (Subtask.Guest q) e s other = (grind (arith, nat_tests, get-change, other), grind (arith, nat_tests, get-change, other))
other_event (Subtask.Host i) (Subtask.Host q) e s other = (grind (arith, nat_tests, get-change, other), grind (arith, nat_tests, get-change, other))
other_event (Subtask.Guest k) (Subtask.Host q) e s other = (refl, refl)
other_event (Subtask.Host i) (Subtask.Guest q) e s other = (refl, refl)

event_gone : (sub : Subtask) (s : Core) → event_of sub (set_event sub None s) ≡ None
unfolding set_event on_call on_work
event_gone (Subtask.Guest k) s = grind (arith, nat_tests, get-change)
event_gone (Subtask.Host i) s = grind (arith, nat_tests, get-change)

join_event : (d sub : Subtask) (j : Join) (s : Core) → event_of d (set_join sub j s) ≡ event_of d s
unfolding set_join on_call on_work
join_event (Subtask.Guest k) (Subtask.Guest q) j s = grind (arith, nat_tests, get-change)
join_event (Subtask.Host i) (Subtask.Host q) j s = grind (arith, nat_tests, get-change)
join_event (Subtask.Guest k) (Subtask.Host q) j s = refl
join_event (Subtask.Host i) (Subtask.Guest q) j s = refl

-- it is where it joined
join_is : (y : ℕ) (sub : Subtask) (j : Join) (s : Core) → is_ready_member y sub (set_join sub j s) ≡ true → (is_in_set y j ≡ true) × (is_some (event_of sub s) ≡ true)
unfolding set_join on_call on_work
join_is y (Subtask.Guest k) j s h = (grind (arith, nat_tests, get-change), grind (arith, nat_tests, get-change))
join_is y (Subtask.Host i) j s h = (grind (arith, nat_tests, get-change), grind (arith, nat_tests, get-change))

pub member_as : (y : ℕ) (d : Subtask) (s t : Core) → event_of d t ≡ event_of d s → join_of d t ≡ join_of d s → is_ready_member y d t ≡ true → is_ready_member y d s ≡ true
member_as y d s t event join h = grind (arith, event, join, h)

-- ---- Waking

-- calls and works are the same
abbrev SameRecords : Core → Core → Type 0
SameRecords s t = (t.calls ≡ s.calls) × (t.works ≡ s.works)

unblocked_records : (o : Option ℕ) (u : Core) → SameRecords u (unblocked o u)
unfolding put_high push_high set_place on_thread
unblocked_records None u = (refl, refl)
unblocked_records (Some k) u = (refl, refl)

waken_records : (y m : ℕ) (b : Bool) (u : Core) → SameRecords u (waken_by b y m u)
unfolding put_high push_high set_place on_thread
waken_records y m true u = (refl, refl)
waken_records y m false u = (refl, refl)

wake_records : (j : Join) (w : Option ℕ) (u : Core) → SameRecords u (wake_joined j w u)
unfolding wake
wake_records (Join.Set x) (Some m) u = waken_records x m (is_callback_waiter m u) u
wake_records (Join.Set x) None u = (refl, refl)
wake_records _ w u = (refl, refl)

pub event_as : (d : Subtask) (s t : Core) → SameRecords s t → (event_of d t ≡ event_of d s) × (join_of d t ≡ join_of d s)
event_as (Subtask.Guest k) s t same = let calls = same.0 in (grind (arith, calls), grind (arith, calls))
event_as (Subtask.Host i) s t same = let works = same.1 in (grind (arith, works), grind (arith, works))

wake_eases : (x m : ℕ) (u : Core) → is_waiter x m u ≡ true → Eases u (wake x (Some m) u)
unfolding wake
wake_eases x m u waits = by (is_callback_waiter m u)
  where
    by : (b : Bool) → Eases u (waken_by b x m u)
    by true = let r = waiting_of x (place_of m u) waits in eases_put m (Place.Waiting x r.0) _ u r.1 refl
    by false = let r = waiting_of x (place_of m u) waits in eases_put m (Place.Waiting x r.0) _ u r.1 refl

chosen_eases : (j : Join) (w : Option ℕ) (u : Core) → ((x m : ℕ) → j ≡ Join.Set x → w ≡ Some m → is_waiter x m u ≡ true) → Eases u (wake_joined j w u)
unfolding wake
chosen_eases (Join.Set x) (Some m) u waits = wake_eases x m u (waits x m refl refl)
chosen_eases (Join.Set x) None u waits = eases_refl u
chosen_eases _ w u waits = eases_refl u

unblocked_eases : (sub : Subtask) (o : Option ℕ) (u : Core) → ((k : ℕ) → o ≡ Some k → place_of k u ≡ Some (Place.Blocked sub)) → Eases u (unblocked o u)
unblocked_eases sub None u at = eases_refl u
unblocked_eases sub (Some k) u at = eases_put k (Place.Blocked sub) Why.Resumption u (at k refl) refl

-- who waited and is woken is woken for the set
module _ (y m : ℕ) (s : Core) (h : NoWakeLost s) (waits : is_waiter y m s ≡ true) where
  asleep : is_woken_at y m s ≡ false
  asleep = let r = waiting_of y (place_of m s) waits in woken_at y m s ∙ ap (λ (o : Option Place). woken_place y o (op_progress_of m s)) r.1

  awake : (u : Core) → place_of m u ≡ place_of m s → op_progress_of m u ≡ op_progress_of m s → op_progress_of m (wake y (Some m) u) ≡ op_progress_of m s → is_woken_at y m (wake y (Some m) u) ≡ true
  awake u place far after =
      let r = waiting_of y (place_of m s) waits in
      let now = wakes_one y m u (ap (λ (o : Option Place). option_map_or (is_waiting_on y) o false) place ∙ waits) in
      woken_at y m (wake y (Some m) u) ∙ (ap (λ (o : Option Place). woken_place y o (op_progress_of m (wake y (Some m) u))) now ∙ (ap (woken_place y (Some (Place.Ready Mark.High (wake_why y (is_callback_waiter m u))))) after ∙
      by r.0 r.1 (ap (λ (o : Option Place). callback_in o) (place ∙ r.1))))
    where
      callback_in : Option Place → Bool
      callback_in (Some (Place.Waiting x c)) = c
      callback_in o = false

      by : (c : Bool) → place_of m s ≡ Some (Place.Waiting y c) → callback_in (place_of m u) ≡ c → woken_place y (Some (Place.Ready Mark.High (wake_why y (is_callback_waiter m u)))) (op_progress_of m s) ≡ true
      by true at is = grind (arith, nat_tests, at, place)
      by false at is = let inside = h.inside m (Place.Waiting y false) at in grind (arith, nat_tests, at, place, inside)

quiet_moves : (s t : Core) → Eases s t → SameRecords s t → Moves s t
quiet_moves s t e same = eased_moves e (λ n sub at. inl (event_as sub s t same).0) (λ sub. ended_as sub s t same.1)
    (λ y j now was. Quiet (λ d on. let r = event_as d s t same in member_as y d s t r.0 r.1 on) (eased_woken e y))

chosen_waits : (j : Join) (w : Option ℕ) (s : Core) (x m : ℕ) → may_wake_joined j w s ≡ true → j ≡ Join.Set x → w ≡ Some m → is_waiter x m s ≡ true
unfolding may_wake
chosen_waits j w s x m may is chosen = grind (arith, is, chosen, may)

pub wake_keeps : WakeKeeps
unfolding WakeKeeps may_publish
wake_keeps sub w s may h = moves_keep (quiet_moves s (wake_joined (join_of sub s) w s) (chosen_eases (join_of sub s) w s (λ x m is chosen. chosen_waits (join_of sub s) w s x m may is chosen)) (wake_records (join_of sub s) w s)) h

-- an event or a join says nothing of how far a work is
event_ended : (d sub : Subtask) (e : Option Status) (s : Core) → is_ended_work d (set_event sub e s) ≡ is_ended_work d s
unfolding set_event on_call on_work
event_ended (Subtask.Guest k) sub e s = refl
event_ended (Subtask.Host i) (Subtask.Guest k) e s = refl
event_ended (Subtask.Host i) (Subtask.Host j) e s = grind (arith, nat_tests, get-change)

join_ended : (d sub : Subtask) (j : Join) (s : Core) → is_ended_work d (set_join sub j s) ≡ is_ended_work d s
unfolding set_join on_call on_work
join_ended (Subtask.Guest k) sub j s = refl
join_ended (Subtask.Host i) (Subtask.Guest k) j s = refl
join_ended (Subtask.Host i) (Subtask.Host n) j s = grind (arith, nat_tests, get-change)

-- ---- Taking

take_event_keeps : (sub : Subtask) (s : Core) → NoWakeLost s → NoWakeLost (set_event sub None s)
take_event_keeps sub s h = moves_keep (eased_moves (event_eases sub None s) events (λ d. event_ended d sub None s) (λ y j now was. Quiet (λ d on. ready y d on) (eased_woken (event_eases sub None s) y))) h
  where
    events : (n : ℕ) (d : Subtask) → place_of n (set_event sub None s) ≡ Some (Place.Blocked d) → (event_of d (set_event sub None s) ≡ event_of d s) ⊎ (undelivered_end (event_of d (set_event sub None s)) ≡ None)
    events n d at = by_subtask d sub (λ is. inr (ap (λ (i : Subtask). undelivered_end (event_of i (set_event sub None s))) is ∙ ap undelivered_end (event_gone sub s)))
        (λ apart. inl (other_event d sub None s apart).0)

    ready : (y : ℕ) (d : Subtask) → is_ready_member y d (set_event sub None s) ≡ true → is_ready_member y d s ≡ true
    ready y d on = by_subtask d sub (λ same. absurd (let gone = event_gone sub s in grind (arith, on, same, gone)))
        (λ apart. let r = other_event d sub None s apart in member_as y d s (set_event sub None s) r.0 r.1 on)

pub take_keeps : TakeKeeps
unfolding TakeKeeps
take_keeps = take_event_keeps

-- what is read of subtasks stays
abbrev SameEvents : Core → Core → Type 0
SameEvents s t = (d : Subtask) → (event_of d t ≡ event_of d s) × (join_of d t ≡ join_of d s)

owed_eases : (e : Option TaskEvent) (k : ℕ) (s : Core) → Eases s (set_task_event k e s) × SameEvents s (set_task_event k e s)
unfolding set_task_event on_call
owed_eases e k s = (on_call_eases k (λ c. record c { task_event = e }) s (λ c. (refl, refl)), same)
  where
    same : SameEvents s (record s { calls = change k (λ c. record c { task_event = e }) s.calls })
    same (Subtask.Guest j) = (grind (arith, nat_tests, get-change), grind (arith, nat_tests, get-change))
    same (Subtask.Host j) = (refl, refl)

delivered_eases : (k : ℕ) (s : Core) → Eases s (set_cancel_delivered k s) × SameEvents s (set_cancel_delivered k s)
unfolding set_cancel_delivered on_call
delivered_eases k s = (on_call_eases k (λ c. record c { cancel_delivered = true }) s (λ c. (refl, refl)), same)
  where
    same : SameEvents s (record s { calls = change k (λ c. record c { cancel_delivered = true }) s.calls })
    same (Subtask.Guest j) = (grind (arith, nat_tests, get-change), grind (arith, nat_tests, get-change))
    same (Subtask.Host j) = (refl, refl)

own_eases : (e : TaskEvent) (k : ℕ) (s : Core) → Eases s (taken (PickedTaskEvent e) k s) × SameEvents s (taken (PickedTaskEvent e) k s)
unfolding taken
own_eases TaskEvent.None k s = owed_eases None k s
own_eases TaskEvent.Cancelled k s =
    let a = owed_eases None k s in
    let b = delivered_eases k (set_task_event k None s) in
    (eases_after a.0 b.0, λ d. ((b.1 d).0 ∙ (a.1 d).0, (b.1 d).1 ∙ (a.1 d).1))

own_works : (e : TaskEvent) (k : ℕ) (s : Core) → (taken (PickedTaskEvent e) k s).works ≡ s.works
unfolding taken set_task_event set_cancel_delivered on_call
own_works TaskEvent.None k s = refl
own_works TaskEvent.Cancelled k s = refl

pub give_keeps : GiveKeeps
unfolding GiveKeeps taken
give_keeps (PickedTaskEvent e) k s h = let r = own_eases e k s in moves_keep (eased_moves r.0 (λ n d at. inl (r.1 d).0) (λ d. ended_as d s (taken (PickedTaskEvent e) k s) (own_works e k s))
    (λ y j now was. Quiet (λ d on. let q = r.1 d in member_as y d s (taken (PickedTaskEvent e) k s) q.0 q.1 on) (eased_woken r.0 y))) h
give_keeps (PickedMember sub) k s h = take_event_keeps sub s h
give_keeps NothingPicked k s h = h

-- ---- Publishing

-- who is blocked on the subtask is found
blocked_found : (sub : Subtask) (n : ℕ) (s : Core) → blocked_on sub s ≡ None → place_of n s ≡ Some (Place.Blocked sub) → ⊥
unfolding blocked_on numbers get
blocked_found sub n s none at = by (get s.threads n) refl
  where
    by : (o : Option Thread) → get s.threads n ≡ o → ⊥
    by None is = absurd (grind arith)
    by (Some r) is = found_none (λ k. is_at k s (is_blocked_on sub)) n r s.threads.list is (grind (arith, nat_tests)) none

put_there : (k : ℕ) (w : Why) (s : Core) → is_some (place_of k s) ≡ true → place_of k (put_high k w s) ≡ Some (Place.Ready Mark.High w)
unfolding put_high push_high set_place on_thread
put_there k w s there = grind (arith, nat_tests, get-change, there)

none_chosen : (x : ℕ) (s : Core) → may_wake x None s ≡ true → (n : ℕ) → is_waiter x n s ≡ true → ⊥
unfolding may_wake
none_chosen x s may n waits = let any = waiter_any x n s waits in absurd (grind (arith, may, any))

some_chosen : (x m : ℕ) (s : Core) → may_wake x (Some m) s ≡ true → is_waiter x m s ≡ true
unfolding may_wake
some_chosen x m s may = may

put_apart : (m k : ℕ) (w : Why) (s : Core) → (m == k) ≡ false → place_of m (put_high k w s) ≡ place_of m s
unfolding put_high push_high set_place on_thread
put_apart m k w s apart = grind (arith, nat_tests, get-change, apart)

module _ (sub : Subtask) (e : Status) (w : Option ℕ) (s : Core) (may : may_wake_joined (join_of sub s) w s ≡ true) (h : NoWakeLost s) where
  abbrev evented : Core
  evented = set_event sub (Some e) s

  abbrev freed : Core
  freed = unblocked (blocked_on sub s) evented

  abbrev told : Core
  told = wake_joined (join_of sub s) w freed

  first : Eases s evented
  first = event_eases sub (Some e) s

  place_evented : (n : ℕ) → place_of n evented ≡ place_of n s
  place_evented n = ap (λ (r : Records Thread). option_map (λ (t : Thread). t.place) (get r n)) (event_threads sub (Some e) s)

  second : Eases evented freed
  second = unblocked_eases sub (blocked_on sub s) evented (λ k is. place_evented k ∙ blocked_at sub s k is)

  -- a waiter isn't the one that is freed
  waiter_freed : (x m : ℕ) → is_waiter x m s ≡ true → place_of m freed ≡ place_of m s
  waiter_freed x m waits = ⊎_elim (λ same. same ∙ place_evented m) (λ r. absurd (by (blocked_on sub s) refl r.1.1.1.1)) (second.place m)
    where
      by : (o : Option ℕ) → blocked_on sub s ≡ o → {y : Why} → place_of m (unblocked o evented) ≡ Some (Place.Ready Mark.High y) → ⊥
      by None is now = absurd (let same = place_evented m in grind (arith, waits, now, same))
      by (Some k) is now = by_number m k _ (λ e. absurd (let at = blocked_at sub s k is in grind (arith, waits, at, e)))
          (λ apart. absurd (let same = place_evented m in let kept = put_apart m k Why.Resumption evented apart in grind (arith, waits, now, same, kept)))

  third : Eases freed told
  third = chosen_eases (join_of sub s) w freed (λ x m is chosen. let waits = chosen_waits (join_of sub s) w s x m may is chosen in
      ap (λ (o : Option Place). option_map_or (is_waiting_on x) o false) (waiter_freed x m waits) ∙ waits)

  all : Eases s told
  all = eases_after (eases_after first second) third

  records : SameRecords evented told
  records = let a = unblocked_records (blocked_on sub s) evented in let b = wake_records (join_of sub s) w freed in (b.0 ∙ a.0, b.1 ∙ a.1)

  -- who was blocked on it isn't any more
  unstuck : (n : ℕ) → place_of n told ≡ Some (Place.Blocked sub) → ⊥
  unstuck n at = by (blocked_on sub s) refl mid
    where
      mid : place_of n freed ≡ Some (Place.Blocked sub)
      mid = ⊎_elim (λ same. sym same ∙ at) (λ r. absurd (let now = r.1.1.1.1 in grind (arith, now, at))) (third.place n)

      was : place_of n s ≡ Some (Place.Blocked sub)
      was = ⊎_elim (λ same. sym same ∙ at) (λ r. absurd (let now = r.1.1.1.1 in grind (arith, now, at))) (all.place n)

      by : (o : Option ℕ) → blocked_on sub s ≡ o → place_of n (unblocked o evented) ≡ Some (Place.Blocked sub) → ⊥
      by None is now = blocked_found sub n s is was
      by (Some k) is now =
          let one = h.alone n k sub was (blocked_at sub s k is) in
          let ready = put_there k Why.Resumption evented (ap (λ (o : Option Place). is_some o) (place_evented k ∙ blocked_at sub s k is)) in absurd (grind (arith, one, ready, now))

  events : (n : ℕ) (d : Subtask) → place_of n told ≡ Some (Place.Blocked d) → (event_of d told ≡ event_of d s) ⊎ (undelivered_end (event_of d told) ≡ None)
  events n d at = by_subtask d sub (λ is. absurd (unstuck n (at ∙ ap (λ (i : Subtask). Some (Place.Blocked i)) is)))
      (λ apart. inl ((event_as d evented told records).0 ∙ (other_event d sub (Some e) s apart).0))

  others : (y : ℕ) (d : Subtask) → same_subtask d sub ≡ false → is_ready_member y d told ≡ true → is_ready_member y d s ≡ true
  others y d apart on = let r = event_as d evented told records in let q = other_event d sub (Some e) s apart in member_as y d s told (r.0 ∙ q.0) (r.1 ∙ q.1) on

  counts : (y j : ℕ) → is_waiter y j told ≡ true → is_waiter y j s ≡ true → Balance y s told
  counts y j now was = by (is_in_set y (join_of sub s)) refl
    where
      all_ready : is_in_set y (join_of sub s) ≡ false → (d : Subtask) → is_ready_member y d told ≡ true → is_ready_member y d s ≡ true
      all_ready out d on = by_subtask d sub
          (λ same. absurd (let r = (event_as sub evented told records).1 in let q = evented_join sub (Some e) s in grind (arith, on, same, r, q, out)))
          (λ apart. others y d apart on)

      gains : (v : Option ℕ) → may_wake y v s ≡ true → wake y v freed ≡ told → Balance y s told
      gains None chosen is = absurd (none_chosen y s chosen j was)
      gains (Some m) chosen is =
          let waits = some_chosen y m s chosen in
          let place = waiter_freed y m waits in
          let far = second.far m ∙ first.far m in
          let on = awake y m s h waits freed place far ((wake_eases y m freed (ap (λ (o : Option Place). option_map_or (is_waiting_on y) o false) place ∙ waits)).far m ∙ far) in
          Gained sub m (others y) (eased_woken all y) (asleep y m s h waits) (ap (λ (c : Core). is_woken_at y m c) (sym is) ∙ on)

      by : (b : Bool) → is_in_set y (join_of sub s) ≡ b → Balance y s told
      by false out = Quiet (all_ready out) (eased_woken all y)
      by true is = let at = in_set_is y (join_of sub s) is in gains w (ap (λ (j : Join). may_wake_joined j w s) (sym at) ∙ may) (ap (λ (j : Join). wake_joined j w freed) (sym at))

  published_moves : Moves s told
  published_moves = eased_moves all events (λ d. ended_as d evented told records.1 ∙ event_ended d sub (Some e) s) counts

pub publish_keeps : PublishKeeps
unfolding PublishKeeps published may_publish
publish_keeps sub e w s may h = moves_keep (published_moves sub e w s may h) h

-- ---- Joining

-- a subtask without an event, or one that joins no set, becomes ready nowhere
leaves_moves : (sub : Subtask) (j : Join) (s : Core) → ((y : ℕ) → is_ready_member y sub (set_join sub j s) ≡ false) → Moves s (set_join sub j s)
leaves_moves sub j s none = eased_moves (join_eases sub j s) (λ n d at. inl (join_event d sub j s)) (λ d. join_ended d sub j s) (λ y i now was. Quiet (λ d on. ready y d on) (eased_woken (join_eases sub j s) y))
  where
    ready : (y : ℕ) (d : Subtask) → is_ready_member y d (set_join sub j s) ≡ true → is_ready_member y d s ≡ true
    ready y d on = by_subtask d sub (λ e. absurd (let off = none y in grind (arith, on, e, off))) (λ apart. sym (join_others y d sub j s apart) ∙ on)

no_member : (y : ℕ) (sub : Subtask) (j : Join) (s : Core) → (is_in_set y j ≡ true → is_some (event_of sub s) ≡ true → ⊥) → is_ready_member y sub (set_join sub j s) ≡ false
no_member y sub j s none = by (is_ready_member y sub (set_join sub j s)) refl
  where
    by : (b : Bool) → is_ready_member y sub (set_join sub j s) ≡ b → is_ready_member y sub (set_join sub j s) ≡ false
    by false is = is
    by true is = let r = join_is y sub j s is in absurd (none r.0 r.1)

module _ (sub : Subtask) (z : ℕ) (w : Option ℕ) (s : Core) (may : may_wake z w s ≡ true) (h : NoWakeLost s) where
  abbrev member : Core
  member = set_join sub (Join.Set z) s

  abbrev woke : Core
  woke = wake z w member

  same_place : (m : ℕ) → place_of m member ≡ place_of m s
  same_place m = ap (λ (r : Records Thread). option_map (λ (u : Thread). u.place) (get r m)) (join_threads sub (Join.Set z) s)

  chosen_eased : (w : Option ℕ) → may_wake z w s ≡ true → Eases s (wake z w member)
  chosen_eased w may = eases_after (join_eases sub (Join.Set z) s) (chosen_eases (Join.Set z) w member (λ i m is chosen.
      ap (λ (o : Option Place). option_map_or (is_waiting_on i) o false) (same_place m) ∙ chosen_waits (Join.Set z) w s i m may is chosen))

  same_records : (d : Subtask) → (event_of d woke ≡ event_of d member) × (join_of d woke ≡ join_of d member)
  same_records d = event_as d member woke (wake_records (Join.Set z) w member)

  others_ready : (y : ℕ) (d : Subtask) → same_subtask d sub ≡ false → is_ready_member y d woke ≡ true → is_ready_member y d s ≡ true
  others_ready y d apart on = let r = same_records d in sym (join_others y d sub (Join.Set z) s apart) ∙ member_as y d member woke r.0 r.1 on

  elsewhere : (y : ℕ) → (y == z) ≡ false → (d : Subtask) → is_ready_member y d woke ≡ true → is_ready_member y d s ≡ true
  elsewhere y out d on = by_subtask d sub
      (λ e. absurd (let r = same_records d in let at = join_is y sub (Join.Set z) s (ap (λ (i : Subtask). is_ready_member y i member) (sym e) ∙ member_as y d member woke r.0 r.1 on) in grind (arith, at.0, out)))
      (λ apart. others_ready y d apart on)

  joins_counts : (y j : ℕ) → is_waiter y j woke ≡ true → is_waiter y j s ≡ true → Balance y s woke
  joins_counts y j now was = by_number y z _ (λ e. subst (λ (i : ℕ). Balance i s woke) (sym e) (gains w refl may (ap (λ (i : ℕ). is_waiter i j s) (sym e) ∙ was)))
      (λ apart. Quiet (elsewhere y apart) (eased_woken (chosen_eased w may) y))
    where
      gains : (v : Option ℕ) → w ≡ v → may_wake z v s ≡ true → is_waiter z j s ≡ true → Balance z s woke
      gains None is may was = absurd (none_chosen z s may j was)
      gains (Some m) is chosen was =
          let waits = some_chosen z m s chosen in
          let far = (join_eases sub (Join.Set z) s).far m in
          let on = awake z m s h waits member (same_place m) far ((wake_eases z m member (ap (λ (o : Option Place). option_map_or (is_waiting_on z) o false) (same_place m) ∙ waits)).far m ∙ far) in
          Gained sub m (others_ready z) (eased_woken (chosen_eased w may) z) (asleep z m s h waits) (ap (λ (v : Option ℕ). is_woken_at z m (wake z v member)) is ∙ on)

  joins_moves : Moves s woke
  joins_moves = eased_moves (chosen_eased w may) (λ n d at. inl ((same_records d).0 ∙ join_event d sub (Join.Set z) s))
      (λ d. ended_as d member woke (wake_records (Join.Set z) w member).1 ∙ join_ended d sub (Join.Set z) s) joins_counts

pub join_keeps : JoinKeeps
unfolding JoinKeeps
join_keeps sub x w s may h = by (event_of sub s) refl x may
  where
    by : (o : Option Status) → event_of sub s ≡ o → (x : Option ℕ) → may_wake_new o x w s ≡ true → NoWakeLost (wakes_joined o x w (set_join sub (joins x) s))
    by None is x may = moves_keep (leaves_moves sub (joins x) s (λ y. no_member y sub (joins x) s (λ joined some. absurd (grind (arith, is, some))))) h
    by (Some e) is None may = moves_keep (leaves_moves sub Join.Nowhere s (λ y. no_member y sub Join.Nowhere s (λ joined some. absurd (grind (arith, joined))))) h
    by (Some e) is (Some z) may = moves_keep (joins_moves sub z w s may h) h
