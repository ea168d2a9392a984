-- The rows of the table of wakes.
use Rattle.laws_states.proofs.Primitives.{activated, activated_woken, advanced, ap, arith, BeginsToWait, blocked_at, blocked_on, Bool, by_number, CallbackFinds, CancelTakes, Change, Changes, Core, Delivery, DeliveryHeld, displaced, event_of, EventReplaced, false, Fewer, get, get-change, PickedEvent, Given, handed_on, has_ready_member, HasDelivery, HasPlace, op_progress_of, OpProgress, if◌then◌else◌, InsideOps, instance_of, is_callback_waiter, is_in_set, is_inside, is_inside_wait, is_member, is_ready_member, is_some, is_waiter, is_waiting_on, is_woken_for, Join, join_of, joins_set, Mark, member_same, PickedMember, MemberLeaves, More, moved_to, nat_tests, NothingPicked, None, on_call, on_instance, on_thread, on_work, Option, option_map, option_map_or, TaskEvent, PickedTaskEvent, Place, place_of, Placed, published, push_high, push_high_first, put_high, put_switch, ready_members, ReadyAndWakes, ReadyUnawaited, received, Records, refl, WakeRow, RunsInWait, Same, same_subtask, Script, set_cancel_delivered, set_do_not_enter, set_event, set_given, set_op_progress, set_join, set_task_event, set_place, set_position, set_register, set_script, set_switch, Some, Status, subst, Subtask, sym, taken, task_of, Thread, true, unblocked, waiters, wake, wake_joined, waken_by, wakes_joined, Why, why_of, woken, WokenHandsOn, WokenTakes, WokenTakesOwn, WokenWaits, ℕ, ◌==◌, ◌∙◌, ◌≡◌}
use Rattle.laws_states.proofs.{ReadyCounts.is_woken_at, ReadyLemmas.in_set_is, WakeCounts.Turns, WakeCounts.members_change, WakeCounts.threads_change, WakeCounts.turns_as, WakeCounts.waiters_change, WakeCounts.woken_at, WakeCounts.woken_place}

-- ---- From step to step

-- first the members change, then a thread
then_threads : {x : ℕ} {s t u : Core} (a b c : Change) → WakeRow x a Same Same s t → WakeRow x Same b c t u → WakeRow x a b c s u
then_threads {x = x} {s = s} {t = t} {u = u} a b c p q = record {
  members = subst (λ (n : ℕ). Changes a (ready_members x s) n) (sym q.members) p.members;
  threads = subst (λ (n : ℕ). Changes b n (woken x u)) p.threads q.threads;
  waiters = subst (λ (n : ℕ). Changes c n (waiters x u)) p.waiters q.waiters;
}

members_as : (x : ℕ) (s t : Core) → ((d : Subtask) → is_ready_member x d t ≡ is_ready_member x d s) → Changes Same (ready_members x s) (ready_members x t)
members_as x s t same = members_change x (Subtask.Guest 0) Same s t (same (Subtask.Guest 0)) (λ d apart. same d)

threads_as : (x : ℕ) (s t : Core) → t.threads ≡ s.threads → Changes Same (woken x s) (woken x t)
unfolding woken
threads_as x s t same = ap (λ (r : Records Thread). woken x (record s { threads = r })) same

waiters_as : (x : ℕ) (s t : Core) → t.threads ≡ s.threads → Changes Same (waiters x s) (waiters x t)
unfolding waiters
waiters_as x s t same = ap (λ (r : Records Thread). waiters x (record s { threads = r })) same

-- one thread alone changes
scripted_thread_rule : (x n : ℕ) (b c : Change) (s t : Core) → t.calls ≡ s.calls → t.works ≡ s.works → Turns b (is_woken_at x n s) (is_woken_at x n t) →
    Turns c (is_waiter x n s) (is_waiter x n t) → ((i : ℕ) → (i == n) ≡ false → get t.threads i ≡ get s.threads i) → WakeRow x Same b c s t
scripted_thread_rule x n b c s t calls works awake waits others = record {
  members = members_as x s t (member_same x s t calls works);
  threads = threads_change x n b s t awake (λ i apart. ap (λ (o : Option Thread). option_map_or (λ (r : Thread). is_woken_for x r r.place) o false) (others i apart));
  waiters = waiters_change x n c s t waits (λ i apart. ap (λ (o : Option Thread). option_map_or (is_waiting_on x) (option_map (λ (r : Thread). r.place) o) false) (others i apart));
}

-- one subtask alone changes
member_rule : (x : ℕ) (sub : Subtask) (a : Change) (s t : Core) → t.threads ≡ s.threads → Turns a (is_ready_member x sub s) (is_ready_member x sub t) →
    ((d : Subtask) → same_subtask d sub ≡ false → is_ready_member x d t ≡ is_ready_member x d s) → WakeRow x a Same Same s t
member_rule x sub a s t threads ready others = record {
  members = members_change x sub a s t ready others;
  threads = threads_as x s t threads;
  waiters = waiters_as x s t threads;
}

-- ---- Primitives

event_others : (x : ℕ) (d sub : Subtask) (e : Option Status) (s : Core) → same_subtask d sub ≡ false → is_ready_member x d (set_event sub e s) ≡ is_ready_member x d s
unfolding set_event on_call on_work
event_others x (Subtask.Guest k) (Subtask.Guest q) e s other = grind (arith, nat_tests, get-change, other)
event_others x (Subtask.Host i) (Subtask.Host q) e s other = grind (arith, nat_tests, get-change, other)
event_others x (Subtask.Guest k) (Subtask.Host q) e s other = refl
event_others x (Subtask.Host i) (Subtask.Guest q) e s other = refl

pub join_others : (x : ℕ) (d sub : Subtask) (j : Join) (s : Core) → same_subtask d sub ≡ false → is_ready_member x d (set_join sub j s) ≡ is_ready_member x d s
unfolding set_join on_call on_work
join_others x (Subtask.Guest k) (Subtask.Guest q) j s other = grind (arith, nat_tests, get-change, other)
join_others x (Subtask.Host i) (Subtask.Host q) j s other = grind (arith, nat_tests, get-change, other)
join_others x (Subtask.Guest k) (Subtask.Host q) j s other = refl
join_others x (Subtask.Host i) (Subtask.Guest q) j s other = refl

pub event_threads : (sub : Subtask) (e : Option Status) (s : Core) → (set_event sub e s).threads ≡ s.threads
unfolding set_event on_call on_work
event_threads (Subtask.Guest k) e s = refl
event_threads (Subtask.Host i) e s = refl

pub join_threads : (sub : Subtask) (j : Join) (s : Core) → (set_join sub j s).threads ≡ s.threads
unfolding set_join on_call on_work
join_threads (Subtask.Guest k) j s = refl
join_threads (Subtask.Host i) j s = refl

event_set : (x : ℕ) (sub : Subtask) (e : Status) (s : Core) → is_member x sub s ≡ true → is_ready_member x sub (set_event sub (Some e) s) ≡ true
unfolding set_event on_call on_work
event_set x (Subtask.Guest k) e s h = grind (arith, nat_tests, get-change)
event_set x (Subtask.Host i) e s h = grind (arith, nat_tests, get-change)

event_gone : (x : ℕ) (sub : Subtask) (s : Core) → is_ready_member x sub (set_event sub None s) ≡ false
unfolding set_event on_call on_work
event_gone x (Subtask.Guest k) s = grind (arith, nat_tests, get-change)
event_gone x (Subtask.Host i) s = grind (arith, nat_tests, get-change)

join_set : (x : ℕ) (sub : Subtask) (s : Core) → is_some (event_of sub s) ≡ true → is_ready_member x sub (set_join sub (Join.Set x) s) ≡ true
unfolding set_join on_call on_work
join_set x (Subtask.Guest k) s h = grind (arith, nat_tests, get-change)
join_set x (Subtask.Host i) s h = grind (arith, nat_tests, get-change)

join_gone : (x : ℕ) (sub : Subtask) (j : Join) (s : Core) → is_in_set x j ≡ false → is_ready_member x sub (set_join sub j s) ≡ false
unfolding set_join on_call on_work
join_gone x (Subtask.Guest k) j s h = grind (arith, nat_tests, get-change)
join_gone x (Subtask.Host i) j s h = grind (arith, nat_tests, get-change)

pub event_rule : (x : ℕ) (sub : Subtask) (e : Option Status) (a : Change) (s : Core) → Turns a (is_ready_member x sub s) (is_ready_member x sub (set_event sub e s)) →
    WakeRow x a Same Same s (set_event sub e s)
event_rule x sub e a s turns = member_rule x sub a s (set_event sub e s) (event_threads sub e s) turns (λ d apart. event_others x d sub e s apart)

pub scripted_join_rule : (x : ℕ) (sub : Subtask) (j : Join) (a : Change) (s : Core) → Turns a (is_ready_member x sub s) (is_ready_member x sub (set_join sub j s)) →
    WakeRow x a Same Same s (set_join sub j s)
scripted_join_rule x sub j a s turns = member_rule x sub a s (set_join sub j s) (join_threads sub j s) turns (λ d apart. join_others x d sub j s apart)

-- a thread comes to a place
place_is : (n : ℕ) (p : Place) (s : Core) → is_some (place_of n s) ≡ true → place_of n (set_place n p s) ≡ Some p
unfolding set_place on_thread
place_is n p s there = grind (arith, nat_tests, get-change, there)

far_is : (i n : ℕ) (p : Place) (s : Core) → op_progress_of i (set_place n p s) ≡ op_progress_of i s
unfolding set_place on_thread
far_is i n p s = grind (arith, nat_tests, get-change)

place_rule : (x n : ℕ) (p : Place) (b c : Change) (s : Core) → is_some (place_of n s) ≡ true → Turns b (is_woken_at x n s) (woken_place x (Some p) (op_progress_of n s)) →
    Turns c (is_waiter x n s) (is_waiting_on x p) → WakeRow x Same b c s (set_place n p s)
unfolding set_place on_thread
place_rule x n p b c s there awake waits = scripted_thread_rule x n b c s (set_place n p s) refl refl
    (subst (λ (q : Bool). Turns b (is_woken_at x n s) q) (sym (woken_at x n (set_place n p s) ∙ (ap (λ (o : Option Place). woken_place x o (op_progress_of n (set_place n p s))) (place_is n p s there) ∙
    ap (λ (f : OpProgress). woken_place x (Some p) f) (far_is n n p s)))) awake)
    (subst (λ (q : Bool). Turns c (is_waiter x n s) q) (sym (ap (λ (o : Option Place). option_map_or (is_waiting_on x) o false) (place_is n p s there))) waits)
    (λ i apart. grind (arith, nat_tests, get-change, apart))

put_rule : (x n : ℕ) (w : Why) (b c : Change) (s : Core) → is_some (place_of n s) ≡ true → Turns b (is_woken_at x n s) (woken_place x (Some (Place.Ready Mark.High w)) (op_progress_of n s)) →
    Turns c (is_waiter x n s) false → WakeRow x Same b c s (put_high n w s)
unfolding put_high push_high woken waiters ready_members
put_rule x n w b c s there awake waits = let r = place_rule x n (Place.Ready Mark.High w) b c s there awake waits in record { members = r.members; threads = r.threads; waiters = r.waiters }

-- ---- Waking

pub waiting_of : (y : ℕ) (o : Option Place) → option_map_or (is_waiting_on y) o false ≡ true → (c : Bool) × (o ≡ Some (Place.Waiting y c))
waiting_of y (Some (Place.Waiting z c)) h = (c, let same : y ≡ z = grind (arith, nat_tests) in ap (λ (i : ℕ). Some (Place.Waiting i c)) (sym same))
waiting_of y None h = absurd (grind arith)
waiting_of y (Some p) h = absurd (grind arith)

-- the thread waits so, and is inside a wait where it doesn't by callback
record Waits (x m : ℕ) (c : Bool) (s : Core) : Type 0 where
  at : place_of m s ≡ Some (Place.Waiting x c)
  inside : c ≡ false → is_inside_wait x (op_progress_of m s) ≡ true

waits_of : (x m : ℕ) (s : Core) → InsideOps s → is_waiter x m s ≡ true → (c : Bool) × Waits x m c s
waits_of x m s inside h =
    let r = waiting_of x (place_of m s) h in
    (r.0, record { at = r.1; inside = λ e. inside m (Place.Waiting x false) (r.1 ∙ ap (λ (b : Bool). Some (Place.Waiting x b)) e) })

waits_as : (x m : ℕ) (c : Bool) (s t : Core) → place_of m t ≡ place_of m s → op_progress_of m t ≡ op_progress_of m s → Waits x m c s → Waits x m c t
waits_as x m c s t place far w = record { at = place ∙ w.at; inside = λ e. ap (is_inside_wait x) far ∙ w.inside e }

wake_rule : (x m : ℕ) (c : Bool) (s : Core) → Waits x m c s → WakeRow x Same More Fewer s (wake x (Some m) s)
unfolding wake
wake_rule x m c s w = subst (λ (b : Bool). WakeRow x Same More Fewer s (waken_by b x m s)) (sym by_callback) (by c w)
  where
    by_callback : is_callback_waiter m s ≡ c
    by_callback = let at = w.at in grind (arith, at)

    off : (c : Bool) → Waits x m c s → is_woken_at x m s ≡ false
    off c w = woken_at x m s ∙ ap (λ (o : Option Place). woken_place x o (op_progress_of m s)) w.at

    waits : (c : Bool) → Waits x m c s → is_waiter x m s ≡ true
    waits c w = let at = w.at in grind (arith, nat_tests, at)

    there : (c : Bool) → Waits x m c s → is_some (place_of m s) ≡ true
    there c w = ap (λ (o : Option Place). is_some o) w.at

    by : (c : Bool) → Waits x m c s → WakeRow x Same More Fewer s (waken_by c x m s)
    by true w = put_rule x m (Why.Delivery (Delivery.Set x)) More Fewer s (there true w) (off true w, grind (arith, nat_tests)) (waits true w, refl)
    by false w = put_rule x m Why.Resumption More Fewer s (there false w) (off false w, let at = w.inside refl in grind (arith, at)) (waits false w, refl)

unblocked_rule : (x : ℕ) (sub : Subtask) (o : Option ℕ) (s : Core) → ((n : ℕ) → o ≡ Some n → (place_of n s ≡ Some (Place.Blocked sub)) × (is_inside_wait x (op_progress_of n s) ≡ false)) →
    WakeRow x Same Same Same s (unblocked o s)
unblocked_rule x sub None s h = record { members = refl; threads = refl; waiters = refl }
unblocked_rule x sub (Some n) s h =
    let at = (h n refl).0 in let far = (h n refl).1 in
    let off : is_woken_at x n s ≡ false = woken_at x n s ∙ ap (λ (o : Option Place). woken_place x o (op_progress_of n s)) at in
    put_rule x n Why.Resumption Same Same s (ap (λ (o : Option Place). is_some o) at) (grind (arith, far, off)) (grind (arith, at))

blocked_far : (x n : ℕ) (sub : Subtask) (s : Core) → InsideOps s → place_of n s ≡ Some (Place.Blocked sub) → is_inside_wait x (op_progress_of n s) ≡ false
blocked_far x n sub s inside at = by (op_progress_of n s) (inside n (Place.Blocked sub) at)
  where
    by : (f : OpProgress) → is_inside (Place.Blocked sub) f ≡ true → is_inside_wait x f ≡ false
    by f h = grind (arith, h)

put_other : (m n : ℕ) (w : Why) (s : Core) → (m == n) ≡ false → (place_of m (put_high n w s) ≡ place_of m s) × (op_progress_of m (put_high n w s) ≡ op_progress_of m s)
unfolding put_high push_high set_place on_thread
put_other m n w s apart = (grind (arith, nat_tests, get-change, apart), grind (arith, nat_tests, get-change, apart))

unblocked_other : (m : ℕ) (o : Option ℕ) (s : Core) → ((n : ℕ) → o ≡ Some n → (m == n) ≡ false) → (place_of m (unblocked o s) ≡ place_of m s) × (op_progress_of m (unblocked o s) ≡ op_progress_of m s)
unblocked_other m None s h = (refl, refl)
unblocked_other m (Some n) s h = put_other m n Why.Resumption s (h n refl)

-- the event is set, who is blocked on it goes on, and a waiter is woken
module _ (x : ℕ) (sub : Subtask) (e : Status) (s : Core) (inside : InsideOps s) (member : is_member x sub s ≡ true) where
  abbrev evented : Core
  evented = set_event sub (Some e) s

  abbrev freed : Core
  freed = unblocked (blocked_on sub s) evented

  place_same : (n : ℕ) → place_of n evented ≡ place_of n s
  place_same n = ap (λ (r : Records Thread). option_map (λ (t : Thread). t.place) (get r n)) (event_threads sub (Some e) s)

  far_same : (n : ℕ) → op_progress_of n evented ≡ op_progress_of n s
  far_same n = ap (λ (r : Records Thread). option_map_or (λ (t : Thread). t.op_progress) (get r n) OpProgress.Fresh) (event_threads sub (Some e) s)

  freed_rule : WakeRow x Same Same Same evented freed
  freed_rule = unblocked_rule x sub (blocked_on sub s) evented (λ n is. let at = blocked_at sub s n is in (place_same n ∙ at, ap (is_inside_wait x) (far_same n) ∙ blocked_far x n sub s inside at))

  pub publish_none : (a : Change) → Turns a (is_ready_member x sub s) true → WakeRow x a Same Same s (published sub e None s)
  unfolding published wake
  publish_none a turns =
      let r = then_threads a Same Same (event_rule x sub (Some e) a s (turns_as a _ _ _ _ refl (event_set x sub e s member) turns)) freed_rule in
      subst (λ (j : Join). WakeRow x a Same Same s (wake_joined j None freed)) (sym (in_set_is x (join_of sub s) member)) r

  pub publish_wakes : (a : Change) → Turns a (is_ready_member x sub s) true → (m : ℕ) → is_waiter x m s ≡ true → WakeRow x a More Fewer s (published sub e (Some m) s)
  unfolding published
  publish_wakes a turns m waits =
      let first = event_rule x sub (Some e) a s (turns_as a _ _ _ _ refl (event_set x sub e s member) turns) in
      let w = waits_of x m s inside waits in
      let other = unblocked_other m (blocked_on sub s) evented (λ n is. let at = blocked_at sub s n is in apart_of m n s at w.1.at) in
      let woke = wake_rule x m w.0 freed (waits_as x m w.0 s freed (other.0 ∙ place_same m) (other.1 ∙ far_same m) w.1) in
      subst (λ (j : Join). WakeRow x a More Fewer s (wake_joined j (Some m) freed)) (sym (in_set_is x (join_of sub s) member)) (then_threads a More Fewer (then_threads a Same Same first freed_rule) woke)
    where
      apart_of : (m n : ℕ) (s : Core) → place_of n s ≡ Some (Place.Blocked sub) → {c : Bool} → place_of m s ≡ Some (Place.Waiting x c) → (m == n) ≡ false
      apart_of m n s at here = by_number m n _ (λ is. absurd (grind (arith, is, at, here))) (λ apart. apart)

member_unready : (x : ℕ) (sub : Subtask) (s : Core) → event_of sub s ≡ None → is_ready_member x sub s ≡ false
member_unready x sub s none = grind (arith, none)

member_apart : (x : ℕ) (sub : Subtask) (s : Core) → is_member x sub s ≡ false → is_ready_member x sub s ≡ false
member_apart x sub s none = grind (arith, none)

ready_is_member : (x : ℕ) (sub : Subtask) (s : Core) → is_ready_member x sub s ≡ true → is_member x sub s ≡ true
ready_is_member x sub s h = grind (arith, h)

joins_wakes : (x m : ℕ) (sub : Subtask) (s : Core) → InsideOps s → is_member x sub s ≡ false → is_some (event_of sub s) ≡ true → is_waiter x m s ≡ true →
    WakeRow x More More Fewer s (joins_set x sub (Some m) s)
joins_wakes x m sub s inside out some waits = by (event_of sub s) refl some
  where
    t : Core
    t = set_join sub (Join.Set x) s

    by : (o : Option Status) → event_of sub s ≡ o → is_some o ≡ true → WakeRow x More More Fewer s (wakes_joined o (Some x) (Some m) t)
    by None is h = absurd (cc)
    by (Some e) is h =
        let w = waits_of x m s inside waits in
        let place = ap (λ (r : Records Thread). option_map (λ (u : Thread). u.place) (get r m)) (join_threads sub (Join.Set x) s) in
        let far = ap (λ (r : Records Thread). option_map_or (λ (u : Thread). u.op_progress) (get r m) OpProgress.Fresh) (join_threads sub (Join.Set x) s) in
        then_threads More More Fewer (scripted_join_rule x sub (Join.Set x) More s (member_apart x sub s out, join_set x sub s some)) (wake_rule x m w.0 t (waits_as x m w.0 s t place far w.1))

joins_none : (x : ℕ) (sub : Subtask) (s : Core) → is_member x sub s ≡ false → is_some (event_of sub s) ≡ true → WakeRow x More Same Same s (joins_set x sub None s)
unfolding wake
joins_none x sub s out some = by (event_of sub s) refl some
  where
    by : (o : Option Status) → event_of sub s ≡ o → is_some o ≡ true → WakeRow x More Same Same s (wakes_joined o (Some x) None (set_join sub (Join.Set x) s))
    by None is h = absurd (cc)
    by (Some e) is h = scripted_join_rule x sub (Join.Set x) More s (member_apart x sub s out, join_set x sub s some)

pub ready_and_wakes : ReadyAndWakes
unfolding ReadyAndWakes
ready_and_wakes = (λ x m sub e s inside member none waits. publish_wakes x sub e s inside member More (member_unready x sub s none, refl) m waits, joins_wakes)

pub ready_unawaited : ReadyUnawaited
unfolding ReadyUnawaited
ready_unawaited = (λ x sub e s inside member none. publish_none x sub e s inside member More (member_unready x sub s none, refl), joins_none)

pub event_replaced : EventReplaced
unfolding EventReplaced
event_replaced = λ x m sub e s inside ready waits. publish_wakes x sub e s inside (ready_is_member x sub s ready) Same (sym ready) m waits

-- ---- Taking

-- what is handed out goes to registers, and the op is done
received_threads : (x n r : ℕ) (v : Given) (b : Change) (u : Core) → Turns b (is_woken_at x n u) (woken_place x (place_of n u) OpProgress.Fresh) → WakeRow x Same b Same u (advanced n (set_given n r v u))
unfolding advanced moved_to set_op_progress set_position on_thread set_given set_register
received_threads x n r v b u turns = scripted_thread_rule x n b Same u (advanced n (set_given n r v u)) refl refl
    (turns_as b _ _ _ _ refl (woken_at x n (advanced n (set_given n r v u)) ∙ ends (get u.threads n) refl) turns) (grind (arith, nat_tests, get-change)) (λ i apart. grind (arith, nat_tests, get-change, apart))
  where
    ends : (o : Option Thread) → get u.threads n ≡ o → woken_place x (place_of n (advanced n (set_given n r v u))) (op_progress_of n (advanced n (set_given n r v u))) ≡ woken_place x (place_of n u) OpProgress.Fresh
    ends None is = grind (arith, nat_tests, get-change, is)
    ends (Some t) is = grind (arith, nat_tests, get-change, is)

activated_threads : (x n i k : ℕ) (v : Given) (u : Core) → is_woken_at x n u ≡ true → is_waiter x n u ≡ false →
    WakeRow x Same Fewer Same u (set_place n Place.Running (moved_to n 0 (set_script n Script.React (set_do_not_enter i true (set_given n 0 v u)))))
unfolding moved_to set_op_progress set_position on_thread set_given set_register set_place set_script set_do_not_enter on_instance
activated_threads x n i k v u on waits = scripted_thread_rule x n Fewer Same u _ refl refl (on, grind (arith, nat_tests, get-change)) (grind (arith, nat_tests, get-change, waits)) (λ j apart. grind (arith, nat_tests, get-change, apart))

taken_member : (x k : ℕ) (sub : Subtask) (s : Core) → is_ready_member x sub s ≡ true → WakeRow x Fewer Same Same s (taken (PickedMember sub) k s)
unfolding taken
taken_member x k sub s ready = event_rule x sub None Fewer s (ready, event_gone x sub s)

taken_own_rule : (x k : ℕ) (e : TaskEvent) (s : Core) → WakeRow x Same Same Same s (taken (PickedTaskEvent e) k s)
unfolding taken set_task_event set_cancel_delivered on_call
taken_own_rule x k TaskEvent.None s = member_rule x (Subtask.Guest 0) Same s _ refl (same (Subtask.Guest 0)) (λ d apart. same d)
  where
    same : (d : Subtask) → is_ready_member x d (set_task_event k None s) ≡ is_ready_member x d s
    same (Subtask.Guest j) = grind (arith, nat_tests, get-change)
    same (Subtask.Host j) = refl
taken_own_rule x k TaskEvent.Cancelled s = member_rule x (Subtask.Guest 0) Same s _ refl (same (Subtask.Guest 0)) (λ d apart. same d)
  where
    same : (d : Subtask) → is_ready_member x d (set_cancel_delivered k (set_task_event k None s)) ≡ is_ready_member x d s
    same (Subtask.Guest j) = grind (arith, nat_tests, get-change)
    same (Subtask.Host j) = refl

-- taking a picked event leaves the threads
taken_threads : (g : PickedEvent) (k : ℕ) (s : Core) → (taken g k s).threads ≡ s.threads
unfolding taken set_event on_call on_work set_task_event set_cancel_delivered
taken_threads (PickedTaskEvent TaskEvent.None) k s = refl
taken_threads (PickedTaskEvent TaskEvent.Cancelled) k s = refl
taken_threads (PickedMember (Subtask.Guest j)) k s = refl
taken_threads (PickedMember (Subtask.Host j)) k s = refl
taken_threads NothingPicked k s = refl

woken_same : (x n : ℕ) (s t : Core) → t.threads ≡ s.threads → is_woken_at x n t ≡ is_woken_at x n s
woken_same x n s t same = ap (λ (r : Records Thread). option_map_or (λ (u : Thread). is_woken_for x u u.place) (get r n) false) same

place_as : (n : ℕ) (s t : Core) → t.threads ≡ s.threads → place_of n t ≡ place_of n s
place_as n s t same = ap (λ (r : Records Thread). option_map (λ (u : Thread). u.place) (get r n)) same

runs_woken : (x n : ℕ) (s : Core) → RunsInWait x n s → is_woken_at x n s ≡ true
runs_woken x n s h = let at = h.0 in let far = h.1 in woken_at x n s ∙ grind (arith, at, far)

delivery_woken : (x n : ℕ) (s : Core) → HasDelivery x n s → is_woken_at x n s ≡ true
delivery_woken x n s h = let at = h.1 in woken_at x n s ∙ grind (arith, nat_tests, at)

delivery_waits : (x n : ℕ) (s : Core) → HasDelivery x n s → is_waiter x n s ≡ false
delivery_waits x n s h = let at = h.1 in grind (arith, at)

module _ (x n : ℕ) (g : PickedEvent) (v : Given) (a : Change) (s : Core) (takes : WakeRow x a Same Same s (taken g (task_of n s) s)) where
  abbrev gone : Core
  gone = taken g (task_of n s) s

  threads_same : gone.threads ≡ s.threads
  threads_same = taken_threads g (task_of n s) s

  received_by : (r : ℕ) (b : Change) → Turns b (is_woken_at x n s) (woken_place x (place_of n s) OpProgress.Fresh) → WakeRow x a b Same s (received n r g v s)
  received_by r b turns = then_threads a b Same takes (received_threads x n r v b gone (turns_as b _ _ _ _ (woken_same x n s gone threads_same)
      (ap (λ (o : Option Place). woken_place x o OpProgress.Fresh) (place_as n s gone threads_same)) turns))

  pub received_idle : (r : ℕ) → place_of n s ≡ Some Place.Running → is_inside_wait x (op_progress_of n s) ≡ false → WakeRow x a Same Same s (received n r g v s)
  received_idle r at far = received_by r Same (ap (λ (o : Option Place). woken_place x o OpProgress.Fresh) at ∙ sym (woken_at x n s ∙ (ap (λ (o : Option Place). woken_place x o (op_progress_of n s)) at ∙ far)))

  pub received_awake : (r : ℕ) → RunsInWait x n s → WakeRow x a Fewer Same s (received n r g v s)
  received_awake r h = received_by r Fewer (runs_woken x n s h, ap (λ (o : Option Place). woken_place x o OpProgress.Fresh) h.0)

  pub activated_awake : HasDelivery x n s → WakeRow x a Fewer Same s (activated n g v s)
  unfolding activated
  activated_awake h = then_threads a Fewer Same takes (activated_threads x n (instance_of n s) (task_of n s) v gone (woken_same x n s gone threads_same ∙ delivery_woken x n s h)
      (ap (λ (o : Option Place). option_map_or (is_waiting_on x) o false) (place_as n s gone threads_same) ∙ delivery_waits x n s h))

pub member_leaves : MemberLeaves
unfolding MemberLeaves
member_leaves = (
  λ x n r sub v s ready at far. received_idle x n (PickedMember sub) v Fewer s (taken_member x (task_of n s) sub s ready) r at far,
  λ x sub j s ready out. scripted_join_rule x sub j Fewer s (ready, join_gone x sub j s out),
)

pub woken_takes : WokenTakes
unfolding WokenTakes
woken_takes = (
  λ x n r sub v s ready h. received_awake x n (PickedMember sub) v Fewer s (taken_member x (task_of n s) sub s ready) r h,
  λ x n sub v s ready h. activated_awake x n (PickedMember sub) v Fewer s (taken_member x (task_of n s) sub s ready) h,
)

-- ---- Handing on

abbrev hand_over : {x : ℕ} {s t u : Core} → WakeRow x Same More Fewer s t → WakeRow x Same Fewer Same t u → WakeRow x Same Same Fewer s u
hand_over p q = record { members = q.members ∙ p.members; threads = omega (arith, p.threads, q.threads); waiters = omega (arith, p.waiters, q.waiters) }

-- another thread than the woken one stays
wake_other : (x m n : ℕ) (s : Core) → (n == m) ≡ false → (place_of n (wake x (Some m) s) ≡ place_of n s) × (op_progress_of n (wake x (Some m) s) ≡ op_progress_of n s)
unfolding wake
wake_other x m n s apart = by (is_callback_waiter m s)
  where
    by : (b : Bool) → (place_of n (waken_by b x m s) ≡ place_of n s) × (op_progress_of n (waken_by b x m s) ≡ op_progress_of n s)
    by true = put_other n m (Why.Delivery (Delivery.Set x)) s apart
    by false = put_other n m Why.Resumption s apart

handed_wakes : (x : ℕ) (e : TaskEvent) (w : Option ℕ) (s : Core) → has_ready_member x s ≡ true → handed_on x (PickedTaskEvent e) w s ≡ wake x w s
unfolding handed_on
handed_wakes x e w s ready = ap (λ (b : Bool). if b then wake x w s else s) ready

handed_none : (x : ℕ) (e : TaskEvent) (s : Core) → handed_on x (PickedTaskEvent e) None s ≡ s
unfolding handed_on wake
handed_none x e s = by (has_ready_member x s)
  where
    by : (b : Bool) → (if b then s else s) ≡ s
    by true = refl
    by false = refl

-- who waits isn't the woken thread
waiter_apart : (x m n : ℕ) (s : Core) → is_waiter x m s ≡ true → is_waiter x n s ≡ false → (n == m) ≡ false
waiter_apart x m n s waits free = by_number n m _ (λ is. absurd (grind (arith, is, waits, free))) (λ apart. apart)

woken_rule : (x m : ℕ) (s : Core) → InsideOps s → is_waiter x m s ≡ true → WakeRow x Same More Fewer s (wake x (Some m) s)
woken_rule x m s inside waits = let w = waits_of x m s inside waits in wake_rule x m w.0 s w.1

pub woken_hands_on : WokenHandsOn
unfolding WokenHandsOn activated_woken
woken_hands_on = (
  λ x n m r e v s inside ready waits h.
      let other = wake_other x m n s (waiter_apart x m n s waits (ap (λ (o : Option Place). option_map_or (is_waiting_on x) o false) h.0)) in
      subst (λ (u : Core). WakeRow x Same Same Fewer s (received n r (PickedTaskEvent e) v u)) (sym (handed_wakes x e (Some m) s ready))
      (hand_over (woken_rule x m s inside waits) (received_awake x n (PickedTaskEvent e) v Same (wake x (Some m) s) (taken_own_rule x (task_of n (wake x (Some m) s)) e (wake x (Some m) s)) r
      (other.0 ∙ h.0, ap (is_inside_wait x) other.1 ∙ h.1))),
  λ x n m e v s inside ready waits h.
      let other = wake_other x m n s (waiter_apart x m n s waits (delivery_waits x n s h)) in
      subst (λ (u : Core). WakeRow x Same Same Fewer s (activated n (PickedTaskEvent e) v u)) (sym (handed_wakes x e (Some m) s ready))
      (hand_over (woken_rule x m s inside waits) (activated_awake x n (PickedTaskEvent e) v Same (wake x (Some m) s) (taken_own_rule x (task_of n (wake x (Some m) s)) e (wake x (Some m) s))
      (h.0, other.0 ∙ h.1))),
)

pub woken_takes_own : WokenTakesOwn
unfolding WokenTakesOwn activated_woken
woken_takes_own = (
  λ x n r e v s h. subst (λ (u : Core). WakeRow x Same Fewer Same s (received n r (PickedTaskEvent e) v u)) (sym (handed_none x e s)) (received_awake x n (PickedTaskEvent e) v Same s (taken_own_rule x (task_of n s) e s) r h),
  λ x n e v s h. subst (λ (u : Core). WakeRow x Same Fewer Same s (activated n (PickedTaskEvent e) v u)) (sym (handed_none x e s)) (activated_awake x n (PickedTaskEvent e) v Same s (taken_own_rule x (task_of n s) e s) h),
)

-- ---- Waiting

woken_there : (x n : ℕ) (s : Core) → is_woken_at x n s ≡ true → (is_some (place_of n s) ≡ true) × (is_waiter x n s ≡ false)
woken_there x n s h = by (place_of n s) (sym (woken_at x n s) ∙ h)
  where
    by : (o : Option Place) → woken_place x o (op_progress_of n s) ≡ true → (is_some o ≡ true) × (option_map_or (is_waiting_on x) o false ≡ false)
    by o on = (grind (arith, on), grind (arith, on))

waits_now : (x : ℕ) (c : Bool) → is_waiting_on x (Place.Waiting x c) ≡ true
waits_now x c = grind (arith, nat_tests)

pub woken_waits : WokenWaits
unfolding WokenWaits
woken_waits x n c s on = let r = woken_there x n s on in place_rule x n (Place.Waiting x c) Fewer More s r.0 (on, refl) (r.1, waits_now x c)

pub begins_to_wait : BeginsToWait
unfolding BeginsToWait
begins_to_wait x n c s h = place_rule x n (Place.Waiting x c) Same More s h.0 (sym h.1.0) (h.1.1, waits_now x c)

pub callback_finds : CallbackFinds
unfolding CallbackFinds
callback_finds x n s h = put_rule x n (Why.Delivery (Delivery.Set x)) More Same s h.0 (h.1.0, grind (arith, nat_tests)) (sym h.1.1)

displaced_rule : (x n : ℕ) (s : Core) → Placed s → is_waiter x n s ≡ true → (o : Option ℕ) → s.queues.switch ≡ o →
    WakeRow x Same Same Same s (displaced o s) × (place_of n (displaced o s) ≡ place_of n s)
unfolding push_high_first set_place on_thread woken waiters ready_members
displaced_rule x n s placed waits None is = (record { members = refl; threads = refl; waiters = refl }, refl)
displaced_rule x n s placed waits (Some m) is =
    let at = ready_there m s (placed m) is in
    let w = why_of m s in
    let there : is_some (place_of m s) ≡ true = ap (λ (o : Option Place). is_some o) at in
    let r = place_rule x m (Place.Ready Mark.High w) Same Same s there (sym (woken_at x m s ∙ ap (λ (o : Option Place). woken_place x o (op_progress_of m s)) at))
    (sym (ap (λ (o : Option Place). option_map_or (is_waiting_on x) o false) at)) in (
      record { members = r.members; threads = r.threads; waiters = r.waiters },
      let apart = waiter_apart x n m s waits (ap (λ (o : Option Place). option_map_or (is_waiting_on x) o false) at) in grind (arith, nat_tests, get-change, apart),
    )
  where
    ready_there : (m : ℕ) (s : Core) → HasPlace m s → s.queues.switch ≡ Some m → place_of m s ≡ Some (Place.Ready Mark.Switch (why_of m s))
    ready_there m s h is = let at = h.switch in grind (arith, nat_tests, at, is)

displaced_progress : (n : ℕ) (o : Option ℕ) (s : Core) → op_progress_of n (displaced o s) ≡ op_progress_of n s
unfolding push_high_first set_place on_thread
displaced_progress n None s = refl
displaced_progress n (Some m) s = grind (arith, nat_tests, get-change)

pub cancel_takes : CancelTakes
unfolding CancelTakes put_switch set_switch woken waiters ready_members
cancel_takes = (
  λ x n s placed waits.
      let d = displaced_rule x n s placed waits s.queues.switch refl in
      let t = displaced s.queues.switch s in
      let w : is_waiter x n t ≡ true = ap (λ (o : Option Place). option_map_or (is_waiting_on x) o false) d.1 ∙ waits in
      let at = waiting_of x (place_of n t) w in
      let r = place_rule x n (Place.Ready Mark.Switch (Why.Delivery Delivery.Cancel)) Same Fewer t (ap (λ (o : Option Place). is_some o) at.1)
      (sym (woken_at x n t ∙ ap (λ (o : Option Place). woken_place x o (op_progress_of n t)) at.1)) (w, refl) in
      given x n s (then_threads Same Same Fewer d.0 r),
  λ x n s placed waits inside.
      let d = displaced_rule x n s placed waits s.queues.switch refl in
      let t = displaced s.queues.switch s in
      let w : is_waiter x n t ≡ true = ap (λ (o : Option Place). option_map_or (is_waiting_on x) o false) d.1 ∙ waits in
      let at = waiting_of x (place_of n t) w in
      let still : is_inside_wait x (op_progress_of n t) ≡ true = ap (λ h. is_inside_wait x h) (displaced_progress n s.queues.switch s) ∙ inside in
      let r = place_rule x n (Place.Ready Mark.Switch Why.Resumption) More Fewer t (ap (λ (o : Option Place). is_some o) at.1)
      (woken_at x n t ∙ ap (λ (o : Option Place). woken_place x o (op_progress_of n t)) at.1, still) (w, refl) in
      resumed x n s (then_threads Same More Fewer d.0 r),
)
  where
    given : (x n : ℕ) (s : Core) {u : Core} → WakeRow x Same Same Fewer s u → WakeRow x Same Same Fewer s (set_switch (Some n) u)
    given x n s r = record { members = r.members; threads = r.threads; waiters = r.waiters }

    resumed : (x n : ℕ) (s : Core) {u : Core} → WakeRow x Same More Fewer s u → WakeRow x Same More Fewer s (set_switch (Some n) u)
    resumed x n s r = record { members = r.members; threads = r.threads; waiters = r.waiters }

pub delivery_held : DeliveryHeld
unfolding DeliveryHeld
delivery_held = (
  λ x n m d s at. place_rule x n (Place.Held (Why.Delivery d)) Same Same s (ap (λ (o : Option Place). is_some o) at)
      (let e = woken_at x n s ∙ ap (λ (o : Option Place). woken_place x o (op_progress_of n s)) at in grind (arith, e)) (sym (ap (λ (o : Option Place). option_map_or (is_waiting_on x) o false) at)),
  λ x n d s at. put_rule x n (Why.Delivery d) Same Same s (ap (λ (o : Option Place). is_some o) at)
      (let e = woken_at x n s ∙ ap (λ (o : Option Place). woken_place x o (op_progress_of n s)) at in grind (arith, e)) (sym (ap (λ (o : Option Place). option_map_or (is_waiting_on x) o false) at)),
)
