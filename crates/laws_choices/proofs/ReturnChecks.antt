-- The check of a blocking export's exit doesn't depend on which waiter is woken, as the waiters of a set are of one instance.
use Rattle.laws_states.specs.Order.{WaitsAtHome, set_of_place}
use Rattle.machine_rules.proofs.CheckLemmas.{put_passes}
use Rattle.machine_rules.proofs.Machine.{Bool, CallEnd, Caller, Core, Delivery, Goal, Join, List, None, Option, Place, Some, Status, Subtask, Thread, Why, [], ap, arith, blocked_on, blocking_returned, caller_of, end_reopens, false, first_at, first_waiter, get, get-change, give_result, goal_of, held_by_flag, held_why_of, if◌then◌else◌, instance_of, is_at, is_callback_waiter, is_told, is_waiter, is_waiting_on, join_of, may_publish, may_tell, may_wake, may_wake_joined, nat_tests, numbers, on_call, on_instance, on_thread, option_and_then, option_map_or, passes_after_return, passes_check, place_of, published, push_high, put_high, refl, register_of, released, released_one, result_given, returned, set_do_not_enter, set_end, set_event, set_place, set_register, set_result, sym, task_of, told, true, unblocked, unwrap_or, wake, wake_joined, waken_by, ℕ, ◌==◌, ◌||◌, ◌∙◌, ◌∷◌, ◌≡◌}
use Rattle.machine_rules.proofs.SayLemmas.{found_none}
use Rattle.machine_rules.proofs.StopLemmas.{find_passes}

-- ---- A thread's instance stays

module _ (n : ℕ) where
  put_home : (m : ℕ) (w : Why) (s : Core) → instance_of n (put_high m w s) ≡ instance_of n s
  unfolding put_high push_high set_place on_thread
  put_home m w s = grind (arith, nat_tests, get-change)

  released_home : (ns : List ℕ) (s : Core) → instance_of n (released ns s) ≡ instance_of n s
  unfolding released
  released_home [] s = refl
  released_home (m ∷ ns) s = released_home ns (released_one m (held_why_of m s) s) ∙ by (held_why_of m s)
    where
      by : (o : Option Why) → instance_of n (released_one m o s) ≡ instance_of n s
      by None = refl
      by (Some w) = put_home m w s

  reopened_home : (i : ℕ) (order : List ℕ) (s : Core) → instance_of n (end_reopens i order s) ≡ instance_of n s
  unfolding end_reopens set_do_not_enter on_instance
  reopened_home i order s = released_home order (set_do_not_enter i false s)

  end_home : (k : ℕ) (e : CallEnd) (s : Core) → instance_of n (set_end k e s) ≡ instance_of n s
  unfolding set_end on_call
  end_home k e s = grind (arith, nat_tests, get-change)

  event_home : (k : ℕ) (e : Option Status) (s : Core) → instance_of n (set_event (Subtask.Guest k) e s) ≡ instance_of n s
  unfolding set_event on_call
  event_home k e s = grind (arith, nat_tests, get-change)

  unblocked_home : (o : Option ℕ) (s : Core) → instance_of n (unblocked o s) ≡ instance_of n s
  unblocked_home None s = refl
  unblocked_home (Some m) s = put_home m Why.Resumption s

  given_home : (g : Goal) (f : Caller) (k v : ℕ) (s : Core) → instance_of n (result_given g f k v s) ≡ instance_of n s
  unfolding give_result set_register on_thread set_result on_call
  given_home Goal.Main f k v s = refl
  given_home (Goal.Register r) (Caller.Thread m) k v s = grind (arith, nat_tests, get-change)
  given_home (Goal.Register r) Caller.Main k v s = refl
  given_home Goal.Answer f k v s = grind (arith, nat_tests, get-change)
  given_home Goal.Direct f k v s = refl
  given_home Goal.Nowhere f k v s = refl

-- ---- Two waiters of one instance

waken_passes : (b : Bool) (i x n : ℕ) (s : Core) → passes_check i (waken_by b x n s) ≡ (passes_check i s || (instance_of n s == i))
waken_passes true i x n s = put_passes i n (Why.Delivery (Delivery.Set x)) s
waken_passes false i x n s = put_passes i n Why.Resumption s

module _ (i n f : ℕ) where
  joined_alike : (j : Join) (s : Core) → instance_of n s ≡ instance_of f s → passes_check i (wake_joined j (Some n) s) ≡ passes_check i (wake_joined j (Some f) s)
  unfolding wake
  joined_alike Join.Nowhere s same = refl
  joined_alike (Join.Watched m) s same = refl
  joined_alike (Join.Set x) s same =
      waken_passes (is_callback_waiter n s) i x n s
      ∙ (ap (λ m. passes_check i s || (m == i)) same ∙ sym (waken_passes (is_callback_waiter f s) i x f s))

  told_alike : (k : ℕ) (e : Status) (s : Core) → instance_of n s ≡ instance_of f s → passes_check i (told k e (Some n) s) ≡ passes_check i (told k e (Some f) s)
  unfolding told published
  told_alike k e s same = by (is_told k s)
    where
      t : Core
      t = unblocked (blocked_on (Subtask.Guest k) s) (set_event (Subtask.Guest k) (Some e) s)

      home : (m : ℕ) → instance_of m t ≡ instance_of m s
      home m = unblocked_home m (blocked_on (Subtask.Guest k) s) (set_event (Subtask.Guest k) (Some e) s) ∙ event_home m k (Some e) s

      by : (b : Bool) → passes_check i (if b then wake_joined (join_of (Subtask.Guest k) s) (Some n) t else s) ≡
          passes_check i (if b then wake_joined (join_of (Subtask.Guest k) s) (Some f) t else s)
      by true = joined_alike (join_of (Subtask.Guest k) s) t (home n ∙ (same ∙ sym (home f)))
      by false = refl

  returned_alike : (k v : ℕ) (s : Core) → instance_of n s ≡ instance_of f s → passes_check i (returned k v (Some n) s) ≡ passes_check i (returned k v (Some f) s)
  unfolding returned
  returned_alike k v s same = told_alike k Status.Returned (result_given (goal_of k s) (caller_of k s) k v (set_end k CallEnd.Returned s)) (home n ∙ (same ∙ sym (home f)))
    where
      home : (m : ℕ) → instance_of m (result_given (goal_of k s) (caller_of k s) k v (set_end k CallEnd.Returned s)) ≡ instance_of m s
      home m = given_home m (goal_of k s) (caller_of k s) k v (set_end k CallEnd.Returned s) ∙ end_home m k CallEnd.Returned s

-- ---- The check of a blocking export's exit

same_home : (x n f : ℕ) (s : Core) → WaitsAtHome s → is_waiter x n s ≡ true → is_waiter x f s ≡ true → instance_of n s ≡ instance_of f s
same_home x n f s home one two =
    let at = home.by_place n x (placed n one) in let other = home.by_place f x (placed f two) in
    ap (λ (o : Option ℕ). unwrap_or o 0) (sym at ∙ other)
  where
    set_is : (p : Place) → is_waiting_on x p ≡ true → set_of_place p ≡ Some x
    set_is (Place.Waiting y b) h = grind (arith, nat_tests)
    set_is p h = absurd (grind arith)

    placed : (m : ℕ) → is_waiter x m s ≡ true → option_and_then set_of_place (place_of m s) ≡ Some x
    placed m h = by (place_of m s) h
      where
        by : (o : Option Place) → option_map_or (is_waiting_on x) o false ≡ true → option_and_then set_of_place o ≡ Some x
        by None h = absurd (grind arith)
        by (Some p) h = set_is p h

-- where there is a waiter, there is a first one
first_found : (x n : ℕ) (s : Core) → is_waiter x n s ≡ true → (f : ℕ) × ((first_at (is_waiting_on x) s ≡ Some f) × (is_waiter x f s ≡ true))
unfolding numbers get
first_found x n s h = by (first_at (is_waiting_on x) s) refl
  where
    there : (o : Option Thread) → get s.threads n ≡ o → (t : Thread) × (get s.threads n ≡ Some t)
    there None at = absurd (grind (arith, at, h))
    there (Some t) at = (t, at)

    by : (o : Option ℕ) → first_at (is_waiting_on x) s ≡ o → (f : ℕ) × ((first_at (is_waiting_on x) s ≡ Some f) × (is_waiter x f s ≡ true))
    by (Some f) is = (f, (is, find_passes (λ m. is_at m s (is_waiting_on x)) (numbers s.threads) f is))
    by None is = let r = there (get s.threads n) refl in absurd (found_none (λ m. is_at m s (is_waiting_on x)) n r.0 s.threads.list r.1 h is)

-- whichever waiter is woken, the check after the return is the same
module _ (n : ℕ) (s : Core) (home : WaitsAtHome s) (w : ℕ) where
  abbrev k : ℕ
  k = task_of n s

  abbrev i : ℕ
  i = instance_of n s

  abbrev u : Core
  u = end_reopens i (held_by_flag i s) s

  in_set : (x f : ℕ) → first_waiter (join_of (Subtask.Guest k) s) s ≡ Some f → is_waiter x w s ≡ true → is_waiter x f s ≡ true →
      passes_after_return n (Some w) s ≡ passes_after_return n None s
  unfolding passes_after_return
  in_set x f first one two =
      returned_alike i w f k (register_of n 0 s) u (reopened_home w i (held_by_flag i s) s ∙ (same_home x w f s home one two ∙ sym (reopened_home f i (held_by_flag i s) s)))
      ∙ ap (λ o. passes_check i (blocking_returned n o (held_by_flag i s) s)) (sym first)

  joined : (j : Join) → join_of (Subtask.Guest k) s ≡ j → may_wake_joined j (Some w) s ≡ true → passes_after_return n (Some w) s ≡ passes_after_return n None s
  unfolding may_wake
  joined Join.Nowhere is h = absurd (grind arith)
  joined (Join.Watched m) is h = absurd (grind arith)
  joined (Join.Set x) is h =
      let r = first_found x w s h in
      in_set x r.0 (ap (λ j. first_waiter j s) is ∙ r.1.0) h r.1.1

  told_one : (b : Bool) → (if b then may_wake_joined (join_of (Subtask.Guest k) s) (Some w) s else false) ≡ true →
      passes_after_return n (Some w) s ≡ passes_after_return n None s
  told_one true h = joined (join_of (Subtask.Guest k) s) refl h
  told_one false h = absurd (grind arith)

  told_check : may_tell k (Some w) s ≡ true → passes_after_return n (Some w) s ≡ passes_after_return n None s
  unfolding may_tell may_publish
  told_check h = told_one (is_told k s) h

pub same_check : (n : ℕ) (s : Core) → WaitsAtHome s → (w : Option ℕ) → may_tell (task_of n s) w s ≡ true → passes_after_return n w s ≡ passes_after_return n None s
same_check n s home None may = refl
same_check n s home (Some w) may = told_check n s home w may
