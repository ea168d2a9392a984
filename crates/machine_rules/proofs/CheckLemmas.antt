-- Checks after other moves: after a release and a stop, told on the state before, and after a return.
use Rattle.machine_rules.proofs.Machine.{[], admitted_held, All-permutation, ap, arith, behind, behind_one, blocking_returned, BlockingCheckIsAfter, Bool, CallbackCheckIsAfter, CallEnd, Caller, caller_of, callers_of, code_stops, Core, end_reopens, Entry, false, filter_passes, first_at, first_entry, first_in, first_waiter, foot_of, get, get-change, give_result, Goal, goal_of, has_waiter, held_by_flag, held_why_of, if◌then◌else◌, instance_of, is_at, is_entry_in, is_held_admitted, is_nil, is_some, is_told, is_waiting_on, IsPermutation, IsPermutation-refl, Join, join_of, length, length_permutation, List, list_any, list_any-append, Mark, may_not_suspend, may_publish, may_tell, may_wake, may_wake_joined, Move, nat_cmp, nat_tests, newest, None, not, not-true, numbers, older, on_call, on_instance, on_thread, Option, option_map, option_map_or, passed_on, passes_after_return, passes_after_stop, passes_check, Place, published, push_high, put_high, put_switch, refl, register_of, released, released_one, result_given, resumed_all, returned, set_callers, set_do_not_enter, set_end, set_event, set_place, set_register, set_result, set_switch, Some, Status, stopped, Subtask, sym, task_of, Thread, told, true, waiter_told, wake, Why, ℕ, ◌==◌, ◌||◌, ◌∙◌, ◌∷◌, ◌≡◌}
use Rattle.std.proofs.Math.Bool.{or-false}
use Rattle.std.proofs.lemmas.List.{nil_from_length}
use Rattle.std.specs.Prelude.{All}
use Rattle.machine_rules.proofs.{PlacingLemmas.placing_shifted, PlacingLemmas.shifted_instance, StopLemmas.find_passes}
use Rattle.std.specs.FinMap.Entries.{find as seek}

-- ---- What passes a check

-- some entry of the list is of the instance
abbrev any_in : ℕ → Core → List Entry → Bool
any_in i s es = list_any (is_entry_in i s) es

first_in_is : (i : ℕ) (s : Core) (es : List Entry) → is_some (first_in i s es) ≡ any_in i s es
first_in_is i s [] = refl
first_in_is i s (e ∷ es) = grind (arith, first_in_is i s es)

passes_is : (i : ℕ) (s : Core) →
    passes_check i s ≡
    (not (may_not_suspend i s) || (is_some s.queues.switch || (any_in i s s.queues.high || any_in i s s.queues.low)))
unfolding passes_check first_entry
passes_is i s = grind (arith, first_in_is i s s.queues.high, first_in_is i s s.queues.low)

-- only the queues, the flags and the threads' instances matter
pub same_passes : (i : ℕ) (s t : Core) → t.queues ≡ s.queues → may_not_suspend i t ≡ may_not_suspend i s →
    ((n : ℕ) → instance_of n t ≡ instance_of n s) → passes_check i t ≡ passes_check i s
same_passes i s t queues flag same =
    let in_it : is_entry_in i t ≡ is_entry_in i s = λ j e. at e j in grind (arith, passes_is i s, passes_is i t, in_it)
  where
    at : (e : Entry) → is_entry_in i t e ≡ is_entry_in i s e
    at (Entry.Thread n) = ap (λ m. m == i) (same n)
    at _ = refl

-- a thread's entry comes to high
pub put_passes : (i n : ℕ) (w : Why) (s : Core) → passes_check i (put_high n w s) ≡ (passes_check i s || (instance_of n s == i))
unfolding put_high push_high set_place on_thread
put_passes i n w s =
    let t = set_place n (Place.Ready Mark.High w) s in
    let same = λ (m : ℕ). shifted_instance (placing_shifted (Move n (Place.Ready Mark.High w)) s) m in
    let more = list_any-append (is_entry_in i t) s.queues.high (Entry.Thread n ∷ []) in
    grind (arith, passes_is i (put_high n w s), passes_is i t, same_passes i s t refl refl same, same n)

-- ---- A stop

behind_switch : (f : ℕ) (ns : List ℕ) (s : Core) → (behind f ns s).queues.switch ≡ s.queues.switch
unfolding behind_one set_callers set_place on_thread
behind_switch f [] s = refl
behind_switch f (n ∷ ns) s = behind_switch f ns (behind_one f n s)

resumed_switch : (ns : List ℕ) (s : Core) → (resumed_all ns s).queues.switch ≡ s.queues.switch
unfolding put_high push_high set_place on_thread
resumed_switch [] s = refl
resumed_switch (n ∷ ns) s = resumed_switch ns (put_high n Why.Resumption s)

stop_passes : (i f : ℕ) (s : Core) → passes_check i (stopped f s) ≡ (passes_check i s || not (is_nil (callers_of f s)))
unfolding stopped passes_check set_callers first_entry put_switch set_switch
stop_passes i f s = by_switch s.queues.switch (callers_of f s) refl
  where
    t : Core
    t = set_callers f [] s

    by_switch : (o : Option ℕ) (ns : List ℕ) → t.queues.switch ≡ o →
        passes_check i (passed_on o ns t) ≡ (passes_check i s || not (is_nil ns))
    by_switch (Some m) [] e = grind arith
    by_switch None [] e = grind arith
    by_switch (Some m) (n ∷ ns) e = grind (arith, behind_switch (foot_of m t) (n ∷ ns) t)
    by_switch None (n ∷ ns) e = grind (arith, resumed_switch (older n ns) (put_switch (newest n ns) Why.Resumption t))

-- ---- A release

release_keeps : (i : ℕ) (ns : List ℕ) (s : Core) → passes_check i s ≡ true → passes_check i (released ns s) ≡ true
unfolding released
release_keeps i [] s h = h
release_keeps i (n ∷ ns) s h = grind (arith, release_keeps i ns (released_one n (held_why_of n s) s), put_passes i n)

-- after the release of admitted threads a check passes
release_passes : (i : ℕ) (ns : List ℕ) (s : Core) → All (λ n. is_held_admitted i s n (held_why_of n s) ≡ true) ns →
    passes_check i (released ns s) ≡ (passes_check i s || not (is_nil ns))
unfolding released
release_passes i [] s all = sym (or-false (passes_check i s))
release_passes i (n ∷ ns) s all =
    grind (arith, nat_tests, all 0 0 (omega arith), release_keeps i ns (released_one n (held_why_of n s) s), put_passes i n)

released_callers : (ns : List ℕ) (s : Core) → (released ns s).callers ≡ s.callers
unfolding released put_high push_high set_place on_thread
released_callers [] s = refl
released_callers (n ∷ ns) s = grind (arith, released_callers ns)

-- ---- The end of a callback's or a blocking export's run

pub enter_passes : (i : ℕ) (b : Bool) (s : Core) → passes_check i (set_do_not_enter i b s) ≡ passes_check i s
unfolding passes_check first_entry set_do_not_enter on_instance
enter_passes i b s = grind (arith, nat_tests, get-change)

-- an instance lets entries in again: told on the state before
pub reopens_passes : (i : ℕ) (s : Core) (order : List ℕ) → IsPermutation (held_by_flag i s) order →
    passes_check i (end_reopens i order s) ≡ (passes_check i s || not (is_nil (held_by_flag i s)))
unfolding end_reopens held_by_flag admitted_held
reopens_passes i s order perm =
    let v = set_do_not_enter i false s in
    let held = admitted_held i v in
    let test : ℕ → Bool = λ m. is_held_admitted i v m (held_why_of m v) in
    let all = All-permutation (λ m. test m ≡ true) held order perm (filter_passes test (numbers v.threads)) in
    grind (arith, release_passes i order v all, enter_passes i false s, length_permutation held order perm)

pub callback_check : CallbackCheckIsAfter
unfolding code_stops end_reopens held_by_flag passes_after_stop set_do_not_enter on_instance
callback_check n s order perm =
    let i = instance_of n s in
    let v = set_do_not_enter i false s in
    grind (arith, stop_passes i (foot_of n s) (released order v), reopens_passes i s order perm, released_callers order v)

-- ---- A return

told_keeps : (i k : ℕ) (e : Status) (w : Option ℕ) (s : Core) → passes_check i s ≡ true → passes_check i (told k e w s) ≡ true
unfolding told published wake set_event on_call
told_keeps i k e w s h =
    let t = set_event (Subtask.Guest k) (Some e) s in
    let same = same_passes i s t refl refl (λ n. grind (arith, nat_tests, get-change)) in
    grind (arith, put_passes i)

pub given_keeps : (i : ℕ) (g : Goal) (f : Caller) (k v : ℕ) (s : Core) →
    passes_check i (result_given g f k v (set_end k CallEnd.Returned s)) ≡ passes_check i s
unfolding give_result set_register on_thread set_result on_call set_end
given_keeps i (Goal.Register r) (Caller.Thread n) k v s = same_passes i s _ refl refl (λ m. grind (arith, nat_tests, get-change))
given_keeps i (Goal.Register r) Caller.Main k v s = same_passes i s _ refl refl (λ m. grind (arith, nat_tests, get-change))
given_keeps i _ f k v s = same_passes i s _ refl refl (λ m. grind (arith, nat_tests, get-change))

pub returned_keeps : (i k v : ℕ) (w : Option ℕ) (s : Core) → passes_check i s ≡ true → passes_check i (returned k v w s) ≡ true
unfolding returned
returned_keeps i k v w s h = told_keeps i k Status.Returned w _ (given_keeps i (goal_of k s) (caller_of k s) k v s ∙ h)

-- ---- The first waiter

pub returned_told : (g : Goal) (f : Caller) (k v : ℕ) (s : Core) →
    is_told k (result_given g f k v (set_end k CallEnd.Returned s)) ≡ is_told k s
unfolding give_result set_register on_thread set_result on_call set_end
returned_told g f k v s = grind (arith, nat_tests, get-change)

-- where no entry passes, none is found that does
unmet : {X Y : Type 0} (g : X → Y) (test : Y → Bool) (q : ℕ) (es : List (ℕ × X)) → list_any (λ e. test (g e.1)) es ≡ false →
    option_map_or test (option_map g (seek nat_cmp q es)) false ≡ false
unmet g test q [] h = refl
unmet g test q (e ∷ es) h = grind (arith, unmet g test q es)

-- a set without a waiter has no first one
no_first : (x : ℕ) (s : Core) → not (has_waiter x s) ≡ true → (o : Option ℕ) → first_at (is_waiting_on x) s ≡ o → o ≡ None
unfolding has_waiter get
no_first x s none None e = refl
no_first x s none (Some m) e =
    let met = find_passes (λ n. is_at n s (is_waiting_on x)) (numbers s.threads) m e in
    let unmet = unmet (λ (t : Thread). t.place) (is_waiting_on x) m s.threads.list (not-true (has_waiter x s) none) in absurd (cc)

-- it's all the same which waiter represents the one that a lawful choice shows
told_first : (k : ℕ) (e : Status) (w : Option ℕ) (s t : Core) → may_tell k w s ≡ true → is_told k t ≡ is_told k s →
    told k e (waiter_told k w s) t ≡ told k e w t
unfolding told may_tell may_publish may_wake
told_first k e (Some m) s t lawful same = refl
told_first k e None s t lawful same = by_join (join_of (Subtask.Guest k) s) (is_told k s) same lawful
  where
    by_join : (j : Join) (b : Bool) → is_told k t ≡ b → (if b then may_wake_joined j None s else true) ≡ true →
        told k e (first_waiter j s) t ≡ told k e None t
    by_join (Join.Set x) true is may = ap (λ w. told k e w t) (no_first x s may _ refl)
    by_join (Join.Set x) false is may = grind arith
    by_join _ b is may = refl

returned_first : (k v : ℕ) (w : Option ℕ) (s t : Core) → may_tell k w s ≡ true → t.calls ≡ s.calls →
    returned k v (waiter_told k w s) t ≡ returned k v w t
unfolding returned
returned_first k v w s t lawful same =
    told_first k Status.Returned w s (result_given (goal_of k t) (caller_of k t) k v (set_end k CallEnd.Returned t)) lawful
    (grind (arith, returned_told (goal_of k t) (caller_of k t) k v t))

-- where a thread is released the check passes anyhow, else the waiter alone may differ
pub blocking_check : BlockingCheckIsAfter
unfolding passes_after_return end_reopens released set_do_not_enter on_instance
blocking_check n w s order lawful perm = by_held (held_by_flag i s) refl
  where
    i : ℕ
    i = instance_of n s

    by_held : (held : List ℕ) → held_by_flag i s ≡ held → passes_check i (blocking_returned n w order s) ≡ passes_after_return n w s
    by_held [] none =
        let either : length order ≡ 0 = length_permutation (held_by_flag i s) order perm ∙ ap (λ ns. length ns) none in
        let same = returned_first (task_of n s) (register_of n 0 s) w s (end_reopens i [] s) lawful refl in
        grind (arith, nil_from_length order either)
    by_held (m ∷ ms) some =
        let keeps = returned_keeps i (task_of n s) (register_of n 0 s) in
        grind (arith, keeps, reopens_passes i s order perm, reopens_passes i s (held_by_flag i s) (IsPermutation-refl _))
