-- The test of a blocking export's exit, on the state before.
use Rattle.std.proofs.Common.{Equal, Greater, Less, Ordering, T, ap, ap₂, arith, cond, refl, subst, sym, ◌+◌, ◌∙◌}
use Rattle.std.proofs.Math.Bool.{or-false}
use Rattle.std.proofs.lemmas.Bool.Decides.{nat_tests}
use Rattle.std.proofs.lemmas.List.Sorted.{IsPermutation-refl}
use Rattle.std.specs.Cmp.{nat_cmp_total, unsigned_tied}
use Rattle.std.specs.FinMap.Entries.{by_order, find as seek, is_sorted, length-put, put}
use Rattle.std.specs.Ordering.{is_eq, nat_cmp}
use Rattle.std.specs.Option.{option_map_or}
use Rattle.std.specs.Prelude.{Bool, List, None, Option, Some, [], false, find, if◌then◌else◌, is_none, is_some, length, map, not, option_map, suc, true, ℕ, ◌&&◌, ◌==◌, ◌∷◌, ◌≡◌, ◌||◌}
use Rattle.machine_data.proofs.CommuteLemmas.{get-change}
use Rattle.machine_data.specs.Core.{Core}
use Rattle.machine_data.specs.Maps.{Records, change, changed, get, insert, numbers}
use Rattle.machine_data.specs.Moves.{is_callback_waiter, may_publish, may_wake, may_wake_joined, passes_check, published, released, put_high, unblocked, wake, wake_joined, waken_by}
use Rattle.machine_data.specs.Read.{blocked_on, caller_of, first_at, goal_of, instance_of, is_at, is_blocked_on, is_nil, is_waiter, is_waiting_on, join_of, place_of, register_of, task_of}
use Rattle.machine_data.specs.Write.{give_result, on_call, on_instance, on_thread, push_high, set_do_not_enter, set_end, set_event, set_place, set_register, set_result}
use Rattle.machine_data.specs.declared.records.CallEnd.TheVariants as call_end
use Rattle.machine_data.specs.declared.records.Caller.{Caller}
use Rattle.machine_data.specs.declared.records.Caller.TheVariants as caller
use Rattle.machine_data.specs.declared.records.Goal.{Goal}
use Rattle.machine_data.specs.declared.records.Goal.TheVariants as goal
use Rattle.machine_data.specs.declared.records.Join.{Join}
use Rattle.machine_data.specs.declared.records.Join.TheVariants as join
use Rattle.machine_data.specs.declared.records.Place.{Place}
use Rattle.machine_data.specs.declared.records.Place.TheVariants as place
use Rattle.machine_data.specs.declared.records.Subtask.{Subtask}
use Rattle.machine_data.specs.declared.records.Subtask.TheVariants as subtask
use Rattle.machine_data.specs.declared.records.Thread.{Thread}
use Rattle.machine_data.specs.declared.records.Why.{Why}
use Rattle.machine_data.specs.declared.records.Why.TheVariants as why
use Rattle.machine_data.specs.declared.statuses.Mark.TheVariants as mark
use Rattle.machine_data.specs.declared.statuses.Status.{Status}
use Rattle.machine_data.specs.declared.statuses.Status.TheVariants as status
use Rattle.ops_moves.proofs.TellLemmas.{end_quiet, result_quiet}
use Rattle.ops_guests.specs.OpWakes.{WaitersTogether, is_of, wakes_in}
use Rattle.machine_rules.proofs.CheckLemmas.{blocking_check, enter_passes, given_keeps, put_passes, reopens_passes, returned_keeps, returned_told, same_passes}
use Rattle.machine_rules.proofs.Machine.{Move}
use Rattle.machine_rules.proofs.PlacingLemmas.{placing_shifted, shifted_instance}
use Rattle.machine_rules.proofs.StopLemmas.{find_passes}
use Rattle.machine_rules.specs.Ends.{blocking_returned, end_reopens, first_waiter, held_by_flag, is_told, may_tell, passes_after_return, result_given, returned, told}

-- ---- The first thread at a place is the same where no place changes

right : (a b : Bool) → T (a && b) → T b
right true b p = p
right false b p = absurd p

keys_put : {X : Type 0} (k : ℕ) (v : X) (es : List (ℕ × X)) → T (is_sorted nat_cmp es) → is_some (seek nat_cmp k es) ≡ true → map (λ e. e.0) (put nat_cmp k v es) ≡ map (λ e. e.0) es
keys_put k v [] sorted there = absurd (cc)
keys_put {X = X} k v (e ∷ es) sorted there = by (nat_cmp k e.0) refl (λ found. keys_put k v es (right _ _ sorted) found)
  where
    same_length : length (put nat_cmp k v (e ∷ es)) ≡ suc (length es)
    same_length = length-put nat_cmp nat_cmp_total k v (e ∷ es) sorted ∙ ap (λ b. cond b (suc (length es)) (suc (length es) + 1)) there

    later : nat_cmp k e.0 ≡ Greater → is_some (seek nat_cmp k es) ≡ true
    later h = subst (λ (o : Ordering). is_some (cond (is_eq o) (Some e.1) (seek nat_cmp k es)) ≡ true) h there

    by : (o : Ordering) → nat_cmp k e.0 ≡ o → (is_some (seek nat_cmp k es) ≡ true → map (λ (q : ℕ × X). q.0) (put nat_cmp k v es) ≡ map (λ (q : ℕ × X). q.0) es) → map (λ (q : ℕ × X). q.0) (by_order o ((k, v) ∷ e ∷ es) ((e.0, v) ∷ es) (e ∷ put nat_cmp k v es)) ≡ e.0 ∷ map (λ (q : ℕ × X). q.0) es
    by Less h rest = absurd (let long = sym same_length ∙ ap (λ (o : Ordering). length (by_order o ((k, v) ∷ e ∷ es) ((e.0, v) ∷ es) (e ∷ put nat_cmp k v es))) h in omega (arith, long))
    by Equal h rest = refl
    by Greater h rest = ap (λ (ks : List ℕ). e.0 ∷ ks) (rest (later h))

module _ {X : Type 0} (n : ℕ) (f : X → X) (m : Records X) where
  numbers_changed : (o : Option X) → get m n ≡ o → numbers (changed m n f o) ≡ numbers m
  unfolding numbers insert get
  numbers_changed None e = refl
  numbers_changed (Some x) e = keys_put n (f x) m.list m.sorted (ap is_some e)

  numbers_change : numbers (change n f m) ≡ numbers m
  unfolding change
  numbers_change = numbers_changed (get m n) refl

find_same : (p q : ℕ → Bool) (ns : List ℕ) → ((n : ℕ) → p n ≡ q n) → find p ns ≡ find q ns
find_same p q [] same = refl
find_same p q (n ∷ ns) same = let rest = find_same p q ns same in let here = same n in grind arith

blocked_same : (sub : Subtask) (s t : Core) → numbers t.threads ≡ numbers s.threads → ((n : ℕ) → place_of n t ≡ place_of n s) → blocked_on sub t ≡ blocked_on sub s
unfolding blocked_on
blocked_same sub s t all places =
    ap (λ (ns : List ℕ). find (λ n. is_at n t (is_blocked_on sub)) ns) all
    ∙ find_same (λ n. is_at n t (is_blocked_on sub)) (λ n. is_at n s (is_blocked_on sub)) (numbers s.threads) (λ n. ap (λ (o : Option Place). option_map_or (is_blocked_on sub) o false) (places n))

pub found : (test : ℕ → Bool) (k : ℕ) {X : Type 0} (es : List (ℕ × X)) → is_some (seek nat_cmp k es) ≡ true → test k ≡ true → is_some (find test (map (λ e. e.0) es)) ≡ true
found test k [] h is = absurd (cc)
found test k (e ∷ es) h is = let rest = found test k es in let same = unsigned_tied k e.0 in grind (arith, nat_tests)

-- who is at such a place, or one before it, is found
pub first_found : (test : Place → Bool) (n : ℕ) (s : Core) → is_at n s test ≡ true → is_some (first_at test s) ≡ true
unfolding numbers get
first_found test n s at = found (λ k. is_at k s test) n s.threads.list (there (get s.threads n) at) at
  where
    there : (o : Option Thread) → option_map_or test (option_map (λ (t : Thread). t.place) o) false ≡ true → is_some o ≡ true
    there None h = absurd (cc)
    there (Some t) h = refl

-- ---- A task that has ended, and its result

numbers_given : (g : Goal) (f : Caller) (k v : ℕ) (s : Core) → numbers (result_given g f k v s).threads ≡ numbers s.threads
unfolding give_result set_register on_thread set_result on_call
numbers_given goal.Main f k v s = refl
numbers_given (goal.Register r) (caller.Thread n) k v s = numbers_change n _ s.threads
numbers_given (goal.Register r) caller.Main k v s = refl
numbers_given goal.Answer f k v s = refl
numbers_given goal.Nowhere f k v s = refl
numbers_given goal.Direct f k v s = refl

given_instance : (g : Goal) (f : Caller) (k v m : ℕ) (s : Core) → instance_of m (result_given g f k v (set_end k call_end.Returned s)) ≡ instance_of m s
unfolding give_result set_register on_thread set_result on_call set_end
given_instance (goal.Register r) (caller.Thread n) k v m s = grind (arith, nat_tests, get-change)
given_instance (goal.Register r) caller.Main k v m s = grind (arith, nat_tests, get-change)
given_instance g f k v m s = grind (arith, nat_tests, get-change)

module _ (g : Goal) (f : Caller) (k v : ℕ) (s : Core) where
  abbrev over : Core
  over = set_end k call_end.Returned s

  abbrev given : Core
  given = result_given g f k v over

  numbers_over : numbers over.threads ≡ numbers s.threads
  unfolding set_end on_call
  numbers_over = refl

  given_join : join_of (subtask.Guest k) given ≡ join_of (subtask.Guest k) s
  given_join = (result_quiet g f k v over).joins (subtask.Guest k) ∙ (end_quiet k call_end.Returned s).joins (subtask.Guest k)

  given_blocked : (sub : Subtask) → blocked_on sub given ≡ blocked_on sub s
  given_blocked sub = blocked_same sub s given (numbers_given g f k v over ∙ numbers_over) (λ n. (result_quiet g f k v over).untouched.places n ∙ (end_quiet k call_end.Returned s).untouched.places n)

  given_of : (i : ℕ) (o : Option ℕ) → is_of i o given ≡ is_of i o s
  given_of i None = refl
  given_of i (Some m) = ap (λ j. j == i) (given_instance g f k v m s)

  given_wakes : (i : ℕ) (w : Option ℕ) → wakes_in i k w given ≡ wakes_in i k w s
  given_wakes i w =
      let told = returned_told g f k v s in
      let blocked = ap (λ o. is_of i o given) (given_blocked (subtask.Guest k)) ∙ given_of i (blocked_on (subtask.Guest k) s) in
      let waiter = given_of i w in
      grind arith

-- ---- Telling

put_instance : (j m : ℕ) (w : Why) (s : Core) → instance_of m (put_high j w s) ≡ instance_of m s
unfolding put_high push_high set_place on_thread
put_instance j m w s = shifted_instance (placing_shifted (Move j (place.Ready mark.High w)) s) m

woken_passes : (i x : ℕ) (w : Option ℕ) (u : Core) → passes_check i (wake x w u) ≡ (passes_check i u || is_of i w u)
unfolding wake
woken_passes i x None u = sym (or-false (passes_check i u))
woken_passes i x (Some m) u = by (is_callback_waiter m u)
  where
    by : (b : Bool) → passes_check i (waken_by b x m u) ≡ (passes_check i u || (instance_of m u == i))
    by true = put_passes i m _ u
    by false = put_passes i m _ u

-- a waiter is chosen for a set alone
abbrev Chosen : Join → Option ℕ → Type 0
Chosen (join.Set x) w = Unit {0}
Chosen j w = w ≡ None

chosen_of : (j : Join) (w : Option ℕ) (s : Core) → may_wake_joined j w s ≡ true → Chosen j w
chosen_of (join.Set x) w s may = tt
chosen_of join.Nowhere None s may = refl
chosen_of join.Nowhere (Some n) s may = absurd (cc)
chosen_of (join.Watched m) None s may = refl
chosen_of (join.Watched m) (Some n) s may = absurd (cc)

joined_passes : (i : ℕ) (j : Join) (w : Option ℕ) (u : Core) → Chosen j w → passes_check i (wake_joined j w u) ≡ (passes_check i u || is_of i w u)
joined_passes i (join.Set x) w u chosen = woken_passes i x w u
joined_passes i join.Nowhere w u chosen = sym (ap (λ o. passes_check i u || is_of i o u) chosen ∙ or-false (passes_check i u))
joined_passes i (join.Watched m) w u chosen = sym (ap (λ o. passes_check i u || is_of i o u) chosen ∙ or-false (passes_check i u))

unblocked_passes : (i : ℕ) (o : Option ℕ) (t : Core) → passes_check i (unblocked o t) ≡ (passes_check i t || is_of i o t)
unblocked_passes i None t = sym (or-false (passes_check i t))
unblocked_passes i (Some m) t = put_passes i m why.Resumption t

unblocked_of : (i : ℕ) (w o : Option ℕ) (t : Core) → is_of i w (unblocked o t) ≡ is_of i w t
unblocked_of i None o t = refl
unblocked_of i (Some m) None t = refl
unblocked_of i (Some m) (Some j) t = ap (λ k. k == i) (put_instance j m why.Resumption t)

event_instance : (k m : ℕ) (e : Status) (s : Core) → instance_of m (set_event (subtask.Guest k) (Some e) s) ≡ instance_of m s
unfolding set_event on_call
event_instance k m e s = grind (arith, nat_tests, get-change)

event_of : (i k : ℕ) (e : Status) (o : Option ℕ) (s : Core) → is_of i o (set_event (subtask.Guest k) (Some e) s) ≡ is_of i o s
event_of i k e None s = refl
event_of i k e (Some m) s = ap (λ j. j == i) (event_instance k m e s)

event_passes : (i k : ℕ) (e : Status) (s : Core) → passes_check i (set_event (subtask.Guest k) (Some e) s) ≡ passes_check i s
unfolding set_event on_call
event_passes i k e s = same_passes i s _ refl refl (λ n. grind (arith, nat_tests, get-change))

published_passes : (i k : ℕ) (e : Status) (w : Option ℕ) (s : Core) → Chosen (join_of (subtask.Guest k) s) w → passes_check i (published (subtask.Guest k) e w s) ≡ (passes_check i s || (is_of i (blocked_on (subtask.Guest k) s) s || is_of i w s))
unfolding published
published_passes i k e w s chosen =
    let t = set_event (subtask.Guest k) (Some e) s in
    let o = blocked_on (subtask.Guest k) s in
    let a = joined_passes i (join_of (subtask.Guest k) s) w (unblocked o t) chosen in
    let b = unblocked_passes i o t in
    let c = unblocked_of i w o t ∙ event_of i k e w s in
    let d = event_of i k e o s in
    let f = event_passes i k e s in
    a ∙ grind arith

told_passes : (i k : ℕ) (e : Status) (w : Option ℕ) (s : Core) → (is_told k s ≡ true → Chosen (join_of (subtask.Guest k) s) w) → passes_check i (told k e w s) ≡ (passes_check i s || wakes_in i k w s)
unfolding told
told_passes i k e w s chosen = by (is_told k s) refl
  where
    by : (b : Bool) → is_told k s ≡ b → passes_check i (if b then published (subtask.Guest k) e w s else s) ≡ (passes_check i s || (b && (is_of i (blocked_on (subtask.Guest k) s) s || is_of i w s)))
    by true is = published_passes i k e w s (chosen is)
    by false is = sym (or-false (passes_check i s))

-- ---- The test

module _ (n : ℕ) (w : Option ℕ) (s : Core) (may : may_tell (task_of n s) w s ≡ true) where
  abbrev i : ℕ
  i = instance_of n s

  abbrev k : ℕ
  k = task_of n s

  abbrev open_core : Core
  open_core = set_do_not_enter i false s

  chosen : is_told k s ≡ true → Chosen (join_of (subtask.Guest k) s) w
  unfolding may_tell may_publish
  chosen is = chosen_of (join_of (subtask.Guest k) s) w s (sym (ap (λ b. if b then may_wake_joined (join_of (subtask.Guest k) s) w s else is_none w) is) ∙ may)

  open_of : (o : Option ℕ) → is_of i o open_core ≡ is_of i o s
  unfolding set_do_not_enter on_instance
  open_of None = refl
  open_of (Some m) = refl

  open_blocked : blocked_on (subtask.Guest k) open_core ≡ blocked_on (subtask.Guest k) s
  unfolding set_do_not_enter on_instance blocked_on
  open_blocked = refl

  open_told : is_told k open_core ≡ is_told k s
  unfolding set_do_not_enter on_instance
  open_told = refl

  open_join : join_of (subtask.Guest k) open_core ≡ join_of (subtask.Guest k) s
  unfolding set_do_not_enter on_instance
  open_join = refl

  open_wakes : wakes_in i k w open_core ≡ wakes_in i k w s
  open_wakes =
      let blocked = ap (λ o. is_of i o open_core) open_blocked ∙ open_of (blocked_on (subtask.Guest k) s) in
      ap₂ (λ a b. a && b) open_told (ap₂ (λ a b. a || b) blocked (open_of w))

  returned_passes : (v : ℕ) → passes_check i (returned k v w open_core) ≡ (passes_check i s || wakes_in i k w s)
  unfolding returned
  returned_passes v =
      let g = goal_of k open_core in
      let f = caller_of k open_core in
      let y = given g f k v open_core in
      let one = told_passes i k status.Returned w y (λ is. subst (λ (j : Join). Chosen j w) (sym (given_join g f k v open_core ∙ open_join)) (chosen (sym (returned_told g f k v open_core ∙ open_told) ∙ is))) in
      let two = given_keeps i g f k v open_core ∙ enter_passes i false s in
      let three = given_wakes g f k v open_core i w ∙ open_wakes in
      one ∙ ap₂ (λ a b. a || b) two three

  pub passes_before : passes_after_return n w s ≡ (passes_check i s || (not (is_nil (held_by_flag i s)) || wakes_in i k w s))
  unfolding end_reopens released set_do_not_enter on_instance
  passes_before = sym (blocking_check n w s (held_by_flag i s) may (IsPermutation-refl _)) ∙ by (held_by_flag i s) refl
    where
      by : (held : List ℕ) → held_by_flag i s ≡ held → passes_check i (blocking_returned n w held s) ≡ (passes_check i s || (not (is_nil held) || wakes_in i k w s))
      by [] none = returned_passes (register_of n 0 (end_reopens i [] s))
      by (m ∷ ms) some =
          let opens = reopens_passes i s (held_by_flag i s) (IsPermutation-refl _) in
          let keeps = returned_keeps i k (register_of n 0 s) w (end_reopens i (m ∷ ms) s) in
          grind (arith, some)

-- ---- All the same which waiter

module _ (n : ℕ) (s : Core) (together : WaitersTogether s) where
  abbrev told_join : Join
  told_join = join_of (subtask.Guest (task_of n s)) s

  by_first : (x m : ℕ) (o : Option ℕ) → told_join ≡ join.Set x → first_at (is_waiting_on x) s ≡ o → is_some o ≡ true → is_told (task_of n s) s ≡ true → is_waiter x m s ≡ true → may_tell (task_of n s) (Some m) s ≡ true → passes_after_return n None s ≡ passes_after_return n (Some m) s
  unfolding passes_after_return may_tell may_publish may_wake
  by_first x m None to first there told waits may = absurd (cc)
  by_first x m (Some j) to first there told waits may =
      let other : is_waiter x j s ≡ true = find_passes (λ k. is_at k s (is_waiting_on x)) (numbers s.threads) j first in
      let lawful : may_tell (task_of n s) (Some j) s ≡ true =
      ap (λ b. if b then may_wake_joined told_join (Some j) s else false) told ∙ (ap (λ (q : Join). may_wake_joined q (Some j) s) to ∙ other) in
      let same = together x j m other waits in
      let here : passes_after_return n None s ≡ passes_after_return n (Some j) s =
      ap (λ (o : Option ℕ). passes_check (instance_of n s) (blocking_returned n o (held_by_flag (instance_of n s) s) s)) (ap (λ (q : Join). first_waiter q s) to ∙ first) in
      let a = passes_before n (Some j) s lawful in
      let b = passes_before n (Some m) s may in
      here ∙ (a ∙ (ap (λ q. passes_check (instance_of n s) s || (not (is_nil (held_by_flag (instance_of n s) s)) || (is_told (task_of n s) s && (is_of (instance_of n s) (blocked_on (subtask.Guest (task_of n s)) s) s || (q == instance_of n s))))) same ∙ sym b))

  pub passes_any : (w : Option ℕ) → may_tell (task_of n s) w s ≡ true → passes_after_return n None s ≡ passes_after_return n w s
  unfolding may_tell may_publish may_wake
  passes_any None may = refl
  passes_any (Some m) may = by (is_told (task_of n s) s) told_join refl refl may
    where
      by : (b : Bool) (j : Join) → is_told (task_of n s) s ≡ b → told_join ≡ j → (if b then may_wake_joined j (Some m) s else false) ≡ true → passes_after_return n None s ≡ passes_after_return n (Some m) s
      by false j told to h = absurd (cc)
      by true (join.Set x) told to h = by_first x m (first_at (is_waiting_on x) s) to refl (first_found (is_waiting_on x) m s h) told h may
      by true join.Nowhere told to h = absurd (cc)
      by true (join.Watched q) told to h = absurd (cc)
