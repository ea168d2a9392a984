-- How a set's three numbers change where one subtask or one thread does.
use Rattle.laws_states.proofs.Primitives.{arith, Bool, by_number, Call, Change, Changes, Core, false, Fewer, get, op_progress_of, OpProgress, is_delivery_for, is_inside_wait, is_ready_in, is_ready_member, is_resumption, is_waiter, is_waiting_on, is_woken_for, More, nat_tests, None, Option, option_map, option_map_or, Place, place_of, ready_members, Records, refl, Same, same_subtask, Some, subst, Subtask, sym, Thread, true, waiters, woken, Work, ℕ, ◌&&◌, ◌+◌, ◌==◌, ◌||◌, ◌∙◌, ◌≡◌, ◌≤◌}
use Rattle.laws_states.proofs.{Counts.at_number, Counts.counted, Counts.counted_weighs, Counts.marks, Counts.mass, Counts.one, ReadyCounts.call_ready, ReadyCounts.is_woken_at, ReadyCounts.work_ready}

-- what a test says before and after
abbrev pub Turns : Change → Bool → Bool → Type 0
Turns More old new = (old ≡ false) × (new ≡ true)
Turns Same old new = new ≡ old
Turns Fewer old new = (old ≡ true) × (new ≡ false)

pub turns_as : (c : Change) (p q old new : Bool) → p ≡ old → q ≡ new → Turns c old new → Turns c p q
turns_as c p q old new e f h = subst (λ (b : Bool). Turns c p b) (sym f) (subst (λ (b : Bool). Turns c b new) (sym e) h)

abbrev more : Change → ℕ → Option ℕ
more More n = Some n
more _ n = None

abbrev less : Change → ℕ → Option ℕ
less Fewer n = Some n
less _ n = None

turns_up : (c : Change) (n : ℕ) (old new : Bool) → Turns c old new → one old + one (marks (more c n) n) ≤ one new + one (marks (less c n) n)
turns_up c n old new h = grind (arith, nat_tests)

turns_down : (c : Change) (n : ℕ) (old new : Bool) → Turns c old new → one new + one (marks (less c n) n) ≤ one old + one (marks (more c n) n)
turns_down c n old new h = grind (arith, nat_tests)

others_up : (c : Change) (n i : ℕ) (old new : Bool) → (i == n) ≡ false → new ≡ old → one old + one (marks (more c n) i) ≤ one new + one (marks (less c n) i)
others_up c n i old new apart same = grind (arith, nat_tests, apart, same)

others_down : (c : Change) (n i : ℕ) (old new : Bool) → (i == n) ≡ false → new ≡ old → one new + one (marks (less c n) i) ≤ one old + one (marks (more c n) i)
others_down c n i old new apart same = grind (arith, nat_tests, apart, same)

-- from what is so at n and elsewhere
at_all : (P : ℕ → Type 0) (n : ℕ) → P n → ((i : ℕ) → (i == n) ≡ false → P i) → (i : ℕ) → P i
at_all P n here others i = by_number i n _ (λ e. subst P (sym e) here) (λ apart. others i apart)

changes_by : (c : Change) (n old new : ℕ) → old + mass (more c n) ≤ new + mass (less c n) → new + mass (less c n) ≤ old + mass (more c n) → Changes c old new
changes_by More n old new a b = omega (arith, a, b)
changes_by Same n old new a b = omega (arith, a, b)
changes_by Fewer n old new a b = omega (arith, a, b)

-- one record alone passes the test otherwise
pub counted_changes : {X : Type 0} (test : X → Bool) (c : Change) (n : ℕ) (m k : Records X) → Turns c (at_number test m n) (at_number test k n) →
    ((i : ℕ) → (i == n) ≡ false → at_number test k i ≡ at_number test m i) → Changes c (counted test m) (counted test k)
counted_changes test c n m k here others = changes_by c n (counted test m) (counted test k)
    (counted_weighs test m k (more c n) (less c n) (at_all (λ i. one (at_number test m i) + one (marks (more c n) i) ≤ one (at_number test k i) + one (marks (less c n) i)) n
    (turns_up c n _ _ here) (λ i apart. others_up c n i _ _ apart (others i apart))))
    (counted_weighs test k m (less c n) (more c n) (at_all (λ i. one (at_number test k i) + one (marks (less c n) i) ≤ one (at_number test m i) + one (marks (more c n) i)) n
    (turns_down c n _ _ here) (λ i apart. others_down c n i _ _ apart (others i apart))))

pub threads_change : (x n : ℕ) (c : Change) (s t : Core) → Turns c (is_woken_at x n s) (is_woken_at x n t) → ((i : ℕ) → (i == n) ≡ false → is_woken_at x i t ≡ is_woken_at x i s) →
    Changes c (woken x s) (woken x t)
unfolding woken
threads_change x n c s t here others = counted_changes (λ (r : Thread). is_woken_for x r r.place) c n s.threads t.threads here others

waits_at : (x n : ℕ) (s : Core) → at_number (λ (r : Thread). is_waiting_on x r.place) s.threads n ≡ is_waiter x n s
waits_at x n s = grind arith

pub waiters_change : (x n : ℕ) (c : Change) (s t : Core) → Turns c (is_waiter x n s) (is_waiter x n t) → ((i : ℕ) → (i == n) ≡ false → is_waiter x i t ≡ is_waiter x i s) →
    Changes c (waiters x s) (waiters x t)
unfolding waiters
waiters_change x n c s t here others = counted_changes (λ (r : Thread). is_waiting_on x r.place) c n s.threads t.threads
    (turns_as c _ _ _ _ (waits_at x n s) (waits_at x n t) here)
    (λ i apart. waits_at x i t ∙ (others i apart ∙ sym (waits_at x i s)))

both : (c : Change) (p q a b : ℕ) → Changes c p q → b ≡ a → Changes c (p + a) (q + b)
both More p q a b h e = omega (arith, h, e)
both Same p q a b h e = omega (arith, h, e)
both Fewer p q a b h e = omega (arith, h, e)

both_works : (c : Change) (p q a b : ℕ) → Changes c p q → b ≡ a → Changes c (a + p) (b + q)
both_works More p q a b h e = omega (arith, h, e)
both_works Same p q a b h e = omega (arith, h, e)
both_works Fewer p q a b h e = omega (arith, h, e)

pub members_change : (x : ℕ) (d : Subtask) (c : Change) (s t : Core) → Turns c (is_ready_member x d s) (is_ready_member x d t) →
    ((sub : Subtask) → same_subtask sub d ≡ false → is_ready_member x sub t ≡ is_ready_member x sub s) → Changes c (ready_members x s) (ready_members x t)
unfolding ready_members
members_change x (Subtask.Guest k) c s t here others = both c _ _ _ _
    (counted_changes (λ (r : Call). is_ready_in x r.join r.event) c k s.calls t.calls
    (turns_as c _ _ _ _ (call_ready x k s) (call_ready x k t) here)
    (λ i apart. call_ready x i t ∙ (others (Subtask.Guest i) apart ∙ sym (call_ready x i s))))
    (counted_changes (λ (r : Work). is_ready_in x r.join r.event) Same 0 s.works t.works (same 0) (λ i apart. same i))
  where
    same : (i : ℕ) → at_number (λ (r : Work). is_ready_in x r.join r.event) t.works i ≡ at_number (λ (r : Work). is_ready_in x r.join r.event) s.works i
    same i = work_ready x i t ∙ (others (Subtask.Host i) refl ∙ sym (work_ready x i s))
members_change x (Subtask.Host j) c s t here others = both_works c _ _ _ _
    (counted_changes (λ (r : Work). is_ready_in x r.join r.event) c j s.works t.works
    (turns_as c _ _ _ _ (work_ready x j s) (work_ready x j t) here)
    (λ i apart. work_ready x i t ∙ (others (Subtask.Host i) apart ∙ sym (work_ready x i s))))
    (counted_changes (λ (r : Call). is_ready_in x r.join r.event) Same 0 s.calls t.calls (same 0) (λ i apart. same i))
  where
    same : (i : ℕ) → at_number (λ (r : Call). is_ready_in x r.join r.event) t.calls i ≡ at_number (λ (r : Call). is_ready_in x r.join r.event) s.calls i
    same i = call_ready x i t ∙ (others (Subtask.Guest i) refl ∙ sym (call_ready x i s))

-- ---- Whether a thread is woken hangs on its place and how far its op is

abbrev pub woken_place : ℕ → Option Place → OpProgress → Bool
woken_place y (Some (Place.Ready m w)) far = is_delivery_for y w || (is_resumption w && is_inside_wait y far)
woken_place y (Some (Place.Held w)) far = is_delivery_for y w
woken_place y (Some Place.Running) far = is_inside_wait y far
woken_place y _ far = false

of_place : (y : ℕ) (r : Thread) (p : Place) → is_woken_for y r p ≡ woken_place y (Some p) r.op_progress
of_place y r (Place.Ready m w) = refl
of_place y r (Place.Held w) = refl
of_place y r Place.Running = refl
of_place y r p = refl

pub woken_at : (y m : ℕ) (u : Core) → is_woken_at y m u ≡ woken_place y (place_of m u) (op_progress_of m u)
woken_at y m u = by (get u.threads m)
  where
    by : (o : Option Thread) → option_map_or (λ (r : Thread). is_woken_for y r r.place) o false ≡ woken_place y (option_map (λ (r : Thread). r.place) o) (option_map_or (λ (r : Thread). r.op_progress) o OpProgress.Fresh)
    by None = refl
    by (Some r) = of_place y r r.place
