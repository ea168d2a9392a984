-- The threads that a call has: what of them is found by number, and who is the last one.
use Rattle.machine_rules.proofs.Machine.{[], arith, below_all, Bool, Core, false, get, has_thread, is_deletable, is_last_thread, is_lt, is_over, is_sorted, leaves_no_result, List, list_any, nat_cmp, nat_tests, None, not, Option, option_map, option_map_or, refl, Some, sym, T, task_of, Thread, true, unsigned_tied, ℕ, ◌&&◌, ◌==◌, ◌∙◌, ◌∷◌, ◌≡◌}
use Rattle.machine_rules.proofs.PlacingLemmas.{Shifted, shifted_calls, unplaced}
use Rattle.std.specs.FinMap.Entries.{find as seek}

pub any_found : {X : Type 0} (test : X → Bool) (q : ℕ) (es : List (ℕ × X)) → option_map_or test (seek nat_cmp q es) false ≡ true →
    list_any (λ e. test e.1) es ≡ true
any_found test q [] on = on
any_found test q (e ∷ es) on = let rest = any_found test q es in grind arith

-- a call that may be deleted has no thread
pub no_thread_left : (k n : ℕ) (s : Core) → is_deletable k s ≡ true →
    option_map_or (λ (r : Thread). r.call == k) (get s.threads n) false ≡ true → ⊥
unfolding is_deletable has_thread get
no_thread_left k n s h of = let found = any_found (λ (r : Thread). r.call == k) n s.threads.list of in grind arith

both : (a b : Bool) → T (a && b) → T a × T b
both true true h = (tt, tt)
both true false h = absurd h
both false b h = absurd h

-- a number below all others isn't found
below_none : {X : Type 0} (q : ℕ) (es : List (ℕ × X)) → T (below_all nat_cmp q es) → seek nat_cmp q es ≡ None
below_none q [] h = refl
below_none q (e ∷ es) h = let p = both (is_lt (nat_cmp q e.0)) (below_all nat_cmp q es) h in let rest = below_none q es p.1 in grind (arith, nat_tests)

-- an entry that passes, by its number
abbrev pub Passing : {X : Type 0} → (ℕ → X → Bool) → List (ℕ × X) → Type 0
Passing {X = X} test es = (q : ℕ) × ((x : X) × ((seek nat_cmp q es ≡ Some x) × (test q x ≡ true)))

passing_head : {X : Type 0} (test : ℕ → X → Bool) (e : ℕ × X) (es : List (ℕ × X)) → test e.0 e.1 ≡ true → Passing test (e ∷ es)
passing_head test e es is = (e.0, (e.1, (let t = unsigned_tied e.0 e.0 in grind (arith, nat_tests), is)))

passing_rest : {X : Type 0} (test : ℕ → X → Bool) (e : ℕ × X) (es : List (ℕ × X)) → seek nat_cmp e.0 es ≡ None → Passing test es → Passing test (e ∷ es)
passing_rest test e es none r = (r.0, (r.1.0, (let t = unsigned_tied r.0 e.0 in let at = r.1.1.0 in grind (arith, nat_tests), r.1.1.1)))

pub found_any : {X : Type 0} (test : ℕ → X → Bool) (es : List (ℕ × X)) → T (is_sorted nat_cmp es) → list_any (λ e. test e.0 e.1) es ≡ true → Passing test es
found_any test [] sorted h = absurd (grind arith)
found_any {X = X} test (e ∷ es) sorted h = by (test e.0 e.1) refl (λ on. found_any test es p.1 on)
  where
    p : T (below_all nat_cmp e.0 es) × T (is_sorted nat_cmp es)
    p = both (below_all nat_cmp e.0 es) (is_sorted nat_cmp es) sorted

    by : (b : Bool) → test e.0 e.1 ≡ b → (list_any (λ (y : ℕ × X). test y.0 y.1) es ≡ true → Passing test es) → Passing test (e ∷ es)
    by true is rest = passing_head test e es is
    by false is rest = passing_rest test e es (below_none e.0 es p.0) (rest (grind arith))

-- where the thread is gone and the call may be deleted, it was the last one
pub was_last : (n : ℕ) (s t : Core) →
    ((m : ℕ) → (m == n) ≡ false → option_map (λ (r : Thread). r.call) (get t.threads m) ≡ option_map (λ (r : Thread). r.call) (get s.threads m)) →
    is_deletable (task_of n s) t ≡ true → is_last_thread n s ≡ true
unfolding is_last_thread get
was_last n s t same h = by (list_any (λ (e : ℕ × Thread). (e.1.call == task_of n s) && not (e.0 == n)) s.threads.list) refl
  where
    by : (b : Bool) → list_any (λ (e : ℕ × Thread). (e.1.call == task_of n s) && not (e.0 == n)) s.threads.list ≡ b → not b ≡ true
    by false is = refl
    by true is =
        let r = found_any (λ m (u : Thread). (u.call == task_of n s) && not (m == n)) s.threads.list s.threads.sorted is in
        let at = r.1.1.0 in let passes = r.1.1.1 in let e = same r.0 in
        absurd (no_thread_left (task_of n s) r.0 t h (grind arith))

has_too : (k : ℕ) (s t : Core) → ((m : ℕ) → option_map (λ (r : Thread). r.call) (get t.threads m) ≡ option_map (λ (r : Thread). r.call) (get s.threads m)) → has_thread k s ≡ true → has_thread k t ≡ true
unfolding has_thread get
has_too k s t same h =
    let r = found_any (λ m (u : Thread). u.call == k) s.threads.list s.threads.sorted h in
    let at = r.1.1.0 in let passes = r.1.1.1 in let e = same r.0 in
    any_found (λ (u : Thread). u.call == k) r.0 t.threads.list (grind arith)

-- whether a call has a thread is read of whose the threads are
pub has_same : (k : ℕ) (s t : Core) → ((m : ℕ) → option_map (λ (r : Thread). r.call) (get t.threads m) ≡ option_map (λ (r : Thread). r.call) (get s.threads m)) → has_thread k t ≡ has_thread k s
has_same k s t same = let there = has_too k s t same in let back = has_too k t s (λ m. sym (same m)) in grind arith

-- the same threads are of the same calls, but for one
abbrev pub SameTasks : ℕ → Core → Core → Type 0
SameTasks n s t = (m : ℕ) → (m == n) ≡ false →
    option_map (λ (r : Thread). r.call) (get t.threads m) ≡ option_map (λ (r : Thread). r.call) (get s.threads m)

-- where the thread is the last one of its call, that has ended
abbrev pub LastEnds : ℕ → Core → Type 0
LastEnds n s = (u : Core) → SameTasks n s u → is_deletable (task_of n s) u ≡ true → is_over (task_of n s) s ≡ true

pub last_of : (n : ℕ) (s : Core) → leaves_no_result n s ≡ false → LastEnds n s
unfolding leaves_no_result
last_of n s h u same gone = let last = was_last n s u same gone in grind arith

-- no more is read than whose the threads are, and the calls
pub last_kept : (n : ℕ) (s t : Core) → ((m : ℕ) → option_map (λ (r : Thread). r.call) (get t.threads m) ≡ option_map (λ (r : Thread). r.call) (get s.threads m)) → t.calls ≡ s.calls → LastEnds n s → LastEnds n t
last_kept n s t same calls h u after gone =
    let e = same n in
    let task : task_of n t ≡ task_of n s = grind arith in
    let over = h u (λ m other. after m other ∙ same m) (grind arith) in
    grind arith

pub unplaced_call : (o p : Option Thread) → option_map unplaced p ≡ option_map unplaced o → option_map (λ (r : Thread). r.call) p ≡ option_map (λ (r : Thread). r.call) o
unplaced_call o p e = grind arith

pub last_shifted : (n : ℕ) {s t : Core} → Shifted s t → LastEnds n s → LastEnds n t
last_shifted n {s = s} {t = t} d last = last_kept n s t (λ m. unplaced_call (get s.threads m) (get t.threads m) (d.threads m)) (shifted_calls d) last
