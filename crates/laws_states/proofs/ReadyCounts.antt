-- The ready members of a set and its woken threads, counted by numbers.
use Rattle.laws_states.proofs.Primitives.{[], ap, arith, Bool, Call, Core, count_by, false, get, has_ready_member, is_ready_in, is_ready_member, is_woken_for, List, list_any, list_any-append, map, nat_tests, None, numbers, Option, option_map_or, ready_members, refl, same_subtask, Some, Subtask, suc, Thread, true, woken, Work, zero, ℕ, ◌+◌, ◌∷◌, ◌≡◌, ◌≤◌}
use Rattle.laws_states.proofs.{Counts.at_number, Counts.counted_weighs, Counts.counts_one, Counts.marks, Counts.mass, Counts.one, Counts.one_counted, Joins.any_number}

-- ---- Members

-- the subtask, if there is one
abbrev pub marks_sub : Option Subtask → Subtask → Bool
marks_sub None d = false
marks_sub (Some e) d = same_subtask d e

guest_in : Option Subtask → Option ℕ
guest_in (Some (Subtask.Guest k)) = Some k
guest_in _ = None

host_in : Option Subtask → Option ℕ
host_in (Some (Subtask.Host i)) = Some i
host_in _ = None

guest_marks : (o : Option Subtask) (k : ℕ) → marks (guest_in o) k ≡ marks_sub o (Subtask.Guest k)
unfolding guest_in
guest_marks None k = refl
guest_marks (Some (Subtask.Guest q)) k = refl
guest_marks (Some (Subtask.Host i)) k = refl

host_marks : (o : Option Subtask) (i : ℕ) → marks (host_in o) i ≡ marks_sub o (Subtask.Host i)
unfolding host_in
host_marks None i = refl
host_marks (Some (Subtask.Guest q)) i = refl
host_marks (Some (Subtask.Host j)) i = refl

both_mass : (o : Option Subtask) → mass (guest_in o) + mass (host_in o) ≡ mass o
unfolding guest_in host_in
both_mass None = refl
both_mass (Some (Subtask.Guest q)) = refl
both_mass (Some (Subtask.Host i)) = refl

pub call_ready : (x k : ℕ) (s : Core) → at_number (λ (c : Call). is_ready_in x c.join c.event) s.calls k ≡ is_ready_member x (Subtask.Guest k) s
call_ready x k s = grind arith

pub work_ready : (x i : ℕ) (s : Core) → at_number (λ (w : Work). is_ready_in x w.join w.event) s.works i ≡ is_ready_member x (Subtask.Host i) s
work_ready x i s = grind arith

-- e counts more at t, d at s
pub ready_weighs : (x : ℕ) (s t : Core) (e d : Option Subtask) →
    ((sub : Subtask) → one (is_ready_member x sub t) + one (marks_sub e sub) ≤ one (is_ready_member x sub s) + one (marks_sub d sub)) →
    ready_members x t + mass e ≤ ready_members x s + mass d
unfolding ready_members
ready_weighs x s t e d h =
    let calls = counted_weighs (λ (c : Call). is_ready_in x c.join c.event) t.calls s.calls (guest_in e) (guest_in d)
    (λ k. let here = h (Subtask.Guest k) in let p = ap one (call_ready x k t) in let q = ap one (call_ready x k s) in
    let f = ap one (guest_marks e k) in let g = ap one (guest_marks d k) in omega (arith, here, p, q, f, g)) in
    let works = counted_weighs (λ (w : Work). is_ready_in x w.join w.event) t.works s.works (host_in e) (host_in d)
    (λ i. let here = h (Subtask.Host i) in let p = ap one (work_ready x i t) in let q = ap one (work_ready x i s) in
    let f = ap one (host_marks e i) in let g = ap one (host_marks d i) in omega (arith, here, p, q, f, g)) in
    let more = both_mass e in let less = both_mass d in omega (arith, calls, works, more, less)

has_ready : (x : ℕ) (sub : Subtask) (s : Core) → is_ready_member x sub s ≡ true → has_ready_member x s ≡ true
unfolding has_ready_member numbers get
has_ready x (Subtask.Guest k) s h =
    let any = any_number (λ sub. is_ready_member x sub s) (λ n. Subtask.Guest n) k s.calls.list in grind (arith, nat_tests, list_any-append)
has_ready x (Subtask.Host i) s h =
    let any = any_number (λ sub. is_ready_member x sub s) (λ n. Subtask.Host n) i s.works.list in grind (arith, nat_tests, list_any-append)

pub none_ready : (x : ℕ) (s : Core) → has_ready_member x s ≡ false → (sub : Subtask) → is_ready_member x sub s ≡ false
none_ready x s none sub = by (is_ready_member x sub s) refl
  where
    by : (b : Bool) → is_ready_member x sub s ≡ b → is_ready_member x sub s ≡ false
    by false is = is
    by true is = absurd (let any = has_ready x sub s is in grind arith)

any_key : (p : Subtask → Bool) (wrap : ℕ → Subtask) (ks : List ℕ) → list_any p (map wrap ks) ≡ true → (k : ℕ) × (p (wrap k) ≡ true)
any_key p wrap [] h = absurd (grind arith)
any_key p wrap (k ∷ ks) h = by (p (wrap k)) refl (λ rest. any_key p wrap ks rest)
  where
    by : (b : Bool) → p (wrap k) ≡ b → (list_any p (map wrap ks) ≡ true → (i : ℕ) × (p (wrap i) ≡ true)) → (i : ℕ) × (p (wrap i) ≡ true)
    by true is rec = (k, is)
    by false is rec = rec (grind arith)

pub found_ready : (x : ℕ) (s : Core) → has_ready_member x s ≡ true → (sub : Subtask) × (is_ready_member x sub s ≡ true)
unfolding has_ready_member
found_ready x s h = by (list_any p (map (λ n. Subtask.Guest n) (numbers s.calls))) refl
  where
    p : Subtask → Bool
    p sub = is_ready_member x sub s

    by : (b : Bool) → list_any p (map (λ n. Subtask.Guest n) (numbers s.calls)) ≡ b → (sub : Subtask) × (is_ready_member x sub s ≡ true)
    by true is = let r = any_key p (λ n. Subtask.Guest n) (numbers s.calls) is in (Subtask.Guest r.0, r.1)
    by false is =
        let both = list_any-append p (map (λ n. Subtask.Guest n) (numbers s.calls)) (map (λ n. Subtask.Host n) (numbers s.works)) in
        let r = any_key p (λ n. Subtask.Host n) (numbers s.works) (grind (arith, both, h, is)) in (Subtask.Host r.0, r.1)

-- where members are counted there is one
pub some_ready : (x : ℕ) (s : Core) → 1 ≤ ready_members x s → (sub : Subtask) × (is_ready_member x sub s ≡ true)
unfolding ready_members
some_ready x s h = by (count_by (λ e. is_ready_in x e.1.join e.1.event) s.calls.list) refl
  where
    by : (n : ℕ) → count_by (λ e. is_ready_in x e.1.join e.1.event) s.calls.list ≡ n → (sub : Subtask) × (is_ready_member x sub s ≡ true)
    by zero is = let r = one_counted (λ (w : Work). is_ready_in x w.join w.event) s.works (omega (arith, is, h)) in (Subtask.Host r.0, let same = work_ready x r.0 s in let on = r.1 in grind arith)
    by (suc n) is = let r = one_counted (λ (c : Call). is_ready_in x c.join c.event) s.calls (omega (arith, is)) in (Subtask.Guest r.0, let same = call_ready x r.0 s in let on = r.1 in grind arith)

-- a ready member is counted
pub ready_counts : (x : ℕ) (sub : Subtask) (s : Core) → is_ready_member x sub s ≡ true → 1 ≤ ready_members x s
unfolding ready_members
ready_counts x (Subtask.Guest k) s h = let one = counts_one (λ (c : Call). is_ready_in x c.join c.event) s.calls k in let same = call_ready x k s in
    let some = one (grind arith) in omega (arith, some)
ready_counts x (Subtask.Host i) s h = let one = counts_one (λ (w : Work). is_ready_in x w.join w.event) s.works i in let same = work_ready x i s in
    let some = one (grind arith) in omega (arith, some)

-- ---- Woken threads

abbrev pub is_woken_at : ℕ → ℕ → Core → Bool
is_woken_at x n s = option_map_or (λ (t : Thread). is_woken_for x t t.place) (get s.threads n) false

-- e counts more at t, d at s
pub woken_weighs : (x : ℕ) (s t : Core) (e d : Option ℕ) → ((n : ℕ) → one (is_woken_at x n s) + one (marks e n) ≤ one (is_woken_at x n t) + one (marks d n)) →
    woken x s + mass e ≤ woken x t + mass d
unfolding woken
woken_weighs x s t e d h = counted_weighs (λ (r : Thread). is_woken_for x r r.place) s.threads t.threads e d h
