-- The balance of a set: how many of its members are ready against how many threads are woken for it.
use Rattle.laws_places.proofs.Laws.{ap, arith, Bool, Core, false, is_ready_member, is_woken_at, nat_tests, None, one, ready_members, ready_weighs, refl, same_subtask, Some, some_ready, subst, Subtask, suc, sym, true, woken, woken_weighs, zero, ℕ, ◌+◌, ◌==◌, ◌≡◌, ◌≤◌}

pub same_is : (d e : Subtask) → same_subtask d e ≡ true → d ≡ e
same_is (Subtask.Guest k) (Subtask.Guest q) h = ap (λ (i : ℕ). Subtask.Guest i) (grind (arith, nat_tests))
same_is (Subtask.Host k) (Subtask.Host q) h = ap (λ (i : ℕ). Subtask.Host i) (grind (arith, nat_tests))
same_is (Subtask.Guest k) (Subtask.Host q) h = absurd (grind arith)
same_is (Subtask.Host k) (Subtask.Guest q) h = absurd (grind arith)

pub same_self : (d : Subtask) → same_subtask d d ≡ true
same_self (Subtask.Guest k) = grind (arith, nat_tests)
same_self (Subtask.Host i) = grind (arith, nat_tests)

-- How the ready members of the set and its woken threads change from s to t.
pub data Balance (y : ℕ) (s t : Core) : Type 0 where
  -- no member is ready that wasn't, and who was woken still is
  Quiet : ((sub : Subtask) → is_ready_member y sub t ≡ true → is_ready_member y sub s ≡ true) →
      ((n : ℕ) → is_woken_at y n s ≡ true → is_woken_at y n t ≡ true) → Balance y s t
  -- a member becomes ready, and a thread is woken
  Gained : (d : Subtask) (m : ℕ) → ((sub : Subtask) → same_subtask sub d ≡ false → is_ready_member y sub t ≡ true → is_ready_member y sub s ≡ true) →
      ((n : ℕ) → is_woken_at y n s ≡ true → is_woken_at y n t ≡ true) → is_woken_at y m s ≡ false → is_woken_at y m t ≡ true → Balance y s t
  -- a woken thread takes a member
  Took : (n : ℕ) (d : Subtask) → ((sub : Subtask) → is_ready_member y sub t ≡ true → is_ready_member y sub s ≡ true) → is_ready_member y d s ≡ true →
      is_ready_member y d t ≡ false → ((m : ℕ) → (m == n) ≡ false → is_woken_at y m s ≡ true → is_woken_at y m t ≡ true) → Balance y s t
  -- a woken thread hands its wake on
  Passed : (n m : ℕ) → ((sub : Subtask) → is_ready_member y sub t ≡ true → is_ready_member y sub s ≡ true) →
      ((i : ℕ) → (i == n) ≡ false → is_woken_at y i s ≡ true → is_woken_at y i t ≡ true) → is_woken_at y m s ≡ false → is_woken_at y m t ≡ true → Balance y s t
  -- no member is ready
  Bare : ((sub : Subtask) → is_ready_member y sub t ≡ false) → Balance y s t

-- ---- One by one

one_le : (b c : Bool) → (b ≡ true → c ≡ true) → one b ≤ one c
one_le true c h = let e = ap one (h refl) in omega (arith, e)
one_le false c h = omega arith

but_le : (b c same : Bool) → (same ≡ false → b ≡ true → c ≡ true) → one b + 0 ≤ one c + one same
but_le b c same h = grind (arith, h)

more_le : (b c same : Bool) → (b ≡ true → c ≡ true) → (same ≡ true → (b ≡ false) × (c ≡ true)) → one b + one same ≤ one c + 0
more_le b c same h here = grind (arith, h, here)

passed_le : (b c gains loses : Bool) → (loses ≡ false → b ≡ true → c ≡ true) → (gains ≡ true → (b ≡ false) × (c ≡ true)) → one b + one gains ≤ one c + one loses
passed_le b c gains loses h here = grind (arith, h, here)

at_same : (P : Subtask → Type 0) (sub d : Subtask) → P d → same_subtask sub d ≡ true → P sub
at_same P sub d h same = subst P (sym (same_is sub d same)) h

at_number_same : (P : ℕ → Type 0) (m n : ℕ) → P n → (m == n) ≡ true → P m
at_number_same P m n h same = let is : m ≡ n = grind (arith, nat_tests) in subst P (sym is) h

module _ (y : ℕ) (s t : Core) where
  abbrev Fewer : Type 0
  Fewer = (sub : Subtask) → is_ready_member y sub t ≡ true → is_ready_member y sub s ≡ true

  pub ready_le : Fewer → ready_members y t + 0 ≤ ready_members y s + 0
  ready_le r = ready_weighs y s t None None (λ sub. let here = one_le _ _ (r sub) in omega (arith, here))

  pub woken_le : ((n : ℕ) → is_woken_at y n s ≡ true → is_woken_at y n t ≡ true) → woken y s + 0 ≤ woken y t + 0
  woken_le k = woken_weighs y s t None None (λ n. let here = one_le _ _ (k n) in omega (arith, here))

  pub bare_le : ((sub : Subtask) → is_ready_member y sub t ≡ false) → ready_members y t ≤ woken y t
  bare_le r = by (ready_members y t) refl
    where
      by : (n : ℕ) → ready_members y t ≡ n → ready_members y t ≤ woken y t
      by zero is = omega (arith, is)
      by (suc n) is = absurd (let some = some_ready y t (omega (arith, is)) in let none_is = r some.0 in let one_is = some.1 in grind arith)

  pub balanced : Balance y s t → ready_members y s ≤ woken y s → ready_members y t ≤ woken y t
  balanced (Quiet r k) h = let a = ready_le r in let b = woken_le k in omega (arith, a, b, h)
  balanced (Gained d m r k off is_on) h =
      let a = ready_weighs y s t None (Some d) (λ sub. but_le (is_ready_member y sub t) (is_ready_member y sub s) (same_subtask sub d) (r sub)) in
      let b = woken_weighs y s t (Some m) None (λ i. more_le (is_woken_at y i s) (is_woken_at y i t) (i == m) (k i) (at_number_same (λ j. (is_woken_at y j s ≡ false) × (is_woken_at y j t ≡ true)) i m (off, is_on))) in
      omega (arith, a, b, h)
  balanced (Took n d r on off k) h =
      let a = ready_weighs y s t (Some d) None (λ sub. more_le (is_ready_member y sub t) (is_ready_member y sub s) (same_subtask sub d) (r sub) (at_same (λ e. (is_ready_member y e t ≡ false) × (is_ready_member y e s ≡ true)) sub d (off, on))) in
      let b = woken_weighs y s t None (Some n) (λ m. but_le (is_woken_at y m s) (is_woken_at y m t) (m == n) (k m)) in omega (arith, a, b, h)
  balanced (Passed n m r k off is_on) h =
      let a = ready_le r in
      let b = woken_weighs y s t (Some m) (Some n) (λ i. passed_le (is_woken_at y i s) (is_woken_at y i t) (i == m) (i == n) (k i) (at_number_same (λ j. (is_woken_at y j s ≡ false) × (is_woken_at y j t ≡ true)) i m (off, is_on))) in
      omega (arith, a, b, h)
  balanced (Bare r) h = bare_le r
