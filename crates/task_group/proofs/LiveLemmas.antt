-- Groups of which it is known that they are live.
use Rattle.std.proofs.Common.{Bool, arith, false, refl, subst, sym, true, ◌∙◌, ◌≡◌, ℕ, ◌+◌, ◌≤◌, cond}
use Rattle.std.proofs.lemmas.Bool.Decides.{nat_tests}
use Rattle.std.specs.Cmp.{nat_cmp_total, unsigned_tied}
use Rattle.std.specs.FinMap as finite
use Rattle.std.specs.Ordering.{eq_by_cmp, nat_cmp}
use Rattle.std.specs.Prelude.{IsSome, None, Option, Some, ◌==◌}
use Rattle.task_group.specs.Counts.{AreLive, Counts}

put_there : (b : Bool) (v : ℕ) (o : Option ℕ) → (b ≡ false → IsSome o) → IsSome (cond b (Some v) o)
put_there true v o h = refl
put_there false v o h = h refl

left_there : (b : Bool) (o : Option ℕ) → (b ≡ true → ⊥) → IsSome o → IsSome (cond b None o)
left_there true o other h = absurd (other refl)
left_there false o other h = h

module _ (m : Counts) (low high : ℕ) where
  at_put : (k v n : ℕ) → ((n == k) ≡ false → IsSome (finite.get m n)) → IsSome (finite.get (finite.insert m k v) n)
  at_put k v n h =
      let P : Option ℕ → Type 0 = IsSome in
      subst P (sym (finite.get-insert nat_cmp_total m k v n)) (put_there (eq_by_cmp nat_cmp n k) v (finite.get m n) (λ e. h (sym (unsigned_tied n k) ∙ e)))

  -- another count leaves them
  pub live-set : (k v : ℕ) → AreLive m low high → AreLive (finite.insert m k v) low high
  live-set k v h n a b = at_put k v n (λ e. h n a b)

  -- a new one, after the last
  pub live-more : (k v : ℕ) → high + 1 ≡ k → AreLive m low high → AreLive (finite.insert m k v) low k
  live-more k v next h n a b = at_put k v n (λ e. h n a (grind (arith, nat_tests, e, b, next)))

  -- a new one alone
  pub live-one : (k v : ℕ) → AreLive (finite.insert m k v) k k
  live-one k v n a b = at_put k v n (λ e. absurd (grind (arith, nat_tests, e, a, b)))

  -- those after one that is gone
  pub live-after : (k : ℕ) → low ≤ k → AreLive m low high → AreLive (finite.remove m k) (k + 1) high
  live-after k le h n a b =
      let P : Option ℕ → Type 0 = IsSome in
      subst P (sym (finite.get-remove nat_cmp_total m k n)) (left_there (eq_by_cmp nat_cmp n k) (finite.get m n) (λ e. absurd (let same = sym (unsigned_tied n k) ∙ e in grind (arith, nat_tests, same, a))) (h n (omega (arith, a, le)) b))

  -- those before or after one that isn't among them
  pub live-other : (k : ℕ) → k + 1 ≤ low → AreLive m low high → AreLive (finite.remove m k) low high
  live-other k lt h n a b =
      let P : Option ℕ → Type 0 = IsSome in
      subst P (sym (finite.get-remove nat_cmp_total m k n)) (left_there (eq_by_cmp nat_cmp n k) (finite.get m n) (λ e. absurd (let same = sym (unsigned_tied n k) ∙ e in grind (arith, nat_tests, same, a, lt))) (h n a b))
