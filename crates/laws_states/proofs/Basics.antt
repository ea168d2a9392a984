-- Booleans and numbers that can't be.
use Rattle.laws_states.proofs.Rules.{arith, false, None, Some, subst, sym, T, true, ℕ, ◌+◌, ◌==◌, ◌≡◌, ◌≤◌}

pub true_is_not_false : true ≡ false → ⊥
true_is_not_false h = subst T h tt

pub no_way : {A : Type 0} → false ≡ true → A
no_way h = absurd (true_is_not_false (sym h))

pub same_number : (n : ℕ) → (n == n) ≡ true
same_number n = grind arith

pub too_high : {q n : ℕ} → q ≡ n + 1 → q ≤ n → ⊥
too_high e h = omega (e, h, arith)

pub above : {n m : ℕ} → n ≤ m → n ≤ m + 1
above h = omega (h, arith)

pub some_none : {A X : Type 0} {x : X} → Some x ≡ None → A
some_none e = absurd (cc)
