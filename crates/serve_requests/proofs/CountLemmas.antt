-- Which elements are counted.
use Rattle.serve_requests.specs.HowMany.{how_many}
use Rattle.std.proofs.Common.{arith, refl, subst}
use Rattle.std.specs.Prelude.{Bool, List, Some, [], false, if◌then◌else◌, length, slice_get, suc, true, zero, ℕ, ◌+◌, ◌∷◌, ◌≡◌, ◌≤◌}

one_at_most : (b : Bool) (n k : ℕ) → n ≤ k → (if b then 1 else 0) + n ≤ suc k
one_at_most true n k le = omega (arith, le)
one_at_most false n k le = omega (arith, le)

module _ {A : Type 0} (p : A → Bool) where
  at_most : (xs : List A) → how_many p xs ≤ length xs
  at_most [] = omega arith
  at_most (x ∷ xs) = one_at_most (p x) (how_many p xs) (length xs) (at_most xs)

  abbrev AllSo : List A → Type 0
  AllSo xs = (i : ℕ) (x : A) → length xs ≤ how_many p xs → slice_get xs i ≡ Some x → p x ≡ true

  one_so : (y : A) (ys : List A) (b : Bool) → p y ≡ b → AllSo ys → (i : ℕ) (x : A) → suc (length ys) ≤ (if b then 1 else 0) + how_many p ys → slice_get (y ∷ ys) i ≡ Some x → p x ≡ true
  one_so y ys true is rest zero x all at = let same : y ≡ x = cc in subst (λ (z : A). p z ≡ true) same is
  one_so y ys true is rest (suc i) x all at = rest i x (omega (arith, all)) at
  one_so y ys false is rest i x all at = absurd (let most = at_most ys in omega (arith, most, all))

  -- where all are counted, each is so
  pub all_so : (xs : List A) (i : ℕ) (x : A) → length xs ≤ how_many p xs → slice_get xs i ≡ Some x → p x ≡ true
  all_so [] i x all at = absurd (cc)
  all_so (y ∷ ys) i x all at = one_so y ys (p y) refl (all_so ys) i x all at

  abbrev NotSo : List A → Type 0
  NotSo xs = (i : ℕ) × (x : A) × (slice_get xs i ≡ Some x) × (p x ≡ false)

  one_not : (y : A) (ys : List A) (b : Bool) → p y ≡ b → ((how_many p ys ≡ length ys → ⊥) → NotSo ys) → ((if b then 1 else 0) + how_many p ys ≡ suc (length ys) → ⊥) → NotSo (y ∷ ys)
  one_not y ys true is rest few = let found = rest (λ every. few (omega (arith, every))) in (suc found.0, found.1, found.2, found.3)
  one_not y ys false is rest few = (0, y, refl, is)

  -- where not all are counted, one isn't so
  pub some_not : (xs : List A) → (how_many p xs ≡ length xs → ⊥) → (i : ℕ) × (x : A) × (slice_get xs i ≡ Some x) × (p x ≡ false)
  some_not [] few = absurd (few refl)
  some_not (y ∷ ys) few = one_not y ys (p y) refl (some_not ys) few
