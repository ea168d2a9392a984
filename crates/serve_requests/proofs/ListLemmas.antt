-- Lists of which one element is set, or which have one more.
use Rattle.serve_requests.specs.HowMany.{how_many}
use Rattle.std.proofs.Common.{ap, arith, cond, refl, subst}
use Rattle.std.specs.Prelude.{Bool, List, Some, [], length, slice_get, slice_set, suc, zero, ℕ, ◌+◌, ◌++◌, ◌∷◌, ◌≡◌, ◌≢◌}

pub get_same : {A : Type 0} (xs : List A) (i : ℕ) (x y : A) → slice_get xs i ≡ Some x → slice_get (slice_set xs i y) i ≡ Some y
get_same [] i x y at = absurd (cc)
get_same (z ∷ zs) zero x y at = refl
get_same (z ∷ zs) (suc i) x y at = get_same zs i x y at

pub get_other : {A : Type 0} (xs : List A) (i j : ℕ) (y : A) → i ≢ j → slice_get (slice_set xs i y) j ≡ slice_get xs j
get_other [] i j y other = refl
get_other (z ∷ zs) zero zero y other = absurd (other refl)
get_other (z ∷ zs) zero (suc j) y other = refl
get_other (z ∷ zs) (suc i) zero y other = refl
get_other (z ∷ zs) (suc i) (suc j) y other = get_other zs i j y (λ same. other (ap (λ (k : ℕ). suc k) same))

pub length_set : {A : Type 0} (xs : List A) (i : ℕ) (y : A) → length (slice_set xs i y) ≡ length xs
length_set [] i y = refl
length_set (z ∷ zs) zero y = refl
length_set (z ∷ zs) (suc i) y = ap (λ (k : ℕ). suc k) (length_set zs i y)

abbrev pub bit : Bool → ℕ
bit b = cond b 1 0

pub count_set : {A : Type 0} (p : A → Bool) (xs : List A) (i : ℕ) (x y : A) → slice_get xs i ≡ Some x → how_many p (slice_set xs i y) + bit (p x) ≡ how_many p xs + bit (p y)
count_set p [] i x y at = absurd (cc)
count_set {A} p (z ∷ zs) zero x y at =
    let same : z ≡ x = cc in
    subst (λ (w : A). bit (p y) + how_many p zs + bit (p w) ≡ bit (p z) + how_many p zs + bit (p y)) same (omega arith)
count_set p (z ∷ zs) (suc i) x y at = let rest = count_set p zs i x y at in omega (arith, rest)

pub count_more : {A : Type 0} (p : A → Bool) (xs : List A) (x : A) → how_many p (xs ++ x ∷ []) ≡ how_many p xs + bit (p x)
count_more p [] x = omega arith
count_more p (z ∷ zs) x = let rest = count_more p zs x in omega (arith, rest)
