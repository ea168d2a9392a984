-- How often a number is in a list. Lists that have each number as often are permutations of each other.
use Rattle.std.proofs.Common.{ap, arith, refl, subst, sym, ◌∙◌}
use Rattle.std.proofs.lemmas.Bool.Decides.{nat_tests}
use Rattle.std.proofs.lemmas.Bool.{eqb-true}
use Rattle.std.proofs.lemmas.List.Sorted.{IsPermutation-cons, IsPermutation-middle, IsPermutation-refl, IsPermutation-sym, IsPermutation-trans, sum_by-IsPermutation}
use Rattle.std.proofs.lemmas.List.Sums.{sum_by-append, sum_by-cons}
use Rattle.std.proofs.lemmas.List.{length-append}
use Rattle.std.specs.Prelude.{Bool, IsPermutation, List, [], cond, count_by, false, length, true, ℕ, ◌+◌, ◌++◌, ◌==◌, ◌∷◌, ◌≡◌, ◌≤◌}

-- 1 for the number, 0 for another one
abbrev pub one_if : ℕ → ℕ → ℕ
one_if n m = cond (m == n) 1 0

-- how often the number is in the list
abbrev pub often : ℕ → List ℕ → ℕ
often n xs = count_by (λ m. m == n) xs

pub often_append : (n : ℕ) (xs ys : List ℕ) → often n (xs ++ ys) ≡ often n xs + often n ys
often_append n xs ys = sum_by-append (one_if n) xs ys

pub often_first : (n : ℕ) (x : ℕ) (xs : List ℕ) → often n (x ∷ xs) ≡ one_if n x + often n xs
often_first n x xs = sum_by-cons (one_if n) x xs

pub itself : (n : ℕ) → one_if n n ≡ 1
itself n = grind (arith, nat_tests)

-- where a number is in a list, the list has a front, the number, and the rest
found : (n : ℕ) (xs : List ℕ) → 1 ≤ often n xs → (us : List ℕ) × ((vs : List ℕ) × (xs ≡ us ++ n ∷ vs))
found n [] some = absurd (omega (arith, some))
found n (x ∷ xs) some = by (x == n) refl (found n xs)
  where
    by : (b : Bool) → (x == n) ≡ b → (1 ≤ often n xs → (us : List ℕ) × ((vs : List ℕ) × (xs ≡ us ++ n ∷ vs))) → (us : List ℕ) × ((vs : List ℕ) × (x ∷ xs ≡ us ++ n ∷ vs))
    by true same later = ([], (xs, ap (λ y. y ∷ xs) (eqb-true x n same)))
    by false other later =
        let apart : one_if n x ≡ 0 = ap (λ b. cond b 1 0) other in
        let rest = later (omega (arith, some, apart, often_first n x xs)) in
        (x ∷ rest.0, (rest.1.0, ap (λ l. x ∷ l) rest.1.1))

-- a permutation has each number as often
pub often_permuted : (n : ℕ) (xs ys : List ℕ) → IsPermutation xs ys → often n xs ≡ often n ys
often_permuted n xs ys p = sym (sum_by-IsPermutation (one_if n) xs ys p)

pub permutes : (xs ys : List ℕ) → length xs ≡ length ys → ((n : ℕ) → 1 ≤ often n xs → often n xs ≡ often n ys) → IsPermutation xs ys
permutes [] [] same h = IsPermutation-refl []
permutes [] (y ∷ ys) same h = absurd (omega (arith, same))
permutes (x ∷ xs) ys same h =
    let mine : 1 ≤ often x (x ∷ xs) = omega (arith, often_first x x xs, itself x) in
    let some : 1 ≤ often x ys = omega (arith, mine, h x mine) in
    split (found x ys some).0 (found x ys some).1.0 (found x ys some).1.1 (permutes xs)
  where
    split : (us vs : List ℕ) → ys ≡ us ++ x ∷ vs → ((zs : List ℕ) → length xs ≡ length zs → ((n : ℕ) → 1 ≤ often n xs → often n xs ≡ often n zs) → IsPermutation xs zs) → IsPermutation (x ∷ xs) ys
    split us vs is again =
        let parts : (n : ℕ) → often n ys ≡ often n us + (one_if n x + often n vs) =
        λ n. ap (often n) is ∙ (often_append n us (x ∷ vs) ∙ ap (λ k. often n us + k) (often_first n x vs)) in
        let shorter : length xs ≡ length (us ++ vs) =
        omega (arith, same, ap length is, length-append us (x ∷ vs), length-append us vs) in
        let rest : IsPermutation xs (us ++ vs) =
        again (us ++ vs) shorter (λ n some. omega (arith, some, often_first n x xs, h n (omega (arith, some, often_first n x xs)), parts n, often_append n us vs)) in
        let middle : IsPermutation (x ∷ (us ++ vs)) (us ++ x ∷ vs) = IsPermutation-sym _ _ (IsPermutation-middle us x vs) in
        subst (λ l. IsPermutation (x ∷ xs) l) (sym is) (IsPermutation-trans _ _ _ (IsPermutation-cons x xs (us ++ vs) rest) middle)
