-- Lists that have each number as often are permutations of each other, as a test of them (as choice_offers has it for itself).
use Rattle.laws_picks.proofs.CountLemmas.{often, often_permuted, permutes}
use Rattle.std.proofs.Common.{arith, refl}
use Rattle.std.proofs.lemmas.Bool.Decides.{nat_tests}
use Rattle.std.proofs.lemmas.List.Sorted.{length_permutation}
use Rattle.std.specs.List.{list_all}
use Rattle.std.specs.Prelude.{Bool, IsPermutation, List, [], length, true, ℕ, ◌==◌, ◌∷◌, ◌≡◌, ◌≤◌}
use Rattle.choice_offers.specs.Choices.{same_counts}

-- what all of a list pass, each number that is in it passes
all_often : (test : ℕ → Bool) (n : ℕ) (xs : List ℕ) → list_all test xs ≡ true → 1 ≤ often n xs → test n ≡ true
all_often test n [] all some = absurd (omega (arith, some))
all_often test n (x ∷ xs) all some = grind (arith, nat_tests, all, some, all_often test n xs)

all_pass : (test : ℕ → Bool) → ((n : ℕ) → test n ≡ true) → (xs : List ℕ) → list_all test xs ≡ true
all_pass test pass [] = refl
all_pass test pass (x ∷ xs) = grind (arith, pass x, all_pass test pass xs)

pub counts_permute : (xs ys : List ℕ) → same_counts xs ys ≡ true → IsPermutation xs ys
counts_permute xs ys same =
    let all : list_all (λ n. often n xs == often n ys) xs ≡ true = grind (arith, nat_tests, same) in
    let long : length xs ≡ length ys = grind (arith, nat_tests, same) in
    permutes xs ys long (λ n some. grind (arith, nat_tests, all_often (λ m. often m xs == often m ys) n xs all some))

pub permuted_counts : (xs ys : List ℕ) → IsPermutation xs ys → same_counts xs ys ≡ true
permuted_counts xs ys p =
    let all : list_all (λ n. often n xs == often n ys) xs ≡ true = all_pass (λ n. often n xs == often n ys) (λ n. grind (arith, nat_tests, often_permuted n xs ys p)) xs in
    grind (arith, nat_tests, all, length_permutation xs ys p)
