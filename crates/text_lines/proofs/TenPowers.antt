-- So many digits, and the numbers that they write.
use Rattle.std.proofs.Common.{◌≡◌, ℕ, suc, zero, ◌^◌, ◌<◌, ◌≤◌, ◌+◌, ◌-◌, ◌*◌, sym, subst, arith}
use Rattle.std.proofs.lemmas.Grind.{pow_more}

ten_more : (k d : ℕ) → 10 ^ k ≤ 10 ^ (k + d)
ten_more k zero = grind arith
ten_more k (suc d) =
    let same : k + suc d ≡ (k + d) + 1 = omega arith in
    subst (λ (n : ℕ). 10 ^ k ≤ 10 ^ n) (sym same) (omega (arith, ten_more k d, pow_more 10 (k + d)))

-- a number of less than 19 digits has room for one more
pub room_for_digit : (v k : ℕ) → v < 10 ^ k → k ≤ 18 → v * 10 + 10 ≤ 10000000000000000000
room_for_digit v k lt le =
    let same : k + (18 - k) ≡ 18 = omega arith in
    let below : 10 ^ k ≤ 10 ^ 18 = subst (λ (n : ℕ). 10 ^ k ≤ 10 ^ n) same (ten_more k (18 - k)) in
    omega (arith, lt, below)

pub one_digit_more : (v w d k : ℕ) → v < 10 ^ k → w + 48 ≡ v * 10 + d → d < 58 → w < 10 ^ (k + 1)
one_digit_more v w d k lt e small = omega (arith, lt, e, small, pow_more 10 k)

-- a number of less than 16 digits has room for four more
pub room_for_four : (v k : ℕ) → v < 10 ^ k → k ≤ 15 → v * 10000 + 10000 ≤ 10000000000000000000
room_for_four v k lt le =
    let same : k + (15 - k) ≡ 15 = omega arith in
    let below : 10 ^ k ≤ 10 ^ 15 = subst (λ (n : ℕ). 10 ^ k ≤ 10 ^ n) same (ten_more k (15 - k)) in
    omega (arith, lt, below)

pub four_digits_more : (v f k : ℕ) → v < 10 ^ k → f < 10000 → v * 10000 + f < 10 ^ (k + 4)
four_digits_more v f k lt small =
    let same : k + 4 ≡ k + 1 + 1 + 1 + 1 = omega arith in
    let below : v * 10000 + f < 10 ^ (k + 1 + 1 + 1 + 1) = omega (arith, lt, small, pow_more 10 k, pow_more 10 (k + 1), pow_more 10 (k + 1 + 1), pow_more 10 (k + 1 + 1 + 1)) in
    subst (λ (n : ℕ). v * 10000 + f < 10 ^ n) (sym same) below
