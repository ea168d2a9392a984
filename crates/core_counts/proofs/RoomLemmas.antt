-- Whether so much more has room.
use Rattle.core_records.proofs.Core.{arith, nat_le, ℕ, ◌+◌, ◌-◌, ◌<◌, ◌≡◌, ◌≤◌}

pub has_room : (used taken more capacity : ℕ) → used ≡ taken → more ≤ capacity → nat_le used (capacity - more) ≡ nat_le (taken + more) capacity
has_room used taken more capacity same within = grind arith

pub no_room : (taken more capacity : ℕ) → capacity < more → nat_le more capacity ≡ nat_le (taken + more) capacity
no_room taken more capacity beyond = grind arith

pub one_less : (n m : ℕ) → 1 ≤ n → m ≡ 1 → (n - 1) + m ≡ n
one_less n m some one = omega arith

pub same_left : (n m : ℕ) → m ≡ 0 → n + m ≡ n
same_left n m none = omega arith
