-- The way down a strand.
use Rattle.std.proofs.Common.{arith, refl, sym}
use Rattle.std.specs.Prelude.{None, Some, suc, zero, ℕ, ◌+◌, ◌-◌, ◌<◌, ◌≡◌}
use Rattle.machine_data.specs.Core.{Core}
use Rattle.machine_data.specs.Read.{foot_from, under_of}

-- where nobody is under the thread, it is the foot
pub foot_at : (k n : ℕ) (s : Core) → None ≡ under_of n s → foot_from k s n ≡ n
foot_at zero n s at = refl
foot_at (suc k) n s at = rw (sym at) refl

-- a step down
pub foot_less : (m step n below : ℕ) (s : Core) → step < m → Some below ≡ under_of n s → foot_from (m - step) s n ≡ foot_from (m - (step + 1)) s below
foot_less m step n below s more at =
    let e : m - step ≡ suc (m - (step + 1)) = omega arith in
    rw e (rw (sym at) refl)
