-- The law of a kept number: a record is added, written or removed, and the number goes up by one if it passes now and down by one if it passed.
use Rattle.std.proofs.Common.{◌≡◌, ◌+◌, ℕ, Bool, Option, Some, None, arith, cond, refl}
use Rattle.table_lists.specs.Counts.{one_if_passes, passing, with_at}
use Rattle.machine_data.proofs.SumLemmas.{sum_by-insert, sum_by-remove, value_in}
use Rattle.machine_data.specs.Maps.{Records, get}

module _ {X : Type 0} (test : X → Bool) where
  one_of : (o : Option X) → value_in (λ x. cond (test x) 1 0) o ≡ one_if_passes test o
  one_of None = refl
  one_of (Some x) = refl

  pub passing-with_at : (m : Records X) (n : ℕ) (o : Option X) → passing test (with_at m n o) + one_if_passes test (get m n) ≡ passing test m + one_if_passes test o
  passing-with_at m n None = let sum = sum_by-remove (λ x. cond (test x) 1 0) m n in let one = one_of (get m n) in omega arith
  passing-with_at m n (Some x) = let sum = sum_by-insert (λ x. cond (test x) 1 0) m n x in let one = one_of (get m n) in omega arith
