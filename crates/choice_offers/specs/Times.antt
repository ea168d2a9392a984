-- When threads were held last, by their numbers.
use Rattle.choice_offers.specs.Held.{RisesIn}
use Rattle.std.specs.Prelude.{List, slice_index, ℕ, ◌<◌, ◌≡◌, ◌≢◌, ◌≤◌}
use Rattle.std.specs.List.Sorted.{IsNonDecreasingBy}
use Rattle.choice_offers.specs.declared.held.HeldOrder.{HeldOrder}
use Rattle.choice_offers.specs.declared.held.NamedThread.{NamedThread}

abbrev pub time_at : HeldOrder → ℕ → ℕ
time_at o n = slice_index o.times.items n

-- no time is later than the latest
abbrev pub AreTimed : HeldOrder → Type 0
AreTimed o = (n : ℕ) → time_at o n ≤ o.latest

-- the thread was held after all others, whose times are as before
pub record IsLast (n : ℕ) (old new : HeldOrder) : Type 0 where
  pub timed : AreTimed new
  pub last : (m : ℕ) → m ≢ n → time_at new m < time_at new n
  pub others : (m : ℕ) → m ≢ n → time_at new m ≡ time_at old m

-- each thread has the time that it had
pub record IsTimedAs (old new : HeldOrder) : Type 0 where
  pub timed : AreTimed new
  pub times : (n : ℕ) → time_at new n ≡ time_at old n

-- the threads stand in the order of their times
abbrev pub Rises : HeldOrder → List NamedThread → Type 0
Rises o list = IsNonDecreasingBy (λ t. time_at o t.number) list

-- who stands before another one in the order has an earlier time
abbrev pub AreTimesOf : List ℕ → HeldOrder → Type 0
AreTimesOf order o = RisesIn (time_at o) order
