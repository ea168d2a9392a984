-- How many tasks each live group has, as a map that is kept in order of number.
use Rattle.std.specs.Prelude.{◌≡◌, ℕ, ◌+◌, ◌-◌, ◌<◌, ◌≤◌, List, IsSome, Option, Some, None, unwrap_or, nat_lt, if◌then◌else◌}
use Rattle.std.specs.List.Sorted.{IsStrictlySortedBy}
use Rattle.std.specs.Ordering.{nat_cmp}
use Rattle.std.specs.FinMap as finite

-- the live groups by number, each with its count
abbrev pub Counts : Type 0
Counts = finite.FinMap nat_cmp ℕ

-- a finished group counts as 0
abbrev pub count_in : Counts → ℕ → ℕ
count_in live number = unwrap_or (finite.get live number) 0

abbrev pub raised_from : Counts → ℕ → Option ℕ → Counts
raised_from live number None = live
raised_from live number (Some count) = finite.insert live number (count + 1)

-- one more task in the group, or nothing if it is finished
abbrev pub raised : Counts → ℕ → Counts
raised live number = raised_from live number (finite.get live number)

abbrev pub lowered_from : Counts → ℕ → Option ℕ → Counts
lowered_from live number None = live
lowered_from live number (Some count) =
    if nat_lt 1 count then finite.insert live number (count - 1) else finite.remove live number

-- one task fewer in the group, which is finished where that leaves none; nothing if it was finished
abbrev pub lowered : Counts → ℕ → Counts
lowered live number = lowered_from live number (finite.get live number)

unfoldable pub live_in : List (ℕ × ℕ) → Counts
live_in entries = finite.from_entries entries

-- the numbers ascend, and each live group has a task
pub record IsSound (entries : List (ℕ × ℕ)) (numbers : List ℕ) : Type 0 where
  pub ordered : IsStrictlySortedBy nat_cmp numbers
  pub positive : (number count : ℕ) → finite.get (live_in entries) number ≡ Some count → 0 < count

-- all groups from the first to the last of these are live
abbrev pub AreLive : Counts → (low high : ℕ) → Type 0
AreLive live low high = (n : ℕ) → low ≤ n → n ≤ high → IsSome (finite.get live n)
