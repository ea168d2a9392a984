-- The elements of a list by their numbers, from that of the first one on.
use Rattle.std.specs.Prelude.{Bool, List, None, Option, Some, [], false, if◌then◌else◌, slice_get, suc, zero, ℕ, ◌∷◌}
use Rattle.std.specs.Option.{option_map_or}

-- the one of this number, the first one having 1
abbrev pub numbered : {A : Type 0} → List A → ℕ → Option A
numbered xs zero = None
numbered xs (suc i) = slice_get xs i

module _ {A : Type 0} (f : A → Bool) where
  -- the numbers of those of which this is so, the first one having n
  abbrev pub numbers_where : ℕ → List A → List ℕ
  numbers_where n [] = []
  numbers_where n (x ∷ xs) = if f x then n ∷ numbers_where (suc n) xs else numbers_where (suc n) xs

  -- the least of these numbers
  abbrev pub first_where : ℕ → List A → Option ℕ
  first_where n [] = None
  first_where n (x ∷ xs) = if f x then Some n else first_where (suc n) xs

  -- how many they are
  abbrev pub count_where : List A → ℕ
  count_where [] = 0
  count_where (x ∷ xs) = if f x then suc (count_where xs) else count_where xs

  -- the first of these numbers whose element is so
  abbrev pub first_among : (ℕ → Option A) → List ℕ → Option ℕ
  first_among at [] = None
  first_among at (n ∷ ns) = if option_map_or f (at n) false then Some n else first_among at ns
