-- The least of a list of numbers.
use Rattle.std.specs.Prelude.{◌≡◌, ℕ, if◌then◌else◌, nat_lt, List, [], ◌∷◌, map, Option, None, Some}

abbrev pub lesser : Option ℕ → ℕ → ℕ
lesser None n = n
lesser (Some m) n = if nat_lt m n then m else n

-- the least of these and of one that was found before
abbrev pub least_from : Option ℕ → List ℕ → Option ℕ
least_from least [] = least
least_from least (n ∷ ns) = least_from (Some (lesser least n)) ns

abbrev pub least_of : List ℕ → Option ℕ
least_of ns = least_from None ns

-- the numbers of what is left, with what was found before, have the least of all
abbrev pub HasLeast : {P : Type 0} → (ℕ → ℕ) → List ℕ → Option ℕ → List (ℕ × P) → Type 0
HasLeast number all least left = least_from least (map (λ e. number e.0) left) ≡ least_of all
