-- Three digits, and six.
use Rattle.std.specs.Prelude.{ℕ, List, [], ◌∷◌, ◌++◌, ◌+◌, ◌/◌, ◌%◌}

-- the digits of a number below 1,000, of which the first ones may be 0
abbrev pub three_text : ℕ → List ℕ
three_text n = (48 + n / 100) ∷ (48 + n / 10 % 10) ∷ (48 + n % 10) ∷ []

-- those of a number below 1,000,000
abbrev pub six_text : ℕ → List ℕ
six_text n = three_text (n / 1000) ++ three_text (n % 1000)
