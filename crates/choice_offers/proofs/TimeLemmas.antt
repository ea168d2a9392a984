-- A list that grows by 0 has the same number at each place.
use Rattle.std.proofs.Common.{List, [], get_or, refl, ◌++◌, ◌∷◌, ◌≡◌, ℕ, suc, zero}

pub grown_at : (xs : List ℕ) (r : ℕ) → get_or (xs ++ 0 ∷ []) r 0 ≡ get_or xs r 0
grown_at [] zero = refl
grown_at [] (suc r) = refl
grown_at (x ∷ xs) zero = refl
grown_at (x ∷ xs) (suc r) = grown_at xs r
