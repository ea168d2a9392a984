-- The maps of what is kept by places.
use Rattle.core_records.proofs.Core.{[], ap, arith, by_place, by_place_from, empty, get, get-empty, get-insert_other, get-insert_same, insert, insert-insert_other, insert-insert_same, is_some, length, List, map, nat_lt, None, set, size, size-empty, size-insert_new, slice_get, slice_get_past, Some, suc, sym, zero, ℕ, ◌++◌, ◌+◌, ◌<◌, ◌∙◌, ◌∷◌, ◌≡◌}

none_before : (k : ℕ) → 0 + k ≡ k
none_before k = omega arith

module _ {X : Type 0} where
  -- nothing is before the first place
  pub get-by_place_before : (i q : ℕ) (xs : List X) → q < i → get (by_place_from i xs) q ≡ None
  unfolding by_place_from
  get-by_place_before i q [] before = get-empty q
  get-by_place_before i q (x ∷ xs) before = get-insert_other (by_place_from (suc i) xs) i x q (λ same. omega arith) ∙ get-by_place_before (suc i) q xs (omega arith)

  pub get-by_place_from : (i k : ℕ) (xs : List X) → get (by_place_from i xs) (i + k) ≡ slice_get xs k
  unfolding by_place_from
  get-by_place_from i k [] = get-empty (i + k)
  get-by_place_from i zero (x ∷ xs) =
      let here : i + 0 ≡ i = omega arith in
      ap (get (insert (by_place_from (suc i) xs) i x)) here ∙ get-insert_same (by_place_from (suc i) xs) i x
  get-by_place_from i (suc k) (x ∷ xs) =
      let there : i + suc k ≡ suc i + k = omega arith in
      get-insert_other (by_place_from (suc i) xs) i x (i + suc k) (λ same. omega arith)
      ∙ ap (get (by_place_from (suc i) xs)) there ∙ get-by_place_from (suc i) k xs

  pub size-by_place_from : (i : ℕ) (xs : List X) → size (by_place_from i xs) ≡ length xs
  unfolding by_place_from
  size-by_place_from i [] = size-empty X
  size-by_place_from i (x ∷ xs) =
      let one = size-insert_new (by_place_from (suc i) xs) i x (get-by_place_before (suc i) i xs (omega arith)) in
      let rest = size-by_place_from (suc i) xs in
      omega arith

  -- one more at the end
  pub by_place_from-push : (i : ℕ) (xs : List X) (x : X) → by_place_from i (xs ++ x ∷ []) ≡ insert (by_place_from i xs) (i + length xs) x
  unfolding by_place_from
  by_place_from-push i [] x = let here : i ≡ i + 0 = omega arith in ap (λ n. insert empty n x) here
  by_place_from-push i (y ∷ xs) x =
      let there : suc i + length xs ≡ i + suc (length xs) = omega arith in
      ap (λ m. insert m i y) (by_place_from-push (suc i) xs x)
      ∙ insert-insert_other (by_place_from (suc i) xs) (suc i + length xs) i x y (λ same. omega arith)
      ∙ ap (λ n. insert (insert (by_place_from (suc i) xs) i y) n x) there

  -- another at a place
  pub by_place_from-set : (i k : ℕ) (xs : List X) (x y : X) → slice_get xs k ≡ Some x → by_place_from i (set xs k y) ≡ insert (by_place_from i xs) (i + k) y
  unfolding by_place_from
  by_place_from-set i k [] x y at = absurd (cc)
  by_place_from-set i zero (z ∷ xs) x y at =
      let here : i ≡ i + 0 = omega arith in
      sym (insert-insert_same (by_place_from (suc i) xs) i z y) ∙ ap (λ n. insert (insert (by_place_from (suc i) xs) i z) n y) here
  by_place_from-set i (suc k) (z ∷ xs) x y at =
      let there : suc i + k ≡ i + suc k = omega arith in
      ap (λ m. insert m i z) (by_place_from-set (suc i) k xs x y at)
      ∙ insert-insert_other (by_place_from (suc i) xs) (suc i + k) i y z (λ same. omega arith)
      ∙ ap (λ n. insert (insert (by_place_from (suc i) xs) i z) n y) there

  pub get-by_place : (k : ℕ) (xs : List X) → get (by_place xs) k ≡ slice_get xs k
  get-by_place k xs = ap (get (by_place xs)) (sym (none_before k)) ∙ get-by_place_from 0 k xs

  pub size-by_place : (xs : List X) → size (by_place xs) ≡ length xs
  size-by_place xs = size-by_place_from 0 xs

  pub by_place-push : (xs : List X) (x : X) → by_place (xs ++ x ∷ []) ≡ insert (by_place xs) (length xs) x
  by_place-push xs x = by_place_from-push 0 xs x ∙ ap (λ n. insert (by_place xs) n x) (none_before (length xs))

  pub by_place-set : (k : ℕ) (xs : List X) (x y : X) → slice_get xs k ≡ Some x → by_place (set xs k y) ≡ insert (by_place xs) k y
  by_place-set k xs x y at = by_place_from-set 0 k xs x y at ∙ ap (λ n. insert (by_place xs) n y) (none_before k)

  -- nothing is past the last place
  pub get-by_place_past : (n : ℕ) (xs : List X) → length xs ≡ n → get (by_place xs) n ≡ None
  get-by_place_past n xs long = get-by_place n xs ∙ slice_get_past xs n (omega arith)

module _ {X Y : Type 0} (f : X → Y) where
  -- a place is there where it is below the length
  some_within : (k : ℕ) (xs : List X) → nat_lt k (length xs) ≡ is_some (slice_get (map f xs) k)
  some_within k [] = grind arith
  some_within zero (x ∷ xs) = grind arith
  some_within (suc k) (x ∷ xs) = grind (arith, some_within k xs)
