-- Reads of a list after one of its elements was written or one was added.
use Rattle.std.proofs.Common.{◌≡◌, ◌≢◌, ℕ, zero, suc, ◌+◌, ◌<◌, ◌≤◌, Bool, cond, List, [], ◌∷◌, ◌++◌, length, set, slice_get, count_by, Some, None, refl, sym, ap, ◌∙◌, arith}
use Rattle.std.proofs.lemmas.List.{set-get_or}
use Rattle.std.proofs.lemmas.List.Sums.{sum_by-set, sum_by_push, get_or-le-sum_by}
use Rattle.std.proofs.lemmas.Option.{slice_get_within, get_or_from_slice_get}

module _ {X : Type 0} where
  pub slice_get-set_same : (xs : List X) (i : ℕ) (y : X) → i < length xs → slice_get (set xs i y) i ≡ Some y
  slice_get-set_same [] i y within = absurd (omega arith)
  slice_get-set_same (x ∷ xs) zero y within = refl
  slice_get-set_same (x ∷ xs) (suc i) y within = slice_get-set_same xs i y (omega arith)

  pub slice_get-set_other : (xs : List X) (i j : ℕ) (y : X) → j ≢ i → slice_get (set xs i y) j ≡ slice_get xs j
  slice_get-set_other [] i j y differs = refl
  slice_get-set_other (x ∷ xs) zero zero y differs = absurd (differs refl)
  slice_get-set_other (x ∷ xs) zero (suc j) y differs = refl
  slice_get-set_other (x ∷ xs) (suc i) zero y differs = refl
  slice_get-set_other (x ∷ xs) (suc i) (suc j) y differs = slice_get-set_other xs i j y (λ same. differs (ap suc same))

  pub slice_get-push_same : (xs : List X) (i : ℕ) (y : X) → i ≡ length xs → slice_get (xs ++ y ∷ []) i ≡ Some y
  slice_get-push_same [] zero y same = refl
  slice_get-push_same [] (suc i) y same = absurd (omega arith)
  slice_get-push_same (x ∷ xs) zero y same = absurd (omega arith)
  slice_get-push_same (x ∷ xs) (suc i) y same = slice_get-push_same xs i y (omega arith)

  pub slice_get-push_other : (xs : List X) (i : ℕ) (y : X) → i ≢ length xs → slice_get (xs ++ y ∷ []) i ≡ slice_get xs i
  slice_get-push_other [] zero y differs = absurd (differs refl)
  slice_get-push_other [] (suc i) y differs = refl
  slice_get-push_other (x ∷ xs) zero y differs = refl
  slice_get-push_other (x ∷ xs) (suc i) y differs = slice_get-push_other xs i y (λ same. differs (omega arith))

  -- a write of what is there
  pub set-slice_get : (xs : List X) (i : ℕ) (x : X) → slice_get xs i ≡ Some x → set xs i x ≡ xs
  set-slice_get xs i x found = ap (set xs i) (sym (get_or_from_slice_get xs i x x found)) ∙ set-get_or xs i x

  module _ (p : X → Bool) where
    pub count_by-set : (xs : List X) (i : ℕ) (x y : X) → slice_get xs i ≡ Some x → count_by p (set xs i y) + cond (p x) 1 0 ≡ count_by p xs + cond (p y) 1 0
    count_by-set xs i x y found =
        let counted = sum_by-set (λ z. cond (p z) 1 0) xs i y x (slice_get_within xs i x found) in
        rw (get_or_from_slice_get xs i x x found) at counted

    pub count_by-push : (xs : List X) (y : X) → count_by p (xs ++ y ∷ []) ≡ count_by p xs + cond (p y) 1 0
    count_by-push xs y = sum_by_push (λ z. cond (p z) 1 0) xs y

    -- one that passes is counted
    pub count_by-found : (xs : List X) (i : ℕ) (x : X) → slice_get xs i ≡ Some x → cond (p x) 1 0 ≤ count_by p xs
    count_by-found xs i x found =
        let counted = get_or-le-sum_by (λ z. cond (p z) 1 0) xs i x (slice_get_within xs i x found) in
        rw (get_or_from_slice_get xs i x x found) at counted

  -- a write past the end
  pub set-none : (xs : List X) (i : ℕ) (y : X) → slice_get xs i ≡ None → set xs i y ≡ xs
  set-none [] i y none = refl
  set-none (x ∷ xs) zero y none = absurd (cc)
  set-none (x ∷ xs) (suc i) y none = ap (λ zs. x ∷ zs) (set-none xs i y none)
