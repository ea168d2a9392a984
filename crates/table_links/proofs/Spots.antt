-- What contracts see at one number.
use Rattle.std.proofs.Common.{◌≡◌, ℕ, zero, suc, ◌+◌, List, [], ◌∷◌, length, refl, ap, ◌∙◌, arith}
use Rattle.std.specs.Prelude.{slice_index_or}
use Rattle.std.proofs.lemmas.List.{ext_get_or}
use Rattle.table_links.specs.declared.links.Role.{Role}
use Rattle.table_links.specs.Links.{Spot, Unmade, spot_at}
use Rattle.table_links.specs.Rings.{role_at, shown, spots_from, spot_of}

module _ {P : Type 0} where
  spot_from : (nx : List ℕ) (all : List (Role P)) (n i : ℕ) (rs : List (Role P)) → slice_index_or (spots_from nx all n rs) i Unmade ≡ spot_of nx all (n + i) (role_at rs i)
  spot_from nx all n i [] = refl
  spot_from nx all n zero (r ∷ rs) = ap (λ k. spot_of nx all k r) (omega arith)
  spot_from nx all n (suc i) (r ∷ rs) = spot_from nx all (suc n) i rs ∙ ap (λ k. spot_of nx all k (role_at rs i)) (omega arith)

  pub spot_at-shown : (nx : List ℕ) (rs : List (Role P)) (i : ℕ) → spot_at (shown nx rs) i ≡ spot_of nx rs i (role_at rs i)
  unfolding shown
  spot_at-shown nx rs i = spot_from nx rs 0 i rs ∙ ap (λ k. spot_of nx rs k (role_at rs i)) (omega arith)

  length-from : (nx : List ℕ) (all : List (Role P)) (n : ℕ) (rs : List (Role P)) → length (spots_from nx all n rs) ≡ length rs
  length-from nx all n [] = refl
  length-from nx all n (r ∷ rs) = ap suc (length-from nx all (suc n) rs)

  pub length-shown : (nx : List ℕ) (rs : List (Role P)) → length (shown nx rs) ≡ length rs
  unfolding shown
  length-shown nx rs = length-from nx rs 0 rs

  pub shown-ext : (nx : List ℕ) (rs : List (Role P)) (links : List (Spot P)) → length rs ≡ length links → ((i : ℕ) → spot_of nx rs i (role_at rs i) ≡ spot_at links i) → shown nx rs ≡ links
  shown-ext nx rs links long same =
      ext_get_or Unmade (shown nx rs) links (length-shown nx rs ∙ long) (λ i within. spot_at-shown nx rs i ∙ same i)
