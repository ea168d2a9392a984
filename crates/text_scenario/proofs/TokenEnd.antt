-- The first space of a line, looked for place by place.
use Rattle.std.proofs.Common.{◌≡◌, ℕ, ◌+◌, ◌<◌, ◌≤◌, List, length, get_or, Some, None, sym, ap, ◌∙◌, arith, inl, inr}
use Rattle.std.proofs.lemmas.Bool.{cases_lt, eqb-true, eq-eqb}
use Rattle.std.proofs.lemmas.List.{get_or_default}
use Rattle.std.specs.Prelude.{◌==◌, position}
use Rattle.text_scenario.proofs.FirstByte.{first_byte}

-- no space is before place i
abbrev pub NoSpace : List ℕ → ℕ → Type 0
NoSpace xs i = (k : ℕ) → k < i → get_or xs k 0 ≡ 32 → ⊥

module _ (xs : List ℕ) (i : ℕ) where
  pub one_further : (j d : ℕ) → j ≡ i + 1 → i < length xs → NoSpace xs i → (get_or xs i d ≡ 32 → ⊥) → NoSpace xs j
  one_further j d next lt before other k below e =
      elim (cases_lt k i) [
        | inl lower ↦ before k lower e
        | inr here ↦
            let same : i ≡ k = omega arith in
            other (sym (get_or_default xs i 0 d lt) ∙ ap (λ (j : ℕ). get_or xs j 0) same ∙ e)
      ]

  pub found : (d : ℕ) → i < length xs → NoSpace xs i → get_or xs i d ≡ 32 → Some i ≡ position (λ b. b == 32) xs
  found d lt before e =
      let here = eq-eqb _ _ (get_or_default xs i 0 d lt ∙ e) in
      first_byte 32 xs (Some i) (record { low = omega arith; high = lt; before = λ k low below passes. before k below (eqb-true _ _ passes) }, here)

  pub nowhere : length xs ≤ i → NoSpace xs i → None ≡ position (λ b. b == 32) xs
  nowhere le before = first_byte 32 xs None (λ k low below passes. before k (omega arith) (eqb-true _ _ passes))
