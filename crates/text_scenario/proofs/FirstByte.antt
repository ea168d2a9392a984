-- The first place of a byte is where its search says.
use Rattle.std.proofs.Common.{◌≡◌, ℕ, ◌<◌, refl, Bool, true, false, List, length, Option, Some, None, arith, ap, sym, ◌∙◌}
use Rattle.std.proofs.lemmas.Bool.{le-ltb, lt-ltb}
use Rattle.std.proofs.lemmas.List.Sums.{position_or_len_is}
use Rattle.std.specs.Prelude.{◌==◌, cond, ltb, position}
use Rattle.std.specs.List.{position_or_len}
use Rattle.memchr.specs.Find.{IsFirstByte, is_byte}

module _ (a : ℕ) (xs : List ℕ) where
  abbrev test : ℕ → Bool
  test b = b == a

  fails : (b : Bool) → (b ≡ true → ⊥) → b ≡ false
  fails true never = absurd (never refl)
  fails false never = refl

  at_place : (i : ℕ) → position_or_len test xs ≡ i → position test xs ≡ cond (ltb i (length xs)) (Some i) None
  at_place i is = ap (λ k. cond (ltb k (length xs)) (Some k) None) is

  pub first_byte : (r : Option ℕ) → IsFirstByte (is_byte a) xs r → r ≡ position test xs
  first_byte None nowhere =
      let none : position_or_len test xs ≡ length xs = position_or_len_is test xs (length xs) 0 (omega arith) (λ k below. fails _ (nowhere k (omega arith) below)) (λ inside. absurd (omega arith)) in
      sym (at_place (length xs) none ∙ ap (λ b. cond b (Some (length xs)) None) (le-ltb (length xs) (length xs) (omega arith)))
  first_byte (Some k) found =
      let within : k < length xs = found.0.high in
      let here : position_or_len test xs ≡ k = position_or_len_is test xs k 0 (omega arith) (λ j below. fails _ (found.0.before j (omega arith) below)) (λ inside. found.1) in
      sym (at_place k here ∙ ap (λ b. cond b (Some k) None) (lt-ltb k (length xs) within))
