-- Numbers are read from words one after the other, as a loop does.
use Rattle.choice_run.specs.Reading.{AreNarrow}
use Rattle.std.proofs.Common.{ap, arith, get_or, refl, subst, sym, ◌∙◌}
use Rattle.std.proofs.lemmas.List.Elements.{All-append, All-cons, All-get_or, All-nil}
use Rattle.std.proofs.lemmas.List.{get_or-map, length-map, map-append, take_all, take_more}
use Rattle.std.specs.Prelude.{List, [], decimal, length, map, take, ℕ, ◌+◌, ◌++◌, ◌<◌, ◌∷◌, ◌≡◌, ◌≤◌}

-- the words up to the place are these numbers
pub record AreTaken (ws : List (List ℕ)) (i : ℕ) (ns : List ℕ) : Type 0 where
  pub words : take i ws ≡ map decimal ns
  pub narrow : AreNarrow ns

pub none_taken : (ws : List (List ℕ)) → AreTaken ws 0 []
none_taken ws = record { words = refl; narrow = All-nil (λ n. n ≤ 18446744073709551615) }

pub takes_all : {X : Type 0} (f : X → List ℕ) (xs : List X) (i : ℕ) (ns : List ℕ) → AreTaken (map f xs) i ns → length xs ≤ i → (map f xs ≡ map decimal ns) × AreNarrow ns
takes_all f xs i ns taken past = (sym (take_all i (map f xs) (let long = length-map xs f in omega (arith, past, long))) ∙ taken.words, taken.narrow)

module _ {X : Type 0} (f : X → List ℕ) (xs : List X) (i : ℕ) (d : X) (ns : List ℕ) where
  pub takes_one : AreTaken (map f xs) i ns → i < length xs → (n : ℕ) → f (get_or xs i d) ≡ decimal n → n ≤ 18446744073709551615 → AreTaken (map f xs) (i + 1) (ns ++ n ∷ [])
  takes_one taken below n is few = record {
    words =
        take_more (map f xs) i (f d) (let long = length-map xs f in omega (arith, below, long))
        ∙ (ap (λ (w : List ℕ). take i (map f xs) ++ w ∷ []) (get_or-map f xs i d (f d) below ∙ is)
        ∙ (ap (λ (ws : List (List ℕ)). ws ++ decimal n ∷ []) taken.words ∙ sym (map-append decimal ns (n ∷ []))));
    narrow = All-append (λ k. k ≤ 18446744073709551615) ns (n ∷ []) taken.narrow (All-cons (λ k. k ≤ 18446744073709551615) n [] few (All-nil (λ k. k ≤ 18446744073709551615)));
  }

  pub takes_none : i < length xs → ((n : ℕ) → n ≤ 18446744073709551615 → f (get_or xs i d) ≡ decimal n → ⊥) → (ms : List ℕ) → AreNarrow ms → map f xs ≡ map decimal ms → ⊥
  takes_none below none ms narrow is =
      let long : length ms ≡ length xs = sym (length-map ms decimal) ∙ (ap (λ (ws : List (List ℕ)). length ws) (sym is) ∙ length-map xs f) in
      let inside : i < length ms = omega (arith, below, long) in
      none (get_or ms i 0) (All-get_or (λ k. k ≤ 18446744073709551615) ms i 0 inside narrow)
      (sym (get_or-map f xs i d (f d) below) ∙ (same_place below inside ∙ get_or-map decimal ms i 0 (f d) inside))
    where
      same_place : i < length xs → i < length ms → get_or (map f xs) i (f d) ≡ get_or (map decimal ms) i (f d)
      same_place a b = ap (λ (ws : List (List ℕ)). get_or ws i (f d)) is
