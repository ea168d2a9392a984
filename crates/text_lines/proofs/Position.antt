-- The first place at which a test passes, by recursion on the list.
use Rattle.std.proofs.Common.{◌≡◌, ℕ, zero, suc, ◌+◌, ◌<◌, Bool, true, false, ltb, List, [], ◌∷◌, length, get_or, Option, Some, None, refl, sym, ap, ◌∙◌, arith, inl, inr}
use Rattle.std.specs.Prelude.{position}
use Rattle.std.specs.List.{position_or_len}
use Rattle.std.specs.Option.{option_map}
use Rattle.std.proofs.lemmas.Bool.{cases_lt, lt-ltb, le-ltb}

pub position_head : {X : Type 0} (p : X → Bool) (x : X) (xs : List X) → p x ≡ true → position p (x ∷ xs) ≡ Some 0
position_head p x xs h =
    let within : ltb 0 (suc (length xs)) ≡ true = lt-ltb _ _ (omega arith) in
    rw (h, within) refl

pub position_tail : {X : Type 0} (p : X → Bool) (x : X) (xs : List X) → p x ≡ false → position p (x ∷ xs) ≡ option_map (λ k. suc k) (position p xs)
position_tail p x xs h =
    elim (cases_lt (position_or_len p xs) (length xs)) [
      | inl lt ↦
          let within : ltb (1 + position_or_len p xs) (suc (length xs)) ≡ true = lt-ltb _ _ (omega arith) in
          rw (h, within, lt-ltb _ _ lt) (ap (λ (k : ℕ). Some k) (omega arith))
      | inr le ↦
          let within : ltb (1 + position_or_len p xs) (suc (length xs)) ≡ false = le-ltb _ _ (omega arith) in
          rw (h, within, le-ltb _ _ le) refl
    ]

none_before : {X Y : Type 0} (f : X → Y) (o : Option X) → option_map f o ≡ None → o ≡ None
none_before f None e = refl
none_before f (Some x) e = absurd cc

none_cons : {X : Type 0} (p : X → Bool) (x : X) (xs : List X) (b : Bool) → p x ≡ b → position p (x ∷ xs) ≡ None → (b ≡ false) × (position p xs ≡ None)
none_cons p x xs true h e = absurd (cc (position_head p x xs h, e))
none_cons p x xs false h e = (refl, none_before (λ k. suc k) _ (sym (position_tail p x xs h) ∙ e))

pub none_passes : {X : Type 0} (p : X → Bool) (xs : List X) (k : ℕ) (d : X) → position p xs ≡ None → k < length xs → p (get_or xs k d) ≡ false
none_passes p [] k d e h = absurd (omega arith)
none_passes p (x ∷ xs) zero d e h = (none_cons p x xs (p x) refl e).0
none_passes p (x ∷ xs) (suc k) d e h = none_passes p xs k d (none_cons p x xs (p x) refl e).1 (omega arith)
