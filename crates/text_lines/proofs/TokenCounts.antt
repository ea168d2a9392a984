-- How many tokens a line has, as the code counts them and as the readers take them.
use Rattle.std.proofs.Common.{◌≡◌, ◌≢◌, ℕ, List, [], ◌∷◌, length, get_or, map, Some, None, Bor, refl, arith}
use Rattle.text_lines.specs.Tokens.{one_of, two_of, three_of, four_of}

abbrev pub bytes_of : List (Bor (List ℕ)) → List (List ℕ)
bytes_of tokens = map (λ w. w.now) tokens

pub is_one : (tokens : List (Bor (List ℕ))) (d : Bor (List ℕ)) → length tokens ≡ 1 → Some (get_or tokens 0 d).now ≡ one_of (bytes_of tokens)
unfolding one_of
is_one [] d e = absurd (omega arith)
is_one (a ∷ []) d e = refl
is_one (a ∷ b ∷ more) d e = absurd (omega arith)

pub not_one : (tokens : List (Bor (List ℕ))) → length tokens ≢ 1 → None ≡ one_of (bytes_of tokens)
unfolding one_of
not_one [] ne = refl
not_one (a ∷ []) ne = absurd (ne refl)
not_one (a ∷ b ∷ more) ne = refl

pub are_two : (tokens : List (Bor (List ℕ))) (d : Bor (List ℕ)) → length tokens ≡ 2 → Some ((get_or tokens 0 d).now, (get_or tokens 1 d).now) ≡ two_of (bytes_of tokens)
unfolding two_of
are_two [] d e = absurd (omega arith)
are_two (a ∷ []) d e = absurd (omega arith)
are_two (a ∷ b ∷ []) d e = refl
are_two (a ∷ b ∷ c ∷ more) d e = absurd (omega arith)

pub not_two : (tokens : List (Bor (List ℕ))) → length tokens ≢ 2 → None ≡ two_of (bytes_of tokens)
unfolding two_of
not_two [] ne = refl
not_two (a ∷ []) ne = refl
not_two (a ∷ b ∷ []) ne = absurd (ne refl)
not_two (a ∷ b ∷ c ∷ more) ne = refl

pub are_three : (tokens : List (Bor (List ℕ))) (d : Bor (List ℕ)) → length tokens ≡ 3 → Some ((get_or tokens 0 d).now, (get_or tokens 1 d).now, (get_or tokens 2 d).now) ≡ three_of (bytes_of tokens)
unfolding three_of
are_three [] d e = absurd (omega arith)
are_three (a ∷ []) d e = absurd (omega arith)
are_three (a ∷ b ∷ []) d e = absurd (omega arith)
are_three (a ∷ b ∷ c ∷ []) d e = refl
are_three (a ∷ b ∷ c ∷ x ∷ more) d e = absurd (omega arith)

pub not_three : (tokens : List (Bor (List ℕ))) → length tokens ≢ 3 → None ≡ three_of (bytes_of tokens)
unfolding three_of
not_three [] ne = refl
not_three (a ∷ []) ne = refl
not_three (a ∷ b ∷ []) ne = refl
not_three (a ∷ b ∷ c ∷ []) ne = absurd (ne refl)
not_three (a ∷ b ∷ c ∷ x ∷ more) ne = refl

pub are_four : (tokens : List (Bor (List ℕ))) (d : Bor (List ℕ)) → length tokens ≡ 4
    → Some ((get_or tokens 0 d).now, (get_or tokens 1 d).now, (get_or tokens 2 d).now, (get_or tokens 3 d).now) ≡ four_of (bytes_of tokens)
unfolding four_of
are_four [] d e = absurd (omega arith)
are_four (a ∷ []) d e = absurd (omega arith)
are_four (a ∷ b ∷ []) d e = absurd (omega arith)
are_four (a ∷ b ∷ c ∷ []) d e = absurd (omega arith)
are_four (a ∷ b ∷ c ∷ x ∷ []) d e = refl
are_four (a ∷ b ∷ c ∷ x ∷ y ∷ more) d e = absurd (omega arith)

pub not_four : (tokens : List (Bor (List ℕ))) → length tokens ≢ 4 → None ≡ four_of (bytes_of tokens)
unfolding four_of
not_four [] ne = refl
not_four (a ∷ []) ne = refl
not_four (a ∷ b ∷ []) ne = refl
not_four (a ∷ b ∷ c ∷ []) ne = refl
not_four (a ∷ b ∷ c ∷ x ∷ []) ne = absurd (ne refl)
not_four (a ∷ b ∷ c ∷ x ∷ y ∷ more) ne = refl
