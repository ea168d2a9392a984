-- The first line of a text, the first token of a line, and the rest.
use Rattle.std.proofs.Common.{◌≡◌, ◌≢◌, ℕ, zero, suc, ◌+◌, ◌-◌, ◌<◌, eqb, List, [], ◌∷◌, ◌++◌, length, get_or, take, drop, Some, None, Bor, refl, ap, add-one, append_assoc, arith}
use Rattle.std.specs.Prelude.{position}
use Rattle.std.specs.List.{onto_first}
use Rattle.std.proofs.lemmas.Bool.{eq-eqb, eqb-true, ne_eqb, both_ways}
use Rattle.std.proofs.lemmas.List.{take_rest, map-append}
use Rattle.std.proofs.lemmas.List.Quantifiers.{position-Some}
use Rattle.std.proofs.lemmas.List.Splits.{slice_split_none}
use Rattle.text_scenario.specs.Grammar.{lines, tokens}
use Rattle.text_lines.proofs.Position.{none_passes}
use Rattle.text_lines.proofs.TokenCounts.{bytes_of}

-- ---- Lines

lines_at : (text : List ℕ) (i : ℕ) → i < length text → get_or text i 0 ≡ 10 → ((k : ℕ) → k < i → get_or text k 0 ≢ 10) → lines text ≡ take i text ∷ lines (drop (suc i) text)
lines_at [] i lt at before = absurd (omega arith)
lines_at (b ∷ bs) zero lt at before = rw (eq-eqb b 10 at) refl
lines_at (b ∷ bs) (suc i) lt at before =
    rw (ne_eqb b 10 (before 0 (omega arith)), lines_at bs i (omega arith) at (λ k h. before (suc k) (omega arith))) refl

pub first_of_lines : (text : List ℕ) (i : ℕ) → position (λ b. eqb b 10) text ≡ Some i → lines text ≡ take i text ∷ lines (take (length text - (i + 1)) (drop (i + 1) text))
first_of_lines text i e =
    let p = position-Some (λ b. eqb b 10) text i 0 e in
    rw (take_rest, add-one) (lines_at text i p.0 (eqb-true _ _ p.1) (λ k h at. both_ways _ (p.2 k h) (eq-eqb _ _ at)))

no_line_feed : (b : ℕ) (bs : List ℕ) → ((k : ℕ) → k < length (b ∷ bs) → get_or (b ∷ bs) k 0 ≢ 10) → lines (b ∷ bs) ≡ (b ∷ bs) ∷ []
no_line_feed b [] none = rw (ne_eqb b 10 (none 0 (omega arith))) refl
no_line_feed b (c ∷ bs) none =
    rw (ne_eqb b 10 (none 0 (omega arith))) (ap (onto_first b) (no_line_feed c bs (λ k h. none (suc k) (omega arith))))

pub last_of_lines : (text : List ℕ) → 0 < length text → position (λ b. eqb b 10) text ≡ None → lines text ≡ text ∷ []
last_of_lines [] some e = absurd (omega arith)
last_of_lines (b ∷ bs) some e = no_line_feed b bs (λ k h at. both_ways _ (none_passes (λ c. eqb c 10) (b ∷ bs) k 0 e h) (eq-eqb _ _ at))

-- ---- Tokens

tokens_at : (line : List ℕ) (i : ℕ) → i < length line → get_or line i 0 ≡ 32 → ((k : ℕ) → k < i → get_or line k 0 ≢ 32) → tokens line ≡ take i line ∷ tokens (drop (suc i) line)
tokens_at [] i lt at before = absurd (omega arith)
tokens_at (b ∷ bs) zero lt at before = rw (eq-eqb b 32 at) refl
tokens_at (b ∷ bs) (suc i) lt at before =
    rw (ne_eqb b 32 (before 0 (omega arith)), tokens_at bs i (omega arith) at (λ k h. before (suc k) (omega arith))) refl

pub first_of_tokens : (line : List ℕ) (i : ℕ) → position (λ b. eqb b 32) line ≡ Some i → tokens line ≡ take i line ∷ tokens (take (length line - (i + 1)) (drop (i + 1) line))
first_of_tokens line i e =
    let p = position-Some (λ b. eqb b 32) line i 0 e in
    rw (take_rest, add-one) (tokens_at line i p.0 (eqb-true _ _ p.1) (λ k h at. both_ways _ (p.2 k h) (eq-eqb _ _ at)))

pub last_of_tokens : (line : List ℕ) → position (λ b. eqb b 32) line ≡ None → tokens line ≡ line ∷ []
last_of_tokens line e = slice_split_none (λ b. eqb b 32) line (λ k d h. none_passes (λ b. eqb b 32) line k d e h)

-- a list that takes the first token on, and still lacks the others
pub takes_token : (list more : List (Bor (List ℕ))) (w : Bor (List ℕ)) (front rest : List ℕ) (left all : List (List ℕ)) → more ≡ list ++ w ∷ [] → w.now ≡ front → left ≡ front ∷ tokens rest → bytes_of list ++ left ≡ all → bytes_of more ++ tokens rest ≡ all
takes_token list more w front rest left all e at first whole =
    rw (e, map-append (λ (v : Bor (List ℕ)). v.now) list (w ∷ []), at, append_assoc (bytes_of list) (front ∷ []) (tokens rest), ← first) whole

-- a list that takes the last token on lacks none
pub takes_last_token : (list more : List (Bor (List ℕ))) (w : Bor (List ℕ)) (rest : List ℕ) (left all : List (List ℕ)) → more ≡ list ++ w ∷ [] → w.now ≡ rest → left ≡ rest ∷ [] → bytes_of list ++ left ≡ all → bytes_of more ≡ all
takes_last_token list more w rest left all e at last whole =
    rw (e, map-append (λ (v : Bor (List ℕ)). v.now) list (w ∷ []), at, ← last) whole
