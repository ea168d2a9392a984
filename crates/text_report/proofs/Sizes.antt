-- The generated text is short.
use Rattle.std.proofs.Common.{◌≡◌, ℕ, zero, suc, ◌+◌, ◌*◌, ◌≤◌, List, [], ◌∷◌, ◌++◌, length, ap, ◌∙◌, length-append, append-nil, arith}
use Rattle.std.specs.Prelude.{codes, decimal}
use Rattle.std.specs.List.{flat_map}
use Rattle.std.proofs.lemmas.Fmt.{length-decimal-le}
use Rattle.std.proofs.lemmas.Grind.{flat_map-append}
use Rattle.machine_rules.specs.Texts.{line_text}
use Rattle.text_report.specs.Generated.{each_to, finish_line, front_lines, gen, last_lines, start_line}

-- the lines of f have at most this many bytes, with their line feeds
abbrev AtMost : ℕ → (ℕ → List ℕ) → Type 0
AtMost most f = (k : ℕ) → k ≤ 256 → length (line_text (f k)) ≤ most

number_is_short : (k : ℕ) → k ≤ 256 → length (decimal k) ≤ 3
number_is_short k few = length-decimal-le 3 k (omega arith) (omega arith) (omega arith)

starts_are_short : AtMost 20 start_line
starts_are_short k few =
    let number = number_is_short k few in
    let line : length (line_text (start_line k)) ≡ length (start_line k) + 1 = length-append (start_line k) (10 ∷ []) in
    let parts : length (start_line k) ≡ 15 + length (decimal k) = length-append (codes "start edge.req ") (decimal k) in
    omega (arith, number, line, parts)

finishes_are_short : AtMost 20 finish_line
finishes_are_short k few =
    let number = number_is_short k few in
    let line : length (line_text (finish_line k)) ≡ length (finish_line k) + 1 = length-append (finish_line k) (10 ∷ []) in
    let parts : length (finish_line k) ≡ 7 + length (decimal k ++ codes " r0") = length-append (codes "finish ") (decimal k ++ codes " r0") in
    let ends : length (decimal k ++ codes " r0") ≡ length (decimal k) + 3 = length-append (decimal k) (codes " r0") in
    omega (arith, number, line, parts, ends)

length_lines : (most : ℕ) (f : ℕ → List ℕ) (n : ℕ) → AtMost most f → n ≤ 256 → length (flat_map line_text (each_to f n)) ≤ n * most
length_lines most f zero short few = omega arith
length_lines most f (suc n) short few =
    let before = length_lines most f n short (omega arith) in
    let last = short (suc n) few in
    let one : flat_map line_text (f (suc n) ∷ []) ≡ line_text (f (suc n)) = append-nil (line_text (f (suc n))) in
    let whole : length (flat_map line_text (each_to f (suc n))) ≡ length (flat_map line_text (each_to f n)) + length (line_text (f (suc n))) =
    ap (λ (bs : List ℕ). length bs) (flat_map-append line_text (each_to f n) (f (suc n) ∷ []))
    ∙ length-append (flat_map line_text (each_to f n)) (flat_map line_text (f (suc n) ∷ []))
    ∙ ap (λ (bs : List ℕ). length (flat_map line_text (each_to f n)) + length bs) one in
    let product : suc n * most ≡ n * most + most = omega arith in
    omega (arith, before, last, whole, product)

pub generated_is_short : (n : ℕ) → n ≤ 256 → length (gen n) ≤ 65536
unfolding gen
generated_is_short n few =
    let starts = length_lines 20 start_line n starts_are_short few in
    let finishes = length_lines 20 finish_line n finishes_are_short few in
    let front : length (flat_map line_text front_lines) ≤ 1000 = omega arith in
    let back : length (flat_map line_text last_lines) ≤ 20 = omega arith in
    let one = parts front_lines (each_to start_line n ++ each_to finish_line n ++ last_lines) in
    let two = parts (each_to start_line n ++ each_to finish_line n) last_lines in
    let three = parts (each_to start_line n) (each_to finish_line n) in
    omega (arith, starts, finishes, front, back, one, two, three)
  where
    parts : (xs ys : List (List ℕ)) → length (flat_map line_text (xs ++ ys)) ≡ length (flat_map line_text xs) + length (flat_map line_text ys)
    parts xs ys = ap (λ (bs : List ℕ). length bs) (flat_map-append line_text xs ys) ∙ length-append (flat_map line_text xs) (flat_map line_text ys)
