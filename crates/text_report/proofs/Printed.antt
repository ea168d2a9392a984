-- Lines that were printed are read again, and the tokens of a line.
use Rattle.std.proofs.Common.{◌≡◌, ℕ, ◌+◌, ◌^◌, ◌%◌, ◌<◌, ◌≤◌, Bool, true, false, not, eqb, List, [], ◌∷◌, ◌++◌, refl, ap, ◌∙◌, append_assoc, arith}
use Rattle.std.specs.Prelude.{decimal}
use Rattle.std.specs.List.{flat_map, list_all}
use Rattle.std.proofs.lemmas.Bool.{and_parts, ne_eqb}
use Rattle.std.proofs.lemmas.Fmt.{decimal_by_steps}
use Rattle.std.proofs.lemmas.List.Folds.{list_all-append}
use Rattle.text_scenario.specs.Grammar.{lines, tokens}
use Rattle.machine_rules.specs.Texts.{line_text}

-- no byte of it is c
abbrev pub lacks : ℕ → List ℕ → Bool
lacks c bs = list_all (λ b. not (eqb b c)) bs

is_false : (b : Bool) → not b ≡ true → b ≡ false
is_false true e = cc
is_false false e = refl

line_again : (line rest : List ℕ) → lacks 10 line ≡ true → lines (line ++ 10 ∷ rest) ≡ line ∷ lines rest
line_again [] rest none = refl
line_again (b ∷ bs) rest none =
    let both = and_parts (not (eqb b 10)) (lacks 10 bs) none in
    rw (is_false (eqb b 10) both.0, line_again bs rest both.1) refl

pub lines_again : (ls : List (List ℕ)) → list_all (lacks 10) ls ≡ true → lines (flat_map line_text ls) ≡ ls
lines_again [] none = refl
lines_again (l ∷ ls) none =
    let both = and_parts (lacks 10 l) (list_all (lacks 10) ls) none in
    ap (λ (bs : List ℕ). lines bs) (append_assoc l (10 ∷ []) (flat_map line_text ls)) ∙ line_again l (flat_map line_text ls) both.0
    ∙ ap (λ (more : List (List ℕ)). l ∷ more) (lines_again ls both.1)

pub last_token : (token : List ℕ) → lacks 32 token ≡ true → tokens token ≡ token ∷ []
last_token [] none = refl
last_token (b ∷ bs) none =
    let both = and_parts (not (eqb b 32)) (lacks 32 bs) none in
    rw (is_false (eqb b 32) both.0, last_token bs both.1) refl

pub first_token : (token rest : List ℕ) → lacks 32 token ≡ true → tokens (token ++ 32 ∷ rest) ≡ token ∷ tokens rest
first_token [] rest none = refl
first_token (b ∷ bs) rest none =
    let both = and_parts (not (eqb b 32)) (lacks 32 bs) none in
    rw (is_false (eqb b 32) both.0, first_token bs rest both.1) refl

-- a number's digits are neither spaces nor line feeds
pub decimal_lacks : (c n : ℕ) → c < 48 → n < 2 ^ 64 → lacks c (decimal n) ≡ true
decimal_lacks c n low small = decimal_by_steps (λ k ds. lacks c ds ≡ true) one more n small
  where
    digit : (d : ℕ) → lacks c ((48 + d) ∷ []) ≡ true
    digit d = rw (ne_eqb (48 + d) c (λ e. absurd (omega (arith, e)))) refl

    one : (k : ℕ) → k < 10 → lacks c ((48 + k) ∷ []) ≡ true
    one k lt = digit k

    more : (k : ℕ) (ds : List ℕ) → 10 ≤ k → lacks c ds ≡ true → lacks c (ds ++ (48 + k % 10) ∷ []) ≡ true
    more k ds ge before = list_all-append (λ b. not (eqb b c)) ds ((48 + k % 10) ∷ []) ∙ rw (before, digit (k % 10)) refl
