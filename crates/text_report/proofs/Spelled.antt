-- The generated text is that of its tree.
use Rattle.std.proofs.Common.{◌≡◌, ℕ, zero, suc, ◌^◌, ◌<◌, ◌≤◌, true, List, [], ◌∷◌, ◌++◌, map, refl, sym, ap, ◌∙◌, append_assoc, not, eqb, arith}
use Rattle.std.specs.Prelude.{codes, decimal}
use Rattle.std.specs.List.{list_all}
use Rattle.std.specs.Fmt.{digits}
use Rattle.std.proofs.lemmas.List.{append-nil, map-append}
use Rattle.machine_data.specs.declared.op.Operand.TheVariants.{Register}
use Rattle.text_lines.specs.LineTokens.{answer_tokens, end_tokens}
use Rattle.std.proofs.lemmas.List.Folds.{list_all-append}
use Rattle.text_scenario.specs.declared.tree.MainOpText.{MainOpText}
use Rattle.text_scenario.specs.declared.tree.ScenarioText.{ScenarioText}
use Rattle.text_scenario.specs.Grammar.{IsTextOf, spelled, tokens}
use Rattle.text_scenario.specs.Spelling.{Lines, lines_of, main_op_tokens}
use Rattle.text_report.specs.Generated.{each_to, finish_line, front_lines, gen, gen_lines, last_lines, start_line}
use Rattle.text_report.proofs.Printed.{decimal_lacks, first_token, lacks, last_token, lines_again}
use Rattle.text_report.proofs.PlacedLemmas.{tree_placed}
use Rattle.text_report.proofs.Tree.{finish_op, hosts, instances, main_ops, start_op, tree}

-- ---- No line has a line feed

start_lacks : (k : ℕ) → k < 2 ^ 64 → lacks 10 (start_line k) ≡ true
start_lacks k small = decimal_lacks 10 k (omega arith) small

finish_lacks : (k : ℕ) → k < 2 ^ 64 → lacks 10 (finish_line k) ≡ true
finish_lacks k small = list_all-append (λ b. not (eqb b 10)) (decimal k) (codes " r0") ∙ rw (decimal_lacks 10 k (omega arith) small) refl

each_lacks : (f : ℕ → List ℕ) (n : ℕ) → n < 2 ^ 64 → ((k : ℕ) → k < 2 ^ 64 → lacks 10 (f k) ≡ true) → list_all (lacks 10) (each_to f n) ≡ true
each_lacks f zero small one = refl
each_lacks f (suc n) small one =
    list_all-append (lacks 10) (each_to f n) (f (suc n) ∷ []) ∙ rw (each_lacks f n (omega arith) one, one (suc n) small) refl

all_lack : (n : ℕ) → n < 2 ^ 64 → list_all (lacks 10) (gen_lines n) ≡ true
all_lack n small =
    list_all-append (lacks 10) front_lines (each_to start_line n ++ each_to finish_line n ++ last_lines)
    ∙ list_all-append (lacks 10) (each_to start_line n ++ each_to finish_line n) last_lines
    ∙ rw (list_all-append (lacks 10) (each_to start_line n) (each_to finish_line n), each_lacks start_line n small start_lacks, each_lacks finish_line n small finish_lacks) refl

-- ---- The tokens of each line

start_tokens_are : (k : ℕ) → k < 2 ^ 64 → tokens (start_line k) ≡ main_op_tokens hosts instances (start_op k)
unfolding digits
start_tokens_are k small = rw (last_token (decimal k) (decimal_lacks 32 k (omega arith) small)) refl

finish_tokens_are : (k : ℕ) → k < 2 ^ 64 → tokens (finish_line k) ≡ main_op_tokens hosts instances (finish_op k)
unfolding digits
finish_tokens_are k small = rw (first_token (decimal k) (codes "r0") (decimal_lacks 32 k (omega arith) small)) refl

each_tokens : (f : ℕ → List ℕ) (g : ℕ → MainOpText) (n : ℕ) → n < 2 ^ 64 → ((k : ℕ) → k < 2 ^ 64 → tokens (f k) ≡ main_op_tokens hosts instances (g k))
    → map tokens (each_to f n) ≡ map (main_op_tokens hosts instances) (each_to g n)
each_tokens f g zero small same = refl
each_tokens f g (suc n) small same =
    map-append tokens (each_to f n) (f (suc n) ∷ [])
    ∙ rw (each_tokens f g n (omega arith) same, same (suc n) small) (sym (map-append (main_op_tokens hosts instances) (each_to g n) (g (suc n) ∷ [])))

-- ---- The whole

module _ (n : ℕ) (small : n < 2 ^ 64) where
  abbrev main_tokens_of : List MainOpText → Lines
  main_tokens_of ops = map (main_op_tokens hosts instances) ops

  main_again : map tokens (each_to start_line n ++ each_to finish_line n ++ last_lines) ≡ main_tokens_of (main_ops n) ++ map tokens last_lines
  main_again =
      map-append tokens (each_to start_line n ++ each_to finish_line n) last_lines
      ∙ ap (λ (front : Lines). front ++ map tokens last_lines) (
      map-append tokens (each_to start_line n) (each_to finish_line n)
      ∙ rw (each_tokens start_line start_op n small start_tokens_are, each_tokens finish_line finish_op n small finish_tokens_are) (
      sym (map-append (main_op_tokens hosts instances) (each_to start_op n) (each_to finish_op n))))

  spelled_again : spelled (gen n) ≡ map tokens front_lines ++ (main_tokens_of (main_ops n) ++ map tokens last_lines)
  unfolding gen
  spelled_again =
      ap (λ (ls : List (List ℕ)). map tokens ls) (lines_again (gen_lines n) (all_lack n small))
      ∙ map-append tokens front_lines (each_to start_line n ++ each_to finish_line n ++ last_lines)
      ∙ ap (λ (more : Lines). map tokens front_lines ++ more) main_again

  last_tokens : (front : Lines) → front ++ map tokens last_lines ≡ front ++ answer_tokens (Register 0) ∷ [] ++ [] ++ end_tokens ∷ []
  unfolding digits
  last_tokens front =
      sym (append_assoc front (answer_tokens (Register 0) ∷ []) (end_tokens ∷ []))
      ∙ ap (λ (more : Lines). more ++ end_tokens ∷ []) (sym (append-nil (front ++ answer_tokens (Register 0) ∷ [])))

  pub text_again : spelled (gen n) ≡ lines_of (tree n)
  unfolding digits
  text_again = spelled_again ∙ ap (λ (more : Lines). map tokens front_lines ++ more) (last_tokens (main_tokens_of (main_ops n)))

-- the generated text is one of the grammar
pub generated_reads : (n : ℕ) → n ≤ 256 → (x : ScenarioText) × IsTextOf x (gen n)
generated_reads n few = (tree n, record { well_formed = tree_placed n few; lines = text_again n (omega arith) })
