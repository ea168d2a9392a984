use Rattle.std.proofs.Common.{◌≡◌, ◌≤◌, ℕ, List, ◌++◌, length, string_bytes, refl, subst, sym, ap, ◌∙◌}
use Rattle.std.specs.List.{flat_map}
use Rattle.std.proofs.lemmas.Grind.{flat_map-append}
use Rattle.text_scenario.specs.declared.tree.ScenarioText.{ScenarioText}
use Rattle.text_scenario.specs.Grammar.{IsTextOf}
use Rattle.machine_rules.specs.Texts.{line_text}
use Rattle.text_report.specs.Generated.{each_to, finish_line, front_lines, gen, last_lines, start_line}
use Rattle.text_report.proofs.Sizes.{generated_is_short}
use Rattle.text_report.proofs.Spelled.{generated_reads}
use Rattle.text_report.proofs.scenario.make_scenario.Goals as goal

-- the four parts of the text, written one after the other
parts_are : (n : ℕ) (front starts finishes ends : List ℕ) → front ≡ flat_map line_text front_lines → starts ≡ flat_map line_text (each_to start_line n)
    → finishes ≡ flat_map line_text (each_to finish_line n) → ends ≡ flat_map line_text last_lines → front ++ starts ++ finishes ++ ends ≡ gen n
unfolding gen
parts_are n front starts finishes ends a b c d = rw (a, b, c, d) (
    ap (λ (bs : List ℕ). bs ++ flat_map line_text (each_to finish_line n) ++ flat_map line_text last_lines) (sym (flat_map-append line_text front_lines (each_to start_line n)))
    ∙ ap (λ (bs : List ℕ). bs ++ flat_map line_text last_lines) (sym (flat_map-append line_text (front_lines ++ each_to start_line n) (each_to finish_line n)))
    ∙ sym (flat_map-append line_text (front_lines ++ each_to start_line n ++ each_to finish_line n) last_lines))

text_is : (n : ℕ) (bytes items one two three : List ℕ) → one ≡ flat_map line_text front_lines → two ≡ one ++ flat_map line_text (each_to start_line n)
    → three ≡ two ++ flat_map line_text (each_to finish_line n) → bytes ≡ three ++ flat_map line_text last_lines → items ≡ bytes → items ≡ gen n
text_is n bytes items one two three a b c d e =
    e ∙ d ∙ rw (c, b) (parts_are n one (flat_map line_text (each_to start_line n)) (flat_map line_text (each_to finish_line n)) (flat_map line_text last_lines) a refl refl refl)

module _ (c : goal.After-into_bytes) where
  is_generated : c.into_bytes.result.items ≡ gen c.args.number
  is_generated =
      text_is c.args.number (string_bytes c.push_str.new.self) c.into_bytes.result.items (string_bytes c.in_ok-text.text) (string_bytes c.add_starts.new.text) (string_bytes c.add_finishes.new.text)
      c.in_ok-text.ensures.ok c.in_ok-add_starts.ensures c.in_ok-add_finishes.ensures c.in_ok-push_str.ensures.bytes (ap (λ v. v.items) c.into_bytes.ensures.value)

pub returns-clause-text : goal.returns-clause-text
returns-clause-text c = is_generated c

pub returns-clause-short : goal.returns-clause-short
returns-clause-short c = subst (λ (bs : List ℕ). length bs ≤ 65536) (sym (is_generated c)) (generated_is_short c.args.number c.requires.few)

pub returns-clause-reads : goal.returns-clause-reads
returns-clause-reads c =
    subst (λ (bs : List ℕ). (tree : ScenarioText) × IsTextOf tree bs) (sym (is_generated c)) (generated_reads c.args.number c.requires.few)
