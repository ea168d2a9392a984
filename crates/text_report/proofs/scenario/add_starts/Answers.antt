use Rattle.std.proofs.Common.{◌≡◌, ℕ, suc, ◌+◌, List, [], ◌∷◌, ◌++◌, refl, sym, ap, ◌∙◌, string_bytes, arith}
use Rattle.std.specs.List.{flat_map}
use Rattle.std.proofs.lemmas.List.{flat_map_more}
use Rattle.machine_rules.specs.Texts.{line_text}
use Rattle.text_report.specs.Generated.{each_to, start_line}
use Rattle.text_report.proofs.scenario.add_starts.Goals as goal

one_more : (n : ℕ) → each_to start_line (n + 1) ≡ each_to start_line n ++ start_line (n + 1) ∷ []
one_more n = let same : n + 1 ≡ suc n = omega arith in rw same refl

pub loop-before-preserved : goal.loop-before-preserved
loop-before-preserved c =
    let n : ℕ = c.loop-before.before in
    c.in_ok-write.ensures.bytes
    ∙ ap (λ (bs : List ℕ). bs ++ line_text (start_line (n + 1))) c.loop-before.invariant
    ∙ flat_map_more line_text (string_bytes c.args.text.now) (each_to start_line n) (start_line (n + 1))
    ∙ ap (λ (ls : List (List ℕ)). string_bytes c.args.text.now ++ flat_map line_text ls) (sym (one_more n))
