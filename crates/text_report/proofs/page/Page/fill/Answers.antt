use Rattle.std.proofs.Common.{◌≡◌, ◌<◌, ◌≤◌, ◌++◌, ◌∷◌, ◌∙◌, List, ℕ, ap, append_assoc, arith, inr, length, sym}
use Rattle.machine_data.specs.declared.label.Label.{Label}
use Rattle.text_report.specs.Lines.{line, lines_of}
use Rattle.run_trace.specs.Labels.{label_of}
use Rattle.text_report.proofs.page.Page.fill.Goals as goal

one_more : (rest left : List Label) (l : Label) (out more all : List ℕ) → rest ≡ l ∷ left → more ≡ out ++ line l → out ++ lines_of rest ≡ all → more ++ lines_of left ≡ all
one_more rest left l out more all e f h = ap (λ (bs : List ℕ). bs ++ lines_of left) f ∙ append_assoc out (line l) (lines_of left) ∙ ap (λ (ls : List Label). out ++ lines_of ls) (sym e) ∙ h

one_fewer : (rest left all : List Label) (l : Label) → rest ≡ l ∷ left → length rest ≤ length all → length left < length all
one_fewer rest left all l e le = omega (arith, ap (λ (ls : List Label). length ls) e)

pub lines-preserved : goal.lines-preserved
lines-preserved c =
    let l = label_of c.in-Some.head.now c.in-Some.numbers.now in
    let fewer = one_fewer c.lines.left c.take.new.self c.args.labels.now l c.in-Some.ensures c.lines.invariant.left in
    record {
      room = c.label_line-at.ensures.room ∙ c.lines.invariant.room;
      used = omega (arith, c.label_line-at.ensures.end, c.lines-test.true);
      lines = one_more c.lines.left c.take.new.self l _ _ _ c.in-Some.ensures c.label_line-at.ensures.text c.lines.invariant.lines;
      left = omega (arith, fewer);
      begun = inr fewer;
    }
