use Rattle.std.proofs.Common.{◌≡◌, ◌++◌, ◌∙◌, List, ℕ, ap, append_assoc, sym}
use Rattle.std.specs.Prelude.{codes}
use Rattle.machine_data.specs.declared.statuses.Mark.{Mark}
use Rattle.machine_rules.specs.Texts.{taken_text}
use Rattle.text_report.proofs.Lines.{nothing_given}
use Rattle.text_report.proofs.label.own_label.Goals as goal

joined : (old new a b c : List ℕ) → new ≡ old ++ (a ++ (b ++ c)) → new ≡ old ++ (a ++ b ++ c)
joined old new a b c h = rw h (simp append_assoc)

-- the taken thread, and its event
given : (old new shown event : List ℕ) (m : Mark) (f n : ℕ) → f ≡ n → event ≡ shown → new ≡ old ++ (taken_text m (codes " thread ") f ++ (codes " event" ++ shown)) → new ≡ old ++ (taken_text m (codes " thread ") n ++ codes " event" ++ event)
given old new shown event m f n e g h =
    joined old new (taken_text m (codes " thread ") n) (codes " event") event
    (h ∙ ap (λ (x : ℕ). old ++ (taken_text m (codes " thread ") x ++ (codes " event" ++ shown))) e ∙ ap (λ (x : List ℕ). old ++ (taken_text m (codes " thread ") n ++ (codes " event" ++ x))) (sym g))

pub returns-in-Nothing-clause-text : goal.returns-in-Nothing-clause-text
returns-in-Nothing-clause-text c = rw c.in-Nothing.is (given _ _ (codes " 0 0 0") _ c.args.mark _ _ c.first-thread.ensures nothing_given c.takes_and.ensures.text)
