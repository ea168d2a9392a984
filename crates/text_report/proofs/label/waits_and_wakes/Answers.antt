use Rattle.std.proofs.Common.{◌++◌, ◌∙◌, List, ℕ, ap, decimal, sym, take}
use Rattle.std.specs.Prelude.{codes}
use Rattle.text_report.proofs.Lines.{cancelled_given, nothing_given}
use Rattle.text_report.proofs.label.waits_and_wakes.Goals as goal

pub returns-in-None-clause-text : goal.returns-in-None-clause-text
returns-in-None-clause-text c = rw c.in-None.is (c.number.ensures.text ∙ ap (λ (g : List ℕ). take c.args.at c.args.out.now ++ ((codes " wait" ++ g) ++ codes " wakes " ++ decimal c.args.woken)) (sym nothing_given))

pub returns-in-Cancelled-clause-text : goal.returns-in-Cancelled-clause-text
returns-in-Cancelled-clause-text c = rw c.in-Cancelled.is (c.number-in-Cancelled.ensures.text ∙ ap (λ (g : List ℕ). take c.args.at c.args.out.now ++ ((codes " wait" ++ g) ++ codes " wakes " ++ decimal c.args.woken)) (sym cancelled_given))
