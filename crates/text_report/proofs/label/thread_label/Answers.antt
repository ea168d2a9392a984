use Rattle.std.proofs.Common.{refl}
use Rattle.std.specs.Prelude.{codes}
use Rattle.text_report.proofs.Lines.{does}
use Rattle.text_report.proofs.label.thread_label.Goals as goal

pub returns-in-YieldThenResume-clause-text : goal.returns-in-YieldThenResume-clause-text
returns-in-YieldThenResume-clause-text c = rw c.in-YieldThenResume.is (does _ _ _ (codes " yield_then_resume") _ _ refl c.thread_number-end.ensures.text c.literal-in-YieldThenResume.ensures.text)

pub returns-in-YieldThenPromote-clause-text : goal.returns-in-YieldThenPromote-clause-text
returns-in-YieldThenPromote-clause-text c = rw c.in-YieldThenPromote.is (does _ _ _ (codes " yield_then_promote") _ _ refl c.thread_number-end.ensures.text c.literal-in-YieldThenPromote.ensures.text)
