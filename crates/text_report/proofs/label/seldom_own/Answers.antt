use Rattle.std.proofs.Common.{◌≡◌, ◌++◌, ◌∙◌, List, ℕ, ap, append_assoc, decimal, sym}
use Rattle.std.specs.Prelude.{codes}
use Rattle.machine_data.specs.declared.statuses.Mark.{Mark}
use Rattle.machine_rules.specs.Texts.{taken_text}
use Rattle.text_report.proofs.Lines.{cancelled_given, nothing_given, then}
use Rattle.text_report.proofs.label.seldom_own.Goals as goal

-- the event behind the taken thread
event : (old mid new shown given : List ℕ) (m : Mark) (n : ℕ) → given ≡ shown → mid ≡ old ++ taken_text m (codes " thread ") n → new ≡ mid ++ (codes " event" ++ shown) → new ≡ old ++ (taken_text m (codes " thread ") n ++ codes " event" ++ given)
event old mid new shown given m n g h k = then old mid new (taken_text m (codes " thread ") n) (codes " event") given h (k ∙ ap (λ (x : List ℕ). mid ++ (codes " event" ++ x)) (sym g))

-- and the thread that was woken
woken : (old mid new a : List ℕ) (w : ℕ) → mid ≡ old ++ a → new ≡ mid ++ codes " wakes " ++ decimal w → new ≡ old ++ (a ++ codes " wakes " ++ decimal w)
woken old mid new a w h k = rw (k, h) (simp append_assoc)

pub returns-in-Nothing-clause-text : goal.returns-in-Nothing-clause-text
returns-in-Nothing-clause-text c = rw c.in-Nothing.is (event _ _ _ (codes " 0 0 0") _ c.args.mark _ nothing_given c.takes_thread-end.ensures.text c.literal.ensures.text)

pub returns-in-Cancelled-clause-text : goal.returns-in-Cancelled-clause-text
returns-in-Cancelled-clause-text c = rw c.in-Cancelled.is (event _ _ _ (codes " 6 0 0") _ c.args.mark _ cancelled_given c.takes_thread-end.ensures.text c.literal-in-Cancelled.ensures.text)

pub returns-in-NothingWakes-clause-text : goal.returns-in-NothingWakes-clause-text
returns-in-NothingWakes-clause-text c =
    let shown = event _ _ _ (codes " 0 0 0") _ c.args.mark _ nothing_given c.takes_thread-end.ensures.text c.literal-end.ensures.text in
    rw c.in-NothingWakes.is (woken _ _ _ _ _ shown c.wakes.ensures.text)

pub returns-in-CancelledWakes-clause-text : goal.returns-in-CancelledWakes-clause-text
returns-in-CancelledWakes-clause-text c =
    let shown = event _ _ _ (codes " 6 0 0") _ c.args.mark _ cancelled_given c.takes_thread-end.ensures.text c.literal-end-in-CancelledWakes.ensures.text in
    rw c.in-CancelledWakes.is (woken _ _ _ _ _ shown c.wakes-in-CancelledWakes.ensures.text)
