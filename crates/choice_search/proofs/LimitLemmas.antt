-- What a run of fewer steps has come to it has come to, unless it was out of steps.
use Rattle.laws_choices.specs.ChoiceAnswers.{ComesTo, HasCome, IsOpenAt, Reports, Short, Wrong}
use Rattle.laws_choices.specs.Offer.{Chosen}
use Rattle.machine_data.specs.Core.{State}
use Rattle.machine_data.specs.declared.label.CallLabel.TheVariants as call_label
use Rattle.machine_data.specs.declared.label.CallLabel.{CallLabel}
use Rattle.machine_data.specs.declared.label.Label.TheVariants as label
use Rattle.machine_data.specs.declared.label.Label.{Label}
use Rattle.machine_data.specs.declared.label.LoopLabel.TheVariants as loop_label
use Rattle.machine_data.specs.declared.label.LoopLabel.{LoopLabel}
use Rattle.machine_data.specs.declared.label.MainLabel.TheVariants as main_label
use Rattle.machine_data.specs.declared.label.MainLabel.{MainLabel}
use Rattle.machine_data.specs.declared.outcome.Outcome.TheVariants as outcome
use Rattle.machine_data.specs.declared.outcome.Outcome.{Outcome}
use Rattle.machine_rules.specs.Outcome.{IsOutcome, call_outcome, is_at_rest, last_outcome, loop_outcome, main_outcome, open_outcome, or_open, outcome_of, outcome_of_label}
use Rattle.machine_rules.specs.Stalled.{Setting}
use Rattle.std.proofs.Common.{ap, arith, refl, subst, sym, ◌∙◌}
use Rattle.std.proofs.lemmas.Bool.Decides.{nat_tests}
use Rattle.std.proofs.lemmas.Bool.{eqb-true}
use Rattle.std.specs.Prelude.{Bool, List, None, Option, Some, [], false, length, true, ℕ, ◌<◌, ◌==◌, ◌∷◌, ◌≡◌, ◌≢◌, ◌≤◌}

rests : (r u v : Bool) (o : Outcome) → o ≢ outcome.OutOfSteps → open_outcome r u ≡ Some o → open_outcome r v ≡ Some o
rests true u v o other is = is
rests false true v o other is = absurd (other (let same : o ≡ outcome.OutOfSteps = cc in same))
rests false false v o other is = absurd (cc)

comes_by : (a : Option Outcome) (x : Setting) (t : State) (ls : List Label) (k steps : ℕ) (o : Outcome) → o ≢ outcome.OutOfSteps → or_open a x t ls k ≡ Some o → or_open a x t ls steps ≡ Some o
comes_by None x t ls k steps o other is = rests (is_at_rest x t) (length ls == k) (length ls == steps) o other is
comes_by (Some a) x t ls k steps o other is = is

outcome_by : (x : Setting) (t : State) (ls : List Label) (k steps : ℕ) (o : Outcome) → o ≢ outcome.OutOfSteps → IsOutcome x t ls k o → IsOutcome x t ls steps o
unfolding outcome_of
outcome_by x t ls k steps o other is = comes_by (last_outcome ls) x t ls k steps o other is

-- a run that isn't over has fewer labels than steps
fewer : (r u : Bool) → open_outcome r u ≡ None → (r ≡ false) × (u ≡ false)
fewer true u is = absurd (cc)
fewer false true is = absurd (cc)
fewer false false is = (refl, refl)

open_by : (a : Option Outcome) (x : Setting) (t : State) (ls : List Label) (k steps : ℕ) → length ls ≤ k → k ≤ steps → or_open a x t ls k ≡ None → or_open a x t ls steps ≡ None
open_by None x t ls k steps within more is =
    let f = fewer (is_at_rest x t) (length ls == k) is in
    let other : (length ls == steps) ≡ false = grind (arith, nat_tests, within, more, f.1) in
    ap (λ (r : Bool). open_outcome r (length ls == steps)) f.0 ∙ ap (λ (u : Bool). open_outcome false u) other
open_by (Some a) x t ls k steps within more is = absurd (cc)

pub unended_by : (x : Setting) (t : State) (ls : List Label) (k steps : ℕ) → length ls ≤ k → k ≤ steps → outcome_of x t ls k ≡ None → outcome_of x t ls steps ≡ None
unfolding outcome_of
unended_by x t ls k steps within more is = open_by (last_outcome ls) x t ls k steps within more is

module _ (x : Setting) (s : State) (k steps : ℕ) (cs : List Chosen) (more : k ≤ steps) where
  pub reports_by : (ls : List Label) (o : Outcome) (n : ℕ) → o ≢ outcome.OutOfSteps → ComesTo x s k cs (Reports ls o n) → ComesTo x s steps cs (Reports ls o n)
  reports_by ls o n other h = record {
    labels = h.labels;
    last = h.last;
    left = h.left;
    run = h.run;
    within = let within = h.within in omega (arith, within, more);
    has_come = (h.has_come.0, (outcome_by x h.last h.labels k steps o other h.has_come.1.0, h.has_come.1.1));
  }

  -- (it is unfolded, as its last state is that of the run before)
  abbrev pub short_by : (n : ℕ) → ComesTo x s k cs (Short n) → ComesTo x s steps cs (Short n)
  short_by n h = record {
    labels = h.labels;
    last = h.last;
    left = h.left;
    run = h.run;
    within = let within = h.within in omega (arith, within, more);
    has_come = (h.has_come.0, (record { unended = unended_by x h.last h.labels k steps h.within more h.has_come.1.0.unended; offers = h.has_come.1.0.offers }, h.has_come.1.1));
  }

  pub wrong_by : (n : ℕ) → ComesTo x s k cs (Wrong n) → ComesTo x s steps cs (Wrong n)
  wrong_by n h =
      let w = h.has_come in
      record {
        labels = h.labels;
        last = h.last;
        left = h.left;
        run = h.run;
        within = let within = h.within in omega (arith, within, more);
        has_come = (w.0, (w.1.0, (w.1.1.0, (record { unended = unended_by x h.last h.labels k steps h.within more w.1.1.1.0.unended; offers = w.1.1.1.0.offers }, w.1.1.1.1))));
      }

-- ---- A run that is out of steps has as many labels

main_comes : (l : MainLabel) → main_outcome l ≡ Some outcome.OutOfSteps → ⊥
main_comes (main_label.Start n k) is = absurd (cc)
main_comes (main_label.StartRefused t n) is = absurd (cc)
main_comes (main_label.Finish n k) is = absurd (cc)
main_comes (main_label.FinishRefused t n) is = absurd (cc)
main_comes (main_label.Spawn n k) is = absurd (cc)
main_comes (main_label.Abort p n) is = absurd (cc)
main_comes (main_label.Await n) is = absurd (cc)
main_comes main_label.Quiet is = absurd (cc)
main_comes main_label.Ready is = absurd (cc)
main_comes (main_label.Answer v) is = absurd (cc)

loop_comes : (l : LoopLabel) → loop_outcome l ≡ Some outcome.OutOfSteps → ⊥
loop_comes loop_label.MainPends is = absurd (cc)
loop_comes (loop_label.FuturePends n) is = absurd (cc)
loop_comes (loop_label.FutureEnds n) is = absurd (cc)
loop_comes (loop_label.FutureFails n) is = absurd (cc)
loop_comes (loop_label.FutureAborted n) is = absurd (cc)
loop_comes loop_label.Rest is = absurd (cc)
loop_comes (loop_label.Deadlock t) is = absurd (cc)
loop_comes (loop_label.Trap t n) is = absurd (cc)

call_comes : (l : CallLabel) → call_outcome l ≡ Some outcome.OutOfSteps → ⊥
call_comes (call_label.Calls n k) is = absurd (cc)
call_comes (call_label.Enters n k) is = absurd (cc)
call_comes (call_label.Call n k) is = absurd (cc)
call_comes (call_label.CallPolls n k i) is = absurd (cc)
call_comes (call_label.CallSync n k) is = absurd (cc)
call_comes (call_label.PausesPolls n k) is = absurd (cc)
call_comes (call_label.Fails n k) is = absurd (cc)
call_comes (call_label.Cancel n k) is = absurd (cc)
call_comes (call_label.CancelSync n k) is = absurd (cc)
call_comes (call_label.Drop n) is = absurd (cc)

label_comes : (l : Label) → outcome_of_label l ≡ Some outcome.OutOfSteps → ⊥
label_comes (label.Main l) is = main_comes l is
label_comes (label.Loop l) is = loop_comes l is
label_comes (label.Take l) is = absurd (cc)
label_comes (label.Data l) is = absurd (cc)
label_comes (label.Task l) is = absurd (cc)
label_comes (label.Set l) is = absurd (cc)
label_comes (label.Call l) is = call_comes l is
label_comes (label.Thread l) is = absurd (cc)
label_comes (label.RetWakes n k i) is = absurd (cc)
label_comes (label.CallSyncPolls n k i) is = absurd (cc)

last_comes : (ls : List Label) → last_outcome ls ≡ Some outcome.OutOfSteps → ⊥
last_comes [] is = absurd (cc)
last_comes (l ∷ []) is = label_comes l is
last_comes (l ∷ m ∷ ls) is = last_comes (m ∷ ls) is

all_steps : (r u : Bool) → open_outcome r u ≡ Some outcome.OutOfSteps → u ≡ true
all_steps true u is = absurd (cc)
all_steps false true is = refl
all_steps false false is = absurd (cc)

uses_up : (a : Option Outcome) (x : Setting) (t : State) (ls : List Label) (k : ℕ) → (a ≡ Some outcome.OutOfSteps → ⊥) → or_open a x t ls k ≡ Some outcome.OutOfSteps → length ls ≡ k
uses_up None x t ls k other is = eqb-true (length ls) k (all_steps (is_at_rest x t) (length ls == k) is)
uses_up (Some o) x t ls k other is = absurd (other is)

pub out_uses_up : (x : Setting) (t : State) (ls : List Label) (k : ℕ) → IsOutcome x t ls k outcome.OutOfSteps → length ls ≡ k
unfolding outcome_of
out_uses_up x t ls k is = uses_up (last_outcome ls) x t ls k (last_comes ls) is
