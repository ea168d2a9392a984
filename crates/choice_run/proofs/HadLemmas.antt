-- Each run is what some choices make.
use Rattle.choice_run.specs.Chosen.{Answers, HasEach, IsHad, RunsTo}
use Rattle.choice_run.specs.declared.run.ChoiceError.TheVariants as choice_error
use Rattle.choice_run.specs.declared.run.ChoiceError.{ChoiceError}
use Rattle.choice_run.specs.declared.run.ChosenReport.{ChosenReport}
use Rattle.choice_run.proofs.ClosedLemmas.{closed_read}
use Rattle.laws_choices.proofs.AnswerLemmas.{answers_are_one, run_is_reported}
use Rattle.laws_choices.specs.ChoiceAnswers.{Answer, AnswersAreOne, ComesTo, Reports, RunIsReported, Short, Wrong}
use Rattle.laws_choices.specs.Offer.{Chosen}
use Rattle.laws_choices.specs.Steps.{IsScripted}
use Rattle.laws_places.proofs.OrderLemmas.{opening_in_order}
use Rattle.laws_states.specs.Order.{InOrder, OpeningInOrder}
use Rattle.laws_states.specs.Settled.{IsSettled, NoneOpen}
use Rattle.machine_data.specs.Core.{Scripted, State, Unscripted, fresh}
use Rattle.machine_data.specs.Maps.{get-empty}
use Rattle.machine_data.specs.declared.label.Label.{Label}
use Rattle.machine_data.specs.declared.outcome.Outcome.{Outcome}
use Rattle.machine_data.specs.declared.scenario.Version.{Version}
use Rattle.machine_rules.specs.Outcome.{IsOutcome}
use Rattle.machine_rules.specs.Run.{Run, main_opening, opens}
use Rattle.machine_rules.specs.Scripts.{HasOpen}
use Rattle.machine_rules.specs.Stalled.{setting_of}
use Rattle.std.proofs.Common.{ap, arith, refl, subst, sym, ◌∙◌}
use Rattle.std.specs.Prelude.{Err, List, Ok, Result, length, ℕ, ◌≡◌, ◌≤◌}
use Rattle.task_run.proofs.HeadlineLemmas.{runnable_read}
use Rattle.task_run.specs.Headline.{machine_scenario}
use Rattle.task_run.specs.Lower.{Reads, scenario_of}
use Rattle.task_run.specs.Runnable.{IsRunnable}
use Rattle.task_run.specs.declared.scenario.Scenario.{Scenario}
use Rattle.text_scenario.proofs.Verdicts.{one_tree}
use Rattle.text_scenario.specs.declared.tree.ScenarioText.{ScenarioText}

-- a text has one scenario
pub one_scenario : (text : List ℕ) (x y : Scenario) → Reads text x → Reads text y → x ≡ y
one_scenario text x y a b = a.2 ∙ (ap (λ (t : ScenarioText). scenario_of t) (one_tree a.0 b.0 text a.1 b.1) ∙ sym b.2)

-- ---- The opening state

none_open : (v : Version) (n handles table : ℕ) → NoneOpen (fresh v n handles table)
unfolding fresh
none_open v n handles table = λ i. grind (arith, get-empty)

module _ (x : Scenario) (runnable : IsRunnable x) where
  opens_order : InOrder (setting_of (machine_scenario x)).component (opens (machine_scenario x))
  unfolding OpeningInOrder opens
  opens_order = opening_in_order x.component runnable.codes x.rules (length x.component.instances) x.handles x.table (Scripted main_opening)

  opens_none : NoneOpen (opens (machine_scenario x)).core
  unfolding opens
  opens_none = none_open x.rules (length x.component.instances) x.handles x.table

  opens_settled : (HasOpen x.component → ⊥) → IsSettled (setting_of (machine_scenario x)).component (opens (machine_scenario x)).main
  unfolding opens
  opens_settled hosts = record { hosts = hosts; main = λ e. absurd (cc) }

  opens_scripted : IsScripted (opens (machine_scenario x)).main
  unfolding opens
  opens_scripted = tt

-- ---- The answer of the choices of a run

same_report : (a b : List Label) (o p : Outcome) (m n : ℕ) → Reports a o m ≡ Reports b p n → (a ≡ b) × (o ≡ p)
same_report a b o p m n e = let labels : a ≡ b = cc in let outcome : o ≡ p = cc in (labels, outcome)

module _ (x : Scenario) (runnable : IsRunnable x) (hosts : HasOpen x.component → ⊥) (steps : ℕ) (cs : List Chosen) (ls : List Label) (o : Outcome) (n : ℕ)
    (comes : ComesTo (setting_of (machine_scenario x)) (opens (machine_scenario x)) steps cs (Reports ls o n)) where
  one : (a : Answer) → ComesTo (setting_of (machine_scenario x)) (opens (machine_scenario x)) steps cs a → a ≡ Reports ls o n
  unfolding AnswersAreOne
  one a is = answers_are_one (setting_of (machine_scenario x)) (opens (machine_scenario x)) hosts (opens_order x runnable) (opens_scripted x runnable) steps cs a (Reports ls o n) is comes

  had_by : (r : Result ChosenReport ChoiceError) → RunsTo (machine_scenario x) steps cs r → IsHad ls o r
  had_by (Ok r) runs = let same = one (Reports r.trace.labels r.outcome r.used) runs in same_report r.trace.labels ls r.outcome o r.used n same
  had_by (Err choice_error.NoMemory) runs = tt
  had_by (Err (choice_error.BadScenario k)) runs = runs
  had_by (Err (choice_error.Wrong k)) runs = absurd (let same = one (Wrong k) runs in cc)
  had_by (Err (choice_error.Short k)) runs = absurd (let same = one (Short k) runs in cc)

had_answer : (text : List ℕ) (x : Scenario) → Reads text x → (steps : ℕ) (cs : List Chosen) (ls : List Label) (o : Outcome) →
    ((r : Result ChosenReport ChoiceError) → RunsTo (machine_scenario x) steps cs r → IsHad ls o r) → (r : Result ChosenReport ChoiceError) → Answers text steps cs r → IsHad ls o r
had_answer text x reads steps cs ls o had (Ok r) is = had (Ok r) (subst (λ (y : Scenario). RunsTo (machine_scenario y) steps cs (Ok r)) (one_scenario text is.0 x is.1.0 reads) is.1.1)
had_answer text x reads steps cs ls o had (Err choice_error.NoMemory) is = tt
had_answer text x reads steps cs ls o had (Err (choice_error.BadScenario n)) is = is.past reads.0 reads.1
had_answer text x reads steps cs ls o had (Err (choice_error.Wrong k)) is =
    had (Err (choice_error.Wrong k)) (subst (λ (y : Scenario). RunsTo (machine_scenario y) steps cs (Err (choice_error.Wrong k))) (one_scenario text is.0 x is.1.0 reads) is.1.1)
had_answer text x reads steps cs ls o had (Err (choice_error.Short n)) is =
    had (Err (choice_error.Short n)) (subst (λ (y : Scenario). RunsTo (machine_scenario y) steps cs (Err (choice_error.Short n))) (one_scenario text is.0 x is.1.0 reads) is.1.1)

pub reported : (steps : ℕ) (x : Scenario) → IsRunnable x → (HasOpen x.component → ⊥) → (ls : List Label) (t : State) (o : Outcome) → Run (setting_of (machine_scenario x)) (opens (machine_scenario x)) ls t →
    length ls ≤ steps → IsOutcome (setting_of (machine_scenario x)) t ls steps o → (cs : List Chosen) × ComesTo (setting_of (machine_scenario x)) (opens (machine_scenario x)) steps cs (Reports ls o (length cs))
unfolding RunIsReported
reported steps x runnable hosts ls t o run within is =
    run_is_reported (setting_of (machine_scenario x)) (opens (machine_scenario x)) (opens_settled x runnable hosts) (opens_none x runnable) (opens_order x runnable) steps ls t o run within is

pub has_each : (text : List ℕ) (steps : ℕ) → HasEach text steps
has_each text steps x reads ls t o run within is =
    let runnable = runnable_read text x reads in
    let hosts = closed_read text x reads in
    let r = reported steps x runnable hosts ls t o run within is in
    (r.0, had_answer text x reads steps r.0 ls o (had_by x runnable hosts steps r.0 ls o (length r.0) r.1))

-- what the run of the text's scenario has come to
pub answers_of : (text : List ℕ) (steps : ℕ) (cs : List Chosen) (x : Scenario) → Reads text x → (r : Result ChosenReport ChoiceError) → RunsTo (machine_scenario x) steps cs r → Answers text steps cs r
answers_of text steps cs x reads (Ok r) runs = (x, (reads, runs))
answers_of text steps cs x reads (Err choice_error.NoMemory) runs = tt
answers_of text steps cs x reads (Err (choice_error.BadScenario n)) runs = absurd runs
answers_of text steps cs x reads (Err (choice_error.Wrong k)) runs = (x, (reads, runs))
answers_of text steps cs x reads (Err (choice_error.Short n)) runs = (x, (reads, runs))
