-- What comes of a text under a list of choices.
use Rattle.std.specs.Prelude.{Err, IsPermutation, List, Ok, Result, length, ℕ, ◌≡◌, ◌≤◌}
use Rattle.laws_choices.specs.ChoiceAnswers.{ComesTo, Reports, Short, Wrong}
use Rattle.laws_choices.specs.Offer.{Chosen}
use Rattle.laws_choices.specs.Offers.{offer}
use Rattle.machine_data.specs.Core.{State}
use Rattle.machine_data.specs.declared.label.Label.{Label}
use Rattle.machine_data.specs.declared.outcome.Outcome.{Outcome}
use Rattle.machine_data.specs.declared.scenario.ScenarioDef.{ScenarioDef}
use Rattle.machine_rules.specs.Outcome.{IsOutcome}
use Rattle.machine_rules.specs.Run.{Run, opens}
use Rattle.machine_rules.specs.Stalled.{setting_of}
use Rattle.task_run.specs.Headline.{machine_scenario}
use Rattle.task_run.specs.Lower.{Reads}
use Rattle.task_run.specs.declared.scenario.Scenario.{Scenario}
use Rattle.text_scenario.specs.Grammar.{IsBadLine}
use Rattle.choice_run.specs.declared.run.ChoiceError.{ChoiceError}
use Rattle.choice_run.specs.declared.run.ChoiceError.TheVariants as choice_error
use Rattle.choice_run.specs.declared.run.ChosenReport.{ChosenReport}
use Rattle.choice_run.specs.declared.run.RunEnd.TheVariants as run_end
use Rattle.choice_run.specs.declared.run.RunEnd.{RunEnd}
use Rattle.choice_offers.specs.declared.choice.Offer.{Offer}

-- what the run of the scenario under the choices has come to
abbrev pub RunsTo : ScenarioDef → ℕ → List Chosen → Result ChosenReport ChoiceError → Type 0
RunsTo x steps cs (Ok r) = ComesTo (setting_of x) (opens x) steps cs (Reports r.trace.labels r.outcome r.used)
RunsTo x steps cs (Err (choice_error.Wrong k)) = ComesTo (setting_of x) (opens x) steps cs (Wrong k)
RunsTo x steps cs (Err (choice_error.Short n)) = ComesTo (setting_of x) (opens x) steps cs (Short n)
RunsTo x steps cs (Err choice_error.NoMemory) = Unit {0}
RunsTo x steps cs (Err (choice_error.BadScenario n)) = ⊥

-- After so many labels the run is before an open step, no choice is left, and this is offered: held threads in some order.
pub record StopsOpen (x : ScenarioDef) (steps : ℕ) (cs : List Chosen) (n : ℕ) (o : Offer) : Type 0 where
  pub comes : ComesTo (setting_of x) (opens x) steps cs (Short n)
  pub waiters : o.waiters ≡ (offer (setting_of x) comes.last).waiters
  pub members : o.members ≡ (offer (setting_of x) comes.last).members
  pub permuted : IsPermutation (offer (setting_of x) comes.last).held o.held

-- where the run of the scenario under the choices ends
abbrev pub EndsAs : ScenarioDef → ℕ → List Chosen → RunEnd → Type 0
EndsAs x steps cs (run_end.Reports r) = ComesTo (setting_of x) (opens x) steps cs (Reports r.trace.labels r.outcome r.used)
EndsAs x steps cs (run_end.Wrong k) = ComesTo (setting_of x) (opens x) steps cs (Wrong k)
EndsAs x steps cs (run_end.Short n o) = StopsOpen x steps cs n o

-- the same of a text
abbrev pub Answers : List ℕ → ℕ → List Chosen → Result ChosenReport ChoiceError → Type 0
Answers text steps cs (Err choice_error.NoMemory) = Unit {0}
Answers text steps cs (Err (choice_error.BadScenario n)) = IsBadLine text n
Answers text steps cs r = (x : Scenario) × (Reads text x × RunsTo (machine_scenario x) steps cs r)

-- ---- Every run is had

-- the answer is this run, or it was out of memory
abbrev pub IsHad : List Label → Outcome → Result ChosenReport ChoiceError → Type 0
IsHad ls o (Ok r) = (r.trace.labels ≡ ls) × (r.outcome ≡ o)
IsHad ls o (Err choice_error.NoMemory) = Unit {0}
IsHad ls o (Err e) = ⊥

-- For each run of the text's scenario that has come to something in at most so many steps there is a list of choices of which each
-- answer is this run.
abbrev pub HasEach : List ℕ → ℕ → Type 0
HasEach text steps = (x : Scenario) → Reads text x → (ls : List Label) (t : State) (o : Outcome) →
    Run (setting_of (machine_scenario x)) (opens (machine_scenario x)) ls t → length ls ≤ steps →
    IsOutcome (setting_of (machine_scenario x)) t ls steps o →
    (cs : List Chosen) × ((r : Result ChosenReport ChoiceError) → Answers text steps cs r → IsHad ls o r)
