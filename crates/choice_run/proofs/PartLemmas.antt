-- What was read of a scenario and of the lines after it.
use Rattle.choice_run.specs.ChooseLines.{AreChoices, IsBadChoice}
use Rattle.choice_run.specs.Chosen.{RunsTo}
use Rattle.choice_run.specs.Tool.{IsBadAfter, RunsParts, RunsTexts}
use Rattle.choice_run.specs.declared.run.ChoiceError.TheVariants as choice_error
use Rattle.choice_run.specs.declared.run.ChoiceError.{ChoiceError}
use Rattle.choice_run.specs.declared.run.ChosenReport.{ChosenReport}
use Rattle.laws_choices.specs.Offer.{Chosen}
use Rattle.std.proofs.Common.{arith, subst}
use Rattle.std.specs.Prelude.{Err, List, Ok, Result, ℕ, ◌+◌, ◌-◌, ◌<◌, ◌≡◌, ◌≤◌}
use Rattle.task_run.specs.Headline.{machine_scenario}
use Rattle.task_run.specs.Lower.{Reads}
use Rattle.task_run.specs.declared.scenario.Scenario.{Scenario}
use Rattle.text_scenario.specs.Grammar.{spelled}

-- what the run of what was read has come to
pub runs_parts : (steps : ℕ) (scenario rest : List ℕ) (count : ℕ) (x : Scenario) → Reads scenario x → (cs : List Chosen) → AreChoices (spelled rest) cs → (r : Result ChosenReport ChoiceError) →
    RunsTo (machine_scenario x) steps cs r → RunsParts steps scenario rest count r
runs_parts steps scenario rest count x reads cs are (Ok r) runs = record { of = x; reads = reads; choices = cs; are = are; runs = runs }
runs_parts steps scenario rest count x reads cs are (Err choice_error.NoMemory) runs = tt
runs_parts steps scenario rest count x reads cs are (Err (choice_error.BadScenario n)) runs = absurd runs
runs_parts steps scenario rest count x reads cs are (Err (choice_error.Wrong k)) runs = record { of = x; reads = reads; choices = cs; are = are; runs = runs }
runs_parts steps scenario rest count x reads cs are (Err (choice_error.Short n)) runs = record { of = x; reads = reads; choices = cs; are = are; runs = runs }

-- the line of the choices, of which the first comes after so many lines
pub bad_after : (scenario rest : List ℕ) (count first n : ℕ) (x : Scenario) → Reads scenario x → first ≡ count + 1 → first ≤ n → IsBadChoice rest (n + 1 - first) → IsBadAfter scenario rest count n
bad_after scenario rest count first n x reads next behind bad = record {
  of = x;
  reads = reads;
  behind = omega (arith, next, behind);
  bad = let same : n + 1 - first ≡ n - count = omega (arith, next, behind) in subst (λ (k : ℕ). IsBadChoice rest k) same bad;
}
