-- What a call of `choice_tool` reads and writes.
use Rattle.choice_run.specs.ChooseLines.{AreChoices, IsBadChoice}
use Rattle.choice_run.specs.Chosen.{RunsTo}
use Rattle.choice_run.specs.declared.run.ChoiceError.TheVariants as choice_error
use Rattle.choice_run.specs.declared.run.ChoiceError.{ChoiceError}
use Rattle.choice_run.specs.declared.run.ChosenReport.{ChosenReport}
use Rattle.laws_choices.specs.Offer.{Chosen}
use Rattle.machine_rules.specs.Texts.{text}
use Rattle.serve_requests.specs.Input.{IsCut}
use Rattle.std.specs.Prelude.{Err, List, Ok, Option, Result, Some, [], codes, decimal, length, ℕ, ◌++◌, ◌-◌, ◌<◌, ◌∷◌, ◌≡◌, ◌≤◌, ◌⊎◌}
use Rattle.task_run.specs.Headline.{machine_scenario}
use Rattle.task_run.specs.Lower.{Reads}
use Rattle.task_run.specs.Tool.{IsUnhindered, bad_line_text, too_long_text}
use Rattle.task_run.specs.declared.scenario.Scenario.{Scenario}
use Rattle.text_bytes.specs.Outside.{Appends}
use Rattle.text_bytes.specs.Pump.{IsBeyond, IsFront, IsTaken, IsWithin}
use Rattle.text_scenario.specs.Grammar.{IsBadLine, spelled}

-- the words are `choose N`, N from 1 to 1,000,000, in decimal without leading zeros
abbrev pub IsChoose : List (List ℕ) → ℕ → Type 0
IsChoose words n = (words ≡ codes "choose" ∷ decimal n ∷ []) × (1 ≤ n) × (n ≤ 1000000)

abbrev pub IsNoChoose : List (List ℕ) → Type 0
IsNoChoose words = (n : ℕ) → IsChoose words n → ⊥

abbrev pub usage_text : List ℕ
usage_text = codes "usage: choose STEPS\n"

-- ---- What an input says

-- Its scenario, which has at most 1,048,576 bytes, and the lines after it.
pub record InputParts (input : List ℕ) : Type 0 where
  pub scenario : List ℕ
  pub rest : List ℕ
  pub count : ℕ
  pub cut : IsCut input scenario rest count
  pub short : length scenario ≤ 1048576

-- The scenario's run under the choices of the lines has come to this.
pub record RunsTexts (steps : ℕ) (scenario rest : List ℕ) (r : Result ChosenReport ChoiceError) : Type 0 where
  pub of : Scenario
  pub reads : Reads scenario of
  pub choices : List Chosen
  pub are : AreChoices (spelled rest) choices
  pub runs : RunsTo (machine_scenario of) steps choices r

pub record RunsInput (steps : ℕ) (input : List ℕ) (r : Result ChosenReport ChoiceError) : Type 0 where
  pub parts : InputParts input
  pub runs : RunsTexts steps parts.scenario parts.rest r

-- It has a scenario, and the lines after it say choices.
pub record IsInput (input : List ℕ) : Type 0 where
  pub parts : InputParts input
  pub of : Scenario
  pub reads : Reads parts.scenario of
  pub choices : List Chosen
  pub are : AreChoices (spelled parts.rest) choices

-- The line of the scenario is the bad one, or that of the choices, whose lines count on after those of the scenario.
pub record IsBadAfter (scenario rest : List ℕ) (count n : ℕ) : Type 0 where
  pub of : Scenario
  pub reads : Reads scenario of
  pub behind : count < n
  pub bad : IsBadChoice rest (n - count)

abbrev pub IsBadIn : List ℕ → List ℕ → ℕ → ℕ → Type 0
IsBadIn scenario rest count n = IsBadLine scenario n ⊎ IsBadAfter scenario rest count n

-- what came of a scenario of so many lines and the lines after it; it may be out of memory
abbrev pub RunsParts : ℕ → List ℕ → List ℕ → ℕ → Result ChosenReport ChoiceError → Type 0
RunsParts steps scenario rest count (Err choice_error.NoMemory) = Unit {0}
RunsParts steps scenario rest count (Err (choice_error.BadScenario n)) = IsBadIn scenario rest count n
RunsParts steps scenario rest count r = RunsTexts steps scenario rest r

pub record IsBadInput (input : List ℕ) (n : ℕ) : Type 0 where
  pub parts : InputParts input
  pub bad : IsBadIn parts.scenario parts.rest parts.count n

-- its scenario has more bytes than it may
pub record IsLongInput (input : List ℕ) : Type 0 where
  pub scenario : List ℕ
  pub rest : List ℕ
  pub count : ℕ
  pub cut : IsCut input scenario rest count
  pub long : 1048576 < length scenario

-- ---- What is written

-- all of the text was appended, or a front of it, if the sink failed
abbrev pub Writes : Option (List ℕ) → Option (List ℕ) → List ℕ → ℕ → ℕ → Type 0
Writes old new out status result = ((result ≡ status) × Appends old new out) ⊎ ((result ≡ 5) × IsFront old new out)

abbrev pub wrong_choice_text : ℕ → List ℕ
wrong_choice_text k = codes "wrong choice " ++ decimal k ++ codes "\n"

abbrev pub short_text : ℕ → List ℕ
short_text n = codes "short after " ++ decimal n ++ codes "\n"

-- the status and the text for what a run has come to; none if it was out of memory
abbrev pub IsSaid : Result ChosenReport ChoiceError → ℕ → List ℕ → Type 0
IsSaid (Ok r) status out = (status ≡ 0) × (out ≡ text r.trace.labels r.outcome)
IsSaid (Err (choice_error.Wrong k)) status out = (status ≡ 7) × (out ≡ wrong_choice_text k)
IsSaid (Err (choice_error.Short n)) status out = (status ≡ 8) × (out ≡ short_text n)
IsSaid (Err e) status out = ⊥

-- What is due for an input, one line a status.
pub data IsDueFor (steps : ℕ) (all : List ℕ) (status : ℕ) (out : List ℕ) : Type 0 where
  -- 0, 7 or 8: what the run has come to
  Runs : (r : Result ChosenReport ChoiceError) → RunsInput steps all r → IsSaid r status out → IsDueFor steps all status out
  -- 3: the input is no scenario with choices, and its bad line is told
  BadLine : status ≡ 3 → (line : ℕ) → IsBadInput all line → out ≡ bad_line_text line → IsDueFor steps all status out
  -- 6: its scenario is too long
  TooLong : status ≡ 6 → IsLongInput all → out ≡ too_long_text → IsDueFor steps all status out

-- How `choose steps` ended of an input that was read whole: `old` and `new` are what the sink holds.
pub data InputEnded (steps : ℕ) (all : List ℕ) (old new : Option (List ℕ)) (status : ℕ) : Type 0 where
  -- what is due is written
  Said : (out : List ℕ) → IsDueFor steps all status out → Appends old new out → InputEnded steps all old new status
  -- 1: it was out of memory
  NoneSaid : status ≡ 1 → InputEnded steps all old new status
  -- 5: a front of what is due is written
  Cut : status ≡ 5 → (due : ℕ) (out : List ℕ) → IsDueFor steps all due out → IsFront old new out → InputEnded steps all old new status

-- ---- How a call ended

-- The input is all that the source gave, where it tells that, and is no longer than an input may be.
abbrev pub IsAllOf : Option (List ℕ) → Option (List ℕ) → List ℕ → Type 0
IsAllOf before after input = (all : List ℕ) → before ≡ Some all → (input ≡ all) × IsWithin 16777216 all after

-- more was read than that
abbrev pub IsMore : Option (List ℕ) → Option (List ℕ) → Type 0
IsMore before after = (all : List ℕ) → before ≡ Some all → IsBeyond 16777216 all after

-- How `choose steps` ended: `before` and `after` are what the source gives.
pub data SourceEnded (steps : ℕ) (before after old new : Option (List ℕ)) (status : ℕ) : Type 0 where
  ReadWhole : (input : List ℕ) → IsAllOf before after input → InputEnded steps input old new status →
      SourceEnded steps before after old new status
  -- 6: more was read than an input may have, and the line that says so is written; 5: a front of it
  SaidTooLong : status ≡ 6 → IsMore before after → Appends old new too_long_text → SourceEnded steps before after old new status
  TooLongCut : status ≡ 5 → IsMore before after → IsFront old new too_long_text → SourceEnded steps before after old new status
  -- 1 or 4: it was out of memory, or the source failed, after some bytes were read
  Unread : (status ≡ 1) ⊎ (status ≡ 4) → ((all : List ℕ) → before ≡ Some all → (taken : List ℕ) × IsTaken all taken after) →
      SourceEnded steps before after old new status

-- How a call ended, by its words.
pub data Ended (words : List (List ℕ)) (before after old new : Option (List ℕ)) (status : ℕ) : Type 0 where
  Chooses : (n : ℕ) → IsChoose words n → SourceEnded n before after old new status → Ended words before after old new status
  -- 2: the words are others, and the usage line is written; 5: a front of it
  SaidUsage : IsNoChoose words → status ≡ 2 → Appends old new usage_text → Ended words before after old new status
  UsageCut : IsNoChoose words → status ≡ 5 → IsFront old new usage_text → Ended words before after old new status

-- the status is this one, if neither memory is wanting nor the source or the sink fails; 7 and 8 are those of a run
abbrev pub IsRunStatus : ℕ → Type 0
IsRunStatus status = IsUnhindered 0 status ⊎ (IsUnhindered 7 status ⊎ IsUnhindered 8 status)

-- Which status the input calls for, where all that the source gives is told.
pub record IsDue (all : List ℕ) (status : ℕ) : Type 0 where
  pub input : length all ≤ 16777216 → IsInput all → IsRunStatus status
  pub other : length all ≤ 16777216 → (IsInput all → ⊥) → (IsLongInput all → ⊥) → IsUnhindered 3 status
  pub longer : (16777216 < length all) ⊎ IsLongInput all → IsUnhindered 6 status
