-- What a call of `serve_tool` reads and writes.
use Rattle.text_bytes.specs.Outside.{Appends}
use Rattle.text_bytes.specs.Pump.{IsBeyond, IsFront, IsTaken, IsWithin}
use Rattle.serve_requests.specs.Input.{IsBadIn, IsCut}
use Rattle.serve_requests.specs.Replies.{reply_lines}
use Rattle.serve_requests.specs.RequestLines.{AreRequests}
use Rattle.serve_requests.specs.declared.request.Request.{Request}
use Rattle.serve_main.specs.Serves.{IsServedBy}
use Rattle.serve_main.specs.declared.serving.Served.{Served}
use Rattle.text_scenario.specs.Grammar.{IsTextOf, spelled}
use Rattle.text_scenario.specs.declared.read.TextError.{TextError}
use Rattle.text_scenario.specs.declared.read.TextError.TheVariants as errors
use Rattle.text_scenario.specs.declared.tree.ScenarioText.{ScenarioText}
use Rattle.std.specs.Prelude.{Err, List, Ok, Option, Result, Some, [], codes, decimal, length, ℕ, ◌++◌, ◌<◌, ◌∷◌, ◌≡◌, ◌≤◌, ◌⊎◌}
use Rattle.machine_rules.specs.Texts.{line_text, outcome_text}
use Rattle.task_run.specs.Lower.{scenario_of}
use Rattle.task_run.specs.Tool.{IsUnhindered, bad_line_text, too_long_text}

-- the words are `serve L N`, L from 1 to 1,024 and N from 1 to 1,000,000, in decimal without leading zeros
abbrev pub IsServe : List (List ℕ) → ℕ → ℕ → Type 0
IsServe words l n = (words ≡ codes "serve" ∷ decimal l ∷ decimal n ∷ []) × (1 ≤ l) × (l ≤ 1024) × (1 ≤ n) × (n ≤ 1000000)

abbrev pub IsNoServe : List (List ℕ) → Type 0
IsNoServe words = (l n : ℕ) → IsServe words l n → ⊥

abbrev pub usage_text : List ℕ
usage_text = codes "usage: serve LIMIT STEPS\n"

-- the lines of the replies, and that of the outcome
abbrev pub served_text : Served → List ℕ
served_text s = reply_lines 1 s.replies.items ++ line_text (outcome_text s.outcome)

-- all of the text was appended, or a front of it, if the sink failed
abbrev pub Says : Option (List ℕ) → Option (List ℕ) → List ℕ → ℕ → ℕ → Type 0
Says old new text status result = ((result ≡ status) × Appends old new text) ⊎ ((result ≡ 5) × IsFront old new text)

-- ---- What an input says

-- its scenario and the lines after it
pub record InputParts (input : List ℕ) : Type 0 where
  pub scenario : List ℕ
  pub rest : List ℕ
  pub count : ℕ
  pub cut : IsCut input scenario rest count

-- The scenario has at most 1,048,576 bytes, and the lines say requests of its exports.
pub record IsInput (input : List ℕ) : Type 0 where
  pub parts : InputParts input
  pub short : length parts.scenario ≤ 1048576
  pub tree : ScenarioText
  pub reads : IsTextOf tree parts.scenario
  pub requests : List Request
  pub are : AreRequests tree.instances (spelled parts.rest) requests

-- the requests of these lines were served by the scenario's component
pub record AreServed (scenario rest : List ℕ) (limit steps : ℕ) (served : Served) : Type 0 where
  pub tree : ScenarioText
  pub reads : IsTextOf tree scenario
  pub requests : List Request
  pub are : AreRequests tree.instances (spelled rest) requests
  pub served_by : IsServedBy (scenario_of tree) requests limit steps served

pub record IsServedInput (limit steps : ℕ) (input : List ℕ) (served : Served) : Type 0 where
  pub parts : InputParts input
  pub short : length parts.scenario ≤ 1048576
  pub served_is : AreServed parts.scenario parts.rest limit steps served

-- line n is the input's bad one
pub record IsBadInput (input : List ℕ) (n : ℕ) : Type 0 where
  pub parts : InputParts input
  pub short : length parts.scenario ≤ 1048576
  pub bad : IsBadIn parts.scenario parts.rest parts.count n

-- its scenario has more bytes than it may
pub record IsLongInput (input : List ℕ) : Type 0 where
  pub parts : InputParts input
  pub long : 1048576 < length parts.scenario

-- the parts were served, or the bad line is told; it may be out of memory
abbrev pub ServesParts : List ℕ → List ℕ → ℕ → ℕ → ℕ → Result Served TextError → Type 0
ServesParts scenario rest count limit steps (Ok served) = AreServed scenario rest limit steps served
ServesParts scenario rest count limit steps (Err (errors.Bad n)) = IsBadIn scenario rest count n
ServesParts scenario rest count limit steps (Err errors.NoMemory) = Unit {0}

-- ---- How a call ended

-- How `serve l n` ended of an input that was read whole, one line a status: `old` and `new` are what the sink holds.
pub data InputEnded (l n : ℕ) (all : List ℕ) (old new : Option (List ℕ)) (status : ℕ) : Type 0 where
  -- 0: the replies and the outcome are written
  Replied : (s : Served) → status ≡ 0 → IsServedInput l n all s → Appends old new (served_text s) → InputEnded l n all old new status
  -- 1: it was out of memory
  NoneReplied : status ≡ 1 → InputEnded l n all old new status
  -- 3: the input is no scenario with requests, and its bad line is written
  SaidBadLine : status ≡ 3 → (line : ℕ) → IsBadInput all line → Appends old new (bad_line_text line) → InputEnded l n all old new status
  -- 6: its scenario is too long, and the line that says so is written
  SaidLong : status ≡ 6 → IsLongInput all → Appends old new too_long_text → InputEnded l n all old new status
  -- 5: a front of one of these is written
  RepliesCut : status ≡ 5 → (s : Served) → IsServedInput l n all s → IsFront old new (served_text s) → InputEnded l n all old new status
  BadLineCut : status ≡ 5 → (line : ℕ) → IsBadInput all line → IsFront old new (bad_line_text line) → InputEnded l n all old new status
  LongCut : status ≡ 5 → IsLongInput all → IsFront old new too_long_text → InputEnded l n all old new status

-- The input is all that the source gave, where it tells that, and is no longer than an input may be.
abbrev pub IsAllOf : Option (List ℕ) → Option (List ℕ) → List ℕ → Type 0
IsAllOf before after input = (all : List ℕ) → before ≡ Some all → (input ≡ all) × IsWithin 4194304 all after

-- more was read than that
abbrev pub IsMore : Option (List ℕ) → Option (List ℕ) → Type 0
IsMore before after = (all : List ℕ) → before ≡ Some all → IsBeyond 4194304 all after

-- How `serve l n` ended: `before` and `after` are what the source gives.
pub data SourceEnded (l n : ℕ) (before after old new : Option (List ℕ)) (status : ℕ) : Type 0 where
  -- 0, 1, 3, 5 or 6 of all that there was to read
  ReadWhole : (input : List ℕ) → IsAllOf before after input → InputEnded l n input old new status →
      SourceEnded l n before after old new status
  -- 6: more was read than an input may have, and the line that says so is written
  SaidTooLong : status ≡ 6 → IsMore before after → Appends old new too_long_text → SourceEnded l n before after old new status
  -- 5: a front of that line is written
  TooLongCut : status ≡ 5 → IsMore before after → IsFront old new too_long_text → SourceEnded l n before after old new status
  -- 1 or 4: it was out of memory, or the source failed, after some bytes were read
  Unread : (status ≡ 1) ⊎ (status ≡ 4) → ((all : List ℕ) → before ≡ Some all → (taken : List ℕ) × IsTaken all taken after) →
      SourceEnded l n before after old new status

-- How a call ended, by its words.
pub data Ended (words : List (List ℕ)) (before after old new : Option (List ℕ)) (status : ℕ) : Type 0 where
  ServesSource : (l n : ℕ) → IsServe words l n → SourceEnded l n before after old new status → Ended words before after old new status
  -- 2: the words are others, and the usage line is written; 5: a front of it
  SaidUsage : IsNoServe words → status ≡ 2 → Appends old new usage_text → Ended words before after old new status
  UsageCut : IsNoServe words → status ≡ 5 → IsFront old new usage_text → Ended words before after old new status

-- Which status the input calls for, where all that the source gives is told.
pub record IsDue (all : List ℕ) (status : ℕ) : Type 0 where
  pub input : length all ≤ 4194304 → IsInput all → IsUnhindered 0 status
  pub other : length all ≤ 4194304 → (IsInput all → ⊥) → (IsLongInput all → ⊥) → IsUnhindered 3 status
  pub longer : (4194304 < length all) ⊎ IsLongInput all → IsUnhindered 6 status
