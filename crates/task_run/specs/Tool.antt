-- What a call of the program reads and writes, apart from what is run.
use Rattle.std.specs.Prelude.{◌≡◌, ◌⊎◌, ◌<◌, ◌≤◌, ℕ, Some, length, List, [], ◌∷◌, ◌++◌, Option, IsNone, codes, decimal}
use Rattle.task_run.specs.declared.program.Form.{Form}
use Rattle.task_run.specs.declared.program.Form.TheVariants as forms
use Rattle.task_run.specs.declared.program.End.{End}
use Rattle.task_run.specs.declared.program.End.TheVariants as ends
use Rattle.text_scenario.specs.Grammar.{IsBadLine}
use Rattle.machine_rules.specs.Texts as texts
use Rattle.task_run.specs.declared.program.ToolEnd.{ToolEnd}
use Rattle.task_run.specs.declared.report.Report.{Report}
use Rattle.task_run.specs.declared.scenario.Scenario.{Scenario}
use Rattle.task_run.specs.Headline.{IsReportOf}
use Rattle.task_run.specs.Lower.{Reads}
use Rattle.text_bytes.specs.Outside.{Appends}
use Rattle.text_bytes.specs.Pump.{IsFront, IsTaken, IsTooLong, IsWhole}
use Rattle.text_report.specs.Generated.{gen}
use Rattle.text_report.specs.Summary.{summary}

-- the words are `run N`, N from 1 to 1,000,000 in decimal without leading zeros
abbrev pub IsRun : List (List ℕ) → ℕ → Type 0
IsRun words n = (words ≡ codes "run" ∷ decimal n ∷ []) × (1 ≤ n) × (n ≤ 1000000)

-- `make N`, N from 1 to 256
abbrev pub IsMake : List (List ℕ) → ℕ → Type 0
IsMake words n = (words ≡ codes "make" ∷ decimal n ∷ []) × (1 ≤ n) × (n ≤ 256)

-- `big N K`, N from 1 to 256, K from 1 to 1,000,000
abbrev pub IsBig : List (List ℕ) → ℕ → ℕ → Type 0
IsBig words n k = (words ≡ codes "big" ∷ decimal n ∷ decimal k ∷ []) × (1 ≤ n) × (n ≤ 256) × (1 ≤ k) × (k ≤ 1000000)

abbrev pub IsForm : List (List ℕ) → Form → Type 0
IsForm words (forms.Run n) = IsRun words n
IsForm words (forms.Make n) = IsMake words n
IsForm words (forms.Big n k) = IsBig words n k

abbrev pub IsNoForm : List (List ℕ) → Type 0
IsNoForm words = (form : Form) → IsForm words form → ⊥

abbrev pub bad_line_text : ℕ → List ℕ
bad_line_text n = codes "bad scenario line " ++ decimal n ++ codes "\n"

abbrev pub usage_text : List ℕ
usage_text = codes "usage: run STEPS, make NUMBER, big NUMBER STEPS, beside STEPS\n"

abbrev pub too_long_text : List ℕ
too_long_text = codes "text too long\n"

-- the status of an end that ran nothing
abbrev pub status_of : End → ℕ
status_of ends.NoMemory = 1
status_of ends.WrongWords = 2
status_of ends.BadScenario = 3
status_of ends.ReadFailed = 4
status_of ends.WriteFailed = 5
status_of ends.TooLong = 6

-- all of the text was appended, or a front of it, where the sink failed
abbrev pub SaysOrFails : Option (List ℕ) → Option (List ℕ) → List ℕ → End → End → Type 0
SaysOrFails old new text end result = ((result ≡ end) × Appends old new text) ⊎ ((result ≡ ends.WriteFailed) × IsFront old new text)

-- a call that ended with this status, and without a report
abbrev pub EndsAt : ToolEnd → ℕ → Type 0
EndsAt end status = (end.status ≡ status) × IsNone end.report

-- all of the text was appended, and this is reported, or a front of it, where the sink failed
abbrev pub PutsOrFails : Option (List ℕ) → Option (List ℕ) → List ℕ → Option Report → ToolEnd → Type 0
PutsOrFails old new text report end =
    ((end.status ≡ 0) × (end.report ≡ report) × Appends old new text) ⊎ (EndsAt end 5 × IsFront old new text)

-- How `run n` ended of a text that was read whole, one line a status: `old` and `new` are what the sink holds.
pub data TextEnded (n : ℕ) (all : List ℕ) (old new : Option (List ℕ)) (end : ToolEnd) : Type 0 where
  -- 0: the report of a run of the scenario that the text represents is written
  Reported : (r : Report) → end.status ≡ 0 → end.report ≡ Some r → IsReportOf all n r → Appends old new (texts.text r.trace r.outcome) →
      TextEnded n all old new end
  -- 1: it was out of memory
  NoneReported : EndsAt end 1 → TextEnded n all old new end
  -- 3: the text is outside the grammar, and its bad line is written
  SaidBadLine : EndsAt end 3 → (line : ℕ) → IsBadLine all line → Appends old new (bad_line_text line) → TextEnded n all old new end
  -- 5: a front of the one or the other is written
  ReportCut : EndsAt end 5 → (r : Report) → IsReportOf all n r → IsFront old new (texts.text r.trace r.outcome) →
      TextEnded n all old new end
  BadLineCut : EndsAt end 5 → (line : ℕ) → IsBadLine all line → IsFront old new (bad_line_text line) → TextEnded n all old new end

-- The text is all that the source gave, where it tells that, and is no longer than a text may be.
abbrev pub IsAllOf : Option (List ℕ) → Option (List ℕ) → List ℕ → Type 0
IsAllOf before after text = (all : List ℕ) → before ≡ Some all → (text ≡ all) × IsWhole all after

-- How `run n` ended: `before` and `after` are what the source gives.
pub data RunEnded (n : ℕ) (before after old new : Option (List ℕ)) (end : ToolEnd) : Type 0 where
  -- 0, 1, 3 or 5 of all that there was to read
  ReadWhole : (text : List ℕ) → IsAllOf before after text → TextEnded n text old new end → RunEnded n before after old new end
  -- 6: more was read than a text may have, and the line that says so is written
  SaidTooLong : EndsAt end 6 → ((all : List ℕ) → before ≡ Some all → IsTooLong all after) → Appends old new too_long_text →
      RunEnded n before after old new end
  -- 5: a front of that line is written
  TooLongCut : EndsAt end 5 → ((all : List ℕ) → before ≡ Some all → IsTooLong all after) → IsFront old new too_long_text →
      RunEnded n before after old new end
  -- 1 or 4: it was out of memory, or the source failed, after some bytes were read
  Unread : EndsAt end 1 ⊎ EndsAt end 4 → ((all : List ℕ) → before ≡ Some all → (taken : List ℕ) × IsTaken all taken after) →
      RunEnded n before after old new end

-- How `make n` ended.
pub data MakeEnded (n : ℕ) (old new : Option (List ℕ)) (end : ToolEnd) : Type 0 where
  Generated : EndsAt end 0 → Appends old new (gen n) → MakeEnded n old new end
  NoneGenerated : EndsAt end 1 → MakeEnded n old new end
  GeneratedCut : EndsAt end 5 → IsFront old new (gen n) → MakeEnded n old new end

-- How `big n k` ended: the report is of a run of the generated scenario.
pub data BigEnded (n k : ℕ) (old new : Option (List ℕ)) (end : ToolEnd) : Type 0 where
  Summed : (r : Report) → end.status ≡ 0 → end.report ≡ Some r → IsReportOf (gen n) k r → Appends old new (summary r.trace r.outcome) →
      BigEnded n k old new end
  NoneSummed : EndsAt end 1 → BigEnded n k old new end
  SummaryCut : EndsAt end 5 → (r : Report) → IsReportOf (gen n) k r → IsFront old new (summary r.trace r.outcome) → BigEnded n k old new end

-- How a call ended, by its words.
pub data Ended (words : List (List ℕ)) (before after old new : Option (List ℕ)) (end : ToolEnd) : Type 0 where
  RunsText : (n : ℕ) → IsRun words n → RunEnded n before after old new end → Ended words before after old new end
  Makes : (n : ℕ) → IsMake words n → MakeEnded n old new end → Ended words before after old new end
  RunsGenerated : (n k : ℕ) → IsBig words n k → BigEnded n k old new end → Ended words before after old new end
  SaidUsage : IsNoForm words → EndsAt end 2 → Appends old new usage_text → Ended words before after old new end
  UsageCut : IsNoForm words → EndsAt end 5 → IsFront old new usage_text → Ended words before after old new end

-- this status, unless it was out of memory, or the source or the sink failed
abbrev pub IsUnhindered : ℕ → ℕ → Type 0
IsUnhindered due status = (status ≡ due) ⊎ ((status ≡ 1) ⊎ ((status ≡ 4) ⊎ (status ≡ 5)))

-- Which status of `run` the input calls for, where all that the source gives is told.
pub record IsDue (all : List ℕ) (status : ℕ) : Type 0 where
  pub scenario : (x : Scenario) → length all ≤ 1048576 → Reads all x → IsUnhindered 0 status
  pub other : length all ≤ 1048576 → ((x : Scenario) → ¬ Reads all x) → IsUnhindered 3 status
  pub longer : 1048576 < length all → IsUnhindered 6 status
