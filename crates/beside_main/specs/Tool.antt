-- What a call of the program with the words `beside STEPS` reads and writes, apart from what is run.
use Rattle.beside_main.specs.Report.{IsReportOn}
use Rattle.beside_main.specs.declared.program.BesideEnd.{BesideEnd}
use Rattle.beside_main.specs.declared.report.BesideReport.{BesideReport}
use Rattle.text_bytes.specs.Outside.{Appends}
use Rattle.text_bytes.specs.Pump.{IsFront, IsTaken, IsTooLong}
use Rattle.text_scenario.specs.Grammar.{IsBadLine}
use Rattle.std.specs.Prelude.{IsNone, List, Option, Some, [], codes, decimal, ℕ, ◌∷◌, ◌≡◌, ◌≤◌, ◌⊎◌}
use Rattle.machine_rules.specs.Texts as texts
use Rattle.task_run.specs.Tool.{IsAllOf, bad_line_text, too_long_text, usage_text}

-- the words are `beside N`, N from 1 to 1,000,000 in decimal without leading zeros
abbrev pub IsBeside : List (List ℕ) → ℕ → Type 0
IsBeside words n = (words ≡ codes "beside" ∷ decimal n ∷ []) × (1 ≤ n) × (n ≤ 1000000)

-- a call that ended with this status, and without a report
abbrev pub EndsAt : BesideEnd → ℕ → Type 0
EndsAt end status = (end.status ≡ status) × IsNone end.report

-- all of a text was said, and the call ended with this status; or a front of it, where the sink failed
abbrev pub Says : Option (List ℕ) → Option (List ℕ) → List ℕ → ℕ → BesideEnd → Type 0
Says old new text status end = (EndsAt end status × Appends old new text) ⊎ (EndsAt end 5 × IsFront old new text)

-- so was the line that names a bad line, unless it was out of memory
abbrev pub SaysBadLine : Option (List ℕ) → Option (List ℕ) → ℕ → BesideEnd → Type 0
SaysBadLine old new line end = EndsAt end 1 ⊎ Says old new (bad_line_text line) 3 end

-- so was the text of a report, which is answered where all of it was
abbrev pub Writes : Option (List ℕ) → Option (List ℕ) → List ℕ → BesideReport → BesideEnd → Type 0
Writes old new text r end = ((end.status ≡ 0) × (end.report ≡ Some r) × Appends old new text) ⊎ (EndsAt end 5 × IsFront old new text)

-- How `beside n` ended of a text that was read whole, one line a status: `old` and `new` are what the sink holds.
pub data TextEnded (n : ℕ) (all : List ℕ) (old new : Option (List ℕ)) (end : BesideEnd) : Type 0 where
  -- 0: the report of a run beside the aborters of the scenario that the text represents is written
  Reported : (r : BesideReport) → end.status ≡ 0 → end.report ≡ Some r → IsReportOn all n r →
      Appends old new (texts.text r.report.trace r.report.outcome) → TextEnded n all old new end
  -- 1: it was out of memory
  NoneReported : EndsAt end 1 → TextEnded n all old new end
  -- 3: the text is outside the grammar, and its bad line is written
  SaidBadLine : EndsAt end 3 → (line : ℕ) → IsBadLine all line → Appends old new (bad_line_text line) → TextEnded n all old new end
  -- 5: a front of the one or the other is written
  ReportCut : EndsAt end 5 → (r : BesideReport) → IsReportOn all n r → IsFront old new (texts.text r.report.trace r.report.outcome) →
      TextEnded n all old new end
  BadLineCut : EndsAt end 5 → (line : ℕ) → IsBadLine all line → IsFront old new (bad_line_text line) → TextEnded n all old new end

-- How a call ended, by its words: `before` and `after` are what the source gives.
pub data Ended (words : List (List ℕ)) (before after old new : Option (List ℕ)) (end : BesideEnd) : Type 0 where
  -- 0, 1, 3 or 5 of all that there was to read
  ReadWhole : (n : ℕ) → IsBeside words n → (text : List ℕ) → IsAllOf before after text → TextEnded n text old new end →
      Ended words before after old new end
  -- 6: more was read than a text may have, and the line that says so is written; or 5, and a front of it is
  SaidTooLong : (n : ℕ) → IsBeside words n → ((all : List ℕ) → before ≡ Some all → IsTooLong all after) →
      Says old new too_long_text 6 end → Ended words before after old new end
  -- 1 or 4: it was out of memory, or the source failed, after some bytes were read
  Unread : (n : ℕ) → IsBeside words n → EndsAt end 1 ⊎ EndsAt end 4 →
      ((all : List ℕ) → before ≡ Some all → (taken : List ℕ) × IsTaken all taken after) → Ended words before after old new end
  -- 2: the words are none of the form, and the usage line is written; or 5, and a front of it is
  SaidUsage : ((n : ℕ) → IsBeside words n → ⊥) → Says old new usage_text 2 end →
      Ended words before after old new end
