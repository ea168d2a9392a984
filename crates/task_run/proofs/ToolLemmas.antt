-- How the parts of a call of the program end.
use Rattle.std.proofs.Common.{◌≡◌, ◌⊎◌, ◌∙◌, ◌+◌, ◌<◌, ◌≤◌, ℕ, List, inl, inr, length, length-append, refl, ap, sym, subst, arith}
use Rattle.std.proofs.Common.{Some, None}
use Rattle.std.specs.Prelude.{Option}
use Rattle.task_run.specs.declared.program.End.{End}
use Rattle.task_run.specs.declared.program.End.TheVariants as ends
use Rattle.machine_rules.specs.Texts.{text}
use Rattle.task_run.specs.declared.program.ToolEnd.{ToolEnd}
use Rattle.task_run.specs.declared.report.Report.{Report}
use Rattle.task_run.specs.Headline.{IsReportOf}
use Rattle.text_scenario.specs.Grammar.{IsBadLine}
use Rattle.text_bytes.specs.Outside.{Appends}
use Rattle.text_bytes.specs.Pump.{IsFront, IsTooLong}
use Rattle.text_report.specs.Generated.{gen}
use Rattle.text_report.specs.Summary.{summary}
use Rattle.task_run.specs.Tool.{BadLineCut, Generated, GeneratedCut, NoneReported, ReadWhole, ReportCut, Reported, SaidBadLine, SaidTooLong, Summed, SummaryCut, TooLongCut, Unread, BigEnded, EndsAt, IsDue, MakeEnded, RunEnded, SaysOrFails, TextEnded, bad_line_text, status_of}

-- all was said, or a front of it

abbrev Held : Type 0
Held = Option (List ℕ)

at : (end : ToolEnd) (e f : End) → e ≡ f → EndsAt end (status_of e) → EndsAt end (status_of f)
at end e f same is = subst (λ (x : End). EndsAt end (status_of x)) same is

pub said_bad_line : (n : ℕ) (all : List ℕ) (old new : Held) (e : End) (end : ToolEnd) (line : ℕ) → IsBadLine all line → EndsAt end (status_of e) → (e ≡ ends.NoMemory) ⊎ SaysOrFails old new (bad_line_text line) ends.BadScenario e → TextEnded n all old new end
said_bad_line n all old new e end line bad is (inl none) = NoneReported (at end e ends.NoMemory none is)
said_bad_line n all old new e end line bad is (inr (inl p)) = SaidBadLine (at end e ends.BadScenario p.0 is) line bad p.1
said_bad_line n all old new e end line bad is (inr (inr p)) = BadLineCut (at end e ends.WriteFailed p.0 is) line bad p.1

-- a report was begun
pub cut_report : (n : ℕ) (all : List ℕ) (old new : Held) (e : End) (end : ToolEnd) (r : Report) → IsReportOf all n r → EndsAt end (status_of e) → (e ≡ ends.NoMemory) ⊎ (e ≡ ends.WriteFailed) → IsFront old new (text r.trace r.outcome) → TextEnded n all old new end
cut_report n all old new e end r of is (inl none) front = NoneReported (at end e ends.NoMemory none is)
cut_report n all old new e end r of is (inr fails) front = ReportCut (at end e ends.WriteFailed fails is) r of front

-- what `put` says, of the generated scenario and of a summary

abbrev Put : ToolEnd → Option Report → Held → Held → List ℕ → Type 0
Put end report old new bytes = ((end.status ≡ 0) × (end.report ≡ report) × Appends old new bytes) ⊎ (EndsAt end 5 × IsFront old new bytes)

pub made : (n : ℕ) (old new : Held) (end : ToolEnd) (bytes : List ℕ) → bytes ≡ gen n → Put end None old new bytes → MakeEnded n old new end
made n old new end bytes same (inl p) = Generated (p.0, rw p.1 refl) (subst (λ (bs : List ℕ). Appends old new bs) same p.2)
made n old new end bytes same (inr p) = GeneratedCut p.0 (subst (λ (bs : List ℕ). IsFront old new bs) same p.1)

pub summed : (n k : ℕ) (old new : Held) (end : ToolEnd) (r : Report) (bytes : List ℕ) → bytes ≡ summary r.trace r.outcome → IsReportOf (gen n) k r → Put end (Some r) old new bytes → BigEnded n k old new end
summed n k old new end r bytes same of (inl p) = Summed r p.0 p.1 of (subst (λ (bs : List ℕ). Appends old new bs) same p.2)
summed n k old new end r bytes same of (inr p) = SummaryCut p.0 r of (subst (λ (bs : List ℕ). IsFront old new bs) same p.1)

-- which status the input calls for

-- a text of which too much was read is too long
longer : (all : List ℕ) (left : Held) → IsTooLong all left → 1048576 < length all
longer all left long =
    let parts : length long.taken + length long.read.rest ≡ length all = sym (length-append long.taken long.read.rest) ∙ ap (λ (bs : List ℕ). length bs) long.read.parts in
    let many : length long.taken ≡ 1048577 = long.long in
    omega arith

pub hindered : (all : List ℕ) (status : ℕ) → (status ≡ 1) ⊎ ((status ≡ 4) ⊎ (status ≡ 5)) → IsDue all status
hindered all status is = record {
  scenario = λ x short reads. inr is;
  other = λ short none. inr is;
  longer = λ long. inr is;
}

pub too_long : (all : List ℕ) (after : Held) (status : ℕ) → IsTooLong all after → (status ≡ 6) → IsDue all status
too_long all after status long is =
    let many : 1048576 < length all = longer all after long in
    record {
      scenario = λ x short reads. absurd (omega (arith, short, many));
      other = λ short none. absurd (omega (arith, short, many));
      longer = λ long. inl is;
    }

of_text : (n : ℕ) (all : List ℕ) (old new : Held) (end : ToolEnd) → length all ≤ 1048576 → TextEnded n all old new end → IsDue all end.status
of_text n all old new end short (Reported r status report of written) = record {
  scenario = λ x short reads. inl status;
  other = λ short none. absurd (none of.scenario of.reads);
  longer = λ long. absurd (omega (arith, short, long));
}
of_text n all old new end short (NoneReported is) = hindered all end.status (inl is.0)
of_text n all old new end short (SaidBadLine is line bad written) = record {
  scenario = λ x short reads. absurd (bad.past reads.0 reads.1);
  other = λ short none. inl is.0;
  longer = λ long. absurd (omega (arith, short, long));
}
of_text n all old new end short (ReportCut is r of front) = hindered all end.status (inr (inr is.0))
of_text n all old new end short (BadLineCut is line bad front) = hindered all end.status (inr (inr is.0))

pub is_due : (n : ℕ) (all : List ℕ) (before after old new : Held) (end : ToolEnd) → before ≡ Some all → RunEnded n before after old new end → IsDue all end.status
is_due n all before after old new end told (ReadWhole bytes of ended) =
    let whole = of all told in
    of_text n all old new end whole.1.short (subst (λ (bs : List ℕ). TextEnded n bs old new end) whole.0 ended)
is_due n all before after old new end told (SaidTooLong is long written) = too_long all after end.status (long all told) is.0
is_due n all before after old new end told (TooLongCut is long front) = hindered all end.status (inr (inr is.0))
is_due n all before after old new end told (Unread (inl is) part) = hindered all end.status (inl is.0)
is_due n all before after old new end told (Unread (inr is) part) = hindered all end.status (inr (inl is.0))
