-- How the parts of a call of the program end.
use Rattle.beside_main.specs.Report.{IsReportOn}
use Rattle.beside_main.specs.Tool.{BadLineCut, Ended, EndsAt, IsBeside, NoneReported, ReadWhole, ReportCut, Reported, SaidBadLine, SaidTooLong, SaidUsage, SaysBadLine, TextEnded, Unread, Writes}
use Rattle.beside_main.specs.declared.program.BesideEnd.{BesideEnd}
use Rattle.beside_main.specs.declared.report.BesideReport.{BesideReport}
use Rattle.text_scenario.specs.Grammar.{IsBadLine}
use Rattle.std.proofs.Common.{ap, arith, inl, inr, subst, sym, ◌∙◌}
use Rattle.std.specs.Prelude.{List, Option, Some, length, ℕ, ◌≡◌, ◌≢◌, ◌≤◌}
use Rattle.task_run.proofs.ToolLemmas.{hindered, too_long}
use Rattle.task_run.specs.Tool.{IsDue}
use Rattle.machine_rules.specs.Texts.{text}

abbrev Held : Type 0
Held = Option (List ℕ)

-- another status than 5 is no failure of the sink
pub not_cut : (end : BesideEnd) (status : ℕ) → EndsAt end status → status ≢ 5 → end.status ≢ 5
not_cut end status ends other is = other (sym ends.0 ∙ is)

pub said_bad_line : (n : ℕ) (all : List ℕ) (old new : Held) (end : BesideEnd) (line : ℕ) → IsBadLine all line → SaysBadLine old new line end → TextEnded n all old new end
said_bad_line n all old new end line bad (inl none) = NoneReported none
said_bad_line n all old new end line bad (inr (inl p)) = SaidBadLine p.0 line bad p.1
said_bad_line n all old new end line bad (inr (inr p)) = BadLineCut p.0 line bad p.1

pub wrote_report : (n : ℕ) (all : List ℕ) (old new : Held) (end : BesideEnd) (r : BesideReport) → IsReportOn all n r → Writes old new (text r.report.trace r.report.outcome) r end →
    TextEnded n all old new end
wrote_report n all old new end r of (inl p) = Reported r p.0 p.1 of p.2
wrote_report n all old new end r of (inr p) = ReportCut p.0 r of p.1

-- ---- Which status the input calls for

of_text : (n : ℕ) (all : List ℕ) (old new : Held) (end : BesideEnd) → length all ≤ 1048576 → TextEnded n all old new end → IsDue all end.status
of_text n all old new end short (Reported r status report of written) = record {
  scenario = λ x short reads. inl status;
  other = λ short none. absurd (none of.scenario of.reads);
  longer = λ long. absurd (omega (arith, short, long));
}
of_text n all old new end short (NoneReported is) = hindered all end.status (inl is.0)
of_text n all old new end short (SaidBadLine is line bad written) = record {
  scenario = λ x short reads. absurd (bad.past reads.0 reads.1);
  other = λ short none. inl is.0;
  longer = λ long. absurd (omega (arith, short, long));
}
of_text n all old new end short (ReportCut is r of front) = hindered all end.status (inr (inr is.0))
of_text n all old new end short (BadLineCut is line bad front) = hindered all end.status (inr (inr is.0))

pub is_due : (words : List (List ℕ)) (before after old new : Held) (end : BesideEnd) → Ended words before after old new end →
    (n : ℕ) (all : List ℕ) → IsBeside words n → before ≡ Some all → IsDue all end.status
is_due words before after old new end (ReadWhole m is bytes of ended) n all form told =
    let whole = of all told in of_text m all old new end whole.1.short (subst (λ (bs : List ℕ). TextEnded m bs old new end) whole.0 ended)
is_due words before after old new end (SaidTooLong m is long (inl said)) n all form told = too_long all after end.status (long all told) said.0.0
is_due words before after old new end (SaidTooLong m is long (inr cut)) n all form told = hindered all end.status (inr (inr cut.0.0))
is_due words before after old new end (Unread m is (inl none) part) n all form told = hindered all end.status (inl none.0)
is_due words before after old new end (Unread m is (inr failed) part) n all form told = hindered all end.status (inr (inl failed.0))
is_due words before after old new end (SaidUsage none said) n all form told = absurd (none n form)
