-- How the parts of a call of `choice_tool` end.
use Rattle.choice_run.proofs.LoopLemmas.{front_choices}
use Rattle.choice_run.specs.ChooseLines.{AreChoices}
use Rattle.choice_run.specs.Tool.{BadLine, Cut, Ended, InputEnded, InputParts, IsBadAfter, IsBadIn, IsBadInput, IsDue, IsDueFor, IsInput, IsLongInput, IsMore, IsNoChoose, IsRunStatus, IsSaid, NoneSaid, ReadWhole, Runs, RunsInput, RunsTexts, Said, SaidTooLong, SaidUsage, SourceEnded, TooLong, TooLongCut, Unread, UsageCut, Writes, usage_text}
use Rattle.choice_run.specs.declared.run.ChoiceError.TheVariants as choice_error
use Rattle.choice_run.specs.declared.run.ChoiceError.{ChoiceError}
use Rattle.choice_run.specs.declared.run.ChosenReport.{ChosenReport}
use Rattle.serve_requests.proofs.CutLemmas.{one_cut}
use Rattle.serve_requests.specs.Input.{IsCut}
use Rattle.std.proofs.Common.{ap, arith, inl, inr, length-append, refl, subst, sym, ⊎_elim, ◌∙◌}
use Rattle.std.proofs.lemmas.List.{length-take-le}
use Rattle.std.specs.Prelude.{Err, List, Ok, Option, Result, Some, drop, length, take, ℕ, ◌+◌, ◌-◌, ◌<◌, ◌≡◌, ◌≤◌, ◌⊎◌}
use Rattle.task_run.specs.Tool.{bad_line_text, too_long_text}
use Rattle.text_bytes.specs.Pump.{IsBeyond}
use Rattle.text_scenario.specs.Grammar.{IsTextOf, spelled}

abbrev Held : Type 0
Held = Option (List ℕ)

-- ---- All was said, or a front of it

pub said : (steps : ℕ) (all : List ℕ) (old new : Held) (due status : ℕ) (out : List ℕ) → IsDueFor steps all due out → Writes old new out due status → InputEnded steps all old new status
said steps all old new due status out is (inl p) = Said out (subst (λ (k : ℕ). IsDueFor steps all k out) (sym p.0) is) p.1
said steps all old new due status out is (inr p) = Cut p.0 due out is p.1

pub said_or_full : (steps : ℕ) (all : List ℕ) (old new : Held) (due status : ℕ) (out : List ℕ) → IsDueFor steps all due out → (status ≡ 1) ⊎ Writes old new out due status → InputEnded steps all old new status
said_or_full steps all old new due status out is (inl none) = NoneSaid none
said_or_full steps all old new due status out is (inr p) = said steps all old new due status out is p

pub said_too_long : (steps : ℕ) (before after old new : Held) (status : ℕ) → IsMore before after → Writes old new too_long_text 6 status → SourceEnded steps before after old new status
said_too_long steps before after old new status more (inl p) = SaidTooLong p.0 more p.1
said_too_long steps before after old new status more (inr p) = TooLongCut p.0 more p.1

pub said_usage : (words : List (List ℕ)) (before after old new : Held) (status : ℕ) → IsNoChoose words → Writes old new usage_text 2 status → Ended words before after old new status
said_usage words before after old new status other (inl p) = SaidUsage other p.0 p.1
said_usage words before after old new status other (inr p) = UsageCut other p.0 p.1

-- ---- The parts of an input

module _ (input : List ℕ) (end count : ℕ) (cut : IsCut input (take end input) (drop end input) count) (inside : end ≤ length input) where
  abbrev pub parts_at : end ≤ 1048576 → InputParts input
  parts_at short = record {
    scenario = take end input;
    rest = drop end input;
    count = count;
    cut = cut;
    short = let size = length-take-le end input inside in omega (arith, size, short);
  }

  pub runs_due : (short : end ≤ 1048576) (steps : ℕ) (r : Result ChosenReport ChoiceError) → RunsTexts steps (take end input) (drop end input) r → (status : ℕ) (out : List ℕ) → IsSaid r status out → IsDueFor steps input status out
  runs_due short steps r runs status out is = Runs r (record { parts = parts_at short; runs = runs }) is

  pub bad_due : (short : end ≤ 1048576) (steps n : ℕ) → IsBadIn (take end input) (drop end input) count n → IsDueFor steps input 3 (bad_line_text n)
  bad_due short steps n bad = BadLine refl n (record { parts = parts_at short; bad = bad }) refl

  pub long_due : (steps : ℕ) → 1048576 < end → IsDueFor steps input 6 too_long_text
  long_due steps long =
      TooLong refl
      (record { scenario = take end input; rest = drop end input; count = count; cut = cut; long = let size = length-take-le end input inside in omega (arith, size, long) }) refl

-- ---- Which status the input calls for

not_long : (input : List ℕ) → InputParts input → IsLongInput input → ⊥
not_long input p q =
    let same = one_cut input p.scenario p.rest p.count q.scenario q.rest q.count p.cut q.cut in
    let size = ap (λ (bs : List ℕ). length bs) same.0 in
    let short = p.short in
    let long = q.long in
    omega (arith, short, size, long)

-- an input of a scenario and choices has no bad line
not_bad : (input : List ℕ) (n : ℕ) → IsInput input → IsBadInput input n → ⊥
not_bad input n is bad =
    let p = is.parts in
    let q = bad.parts in
    let same = one_cut input p.scenario p.rest p.count q.scenario q.rest q.count p.cut q.cut in
    by same.0 same.1 bad.bad
  where
    by : is.parts.scenario ≡ bad.parts.scenario → is.parts.rest ≡ bad.parts.rest → IsBadIn bad.parts.scenario bad.parts.rest bad.parts.count n → ⊥
    by one two (inl line) = line.past is.reads.0 (subst (λ (bs : List ℕ). IsTextOf is.reads.0 bs) one is.reads.1)
    by one two (inr after) =
        after.bad.at (take (n - bad.parts.count) is.choices)
        (front_choices (spelled bad.parts.rest) is.choices (n - bad.parts.count) (subst (λ (bs : List ℕ). AreChoices (spelled bs) is.choices) two is.are))

input_of : (steps : ℕ) (input : List ℕ) (r : Result ChosenReport ChoiceError) → RunsInput steps input r → IsInput input
input_of steps input r of = record { parts = of.parts; of = of.runs.of; reads = of.runs.reads; choices = of.runs.choices; are = of.runs.are }

hindered : (all : List ℕ) (status : ℕ) → (status ≡ 1) ⊎ ((status ≡ 4) ⊎ (status ≡ 5)) → IsDue all status
hindered all status is = record { input = λ short input. inl (inr is); other = λ short none few. inr is; longer = λ long. inr is }

-- an input of which too much was read is too long
beyond : (all : List ℕ) (left : Held) → IsBeyond 16777216 all left → 16777216 < length all
beyond all left long =
    let parts : length long.taken + length long.read.rest ≡ length all = sym (length-append long.taken long.read.rest) ∙ ap (λ (bs : List ℕ). length bs) long.read.parts in
    let many : length long.taken ≡ 16777217 = long.long in
    omega (arith, parts, many)

too_long : (all : List ℕ) (after : Held) (status : ℕ) → IsBeyond 16777216 all after → status ≡ 6 → IsDue all status
too_long all after status long is =
    let many : 16777216 < length all = beyond all after long in
    record {
      input = λ short input. absurd (omega (arith, short, many));
      other = λ short none few. absurd (omega (arith, short, many));
      longer = λ more. inl is;
    }

run_status : (r : Result ChosenReport ChoiceError) (status : ℕ) (out : List ℕ) → IsSaid r status out → IsRunStatus status
run_status (Ok r) status out is = inl (inl is.0)
run_status (Err (choice_error.Wrong k)) status out is = inr (inl (inl is.0))
run_status (Err (choice_error.Short n)) status out is = inr (inr (inl is.0))
run_status (Err choice_error.NoMemory) status out is = absurd is
run_status (Err (choice_error.BadScenario n)) status out is = absurd is

of_due : (steps : ℕ) (all : List ℕ) (status : ℕ) (out : List ℕ) → length all ≤ 16777216 → IsDueFor steps all status out → IsDue all status
of_due steps all status out short (Runs r of is) = record {
  input = λ few input. run_status r status out is;
  other = λ few none others. absurd (none (input_of steps all r of));
  longer = ⊎_elim (λ many. absurd (omega (arith, short, many))) (λ long. absurd (not_long all of.parts long));
}
of_due steps all status out short (BadLine is line bad text) = record {
  input = λ few input. absurd (not_bad all line input bad);
  other = λ few none others. inl is;
  longer = ⊎_elim (λ many. absurd (omega (arith, short, many))) (λ long. absurd (not_long all bad.parts long));
}
of_due steps all status out short (TooLong is long text) = record {
  input = λ few input. absurd (not_long all input.parts long);
  other = λ few none others. absurd (others long);
  longer = λ more. inl is;
}

of_input : (steps : ℕ) (all : List ℕ) (old new : Held) (status : ℕ) → length all ≤ 16777216 → InputEnded steps all old new status → IsDue all status
of_input steps all old new status short (Said out is written) = of_due steps all status out short is
of_input steps all old new status short (NoneSaid is) = hindered all status (inl is)
of_input steps all old new status short (Cut is due out for front) = hindered all status (inr (inr is))

pub is_due : (steps : ℕ) (all : List ℕ) (before after old new : Held) (status : ℕ) → before ≡ Some all → SourceEnded steps before after old new status → IsDue all status
is_due steps all before after old new status told (ReadWhole input of ended) =
    let whole = of all told in
    of_input steps all old new status whole.1.short (subst (λ (bs : List ℕ). InputEnded steps bs old new status) whole.0 ended)
is_due steps all before after old new status told (SaidTooLong is long written) = too_long all after status (long all told) is
is_due steps all before after old new status told (TooLongCut is long front) = hindered all status (inr (inr is))
is_due steps all before after old new status told (Unread (inl is) part) = hindered all status (inl is)
is_due steps all before after old new status told (Unread (inr is) part) = hindered all status (inr (inl is))
