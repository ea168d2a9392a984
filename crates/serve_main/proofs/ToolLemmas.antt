-- How the parts of a call of `serve_tool` end.
use Rattle.text_bytes.specs.Outside.{Appends}
use Rattle.text_bytes.specs.Pump.{IsBeyond, IsFront}
use Rattle.serve_requests.proofs.CutLemmas.{none_bad, one_cut}
use Rattle.serve_requests.specs.Input.{IsBadIn, IsCut}
use Rattle.serve_requests.specs.RequestLines.{AreRequests}
use Rattle.serve_main.specs.Tool.{AreServed, BadLineCut, Ended, InputEnded, IsAllOf, IsBadInput, IsDue, IsInput, IsLongInput, IsMore, IsNoServe, IsServedInput, LongCut, NoneReplied, InputParts, ReadWhole, Replied, RepliesCut, SaidBadLine, SaidLong, SaidTooLong, SaidUsage, Says, SourceEnded, TooLongCut, Unread, UsageCut, served_text, usage_text}
use Rattle.serve_main.specs.declared.serving.Served.{Served}
use Rattle.text_scenario.specs.Grammar.{IsTextOf, spelled}
use Rattle.text_scenario.specs.declared.tree.ScenarioText.{ScenarioText}
use Rattle.std.proofs.Common.{ap, arith, inl, inr, length-append, subst, sym, ⊎_elim, ◌∙◌}
use Rattle.std.proofs.lemmas.List.{length-take-le}
use Rattle.std.specs.Prelude.{List, Option, Some, drop, length, take, ℕ, ◌+◌, ◌<◌, ◌≡◌, ◌≤◌, ◌⊎◌}
use Rattle.task_run.specs.Tool.{IsUnhindered, bad_line_text, too_long_text}

abbrev Held : Type 0
Held = Option (List ℕ)

-- ---- All was said, or a front of it

pub replied : (l n : ℕ) (all : List ℕ) (old new : Held) (s : Served) (status : ℕ) → IsServedInput l n all s → (status ≡ 1) ⊎ Says old new (served_text s) 0 status → InputEnded l n all old new status
replied l n all old new s status is (inl none) = NoneReplied none
replied l n all old new s status is (inr (inl p)) = Replied s p.0 is p.1
replied l n all old new s status is (inr (inr p)) = RepliesCut p.0 s is p.1

pub said_bad_line : (l n : ℕ) (all : List ℕ) (old new : Held) (line status : ℕ) → IsBadInput all line → (status ≡ 1) ⊎ Says old new (bad_line_text line) 3 status → InputEnded l n all old new status
said_bad_line l n all old new line status bad (inl none) = NoneReplied none
said_bad_line l n all old new line status bad (inr (inl p)) = SaidBadLine p.0 line bad p.1
said_bad_line l n all old new line status bad (inr (inr p)) = BadLineCut p.0 line bad p.1

pub said_long : (l n : ℕ) (all : List ℕ) (old new : Held) (status : ℕ) → IsLongInput all → Says old new too_long_text 6 status → InputEnded l n all old new status
said_long l n all old new status long (inl p) = SaidLong p.0 long p.1
said_long l n all old new status long (inr p) = LongCut p.0 long p.1

pub said_too_long : (l n : ℕ) (before after old new : Held) (status : ℕ) → IsMore before after → Says old new too_long_text 6 status → SourceEnded l n before after old new status
said_too_long l n before after old new status more (inl p) = SaidTooLong p.0 more p.1
said_too_long l n before after old new status more (inr p) = TooLongCut p.0 more p.1

pub said_usage : (words : List (List ℕ)) (before after old new : Held) (status : ℕ) → IsNoServe words → Says old new usage_text 2 status → Ended words before after old new status
said_usage words before after old new status other (inl p) = SaidUsage other p.0 p.1
said_usage words before after old new status other (inr p) = UsageCut other p.0 p.1

-- ---- The parts of an input

module _ (input : List ℕ) (end count : ℕ) (cut : IsCut input (take end input) (drop end input) count) (inside : end ≤ length input) where
  abbrev pub parts_at : InputParts input
  parts_at = record { scenario = take end input; rest = drop end input; count = count; cut = cut }

  pub served_input : (l n : ℕ) (s : Served) → end ≤ 1048576 → AreServed (take end input) (drop end input) l n s → IsServedInput l n input s
  served_input l n s short served =
      let size = length-take-le end input inside in
      record { parts = parts_at; short = omega (arith, size, short); served_is = served }

  pub bad_input : (n : ℕ) → end ≤ 1048576 → IsBadIn (take end input) (drop end input) count n → IsBadInput input n
  bad_input n short bad =
      let size = length-take-le end input inside in
      record { parts = parts_at; short = omega (arith, size, short); bad = bad }

  pub long_input : 1048576 < end → IsLongInput input
  long_input long =
      let size = length-take-le end input inside in
      record { parts = parts_at; long = omega (arith, size, long) }

-- ---- Which status the input calls for

-- it has one scenario
not_long : (input : List ℕ) (p : InputParts input) → length p.scenario ≤ 1048576 → IsLongInput input → ⊥
not_long input p short is =
    let q = is.parts in
    let same = one_cut input p.scenario p.rest p.count q.scenario q.rest q.count p.cut q.cut in
    let size = ap (λ (bs : List ℕ). length bs) same.0 in
    let long = is.long in
    omega (arith, short, size, long)

not_bad : (input : List ℕ) (n : ℕ) → IsInput input → IsBadInput input n → ⊥
not_bad input n is bad =
    let p = is.parts in
    let q = bad.parts in
    let same = one_cut input p.scenario p.rest p.count q.scenario q.rest q.count p.cut q.cut in
    none_bad q.scenario q.rest q.count n is.tree is.requests
    (subst (λ (bs : List ℕ). IsTextOf is.tree bs) same.0 is.reads)
    (subst (λ (bs : List ℕ). AreRequests is.tree.instances (spelled bs) is.requests) same.1 is.are)
    bad.bad

input_of : (l n : ℕ) (input : List ℕ) (s : Served) → IsServedInput l n input s → IsInput input
input_of l n input s of = record {
  parts = of.parts;
  short = of.short;
  tree = of.served_is.tree;
  reads = of.served_is.reads;
  requests = of.served_is.requests;
  are = of.served_is.are;
}

hindered : (all : List ℕ) (status : ℕ) → (status ≡ 1) ⊎ ((status ≡ 4) ⊎ (status ≡ 5)) → IsDue all status
hindered all status is = record {
  input = λ short input. inr is;
  other = λ short none few. inr is;
  longer = λ long. inr is;
}

-- an input of which too much was read is too long
beyond : (all : List ℕ) (left : Held) → IsBeyond 4194304 all left → 4194304 < length all
beyond all left long =
    let parts : length long.taken + length long.read.rest ≡ length all = sym (length-append long.taken long.read.rest) ∙ ap (λ (bs : List ℕ). length bs) long.read.parts in
    let many : length long.taken ≡ 4194305 = long.long in
    omega (arith, parts, many)

too_long : (all : List ℕ) (after : Held) (status : ℕ) → IsBeyond 4194304 all after → status ≡ 6 → IsDue all status
too_long all after status long is =
    let many : 4194304 < length all = beyond all after long in
    record {
      input = λ short input. absurd (omega (arith, short, many));
      other = λ short none few. absurd (omega (arith, short, many));
      longer = λ more. inl is;
    }

of_input : (l n : ℕ) (all : List ℕ) (old new : Held) (status : ℕ) → length all ≤ 4194304 → InputEnded l n all old new status → IsDue all status
of_input l n all old new status short (Replied s is of written) = record {
  input = λ few input. inl is;
  other = λ few none others. absurd (none (input_of l n all s of));
  longer = ⊎_elim (λ many. absurd (omega (arith, short, many))) (λ long. absurd (not_long all of.parts of.short long));
}
of_input l n all old new status short (NoneReplied is) = hindered all status (inl is)
of_input l n all old new status short (SaidBadLine is line bad written) = record {
  input = λ few input. absurd (not_bad all line input bad);
  other = λ few none others. inl is;
  longer = ⊎_elim (λ many. absurd (omega (arith, short, many))) (λ long. absurd (not_long all bad.parts bad.short long));
}
of_input l n all old new status short (SaidLong is long written) = record {
  input = λ few input. absurd (not_long all input.parts input.short long);
  other = λ few none others. absurd (others long);
  longer = λ more. inl is;
}
of_input l n all old new status short (RepliesCut is s of front) = hindered all status (inr (inr is))
of_input l n all old new status short (BadLineCut is line bad front) = hindered all status (inr (inr is))
of_input l n all old new status short (LongCut is long front) = hindered all status (inr (inr is))

pub is_due : (l n : ℕ) (all : List ℕ) (before after old new : Held) (status : ℕ) → before ≡ Some all → SourceEnded l n before after old new status → IsDue all status
is_due l n all before after old new status told (ReadWhole input of ended) =
    let whole = of all told in
    of_input l n all old new status whole.1.short (subst (λ (bs : List ℕ). InputEnded l n bs old new status) whole.0 ended)
is_due l n all before after old new status told (SaidTooLong is long written) = too_long all after status (long all told) is
is_due l n all before after old new status told (TooLongCut is long front) = hindered all status (inr (inr is))
is_due l n all before after old new status told (Unread (inl is) part) = hindered all status (inl is)
is_due l n all before after old new status told (Unread (inr is) part) = hindered all status (inr (inl is))
