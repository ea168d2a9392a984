use Rattle.serve_requests.proofs.InputLemmas.{ends_here, ends_nowhere, one_further}
use Rattle.serve_requests.proofs.input.scenario_end.Goals as goal
use Rattle.std.proofs.Common.{ap, arith, eqb, sym, ◌∙◌}
use Rattle.std.proofs.lemmas.List.{take_rest}
use Rattle.std.proofs.lemmas.Slice.Eq.{bytes_eq-Decides}
use Rattle.std.specs.Prelude.{List, None, Option, Some, drop, false, length, position, take, true, ℕ, ◌+◌, ◌-◌, ◌≡◌, ◌≢◌}
use Rattle.std.specs.Str.{bytes_eq}

found : (input : List ℕ) (at : ℕ) (o : Option ℕ) → o ≡ position (λ b. eqb b 10) (take (length input - at) (drop at input)) → position (λ b. eqb b 10) (drop at input) ≡ o
found input at o is = ap (λ (bs : List ℕ). position (λ b. eqb b 10) bs) (sym (take_rest input at)) ∙ sym is

the_line : (input : List ℕ) (at i : ℕ) → take (at + i - at) (drop at input) ≡ take i (drop at input)
the_line input at i = ap (λ (k : ℕ). take k (drop at input)) (omega arith)

said_true : (xs ys : List ℕ) → true ≡ bytes_eq xs ys → xs ≡ ys
said_true xs ys is = (bytes_eq-Decides xs ys).0 (sym is)

said_false : (xs ys : List ℕ) → false ≡ bytes_eq xs ys → xs ≢ ys
said_false xs ys is same = let so = (bytes_eq-Decides xs ys).1 same in absurd (cc)

pub returns-then-eq-clause-cut : goal.returns-then-eq-clause-cut
returns-then-eq-clause-cut c =
    let input = c.args.input.now in
    let at = c.loop-end.at in
    ends_here input at c.loop-end.lines c.in-Some.end c.loop-end.invariant (found input at (Some c.in-Some.end) c.in-Some.ensures.place) (sym (the_line input at c.in-Some.end) ∙ (said_true _ _ c.if-eq.ensures ∙ c.as_slice.ensures))

pub loop-end-preserved : goal.loop-end-preserved
loop-end-preserved c =
    let input = c.args.input.now in
    let at = c.loop-end.at in
    one_further input at c.loop-end.lines c.in-Some.end c.loop-end.invariant (found input at (Some c.in-Some.end) c.in-Some.ensures.place) (λ is. said_false _ _ c.if-eq.ensures (the_line input at c.in-Some.end ∙ (is ∙ sym c.as_slice.ensures)))

pub returns-clause-cut : goal.returns-clause-cut
returns-clause-cut c =
    let input = c.args.input.now in
    let at = c.loop-end.at in
    ends_nowhere input at c.loop-end.lines c.loop-end.invariant (found input at None c.in_default.ensures.place)
