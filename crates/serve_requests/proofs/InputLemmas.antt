-- Where the scenario of an input ends.
use Rattle.serve_requests.specs.Input.{Ends, IsCut, IsLine, NoneEnds, Whole, fed}
use Rattle.std.proofs.Common.{ap, append_assoc, arith, eqb, refl, sym, ◌∙◌}
use Rattle.std.proofs.Math.Seq.{take-add}
use Rattle.std.proofs.lemmas.Bool.{both_ways, eq-eqb, eqb-true}
use Rattle.std.proofs.lemmas.List.{drop_all, get_or-take, length-append, length-drop, length-take-le, take-append-drop, take_all, take_more}
use Rattle.std.proofs.lemmas.List.Quantifiers.{position-Some}
use Rattle.std.specs.Prelude.{List, None, Some, [], codes, drop, length, position, take, ℕ, ◌++◌, ◌+◌, ◌<◌, ◌∷◌, ◌≡◌, ◌≢◌, ◌≤◌}
use Rattle.text_lines.proofs.Position.{none_passes}

-- so many bytes were passed, which are these lines
pub record Passed (input : List ℕ) (at lines : ℕ) : Type 0 where
  pub before : List (List ℕ)
  pub none : NoneEnds before
  pub front : take at input ≡ fed before
  pub count : lines ≡ length before
  pub within : at ≤ length input
  pub few : lines ≤ at

pub none_passed : (input : List ℕ) → Passed input 0 0
none_passed input = record { before = []; none = tt; front = refl; count = refl; within = omega arith; few = omega arith }

fed_more : (ls : List (List ℕ)) (l : List ℕ) → fed (ls ++ l ∷ []) ≡ fed ls ++ (l ++ 10 ∷ [])
fed_more [] l = refl
fed_more (k ∷ ks) l =
    ap (λ (bs : List ℕ). k ++ 10 ∷ bs) (fed_more ks l) ∙ sym (append_assoc k (10 ∷ fed ks) (l ++ 10 ∷ []))

none_more : (ls : List (List ℕ)) (l : List ℕ) → NoneEnds ls → IsLine l → l ≢ codes "end" → NoneEnds (ls ++ l ∷ [])
none_more [] l none line other = ((line, other), tt)
none_more (k ∷ ks) l none line other = (none.0, none_more ks l none.1 line other)

module _ (input : List ℕ) (at lines i : ℕ) (passed : Passed input at lines) (here : position (λ b. eqb b 10) (drop at input) ≡ Some i) where
  pub line_is : IsLine (take i (drop at input))
  line_is = λ k lt is.
      let p = position-Some (λ b. eqb b 10) (drop at input) i 0 here in
      let size = length-take-le i (drop at input) (omega (arith, p.0)) in
      let below : k < i = omega (arith, lt, size) in
      both_ways _ (p.2 k below) (eq-eqb _ _ (sym (get_or-take i (drop at input) k 0 below) ∙ is))

  -- the line with its line feed
  with_feed : take (i + 1) (drop at input) ≡ take i (drop at input) ++ 10 ∷ []
  with_feed =
      let p = position-Some (λ b. eqb b 10) (drop at input) i 0 here in
      take_more (drop at input) i 0 p.0 ∙ ap (λ (b : ℕ). take i (drop at input) ++ b ∷ []) (eqb-true _ _ p.1)

  front_is : take (at + (i + 1)) input ≡ fed (passed.before ++ take i (drop at input) ∷ [])
  front_is = take-add at (i + 1) input ∙ (ap (λ (bs : List ℕ). bs ++ take (i + 1) (drop at input)) passed.front ∙ (ap (λ (bs : List ℕ). fed passed.before ++ bs) with_feed ∙ sym (fed_more passed.before (take i (drop at input)))))

  inside : at + (i + 1) ≤ length input
  inside =
      let p = position-Some (λ b. eqb b 10) (drop at input) i 0 here in
      let lt = p.0 in
      let size = length-drop at input in
      let within = passed.within in
      omega (arith, lt, size, within)

  pub one_further : take i (drop at input) ≢ codes "end" → Passed input (at + (i + 1)) (lines + 1)
  one_further other = record {
    before = passed.before ++ take i (drop at input) ∷ [];
    none = none_more passed.before (take i (drop at input)) passed.none line_is other;
    front = front_is;
    count = let count = passed.count in let size = length-append passed.before (take i (drop at input) ∷ []) in omega (arith, count, size);
    within = inside;
    few = let few = passed.few in omega (arith, few);
  }

  pub ends_here : take i (drop at input) ≡ codes "end" → IsCut input (take (at + (i + 1)) input) (drop (at + (i + 1)) input) (lines + 1)
  ends_here is =
      let count = passed.count in
      Ends passed.before passed.none (front_is ∙ ap (λ (l : List ℕ). fed (passed.before ++ l ∷ [])) is) (take-append-drop (at + (i + 1)) input) (omega (arith, count))

  pub ends_inside : at + (i + 1) ≤ length input
  ends_inside = inside

-- no line feed is left
pub ends_nowhere : (input : List ℕ) (at lines : ℕ) → Passed input at lines → position (λ b. eqb b 10) (drop at input) ≡ None → IsCut input (take (length input) input) (drop (length input) input) lines
ends_nowhere input at lines passed none =
    let all = take_all (length input) input (omega arith) in
    Whole passed.before (drop at input) passed.none
    (λ k lt is. both_ways _ (none_passes (λ b. eqb b 10) (drop at input) k 0 none lt) (eq-eqb _ _ is))
    (all ∙ (sym (take-append-drop at input) ∙ ap (λ (bs : List ℕ). bs ++ drop at input) passed.front))
    all (drop_all (length input) input (omega arith)) passed.count
