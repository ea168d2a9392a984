-- The run under a list of choices comes to one thing alone.
use Rattle.laws_choices.proofs.RunLemmas.{determined, going_has_no_outcome, has_choices, is_step, next_one, one_step, run_is}
use Rattle.laws_choices.proofs.StepLemmas.{stays_scripted}
use Rattle.laws_choices.specs.ChoiceAnswers.{Answer, AnswersAreOne, ComesTo, HasCome, Reports, RunIsReported, Short, Wrong}
use Rattle.laws_choices.specs.Offer.{Chosen, FitsOffer, Offer, is_open}
use Rattle.laws_choices.specs.Offers.{offer}
use Rattle.laws_choices.specs.Runs.{GoingHasNoOutcome, NextIs, RunBy, TakesNext}
use Rattle.laws_choices.specs.Steps.{IsScripted, StepBy}
use Rattle.std.proofs.lemmas.Bool.{cases_lt}
use Rattle.laws_states.specs.Order.{InOrder}
use Rattle.laws_places.proofs.OrderLemmas.{step_in_order}
use Rattle.machine_rules.proofs.Machine.{HasOpen, Bool, inl, inr, Label, List, None, Option, Outcome, Run, Setting, State, Step, [], ap, arith, false, length, refl, subst, sym, true, unwrap_or, ℕ, ◌+◌, ◌<◌, ◌∙◌, ◌∷◌, ◌≡◌, ◌≤◌, ◌⊎◌}
use Rattle.machine_rules.specs.Outcome.{outcome_of}

-- ---- A longer run goes on from where a shorter one is

-- a step by the next choice
record ChoiceGoesOn (x : Setting) (t : State) (left : List Chosen) : Type 0 where
  choice : Chosen
  rest : List Chosen
  label : Label
  next : State
  takes : TakesNext x t left choice rest
  makes : StepBy x choice t label next

goes_on : (x : Setting) (s : State) → IsScripted s.main → (cs : List Chosen) (ls ks : List Label) (t u : State) (left over : List Chosen) →
    length ls < length ks → RunBy x s cs ls t left → RunBy x s cs ks u over → ChoiceGoesOn x t left
goes_on x s scripted cs [] [] t u left over short h i = absurd (omega (arith, short))
goes_on x s scripted cs (l ∷ ls) [] t u left over short h i = absurd (grind (arith, short))
goes_on x s scripted cs [] (k ∷ ks) t u left over short h i =
    let it : ChoiceGoesOn x s cs = record { choice = i.0; rest = i.1.0; label = k; next = i.1.1.0; takes = i.1.1.1.0; makes = i.1.1.1.1.0 } in
    subst (λ (v : State). ChoiceGoesOn x v left) (sym h.0) (subst (λ ds. ChoiceGoesOn x s ds) (sym h.1) it)
goes_on x s scripted cs (l ∷ ls) (k ∷ ks) t u left over short h i =
    let m = h.1.1.0 in let rest = h.1.0 in
    let next = next_one (offer x s) (is_open (offer x s)) cs h.0 i.0 rest i.1.0 h.1.1.1.0.0 i.1.1.1.0.0 in
    let one = one_step x s scripted h.0 i.0 next.0 l k m i.1.1.0 h.1.1.1.1.0 i.1.1.1.1.0 in
    let more = subst (λ (v : State). RunBy x v rest ks u over) (sym one.1) (subst (λ ds. RunBy x i.1.1.0 ds ks u over) (sym next.1) i.1.1.1.1.1) in
    goes_on x m (stays_scripted x s h.0 l m scripted h.1.1.1.1.0) rest ls ks t u left over (omega (arith, short)) h.1.1.1.1.1 more

order_after : (x : Setting) (s : State) → InOrder x.component s → (ls : List Label) (t : State) → Run x s ls t → InOrder x.component t
order_after x s order [] t h = subst (λ (v : State). InOrder x.component v) (sym h) order
order_after x s order (l ∷ ls) t h = order_after x h.0 (step_in_order x s l h.0 order h.1.0) ls t h.1.1

no_more : (x : Setting) (r s : State) (ls : List Label) (l : Label) (t : State) (steps : ℕ) → length ls < steps → Run x r ls s → Step x s l t → outcome_of x s ls steps ≡ None
unfolding GoingHasNoOutcome
no_more = going_has_no_outcome

abbrev first_of : List Chosen → Chosen → Chosen
first_of [] c = c
first_of (d ∷ ds) c = d

-- of an open offer the next choice is the first one
first_taken : (o : Offer) (b : Bool) → b ≡ true → (cs : List Chosen) (c : Chosen) (rest : List Chosen) → NextIs b o cs c rest → cs ≡ c ∷ rest
first_taken o true e cs c rest h = h
first_taken o false e cs c rest h = absurd (grind arith)

module _ (x : Setting) (s : State) (settled : HasOpen x.component → ⊥) (order : InOrder x.component s) (scripted : IsScripted s.main) (steps : ℕ) (cs : List Chosen) where
  -- what has come to an answer doesn't go on
  stops : (a : Answer) (ls : List Label) (t : State) (left : List Chosen) → RunBy x s cs ls t left → HasCome x steps cs ls t left a → length ls < steps → ChoiceGoesOn x t left → ⊥
  stops (Reports trace o used) ls t left run come short next =
      let ran = run_is x s settled order cs ls t left run in
      let step = is_step x t settled (order_after x s order ls t ran) next.choice next.takes.1 next.label next.next next.makes in
      let none = no_more x s t ls next.label next.next steps short ran step in
      absurd (grind (arith, none, come.1.0))
  stops (Wrong k) ls t left run come short next =
      let is = first_taken (offer x t) (is_open (offer x t)) come.1.1.1.0.offers left next.choice next.rest next.takes.0 in
      let same : next.choice ≡ come.0 = ap (λ (ds : List Chosen). first_of ds come.0) (sym is ∙ come.1.1.0) in
      come.1.1.1.1.1 (subst (λ c. FitsOffer c (offer x t)) same next.takes.1)
  stops (Short n) ls t left run come short next =
      let is = first_taken (offer x t) (is_open (offer x t)) come.1.0.offers left next.choice next.rest next.takes.0 in
      absurd (let none = come.0 in grind (arith, is, none))

  -- at one place there is one answer
  alike : (a b : Answer) (ls : List Label) (t : State) (left : List Chosen) → HasCome x steps cs ls t left a → HasCome x steps cs ls t left b → a ≡ b
  alike (Reports trace o used) (Reports path p spent) ls t left h k =
      let same : o ≡ p = ap (λ (q : Option Outcome). unwrap_or q o) (sym h.1.0 ∙ k.1.0) in
      let count : used ≡ spent = omega (arith, h.1.1, k.1.1) in
      ap (λ (ks : List Label). Reports ks o used) (sym h.0 ∙ k.0) ∙ (ap (λ (q : Outcome). Reports path q used) same ∙ ap (λ (n : ℕ). Reports path p n) count)
  alike (Reports trace o used) (Wrong k) ls t left h i = absurd (let a = h.1.0 in let b = i.1.1.1.0.unended in grind (arith, a, b))
  alike (Reports trace o used) (Short n) ls t left h i = absurd (let a = h.1.0 in let b = i.1.0.unended in grind (arith, a, b))
  alike (Wrong k) (Reports trace o used) ls t left h i = absurd (let a = i.1.0 in let b = h.1.1.1.0.unended in grind (arith, a, b))
  alike (Wrong k) (Wrong j) ls t left h i =
      let same : length (h.1.0) + 1 ≡ length (i.1.0) + 1 = tails (h.0) (i.0) (h.1.0) (i.1.0) (sym h.1.1.0 ∙ i.1.1.0) in
      ap (λ (n : ℕ). Wrong n) (omega (arith, same, h.1.1.1.1.0, i.1.1.1.1.0))
    where
      tails : (c d : Chosen) (ms ns : List Chosen) → c ∷ ms ≡ d ∷ ns → length ms + 1 ≡ length ns + 1
      tails c d ms ns e = let long = ap (λ (ds : List Chosen). length ds) e in grind (arith, long)
  alike (Wrong k) (Short n) ls t left h i = absurd (let a = h.1.1.0 in let b = i.0 in grind (arith, a, b))
  alike (Short n) (Reports trace o used) ls t left h i = absurd (let a = i.1.0 in let b = h.1.0.unended in grind (arith, a, b))
  alike (Short n) (Wrong k) ls t left h i = absurd (let a = i.1.1.0 in let b = h.0 in grind (arith, a, b))
  alike (Short n) (Short m) ls t left h i = ap (λ (q : ℕ). Short q) (sym h.1.1 ∙ i.1.1)

  one_answer : (a b : Answer) → ComesTo x s steps cs a → ComesTo x s steps cs b → a ≡ b
  one_answer a b h i = by (cases_lt (length h.labels) (length i.labels)) (cases_lt (length i.labels) (length h.labels))
    where
      same : length h.labels ≡ length i.labels → a ≡ b
      same e =
          let r = determined x s scripted cs h.labels i.labels h.last i.last h.left i.left e h.run i.run in
          let come = subst (λ (ks : List Label). HasCome x steps cs ks i.last i.left b) (sym r.0) i.has_come in
          let there = subst (λ (v : State). HasCome x steps cs h.labels v i.left b) (sym r.1.0) come in
          alike a b h.labels h.last h.left h.has_come (subst (λ ds. HasCome x steps cs h.labels h.last ds b) (sym r.1.1) there)

      by : (length h.labels < length i.labels) ⊎ (length i.labels ≤ length h.labels) →
          (length i.labels < length h.labels) ⊎ (length h.labels ≤ length i.labels) → a ≡ b
      by (inl less) other = absurd (stops a h.labels h.last h.left h.run h.has_come (omega (arith, less, i.within))
          (goes_on x s scripted cs h.labels i.labels h.last i.last h.left i.left less h.run i.run))
      by (inr most) (inl more) = absurd (stops b i.labels i.last i.left i.run i.has_come (omega (arith, more, h.within))
          (goes_on x s scripted cs i.labels h.labels i.last h.last i.left h.left more i.run h.run))
      by (inr most) (inr least) = same (omega (arith, most, least))

pub answers_are_one : AnswersAreOne
unfolding AnswersAreOne
answers_are_one x s settled order scripted steps cs a b h i = one_answer x s settled order scripted steps cs a b h i

pub run_is_reported : RunIsReported
unfolding RunIsReported
run_is_reported x s settled none order steps ls t o run within is =
    let r = has_choices x s settled none order ls t run in
    (r.0, record { labels = ls; last = t; left = []; run = r.1; within = within; has_come = (refl, (is, omega arith)) })
