-- What is known of all runs that go on from choices of which one run was made.
use Rattle.choice_search.proofs.CountLemmas.{counts_permute, permuted_counts}
use Rattle.choice_offers.specs.Choices.{same_counts}
use Rattle.laws_choices.proofs.AnswerLemmas.{answers_are_one}
use Rattle.laws_choices.proofs.RunLemmas.{rest_unseen}
use Rattle.laws_choices.specs.ChoiceAnswers.{Answer, AnswersAreOne, ComesTo, Reports, Short, Wrong}
use Rattle.laws_choices.specs.Offer.{Chosen, FitsOffer, Offer, is_one_of}
use Rattle.laws_choices.specs.Offers.{offer}
use Rattle.laws_choices.specs.Runs.{RestUnseen, RunBy}
use Rattle.laws_choices.specs.Steps.{IsScripted}
use Rattle.laws_states.specs.Order.{InOrder}
use Rattle.machine_data.specs.Core.{State}
use Rattle.machine_data.specs.declared.label.Label.{Label}
use Rattle.machine_data.specs.declared.outcome.Outcome.{Outcome}
use Rattle.machine_rules.specs.Scripts.{HasOpen}
use Rattle.machine_rules.specs.Stalled.{Setting}
use Rattle.std.proofs.lemmas.List.{append-nil}
use Rattle.std.proofs.Common.{ap, arith, length-append, refl, subst, sym, ◌∙◌}
use Rattle.std.specs.Prelude.{Bool, IsPermutation, List, [], false, length, true, ℕ, ◌+◌, ◌++◌, ◌∷◌, ◌≡◌}

-- a choice fits an offer, or it doesn't
data Fits (c : Chosen) (o : Offer) : Type 0 where
  It : FitsOffer c o → Fits c o
  Not : (FitsOffer c o → ⊥) → Fits c o

whether : (c : Chosen) (o : Offer) → Fits c o
whether c o = by (is_one_of o.waiters c.waiter) (is_one_of o.members c.member) (same_counts o.held c.release) refl refl refl
  where
    by : (a b d : Bool) → is_one_of o.waiters c.waiter ≡ a → is_one_of o.members c.member ≡ b → same_counts o.held c.release ≡ d → Fits c o
    by true true true w m r = It (record { waiter = w; member = m; release = counts_permute o.held c.release r })
    by false b d w m r = Not (λ f. absurd (let bad = sym w ∙ f.waiter in cc))
    by true false d w m r = Not (λ f. absurd (let bad = sym m ∙ f.member in cc))
    by true true false w m r = Not (λ f. absurd (let bad = sym r ∙ permuted_counts o.held c.release f.release in cc))

module _ (x : Setting) (s : State) (closed : HasOpen x.component → ⊥) (order : InOrder x.component s) (scripted : IsScripted s.main) (steps : ℕ) where
  unseen : (cs : List Chosen) (ls : List Label) (t : State) (left more : List Chosen) → RunBy x s cs ls t left → RunBy x s (cs ++ more) ls t (left ++ more)
  unfolding RestUnseen
  unseen cs ls t left more run = rest_unseen x s cs ls t left more run

  pub one : (cs : List Chosen) (a b : Answer) → ComesTo x s steps cs a → ComesTo x s steps cs b → a ≡ b
  unfolding AnswersAreOne
  one cs a b h i = answers_are_one x s closed order scripted steps cs a b h i

  -- what a run has come to it has come to under more choices
  pub more_reports : (cs more : List Chosen) (ls : List Label) (o : Outcome) (n : ℕ) → ComesTo x s steps cs (Reports ls o n) → ComesTo x s steps (cs ++ more) (Reports ls o n)
  more_reports cs more ls o n h = record {
    labels = h.labels;
    last = h.last;
    left = h.left ++ more;
    run = unseen cs h.labels h.last h.left more h.run;
    within = h.within;
    has_come = (h.has_come.0, (h.has_come.1.0, let used = h.has_come.1.1 in let one = length-append h.left more in let two = length-append cs more in omega (arith, used, one, two)));
  }

  -- a choice that doesn't fit, doesn't under more of them
  pub more_wrong : (cs more : List Chosen) (k : ℕ) → ComesTo x s steps cs (Wrong k) → ComesTo x s steps (cs ++ more) (Wrong k)
  more_wrong cs more k h =
      let w = h.has_come in
      record {
        labels = h.labels;
        last = h.last;
        left = h.left ++ more;
        run = unseen cs h.labels h.last h.left more h.run;
        within = h.within;
        has_come = (
          w.0,
          (
            w.1.0 ++ more,
            (
              ap (λ (ds : List Chosen). ds ++ more) w.1.1.0,
              (
                w.1.1.1.0,
                (let used = w.1.1.1.1.0 in let one = length-append w.1.0 more in let two = length-append cs more in omega (arith, used, one, two), w.1.1.1.1.1),
              ),
            ),
          ),
        );
      }

  -- The run goes on by a choice that fits what is offered where these choices end.
  pub record GoesOnBy (cs more : List Chosen) (o : Offer) : Type 0 where
    pub choice : Chosen
    pub rest : List Chosen
    pub is : more ≡ choice ∷ rest
    pub fits : FitsOffer choice o

  pub goes_on_by : (cs more : List Chosen) (n : ℕ) (h : ComesTo x s steps cs (Short n)) (ls : List Label) (o : Outcome) (u : ℕ) → ComesTo x s steps (cs ++ more) (Reports ls o u) → GoesOnBy cs more (offer x h.last)
  goes_on_by cs [] n h ls o u run = absurd (let same = one cs (Short n) (Reports ls o u) h (subst (λ (ds : List Chosen). ComesTo x s steps ds (Reports ls o u)) (append-nil cs) run) in cc)
  goes_on_by cs (c ∷ rest) n h ls o u run = by (whether c (offer x h.last))
    where
      unfit : (FitsOffer c (offer x h.last) → ⊥) → ComesTo x s steps (cs ++ c ∷ rest) (Wrong (length cs + 1))
      unfit not = record {
        labels = h.labels;
        last = h.last;
        left = h.left ++ c ∷ rest;
        run = unseen cs h.labels h.last h.left (c ∷ rest) h.run;
        within = h.within;
        has_come = (
          c,
          (
            rest,
            (
              ap (λ (ds : List Chosen). ds ++ c ∷ rest) h.has_come.0,
              (h.has_come.1.0, (let size = length-append cs (c ∷ rest) in omega (arith, size), not)),
            ),
          ),
        );
      }

      by : Fits c (offer x h.last) → GoesOnBy cs (c ∷ rest) (offer x h.last)
      by (It fits) = record { choice = c; rest = rest; is = refl; fits = fits }
      by (Not not) = absurd (let same = one (cs ++ c ∷ rest) (Wrong (length cs + 1)) (Reports ls o u) (unfit not) run in cc)
