-- One step of a run under choices.
use Rattle.choice_offers.specs.Choices.{offer_of}
use Rattle.choice_offers.specs.declared.choice.Offer.{Offer}
use Rattle.choice_run.specs.Stepping.{HasMade, IsStepOf, IsUnended}
use Rattle.laws_choices.proofs.OfferLemmas.{closed_has_one, first_fits}
use Rattle.laws_choices.specs.Offer as laws
use Rattle.laws_choices.specs.Offer.{Chosen, FitsOffer, first_choice, first_of, has_two, is_one_of}
use Rattle.laws_choices.specs.Offers.{offer}
use Rattle.laws_states.specs.Order.{is_open}
use Rattle.machine_data.specs.declared.label.Label.{Label}
use Rattle.machine_data.specs.declared.outcome.Outcome.{Outcome}
use Rattle.machine_rules.specs.Outcome.{is_at_rest, open_outcome, outcome_of_label}
use Rattle.std.proofs.Common.{ap, arith, refl, subst, sym, ◌∙◌}
use Rattle.std.proofs.lemmas.List.Sorted.{length_permutation}
use Rattle.std.specs.Option.{option_and_then}
use Rattle.std.specs.Prelude.{Bool, IsPermutation, List, None, Option, Some, [], false, is_none, length, true, ℕ, ◌++◌, ◌∷◌, ◌≡◌, ◌||◌}
use Rattle.trace_machine.specs.Machines.{Goes, IsKept, IsOfferOf, IsOver, or_at_rest, outcome_at, setting_at, state_of, turn_at}
use Rattle.trace_machine.specs.declared.machine.Machine.{Machine}
use Rattle.choice_offers.specs.Choices.{chosen_of}
use Rattle.choice_offers.specs.declared.choice.Choice.{Choice}

-- ---- A run that goes on

module _ (m : Machine) (kept : IsKept m) (unended : IsUnended m) where
  none_of : (o : Option Outcome) → or_at_rest o m false ≡ None → is_none o ≡ true
  none_of None e = refl
  none_of (Some a) e = absurd (cc)

  pub goes_on : is_open (turn_at m) ≡ true
  goes_on = sym kept.over ∙ none_of (option_and_then outcome_of_label m.last) unended

  moves_of : (o : Option Outcome) (b : Bool) → is_at_rest (setting_at m) (state_of m) ≡ b → or_at_rest o m false ≡ None → b ≡ false
  moves_of None true e none = absurd (let some = ap (λ (r : Bool). open_outcome r false) (sym e) ∙ none in cc)
  moves_of None false e none = refl
  moves_of (Some a) b e none = absurd (cc)

  -- a step isn't refused as one of a run that is over
  pub not_over : IsOver m → ⊥
  not_over over =
      let rests = over goes_on in
      absurd (let never = moves_of (option_and_then outcome_of_label m.last) true rests unended in cc)

  -- what a choice of the list has made
  pub step_of : (c : Choice) (l : Label) (new : Machine) → Goes m c l new → (before after : List Label) → after ≡ before ++ l ∷ [] → HasMade m (chosen_of c) new before after
  step_of c l new goes before after more = record {
    label = l;
    step = record {
      fits = goes.fits;
      step = goes.step;
      scenario = goes.scenario;
      last = goes.last;
      numbers = goes.numbers;
      opened = goes_on;
      kept = goes.kept;
    };
    more = more;
  }

-- ---- Offers that list the same

-- of as many
same_two : (ns ms : List ℕ) → length ns ≡ length ms → has_two ns ≡ has_two ms
same_two [] [] e = refl
same_two [] (m ∷ ms) e = absurd (omega (arith, e))
same_two (n ∷ ns) [] e = absurd (omega (arith, e))
same_two (n ∷ []) (m ∷ []) e = refl
same_two (n ∷ []) (m ∷ k ∷ ms) e = absurd (omega (arith, e))
same_two (n ∷ k ∷ ns) (m ∷ []) e = absurd (omega (arith, e))
same_two (n ∷ k ∷ ns) (m ∷ j ∷ ms) e = refl

module _ (m : Machine) (o : Offer) (is : IsOfferOf m o) where
  pub same_open : laws.is_open (offer_of o) ≡ laws.is_open (offer (setting_at m) (state_of m))
  same_open =
      ap (λ (ns : List ℕ). has_two ns || (has_two o.members || has_two o.held)) is.waiters
      ∙ (ap (λ (ns : List ℕ). has_two (offer (setting_at m) (state_of m)).waiters || (has_two ns || has_two o.held)) is.members
      ∙ ap (λ (b : Bool). has_two (offer (setting_at m) (state_of m)).waiters || (has_two (offer (setting_at m) (state_of m)).members || b))
      (same_two o.held (offer (setting_at m) (state_of m)).held (length_permutation (offer (setting_at m) (state_of m)).held o.held is.permuted)))

  -- the first of what is listed fits
  pub first_listed : FitsOffer (first_choice (offer_of o)) (offer (setting_at m) (state_of m))
  first_listed =
      let fits = first_fits (offer_of o) in
      record {
        waiter = ap (λ (ns : List ℕ). is_one_of ns (first_of o.waiters)) (sym is.waiters) ∙ fits.waiter;
        member = ap (λ (ns : List ℕ). is_one_of ns (first_of o.members)) (sym is.members) ∙ fits.member;
        release = is.permuted;
      }

  -- and is the only one, if the offer isn't open
  pub first_alone : laws.is_open (offer_of o) ≡ false → first_choice (offer_of o) ≡ first_choice (offer (setting_at m) (state_of m))
  first_alone closed = closed_has_one (offer (setting_at m) (state_of m)) (sym same_open ∙ closed) (first_choice (offer_of o)) first_listed

-- ---- Outcomes

-- it has always come to something where its steps are used up
pub always_some : (m : Machine) → None ≡ outcome_at m true → ⊥
always_some m none = by (option_and_then outcome_of_label m.last) none
  where
    open_some : (b : Bool) → None ≡ open_outcome b true → ⊥
    open_some true e = absurd (cc)
    open_some false e = absurd (cc)

    by : (o : Option Outcome) → None ≡ or_at_rest o m true → ⊥
    by None e = open_some (is_at_rest (setting_at m) (state_of m)) e
    by (Some a) e = absurd (cc)
