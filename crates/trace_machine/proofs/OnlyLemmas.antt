-- What is listed has the choices of the offer.
use Rattle.choice_offers.specs.Choices.{offer_of}
use Rattle.choice_offers.specs.declared.choice.Offer.{Offer}
use Rattle.laws_choices.proofs.OfferLemmas.{closed_has_one, first_fits}
use Rattle.laws_choices.specs.Offer as laws
use Rattle.laws_choices.specs.Offer.{FitsOffer, first_choice, first_of, has_two, is_one_of}
use Rattle.laws_choices.specs.Offers.{offer}
use Rattle.std.proofs.Common.{ap, arith, refl, sym, ◌∙◌}
use Rattle.std.proofs.lemmas.List.Sorted.{length_permutation}
use Rattle.std.specs.Prelude.{Bool, List, [], false, length, ℕ, ◌∷◌, ◌≡◌, ◌||◌}
use Rattle.trace_machine.specs.Machines.{IsOfferOf, leaves_choice, setting_at, state_of}
use Rattle.trace_machine.specs.declared.machine.Machine.{Machine}

-- lists that are as long have two or not
same_two : (ns ms : List ℕ) → length ns ≡ length ms → has_two ns ≡ has_two ms
same_two [] [] e = refl
same_two [] (m ∷ ms) e = absurd (omega (arith, e))
same_two (n ∷ ns) [] e = absurd (omega (arith, e))
same_two (n ∷ []) (m ∷ []) e = refl
same_two (n ∷ []) (m ∷ k ∷ ms) e = absurd (omega (arith, e))
same_two (n ∷ k ∷ ns) (m ∷ []) e = absurd (omega (arith, e))
same_two (n ∷ k ∷ ns) (m ∷ j ∷ ms) e = refl

module _ (m : Machine) (o : Offer) (is : IsOfferOf m o) where
  pub same_open : laws.is_open (offer_of o) ≡ leaves_choice m
  same_open =
      ap (λ (ns : List ℕ). has_two ns || (has_two o.members || has_two o.held)) is.waiters
      ∙ (ap (λ (ns : List ℕ). has_two (offer (setting_at m) (state_of m)).waiters || (has_two ns || has_two o.held)) is.members
      ∙ ap (λ (b : Bool). has_two (offer (setting_at m) (state_of m)).waiters || (has_two (offer (setting_at m) (state_of m)).members || b))
      (same_two o.held (offer (setting_at m) (state_of m)).held (length_permutation (offer (setting_at m) (state_of m)).held o.held is.permuted)))

  -- the first of what is listed fits
  pub first_listed : FitsOffer (first_choice (offer_of o)) (offer (setting_at m) (state_of m))
  first_listed =
      let fits = first_fits (offer_of o) in
      record {
        waiter = ap (λ (ns : List ℕ). is_one_of ns (first_of o.waiters)) (sym is.waiters) ∙ fits.waiter;
        member = ap (λ (ns : List ℕ). is_one_of ns (first_of o.members)) (sym is.members) ∙ fits.member;
        release = is.permuted;
      }

  -- and is the only one, if the offer isn't open
  pub first_alone : laws.is_open (offer_of o) ≡ false → first_choice (offer_of o) ≡ first_choice (offer (setting_at m) (state_of m))
  first_alone closed = closed_has_one (offer (setting_at m) (state_of m)) (sym same_open ∙ closed) (first_choice (offer_of o)) first_listed
