-- The step that is made where a choice is wanted.
use Rattle.choice_offers.proofs.OrderLemmas.{last_times, rises_by}
use Rattle.choice_offers.specs.Choices.{chosen_of, offer_of}
use Rattle.choice_offers.specs.Listings.{numbers_of, offer_in}
use Rattle.choice_offers.specs.Times.{AreTimed, AreTimesOf, IsLast, time_at}
use Rattle.choice_offers.specs.declared.choice.Choice.{Choice}
use Rattle.choice_offers.specs.declared.held.HeldOrder.{HeldOrder}
use Rattle.choice_offers.specs.declared.choice.Offer.{Offer}
use Rattle.choice_offers.specs.declared.offered.Offered.{Offered}
use Rattle.core_primitives.specs.Preferences.{preference}
use Rattle.core_primitives.specs.StateView.{Wanted, with_wanted}
use Rattle.laws_choices.specs.Offer.{FitsOffer}
use Rattle.laws_choices.specs.Offer as laws
use Rattle.laws_choices.specs.Offers.{offer}
use Rattle.laws_choices.specs.Steps.{NothingOpen, StepBy}
use Rattle.laws_picks.proofs.ChosenLemmas.{wanted_is_chosen}
use Rattle.choice_offers.proofs.HeldLemmas.{held_is_known}
use Rattle.choice_offers.proofs.OfferHeld.{offer_held, offer_once}
use Rattle.choice_offers.proofs.TimesLemmas.{once_after, permuted_order}
use Rattle.choice_offers.specs.Held.{IsOnce, HeldIsKnown, KnowsHeld}
use Rattle.laws_picks.specs.Arrival.{held_after}
use Rattle.laws_picks.specs.Wants.{WantedIsChosen, Wants}
use Rattle.laws_states.specs.Order.{InOrder, is_open}
use Rattle.machine_data.specs.Core.{State}
use Rattle.machine_data.specs.declared.label.Label.TheVariants as label
use Rattle.machine_data.specs.declared.label.Label.{Label}
use Rattle.machine_data.specs.declared.label.TakeLabel.TheVariants as take_label
use Rattle.machine_data.specs.declared.label.TakeLabel.{TakeLabel}
use Rattle.machine_data.specs.declared.memory.NoMemory.{NoMemory}
use Rattle.machine_rules.specs.Picks.{Picks}
use Rattle.machine_rules.specs.Stalled.{Setting}
use Rattle.machine_rules.specs.Step.{Step}
use Rattle.std.proofs.Common.{ap, subst, sym, ◌∙◌}
use Rattle.std.specs.Prelude.{Err, IsPermutation, List, Ok, OnOk, Option, Result, Some, true, ℕ, ◌≡◌}
use Rattle.trace_machine.specs.Machines.{Goes, GoesOn, HasWanted, HoldsLast, IsKept, IsOffered, IsOfferOf, KnowsOrder, held_by, held_in, setting_at, state_of, turn_at}
use Rattle.trace_machine.specs.declared.machine.Machine.{Machine}

-- ---- The order in which threads were held last, after a label

taking_times : (l : TakeLabel) (order : List ℕ) (old new : HeldOrder) → HoldsLast (held_by l) old new → AreTimesOf order old →
    AreTimesOf (held_after (label.Take l) order) new
taking_times (take_label.Held m n) order old new holds times = last_times n order old new holds times
taking_times (take_label.HeldWakes m n w) order old new holds times = last_times n order old new holds times
taking_times _ order old new holds times = subst (λ (o : HeldOrder). AreTimesOf order o) (sym holds) times

label_times : (l : Label) (order : List ℕ) (old new : HeldOrder) → HoldsLast (held_in l) old new → AreTimesOf order old →
    AreTimesOf (held_after l order) new
label_times (label.Take l) order old new holds times = taking_times l order old new holds times
label_times _ order old new holds times = subst (λ (o : HeldOrder). AreTimesOf order o) (sym holds) times

taking_once : (l : TakeLabel) (order : List ℕ) → IsOnce order → IsOnce (held_after (label.Take l) order)
taking_once (take_label.Held m n) order once = once_after n order once
taking_once (take_label.HeldWakes m n w) order once = once_after n order once
taking_once _ order once = once

label_once : (l : Label) (order : List ℕ) → IsOnce order → IsOnce (held_after l order)
label_once (label.Take l) order once = taking_once l order once
label_once _ order once = once

knows_more : HeldIsKnown → (x : Setting) (order : List ℕ) (s : State) (l : Label) (t : State) → InOrder x.component s → KnowsHeld order s.core → Step x s l t →
    KnowsHeld (held_after l order) t.core
unfolding HeldIsKnown
knows_more h = h

-- what is known of the order after a step
pub order_after : (m new : Machine) (l : Label) (order : List ℕ) → InOrder (setting_at m).component (state_of m) → Step (setting_at m) (state_of m) l (state_of new) →
    HoldsLast (held_in l) m.held new.held → KnowsOrder m order → KnowsOrder new (held_after l order)
order_after m new l order ordered step holds knows = record {
  once = label_once l order knows.once;
  listed = knows_more held_is_known (setting_at m) order (state_of m) l (state_of new) ordered knows.listed step;
  times = label_times l order m.held new.held holds knows.times;
}

-- a thread that is held is remembered
pub kept_last : (n : ℕ) (o : Option ℕ) (old new : HeldOrder) → Some n ≡ o → (r : Result (Unit {0}) NoMemory) → OnOk r (IsLast n old new) →
    OnOk r (HoldsLast o old new × AreTimed new)
kept_last n o old new is (Ok u) last = (subst (λ (p : Option ℕ). HoldsLast p old new) is last, last.timed)
kept_last n o old new is (Err e) last = tt

-- ---- The step that a choice makes

chosen : WantedIsChosen → (m : Machine) (c : Choice) (w : Wanted) → NothingOpen (setting_at m) (state_of m) → InOrder (setting_at m).component (state_of m) →
    FitsOffer (chosen_of c) (offer (setting_at m) (state_of m)) → Wants (preference (with_wanted w m.store.state)) (state_of m) (chosen_of c) →
    (l : Label) (t : State) → Step (setting_at m) (state_of m) l t → Picks (preference (with_wanted w m.store.state)) (setting_at m) (state_of m) l t →
    StepBy (setting_at m) (chosen_of c) (state_of m) l t
unfolding WantedIsChosen
chosen law m c w none ordered fits wants l t step picks =
    law (preference (with_wanted w m.store.state)) (setting_at m) (state_of m) none ordered (chosen_of c) fits wants l t step picks

-- the machine with a core that wants this
abbrev wanting : Wanted → Machine → Machine
wanting w m = record m { store = record m.store { state = with_wanted w m.store.state } }

goes_from : (m : Machine) (c : Choice) (w : Wanted) (new : Machine) (l : Label) → IsKept m → is_open (turn_at m) ≡ true →
    FitsOffer (chosen_of c) (offer (setting_at m) (state_of m)) → Wants (preference (wanting w m).store.state) (state_of m) (chosen_of c) → GoesOn (wanting w m) l new →
    Goes m c l new
goes_from m c w new l kept opened fits wants goes = record {
  fits = fits;
  step = chosen wanted_is_chosen m c w (record { hosts = kept.hosts; works = kept.works }) ((kept.may_go_on opened).order.order (state_of m).main) fits wants l (state_of new) goes.step goes.picks;
  scenario = goes.scenario;
  last = goes.last;
  held = λ order knows. goes.held order (record { once = knows.once; listed = knows.listed; times = knows.times });
  numbers = goes.numbers;
  kept = goes.kept;
}

-- a step that picks first what is wanted is the one that the choice makes
pub wants_goes : (m : Machine) (c : Choice) (mid new : Machine) (l : Label) → IsKept m → is_open (turn_at m) ≡ true →
    FitsOffer (chosen_of c) (offer (setting_at m) (state_of m)) → HasWanted m c mid → GoesOn mid l new → Goes m c l new
wants_goes m c mid new l kept opened fits wanted goes =
    subst (λ (k : Machine). Wants (preference k.store.state) (state_of m) (chosen_of c) → GoesOn k l new → Goes m c l new) (sym wanted.same)
    (goes_from m c mid.store.state.tags.wanted new l kept opened fits) wanted.wants goes

-- ---- What the next step chooses

-- what is listed is the offer
pub lists_offer : (m : Machine) (o : Offered) (p : Offer) → offer_of p ≡ offer_in o → IsOffered m o → IsOfferOf m p
lists_offer m o p is c = record {
  waiters = ap (λ (f : laws.Offer). f.waiters) is ∙ (c.listed.waiters ∙ ap (λ (f : laws.Offer). f.waiters) c.offers.1);
  members = ap (λ (f : laws.Offer). f.members) is ∙ (c.listed.members ∙ ap (λ (f : laws.Offer). f.members) c.offers.1);
  permuted =
      subst (λ (ns : List ℕ). IsPermutation (offer (setting_at m) (state_of m)).held ns) (sym (ap (λ (f : laws.Offer). f.held) is))
      (subst (λ (f : laws.Offer). IsPermutation f.held (numbers_of o.held.items)) c.offers.1 c.listed.held);
  held = λ order knows.
      let s = state_of m in
      let x = setting_at m in
      let same : IsPermutation (offer x s).held (numbers_of o.held.items) = subst (λ (f : laws.Offer). IsPermutation f.held (numbers_of o.held.items)) c.offers.1 c.listed.held in
      ap (λ (f : laws.Offer). f.held) is
      ∙ permuted_order (time_at m.held) order (offer x s).held (numbers_of o.held.items) knows.times knows.once (offer_once x s.core s.turn) (λ n there. knows.listed n (offer_held x s.core s.turn n there)) same
      (rises_by m.held o.held.items c.listed.rises);
}
