-- An open offer takes the next choice, another one the only one that fits.
use Rattle.choice_offers.specs.Choices.{chosen_of}
use Rattle.choice_run.proofs.StepLemmas.{first_alone, first_listed, same_open}
use Rattle.choice_run.proofs.run.step.Goals as goal
use Rattle.choice_run.specs.Stepping.{Makes}
use Rattle.laws_choices.specs.Offer.{Chosen, FitsOffer}
use Rattle.laws_choices.specs.Offers.{offer}
use Rattle.std.proofs.Common.{ap, refl, subst, sym, ◌∙◌}
use Rattle.std.specs.Prelude.{Bool, option_map}
use Rattle.trace_machine.specs.Machines.{setting_at, state_of}

pub returns-in_default : goal.returns-in_default
returns-in_default c =
    let m = c.args.machine.now in
    record { none = ap (option_map (λ r. chosen_of r.now)) c.in_default.is; offers = sym (same_open m c.in_ok-offer.offer c.in_ok-offer.ensures) ∙ (sym c.is_open.ensures ∙ c.if-is_open.true); same = refl }

pub returns-then-took : goal.returns-then-took
returns-then-took c =
    let m = c.args.machine.now in
    record {
      choice = chosen_of c.in-Some.choice.now;
      offers = sym (same_open m c.in_ok-offer.offer c.in_ok-offer.ensures) ∙ (sym c.is_open.ensures ∙ c.if-is_open.true);
      is = ap (option_map (λ r. chosen_of r.now)) c.in-Some.is;
      made = subst (λ (b : Bool). Makes m (chosen_of c.in-Some.choice.now) b c.make_step.new.machine c.args.trace.now.labels c.make_step.new.trace.labels) c.if-took.true c.in_ok-took.ensures;
    }

pub returns-then-is_open : goal.returns-then-is_open
returns-then-is_open c =
    let m = c.args.machine.now in
    record {
      choice = chosen_of c.in-Some.choice.now;
      is = ap (option_map (λ r. chosen_of r.now)) c.in-Some.is;
      offers = sym (same_open m c.in_ok-offer.offer c.in_ok-offer.ensures) ∙ (sym c.is_open.ensures ∙ c.if-is_open.true);
      unfit = subst (λ (b : Bool). Makes m (chosen_of c.in-Some.choice.now) b c.make_step.new.machine c.args.trace.now.labels c.make_step.new.trace.labels) c.if-took.false c.in_ok-took.ensures;
    }

pub returns : goal.returns
returns c =
    let m = c.args.machine.now in
    let closed = sym c.is_open.ensures ∙ c.if-is_open.false in
    record {
      choice = chosen_of c.in_ok-only.only;
      offers = sym (same_open m c.in_ok-offer.offer c.in_ok-offer.ensures) ∙ closed;
      is = c.in_ok-only.ensures ∙ first_alone m c.in_ok-offer.offer c.in_ok-offer.ensures closed;
      made = subst (λ (b : Bool). Makes m (chosen_of c.in_ok-only.only) b c.make_step-2.new.machine c.args.trace.now.labels c.make_step-2.new.trace.labels) c.if-made.true c.in_ok-made.ensures;
    }

pub unreachable-requires : goal.unreachable-requires
unreachable-requires c =
    let m = c.args.machine.now in
    let unfit = subst (λ (b : Bool). Makes m (chosen_of c.in_ok-only.only) b c.make_step-2.new.machine c.args.trace.now.labels c.make_step-2.new.trace.labels) c.if-made.false c.in_ok-made.ensures in
    unfit (subst (λ (d : Chosen). FitsOffer d (offer (setting_at m) (state_of m))) (sym c.in_ok-only.ensures) (first_listed m c.in_ok-offer.offer c.in_ok-offer.ensures))
