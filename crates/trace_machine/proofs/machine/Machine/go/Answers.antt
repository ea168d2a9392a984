use Rattle.std.proofs.Common.{refl, subst, sym, ◌∙◌}
use Rattle.std.specs.Prelude.{false, true, ◌≡◌}
use Rattle.choice_offers.specs.Choices.{chosen_of}
use Rattle.laws_choices.specs.Offer as laws
use Rattle.laws_choices.specs.Offer.{FitsOffer}
use Rattle.machine_rules.specs.Outcome.{is_at_rest}
use Rattle.trace_machine.proofs.MachineLemmas.{wants_goes}
use Rattle.trace_machine.proofs.StepLemmas.{none_when, opened_when}
use Rattle.trace_machine.proofs.WantLemmas.{fits_listed, fits_offer, wanted_few, wanted_kept, wanted_moves, wanted_open}
use Rattle.trace_machine.proofs.machine.Machine.go.Goals as goal
use Rattle.trace_machine.specs.Machines.{setting_at, state_of}
use Rattle.trace_machine.specs.declared.machine.Machine.{Machine}

pub returns-then-is_over : goal.returns-then-is_over
returns-then-is_over c =
    (none_when c.args.self.now c.is_over.result c.is_over.ensures.over c.is_over.ensures.rests c.if-is_over.true, (refl, λ opened. sym (c.is_over.ensures.rests opened) ∙ c.if-is_over.true))

pub returns-then-not-fits : goal.returns-then-not-fits
returns-then-not-fits c =
    let m = c.args.self.now in
    let opened = opened_when m c.is_over.result c.is_over.ensures.over c.if-is_over.false in (
      record {
        unfinished = opened;
        moves = sym (c.is_over.ensures.rests opened) ∙ c.if-is_over.false;
        unfit = λ fits.
            let listed = subst (λ (o : laws.Offer). FitsOffer (chosen_of c.args.choice.now) o) (sym c.in_ok-offer.ensures) (fits_listed m c.in_ok-offered.offered c.args.choice.now c.in_ok-offered.ensures fits) in
            absurd (let bad = sym (c.fits.ensures.1 listed) ∙ c.if-not-fits.true in cc);
      },
      refl,
    )

pub want-requires-clause-fits : goal.want-requires-clause-fits
want-requires-clause-fits c =
    fits_offer c.args.self.now c.in_ok-offered.offered c.args.choice.now c.in_ok-offered.ensures
    (subst (λ (o : laws.Offer). FitsOffer (chosen_of c.args.choice.now) o) c.in_ok-offer.ensures (c.fits.ensures.0 c.if-not-fits.false))

pub go_on-requires-clause-kept : goal.go_on-requires-clause-kept
go_on-requires-clause-kept c = wanted_kept c.args.self.now _ c.requires.kept c.in_ok-want.ensures.same

pub go_on-requires-clause-turn : goal.go_on-requires-clause-turn
go_on-requires-clause-turn c = wanted_open c.args.self.now _ c.in_ok-want.ensures.same (opened_when c.args.self.now c.is_over.result c.is_over.ensures.over c.if-is_over.false)

pub go_on-requires-clause-moves : goal.go_on-requires-clause-moves
go_on-requires-clause-moves c =
    let m = c.args.self.now in
    wanted_moves (λ (k : Machine). is_at_rest (setting_at k) (state_of k) ≡ false) m _ c.in_ok-want.ensures.same
    (sym (c.is_over.ensures.rests (opened_when m c.is_over.result c.is_over.ensures.over c.if-is_over.false)) ∙ c.if-is_over.false)

pub go_on-requires-clause-few : goal.go_on-requires-clause-few
go_on-requires-clause-few c = wanted_few c.args.self.now _ c.in_ok-want.ensures.same c.requires.few

pub returns : goal.returns
returns c =
    let m = c.args.self.now in
    wants_goes m c.args.choice.now c.want.new.self _ c.in_ok-label.label c.requires.kept (opened_when m c.is_over.result c.is_over.ensures.over c.if-is_over.false)
    (fits_offer m c.in_ok-offered.offered c.args.choice.now c.in_ok-offered.ensures
    (subst (λ (o : laws.Offer). FitsOffer (chosen_of c.args.choice.now) o) c.in_ok-offer.ensures (c.fits.ensures.0 c.if-not-fits.false)))
    c.in_ok-want.ensures c.in_ok-label.ensures
