use Rattle.std.proofs.Common.{refl, subst, sym, ◌∙◌}
use Rattle.std.specs.Prelude.{false, ◌≡◌}
use Rattle.laws_choices.specs.Offer.{Chosen, FitsOffer}
use Rattle.laws_choices.specs.Offers.{offer}
use Rattle.machine_rules.specs.Outcome.{is_at_rest}
use Rattle.trace_machine.proofs.MachineLemmas.{lists_offer, wants_goes}
use Rattle.trace_machine.proofs.OnlyLemmas.{first_alone, first_listed, same_open}
use Rattle.trace_machine.proofs.StepLemmas.{none_when, opened_when}
use Rattle.trace_machine.proofs.WantLemmas.{wanted_few, wanted_kept, wanted_moves, wanted_open}
use Rattle.trace_machine.proofs.machine.Machine.go_only.Goals as goal
use Rattle.trace_machine.specs.Machines.{setting_at, state_of}
use Rattle.trace_machine.specs.declared.machine.Machine.{Machine}

pub returns-then-is_over : goal.returns-then-is_over
returns-then-is_over c =
    (none_when c.args.self.now c.is_over.result c.is_over.ensures.over c.is_over.ensures.rests c.if-is_over.true, (refl, λ opened. sym (c.is_over.ensures.rests opened) ∙ c.if-is_over.true))

pub returns-then-is_open : goal.returns-then-is_open
returns-then-is_open c =
    let m = c.args.self.now in
    let opened = opened_when m c.is_over.result c.is_over.ensures.over c.if-is_over.false in
    let is = lists_offer m c.in_ok-offered.offered c.in_ok-offer.offer c.in_ok-offer.ensures c.in_ok-offered.ensures in (
      record {
        unfinished = opened;
        moves = sym (c.is_over.ensures.rests opened) ∙ c.if-is_over.false;
        opened = sym (same_open m c.in_ok-offer.offer is) ∙ (sym c.is_open.ensures ∙ c.if-is_open.true);
        offered = is;
      },
      refl,
    )

pub want-requires-clause-fits : goal.want-requires-clause-fits
want-requires-clause-fits c =
    let m = c.args.self.now in
    let is = lists_offer m c.in_ok-offered.offered c.in_ok-offer.offer c.in_ok-offer.ensures c.in_ok-offered.ensures in
    subst (λ (d : Chosen). FitsOffer d (offer (setting_at m) (state_of m))) (sym c.in_ok-choice.ensures) (first_listed m c.in_ok-offer.offer is)

pub go_on-requires-clause-kept : goal.go_on-requires-clause-kept
go_on-requires-clause-kept c = wanted_kept c.args.self.now _ c.requires.kept c.in_ok-want.ensures.same

pub go_on-requires-clause-turn : goal.go_on-requires-clause-turn
go_on-requires-clause-turn c = wanted_open c.args.self.now _ c.in_ok-want.ensures.same (opened_when c.args.self.now c.is_over.result c.is_over.ensures.over c.if-is_over.false)

pub go_on-requires-clause-moves : goal.go_on-requires-clause-moves
go_on-requires-clause-moves c =
    let m = c.args.self.now in
    wanted_moves (λ (k : Machine). is_at_rest (setting_at k) (state_of k) ≡ false) m _ c.in_ok-want.ensures.same
    (sym (c.is_over.ensures.rests (opened_when m c.is_over.result c.is_over.ensures.over c.if-is_over.false)) ∙ c.if-is_over.false)

pub go_on-requires-clause-few : goal.go_on-requires-clause-few
go_on-requires-clause-few c = wanted_few c.args.self.now _ c.in_ok-want.ensures.same c.requires.few

pub returns : goal.returns
returns c =
    let m = c.args.self.now in
    let is = lists_offer m c.in_ok-offered.offered c.in_ok-offer.offer c.in_ok-offer.ensures c.in_ok-offered.ensures in
    let closed = sym c.is_open.ensures ∙ c.if-is_open.false in
    record {
      closed = sym (same_open m c.in_ok-offer.offer is) ∙ closed;
      choice = c.in_ok-choice.choice;
      only = c.in_ok-choice.ensures ∙ first_alone m c.in_ok-offer.offer is closed;
      goes = wants_goes m c.in_ok-choice.choice c.want.new.self _ c.in_ok-label.label c.requires.kept (opened_when m c.is_over.result c.is_over.ensures.over c.if-is_over.false)
          (subst (λ (d : Chosen). FitsOffer d (offer (setting_at m) (state_of m))) (sym c.in_ok-choice.ensures) (first_listed m c.in_ok-offer.offer is))
          c.in_ok-want.ensures c.in_ok-label.ensures;
    }
