use Rattle.choice_offers.proofs.FarLemmas.{read_positive}
use Rattle.choice_offers.proofs.TestLemmas.{cancel_none, delivery_shut, yield_none}
use Rattle.choice_offers.proofs.take_spots.delivery_spot.Goals as goal
use Rattle.core_primitives.specs.Live.{delivered_set}
use Rattle.core_primitives.specs.StateView.{set_if_any, set_of, thread_of}
use Rattle.laws_choices.specs.Offers.{delivery_offer}
use Rattle.machine_data.specs.Moves.{why_of}
use Rattle.machine_data.specs.Read.{admits}
use Rattle.machine_data.specs.declared.records.Delivery.TheVariants as delivery
use Rattle.machine_data.specs.declared.records.Delivery.{Delivery}
use Rattle.machine_data.specs.declared.records.Why.TheVariants as why
use Rattle.std.proofs.Common.{ap, rules, sym, ◌∙◌}
use Rattle.std.specs.Prelude.{false, ◌≡◌}

pub returns-then-may_not_enter : goal.returns-then-may_not_enter
returns-then-may_not_enter c =
    let s = c.args.core.now in
    let n = thread_of s c.args.thread in
    let shut : admits n s.core (why.Delivery c.args.delivery) ≡ false = search rules in
    ((c.no_spot.ensures n).0, (c.no_spot.ensures n).1 ∙ (delivery_shut n s.core c.args.delivery ∙ sym (ap (delivery_offer n s.core c.args.delivery) shut)))

pub gives_woken-requires-clause-live : goal.gives_woken-requires-clause-live
gives_woken-requires-clause-live c =
    let s = c.args.core.now in
    let n = thread_of s c.args.thread in
    read_positive s.core.sets (delivered_set (why_of n s.core)) (set_of s c.in-Some.set) c.none_is_zero.ensures.sets c.requires.there.set (ap (set_if_any s) (sym c.in-Some.is) ∙ c.delivered_set.ensures)

pub returns-in-Yield : goal.returns-in-Yield
returns-in-Yield c =
    let s = c.args.core.now in
    let n = thread_of s c.args.thread in (
      (c.no_spot-in-Yield.ensures n).0,
      (c.no_spot-in-Yield.ensures n).1 ∙ (yield_none n s.core (admits n s.core (why.Delivery delivery.Yield)) ∙ ap (λ (d : Delivery). delivery_offer n s.core d (admits n s.core (why.Delivery d))) (sym c.in-Yield.is)),
    )

pub returns-in-Cancel : goal.returns-in-Cancel
returns-in-Cancel c =
    let s = c.args.core.now in
    let n = thread_of s c.args.thread in (
      (c.no_spot-in-Cancel.ensures n).0,
      (c.no_spot-in-Cancel.ensures n).1 ∙ (cancel_none n s.core (admits n s.core (why.Delivery delivery.Cancel)) ∙ ap (λ (d : Delivery). delivery_offer n s.core d (admits n s.core (why.Delivery d))) (sym c.in-Cancel.is)),
    )
