use Rattle.choice_offers.proofs.op_spots.set_spot.Goals as goal
use Rattle.core_primitives.specs.StateView.{thread_of}
use Rattle.laws_choices.specs.Offers.{join_offer, poll_offer, set_offer}
use Rattle.std.proofs.Common.{ap, ap₂, sym, ◌∙◌}
use Rattle.std.specs.Prelude.{ℕ}

pub returns-in-Poll : goal.returns-in-Poll
returns-in-Poll c =
    let s = c.args.core.now in
    let n = thread_of s c.args.thread in (
      c.poll_spot.ensures.0,
      c.poll_spot.ensures.1 ∙ (ap (λ (h : ℕ). poll_offer n h s.core) c.value_of-in-Poll.ensures ∙ ap (set_offer n s.core) (sym c.in-Poll.is)),
    )

pub returns-in-Join : goal.returns-in-Join
returns-in-Join c =
    let s = c.args.core.now in
    let n = thread_of s c.args.thread in (
      c.join_spot.ensures.0,
      c.join_spot.ensures.1 ∙ (ap₂ (λ (h y : ℕ). join_offer n h y s.core) c.value_of-waitable.ensures c.value_of-in-Join.ensures ∙ ap (set_offer n s.core) (sym c.in-Join.is)),
    )

pub returns-in-New : goal.returns-in-New
returns-in-New c =
    let s = c.args.core.now in
    let n = thread_of s c.args.thread in
    ((c.no_spot.ensures n).0, (c.no_spot.ensures n).1 ∙ ap (set_offer n s.core) (sym c.in-New.is))

pub returns-in-Drop : goal.returns-in-Drop
returns-in-Drop c =
    let s = c.args.core.now in
    let n = thread_of s c.args.thread in
    ((c.no_spot-in-Drop.ensures n).0, (c.no_spot-in-Drop.ensures n).1 ∙ ap (set_offer n s.core) (sym c.in-Drop.is))
