use Rattle.choice_offers.proofs.op_spots.spot_of.Goals as goal
use Rattle.core_primitives.specs.StateView.{thread_of}
use Rattle.laws_choices.specs.Offers.{op_offer}
use Rattle.std.proofs.Common.{ap, sym, ◌∙◌}

pub returns-in-Data : goal.returns-in-Data
returns-in-Data c =
    let s = c.args.core.now in
    let n = thread_of s c.args.thread in
    ((c.no_spot.ensures n).0, (c.no_spot.ensures n).1 ∙ ap (op_offer n s.core) (sym c.in-Data.is))

pub returns-in-Thread : goal.returns-in-Thread
returns-in-Thread c =
    let s = c.args.core.now in
    let n = thread_of s c.args.thread in
    ((c.no_spot-in-Thread.ensures n).0, (c.no_spot-in-Thread.ensures n).1 ∙ ap (op_offer n s.core) (sym c.in-Thread.is))
