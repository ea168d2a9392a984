use Rattle.choice_offers.proofs.op_spots.task_spot.Goals as goal
use Rattle.core_primitives.specs.StateView.{thread_of}
use Rattle.laws_choices.specs.Offers.{task_offer}
use Rattle.std.proofs.Common.{ap, sym, ◌∙◌}

pub returns-in-RetBad : goal.returns-in-RetBad
returns-in-RetBad c =
    let s = c.args.core.now in
    let n = thread_of s c.args.thread in
    ((c.no_spot.ensures n).0, (c.no_spot.ensures n).1 ∙ ap (task_offer n s.core) (sym c.in-RetBad.is))

pub returns-in-BpInc : goal.returns-in-BpInc
returns-in-BpInc c =
    let s = c.args.core.now in
    let n = thread_of s c.args.thread in
    ((c.no_spot-in-BpInc.ensures n).0, (c.no_spot-in-BpInc.ensures n).1 ∙ ap (task_offer n s.core) (sym c.in-BpInc.is))
