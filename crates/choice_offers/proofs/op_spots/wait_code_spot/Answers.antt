use Rattle.choice_offers.proofs.CodeLemmas.{code_big}
use Rattle.choice_offers.proofs.op_spots.wait_code_spot.Goals as goal
use Rattle.core_primitives.specs.StateView.{thread_of}
use Rattle.std.proofs.Common.{arith, ◌∙◌}
use Rattle.std.specs.Prelude.{◌*◌, ◌+◌, ◌<◌}

pub returns-then-set-ge268435456 : goal.returns-then-set-ge268435456
returns-then-set-ge268435456 c =
    let s = c.args.core.now in
    let n = thread_of s c.args.thread in
    let high = c.if-set-ge268435456.true in
    let big : 4294967295 < 16 * c.args.set + 2 = grind arith in
    ((c.no_spot.ensures n).0, (c.no_spot.ensures n).1 ∙ code_big n s.core (16 * c.args.set + 2) big)
