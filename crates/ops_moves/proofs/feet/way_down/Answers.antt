use Rattle.std.proofs.Common.{sym, ◌∙◌}
use Rattle.ops_moves.proofs.FootLemmas.{foot_less}
use Rattle.ops_moves.proofs.feet.way_down.Goals as goal

pub loop-step-preserved : goal.loop-step-preserved
loop-step-preserved g c = record {
  live = c.in-Some.ensures.live;
  same = sym (foot_less _ c.loop-step.step _ _ _ (rw c.threads-step-end.ensures at c.loop-step-test.true) c.in-Some.ensures.is) ∙ c.loop-step.invariant.same;
}
