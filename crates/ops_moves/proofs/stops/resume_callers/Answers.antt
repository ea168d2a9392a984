use Rattle.std.proofs.Common.{arith, sym, ◌∙◌, ◌<◌, subst}
use Rattle.ops_moves.proofs.StopLemmas.{popped_unqueued, resumed_none, resumed_one}
use Rattle.ops_moves.proofs.stops.resume_callers.Goals as goal

pub put_high-requires-clause-unqueued : goal.put_high-requires-clause-unqueued
put_high-requires-clause-unqueued g c = popped_unqueued c.args.foot c.in-Some.thread _ _ c.in-Some.ensures.is c.in-Some.ensures.new c.loop-thread.invariant.unqueued

pub loop-thread-smaller : goal.loop-thread-smaller
loop-thread-smaller g c = let r = resumed_one c.args.foot c.in-Some.thread _ _ _ c.in-Some.ensures.is c.in-Some.ensures.new c.put_high.ensures in omega (arith, r.fewer)

pub loop-thread-preserved : goal.loop-thread-preserved
loop-thread-preserved g c =
    let r = resumed_one c.args.foot c.in-Some.thread _ _ _ c.in-Some.ensures.is c.in-Some.ensures.new c.put_high.ensures in
    record {
      live = subst (λ k. 0 < k) (sym r.live) c.loop-thread.invariant.live;
      unqueued = r.unqueued c.loop-thread.invariant.unqueued;
      same = r.same ∙ c.loop-thread.invariant.same;
    }

pub returns : goal.returns
returns g c = resumed_none c.args.foot _ _ c.in_default.ensures.is c.in_default.ensures.new ∙ c.loop-thread.invariant.same
