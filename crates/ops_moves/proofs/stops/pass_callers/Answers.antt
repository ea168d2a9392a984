use Rattle.std.proofs.Common.{arith, sym, ◌∙◌, ◌<◌, subst}
use Rattle.ops_moves.proofs.StopLemmas.{passed_none, passed_one, popped_alone}
use Rattle.ops_moves.proofs.stops.pass_callers.Goals as goal

pub put_behind-requires-clause-apart : goal.put_behind-requires-clause-apart
put_behind-requires-clause-apart g c = popped_alone c.args.foot c.args.other c.in-Some.thread _ _ c.in-Some.ensures.is c.in-Some.ensures.new c.loop-thread.invariant.may

pub loop-thread-smaller : goal.loop-thread-smaller
loop-thread-smaller g c =
    let r = passed_one c.args.foot c.args.other c.in-Some.thread _ _ _ c.loop-thread.invariant.may c.in-Some.ensures.is c.in-Some.ensures.new c.put_behind.ensures in
    omega (arith, r.fewer)

pub loop-thread-preserved : goal.loop-thread-preserved
loop-thread-preserved g c =
    let r = passed_one c.args.foot c.args.other c.in-Some.thread _ _ _ c.loop-thread.invariant.may c.in-Some.ensures.is c.in-Some.ensures.new c.put_behind.ensures in
    record {
      foot = subst (λ k. 0 < k) (sym r.foot) c.loop-thread.invariant.foot;
      other = subst (λ k. 0 < k) (sym r.other) c.loop-thread.invariant.other;
      may = r.may c.loop-thread.invariant.may;
      same = r.same ∙ c.loop-thread.invariant.same;
    }

pub returns : goal.returns
returns g c = passed_none c.args.foot c.args.other _ _ c.in_default.ensures.is c.in_default.ensures.new ∙ c.loop-thread.invariant.same
