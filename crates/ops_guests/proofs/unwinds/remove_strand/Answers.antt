use Rattle.std.proofs.Common.{arith, sym, ◌∙◌}
use Rattle.ops_guests.proofs.UnwindLemmas.{last_removed, named_after, removed_one}
use Rattle.ops_guests.proofs.unwinds.remove_strand.Goals as goal

pub returns-in_default-clause-core : goal.returns-in_default-clause-core
returns-in_default-clause-core g c = c.remove_thread.ensures.core ∙ (sym (last_removed _ _ c.loop-next.invariant.top (sym c.in_default.ensures.is)) ∙ c.loop-next.invariant.rest)

pub returns-in_default-clause-works : goal.returns-in_default-clause-works
returns-in_default-clause-works g c = let v = g.W.View.view in named_after (v c.args.w.now) (v c.loop-next.w) (v c.remove_thread.new.self) _ c.loop-next.invariant.works c.remove_thread.ensures.tags

pub loop-next-smaller : goal.loop-next-smaller
loop-next-smaller g c =
    let v = g.W.View.view in
    let r = removed_one c.loop-next.top c.in-Some.next (v c.loop-next.w) (v c.remove_thread.new.self) c.loop-next.invariant.top c.in-Some.ensures.is c.in-Some.ensures.live c.remove_thread.ensures.tags c.remove_thread.ensures.core in
    omega (arith, r.fewer)

pub loop-next-preserved : goal.loop-next-preserved
loop-next-preserved g c =
    let v = g.W.View.view in
    let r = removed_one c.loop-next.top c.in-Some.next (v c.loop-next.w) (v c.remove_thread.new.self) c.loop-next.invariant.top c.in-Some.ensures.is c.in-Some.ensures.live c.remove_thread.ensures.tags c.remove_thread.ensures.core in
    record { live = r.live; top = r.top; rest = r.rest ∙ c.loop-next.invariant.rest; current = c.remove_thread.ensures.current ∙ c.loop-next.invariant.current; works = named_after (v c.args.w.now) (v c.loop-next.w) (v c.remove_thread.new.self) _ c.loop-next.invariant.works c.remove_thread.ensures.tags }
