use Rattle.std.proofs.Common.{length, ◌<◌, ◌≡◌}
use Rattle.machine_data.specs.Read.{callers_of}
use Rattle.ops_moves.proofs.stops.pass_callers.Given as goal
use Rattle.ops_moves.specs.Stops.{MayPass, behind_from}
use Rattle.core_primitives.specs.StateView.{on_core, thread_of}

-- who is left goes behind the other thread as all do
abbrev pub invariant-loop-thread : goal.invariant-loop-thread
invariant-loop-thread g l = let v = g.W.View.view in record {
  foot : 0 < thread_of (v l.w) l.foot;
  other : 0 < thread_of (v l.w) l.other;
  may : MayPass (thread_of (v l.w) l.foot) (thread_of (v l.w) l.other) (v l.w).core;
  same : on_core (behind_from (thread_of (v l.w) l.foot) (thread_of (v l.w) l.other)) (v l.w) ≡ on_core (behind_from (thread_of (v l.initial.w) l.foot) (thread_of (v l.initial.w) l.other)) (v l.initial.w);
}

abbrev pub decreases-loop-thread : goal.decreases-loop-thread
decreases-loop-thread g l = let s = g.W.View.view l.w in length (callers_of (thread_of s l.foot) s.core)
