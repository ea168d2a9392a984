use Rattle.std.proofs.Common.{length, ◌<◌, ◌≡◌}
use Rattle.machine_data.specs.Read.{callers_of}
use Rattle.ops_moves.proofs.stops.resume_callers.Given as goal
use Rattle.ops_moves.specs.Stops.{AreCallersUnqueued, resumed_from}
use Rattle.core_primitives.specs.StateView.{on_core, thread_of}

-- the resumption of those that are left is that of all
abbrev pub invariant-loop-thread : goal.invariant-loop-thread
invariant-loop-thread g l = let v = g.W.View.view in record {
  live : 0 < thread_of (v l.w) l.foot;
  unqueued : AreCallersUnqueued (thread_of (v l.w) l.foot) (v l.w).core;
  same : on_core (resumed_from (thread_of (v l.w) l.foot)) (v l.w) ≡ on_core (resumed_from (thread_of (v l.initial.w) l.foot)) (v l.initial.w);
}

abbrev pub decreases-loop-thread : goal.decreases-loop-thread
decreases-loop-thread g l = let s = g.W.View.view l.w in length (callers_of (thread_of s l.foot) s.core)
