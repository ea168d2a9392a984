use Rattle.std.proofs.Common.{◌≡◌, ◌<◌, ◌-◌}
use Rattle.machine_data.specs.Maps.{size}
use Rattle.machine_data.specs.Read.{foot_from}
use Rattle.ops_moves.proofs.feet.way_down.Given as goal
use Rattle.core_primitives.specs.StateView.{thread_of}

-- the foot of what was reached is that of the thread
abbrev pub invariant-loop-step : goal.invariant-loop-step
invariant-loop-step g l = let s = g.W.View.view l.w in record {
  live : 0 < thread_of s l.foot;
  same : foot_from (size s.core.threads - l.step) s.core (thread_of s l.foot) ≡ foot_from (size s.core.threads) s.core (thread_of s l.fn.thread);
}
