use Rattle.std.proofs.Common.{◌<◌, ◌≡◌}
use Rattle.machine_data.specs.Maps.{size}
use Rattle.machine_data.specs.Read.{strand_of}
use Rattle.machine_data.specs.Write.{remove_threads}
use Rattle.ops_guests.proofs.unwinds.remove_strand.Given as goal
use Rattle.ops_guests.specs.Running.{IsTopmost}
use Rattle.ops_guests.specs.Works.{KeepsTold}
use Rattle.core_primitives.specs.StateView.{thread_of}

-- the removal of the threads that are left is that of all
abbrev pub invariant-loop-next : goal.invariant-loop-next
invariant-loop-next g l = let v = g.W.View.view in record {
  live : 0 < thread_of (v l.w) l.top;
  top : IsTopmost (thread_of (v l.w) l.top) (v l.w).core;
  rest : remove_threads (strand_of (thread_of (v l.w) l.top) (v l.w).core) (v l.w).core ≡ remove_threads (strand_of (thread_of (v l.initial.w) l.initial.top) (v l.initial.w).core) (v l.initial.w).core;
  current : (v l.w).current ≡ (v l.initial.w).current;
  works : KeepsTold (v l.initial.w) (v l.w);
}

abbrev pub decreases-loop-next : goal.decreases-loop-next
decreases-loop-next g l = size (g.W.View.view l.w).core.threads
