-- The run goes on with the context in the place of the thread's record.
use Rattle.std.proofs.Common.{◌+◌, ◌≤◌}
use Rattle.machine_data.specs.declared.records.Turn.TheVariants as turn
use Rattle.ops_turns.specs.Context.{KeepsBeside, state_in}
use Rattle.ops_turns.specs.Drive.{Computes, KeepsOn}
use Rattle.ops_turns.proofs.stretches.stretch.Given as goal

abbrev pub invariant-ops : goal.invariant-ops
invariant-ops g l = record {
  spare : l.fn.trace.spare + l.fn.added ≤ l.trace.spare + l.count;
  beside : KeepsBeside (g.W.View.view l.fn.w) (g.W.View.view l.w);
  on : KeepsOn l.component (turn.Run l.number) (g.W.View.view l.fn.w) l.fn.trace.labels l.fn.added (state_in l.number l.context (g.W.View.view l.w)) l.trace.labels l.count;
  computes : Computes l.component (turn.Run l.number) (g.W.View.view l.fn.w) l.fn.trace.labels l.fn.added (state_in l.number l.context (g.W.View.view l.w)) l.trace.labels l.count;
}
