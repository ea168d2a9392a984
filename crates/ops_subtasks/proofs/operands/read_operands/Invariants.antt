use Rattle.std.proofs.Common.{length, take, ◌≡◌}
use Rattle.machine_data.specs.Read.{registers_of}
use Rattle.machine_rules.specs.Scripts.{values_in}
use Rattle.core_primitives.specs.StateView.{thread_of}
use Rattle.ops_subtasks.proofs.operands.read_operands.Given as goal

abbrev pub invariant-loop-place : goal.invariant-loop-place
invariant-loop-place g l =
    (take l.place l.words ≡ values_in (registers_of (thread_of (g.W.View.view l.w) l.thread) (g.W.View.view l.w).core) (take l.place l.operands)) × (length l.words ≡ 16)
