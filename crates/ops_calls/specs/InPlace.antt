-- What an op leaves of the thread that a host has do it: its place in its script, and its registers.
use Rattle.std.specs.Prelude.{Bool, Result, Some, false, true, ℕ, ◌==◌, ◌≡◌}
use Rattle.ops_dispatch.specs.Continues.{running_of}
pub use Rattle.ops_dispatch.specs.InPlace.{CallsItself, IsInPlace, IsUnderWay, in_script, is_return}
unfoldable pub use Rattle.ops_dispatch.specs.InPlace.{HostLeavesInPlace}
use Rattle.ops_state.specs.declared.error.TaskError.{TaskError}
use Rattle.ops_calls.specs.HostOps.{Did, HasPaused, IsRunningIn, op_rule_at, scripted_rule_of}
use Rattle.ops_calls.specs.MainCalls.{Returns}
use Rattle.ops_calls.specs.Shown.{is_finished}
use Rattle.machine_data.specs.declared.component.Component.{Component}
use Rattle.machine_data.specs.declared.op.Op.{Op}
use Rattle.machine_data.specs.declared.op.Op.TheVariants as op
use Rattle.machine_data.specs.declared.op.TaskOp.TheVariants as task_op
use Rattle.machine_data.specs.declared.records.Caller.TheVariants as caller
use Rattle.machine_data.specs.declared.records.Subtask.TheVariants as subtask
use Rattle.machine_data.specs.declared.records.Turn.TheVariants as turn
use Rattle.ops_guests.specs.declared.op_result.OpResult.{OpResult}
use Rattle.machine_rules.specs.OpParts.{calls_host}
use Rattle.ops_turns.specs.Turn.{CoreInOrder}
use Rattle.core_primitives.specs.StateView.{StateView}

-- Where the running thread did such an op, but a return, it is in its place then, with its registers, whatever the op resulted in. If
-- it was out of memory nothing is changed.
unfoldable pub HostOpsLeaveInPlace : Type 0
HostOpsLeaveInPlace =
    (c : Component) (o : Op) (n : ℕ) (r : OpResult) (s t : StateView) → running_of s ≡ Some n → CoreInOrder c (turn.Run n) s.core →
    is_finished o ≡ true → calls_host o ≡ false → is_return o ≡ false → Did (scripted_rule_of c o s.core) s r t →
    in_script n t.core ≡ in_script n s.core

-- Where it returned so it is, too.
unfoldable pub ReturnsLeaveInPlace : Type 0
ReturnsLeaveInPlace = (c : Component) (n v : ℕ) (own_type : Bool) (s t : StateView) (r : Result (Unit {0}) TaskError) →
    CoreInOrder c (turn.Run n) s.core → (CallsItself n s.core → ⊥) → Returns n v own_type s r t → in_script n t.core ≡ in_script n s.core

-- Where the op at its place had paused and was taken on, it is in its place, with its registers, whatever that resulted in.
unfoldable pub PausedLeaveInPlace : Type 0
PausedLeaveInPlace =
    (c : Component) (i : ℕ) (r : OpResult) (s t : StateView) (q : IsRunningIn c s) → HasPaused i s → Did (op_rule_at c s.core) s r t →
    in_script q.number t.core ≡ in_script q.number s.core
