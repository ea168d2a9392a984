-- A thread keeps its place where a host has its op taken on that had paused.
use Rattle.std.proofs.Common.{refl}
use Rattle.std.specs.Prelude.{false, true, ℕ, ◌≡◌}
use Rattle.ops_calls.proofs.HostOpLemmas.{if_running_is, running_is}
use Rattle.ops_calls.proofs.PausedLemmas.{begun, can_be_there, unpaused}
use Rattle.ops_calls.proofs.PlaceLemmas.{host_ops_leave_in_place}
use Rattle.ops_calls.specs.HostOps.{Does, op_rule_at, scripted_rule_of}
use Rattle.ops_calls.specs.InPlace.{HostOpsLeaveInPlace, PausedLeaveInPlace, is_return}
use Rattle.ops_calls.specs.Shown.{is_finished}
use Rattle.machine_data.specs.declared.op.CallOp.TheVariants as call_op
use Rattle.machine_data.specs.declared.op.Op.{Op}
use Rattle.machine_data.specs.declared.op.Op.TheVariants as op
use Rattle.machine_data.specs.declared.records.OpProgress.{OpProgress}
use Rattle.machine_data.specs.declared.records.OpProgress.TheVariants as op_progress
use Rattle.machine_data.specs.Read.{op_progress_of}
use Rattle.machine_rules.specs.OpParts.{calls_host, can_come}
use Rattle.machine_rules.specs.Scripts.{op_of}

-- an op that has paused isn't a return, nor a call of a host that goes on, and neither ends its thread nor its activation
paused_finished : (o : Op) (f : OpProgress) → can_come o f ≡ true → (f ≡ op_progress.Fresh → ⊥) → (is_finished o ≡ true) × ((calls_host o ≡ false) × (is_return o ≡ false))
paused_finished (op.Data o) f can paused = unpaused (op.Data o) refl refl refl refl refl refl refl refl f can paused
paused_finished (op.Task o) f can paused = unpaused (op.Task o) refl refl refl refl refl refl refl refl f can paused
paused_finished (op.Set o) f can paused = (refl, (refl, refl))
paused_finished (op.Thread o) f can paused = (refl, (refl, refl))
paused_finished (op.Call (call_op.CallHost r q h)) f can paused = unpaused (op.Call (call_op.CallHost r q h)) refl refl refl refl refl refl refl refl f can paused
paused_finished (op.Call (call_op.Call r q e xs)) f can paused = (refl, (refl, refl))
paused_finished (op.Call (call_op.CallSync r e xs)) f can paused = (refl, (refl, refl))
paused_finished (op.Call (call_op.CallSyncHost r h)) f can paused = (refl, (refl, refl))
paused_finished (op.Call (call_op.Cancel r x)) f can paused = (refl, (refl, refl))
paused_finished (op.Call (call_op.CancelSync r x)) f can paused = (refl, (refl, refl))
paused_finished (op.Call (call_op.Drop x)) f can paused = (refl, (refl, refl))

pub paused_leave_in_place : PausedLeaveInPlace
unfolding HostOpsLeaveInPlace PausedLeaveInPlace
paused_leave_in_place c i r s t q paused did =
    let n = q.number in
    let o = op_of c n s.core in
    let far = paused_finished o (op_progress_of n s.core) (can_be_there c s q (i, paused)) (begun c s q (i, paused)) in
    let does = running_is s n q.runs (λ k. Does (op_rule_at c s.core k) k s r t) did in
    host_ops_leave_in_place c o n r s t q.runs q.order far.0 far.1.0 far.1.1 (if_running_is s n q.runs (λ k. Does (scripted_rule_of c o s.core k) k s r t) does)
