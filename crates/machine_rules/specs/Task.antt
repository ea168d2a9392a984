-- The ops that end a task or an activation, and backpressure.
use Rattle.std.specs.Prelude.{List, Option, nat_le, not, suc, zero, ℕ, ◌*◌, ◌+◌, ◌-◌}
use Rattle.machine_data.specs.declared.op.TaskOp.{TaskOp}
use Rattle.machine_data.specs.declared.label.Label.TheVariants as label
use Rattle.machine_data.specs.declared.label.TaskLabel.TheVariants as task_label
use Rattle.machine_data.specs.declared.op.TaskOp.TheVariants as task_op
use Rattle.machine_data.specs.declared.trap.Trap.TheVariants as trap
use Rattle.machine_data.specs.Core.{Core}
use Rattle.machine_data.specs.Labels.{Choice, ret_label, task_cancel_label}
use Rattle.machine_data.specs.Moves.{released}
use Rattle.machine_data.specs.Read.{admitted_held, backpressure_of, cancel_was_delivered, has_ended, instance_of, is_async_lifted, kind_of, task_of}
use Rattle.machine_data.specs.Write.{set_backpressure}
use Rattle.machine_rules.specs.Finish.{Doer, NoAnswer, OwnScript, finish}
use Rattle.machine_rules.specs.Ends.{cancelled, code_rule, exit_rule, may_tell, returned}
use Rattle.machine_rules.specs.Progress.{Continues, Ordered, Progress, Traps, may, trap_if}
use Rattle.machine_rules.specs.Scripts.{value_of}

abbrev pub ret_done : ℕ → ℕ → Option ℕ → Core → Core
ret_done n v w s = finish (OwnScript 0) n NoAnswer (returned (task_of n s) v w s)

-- `ret X`: trap 1 (TaskCancelOrReturnTwice) where the task has ended, trap 3 (TaskReturnInvalid) where it isn't async-lifted;
-- else it ends as Returned with X
abbrev pub ret_rule : Doer → ℕ → ℕ → Option ℕ → Core → Progress
ret_rule d n v w s =
    trap_if (has_ended (task_of n s) s) trap.TaskCancelOrReturnTwice (
    trap_if (not (is_async_lifted (kind_of (task_of n s) s))) trap.TaskReturnInvalid (
    may (may_tell (task_of n s) w s) (
    Continues (ret_label n v w) (finish d n NoAnswer (returned (task_of n s) v w s)) n)))

abbrev pub scripted_ret_rule : ℕ → ℕ → Option ℕ → Core → Progress
scripted_ret_rule n v w s = ret_rule (OwnScript 0) n v w s

-- `ret_bad X`: trap 1 (TaskCancelOrReturnTwice) where the task has ended, else trap 3 (TaskReturnInvalid)
abbrev pub ret_bad_rule : ℕ → Core → Progress
ret_bad_rule n s =
    trap_if (has_ended (task_of n s) s) trap.TaskCancelOrReturnTwice (
    Traps trap.TaskReturnInvalid)

abbrev pub task_cancel_done : ℕ → Option ℕ → Core → Core
task_cancel_done n w s = finish (OwnScript 0) n NoAnswer (cancelled (task_of n s) w s)

-- `task_cancel`: trap 2 (TaskCancelNotCancelled) where no cancel was delivered, trap 1 (TaskCancelOrReturnTwice) where the task
-- has ended; else it ends as ReturnCancelled
abbrev pub task_cancel_rule : Doer → ℕ → Option ℕ → Core → Progress
task_cancel_rule d n w s =
    trap_if (not (cancel_was_delivered (task_of n s) s)) trap.TaskCancelNotCancelled (
    trap_if (has_ended (task_of n s) s) trap.TaskCancelOrReturnTwice (
    may (may_tell (task_of n s) w s) (
    Continues (task_cancel_label n w) (finish d n NoAnswer (cancelled (task_of n s) w s)) n)))

abbrev pub scripted_task_cancel_rule : ℕ → Option ℕ → Core → Progress
scripted_task_cancel_rule n w s = task_cancel_rule (OwnScript 0) n w s

unfoldable pub pressure_raised : ℕ → Core → Core
pressure_raised n s = let i = instance_of n s in set_backpressure i (backpressure_of i s + 1) s

abbrev pub inc_raises : ℕ → Core → Core
inc_raises n s = finish (OwnScript 0) n NoAnswer (pressure_raised n s)

-- `bp_inc`: trap 10 (BackpressureOverflow) where the counter is at 65535
abbrev pub inc_rule : Doer → ℕ → Core → Progress
inc_rule d n s =
    trap_if (nat_le 65535 (backpressure_of (instance_of n s) s)) trap.BackpressureOverflow (
    Continues (label.Task (task_label.BpInc n)) (finish d n NoAnswer (pressure_raised n s)) n)

abbrev pub scripted_inc_rule : ℕ → Core → Progress
scripted_inc_rule n s = inc_rule (OwnScript 0) n s

unfoldable pub pressure_lowered : ℕ → Core → Core
pressure_lowered n s = let i = instance_of n s in set_backpressure i (backpressure_of i s - 1) s

abbrev pub dec_lowers : ℕ → Core → Core
dec_lowers n s = finish (OwnScript 0) n NoAnswer (pressure_lowered n s)

-- the counter falls to 0, and these held threads of the instance are released
unfoldable pub pressure_gone : ℕ → List ℕ → Core → Core
pressure_gone n order s = released order (set_backpressure (instance_of n s) 0 s)

abbrev pub dec_opens : ℕ → List ℕ → Core → Core
dec_opens n order s = finish (OwnScript 0) n NoAnswer (pressure_gone n order s)

-- the held threads that are admitted once the counter is 0
unfoldable pub held_by_counter : ℕ → Core → List ℕ
held_by_counter i s = admitted_held i (set_backpressure i 0 s)

-- trap 10 (BackpressureOverflow) where the counter is 0; falling to 0 releases the instance
abbrev pub dec_by : Doer → ℕ → Core → ℕ → Progress
dec_by d n s zero = Traps trap.BackpressureOverflow
dec_by d n s (suc zero) =
    Ordered (held_by_counter (instance_of n s) s) (
    λ order. Continues (label.Task (task_label.BpDec n)) (finish d n NoAnswer (pressure_gone n order s)) n)
dec_by d n s (suc (suc b)) = Continues (label.Task (task_label.BpDec n)) (finish d n NoAnswer (pressure_lowered n s)) n

abbrev pub dec_from : ℕ → Core → ℕ → Progress
dec_from n s b = dec_by (OwnScript 0) n s b

-- `bp_dec`
abbrev pub dec_rule : Doer → ℕ → Core → Progress
dec_rule d n s = dec_by d n s (backpressure_of (instance_of n s) s)

abbrev pub scripted_dec_rule : ℕ → Core → Progress
scripted_dec_rule n s = dec_rule (OwnScript 0) n s

abbrev pub task_rule : Doer → ℕ → Core → Choice → TaskOp → Progress
task_rule d n s ch (task_op.Ret x) = ret_rule d n (value_of n s x) ch.woken s
task_rule d n s ch (task_op.RetBad x) = ret_bad_rule n s
task_rule d n s ch task_op.TaskCancel = task_cancel_rule d n ch.woken s
task_rule d n s ch task_op.Exit = exit_rule n ch.woken s
task_rule d n s ch task_op.CbYield = code_rule (label.Task (task_label.CbYield n)) n s 1
task_rule d n s ch (task_op.CbWait x) = code_rule (label.Task (task_label.CbWait n)) n s (16 * value_of n s x + 2)
task_rule d n s ch (task_op.Code x) = code_rule (label.Task (task_label.Code n)) n s (value_of n s x)
task_rule d n s ch task_op.BpInc = inc_rule d n s
task_rule d n s ch task_op.BpDec = dec_rule d n s

abbrev pub scripted_task_rule : ℕ → Core → Choice → TaskOp → Progress
scripted_task_rule n s ch o = task_rule (OwnScript 0) n s ch o
