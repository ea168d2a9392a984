-- The work that a call of a host has made.
use Rattle.task_wait.specs.declared.keys.ThreadKey.{ThreadKey}
use Rattle.machine_data.specs.declared.statuses.Status.TheVariants as status
use Rattle.machine_data.specs.Statuses.{packed}
use Rattle.std.specs.Prelude.{None, Option, Some, option_map, ℕ, ◌≡◌}
use Rattle.machine_data.specs.Core.{Core}
use Rattle.machine_data.specs.Read.{course_of, instance_of, new_handle}
use Rattle.machine_data.specs.declared.records.Course.TheVariants as course
use Rattle.ops_guests.specs.declared.op_result.OpResult.{OpResult}
use Rattle.ops_guests.specs.declared.op_result.OpResult.TheVariants as op_result
use Rattle.machine_rules.specs.Calls.{FirstPoll, Later, next_work}
use Rattle.task_table.specs.declared.id.TableId.{TableId}
use Rattle.task_wait.specs.declared.keys.HostTaskKey.{HostTaskKey}
use Rattle.core_primitives.specs.StateView.{StateView, work_of, thread_of}

-- the next one, where the host pends and the call hasn't trapped
abbrev pub queued_work : FirstPoll → OpResult → Core → Option ℕ
queued_work (Later host) (op_result.Continues l n said) s = Some (next_work s)
queued_work (Later host) (op_result.Stops l) s = Some (next_work s)
queued_work _ _ s = None

-- it goes on with what its first poll has left of the host
abbrev pub GoesOnWith : FirstPoll → Option (TableId HostTaskKey) → StateView → Type 0
GoesOnWith (Later left) (Some id) s = course_of (work_of s id) s.core ≡ course.Continues left
GoesOnWith _ _ s = Unit {0}

-- The id of the work that was made is named beside what the call resulted in, and the work goes on so.
pub record NamesQueued (p : FirstPoll) (s : StateView) (r : OpResult × Option (TableId HostTaskKey)) (t : StateView) : Type 0 where
  pub work : option_map (λ id. work_of t id) r.1 ≡ queued_work p r.0 s.core
  pub goes_on : GoesOnWith p r.1 t

-- what a `call` answers whose work is queued: its handle, and that it has started
abbrev pub queued_answer : TableId ThreadKey → StateView → ℕ
queued_answer id s = packed (new_handle (instance_of (thread_of s id) s.core) s.core) status.Started
