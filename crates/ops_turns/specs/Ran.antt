-- What a step of the running thread did, which host it polled first, and which work it made.
use Rattle.std.specs.Prelude.{None, Option, Some, true, ℕ, ◌+◌, ◌<◌, ◌^◌, ◌≡◌, ◌⊎◌}
pub use Rattle.ops_dispatch.specs.Did.{DidOp, IsBeforeEnd, scripted_rule_of}
use Rattle.ops_dispatch.specs.Continues.{given}
use Rattle.ops_dispatch.specs.Makes.{makes, takes_memory}
use Rattle.ops_dispatch.specs.Polls.{polled_host}
use Rattle.ops_dispatch.specs.declared.done.Done.{Done}
use Rattle.ops_subtasks.specs.First.{first_heard}
use Rattle.machine_data.specs.Core.{Core}
use Rattle.machine_data.specs.Maps.{get}
use Rattle.machine_data.specs.Read.{course_of, op_progress_of}
use Rattle.machine_data.specs.declared.component.Component.{Component}
use Rattle.machine_data.specs.declared.component.HostDef.{HostDef}
use Rattle.machine_data.specs.declared.op.Op.{Op}
use Rattle.machine_data.specs.declared.records.Course.TheVariants as course
use Rattle.machine_data.specs.declared.statuses.HostPoll.{HostPoll}
use Rattle.machine_rules.specs.Calls.{Later}
use Rattle.machine_rules.specs.Scripts.{op_of}
use Rattle.task_table.specs.declared.id.TableId.{TableId}
use Rattle.task_wait.specs.declared.keys.HostTaskKey.{HostTaskKey}
use Rattle.task_wait.specs.declared.keys.ThreadKey.{ThreadKey}
use Rattle.core_primitives.specs.StateView.{StateView, thread_of, work_of}

-- The work goes on with what the first poll has left of the host, which has answered so if it is open. If none was made there is none with
-- the next number, where a host was polled at all.
abbrev pub WorkMade : HostPoll → Option HostDef → Option (TableId HostTaskKey) → StateView → StateView → Type 0
WorkMade answer polled (Some id) s t =
    (host : HostDef) × ((left : HostDef) × ((polled ≡ Some host) × ((first_heard host answer ≡ Later left) ×
    ((work_of t id ≡ s.core.made.works + 1) × (course_of (work_of t id) t.core ≡ course.Continues left)))))
WorkMade answer polled None s t = (polled ≡ None) ⊎ (get t.core.works (s.core.made.works + 1) ≡ None)

-- the same of an op, by the host that it polls first
abbrev pub OpMade : HostPoll → Component → Op → TableId ThreadKey → StateView → Option (TableId HostTaskKey) → StateView → Type 0
OpMade answer c o id s work t = WorkMade answer (polled_host c (op_progress_of (thread_of s id) s.core) o) work s t

-- what the thread's op polls first
abbrev pub host_polled : Component → ℕ → Core → Option HostDef
host_polled c n s = polled_host c (op_progress_of n s) (op_of c n s)

-- ---- The op that is done

-- the op at the thread's place was; at its script's end it exits
abbrev pub DidHere : HostPoll → Component → TableId ThreadKey → StateView → Done → StateView → Type 0
DidHere answer c id s done t = DidOp answer c (op_of c (thread_of s id) s.core) id s done t

-- few threads, works, sets and groups were made, if that op makes one
abbrev pub MakesFew : Component → ℕ → Core → Type 0
MakesFew c n s = makes (op_progress_of n s) (op_of c n s) ≡ true → given s < 2 ^ 61

-- it may take memory, and nothing is changed
abbrev pub WantsFor : Op → StateView → StateView → Type 0
WantsFor o s t = (takes_memory o ≡ true) × (t ≡ s)

-- so it is of the op at the thread's place
abbrev pub WantsMemory : Component → ℕ → StateView → StateView → Type 0
WantsMemory c n s t = WantsFor (op_of c n s.core) s t
