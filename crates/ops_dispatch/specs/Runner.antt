-- The thread that runs, as its ops need it.
use Rattle.std.specs.Prelude.{Bool, IsSome, None, Option, Some, false, is_some, true, ℕ, ◌<◌, ◌≡◌, ◌||◌}
use Rattle.ops_subtasks.specs.Named.{NamedCallsThere}
use Rattle.laws_states.specs.Order.{StartsAwaited, StartsThere, WorksQueued}
use Rattle.laws_states.specs.WakeLaw.{NoneAdmitted}
use Rattle.machine_data.specs.Core.{Core}
use Rattle.machine_data.specs.Maps.{get}
use Rattle.machine_data.specs.Read.{goal_of, op_progress_of, instance_of, is_direct, is_explicit, task_of, under_of}
use Rattle.machine_data.specs.declared.records.OpProgress.{OpProgress}
use Rattle.machine_data.specs.declared.records.OpProgress.TheVariants as op_progress
use Rattle.machine_data.specs.declared.records.Subtask.{Subtask}
use Rattle.machine_data.specs.declared.records.Subtask.TheVariants as subtask
use Rattle.machine_data.specs.declared.records.Thread.{Thread}
use Rattle.machine_data.specs.declared.op.ThreadOp.{ThreadOp}
use Rattle.ops_moves.specs.Idle.{IsJoinThere}
use Rattle.ops_guests.specs.PickedEvents.{AllMembersNamed, MembersNamed}
use Rattle.ops_guests.specs.Running.{IsRunning, SetsThere}
use Rattle.ops_guests.specs.OpWakes.{WaitersTogether}
use Rattle.machine_rules.specs.OpParts.{suspends, yields}
use Rattle.task_table.specs.declared.id.TableId.{TableId}
use Rattle.task_wait.specs.declared.keys.ThreadKey.{ThreadKey}
use Rattle.core_primitives.specs.Apart.{work_entries}
use Rattle.core_primitives.specs.Live.{live_op_progress}
use Rattle.core_primitives.specs.StateView.{StateView, thread_of}

-- how far the thread has come in its op
abbrev pub progress_of : TableId ThreadKey → StateView → OpProgress
progress_of id s = op_progress_of (thread_of s id) s.core

-- The thread's instance has a table of handles.
abbrev pub HasHandleTable : TableId ThreadKey → StateView → Type 0
HasHandleTable id s = is_some (get s.core.handles (instance_of (thread_of s id) s.core)) ≡ true

-- the thread was resumed inside an op that suspends or yields
abbrev pub is_resumed : OpProgress → Bool
is_resumed op_progress.Suspends = true
is_resumed op_progress.Yields = true
is_resumed _ = false

-- an op inside which a thread may be resumed
abbrev pub is_halting : ThreadOp → Bool
is_halting o = suspends o || yields o

-- the call that the op is inside of
abbrev pub called_call : OpProgress → Option ℕ
called_call (op_progress.Calls (subtask.Guest k)) = Some k
called_call _ = None

-- the host work that it is inside of
abbrev pub called_work : OpProgress → Option ℕ
called_work (op_progress.Calls (subtask.Host i)) = Some i
called_work _ = None

-- the answer that it was given
abbrev pub given_answer : OpProgress → Option ℕ
given_answer (op_progress.Answered v) = Some v
given_answer _ = None

-- the subtask behind whose callee a cancel waits, and the one whose end it awaits
abbrev pub waits_behind : OpProgress → Option Subtask
waits_behind (op_progress.Cancels sub) = Some sub
waits_behind _ = None

abbrev pub awaits_end : OpProgress → Option Subtask
awaits_end (op_progress.AwaitsEnd sub) = Some sub
awaits_end _ = None

-- What the op under way is about is there, and the ready members of a set are named in the thread's instance. The work of a host call has
-- no entry any more.
pub record UnderWay (n : ℕ) (s : Core) : Type 0 where
  pub names : live_op_progress (op_progress_of n s) s ≡ op_progress_of n s
  pub sets : (x : ℕ) → op_progress_of n s ≡ op_progress.Waits x → is_some (get s.sets x) ≡ true
  pub members : (x : ℕ) → op_progress_of n s ≡ op_progress.Waits x → MembersNamed (instance_of n s) x s
  pub calls : (k : ℕ) → op_progress_of n s ≡ op_progress.Calls (subtask.Guest k) → is_some (get s.calls k) ≡ true
  pub works : (i : ℕ) → op_progress_of n s ≡ op_progress.Calls (subtask.Host i) → is_some (get s.works i) ≡ true
  pub unqueued : (i : ℕ) → op_progress_of n s ≡ op_progress.Calls (subtask.Host i) → work_entries i s.queues.high ≡ 0

-- The thread runs, and what its ops name is there: sets and calls by their handles, the set that its call is joined to, the thread under
-- the first one of a direct call, and the first thread of a call whose start hasn't run. Ready members are named in the instances of
-- their sets, waiters of one set are of one instance, and no held thread is admitted.
pub record Runner (id : TableId ThreadKey) (s : StateView) : Type 0 where
  pub thread : Thread
  pub here : get s.core.threads (thread_of s id) ≡ Some thread
  pub live : 0 < thread_of s id
  pub current : s.current ≡ Some id
  pub running : IsRunning (thread_of s id) s.core
  pub sets : SetsThere s.core
  pub join : IsJoinThere (subtask.Guest (task_of (thread_of s id) s.core)) s.core
  pub under : is_explicit (thread_of s id) s.core ≡ false → is_direct (goal_of (task_of (thread_of s id) s.core) s.core) ≡ true →
      IsSome (under_of (thread_of s id) s.core)
  pub members : AllMembersNamed (instance_of (thread_of s id) s.core) s.core
  pub under_way : UnderWay (thread_of s id) s.core
  pub together : WaitersTogether s.core
  pub calls : NamedCallsThere s.core
  pub starts : StartsAwaited s.core
  pub waiting : StartsThere s.core
  pub works : WorksQueued s.core
  pub held : NoneAdmitted s.core
