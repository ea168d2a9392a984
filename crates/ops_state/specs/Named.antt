-- What the ids of these calls name.
use Rattle.std.specs.Prelude.{Option, option_map, ℕ, ◌<◌, ◌≡◌}
use Rattle.ops_state.specs.declared.name_calls.QualifiedThreadId.{QualifiedThreadId}
use Rattle.machine_data.specs.Read.{task_of}
use Rattle.machine_data.specs.declared.records.Subtask.{Subtask}
use Rattle.machine_data.specs.declared.records.Subtask.TheVariants as subtask
use Rattle.task_wait.specs.declared.keys.Waitable.{Waitable}
use Rattle.task_wait.specs.declared.keys.Waitable.TheVariants as waitable
use Rattle.core_primitives.specs.StateView.{StateView, Tags, call_number, call_of, thread_of, work_number, work_of}

-- The id names a thread and its call.
pub record IsLive (s : StateView) (id : QualifiedThreadId) : Type 0 where
  pub live : 0 < thread_of s id.thread
  pub task : call_of s id.task ≡ task_of (thread_of s id.thread) s.core

-- The waitable names a call or a host's work. No stream or future is live.
abbrev pub IsLiveWaitable : StateView → Waitable → Type 0
IsLiveWaitable s (waitable.Host id) = 0 < work_of s id
IsLiveWaitable s (waitable.Guest id) = 0 < call_of s id
IsLiveWaitable s (waitable.Transmit id) = ⊥

-- the subtask that the waitable is; default: the call 0, which is none
abbrev pub waitable_in : Tags → Waitable → Subtask
waitable_in tags (waitable.Host id) = subtask.Host (work_number tags id)
waitable_in tags (waitable.Guest id) = subtask.Guest (call_number tags id)
waitable_in tags (waitable.Transmit id) = subtask.Guest 0

-- the number of the thread, if there is one
abbrev pub number_of : StateView → Option QualifiedThreadId → Option ℕ
number_of s id = option_map (λ q. thread_of s q.thread) id
