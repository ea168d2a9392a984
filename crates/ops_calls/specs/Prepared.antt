-- A call that a thread has made, and not begun.
use Rattle.std.specs.Prelude.{Bool, Err, List, Ok, Result, Some, false, true, ℕ, ◌≡◌, IfSome, None}
use Rattle.ops_state.specs.Named.{IsLive}
use Rattle.ops_state.specs.declared.error.TaskError.{TaskError}
use Rattle.ops_state.specs.declared.error.TaskError.TheVariants as task_error
use Rattle.ops_state.specs.declared.name_calls.QualifiedThreadId.{QualifiedThreadId}
use Rattle.ops_subtasks.specs.Starts.{call_starts}
use Rattle.core_primitives.specs.BecomesRecord.{BecomesRecord}
use Rattle.machine_data.specs.Core.{Core}
use Rattle.machine_data.specs.Read.{callee_of, kind_of, place_of, task_of, thread_group, fits}
use Rattle.machine_data.specs.declared.component.Callee.{Callee}
use Rattle.machine_data.specs.declared.component.Component.{Component}
use Rattle.machine_data.specs.declared.records.Caller.TheVariants as caller
use Rattle.machine_data.specs.declared.records.Goal.{Goal}
use Rattle.machine_data.specs.declared.records.Goal.TheVariants as goal
use Rattle.machine_data.specs.declared.records.Place.TheVariants as place
use Rattle.machine_data.specs.declared.trap.Trap.TheVariants as trap
use Rattle.ops_guests.specs.Running.{IsRunning}
use Rattle.machine_rules.specs.Calls.{call_made, next_thread, call_queues}
use Rattle.machine_rules.specs.Scripts.{export_kind}
use Rattle.core_primitives.specs.StateView.{StateView, thread_of, with_core, with_current}
use Rattle.ops_turns.specs.Turn.{running_of}

-- where the call's result goes
abbrev pub goal_for : (async_caller : Bool) → (register : ℕ) → Goal
goal_for true q = goal.Register q
goal_for false q = goal.Answer

-- The id names a thread that is New, and its call; the thread n runs.
pub record CanStart (n : ℕ) (id : QualifiedThreadId) (s : StateView) : Type 0 where
  pub running : IsRunning n s.core
  pub live : IsLive s id
  pub new : place_of (thread_of s id.thread) s.core ≡ Some place.New

-- The call was made by n, whose result goes to g, and the id names its thread, which has the next number.
pub record Prepared (c : Component) (n : ℕ) (e : Callee) (words : List ℕ) (g : Goal) (s t : StateView)
    (id : QualifiedThreadId) : Type 0 where
  pub becomes : BecomesRecord (call_made (caller.Thread n) e (export_kind c e) g (thread_group n s.core) words s.core) s t
  pub can : CanStart n id t
  pub number : thread_of t id.thread ≡ next_thread s.core

-- Its entries don't fit, and nothing is changed; else it was made, or it is out of memory, and then the state is as before.
abbrev pub Prepares : Component → ℕ → Callee → List ℕ → Goal → StateView → (room : Bool) → Result QualifiedThreadId TaskError → StateView →
    Type 0
Prepares c n e words g s false r t = (r ≡ Err (task_error.Trap trap.TableFull)) × (t ≡ s)
Prepares c n e words g s true (Ok id) t = Prepared c n e words g s t id
Prepares c n e words g s true (Err why) t = (why ≡ task_error.NoMemory) × (t ≡ s)

-- The running thread has prepared a call so, where three entries fit.
abbrev pub PreparesHere : Component → Callee → List ℕ → Goal → StateView → Result QualifiedThreadId TaskError → StateView → Type 0
PreparesHere c e words g s r t = IfSome (running_of s) (λ n. Prepares c n e words g s (fits 3 s.core) r t)

-- the core once the call of the id, whose start is queued, is begun by n
abbrev pub starts_in : ℕ → QualifiedThreadId → StateView → Core
starts_in n id s =
    let k = task_of (thread_of s id.thread) s.core in
    call_starts n (thread_of s id.thread) k (callee_of k s.core).instance (kind_of k s.core) s.core

-- The running thread has begun the call of the id, and none runs.
abbrev pub StartsHere : QualifiedThreadId → StateView → StateView → Type 0
StartsHere id s t = IfSome (running_of s) (λ n. t ≡ with_current None (with_core (starts_in n id s) s))

-- Both halves, with nothing between them, are an async call: the core is that of a call whose start is queued.
abbrev pub QueuesAsWhole : QualifiedThreadId → StateView → StateView → Type 0
QueuesAsWhole id s t = (c : Component) (n : ℕ) (e : Callee) (words : List ℕ) (g : Goal) (before : StateView) → running_of s ≡ Some n →
    Prepared c n e words g before s id → t.core ≡ call_queues n e (export_kind c e) g words before.core
