-- What the start of a call by the host results in, on a store whose groups are told of it.
use Rattle.ops_state.specs.declared.error.TaskError.{TaskError}
use Rattle.ops_state.specs.declared.error.TaskError.TheVariants as task_error
use Rattle.ops_state.specs.declared.name_calls.QualifiedThreadId.{QualifiedThreadId}
use Rattle.std.specs.Prelude.{Bool, Err, List, None, Ok, Option, Some, is_some, true, ℕ, ◌+◌, ◌≡◌, ◌⊎◌}
use Rattle.ops_calls.specs.MainCalls.{Starts}
use Rattle.store_notices.specs.Moves.{finishes}
use Rattle.task_group.specs.Listeners.{AnsweredErr, Listeners, ToldListeners, ToldWithHookOk}
use Rattle.task_loop.specs.Begun.{LeavesTask, TellsStopped}
use Rattle.task_loop.specs.Hooked.{Unhooked}
use Rattle.task_loop.specs.InstanceCalls.{DoesOn}
use Rattle.task_loop.specs.Told.{begun_notices}
use Rattle.task_loop.specs.declared.call.FuncCallConcurrent.{FuncCallConcurrent}
use Rattle.machine_data.specs.Write.{set_trapped}
use Rattle.machine_data.specs.declared.component.Callee.{Callee}
use Rattle.machine_data.specs.declared.component.Component.{Component}
use Rattle.machine_data.specs.declared.component.HostDef.{HostDef}
use Rattle.machine_data.specs.declared.records.Turn.{Turn}
use Rattle.machine_data.specs.declared.trap.Trap.{Trap}
use Rattle.machine_data.specs.declared.trap.Trap.TheVariants as trap
use Rattle.machine_rules.specs.MainOps.{start_refusal}
use Rattle.task_store.specs.Hosts.{HoldsHosts}
use Rattle.task_store.specs.declared.store.Store.{Store}
use Rattle.ops_turns.specs.Turn.{CoreInOrder}
use Rattle.core_primitives.specs.Groups.{IsAsked, asked}
use Rattle.core_primitives.specs.StateView.{on_core}

-- What stays of a store, whatever a call by the host results in.
pub record KeepsStore {T H G : Type 0} (c : Component) (s t : Store T H G) : Type 0 where
  -- it is in order at each turn at which it was
  pub order : (p : Turn) → CoreInOrder c p s.state.core → CoreInOrder c p t.state.core
  -- it holds the works of its hosts, if it did
  pub works : (course : H → HostDef) → HoldsHosts course s → HoldsHosts course t
  -- each group that has ended was told of, if so it was before
  pub asked : IsAsked s.state → IsAsked t.state
  -- there is a hook, if there was one
  pub hook : is_some t.listeners.hook ≡ is_some s.listeners.hook
  -- nothing but the state and the listeners is changed
  pub rest : t ≡ record s { state = t.state; listeners = t.listeners }

-- ---- A call that isn't made

-- It is refused by the trap by which the machine refuses it, if there is one. Else it is out of memory, or the hook, which listens,
-- answered an error.
abbrev pub IsReason : (listens : Bool) → (refusal : Option Trap) → (why : TaskError) → (old new : Listeners) → Type 0
IsReason listens (Some refusal) why old new = why ≡ task_error.Trap refusal
IsReason listens None why old new =
    (why ≡ task_error.NoMemory) ⊎ ((why ≡ task_error.Trap trap.HookFailed) × ((listens ≡ true) × AnsweredErr old new))

-- A call with this caller isn't made, for this reason: the state is as before. A hook may have been told that a new group
-- starts, and finishes; without one nothing was told.
pub record LeavesUnmade {T H G : Type 0} (listens : Bool) (refusal : Option Trap) (caller : Option QualifiedThreadId) (s : Store T H G)
    (why : TaskError) (t : Store T H G) : Type 0 where
  pub reason : IsReason listens refusal why s.listeners t.listeners
  pub state : t.state ≡ s.state
  pub told : LeavesTask caller why s.state.core s.listeners t.listeners
  pub unhooked : Unhooked listens s.listeners (t.listeners ≡ s.listeners)

-- A start isn't made, for this reason: the store is trapped, and all its groups are finished. A hook may have been told of a new one before
-- that; without one nothing else was told.
pub record StopsUnmade {T H G : Type 0} (listens : Bool) (s : Store T H G) (why : TaskError) (t : Store T H G) : Type 0 where
  pub reason : IsReason listens (start_refusal s.state.core) why s.listeners t.listeners
  pub state : t.state ≡ asked (on_core set_trapped s.state)
  pub told : TellsStopped why s.state s.listeners t.listeners
  pub unhooked : Unhooked listens s.listeners (ToldListeners (finishes s.state.tags.tracked) s.listeners t.listeners)

-- ---- A start

-- The call was made, and its thread has the next number. It is of a new group, whose start was told, and no error was answered.
pub record HasStarted {T H G : Type 0} (c : Component) (e : Callee) (words : List ℕ) (s : Store T H G) (call : FuncCallConcurrent)
    (t : Store T H G) : Type 0 where
  pub starts : Starts c e words s.state (start_refusal s.state.core) (Ok call.thread) t.state
  pub group : call.group ≡ s.state.core.made.groups + 1
  pub begun : ToldWithHookOk (begun_notices None s.state.core) s.listeners t.listeners

-- a start that leaves all as before if it isn't made
abbrev pub StartsOrLeaves : {T H G : Type 0} → (listens : Bool) → Component → Callee → List ℕ → DoesOn FuncCallConcurrent T H G
StartsOrLeaves listens c e words s (Ok call) t = HasStarted c e words s call t
StartsOrLeaves listens c e words s (Err why) t = LeavesUnmade listens (start_refusal s.state.core) None s why t

-- a start that traps the store if it isn't made
abbrev pub StartsOrStops : {T H G : Type 0} → (listens : Bool) → Component → Callee → List ℕ → DoesOn FuncCallConcurrent T H G
StartsOrStops listens c e words s (Ok call) t = HasStarted c e words s call t
StartsOrStops listens c e words s (Err why) t = StopsUnmade listens s why t
