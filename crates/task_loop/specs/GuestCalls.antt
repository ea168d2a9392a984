-- What the calls of a store result in that have another thread run, end a thread or begin a task, of which its groups are told.
use Rattle.store_notices.specs.Moves.{StopsAt, moved}
use Rattle.laws_order.specs.KeptOrder.{LeavesInOrder, TurnsInOrder}
use Rattle.ops_state.specs.Currents.{IsCurrent, LosesNoWake, now_runs, number_in, runner}
use Rattle.ops_state.specs.declared.currents.CurrentThread.{CurrentThread}
use Rattle.ops_state.specs.declared.error.TaskError.{TaskError}
use Rattle.ops_state.specs.declared.name_calls.QualifiedThreadId.{QualifiedThreadId}
use Rattle.std.specs.Prelude.{Bool, Err, List, None, Ok, OnErr, Option, Result, Some, false, true, ℕ, ◌≡◌, ◌⊎◌}
use Rattle.ops_calls.specs.Tasks.{entries_of, first_export}
use Rattle.task_group.specs.Listeners.{AnsweredErr, ToldWithHookOk}
use Rattle.task_loop.specs.Begun.{EndsUnmade, MakesTold}
use Rattle.task_loop.specs.CallStarts.{IsReason}
use Rattle.task_loop.specs.Ended.{EndsTold, RefusesEnd}
use Rattle.task_loop.specs.Hooked.{Unhooked}
use Rattle.task_loop.specs.InstanceCalls.{DoesOn}
use Rattle.task_loop.specs.Told.{groups_before_call, current_group, refused_by_hook}
use Rattle.machine_data.specs.Read.{fits}
use Rattle.machine_data.specs.declared.component.Component.{Component}
use Rattle.machine_data.specs.declared.component.ExportKind.{ExportKind}
use Rattle.machine_data.specs.declared.component.HostDef.{HostDef}
use Rattle.machine_data.specs.declared.records.Notice.{Notice}
use Rattle.machine_data.specs.declared.records.Turn.{Turn}
use Rattle.machine_data.specs.declared.trap.Trap.{Trap}
use Rattle.machine_data.specs.declared.trap.Trap.TheVariants as trap
use Rattle.machine_rules.specs.Ends.{leaves_no_result}
use Rattle.machine_rules.specs.Scripts.{export_kind}
use Rattle.task_store.specs.Hosts.{HoldsHosts}
use Rattle.task_store.specs.declared.store.Store.{Store}
use Rattle.ops_turns.specs.Turn.{CoreInOrder}
use Rattle.core_primitives.specs.StateView.{StateView}
use Rattle.laws_order.specs.WakesKept.{MayLeave, NoWakeLost}
use Rattle.core_primitives.specs.Groups.{IsAsked}

-- ---- Another thread runs

-- the one's group is left, and the other's entered
abbrev pub next_notices : CurrentThread → StateView → List Notice
next_notices thread s = moved (groups_before_call s) (current_group (now_runs thread s))

-- The hook answered no error: the thread that ran is answered, and the other one runs.
pub record RunsNext {T H G : Type 0} (thread : CurrentThread) (s : Store T H G) (r : Result CurrentThread TaskError) (t : Store T H G) :
    Type 0 where
  pub before : CurrentThread
  pub answers : r ≡ Ok before
  pub ran : IsCurrent s.state before
  pub runs : t.state ≡ now_runs thread s.state
  -- in order in its turn, if it was in that of the thread that ran
  pub order : TurnsInOrder (runner s.state) (number_in s.state thread) s.state.core t.state.core
  pub told : ToldWithHookOk (next_notices thread s.state) s.listeners t.listeners

-- The hook answered an error to an exit or an enter, and the same thread runs.
pub record KeepsRunner {T H G : Type 0} (listens : Bool) (thread : CurrentThread) (s : Store T H G) (r : Result CurrentThread TaskError)
    (t : Store T H G) : Type 0 where
  pub hears : listens ≡ true
  pub answers : r ≡ refused_by_hook
  pub state : t.state ≡ s.state
  pub stops : StopsAt (next_notices thread s.state) s.listeners t.listeners

-- Either of these.
pub record SetsThread {T H G : Type 0} (listens : Bool) (thread : CurrentThread) (s : Store T H G) (r : Result CurrentThread TaskError)
    (t : Store T H G) : Type 0 where
  pub heard : RunsNext thread s r t ⊎ KeepsRunner listens thread s r t
  pub wakes : LosesNoWake (runner s.state) (number_in s.state thread) s.state.core → NoWakeLost s.state.core → NoWakeLost t.state.core
  pub works : (course : H → HostDef) → HoldsHosts course s → HoldsHosts course t
  pub rest : t ≡ record s { state = t.state; listeners = t.listeners }

-- ---- A thread ends

-- It has ended, and leaves no task without a result: in order in main's turn, if it was in that of the thread. The hook answered no error.
pub record HasCleanedUp {T H G : Type 0} (n : ℕ) (s t : Store T H G) : Type 0 where
  pub result : leaves_no_result n s.state.core ≡ false
  pub ends : EndsTold n s.state t.state s.listeners t.listeners
  pub order : LeavesInOrder n s.state.core t.state.core
  pub hook_is_ok : AnsweredErr s.listeners t.listeners → ⊥

-- It has ended, or the end is refused for this reason.
abbrev pub CleansUp : {T H G : Type 0} → ℕ → DoesOn (Unit {0}) T H G
CleansUp n s (Ok done) t = HasCleanedUp n s t
CleansUp n s (Err why) t = RefusesEnd n why s.state s.listeners t.state t.listeners

-- So it is, and 22 is answered only if the hook listens.
pub record EndsThread {T H G : Type 0} (listens : Bool) (n : ℕ) (s : Store T H G) (r : Result (Unit {0}) TaskError) (t : Store T H G) :
    Type 0 where
  pub hears : r ≡ refused_by_hook → listens ≡ true
  pub leaves : CleansUp n s r t
  pub wakes : MayLeave n s.state.core → NoWakeLost s.state.core → NoWakeLost t.state.core
  pub works : (course : H → HostDef) → HoldsHosts course s → HoldsHosts course t
  pub rest : t ≡ record s { state = t.state; listeners = t.listeners }

-- ---- A task begins

-- its entries, 3 or 4 with the group, fit into the table
abbrev pub has_room : Option QualifiedThreadId → StateView → Bool
has_room f s = fits (entries_of f) s.core

-- trap 18, if they don't
abbrev pub table_refusal : (room : Bool) → Option Trap
table_refusal true = None
table_refusal false = Some trap.TableFull

-- The task was made and told, and the hook answered no error; or it isn't answered, for its reason.
abbrev pub MakesOn : {T H G : Type 0} → (listens : Bool) → ExportKind → ℕ → Option QualifiedThreadId → DoesOn QualifiedThreadId T H G
MakesOn listens x i f s (Ok id) t =
    MakesTold x i f (has_room f s.state) s.state id t.state s.listeners t.listeners × (AnsweredErr s.listeners t.listeners → ⊥)
MakesOn listens x i f s (Err why) t =
    IsReason listens (table_refusal (has_room f s.state)) why s.listeners t.listeners
    × EndsUnmade x i f (has_room f s.state) why s.state s.listeners t.state t.listeners

-- A task of an export of this kind, the first one of the instance, begins, or the hook refuses it.
pub record MakesTask {T H G : Type 0} (listens : Bool) (x : ExportKind) (i : ℕ) (f : Option QualifiedThreadId) (s : Store T H G)
    (r : Result QualifiedThreadId TaskError) (t : Store T H G) : Type 0 where
  pub hears : r ≡ refused_by_hook → listens ≡ true
  pub makes : MakesOn listens x i f s r t
  -- where it isn't made, all is as before: the state, unless the store is trapped; the listeners, unless there is a hook
  pub kept : s.state.core.trapped ≡ false → OnErr r (t.state ≡ s.state)
  pub refused : Unhooked listens s.listeners (OnErr r (t.listeners ≡ s.listeners))
  -- at whatever turn, for a component in which that export has this kind
  pub order : (c : Component) → (p : Turn) → x ≡ export_kind c (first_export i) → CoreInOrder c p s.state.core → CoreInOrder c p t.state.core
  pub works : (course : H → HostDef) → HoldsHosts course s → HoldsHosts course t
  -- each group that has ended was told of, if so it was before
  pub asked : IsAsked s.state → IsAsked t.state
  pub rest : t ≡ record s { state = t.state; listeners = t.listeners }
