-- A nursery as its callers see it, and what its calls result in.
use Rattle.std.specs.Prelude.{Bool, Err, IfSome, IsSome, List, None, Ok, OnErr, Option, Result, Some, [], false, length, slice_get, slice_set, true, ℕ, ◌++◌, ◌+◌, ◌-◌, ◌<◌, ◌^◌, ◌∷◌, ◌≡◌, ◌≤◌, ◌⊎◌}
use Rattle.ops_state.specs.declared.error.TaskError.{TaskError}
use Rattle.ops_state.specs.declared.error.TaskError.TheVariants as faults
use Rattle.ops_calls.specs.MainCalls.{Starts}
use Rattle.store_notices.specs.Moves.{finishes}
use Rattle.task_group.specs.Listeners.{AnsweredErr, ToldListeners}
use Rattle.task_loop.specs.LoopCalls.{callee_of}
use Rattle.task_loop.specs.Told.{TellsSome}
use Rattle.task_loop.specs.declared.call.Func.{Func}
use Rattle.task_loop.specs.declared.call.FuncCallConcurrent.{FuncCallConcurrent}
use Rattle.machine_data.specs.Core.{Core}
use Rattle.machine_data.specs.Write.{set_trapped}
use Rattle.machine_data.specs.declared.component.Component.{Component}
use Rattle.machine_data.specs.declared.component.HostDef.{HostDef}
use Rattle.machine_data.specs.declared.records.NoticeKind.TheVariants as notice
use Rattle.task_nursery.specs.Children.{WasSpawned, aborted_by, ended, is_open, is_open_call, left_by}
use Rattle.task_nursery.specs.Numbers.{count_where, numbered, numbers_where}
use Rattle.task_nursery.specs.declared.children.Child.{Child}
use Rattle.task_nursery.specs.declared.children.Kept.{Kept}
use Rattle.task_nursery.specs.declared.children.Kept.TheVariants as kept
use Rattle.task_nursery.specs.declared.nursery.NurseryError.{NurseryError}
use Rattle.task_nursery.specs.declared.nursery.NurseryError.TheVariants as errors
use Rattle.machine_rules.specs.MainOps.{start_refusal}
use Rattle.machine_rules.specs.Notices.{told_of}
use Rattle.machine_rules.specs.Scripts.{export_at}
use Rattle.machine_data.specs.declared.records.Turn.{Turn}
use Rattle.core_primitives.specs.Groups.{IsAsked, asked}
use Rattle.ops_turns.specs.Turn.{CoreInOrder}
use Rattle.task_store.specs.Spawns.{Spawns}
use Rattle.task_store.specs.declared.spawn.SpawnHandle.{SpawnHandle}
use Rattle.task_store.specs.declared.store.Store.{Store}
use Rattle.core_primitives.specs.StateView.{StateView, on_core}

-- how many calls may be open at once, whether it is closed, and its children, whose numbers count from 1
pub record Scope : Type 0 where
  pub limit : ℕ
  pub closed : Bool
  pub children : List Kept

-- the numbers of the open children, how many of them are calls, and that each child has a number
pub record Tallies (children : List Kept) (running : List ℕ) (count : ℕ) : Type 0 where
  pub numbers : running ≡ numbers_where is_open 1 children
  pub calls : count ≡ count_where is_open_call children
  pub few : length children ≤ 4294967295

-- the open works among these were spawned in this state
abbrev pub AreOf : List Kept → StateView → Type 0
AreOf children s = (i : ℕ) (k : Kept) → slice_get children i ≡ Some k → WasSpawned k s

-- those of the scope were
abbrev pub IsOf : Scope → StateView → Type 0
IsOf n s = AreOf n.children s

-- a child more
abbrev pub with_child : Kept → Scope → Scope
with_child k n = record n { children = n.children ++ k ∷ [] }

-- ---- What stays of a store

-- It is in order at each turn at which it was, each group that has ended was told of, if so it was, and nothing but the state and what is
-- held of works is changed.
pub record KeepsRest {T H G : Type 0} (s t : Store T H G) : Type 0 where
  pub order : (c : Component) (p : Turn) → CoreInOrder c p s.state.core → CoreInOrder c p t.state.core
  pub asked : IsAsked s.state → IsAsked t.state
  pub rest : t ≡ record s { state = t.state; works = t.works }

-- ---- A start

-- A closed scope refuses it, and so does one in which as many calls are open as may be; whoever refuses it, the scope is as before.
pub record Refuses {T H G : Type 0} (n : Scope) (s : Store T H G) (result : Result Child NurseryError) (m : Scope) (t : Store T H G) :
    Type 0 where
  pub closed : n.closed ≡ true → (result ≡ Err errors.Closed) × (t ≡ s)
  pub full : n.closed ≡ false → n.limit ≤ count_where is_open_call n.children → (result ≡ Err errors.Full) × (t ≡ s)
  pub same : OnErr result (m ≡ n)

-- why the scope takes no call, where the store doesn't
abbrev pub refusal_of : TaskError → NurseryError
refusal_of (faults.Trap why) = errors.Trap why
refusal_of _ = errors.NoMemory

-- the store starts a call
abbrev pub StartsCall : {T H G : Type 0} → Component → Func → List ℕ → Store T H G → ℕ → Store T H G → Type 0
StartsCall c f words s thread t = Starts c (callee_of f) words s.state (start_refusal s.state.core) (Ok thread) t.state

-- It doesn't: it is trapped, and each group that has ended was told of.
abbrev pub StopsCall : {T H G : Type 0} → Component → Func → List ℕ → Store T H G → TaskError → Store T H G → Type 0
StopsCall c f words s why t =
    Starts c (callee_of f) words s.state (start_refusal s.state.core) (Err why) (on_core set_trapped s.state) ×
    (t.state ≡ asked (on_core set_trapped s.state))

-- Else the store starts the call, which is a child more, or refuses it; or it is out of memory.
abbrev pub ScopeBegins :
    {T H G : Type 0} → Component → Func → List ℕ → Scope → Store T H G → Result Child NurseryError → Scope → Store T H G →
    Type 0
ScopeBegins c f words n s (Ok child) m t =
    (call : FuncCallConcurrent) × (m ≡ with_child (kept.Call f call) n) × (child.number ≡ length m.children) ×
    StartsCall c f words s call.thread t
ScopeBegins c f words n s (Err (errors.Trap why)) m t = StopsCall c f words s (faults.Trap why) t
ScopeBegins c f words n s (Err errors.NoMemory) m t = (t ≡ s) ⊎ StopsCall c f words s faults.NoMemory t
ScopeBegins c f words n s (Err _) m t = ⊥

-- what was told of it to who listens to the store's groups
abbrev pub TellsStart : {T H G : Type 0} → Result Child NurseryError → Store T H G → Store T H G → Type 0
TellsStart (Ok child) s t =
    ToldListeners (told_of notice.Start (s.state.core.made.groups + 1) ∷ []) s.listeners t.listeners ×
    (AnsweredErr s.listeners t.listeners → ⊥)
TellsStart (Err (errors.Trap why)) s t = ToldListeners (finishes s.state.tags.tracked) s.listeners t.listeners
TellsStart (Err errors.NoMemory) s t = TellsSome s.listeners t.listeners
TellsStart (Err _) s t = Unit {0}

-- the component has the export, which takes as many words
abbrev pub TakesWords : Component → Func → ℕ → Type 0
TakesWords c f words = IsSome (export_at c (callee_of f)) × IfSome (export_at c (callee_of f)) (λ e. words ≡ e.params)

-- What a start results in: the scope or the store has refused it, or there is a child more; and what was told of it.
pub record BeginsChild {T H G : Type 0} (c : Component) (f : Func) (words : List ℕ) (n : Scope) (s : Store T H G)
    (result : Result Child NurseryError) (m : Scope) (t : Store T H G) : Type 0 where
  pub refuses : Refuses n s result m t
  pub begins : n.closed ≡ false → count_where is_open_call n.children < n.limit → ScopeBegins c f words n s result m t
  pub told : IsAsked s.state → TellsStart result s t
  pub of : IsOf m t.state

-- ---- A spawn

-- The store spawns the work, which is a child more; or it is out of memory, and the scope is as before.
abbrev pub SpawnsChild : {T H G : Type 0} → (H → HostDef) → H → Scope → Store T H G → Result Child NurseryError → Scope → Store T H G →
    Type 0
SpawnsChild course work n s (Ok child) m t =
    (handle : SpawnHandle) × (m ≡ with_child (kept.Work handle) n) × (child.number ≡ length m.children) ×
    Spawns course work (Ok handle) s t
SpawnsChild course work n s (Err errors.NoMemory) m t = (m ≡ n) × ((t ≡ s) ⊎ Spawns course work (Err faults.NoMemory) s t)
SpawnsChild course work n s (Err _) m t = ⊥

-- ---- The end of children

-- the child of this number is ended
abbrev pub ended_at : Core → ℕ → List Kept → Option Kept → List Kept
ended_at s k children None = children
ended_at s k children (Some child) = slice_set children (k - 1) (ended s child)

abbrev pub with_ended : Core → ℕ → Scope → Scope
with_ended s k n = record n { children = ended_at s k n.children (numbered n.children k) }

-- what is taken from the core with it
abbrev pub left_at : Option Kept → Core → Core
left_at None s = s
left_at (Some child) s = left_by child s

abbrev pub aborted_at : Option Kept → Core → Core
aborted_at None s = s
aborted_at (Some child) s = aborted_by child s

abbrev pub after_end : ℕ → Scope → Core → Core
after_end k n s = left_at (numbered n.children k) s

-- this child has ended, and what the store had of it is taken
abbrev pub EndsChild : {T H G : Type 0} → Child → Scope → Store T H G → Scope → Store T H G → Type 0
EndsChild child n s m t = (m ≡ with_ended s.state.core child.number n) × (t.state ≡ on_core (after_end child.number n) s.state)

-- each open work is asked to end
abbrev pub all_aborted : List Kept → Core → Core
all_aborted [] s = s
all_aborted (k ∷ ks) s = all_aborted ks (aborted_by k s)

-- this of the children of these numbers
abbrev pub those_aborted : (ℕ → Option Kept) → List ℕ → Core → Core
those_aborted at [] s = s
those_aborted at (n ∷ ns) s = those_aborted at ns (aborted_at (at n) s)
