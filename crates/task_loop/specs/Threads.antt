-- What those parts of a turn result in in which main has no part: a step of the thread that runs, the poll of a work, the taking of an entry.
use Rattle.std.specs.Prelude.{Bool, List, Some, ℕ, false, is_some, true, ◌+◌, ◌<◌, ◌^◌, ◌≡◌}
use Rattle.task_group.specs.Listeners.{Listeners, errors_of}
use Rattle.task_loop.specs.Hooked.{TellsInPart}
use Rattle.task_loop.specs.Told.{RunTold, TellsTurn, current_group, group_running, turn_of}
use Rattle.machine_data.specs.Core.{Core}
use Rattle.machine_rules.specs.Scripts.{op_of}
use Rattle.ops_dispatch.specs.Fits.{calls_host}
use Rattle.ops_dispatch.specs.Makes.{takes_memory}
use Rattle.ops_turns.specs.Taken.{StartsNext}
use Rattle.run_trace.specs.Traced.{Traced}
use Rattle.machine_data.specs.declared.component.Component.{Component}
use Rattle.machine_data.specs.declared.component.HostDef.{HostDef}
use Rattle.machine_data.specs.declared.label.Label.{Label}
use Rattle.machine_data.specs.declared.records.Turn.{Turn}
use Rattle.machine_data.specs.declared.records.Turn.TheVariants as turn
use Rattle.ops_guests.specs.Works.{KeepsWorks, NamesTold, NamesWorks}
use Rattle.task_store.specs.Hosts.{HoldsHosts}
use Rattle.task_store.specs.declared.store.Store.{Store}
use Rattle.ops_turns.specs.Later.{TracksSame}
use Rattle.ops_turns.specs.StepResult.{Added, MatchStep, TakesBeside, is_made}
use Rattle.ops_turns.specs.Turn.{CoreInOrder, MakesFree, TurnsBeside, given, running_of}
use Rattle.ops_turns.specs.WellFormed.{IsWellFormed}
use Rattle.ops_turns.specs.declared.made.StepResult.{StepResult}
use Rattle.ops_turns.specs.declared.made.StepResult.TheVariants as stepped
use Rattle.core_primitives.specs.Groups.{IsAsked}
use Rattle.core_primitives.specs.StateView.{StateView}

-- The thread runs in a store that is in order and holds the works of its hosts.
pub record RunsThread {T H G : Type 0} (course : H → HostDef) (c : Component) (n : ℕ) (s : Store T H G) : Type 0 where
  pub covered : IsWellFormed c
  pub order : CoreInOrder c (turn.Run n) s.state.core
  pub current : running_of s.state ≡ Some n
  pub few : given s.state.core + 4 < 2 ^ 61
  pub hosts : HoldsHosts course s

-- It took a step, whose label was added, and the works of its hosts are held. Of ids and groups that stays as this says.
pub record StepsWith {T H G : Type 0} (Keeps : StateView → StateView → Type 0) (course : H → HostDef) (c : Component) (n : ℕ)
    (s : Store T H G) (q : StepResult) (t : Store T H G) (before after : List Label) : Type 0 where
  pub makes : Added (λ made. MakesFree c (turn.Run n) s.state made t.state) q before after
  pub works : Keeps s.state t.state
  pub hosts : HoldsHosts course t

-- before it is told, and after that
abbrev pub StepsUntold : {T H G : Type 0} → (H → HostDef) → Component → ℕ → Store T H G → StepResult → Store T H G →
    (before after : Traced) → Type 0
StepsUntold course c n s q t before after = StepsWith NamesTold course c n s q t before.labels after.labels

abbrev pub StepsThread : {T H G : Type 0} → (H → HostDef) → Component → ℕ → Store T H G → StepResult → Store T H G →
    (before after : List Label) → Type 0
StepsThread = StepsWith NamesWorks

-- It was told, and the thread that runs then is of this group. Each group that has ended was told of.
pub record RanThread {T H G : Type 0} (course : H → HostDef) (c : Component) (n : ℕ) (s : Store T H G) (q : StepResult) (running : ℕ)
    (t : Store T H G) (before after : List Label) : Type 0 where
  pub steps : StepsThread course c n s q t before after
  pub told : Added (λ made. RunTold c n s.state s.listeners made t.state t.listeners) q before after
  pub group : running ≡ group_running t.state (turn_of q)
  pub asked : IsAsked t.state

-- a step of this turn was made, whatever main is
abbrev pub TurnsAnyhow : Turn → (s t : StateView) → StepResult → (before after : List Label) → Type 0
TurnsAnyhow p s t q before after = Added (λ made. TurnsBeside p s made t) q before after

-- an entry was taken in this turn, or it was seen that nothing is there
abbrev pub Takes : Component → (trap_on_idle ended : Bool) → StateView → StepResult → StateView → (before after : List Label) → Type 0
Takes c b ended s q t before after = TakesBeside c b ended s q t before after × KeepsWorks s t

-- It was told, and the thread that runs then is of this group. Each group that has ended was told of.
pub record ToldBeside (s : StateView) (old : Listeners) (p : Turn) (running : ℕ) (t : StateView) (new : Listeners) : Type 0 where
  pub told : TellsTurn s p t old new
  pub hook_is_ok : errors_of new ≡ errors_of old
  pub group : running ≡ current_group t
  pub asked : IsAsked t

-- The hook answered an error as it was told.
pub record FailsTold (s : Core) (p : Turn) (t : StateView) (old new : Listeners) : Type 0 where
  pub told : TellsInPart s p t old new
  pub hook : is_some new.hook ≡ is_some old.hook

-- It answered one as the step of the thread was told.
abbrev pub FailsThread : {T H G : Type 0} → (H → HostDef) → Component → ℕ → (s t : Store T H G) → (before after : List Label) → Type 0
FailsThread course c n s t before after =
    FailsTold s.state.core (turn.Run n) t.state s.listeners t.listeners × ((q : StepResult) × StepsThread course c n s q t before after)

-- It is out of memory for the op of the thread, which may take some: no label was added, nothing was told, and the same groups are
-- tracked. If the op calls no host, the state is as before.
pub record LacksThread {T H G : Type 0} (c : Component) (n : ℕ) (s t : Store T H G) (before after : List Label) : Type 0 where
  pub trace : after ≡ before
  pub listeners : t.listeners ≡ s.listeners
  pub tracked : TracksSame s.state t.state
  pub wants : takes_memory (op_of c n s.state.core) ≡ true
  pub same : calls_host (op_of c n s.state.core) ≡ false → t.state ≡ s.state

-- It is out of memory for the start whose entry is next.
pub record LacksStart {T H G : Type 0} (s t : Store T H G) (before after : List Label) : Type 0 where
  pub trace : after ≡ before
  pub listeners : t.listeners ≡ s.listeners
  pub tracked : TracksSame s.state t.state
  pub wants : StartsNext s.state.core

-- So it took its step; or it is out of memory; or the hook failed.
abbrev pub RunsTo : {T H G : Type 0} → (H → HostDef) → Component → ℕ → (s : Store T H G) → StepResult → (running : ℕ) →
    (t : Store T H G) → (before after : List Label) → Type 0
RunsTo course c n s q running t before after =
    MatchStep (RanThread course c n s q running t before after) ⊥ (LacksThread c n s t before after) (FailsThread course c n s t before after) q

-- A work was polled, and that was told; or the hook answered an error as it was.
abbrev pub PollsTold : {T H G : Type 0} → Turn → (running : ℕ) → (s : Store T H G) → StepResult → (t : Store T H G) →
    (before after : List Label) → Type 0
PollsTold p running s q t before after =
    TurnsAnyhow p s.state t.state q before after × ToldBeside s.state s.listeners p running t.state t.listeners

abbrev pub FailsPoll : {T H G : Type 0} → Turn → (s t : Store T H G) → (before after : List Label) → Type 0
FailsPoll p s t before after =
    FailsTold s.state.core p t.state s.listeners t.listeners × ((q : StepResult) × TurnsAnyhow p s.state t.state q before after)

-- An entry was taken, and that was told.
abbrev pub TakesTold : {T H G : Type 0} → Component → (trap_on_idle ended : Bool) → (running : ℕ) → (s : Store T H G) → StepResult →
    (t : Store T H G) → (before after : List Label) → Type 0
TakesTold c b ended running s q t before after =
    Takes c b ended s.state q t.state before after × ToldBeside s.state s.listeners (turn.Take ended) running t.state t.listeners

-- Nothing is there, and nothing was told.
abbrev pub TakesNothing : {T H G : Type 0} → Component → (trap_on_idle ended : Bool) → (s t : Store T H G) → (before after : List Label) → Type 0
TakesNothing c b ended s t before after =
    Takes c b ended s.state stepped.Nothing t.state before after × ((t.listeners ≡ s.listeners) × IsAsked t.state)

-- in each case
abbrev pub WorkPollsTo : {T H G : Type 0} → Turn → (s : Store T H G) → StepResult → (running : ℕ) → (t : Store T H G) →
    (before after : List Label) → Type 0
WorkPollsTo p s q running t before after =
    MatchStep (PollsTold p running s q t before after) ⊥ ⊥ (FailsPoll p s t before after) q

-- It answered one as the taking of an entry was told.
abbrev pub FailsTake : {T H G : Type 0} → Component → (trap_on_idle ended : Bool) → (s t : Store T H G) →
    (before after : List Label) → Type 0
FailsTake c b ended s t before after =
    FailsTold s.state.core (turn.Take ended) t.state s.listeners t.listeners
    × ((q : StepResult) × ((is_made q ≡ true) × Takes c b ended s.state q t.state before after))

-- in each case
abbrev pub TakesTo : {T H G : Type 0} → Component → (trap_on_idle ended : Bool) → (s : Store T H G) → StepResult → (running : ℕ) →
    (t : Store T H G) → (before after : List Label) → Type 0
TakesTo c b ended s q running t before after =
    MatchStep (TakesTold c b ended running s q t before after) (TakesNothing c b ended s t before after) (LacksStart s t before after)
    (FailsTake c b ended s t before after) q
