-- What turns and the calls of a host keep in order.
use Rattle.std.specs.Prelude.{List, None, Some, length, true, ℕ, ◌≡◌}
use Rattle.machine_data.specs.Core.{Core}
use Rattle.machine_data.specs.Maps.{get}
use Rattle.machine_data.specs.Write.{set_trapped, take_result}
use Rattle.machine_data.specs.declared.component.Callee.{Callee}
use Rattle.machine_data.specs.declared.component.Component.{Component}
use Rattle.machine_data.specs.declared.component.HostDef.{HostDef}
use Rattle.machine_data.specs.declared.records.Turn.{Turn}
use Rattle.machine_data.specs.declared.records.WorkCaller.TheVariants as work_caller
use Rattle.machine_data.specs.declared.trap.Trap.{Trap}
use Rattle.machine_rules.specs.Calls.{work_queued}
use Rattle.machine_rules.specs.MainOps.{is_spawn, main_aborted, main_started, start_refusal, takes_words}
use Rattle.ops_turns.specs.Turn.{MakesStep, CoreInOrder}
use Rattle.ops_turns.specs.declared.made.MadeStep.{MadeStep}
use Rattle.core_primitives.specs.StateView.{StateView}

-- a step that was made from a state in order leads to one
abbrev pub MadeInOrder : Type 0
MadeInOrder =
    (c : Component) (p : Turn) (s : StateView) (made : MadeStep) (t : StateView) → CoreInOrder c p s.core → MakesStep c p s made t →
    CoreInOrder c made.turn t.core

-- a start by the host keeps order, whosever turn it is
abbrev pub StartInOrder : Type 0
StartInOrder =
    (c : Component) (p : Turn) (e : Callee) (words : List ℕ) (s : Core) → takes_words c e (length words) ≡ true → start_refusal s ≡ None →
    CoreInOrder c p s → CoreInOrder c p (main_started c e words s)

-- so does a start that is refused
abbrev pub RefusalInOrder : Type 0
RefusalInOrder =
    (c : Component) (p : Turn) (e : Callee) (words : List ℕ) (why : Trap) (s : Core) → takes_words c e (length words) ≡ true →
    start_refusal s ≡ Some why → CoreInOrder c p s → CoreInOrder c p (set_trapped s)

-- and the finish of a call that has a result
abbrev pub FinishInOrder : Type 0
FinishInOrder = (c : Component) (p : Turn) (k v : ℕ) (s : Core) → get s.results k ≡ Some v → CoreInOrder c p s → CoreInOrder c p (take_result k s)

-- so does a spawn by the host, of whatever host
abbrev pub SpawnInOrder : Type 0
SpawnInOrder =
    (c : Component) (p : Turn) (host : HostDef) (s : Core) → CoreInOrder c p s → CoreInOrder c p (work_queued work_caller.Spawn host None s)

-- and the abort of a spawned work
abbrev pub AbortInOrder : Type 0
AbortInOrder = (c : Component) (p : Turn) (i : ℕ) (s : Core) → is_spawn i s ≡ true → CoreInOrder c p s → CoreInOrder c p (main_aborted i s)
