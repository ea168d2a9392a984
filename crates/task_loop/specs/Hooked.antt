-- What a run results in where the hook that is told of groups answers an error.
use Rattle.store_notices.specs.Runs.{AreGroupsBefore}
use Rattle.store_notices.specs.declared.tells.GroupsBefore.{GroupsBefore}
use Rattle.ops_state.specs.declared.error.TaskError.{TaskError}
use Rattle.ops_state.specs.declared.error.TaskError.TheVariants as task_error
use Rattle.std.specs.Prelude.{Bool, Err, List, Result, false, is_some, true, ◌≡◌, ◌≢◌, ◌⊎◌}
use Rattle.task_group.specs.Listeners.{AnsweredErr, Listeners}
use Rattle.task_loop.specs.Told.{StartFails, TellsPart, TellsSome}
use Rattle.machine_data.specs.Core.{Core, Main}
use Rattle.machine_data.specs.Write.{set_trapped}
use Rattle.machine_data.specs.declared.component.HostDef.{HostDef}
use Rattle.machine_data.specs.declared.label.Label.{Label}
use Rattle.machine_data.specs.declared.outcome.Outcome.{Outcome}
use Rattle.machine_data.specs.declared.outcome.Outcome.TheVariants as outcome
use Rattle.machine_data.specs.declared.records.Turn.{Turn}
use Rattle.machine_data.specs.declared.records.Turn.TheVariants as turn
use Rattle.machine_data.specs.declared.trap.Trap.TheVariants as trap
use Rattle.machine_rules.specs.Stalled.{Setting}
use Rattle.task_store.specs.Hosts.{HoldsHosts}
use Rattle.task_store.specs.declared.store.Store.{Store}
use Rattle.ops_turns.specs.StepResult.{Added}
use Rattle.ops_turns.specs.Turn.{Turns}
use Rattle.ops_turns.specs.declared.made.StepResult.{StepResult}
use Rattle.core_primitives.specs.Groups.{asked}
use Rattle.core_primitives.specs.StateView.{StateView, on_core}

-- The hook answered an error to a start by main. Main is as it was, and so is the store, but trapped, and all its groups are finished.
pub record MainFails {M T H G : Type 0} (course : H → HostDef) (m n : M) (s t : Store T H G) : Type 0 where
  pub main : n ≡ m
  pub state : t.state ≡ asked (on_core set_trapped s.state)
  pub hosts : HoldsHosts course t
  pub fails : StartFails s.state.core s.listeners t.listeners

-- it is out of memory for main's op, which may have told some notices
abbrev pub LacksOp : TaskError → Listeners → Listeners → Type 0
LacksOp e old new = (e ≡ task_error.NoMemory) × TellsSome old new

-- main's op answers no other error than lack of memory, and that of the hook
abbrev pub FailsMain : {M T H G : Type 0} → (H → HostDef) → TaskError → (m n : M) → (s t : Store T H G) → Type 0
FailsMain course e m n s t =
    LacksOp e s.listeners t.listeners ⊎ ((e ≡ task_error.Trap trap.HookFailed) × MainFails course m n s t)

-- unless the hook failed, which it can't where none listens
abbrev pub Unfailed : {A : Type 0} → (listens : Bool) → Result A TaskError → Type 0 → Type 0
Unfailed false r P = P
Unfailed true r P = (r ≡ Err (task_error.Trap trap.HookFailed) → ⊥) → P

-- unless the hook answered an error, which it can't where none listens
abbrev pub IfHookOk : (listens : Bool) → Listeners → Listeners → Type 0 → Type 0
IfHookOk false old new P = P
IfHookOk true old new P = (AnsweredErr old new → ⊥) → P

-- where there is no hook, which is so where none listens
abbrev pub Unhooked : (listens : Bool) → Listeners → Type 0 → Type 0
Unhooked false l P = P
Unhooked true l P = is_some l.hook ≡ false → P

-- unless the hook answered an error in a call on a store
abbrev pub HookIsOk : {T H G : Type 0} → (listens : Bool) → Store T H G → Store T H G → Type 0 → Type 0
HookIsOk listens s t P = IfHookOk listens s.listeners t.listeners P

-- where it answered one, the call is refused
abbrev pub HookFails : {T H G A : Type 0} → Store T H G → Store T H G → Result A TaskError → Type 0
HookFails s t r = AnsweredErr s.listeners t.listeners → r ≡ Err (task_error.Trap trap.HookFailed)

-- and so it is only where it answered one
abbrev pub HookCaused : {T H G A : Type 0} → Store T H G → Store T H G → Result A TaskError → Type 0
HookCaused s t r = r ≡ Err (task_error.Trap trap.HookFailed) → AnsweredErr s.listeners t.listeners

-- this is answered where the hook failed
abbrev pub hook_failed : Outcome
hook_failed = outcome.Trap trap.HookFailed

-- As main did its op, and nothing was added: main is as it was, and so is the store, but trapped.
pub record StopsMain (p : Turn) (m : Main) (s : StateView) (before after : List Label) (old new : Listeners) (n : Main) (t : StateView) :
    Type 0 where
  pub turn : p ≡ turn.Main
  pub trace : after ≡ before
  pub main : n ≡ m
  pub state : t ≡ asked (on_core set_trapped s)
  pub fails : StartFails s.core old new

-- A step of this turn was made, and the hook answered an error as it was told of it.
pub record TellsInPart (s : Core) (p : Turn) (u : StateView) (old new : Listeners) : Type 0 where
  pub asked : GroupsBefore
  pub is_asked : AreGroupsBefore s p asked
  -- the state that the step has left
  pub left : StateView
  pub known : left.tags.tracked ≡ s.groups
  pub told : TellsPart asked left u old new
  pub answered : AnsweredErr old new

-- The hook answered an error in this turn: as main did its op; or as it was told of the step of another turn.
pub record StopsTurn (x : Setting) (p : Turn) (m : Main) (s : StateView) (before after : List Label) (old new : Listeners) (n : Main)
    (t : StateView) : Type 0 where
  pub answered : AnsweredErr old new
  pub hook : is_some new.hook ≡ is_some old.hook
  pub stops : StopsMain p m s before after old new n t
      ⊎ ((p ≢ turn.Main)
      × (TellsInPart s.core p t old new × ((q : StepResult) × Added (λ made. Turns x p m s made n t) q before after)))
