-- What a step of a server needs, and what it results in.
use Rattle.serve_requests.specs.Serving.{Serves}
use Rattle.serve_main.specs.Knows.{Knows, Suits, asked}
use Rattle.serve_main.specs.declared.server.ServerMain.{ServerMain}
use Rattle.std.specs.Prelude.{MatchOption, None, Option, [], false, length, ◌+◌, ◌<◌, ◌^◌, ◌≡◌, ◌≤◌, ◌⊎◌}
use Rattle.task_group.specs.Listeners.{ToldListeners, errors_of}
use Rattle.task_loop.specs.AnswersOk.{is_refused}
use Rattle.task_loop.specs.Constants.{constants}
use Rattle.task_loop.specs.Told.{main_notices}
use Rattle.machine_data.specs.Core.{Core, Unscripted}
use Rattle.machine_data.specs.declared.component.Component.{Component}
use Rattle.machine_data.specs.declared.component.HostDef.{HostDef}
use Rattle.machine_data.specs.declared.records.Turn.TheVariants as turn
use Rattle.task_nursery.specs.Children.{has_ended, is_open_call}
use Rattle.task_nursery.specs.Numbers.{count_where, first_where}
use Rattle.core_primitives.specs.Groups.{IsAsked}
use Rattle.task_store.specs.Hosts.{HoldsHosts}
use Rattle.task_store.specs.declared.store.Store.{Store}
use Rattle.ops_turns.specs.Does.{label_of_step}
use Rattle.ops_turns.specs.Main.{Steps}
use Rattle.ops_turns.specs.Turn.{CoreInOrder, given, running_of}
use Rattle.ops_turns.specs.WellFormed.{IsWellFormed}
use Rattle.ops_turns.specs.declared.mains.MainStep.{MainStep}

-- main may take a step
pub record MayStep {T H G : Type 0} (course : H → HostDef) (c : Component) (m : ServerMain) (s : Store T H G) : Type 0 where
  pub covered : IsWellFormed c
  pub order : CoreInOrder c turn.Main s.state.core
  pub suits : Suits m c
  pub knows : Knows m s.state
  pub hosts : HoldsHosts course s
  pub groups : IsAsked s.state
  pub current : running_of s.state ≡ None
  pub given : given s.state.core + 4 < 2 ^ 61

-- It has taken this one, which serves the requests.
pub record HasStepResult {T H G : Type 0} (course : H → HostDef) (c : Component) (m : ServerMain) (s : Store T H G)
    (x : MainStep) (n : ServerMain) (t : Store T H G) : Type 0 where
  pub constants_stay : constants t ≡ constants s
  pub requests : n.requests ≡ m.requests
  pub limit : n.nursery.limit ≡ m.nursery.limit
  pub knows : Knows n t.state
  pub hosts : HoldsHosts course t
  pub groups : IsAsked t.state
  pub current : running_of t.state ≡ running_of s.state
  pub steps : Steps c [] Unscripted s.state.core x Unscripted t.state.core
  pub serves : Serves (asked m) m.stages.items s.state.core (label_of_step x) n.stages.items t.state.core
  pub told : ToldListeners (main_notices x s.state.core t.state.core) s.listeners t.listeners
  pub hook_is_ok : is_refused (label_of_step x) ≡ false → errors_of t.listeners ≡ errors_of s.listeners

-- Nothing was to be finished, and all is as before.
pub record HasWaited {T H G : Type 0} (course : H → HostDef) (c : Component) (m : ServerMain) (s : Store T H G)
    (n : ServerMain) (t : Store T H G) : Type 0 where
  pub may : MayStep course c n t
  pub same : n ≡ m
  pub state : t.state ≡ s.state
  pub listeners : t.listeners ≡ s.listeners
  pub constants_stay : constants t ≡ constants s

-- no call in the scope has returned
abbrev pub NoneReturned : ServerMain → Core → Type 0
NoneReturned m s = first_where (has_ended s) 1 m.nursery.children ≡ None

-- The least call that has ended is finished; none has ended, and all is as before.
abbrev pub FinishesNext : {T H G : Type 0} → (H → HostDef) → Component → ServerMain → Store T H G → Option MainStep → ServerMain →
    Store T H G → Type 0
FinishesNext course c m s result n t =
    MatchOption result (HasWaited course c m s n t × NoneReturned m s.state.core) (λ step. HasStepResult course c m s step n t)

-- as many calls are open as may be, or each request was started
abbrev pub IsBusy : ServerMain → Type 0
IsBusy m = (m.nursery.limit ≤ count_where is_open_call m.nursery.children) ⊎ (length m.requests.now ≤ m.started)

-- The next request is started or refused; none is to be started, and all is as before.
abbrev pub StartsNext : {T H G : Type 0} → (H → HostDef) → Component → ServerMain → Store T H G → Option MainStep → ServerMain →
    Store T H G → Type 0
StartsNext course c m s result n t =
    MatchOption result (HasWaited course c m s n t × IsBusy m) (λ step. HasStepResult course c m s step n t)
