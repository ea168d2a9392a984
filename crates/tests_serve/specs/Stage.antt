-- What the tests run.
use Rattle.std.specs.Prelude.{IfSome, IsSome, None, false, length, true, ◌≡◌, ◌≤◌, ◌⊎◌}
use Rattle.task_loop.specs.LoopCalls.{callee_of}
use Rattle.task_loop.specs.declared.call.Func.{Func}
use Rattle.machine_data.specs.declared.component.Component.{Component}
use Rattle.machine_data.specs.declared.component.HostDef.{HostDef}
use Rattle.machine_data.specs.declared.records.Turn.TheVariants as turn
use Rattle.task_nursery.specs.Children.{is_open_call}
use Rattle.task_nursery.specs.Numbers.{count_where}
use Rattle.task_nursery.specs.Scope.{Scope}
use Rattle.machine_rules.specs.Scripts.{export_at}
use Rattle.core_primitives.specs.Groups.{IsAsked}
use Rattle.task_store.specs.Hosts.{HoldsHosts}
use Rattle.task_store.specs.declared.store.Store.{Store}
use Rattle.ops_turns.specs.Turn.{CoreInOrder, given, running_of}

-- the export is there, and takes one word
abbrev pub TakesOne : Component → Func → Type 0
TakesOne c f = IsSome (export_at c (callee_of f)) × IfSome (export_at c (callee_of f)) (λ e. 1 ≡ e.params)

-- between runs at main's turn, with few numbers given: calls may be started, and a run driven
pub record IsReady {T H G : Type 0} (course : H → HostDef) (c : Component) (s : Store T H G) : Type 0 where
  pub order : CoreInOrder c turn.Main s.state.core
  pub few : given s.state.core ≤ 8
  pub current : running_of s.state ≡ None
  pub hosts : HoldsHosts course s
  pub groups : IsAsked s.state

-- of at most one child, it takes no call: it is closed, or as many are open as may be
pub record TakesNone (n : Scope) : Type 0 where
  pub few : length n.children ≤ 1
  pub why : (n.closed ≡ true) ⊎ ((n.closed ≡ false) × (n.limit ≤ count_where is_open_call n.children))
