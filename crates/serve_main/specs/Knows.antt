-- What a server knows of its requests, of their calls and of the store.
use Rattle.serve_requests.specs.KeepsReplies.{KeepsReplies}
use Rattle.serve_requests.specs.Serving.{Asked, callee_named}
use Rattle.serve_requests.specs.declared.request.Request.{Request}
use Rattle.serve_main.specs.declared.server.ServerMain.{ServerMain}
use Rattle.std.specs.Prelude.{Bool, IfSome, IsSome, List, Some, false, length, slice_get, suc, true, ℕ, ◌≡◌, ◌≤◌}
use Rattle.task_loop.specs.declared.call.Func.{Func}
use Rattle.machine_data.specs.declared.component.Component.{Component}
use Rattle.task_nursery.specs.Children.{thread_in}
use Rattle.task_nursery.specs.Scope.{IsOf}
use Rattle.task_nursery.specs.declared.children.Kept.{Kept}
use Rattle.task_nursery.specs.declared.children.Kept.TheVariants as kept
use Rattle.machine_rules.specs.Scripts.{export_at}
use Rattle.ops_turns.specs.Later.{WorksLast}
use Rattle.task_nursery.specs.Later.{scope_later}
use Rattle.core_primitives.specs.StateView.{StateView}

abbrev pub func_of : Request → Func
func_of r = record { instance = record { index = r.instance }; export = r.export }

abbrev pub asked : ServerMain → Asked
asked m = record { limit = m.nursery.limit; requests = m.requests.now }

-- the component has the request's export, which takes as many words
pub record Takes (c : Component) (r : Request) : Type 0 where
  pub there : IsSome (export_at c (callee_named r))
  pub params : IfSome (export_at c (callee_named r)) (λ e. length r.params ≡ e.params)

-- that is so of each request
abbrev pub AllTaken : Component → List Request → Type 0
AllTaken c rs = (i : ℕ) (r : Request) → slice_get rs i ≡ Some r → Takes c r

abbrev pub Suits : ServerMain → Component → Type 0
Suits m c = AllTaken c m.requests.now

-- it was started as a call
abbrev pub IsCall : Kept → Type 0
IsCall (kept.Call f call) = Unit {0}
IsCall (kept.Returned v) = Unit {0}
IsCall _ = ⊥

pub record Knows (m : ServerMain) (s : StateView) : Type 0 where
  pub of : IsOf m.nursery s
  pub unclosed : m.nursery.closed ≡ false
  pub keeps : KeepsReplies thread_in IsCall m.requests.now m.nursery.children m.stages.items m.started m.replied m.due m.declined

-- that is so in later states, too
pub knows_later : (m : ServerMain) (s t : StateView) → WorksLast s t → Knows m s → Knows m t
knows_later m s t last knows = record { of = scope_later m.nursery s t last knows.of; unclosed = knows.unclosed; keeps = knows.keeps }
