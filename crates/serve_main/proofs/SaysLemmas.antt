-- A step of a server as the loop takes it.
use Rattle.serve_requests.specs.Serving.{Asked, Serves}
use Rattle.serve_requests.specs.declared.request.Request.{Request}
use Rattle.serve_main.specs.Knows.{AllTaken, Knows, Suits, asked}
use Rattle.serve_main.specs.Serves.{Does}
use Rattle.serve_main.specs.Steps.{HasStepResult, HasWaited, MayStep}
use Rattle.serve_main.specs.declared.server.ServerMain.{ServerMain}
use Rattle.std.proofs.Common.{ap, ap₂, subst, sym, ◌∙◌}
use Rattle.std.specs.Prelude.{List, [], false, ℕ, ◌≡◌}
use Rattle.task_group.specs.Listeners.{Listeners, ToldListeners, errors_of}
use Rattle.task_loop.specs.HasRun as loop
use Rattle.task_loop.specs.AnswersOk.{is_refused}
use Rattle.task_loop.specs.Says.{Says, unscripted}
use Rattle.task_loop.specs.Told.{main_notices}
use Rattle.machine_data.specs.Core.{Unscripted}
use Rattle.machine_data.specs.declared.component.Component.{Component}
use Rattle.machine_data.specs.declared.component.HostDef.{HostDef}
use Rattle.task_store.specs.declared.store.Store.{Store}
use Rattle.ops_turns.specs.Does.{label_of_step}
use Rattle.ops_turns.specs.Main.{Steps}
use Rattle.ops_turns.specs.Turn.{running_of}
use Rattle.ops_turns.specs.declared.mains.MainStep.{MainStep}
use Rattle.core_primitives.specs.StateView.{StateView}

abbrev pub server_says : Says ServerMain
server_says = unscripted Suits Knows Does

same_asked : (m n : ServerMain) → n.nursery.limit ≡ m.nursery.limit → n.requests.now ≡ m.requests.now → asked n ≡ asked m
same_asked m n limit requests = let make : ℕ → List Request → Asked = λ i rs. record { limit = i; requests = rs } in ap₂ make limit requests

module _ {T H G : Type 0} (course : H → HostDef) (c : Component) where
  pub may_serve : (m : ServerMain) (s : Store T H G) → loop.MayStep server_says course c m s → MayStep course c m s
  may_serve m s may = record {
    covered = may.covered;
    order = may.order;
    suits = may.suits;
    knows = may.knows;
    hosts = may.works;
    groups = may.asked;
    current = may.idle;
    given = may.few;
  }

  pub served : (m : ServerMain) (s : Store T H G) (x : MainStep) (n : ServerMain) (t : Store T H G) → Suits m c → HasStepResult course c m s x n t → loop.HasStepResult server_says course c x m s n t
  served m s x n t suits did = record {
    steps = did.steps;
    does = record { asked_is = same_asked m n did.limit (ap (λ r. r.now) did.requests); serves = did.serves };
    told = did.told;
    hook_is_ok = did.hook_is_ok;
    idle = did.current;
    suits = subst (λ (rs : List Request). AllTaken c rs) (sym (ap (λ r. r.now) did.requests)) suits;
    knows = did.knows;
    works = did.hosts;
    asked = did.groups;
  }

  -- what is done after nothing was to be finished or started
  pub after_wait : (m : ServerMain) (s : Store T H G) (k : ServerMain) (u : Store T H G) → HasWaited course c m s k u → (x : MainStep) (n : ServerMain) (t : Store T H G) → HasStepResult course c k u x n t → HasStepResult course c m s x n t
  after_wait m s k u w x n t did = record {
    constants_stay = did.constants_stay ∙ w.constants_stay;
    requests = did.requests ∙ ap (λ q. q.requests) w.same;
    limit = did.limit ∙ ap (λ q. q.nursery.limit) w.same;
    knows = did.knows;
    hosts = did.hosts;
    groups = did.groups;
    current = did.current ∙ ap running_of w.state;
    steps = subst (λ (v : StateView). Steps c [] Unscripted v.core x Unscripted t.state.core) w.state did.steps;
    serves = subst (λ (q : ServerMain). Serves (asked q) q.stages.items s.state.core (label_of_step x) n.stages.items t.state.core) w.same
        (subst (λ (v : StateView). Serves (asked k) k.stages.items v.core (label_of_step x) n.stages.items t.state.core) w.state did.serves);
    told = subst (λ (l : Listeners). ToldListeners (main_notices x s.state.core t.state.core) l t.listeners) w.listeners
        (subst (λ (v : StateView). ToldListeners (main_notices x v.core t.state.core) u.listeners t.listeners) w.state did.told);
    hook_is_ok = subst (λ (l : Listeners). is_refused (label_of_step x) ≡ false → errors_of t.listeners ≡ errors_of l) w.listeners did.hook_is_ok;
  }

  pub waited_on : (m : ServerMain) (s : Store T H G) (k : ServerMain) (u : Store T H G) → HasWaited course c m s k u → (n : ServerMain) (t : Store T H G) → HasWaited course c k u n t → HasWaited course c m s n t
  waited_on m s k u w n t v = record {
    may = v.may;
    same = v.same ∙ w.same;
    state = v.state ∙ w.state;
    listeners = v.listeners ∙ w.listeners;
    constants_stay = v.constants_stay ∙ w.constants_stay;
  }
