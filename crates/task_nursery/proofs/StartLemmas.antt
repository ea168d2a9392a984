-- A start that was refused.
use Rattle.std.proofs.Common.{inr, refl}
use Rattle.std.specs.Prelude.{Err, List, None, Ok, Option, Result, Some, ℕ, ◌≡◌}
use Rattle.ops_state.specs.declared.error.TaskError.{TaskError}
use Rattle.ops_state.specs.declared.error.TaskError.TheVariants as faults
use Rattle.ops_calls.specs.MainCalls.{Starts}
use Rattle.store_notices.specs.Moves.{finishes}
use Rattle.task_group.specs.Listeners.{ToldListeners}
use Rattle.task_loop.specs.LoopCalls.{callee_of}
use Rattle.task_loop.specs.declared.call.Func.{Func}
use Rattle.machine_data.specs.Write.{set_trapped}
use Rattle.machine_data.specs.declared.component.Callee.{Callee}
use Rattle.machine_data.specs.declared.component.Component.{Component}
use Rattle.machine_data.specs.declared.trap.Trap.{Trap}
use Rattle.task_nursery.specs.Scope.{ScopeBegins, Scope, StopsCall, TellsStart, refusal_of}
use Rattle.machine_rules.specs.MainOps.{start_refusal}
use Rattle.task_store.specs.declared.store.Store.{Store}
use Rattle.core_primitives.specs.StateView.{StateView, on_core}

-- no host fails by a start
no_failure : (c : Component) (e : Callee) (words : List ℕ) (s t : StateView) (o : Option Trap) (i : ℕ) → Starts c e words s o (Err (faults.HostFailed i)) t → ⊥
no_failure c e words s t (Some why) i h = let clash = h.0 in absurd (cc)
no_failure c e words s t None i h = let clash = h.0 in absurd (cc)

pub begins_refused : {T H G : Type 0} (c : Component) (f : Func) (words : List ℕ) (n m : Scope) (s t : Store T H G) (e : TaskError) → StopsCall c f words s e t →
    ScopeBegins c f words n s (Err (refusal_of e)) m t
begins_refused c f words n m s t (faults.Trap why) h = h
begins_refused c f words n m s t faults.NoMemory h = inr h
begins_refused c f words n m s t (faults.HostFailed i) h = absurd (no_failure c (callee_of f) words s.state (on_core set_trapped s.state) (start_refusal s.state.core) i h.0)

pub tells_refused : {T H G : Type 0} (s t : Store T H G) (e : TaskError) → ToldListeners (finishes s.state.tags.tracked) s.listeners t.listeners → TellsStart (Err (refusal_of e)) s t
tells_refused s t (faults.Trap why) told = told
tells_refused s t faults.NoMemory told = (finishes s.state.tags.tracked, told)
tells_refused s t (faults.HostFailed i) told = (finishes s.state.tags.tracked, told)
